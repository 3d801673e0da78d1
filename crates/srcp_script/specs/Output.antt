-- What is printed of a run.
use Rattle.std.specs.Prelude.{ℕ, List, [], ◌∷◌, ◌++◌, flat_map, length, if◌then◌else◌, codes, decimal}
use Rattle.std.specs.List.{enumerate_from}
use Rattle.srcp_text.specs.Marks.{rest}
use Rattle.srcp_text.specs.Words.{is_empty}
use Rattle.srcp_info.specs.Client.{listing}
use Rattle.srcp_info.specs.Line.{spaced}
use Rattle.srcp_info.specs.declared.change.Row.{Row}
use Rattle.srcp_rules.specs.State.{shown_rows}
use Rattle.srcp_core.specs.declared.record.ConnRecord.{ConnRecord}
use Rattle.srcp_core.specs.declared.record.CoreFault.{CoreFault}
use Rattle.srcp_core.specs.declared.record.CoreFault.TheVariants as fault
use Rattle.srcp_core.specs.declared.record.Finish.{Finish}
use Rattle.srcp_core.specs.declared.record.Finish.TheVariants as finish
use Rattle.srcp_core.specs.declared.record.Record.{Record}
use Rattle.srcp_core.specs.declared.record.Refusal.{Refusal}

-- the bytes of a number of 64 bits and a space, at most
abbrev pub longest_count : ℕ
longest_count = 21

-- how a connection stands at the end
abbrev pub finish_word : Finish → List ℕ
finish_word finish.Live = codes "open"
finish_word finish.Closing = codes "closing"
finish_word finish.Overrun = codes "overrun"
finish_word finish.Shut = codes "shut"

-- why an event was refused
abbrev pub fault_word : CoreFault → List ℕ
fault_word fault.Full = codes "Full"
fault_word fault.Memory = codes "Memory"
fault_word fault.NoSuch = codes "NoSuch"
fault_word fault.Busy = codes "Busy"
fault_word fault.PieceTooLong = codes "PieceTooLong"
fault_word fault.Closing = codes "Closing"

-- the bytes, and an LF if the last line has none
abbrev pub ended : List ℕ → List ℕ
ended bytes = if is_empty (rest bytes) then bytes else bytes ++ codes "\n"

-- a connection with its number: how many bytes it was sent, and how it stands
abbrev pub connection_line : ℕ → ConnRecord → List ℕ
connection_line number conn =
    spaced (codes "connection" ∷ decimal number ∷ decimal (length conn.sent) ∷ finish_word conn.finish ∷ [])

-- and what it was sent
abbrev pub connection_lines : ℕ × ConnRecord → List ℕ
connection_lines (number, conn) = connection_line number conn ++ ended conn.sent

-- an event that was refused, by its number
abbrev pub refusal_line : Refusal → List ℕ
refusal_line refusal = spaced (codes "refused" ∷ decimal refusal.event ∷ fault_word refusal.fault ∷ [])

-- how many rows there are
abbrev pub rows_line : List Row → List ℕ
rows_line rows = spaced (codes "rows" ∷ decimal (length rows) ∷ [])

-- what follows the connections of a run: the refused events, and the rows
abbrev pub printed_end : Record → List ℕ
printed_end run = flat_map refusal_line run.refused ++ rows_line run.rows ++ listing (shown_rows run.rows)

-- what is printed of a run: each connection, the refused events, and the rows
abbrev pub printed : Record → List ℕ
printed run = flat_map connection_lines (enumerate_from 1 run.connections) ++ printed_end run
