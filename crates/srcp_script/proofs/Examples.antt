-- Worked lines of scripts, computed by the definitions.
use Rattle.std.proofs.Common.{◌≡◌, [], ◌∷◌, Ok, Err, codes, refl}
use Rattle.srcp_core.specs.declared.event.Event.TheVariants.{Open, Bytes, Room, At, Shut}
use Rattle.srcp_script.specs.Script.{script, event_of}
use Rattle.srcp_script.specs.declared.script.Cause.TheVariants as cause

stored_run : script (codes "open\nroom 1 1000\nbytes 1 GO\\nGET 1 POWER\\n\nroom 1 1000\n")
    ≡ Ok (Open ∷ Room 1 1000 ∷ Bytes 1 (codes "GO\nGET 1 POWER\n") ∷ Room 1 1000 ∷ [])
stored_run = refl

last_line_may_lack_lf : script (codes "# a script\n\nat 007\nshut 2") ≡ Ok (At 7 ∷ Shut 2 ∷ [])
last_line_may_lack_lf = refl

escapes_are_read : script (codes "bytes 1 a b \\\\n\\x0A\\t\\r") ≡ Ok (Bytes 1 (codes "a b \\n\n\t\r") ∷ [])
escapes_are_read = refl

number_is_wrong : script (codes "shut x\n") ≡ Err (record { line = 1; cause = cause.Number })
number_is_wrong = refl

escape_is_cut : script (codes "bytes 1 \\x0") ≡ Err (record { line = 1; cause = cause.Escape })
escape_is_cut = refl

number_is_missing : script (codes "room 1") ≡ Err (record { line = 1; cause = cause.Number })
number_is_missing = refl

first_fault_is_told : script (codes "open\n# none\nbytes 0 \\q\nOPEN\n") ≡ Err (record { line = 3; cause = cause.Number })
first_fault_is_told = refl

space_at_the_end : event_of (codes "open ") ≡ Err cause.Number
space_at_the_end = refl

space_at_the_front : event_of (codes " open") ≡ Err cause.Word
space_at_the_front = refl

piece_may_be_empty : event_of (codes "bytes 1 ") ≡ Ok (Bytes 1 [])
piece_may_be_empty = refl

space_is_missing : event_of (codes "bytes 1") ≡ Err cause.Number
space_is_missing = refl
