-- A script line by line.
use Rattle.std.proofs.Common.{◌≡◌, ℕ, ◌+◌, false, List, [], ◌∷◌, ◌++◌, refl, sym, ap, append_assoc}
use Rattle.std.specs.Prelude.{Result, Ok, Err, filter, not}
use Rattle.std.specs.List.{enumerate_from}
use Rattle.srcp_core.specs.declared.event.Event.{Event}
use Rattle.srcp_script.specs.Script.{◌>>=◌, is_skipped, event_of, events_in}
use Rattle.srcp_script.specs.declared.script.ScriptFault.{ScriptFault}

-- these events, and then those
abbrev pub behind_events : List Event → Result (List Event) ScriptFault → Result (List Event) ScriptFault
behind_events events (Ok more) = Ok (events ++ more)
behind_events events (Err fault) = Err fault

-- what the lines of a text say that follow so many others
abbrev pub events_from : (before : ℕ) → List (List ℕ) → Result (List Event) ScriptFault
events_from before parts = events_in (filter (λ line. not (is_skipped line.1)) (enumerate_from (before + 1) parts))

pub line_read : (before : ℕ) (line : List ℕ) (lines : List (List ℕ)) (events : List Event) (event : Event) → is_skipped line ≡ false
    → event_of line ≡ Ok event
    → behind_events events (events_from before (line ∷ lines)) ≡ behind_events (events ++ event ∷ []) (events_from (before + 1) lines)
line_read before line lines events event counts reads = rw (counts, reads) (pushed (events_from (before + 1) lines))
  where
    pushed : (more : Result (List Event) ScriptFault)
        → behind_events events (more >>= (λ rest. Ok (event ∷ rest))) ≡ behind_events (events ++ event ∷ []) more
    pushed (Ok rest) = ap Ok (sym (append_assoc events (event ∷ []) rest))
    pushed (Err fault) = refl
