-- A run of a script's events.
use Rattle.std.proofs.Common.{◌≡◌, ◌∙◌, ℕ, ◌+◌, List, [], ◌∷◌, ◌++◌, map, Ok, refl, ap, sym}
use Rattle.std.specs.List.{enumerate_from}
use Rattle.std.specs.Prelude.{flat_map}
use Rattle.srcp_grammar.specs.declared.layout.Bus.{Bus}
use Rattle.srcp_core.specs.Connection.{recorded}
use Rattle.srcp_core.specs.Course.{World, course, history, state}
use Rattle.srcp_core.specs.Promised.{IsPromised, IsPromisedOutline, outline, connection_outline}
use Rattle.srcp_core.specs.Under.{all_under, recorded_step}
use Rattle.srcp_core.specs.declared.event.Event.{Event}
use Rattle.srcp_core.specs.declared.record.ConnRecord.{ConnRecord}
use Rattle.srcp_core.specs.declared.record.Record.{Record}
use Rattle.srcp_core.proofs.Agreement.MemoryAnswers.{gives_as_if}
use Rattle.srcp_script.specs.Output.{connection_lines, printed, printed_end}
use Rattle.srcp_tool.specs.Output.{replayed, run_of}

-- if no memory was refused it gives what it gives with memory for all
pub run_is : (buses : List Bus) (events : List Event) (told : Record) → IsPromised buses events told → told.denied ≡ 0
    → told ≡ run_of buses events
run_is buses events told p d =
    let w : World = course buses (all_under p.grants events) in
    ap (λ steps. record told { steps = steps }) p.is.steps
    ∙ ap (λ connections. record told { steps = map recorded_step w.steps; connections = connections }) p.is.connections
    ∙ ap (λ refused.
    record told { steps = map recorded_step w.steps; connections = map (recorded (history buses w)) w.connections; refused = refused })
    p.is.refused
    ∙ ap (λ rows.
    record told {
      steps = map recorded_step w.steps;
      connections = map (recorded (history buses w)) w.connections;
      refused = w.refused;
      rows = rows;
    })
    p.is.rows
    ∙ ap (λ denied.
    record {
      steps = map recorded_step w.steps;
      connections = map (recorded (history buses w)) w.connections;
      refused = w.refused;
      rows = state buses w;
      denied = denied;
    })
    d
    ∙ ap (λ v.
    record {
      steps = map recorded_step v.steps;
      connections = map (recorded (history buses v)) v.connections;
      refused = v.refused;
      rows = state buses v;
      denied = 0;
    })
    (gives_as_if buses p.grants events (p.given d))

lines_same : (number : ℕ) (tolds : List ConnRecord)
    → flat_map connection_lines (enumerate_from number (map connection_outline tolds))
    ≡ flat_map connection_lines (enumerate_from number tolds)
lines_same number [] = refl
lines_same number (one ∷ tolds) = ap (λ text. connection_lines (number, one) ++ text) (lines_same (number + 1) tolds)

-- a record prints the same without its history
printed_same : (run : Record) → printed (outline run) ≡ printed run
printed_same run = ap (λ text. text ++ printed_end run) (lines_same 1 run.connections)

-- what is printed of the run is what the script prints
pub replays : (buses : List Bus) (events : List Event) (told : Record) (input : List ℕ) → IsPromisedOutline buses events told
    → told.denied ≡ 0
    → ((buses : List Bus) → replayed buses input ≡ Ok (printed (run_of buses events))) → replayed buses input ≡ Ok (printed told)
replays buses events told input p granted reads =
    let none : p.whole.denied ≡ 0 = sym (ap (λ (run : Record). run.denied) p.is) ∙ granted in
    reads buses ∙ ap (λ run. Ok (printed run)) (sym (run_is buses events p.whole p.promised none))
    ∙ ap Ok (sym (ap printed p.is ∙ printed_same p.whole))
