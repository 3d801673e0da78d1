use Rattle.std.proofs.Common.{◌≡◌, ◌+◌, ◌≤◌, length}
use Rattle.std.specs.Option.{option_copied, option_map_or}
use Rattle.srcp_script.specs.Script.{script, parts_behind}
use Rattle.srcp_script.proofs.Scripts.{behind_events, events_from}
use Rattle.srcp_script.proofs.script.read_script.Given as goal

abbrev pub invariant-loop-rest : goal.invariant-loop-rest
invariant-loop-rest l = record {
  same : script l.bytes ≡ behind_events l.events.items (events_from l.line_number (parts_behind 10 (option_copied l.rest)));
  within : l.line_number + option_map_or (λ rest. length rest.now + 1) l.rest 0 ≤ length l.bytes + 1;
}

abbrev pub decreases-loop-rest : goal.decreases-loop-rest
decreases-loop-rest l = option_map_or (λ rest. length rest.now + 1) l.rest 0
