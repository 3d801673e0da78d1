use Rattle.std.proofs.Common.{◌≡◌, [], drop}
use Rattle.srcp_plan_file.specs.Document.{drawn_turnouts}
use Rattle.srcp_plan_file.proofs.document.route.drawn_turnouts.Given as goal

abbrev pub invariant-loop-each : goal.invariant-loop-each
invariant-loop-each l =
    drawn_turnouts l.own l.number l.turnouts.items (drop l.each-index l.found)
    ≡ drawn_turnouts l.own l.number [] l.found
