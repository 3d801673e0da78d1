use Rattle.srcp_log.proofs.AcceptsAreAsked.{asked_first}
use Rattle.srcp_log.proofs.WorkIsDone.{done_first}
use Rattle.srcp_log.proofs.TimesGoOn.{timed_first}
use Rattle.srcp_log.proofs.NumbersDiffer.{named_first}
use Rattle.std.proofs.Common.{◌≡◌, [], None, ap, arith, length}
use Rattle.srcp_sockets.proofs.sockets.Sockets.new.Goals as goal

pub invariant_of-result-clause-named : goal.invariant_of-result-clause-named
invariant_of-result-clause-named g c = named_first c.new.result.log.steps c.new.ensures.log

pub invariant_of-result-clause-timed : goal.invariant_of-result-clause-timed
invariant_of-result-clause-timed g c = timed_first c.new.result.log.steps c.args.turn c.requires.turn c.new.ensures.log

pub invariant_of-result-clause-asked : goal.invariant_of-result-clause-asked
invariant_of-result-clause-asked g c = asked_first c.new.result.log.steps c.new.ensures.log

pub invariant_of-result-clause-ending : goal.invariant_of-result-clause-ending
invariant_of-result-clause-ending g c k d lt =
    let none : c.in_ok-with_capacity.field-0.items ≡ [] = c.in_ok-with_capacity.ensures.items in
    absurd (omega (arith, ap length none, lt))

pub invariant_of-result-clause-done : goal.invariant_of-result-clause-done
invariant_of-result-clause-done g c = done_first None c.args.turn.timekeeper.wall c.args.turn.timekeeper.start c.new.result.log.steps
    c.new.ensures.log
