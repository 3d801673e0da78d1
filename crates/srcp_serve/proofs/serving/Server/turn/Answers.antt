use Rattle.srcp_serve.proofs.TurnsFollow.{makes_turn}
use Rattle.srcp_serve.proofs.DoorIsCalled.{calls_then, turn_begins, turn_goes_on}
use Rattle.srcp_serve.proofs.serving.Server.turn.Goals as goal

pub returns-clause-calls : goal.returns-clause-calls
returns-clause-calls g c =
    calls_then _ _ _ turn_goes_on _ _ _ (calls_then _ _ _ turn_begins _ _ _ c.take_moment.ensures.calls c.accept_one-opens.ensures.calls)
    c.visit_slots.ensures.calls

pub returns-clause-course : goal.returns-clause-course
returns-clause-course g c =
    makes_turn _ _ _ _ _
    _ _ _ _
    c.args.self.now.slots c.accept_one-opens.new.self.slots c.visit_slots.new.self.slots c.take_moment.ensures.course
    c.accept_one-opens.ensures.calls.asks
    (rw c.take_moment.ensures.slots at c.accept_one-opens.ensures.course)
    c.visit_slots.ensures.calls.asks c.visit_slots.ensures.course (returns-clause-calls g c).asks
