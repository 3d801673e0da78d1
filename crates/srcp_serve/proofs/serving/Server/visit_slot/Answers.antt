use Rattle.std.proofs.Common.{None, sym, ◌∙◌}
use Rattle.srcp_serve.proofs.SlotsFollow.{slot_free, slot_goes, slot_stays}
use Rattle.srcp_serve.proofs.serving.Server.visit_slot.Goals as goal

pub returns-in_default-clause-course : goal.returns-in_default-clause-course
returns-in_default-clause-course g c =
    let s = c.args.self.now in
    slot_free _ None _ _ s.slots (sym c.client.ensures ∙ c.in_default.is)

pub returns-then-not-visit-clause-course : goal.returns-then-not-visit-clause-course
returns-then-not-visit-clause-course g c =
    rw c.free.ensures (rw c.visit.ensures.slots (slot_goes c.args.slot None c.in-Some.client c.args.core.now c.visit.new.core
    (g.D.Door.trace c.args.self.now.door.now) (g.D.Door.trace c.visit.new.self.door.now) c.args.self.now.slots
    (sym c.client.ensures ∙ c.in-Some.is) c.if-not-visit.ensures.course))

pub returns-else-not-visit-clause-course : goal.returns-else-not-visit-clause-course
returns-else-not-visit-clause-course g c =
    rw c.visit.ensures.slots (slot_stays c.args.slot None c.in-Some.client c.args.core.now c.visit.new.core
    (g.D.Door.trace c.args.self.now.door.now) (g.D.Door.trace c.visit.new.self.door.now) c.args.self.now.slots
    (sym c.client.ensures ∙ c.in-Some.is) c.if-not-visit.ensures.course)
