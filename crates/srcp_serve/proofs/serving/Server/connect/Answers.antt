use Rattle.std.proofs.Common.{false, ◌∙◌, sym}
use Rattle.srcp_serve.proofs.AcceptedPeersConnect.{connects_refused, connects_done, connects_without_slot}
use Rattle.srcp_serve.proofs.serving.Server.connect.Goals as goal

pub returns-in_default-clause-course : goal.returns-in_default-clause-course
returns-in_default-clause-course g c =
    rw c.close.ensures.slots
    (connects_refused c.args.peer c.args.core.now c.connect.new.self c.in_default.field-0
    (g.D.Door.trace c.args.self.now.door.now) (g.D.Door.trace c.close.new.self.door.now) c.args.self.now.slots
    c.close.ensures.course c.in_default.ensures.not_opened c.in_default.ensures.refuses)

pub returns-in_default-first_free-clause-course : goal.returns-in_default-first_free-clause-course
returns-in_default-first_free-clause-course g c =
    rw c.disconnect.ensures.slots
    (connects_without_slot c.args.peer false c.args.core.now c.disconnect.new.core
    (g.D.Door.trace c.args.self.now.door.now) (g.D.Door.trace c.disconnect.new.self.door.now) c.args.self.now.slots
    c.in-Ok.ensures.few c.first_free.ensures.all (sym c.first_free.ensures.first ∙ c.in_default-first_free.is))

pub returns-clause-course : goal.returns-clause-course
returns-clause-course g c =
    let s = c.args.self.now in
    let trace = g.D.Door.trace _ in
    rw c.give.ensures (connects_done _ _ _ _ _ trace s.slots c.in-Ok.ensures.opened c.in-Ok.ensures.accepts
    c.in-Ok.ensures.fresh (sym c.first_free.ensures.first ∙ c.in-Some.is))
