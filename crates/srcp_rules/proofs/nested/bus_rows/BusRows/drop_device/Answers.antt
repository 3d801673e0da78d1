use Rattle.std.proofs.Common.{refl, sym, ap, subst, ◌∙◌, true≢false, inl, inr}
use Rattle.srcp_info.specs.declared.key.Group.TheVariants as group
use Rattle.srcp_info.specs.WellFormed.{can_go}
use Rattle.srcp_rules.specs.declared.nested.bus_rows.BusRows.{BusRows}
use Rattle.srcp_rules.specs.Nested.{AreOfGroup}
use Rattle.srcp_rules.proofs.BusRowsLaws.{of_group-without, with_sessions, without-group}
use Rattle.srcp_rules.proofs.nested.bus_rows.BusRows.drop_device.Goals as goal

pub returns-in-Session : goal.returns-in-Session
returns-in-Session c =
    let device = c.args.device in
    let after : BusRows = record c.args.self.now { sessions = c.drop_in.new.rows } in
    record {
      rows = without-group c.requires.bus device after c.in-Session.is refl c.drop_in.ensures;
      bus =
          with_sessions c.requires.bus c.drop_in.new.rows
          (subst (AreOfGroup device.bus group.Session) (sym c.drop_in.ensures)
          (of_group-without device.bus group.Session device c.args.self.now.sessions.items c.requires.bus.sessions));
    }

pub returns-in-Gl-clause-rows : goal.returns-in-Gl-clause-rows
returns-in-Gl-clause-rows c =
    without-group c.requires.bus c.args.device (record c.args.self.now { locomotives = c.drop_device.new.self })
    c.in-Gl.is refl c.drop_device.ensures.rows

pub returns-in-Ga-clause-rows : goal.returns-in-Ga-clause-rows
returns-in-Ga-clause-rows c =
    without-group c.requires.bus c.args.device (record c.args.self.now { accessories = c.drop_device-in-Ga.new.self })
    c.in-Ga.is refl c.drop_device-in-Ga.ensures.rows

pub returns-in-LockGl-clause-rows : goal.returns-in-LockGl-clause-rows
returns-in-LockGl-clause-rows c =
    without-group c.requires.bus c.args.device (record c.args.self.now { locomotive_locks = c.drop_device-in-LockGl.new.self })
    c.in-LockGl.is refl c.drop_device-in-LockGl.ensures.rows

pub returns-in-LockGa-clause-rows : goal.returns-in-LockGa-clause-rows
returns-in-LockGa-clause-rows c =
    without-group c.requires.bus c.args.device (record c.args.self.now { accessory_locks = c.drop_device-in-LockGa.new.self })
    c.in-LockGa.is refl c.drop_device-in-LockGa.ensures.rows

-- the power and the feedback ports never go
pub returns-in-Power-clause-rows : goal.returns-in-Power-clause-rows
returns-in-Power-clause-rows c = absurd
    (elim c.in-Power.is [
      | inl power ↦ true≢false (sym c.requires.goes ∙ ap can_go power)
      | inr fb ↦ true≢false (sym c.requires.goes ∙ ap can_go fb)
    ])
