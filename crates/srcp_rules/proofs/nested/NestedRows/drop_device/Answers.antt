use Rattle.srcp_rules.proofs.Names.{sym, ap, subst, ◌∙◌, without, Kept, bus_rows, listed}
use Rattle.srcp_rules.proofs.NestedLaws.{Stays, changed-bus, drops_bus, found_bus, layout-set, stays-without, without-no_bus}
use Rattle.srcp_rules.proofs.nested.NestedRows.drop_device.Goals as goal

pub drop_device-requires-clause-bus : goal.drop_device-requires-clause-bus
drop_device-requires-clause-bus c = found_bus c.self.invariant c.in-Some.ensures.value

pub invariant_of-self-2 : goal.invariant_of-self-2
invariant_of-self-2 c =
    let device = c.args.device in
    let held = c.get_mut.follows.holds c.drop_device.new.self in
    layout-set c.self.invariant _ c.drop_device.new.self c.in-Some.ensures.value held.0 held.4 c.drop_device.ensures.bus
    (subst (Stays c.self.invariant)
    (sym (changed-bus c.self.invariant _ c.drop_device.new.self c.in-Some.ensures.value held.0 held.4 (drops_bus device)
    c.drop_device.ensures.rows))
    (stays-without c.self.invariant device c.requires))

pub returns-clause-rows : goal.returns-clause-rows
returns-clause-rows c =
    let device = c.args.device in
    let held = c.get_mut.follows.holds c.drop_device.new.self in
    changed-bus c.self.invariant _ c.drop_device.new.self c.in-Some.ensures.value held.0 held.4 (drops_bus device)
    c.drop_device.ensures.rows
    ∙ ap (λ (kept : Kept). without device kept.state) c.self.view_is

pub returns-in_default-clause-rows : goal.returns-in_default-clause-rows
returns-in_default-clause-rows c =
    let device = c.args.device in
    ap (λ map. listed bus_rows map.entries) c.get_mut.follows.holds-at-none
    ∙ without-no_bus c.self.invariant device c.in_default.ensures.value
    ∙ ap (λ (kept : Kept). without device kept.state) c.self.view_is
