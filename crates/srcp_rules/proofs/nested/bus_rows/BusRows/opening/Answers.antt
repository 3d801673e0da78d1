use Rattle.std.proofs.Common.{sym, subst}
use Rattle.std.specs.Option.{option_to_list}
use Rattle.srcp_info.specs.declared.key.Group.TheVariants as group
use Rattle.srcp_rules.specs.Nested.{AreOfGroup}
use Rattle.srcp_rules.proofs.BusRowsLaws.{fb_of_group, power_of_group}
use Rattle.srcp_rules.proofs.DeviceLaws.{no_devices}
use Rattle.srcp_rules.proofs.nested.bus_rows.BusRows.opening.Goals as goal

pub returns-clause-bus : goal.returns-clause-bus
returns-clause-bus c =
    let bus = c.args.bus.now in
    let n = bus.number in
    record {
      sessions = subst (AreOfGroup n group.Session) (sym c.new.ensures.items) (record { rising = tt; each = tt });
      power = subst (λ row. AreOfGroup n group.Power (option_to_list row)) (sym c.power_row.ensures) (power_of_group n bus.power);
      locomotives = no_devices n group.Gl c.new-2.result c.new-2.ensures;
      accessories = no_devices n group.Ga c.new-3.result c.new-3.ensures;
      feedback = subst (AreOfGroup n group.Fb) (sym c.in_ok-feedback.ensures) (fb_of_group n bus.fb_ports);
      locomotive_locks = no_devices n group.LockGl c.new-4.result c.new-4.ensures;
      accessory_locks = no_devices n group.LockGa c.new-5.result c.new-5.ensures;
    }
