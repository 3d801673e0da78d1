use Rattle.srcp_rules.proofs.Names.{rules, sym, ◌∙◌}
use Rattle.srcp_rules.proofs.DeviceLaws.{first_after, none_after}
use Rattle.srcp_rules.proofs.nested.devices.Devices.row_after.Goals as goal

pub returns-in_default : goal.returns-in_default
returns-in_default g c =
    sym (none_after c.args.bus c.args.group c.args.self.now c.requires.devices c.args.cursor (search rules)
    (sym c.if-has_reached.ensures))

pub returns-in_default-2 : goal.returns-in_default-2
returns-in_default-2 g c =
    c.first.ensures
    ∙ sym (first_after c.args.bus c.args.group c.args.self.now c.requires.devices c.args.cursor (search rules)
    (sym c.if-has_reached.ensures))
