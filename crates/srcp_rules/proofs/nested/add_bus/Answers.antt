use Rattle.std.proofs.Common.{◌∙◌}
use Rattle.srcp_rules.proofs.NestedLaws.{insert_entry-last}
use Rattle.srcp_rules.proofs.nested.add_bus.Goals as goal

pub returns-in-Ok-clause-entries : goal.returns-in-Ok-clause-entries
returns-in-Ok-clause-entries c = c.in-Ok.ensures.entries ∙ insert_entry-last c.args.number c.args.rows c.args.buses.now.entries c.requires
