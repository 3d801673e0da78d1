use Rattle.toml.proofs.Views.{table_get}
use Rattle.srcp_plan_file.proofs.element.entry_at.Goals as goal

pub returns : goal.returns
returns c = table_get c.get.result c.args.name.now c.args.legend.now.entries c.get.ensures.value
