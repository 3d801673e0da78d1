use Rattle.std.proofs.Common.{◌∙◌, ap}
use Rattle.toml.proofs.Views.{table_get}
use Rattle.toml.specs.Data.{get_member}
use Rattle.toml.specs.View.{table_view}
use Rattle.srcp_layout_file.proofs.member.value_at.Goals as goal

pub returns : goal.returns
returns g c =
    table_get c.get.result c.name.result.now c.args.members.now.entries c.get.ensures.value
    ∙ ap (λ key. get_member key (table_view c.args.members.now)) c.name.ensures
