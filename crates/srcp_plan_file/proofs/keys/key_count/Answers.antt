-- A table has as many keys as entries.
use Rattle.std.proofs.Common.{◌≡◌, ◌∙◌, List, [], ◌∷◌, length, refl, arith}
use Rattle.std.specs.Prelude.{String}
use Rattle.std.specs.declared.alloc.Global.{Global}
use Rattle.toml.specs.View.{members_view}
use Rattle.toml.specs.declared.value.Value.{Value}
use Rattle.srcp_plan_file.specs.Keys.{key_count}
use Rattle.srcp_plan_file.proofs.keys.key_count.Goals as goal

counted : (entries : List (String Global × Value)) → length entries ≡ key_count (members_view entries)
counted [] = refl
counted (entry ∷ entries) = omega (arith, counted entries)

pub returns : goal.returns
returns c = c.len.ensures.len ∙ counted c.args.members.now.entries
