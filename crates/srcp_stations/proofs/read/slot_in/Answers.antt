use Rattle.std.proofs.Common.{◌≡◌, ◌∙◌, rules, sym}
use lib.Chars.{codes}
use Rattle.srcp_stations.proofs.ReadLaws.{slot_none}
use Rattle.srcp_stations.proofs.read.slot_in.Goals as goal

pub returns-then-eq : goal.returns-then-eq
returns-then-eq c = λ slot few is. let none : c.args.word.now ≡ codes "-1" = search rules in slot_none slot few (sym is ∙ none)
