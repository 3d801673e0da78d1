use Rattle.srcp_rules.proofs.Names.{not, rules, owns}
use Rattle.std.proofs.lemmas.Fn.{filter_same}
use Rattle.srcp_rules.proofs.sorted_rows.drop_in.Goals as goal

pub returns : goal.returns
returns c = filter_same _ (λ row. not (owns c.args.device row.shown.key)) _ (λ x b f' k. search rules) _ _ c.retain.ensures.filtered
