use Rattle.srcp_rules.proofs.Names.{rules, key_cmp}
use Rattle.std.proofs.lemmas.Fn.{always_returns_same}
use Rattle.srcp_rules.proofs.RowIndexLaws.{searched}
use Rattle.srcp_rules.proofs.sorted_rows.index_of.Goals as goal

pub returns : goal.returns
returns c =
    let facts = c.binary_search_by.ensures in
    let found =
    searched c.args.rows.now c.requires c.args.key.now c.binary_search_by.result facts.bound
    (facts.position (λ row. key_cmp row.shown.key c.args.key.now) (always_returns_same _ _ _ (λ a r g called. search rules))) in
    record { at = found.0; gap = found.1 }
