use Rattle.srcp_rules.proofs.Names
use Names.{◌≡◌, refl, ℕ, ◌<◌, ◌≤◌, List, length, slice_get, Option, Some, None, option_copied, true, false, sym, ◌∙◌, rules}
use Names.{IsPartitionPoint-from_clause, Row}
use Rattle.std.proofs.Common.{MatchOption}
use Rattle.std.proofs.lemmas.Option.{slice_get_past, slice_get_read}
use Rattle.std.specs.List.{HoldsAt}
use denote.Ref.{Bor}
use Rattle.srcp_grammar.proofs.PlaceLaws.{front_each, back_each, find-parted}
use Rattle.srcp_rules.proofs.RowIndexLaws.{passed, passed_partitioned}
use Rattle.srcp_rules.proofs.sorted_rows.row_after_in.Goals as goal

copied : (o : Option (Bor Row)) (rows : List Row) (i : ℕ)
    → MatchOption o (length rows ≤ i) (λ x. (i < length rows) × HoldsAt (λ y. x.now ≡ y) rows i) → option_copied o ≡ slice_get rows i
copied None rows i h = sym (slice_get_past rows i h)
copied (Some x) rows i h = sym (slice_get_read rows (length rows) i x.now refl h.0 (h.1 x.now))

pub returns : goal.returns
returns c =
    let rows = c.args.rows.now in
    let index = c.partition_point-index.result in
    let cursor = c.args.cursor in
    let parted =
    IsPartitionPoint-from_clause (passed cursor) rows index c.partition_point-index.ensures.partitioned
    (passed_partitioned cursor rows c.requires) (λ a r f' called. search rules) in
    copied c.get.result rows index c.get.ensures.lookup.3
    ∙ sym (find-parted (passed cursor) rows index
    (front_each (λ row. passed cursor row ≡ true) rows index c.partition_point-index.ensures.bound parted.0)
    (back_each (λ row. passed cursor row ≡ false) rows index parted.1))
