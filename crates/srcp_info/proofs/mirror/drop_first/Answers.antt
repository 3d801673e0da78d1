use Rattle.std.proofs.Common.{sym, ◌∙◌}
use Rattle.srcp_info.specs.Key.{owns}
use Rattle.srcp_info.proofs.MirrorLaws.{same_order, none_found, filter-remove}
use Rattle.srcp_info.proofs.mirror.drop_first.Goals as goal

pub returns-in_default-clause-none : goal.returns-in_default-clause-none
returns-in_default-clause-none c same =
    none_found c.args.device.now c.args.by_key.now.entries c.range.result c.first_key.result c.first_key.ensures c.range.ensures.ordered
    (c.range.ensures.between tt) (rw c.in_default.ensures.steps.0 tt)

pub returns-then-not-owns-clause-none : goal.returns-then-not-owns-clause-none
returns-then-not-owns-clause-none c same =
    none_found c.args.device.now c.args.by_key.now.entries c.range.result c.first_key.result c.first_key.ensures c.range.ensures.ordered
    (c.range.ensures.between tt) (rw c.in-Some.ensures.steps (sym c.owns.ensures ∙ c.if-not-owns.true))

pub returns-clause-others : goal.returns-clause-others
returns-clause-others c =
    rw (c.remove.ensures.entries, same_order)
    (filter-remove (owns c.args.device.now) c.in-Some.key.now (sym c.owns.ensures ∙ c.if-not-owns.false) c.args.by_key.now.entries)
