use Rattle.std.proofs.Common.{sym, ap, ◌∙◌, arith}
use Rattle.srcp_index.specs.Pairs.{before}
use Rattle.srcp_index.proofs.Splits.{remove-remove_by, not_taken}
use Rattle.srcp_index.proofs.index.remove_from.Goals.{else-index-len-via-then-index-len+else-not-is_before}
use Rattle.srcp_index.proofs.index.remove_from.Goals.{else-index-len-via-else-index-len}
use Rattle.srcp_index.proofs.index.remove_from.Goals as goal

pub returns-then-not-is_before-clause-pairs : goal.returns-then-not-is_before-clause-pairs
returns-then-not-is_before-clause-pairs c =
    let at = c.count_before-index in
    let lt = before c.args.since in
    let taken = remove-remove_by lt c.args.pair _ at.result c.index.result.now (at.ensures.prefix, at.ensures.back)
    (omega (arith, c.if-index-len.true, c.len.ensures))
    (ap (lt c.args.pair) (sym c.index.ensures) ∙ sym c.is_before.ensures ∙ c.if-not-is_before.true) in
    grind (arith, taken)

pub returns-else-index-len-clause-pairs : goal.returns-else-index-len-clause-pairs
returns-else-index-len-clause-pairs c =
    let at = c.count_before-index in
    let pair = c.args.pair in
    let lt = before c.args.since in
    elim c.else-index-len.branch [
      | else-index-len-via-then-index-len+else-not-is_before w ↦ not_taken lt pair _ at.result w.index.result.now
          (at.ensures.prefix, at.ensures.back)
          (λ h. ap (lt pair) (sym w.index.ensures) ∙ sym w.is_before.ensures ∙ w.if-not-is_before.false)
      | else-index-len-via-else-index-len w ↦ not_taken lt pair _ at.result pair (at.ensures.prefix, at.ensures.back)
          (λ h. absurd (omega (arith, h, w.if-index-len.false, c.len.ensures)))
    ]
