use Rattle.std.proofs.Common.{rules, ◌≡◌, ◌+◌, ◌-◌, ◌++◌, ap, ◌∙◌, take, length, arith}
use Rattle.std.specs.Prelude.{slice_range}
use Rattle.std.proofs.Math.Seq.{take-length}
use Rattle.std.proofs.lemmas.List.{with_items_is}
use borrow.Rule.Slice.PartMut.{same_len_mid}
use Rattle.srcp_peers.proofs.RangesGrowAndShrink.{followed_by}
use Rattle.srcp_peers.proofs.queue.put.Goals as goal

pub returns-clause-put : goal.returns-clause-put
returns-clause-put c start low =
    let bytes = c.deref_mut.result.now in
    let at = c.args.at in
    let given = c.args.bytes.now in
    let count = length given in
    let more = c.copy_from_slice.new.self in
    let same : more ≡ given = search rules in
    let long = same_len_mid at (at + count - at) bytes more (search rules) in
    ap (λ b. slice_range b start (at + count)) (with_items_is c.args.buffer.now _ (long ∙ search rules))
    ∙ followed_by bytes more start at (at + count - at) count low (omega arith) (omega (arith, ap length same))
    ∙ ap (λ b. slice_range bytes start at ++ take count b) same
    ∙ ap (λ b. slice_range bytes start at ++ b) (take-length given)
    ∙ ap (λ b. slice_range b start at ++ given) c.deref_mut.ensures.value
