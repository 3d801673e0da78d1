use Rattle.std.proofs.Common.{ℕ, arith, length-set}
use Rattle.srcp_info.proofs.LineLaws.{bits_next}
use Rattle.srcp_info.proofs.write.put_functions.Goals as goal

pub loop-index-preserved : goal.loop-index-preserved
loop-index-preserved g c = (
  omega (arith, c.loop-index.invariant.0, length-set {A = ℕ}),
  bits_next c.as_slice-bits.result.now c.loop-index.index c.loop-index.words c.from.result (rw c.as_slice-bits.ensures (omega arith))
      (omega (arith, c.loop-index.invariant.0)) c.loop-index.invariant.1 c.from.ensures,
)
