use Rattle.std.proofs.Common.{refl, false, arith}
use Rattle.std.proofs.lemmas.List.{drop-replicate, take-replicate}
use Rattle.srcp_info.proofs.value.Bits.all_false.Goals as goal

pub invariant_of-result : goal.invariant_of-result
invariant_of-result c = (c.requires, refl, drop-replicate c.args.count 29 false)

pub returns : goal.returns
returns c = take-replicate c.args.count 29 false (omega arith)
