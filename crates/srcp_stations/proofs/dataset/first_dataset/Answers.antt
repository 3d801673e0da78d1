use Rattle.std.proofs.Common.{arith, ◌-◌}
use Rattle.srcp_stations.proofs.DatasetLaws.{begins_cut}
use Rattle.srcp_stations.proofs.dataset.first_dataset.Goals as goal

pub returns-clause-some : goal.returns-clause-some
returns-clause-some c =
    begins_cut c.args.bytes.now c.from-head.result c.from-len.result c.number_of-header.result (λ i. omega (arith, c.type_inv.bytes i))
    (omega (arith, c.from-head.ensures)) (omega (arith, c.if-len-head.false)) (omega (arith, c.if-bytes-len.false))
    (omega (arith, c.from-len.ensures, c.number_of.ensures)) (omega (arith, c.number_of-header.ensures)) (grind (arith))
