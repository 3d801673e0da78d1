use Rattle.srcp_info.proofs.MirrorLaws.{same_order, rising_values}
use Rattle.srcp_info.proofs.mirror.Mirror.rows.Goals as goal

pub returns-clause-rising : goal.returns-clause-rising
returns-clause-rising c =
    rw c.values.ensures.rest
    (rising_values c.self.inside.by_key.entries c.self.invariant.0 (rw same_order at c.values.ensures.ordered))
