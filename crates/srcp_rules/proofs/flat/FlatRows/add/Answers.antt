use Rattle.srcp_rules.proofs.Names.{IsRising}
use Rattle.srcp_rules.proofs.PutRowsLaws.{added_or, rising-put_rows}
use Rattle.srcp_rules.proofs.flat.FlatRows.add.Goals as goal

pub invariant_of-self : goal.invariant_of-self
invariant_of-self c =
    added_or IsRising c.args.added.now _ _ c.add_all.result c.add_all.ensures.ok c.add_all.ensures.err
    (rising-put_rows c.args.added.now c.self.inside.rows.items c.self.invariant) c.self.invariant
