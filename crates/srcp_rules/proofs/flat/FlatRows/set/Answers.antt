use Rattle.srcp_rules.proofs.Names.{sym, subst, rising_put, IsRising}
use Rattle.srcp_rules.proofs.StateLaws.{row_key}
use Rattle.srcp_rules.proofs.flat.FlatRows.set.Goals as goal

pub invariant_of-self : goal.invariant_of-self
invariant_of-self c = subst IsRising (sym c.set_in.ensures) (rising_put row_key c.args.row c.self.inside.rows.items c.self.invariant)
