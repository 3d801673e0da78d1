use Rattle.srcp_rules.proofs.Names.{not, sym, subst, owns, rising_filter, IsRising}
use Rattle.srcp_rules.proofs.StateLaws.{row_key}
use Rattle.srcp_rules.proofs.flat.FlatRows.drop_device.Goals as goal

pub invariant_of-self : goal.invariant_of-self
invariant_of-self c =
    subst IsRising (sym c.drop_in.ensures)
    (rising_filter row_key (λ row. not (owns c.args.device row.shown.key)) c.self.inside.rows.items c.self.invariant)
