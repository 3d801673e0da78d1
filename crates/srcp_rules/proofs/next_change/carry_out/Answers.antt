use Rattle.srcp_rules.proofs.Names
use Names.{is_some, ap, subst, ◌∙◌, Device, Value, IsValueAt, can_go}
use Rattle.srcp_rules.proofs.StepLaws.{IsRowOf-put}
use Rattle.srcp_rules.proofs.DueRowLaws.{lock_goes}
use Rattle.srcp_rules.proofs.NextLaws.{port_value}
use Rattle.srcp_rules.proofs.next_change.carry_out.Goals as goal

pub remove-requires : goal.remove-requires
remove-requires g c =
    let key = c.args.row.now.shown.key in
    let of = c.requires.whole.rows key c.args.row.now c.requires.there in
    let fits = rw c.in-Lock.is at of.shown.value in
    ap (λ (device : Device). can_go device.group) c.device.ensures ∙ (lock_goes key.group fits.0).0

pub set-requires : goal.set-requires
set-requires g c =
    let key = c.args.row.now.shown.key in
    let port = port_value c.args.row.now.shown.value c.requires.may c.in_default.not-Lock in
    let of = c.requires.whole.rows key c.args.row.now c.requires.there in
    let fits = subst (λ (shows : Value). IsValueAt key.group key.port shows) port.1 of.shown.value in
    record {
      there = rw c.row_put-clear.ensures (ap is_some c.requires.there);
      fits =
          rw c.row_put-clear.ensures
          (IsRowOf-put (g.R.Rows.buses c.args.rows.now) c.requires.whole.laid_out _ _ _ _ of.place c.ranges.moment.fits fits tt);
    }
