use Rattle.srcp_rules.proofs.Names
use Names.{[], ◌∷◌, refl, inl, lock_end, refusals, lock_at, put_of}
use Names.value
use Rattle.srcp_rules.specs.Effect.{row_of_lock}
use Rattle.srcp_rules.proofs.AddingLaws.{single_added}
use Rattle.srcp_rules.proofs.AddsNoRowLaws.{one_lock}
use Rattle.srcp_rules.proofs.ObeyLaws.{lock_row, refused_done}
use Rattle.srcp_rules.proofs.lock.set_lock.Goals as goal

pub replace_row-requires-clause-fits : goal.replace_row-requires-clause-fits
replace_row-requires-clause-fits g c =
    rw (c.first_key.ensures, c.lock_at-device.ensures, c.lock_end-due.ensures)
    (lock_row (g.R.Rows.buses c.args.rows.now) (g.R.Rows.state c.args.rows.now)
    c.args.sender.session c.args.sender.moment c.args.sender.fits c.args.lock c.requires.may)

pub add-requires : goal.add-requires
add-requires g c =
    let buses = g.R.Rows.buses c.args.rows.now in
    let state = g.R.Rows.state c.args.rows.now in
    let device = lock_at c.args.lock.target in
    let absent = rw (c.is_there.ensures, c.lock_at-device.ensures) at c.if-is_there.false in
    let fits = lock_row buses state c.args.sender.session c.args.sender.moment c.args.sender.fits c.args.lock c.requires.may in (
      device,
      rw (c.row_put-row.ensures, c.first_key-2.ensures, c.lock_at-device.ensures, c.lock_end-due.ensures)
          (single_added buses state c.requires.may.whole device c.args.sender.moment (value.Lock c.args.lock.seconds c.args.sender.session)
          (lock_end c.args.sender.moment c.args.lock.seconds) c.requires.may.of.0
          (one_lock buses c.args.lock.target.group c.args.lock.target.bus c.args.lock.target.address) absent fits),
    )

pub returns-in-Some-clause-obeyed : goal.returns-in-Some-clause-obeyed
returns-in-Some-clause-obeyed g c =
    let state = g.R.Rows.state c.args.rows.now in
    let lock = c.args.lock in
    let refused = refusals state c.args.sender.session lock.target.group lock.target.bus lock.target.address in
    let put = put_of (row_of_lock c.args.sender.moment c.args.sender.session lock) in
    inl (rw (← refused_done refused (put ∷ []) c.in-Some.code c.in-Some.ensures) (record { told = c.refuse.ensures; rows = refl }))
