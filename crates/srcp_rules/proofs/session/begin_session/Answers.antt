use Rattle.srcp_rules.proofs.Names.{◌<◌, ◌≤◌, arith, rules, row_count, session_device}
use Rattle.srcp_rules.proofs.AddingLaws.{session_added, session_rows}
use Rattle.srcp_rules.proofs.AddsNoRowLaws.{began-adds_no_row}
use Rattle.srcp_rules.proofs.DueRowLaws.{began_kept}
use Rattle.srcp_rules.proofs.session.begin_session.Goals as goal

pub add-requires : goal.add-requires
add-requires g c =
    let session = c.args.session in
    let buses = g.R.Rows.buses c.args.rows.now in
    let state = g.R.Rows.state c.args.rows.now in
    let most : session ≤ 4294967295 = omega arith in (
      session_device session,
      rw (c.row_put-row.ensures, c.first_key-key.ensures, c.session_device.ensures)
          (session_added buses state c.requires.whole session c.args.moment c.args.mode c.requires.session most c.ranges.moment.fits
          c.requires.free),
    )

pub returns : goal.returns
returns g c =
    let session = c.args.session in
    let buses = g.R.Rows.buses c.args.rows.now in
    let state = g.R.Rows.state c.args.rows.now in
    let most : session ≤ 4294967295 = omega arith in
    let count = session_rows buses session c.requires.session most in
    let some : 0 < row_count buses (session_device session) = omega (arith, count) in
    record {
      change = search rules;
      rows = search rules;
      err = search rules;
      layout = search rules;
      whole =
          rw (c.in_ok-add.ensures.layout, c.in_ok-add.ensures.ok, c.row_put-row.ensures, c.first_key-key.ensures, c.session_device.ensures)
          (began_kept buses c.args.moment c.ranges.moment.fits session c.args.mode state some c.requires.whole);
      well_formed = search rules;
      adds_no_row =
          rw (c.put_of-change.ensures, c.row_put-row.ensures, c.first_key-key.ensures, c.session_device.ensures)
          (began-adds_no_row buses state session c.args.moment c.args.mode c.requires.whole some);
    }
