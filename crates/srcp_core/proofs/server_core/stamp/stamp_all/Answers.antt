use Rattle.srcp_core.proofs.Names.{refl, sym, ◌∙◌, IsWhole, each_of, Put, is_some, ap}
use Rattle.srcp_core.proofs.Invariants.OpeningRowsAreStamped.{fewer_stamped, opening_stamped, row_found, stamped_each, stamped, found_there}
use Rattle.srcp_core.proofs.Invariants.OpeningRowsAreStamped.{stamped_fits, stamped_next, stamped_none}
use Rattle.srcp_core.proofs.CourseLaws.StepsKeepWhole.{whole_opening}
use Rattle.srcp_core.proofs.server_core.stamp.stamp_all.Goals as goal
use Rattle.srcp_rules.proofs.StateLaws.{rising-updated}

pub set-requires : goal.set-requires
set-requires g c =
    let buses = g.R.Rows.buses c.args.rows.now in
    let state = g.R.Rows.state c.loop-row.rows in
    let row = c.in-Some.row.now in
    let inv = c.loop-row.invariant in
    let next = sym c.in-Some.ensures in
    record {
      there = ap is_some (found_there _ state row inv.rising next);
      fits = rw inv.layout
          (stamped_fits buses _ row c.ranges.moment.fits (row_found buses c.loop-row.at state row inv.each next));
    }

pub loop-row-init : goal.loop-row-init
loop-row-init g c =
    let buses = g.R.Rows.buses _ in
    let whole : IsWhole buses (g.R.Rows.state c.args.rows.now) =
    rw c.requires.opens (whole_opening buses c.requires.laid_out) in
    record {
      layout = refl;
      rising = whole.rising;
      each = each_of buses _ whole;
      stamps = cc (c.requires.opens, opening_stamped _ buses);
    }

pub loop-row-smaller : goal.loop-row-smaller
loop-row-smaller g c =
    let state = g.R.Rows.state _ in
    let row = c.in-Some.row.now in
    rw c.set.ensures.rows (fewer_stamped c.args.moment c.loop-row.at state row c.loop-row.invariant.rising (sym c.in-Some.ensures))

pub loop-row-preserved : goal.loop-row-preserved
loop-row-preserved g c =
    let buses = g.R.Rows.buses _ in
    let state = g.R.Rows.state _ in
    let row = c.in-Some.row.now in
    let inv = c.loop-row.invariant in
    let next = sym c.in-Some.ensures in
    let of = stamped_fits buses _ row c.ranges.moment.fits (row_found buses c.loop-row.at state row inv.each next) in
    record {
      layout = c.set.ensures.layout ∙ inv.layout;
      rising = rw c.set.ensures.rows (rising-updated (record { change = Put (stamped _ row).shown; due = row.due }) state inv.rising);
      each = rw c.set.ensures.rows (stamped_each buses _ state of inv.each);
      stamps = cc (c.set.ensures.rows, stamped_next _ _ state row inv.rising next, inv.stamps);
    }

pub returns : goal.returns
returns g c = record {
  layout = c.loop-row.invariant.layout;
  rows =
      sym (stamped_none _ _ _ (sym c.in_default.ensures))
      ∙ c.loop-row.invariant.stamps;
}
