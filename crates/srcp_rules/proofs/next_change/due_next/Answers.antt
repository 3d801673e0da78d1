use Rattle.srcp_rules.proofs.NextLaws.{next_due, none_due}
use Rattle.srcp_rules.proofs.next_change.due_next.Goals as goal

pub carry_out-requires : goal.carry_out-requires
carry_out-requires g c =
    let due = next_due c.requires.whole c.args.moment c.ranges.moment.fits c.args.cursor c.in_ok-row.row c.in_ok-row.ensures.row in
    record {
      whole = rw (c.next_due.ensures.layout, c.next_due.ensures.rows) c.requires.whole;
      there = rw c.next_due.ensures.rows due.there;
      may = due.may;
    }

-- ---- no row is due

pub returns-in_err-row : goal.returns-in_err-row
returns-in_err-row g c =
    let none = none_due c.requires.whole c.args.moment c.ranges.moment.fits c.args.cursor c.in_err-row.ensures.row in
    record {
      change = rw (c.from_residual.ensures, none);
      rows = rw (c.next_due.ensures.rows, none);
      layout = c.next_due.ensures.layout;
      whole = rw (c.next_due.ensures.layout, c.next_due.ensures.rows) c.requires.whole;
      well_formed = rw c.from_residual.ensures tt;
      adds_no_row = rw c.from_residual.ensures tt;
    }

-- ---- the first that is

pub returns : goal.returns
returns g c =
    let due = next_due c.requires.whole c.args.moment c.ranges.moment.fits c.args.cursor c.in_ok-row.row c.in_ok-row.ensures.row in
    record {
      change = rw (c.carry_out.ensures.change, due.first);
      rows = rw (c.carry_out.ensures.rows, c.next_due.ensures.rows, due.first);
      layout = rw (c.carry_out.ensures.layout, c.next_due.ensures.layout);
      whole = rw (c.carry_out.ensures.layout, c.carry_out.ensures.rows, c.next_due.ensures.layout, c.next_due.ensures.rows) due.whole;
      well_formed = rw c.carry_out.ensures.change due.told;
      adds_no_row = rw c.carry_out.ensures.change due.adds;
    }
