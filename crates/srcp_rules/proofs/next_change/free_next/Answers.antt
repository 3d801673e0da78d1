use Rattle.srcp_rules.proofs.Names.{false, refl}
use Rattle.srcp_rules.proofs.NextLaws.{freed_own, next_lock, next_own}
use Rattle.srcp_rules.proofs.next_change.free_next.Goals as goal

-- ---- a lock

pub remove-requires : goal.remove-requires
remove-requires g c =
    let next = next_lock c.requires.whole c.args.session c.args.moment c.ranges.moment.fits c.in-Some.row c.in-Some.ensures in
    rw c.device-lock.ensures next.told.2

pub returns-in-Some : goal.returns-in-Some
returns-in-Some g c =
    let next = next_lock c.requires.whole c.args.session c.args.moment c.ranges.moment.fits c.in-Some.row c.in-Some.ensures in
    record {
      change = rw (c.remove.ensures.change, c.device-lock.ensures, next.first);
      rows = rw (c.remove.ensures.rows, c.device-lock.ensures, next.first);
      layout = c.remove.ensures.layout;
      whole = rw (c.remove.ensures.layout, c.remove.ensures.rows, c.device-lock.ensures) next.whole;
      well_formed = rw (c.remove.ensures.change, c.device-lock.ensures) next.told;
    }

-- ---- nothing

pub returns-then-not-is_there : goal.returns-then-not-is_there
returns-then-not-is_there g c =
    let there = rw (c.is_there.ensures, c.session_device-own.ensures) at c.if-not-is_there.true in
    let none = freed_own (g.R.Rows.state c.args.rows.now) c.args.session c.args.moment false c.in_default.ensures there in
    record { change = rw none; rows = rw none; layout = refl; whole = c.requires.whole; well_formed = tt }

-- ---- the session's own row

pub returns : goal.returns
returns g c =
    let there = rw (c.is_there.ensures, c.session_device-own.ensures) at c.if-not-is_there.false in
    let next = next_own c.requires.whole c.args.session c.args.moment c.ranges.moment.fits c.in_default.ensures there in
    record {
      change = rw (c.remove-2.ensures.change, c.session_device-own.ensures, next.first);
      rows = rw (c.remove-2.ensures.rows, c.session_device-own.ensures, next.first);
      layout = c.remove-2.ensures.layout;
      whole = rw (c.remove-2.ensures.layout, c.remove-2.ensures.rows, c.session_device-own.ensures) next.whole;
      well_formed = rw (c.remove-2.ensures.change, c.session_device-own.ensures) next.told;
    }
