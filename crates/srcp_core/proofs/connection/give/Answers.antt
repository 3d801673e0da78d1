use Rattle.srcp_core.proofs.Names.{sym, subst, arith, shown_rows}
use Rattle.srcp_feed.proofs.FeedLaws.{empty_of}
use Rattle.srcp_core.proofs.Invariants.PlaceLaws.{IsTellable, next_tellable}
use Rattle.srcp_core.proofs.connection.give.Goals as goal

pub list-requires : goal.list-requires
list-requires g c = empty_of _ (sym c.in_default.ensures)

pub write_shown-requires : goal.write_shown-requires
write_shown-requires g c =
    let told =
    subst IsTellable c.in-Some-list.ensures.listed
    (next_tellable (shown_rows (g.R.Rows.state c.args.rows.now)) c.args.feed.now c.requires.well_formed c.requires.shown) in
    (omega arith, (told, (omega arith, c.new.ensures)))
