use Rattle.std.proofs.Common.{sym}
use Rattle.srcp_rules.specs.State.{shown_rows}
use Rattle.srcp_feed.proofs.FeedLaws.{empty_of, next_holds}
use Rattle.srcp_feed.proofs.feed.InfoFeed.next.Goals as goal

pub list-requires : goal.list-requires
list-requires g c = empty_of _ (sym c.in_default.ensures)

pub returns-in-Some-list-clause-holds : goal.returns-in-Some-list-clause-holds
returns-in-Some-list-clause-holds g c = λ given rising holds.
    next_holds given c.args.self.now _ (shown_rows (g.R.Rows.state c.args.rows.now)) _ (sym c.in-Some-list.ensures.listed)
    c.list.ensures.feed rising holds

pub returns-in-None-clause-holds : goal.returns-in-None-clause-holds
returns-in-None-clause-holds g c = λ given rising holds.
    next_holds given c.args.self.now _ (shown_rows (g.R.Rows.state c.args.rows.now)) _ (sym c.in-None.ensures.settled)
    c.list.ensures.feed rising holds
