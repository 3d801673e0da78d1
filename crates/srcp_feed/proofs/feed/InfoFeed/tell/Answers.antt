use Rattle.std.proofs.Common.{ap, ◌∙◌}
use Rattle.srcp_info.specs.declared.change.Change.{Change}
use Rattle.srcp_feed.specs.Feed.{told, told_answer}
use Rattle.srcp_feed.proofs.FeedLaws.{tell_holds}
use Rattle.srcp_feed.proofs.feed.InfoFeed.tell.Goals as goal

pub returns-clause-holds : goal.returns-clause-holds
returns-clause-holds c = λ given rows fits holds.
    let answer = c.tell_line.ensures.answer ∙ ap (λ (change : Change). told_answer change c.args.self.now) c.without_line.ensures in
    let feed = c.tell_line.ensures.feed ∙ ap (λ (change : Change). told change c.args.self.now) c.without_line.ensures in
    tell_holds given c.args.change.now c.args.self.now _ rows _ answer feed fits holds
