use Rattle.std.proofs.Common.{◌≡◌, sym, ap, ◌∙◌, Some, None}
use Rattle.std.specs.Option.{option_copied}
use Rattle.srcp_rules.specs.State.{shown_rows, row_after}
use Rattle.srcp_feed.specs.Feed.{Feed}
use Rattle.srcp_feed.specs.declared.feed.Next.TheVariants as next
use Rattle.srcp_feed.proofs.FeedLaws.{empty_of, next_of_listed, next_of_settled, next_of_told}
use Rattle.srcp_feed.proofs.feed.InfoFeed.peek.Goals as goal

pub returns-in-Some : goal.returns-in-Some
returns-in-Some g c =
    ap next.Told c.change.ensures
    ∙ sym (next_of_told c.args.self.now (shown_rows (g.R.Rows.state c.args.rows.now)) c.in-Some.told.now
    (sym c.first.ensures ∙ ap option_copied c.in-Some.is))

pub returns-in-Some-row_after : goal.returns-in-Some-row_after
returns-in-Some-row_after g c =
    let state = g.R.Rows.state c.args.rows.now in
    let empty = empty_of c.args.self.now.queue (sym c.in_default.ensures) in
    let found : row_after c.args.self.now.cursor state ≡ Some c.in-Some-row_after.row.now =
    ap (λ (f : Feed). row_after f.cursor state) (sym c.self.view_is) ∙ sym c.row_after.ensures
    ∙ ap option_copied c.in-Some-row_after.is in
    sym (next_of_listed c.args.self.now state c.in-Some-row_after.row.now empty found)

pub returns-in-None : goal.returns-in-None
returns-in-None g c =
    let state = g.R.Rows.state c.args.rows.now in
    let empty = empty_of c.args.self.now.queue (sym c.in_default.ensures) in
    let found : row_after c.args.self.now.cursor state ≡ None =
    ap (λ (f : Feed). row_after f.cursor state) (sym c.self.view_is) ∙ sym c.row_after.ensures ∙ ap option_copied c.in-None.is in
    sym (next_of_settled c.args.self.now state empty found)
