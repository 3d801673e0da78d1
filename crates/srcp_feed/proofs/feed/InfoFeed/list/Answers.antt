use Rattle.std.proofs.Common.{◌≡◌, sym, ap, ◌∙◌, List, [], drop, Some, None}
use Rattle.std.specs.Option.{option_copied}
use Rattle.srcp_info.specs.declared.change.Change.{Change}
use Rattle.srcp_info.specs.declared.change.Cursor.TheVariants.{After, Done}
use Rattle.srcp_rules.specs.State.{shown_rows, row_after}
use Rattle.srcp_feed.specs.Feed.{Feed}
use Rattle.srcp_feed.proofs.FeedLaws.{next_of_listed, next_of_settled, no_row_after_done, after_next_is}
use Rattle.srcp_feed.proofs.feed.InfoFeed.list.Goals as goal

-- a queue that is empty stays so
none_left : (held feed : Feed) → held ≡ feed → feed.queue ≡ [] → held.queue ≡ drop 1 feed.queue
none_left held feed same none = ap (λ (f : Feed). f.queue) same ∙ none ∙ ap (drop 1) (sym none)

pub returns-in-Done-clause-settled : goal.returns-in-Done-clause-settled
returns-in-Done-clause-settled g c =
    let state = g.R.Rows.state c.args.rows.now in
    let found : row_after c.args.self.now.cursor state ≡ None =
    ap (λ (f : Feed). row_after f.cursor state) (sym c.self.view_is)
    ∙ ap (λ cursor. row_after cursor state) c.in-Done.is ∙ no_row_after_done state in
    next_of_settled c.args.self.now state c.requires found

pub returns-in-Done-clause-feed : goal.returns-in-Done-clause-feed
returns-in-Done-clause-feed g c =
    let state = g.R.Rows.state c.args.rows.now in
    let left = none_left _ c.args.self.now c.self.view_is c.requires in
    sym c.self.view_is ∙ ap (λ cursor. let f : Feed = record { cursor = cursor; queue = c.self.inside.waiting } in f) c.in-Done.is
    ∙ ap (λ (queue : List Change). let f : Feed = record { cursor = Done; queue = queue } in f) left
    ∙ sym (after_next_is c.args.self.now (shown_rows state) _ (returns-in-Done-clause-settled g c))

pub returns-in-Some-clause-listed : goal.returns-in-Some-clause-listed
returns-in-Some-clause-listed g c =
    let state = g.R.Rows.state c.args.rows.now in
    let found : row_after c.args.self.now.cursor state ≡ Some c.in-Some.row.now =
    ap (λ (f : Feed). row_after f.cursor state) (sym c.self.view_is) ∙ sym c.row_after.ensures ∙ ap option_copied c.in-Some.is in
    next_of_listed c.args.self.now state c.in-Some.row.now c.requires found

pub returns-in-Some-clause-feed : goal.returns-in-Some-clause-feed
returns-in-Some-clause-feed g c =
    let state = g.R.Rows.state c.args.rows.now in
    let left = none_left _ c.args.self.now c.self.view_is c.requires in
    ap (λ (queue : List Change). let f : Feed = record { cursor = After c.in-Some.row.now.shown.key; queue = queue } in f) left
    ∙ sym (after_next_is c.args.self.now (shown_rows state) _ (returns-in-Some-clause-listed g c))

pub returns-in-None-clause-settled : goal.returns-in-None-clause-settled
returns-in-None-clause-settled g c =
    let state = g.R.Rows.state c.args.rows.now in
    let found : row_after c.args.self.now.cursor state ≡ None =
    ap (λ (f : Feed). row_after f.cursor state) (sym c.self.view_is) ∙ sym c.row_after.ensures ∙ ap option_copied c.in-None.is in
    next_of_settled c.args.self.now state c.requires found

pub returns-in-None-clause-feed : goal.returns-in-None-clause-feed
returns-in-None-clause-feed g c =
    let state = g.R.Rows.state c.args.rows.now in
    let left = none_left _ c.args.self.now c.self.view_is c.requires in
    ap (λ (queue : List Change). let f : Feed = record { cursor = Done; queue = queue } in f) left
    ∙ sym (after_next_is c.args.self.now (shown_rows state) _ (returns-in-None-clause-settled g c))
