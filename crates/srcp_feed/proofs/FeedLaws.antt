-- What a feed gives, and that its client holds the rows that the listing has passed.
use Rattle.std.proofs.Common.{◌≡◌, ◌≢◌, Bool, true, false, List, [], ◌∷◌, ◌++◌, map, drop, Option, Some, None, refl, ap, sym, ◌∙◌, subst}
use Rattle.std.proofs.Common.{append-nil, append_assoc}
use Rattle.std.specs.Prelude.{slice_get}
use Rattle.srcp_info.specs.Client.{client, changed, put, IsRisingBy}
use Rattle.srcp_info.specs.declared.change.Change.{Change}
use Rattle.srcp_info.specs.declared.change.Change.TheVariants.{Put}
use Rattle.srcp_info.specs.declared.change.Cursor.{Cursor}
use Rattle.srcp_info.specs.declared.change.Cursor.TheVariants.{Done}
use Rattle.srcp_info.specs.declared.change.Row.{Row}
use Rattle.srcp_info.specs.declared.change.Shown.{Shown}
use Rattle.srcp_rules.specs.State.{State, shown_rows, row_after}
use Rattle.srcp_feed.specs.Cursor.{concerns, passed, beyond, moved, said}
use Rattle.srcp_feed.specs.Feed.{Feed, is_full, told, told_answer, first_of, next_of, after_next, HoldsPassed}
use Rattle.srcp_feed.specs.declared.feed.Next.{Next}
use Rattle.srcp_feed.specs.declared.feed.Next.TheVariants as next
use Rattle.srcp_feed.specs.declared.feed.Told.{Told}
use Rattle.srcp_feed.specs.declared.feed.Told.TheVariants.{Overrun}
use Rattle.srcp_info.proofs.ClientLaws.{client-push, reached_changed, reached_skipped}
use Rattle.srcp_feed.proofs.Nexts.{IsNext, row_after_next}
use Rattle.srcp_feed.proofs.Steps.{lists_one, passed_all, passed_done}

pub empty_of : {X : Type 0} (xs : List X) → slice_get xs 0 ≡ None → xs ≡ []
empty_of [] e = refl
empty_of (x ∷ xs) e = cc

-- ---- what is given

pub next_of_told : (feed : Feed) (rows : List Shown) (change : Change) → slice_get feed.queue 0 ≡ Some change
    → next_of rows feed ≡ next.Told change
next_of_told feed rows change e = from feed.queue e
  where
    from : (queue : List Change) → slice_get queue 0 ≡ Some change
        → next_of rows (record { cursor = feed.cursor; queue = queue }) ≡ next.Told change
    from [] e = cc
    from (first ∷ queue) e = ap next.Told (cc)

-- ---- what is given if nothing waits

-- a listing that is done has no row to come to
pub no_row_after_done : (state : State) → row_after Done state ≡ None
no_row_after_done [] = refl
no_row_after_done (row ∷ state) = no_row_after_done state

-- the row that was found is the first beyond the cursor
pub beyond_found : (cursor : Cursor) (state : State) (row : Row) → row_after cursor state ≡ Some row
    → IsNext (Some row) (beyond cursor (shown_rows state))
beyond_found cursor state row e = subst (λ (o : Option Row). IsNext o (beyond cursor (shown_rows state))) e (row_after_next cursor state)

pub beyond_none : (cursor : Cursor) (state : State) → row_after cursor state ≡ None → beyond cursor (shown_rows state) ≡ []
beyond_none cursor state e = subst (λ (o : Option Row). IsNext o (beyond cursor (shown_rows state))) e (row_after_next cursor state)

pub next_of_listed : (feed : Feed) (state : State) (row : Row) → feed.queue ≡ [] → row_after feed.cursor state ≡ Some row
    → next_of (shown_rows state) feed ≡ next.Listed row.shown
next_of_listed feed state row empty e = rw (empty, (beyond_found feed.cursor state row e).1) refl

pub next_of_settled : (feed : Feed) (state : State) → feed.queue ≡ [] → row_after feed.cursor state ≡ None
    → next_of (shown_rows state) feed ≡ next.Settled
next_of_settled feed state empty e = rw (empty, beyond_none feed.cursor state e) refl

pub after_next_is : (feed : Feed) (rows : List Shown) (what : Next) → next_of rows feed ≡ what → after_next rows feed ≡ record {
  cursor = moved feed.cursor what;
  queue = drop 1 feed.queue;
}
after_next_is feed rows what e = ap (λ (w : Next). let f : Feed = record { cursor = moved feed.cursor w; queue = drop 1 feed.queue } in f) e

-- ---- the client

-- a client that is told a change which the rows underwent
pub tell_holds : (given : List Change) (change : Change) (feed new : Feed) (rows : List Shown) (answer : Told)
    → answer ≡ told_answer change feed → new ≡ told change feed
    → answer ≢ Overrun → HoldsPassed given feed rows → HoldsPassed given new (changed change rows)
tell_holds given change feed new rows answer answered told_so fits holds =
    rw told_so (by (concerns feed.cursor change) refl (is_full feed) refl)
  where
    by : (c : Bool) → concerns feed.cursor change ≡ c → (f : Bool) → is_full feed ≡ f
        → HoldsPassed given (told change feed) (changed change rows)
    by false e f g = rw e (holds ∙ sym (reached_skipped feed.cursor change rows e))
    by true e true g = absurd (fits (answered ∙ rw (e, g) refl))
    by true e false g =
        rw (e, g)
        (ap client (sym (append_assoc given feed.queue (change ∷ []))) ∙ client-push (given ++ feed.queue) change
        ∙ ap (changed change) holds ∙ sym (reached_changed feed.cursor change rows e))

-- a client that is given what is next
pub next_holds : (given : List Change) (feed new : Feed) (rows : List Shown) (what : Next) → what ≡ next_of rows feed
    → new ≡ after_next rows feed
    → IsRisingBy (λ row. row.key) rows → HoldsPassed given feed rows → HoldsPassed (given ++ said what) new rows
next_holds given feed new rows what given_so new_so rising holds = rw (given_so, new_so) (by feed.cursor feed.queue holds)
  where
    from : (cursor : Cursor) (left : List Shown) → beyond cursor rows ≡ left → client given ≡ passed cursor rows
        → client ((given ++ said (first_of (map next.Listed left))) ++ []) ≡ passed (moved cursor (first_of (map next.Listed left))) rows
    from cursor [] e h = ap client (append-nil (given ++ []) ∙ append-nil given) ∙ h ∙ passed_all cursor rows e ∙ sym (passed_done rows)
    from cursor (row ∷ left) e h =
        let l = lists_one cursor row left rows rising e in
        ap client (append-nil (given ++ Put row ∷ [])) ∙ client-push given (Put row) ∙ ap (put row) h ∙ l.taken

    by : (cursor : Cursor) (queue : List Change) → HoldsPassed given (record { cursor = cursor; queue = queue }) rows
        → HoldsPassed (given ++ said (next_of rows (record { cursor = cursor; queue = queue })))
        (after_next rows (record { cursor = cursor; queue = queue })) rows
    by cursor (change ∷ queue) h = ap client (append_assoc given (change ∷ []) queue) ∙ h
    by cursor [] h = from cursor (beyond cursor rows) refl (ap client (sym (append-nil given)) ∙ h)
