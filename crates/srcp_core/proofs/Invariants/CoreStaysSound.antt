-- What holds of every core is kept.
use Rattle.srcp_core.proofs.Names.{inl, inr, ◌⊎◌, ◌≡◌, ◌≢◌, ℕ, ◌+◌, ◌<◌, ◌≤◌, Bool, true, false, List, [], ◌∷◌, map, refl, ap, sym, ◌∙◌}
use Rattle.srcp_core.proofs.Names.{subst, arith, ◌==◌, ◌||◌, if◌then◌else◌, Option, Some, None, is_some, slice_set, count_by}
use Rattle.srcp_core.proofs.Names.{first_key, IsMoment, Change, Bus, IsLayout, session_device, State, Update, IsWhole, opening, updated_all}
use Rattle.srcp_core.proofs.Names.{is_there, Began, Place, Held, place_at, at, open_count, IsLive, AreSessions, IsSound, IsSessionAt, Mode}
use Rattle.srcp_core.proofs.Names.{Command, IsCommandOf, due, freed, began, effect, updated, due_kept}
use Rattle.srcp_core.proofs.Names.{freed_kept, effect_kept, session_row-updated_all, effect_elsewhere, due_elsewhere, freed_others}
use Rattle.srcp_core.proofs.Names.{row_at-put_same, row_at-put_other, same_key-true, eqb-false, pos_of_ne-zero, Panel}
use Rattle.srcp_core.proofs.Names.{Absent, Listening, Overran, changed_at, changed_in, changed_places, carried, told_all, told_each}
use Rattle.srcp_core.proofs.Names.{freed_of, freed_place, begun_place, session_begun, filled, feed_in, panel_for, Shown, opening_whole}
use Rattle.srcp_info.specs.declared.value.Value.TheVariants as value
use Rattle.srcp_rules.proofs.EachStepLaws.{step_whole}
use Rattle.srcp_core.specs.Machine.{filled_from, live_session_of}
use Rattle.srcp_core.proofs.Invariants.ChangesOneByOne.{change_in}
use Rattle.srcp_core.proofs.Invariants.PlacesCover.{IsMild, mild_itself, mild_live, Covers, covers_itself, covers_set, covers_free}
use Rattle.srcp_core.proofs.Invariants.PlacesCover.{covers_told_each, told_each_count, set_count, free_other, sessions_covered, place_set}
use Rattle.srcp_core.proofs.Invariants.PlacesCover.{place_set_here, where_is, Where, Here, Away, no_place}
use Rattle.srcp_core.proofs.Invariants.SessionRows.{no_session-opening}
use Rattle.std.proofs.lemmas.Bool.{false_from_ne_true}

-- what an equation begins with
abbrev pub left_of : {X : Type 0} {a b : X} → a ≡ b → X
left_of {a = a} e = a

pub sound_opening : (buses : List Bus) → IsLayout buses → (moment : ℕ) → IsMoment moment → (last_id : ℕ) (state : State)
    → state ≡ opening buses moment → (places : List (Option Place)) → places ≡ []
    → IsSound (record { buses = buses; rows = state; moment = moment; last_id = last_id; places = places; denied = 0 })
sound_opening buses layout moment now last_id state is places none = record {
  moment = now;
  few = rw none (omega arith);
  whole = rw is (opening_whole buses layout moment now);
  sessions = rw (is, none) (record {
    ids = λ key p e. absurd (no_place key p e);
    apart = λ m n p q e f l s. absurd (no_place m p e);
    there = λ key p e l. absurd (no_place key p e);
    later = λ id h. no_session-opening buses moment id;
  });
}

-- ---- places

pub sound_places : (held : Held) (places : List (Option Place)) → Covers held.places places
    → count_by is_some places ≤ count_by is_some held.places → IsSound held → IsSound (record held { places = places })
sound_places held places covers fewer s = record {
  moment = s.moment;
  few = omega (arith, s.few, fewer);
  whole = s.whole;
  sessions = sessions_covered _ _ _ places covers s.sessions;
}

pub covers_changed : (key : ℕ) (change : Place → Place) (places : List (Option Place)) → ((p : Place) → IsMild p (change p))
    → Covers places (changed_places key change places)
covers_changed key change places mild = by _ refl
  where
    by : (o : Option Place) → place_at places key ≡ o → Covers places (changed_in key change places o)
    by None e = covers_itself places
    by (Some p) e = covers_set places key p _ e (mild p)

pub changed_count : (key : ℕ) (change : Place → Place) (places : List (Option Place))
    → count_by is_some (changed_places key change places) ≡ count_by is_some places
changed_count key change places = by _ refl
  where
    by : (o : Option Place) → place_at places key ≡ o → count_by is_some (changed_in key change places o) ≡ count_by is_some places
    by None e = refl
    by (Some p) e = set_count places key p _ e

pub sound_changed_at : (key : ℕ) (change : Place → Place) (held : Held) → ((p : Place) → IsMild p (change p)) → IsSound held
    → IsSound (changed_at key change held)
sound_changed_at key change held mild s =
    sound_places held (changed_places key change held.places) (covers_changed key change held.places mild)
    (let c = changed_count key change held.places in omega (arith, c)) s

-- ---- changes of the registry

-- changes that leave the rows of the sessions that go on, and of those to come
sound_told : (updates : List Update) (held : Held) → IsWhole held.buses (updated_all updates held.rows)
    → ((key : ℕ) (p : Place) → place_at held.places key ≡ Some p → IsLive p
    → is_there (session_device p.session) (updated_all updates held.rows) ≡ is_there (session_device p.session) held.rows)
    → ((id : ℕ) → held.last_id < id
    → is_there (session_device id) (updated_all updates held.rows) ≡ is_there (session_device id) held.rows)
    → IsSound held → IsSound (carried updates held)
sound_told updates held whole live later s =
    let places = told_each (map change_in updates) held.places in
    let covers = covers_told_each (map change_in updates) held.places in
    let a = sessions_covered _ held.rows held.places places covers s.sessions in
    record {
      moment = s.moment;
      few = let c = told_each_count (map change_in updates) held.places in omega (arith, c, s.few);
      whole = whole;
      sessions = record {
        ids = a.ids;
        apart = a.apart;
        there = λ key q e l.
            let c = covers key q e in
            rw c.mild.session (live key c.p c.there (mild_live c.p q c.mild l)) ∙ a.there key q e l;
        later = λ id low. later id low ∙ a.later id low;
      };
    }

pub sound_carried : (updates : List Update) (held : Held) → IsWhole held.buses (updated_all updates held.rows)
    → ((id : ℕ) → is_there (session_device id) (updated_all updates held.rows) ≡ is_there (session_device id) held.rows) → IsSound held
    → IsSound (carried updates held)
sound_carried updates held whole same s = sound_told updates held whole (λ key p e l. same p.session) (λ id low. same id) s

-- a command of a session that has its row
pub sound_obeyed : (session moment : ℕ) (command : Command) (held : Held) → IsMoment moment → IsCommandOf held.buses command
    → is_there (session_device session) held.rows ≡ true → IsSound held
    → IsSound (carried (effect held.rows session moment command).updates held)
sound_obeyed session moment command held now of begun s =
    sound_carried (effect held.rows session moment command).updates held
    (effect_kept held.buses held.rows s.whole session moment begun now command of)
    (λ id.
    ap is_some
    (session_row-updated_all (effect held.rows session moment command).updates held.rows id
    (effect_elsewhere held.rows session moment command)))
    s

pub sound_due : (moment : ℕ) (held : Held) → IsMoment moment → IsSound held → IsSound (carried (due held.rows moment) held)
sound_due moment held now s =
    sound_carried (due held.rows moment) held (due_kept held.buses moment now held.rows s.whole)
    (λ id. ap is_some (session_row-updated_all (due held.rows moment) held.rows id (due_elsewhere held.buses held.rows s.whole moment))) s

-- no session that goes on has this id
abbrev pub IsOver : ℕ → List (Option Place) → Type 0
IsOver session places = (key : ℕ) (p : Place) → place_at places key ≡ Some p → IsLive p → p.session ≢ session

pub sound_freed : (session : ℕ) (held : Held) → IsMoment held.moment → session ≤ held.last_id → IsOver session held.places → IsSound held
    → IsSound (freed_of session held)
sound_freed session held now known over s =
    sound_told (freed held.rows session held.moment) held (freed_kept held.buses held.moment held.rows s.whole session)
    (λ key p e live. others p.session (over key p e live)) (λ id low. others id (λ is. omega (arith, low, is, known))) s
  where
    others : (id : ℕ) → id ≢ session
        → is_there (session_device id) (updated_all (freed held.rows session held.moment) held.rows)
        ≡ is_there (session_device id) held.rows
    others id apart = cc (freed_others held.buses held.rows s.whole held.moment session id apart)

-- ---- the beginning of a session

own_row : (id moment : ℕ) (mode : Mode) (rows : State) → is_there (session_device id) (updated (began id moment mode) rows) ≡ true
own_row id moment mode rows =
    cc (row_at-put_same
    (record { shown = record { key = first_key (session_device id); stamp = moment; value = value.Session mode }; due = None })
    rows)

other_row : (id other moment : ℕ) (mode : Mode) (rows : State) → other ≢ id
    → is_there (session_device other) (updated (began id moment mode) rows) ≡ is_there (session_device other) rows
other_row id other moment mode rows apart =
    cc (row_at-put_other (first_key (session_device other))
    (record { shown = record { key = first_key (session_device id); stamp = moment; value = value.Session mode }; due = None }) rows
    (false_from_ne_true _ (λ e.
    apart (cc (same_key-true (first_key (session_device id)) (first_key (session_device other)) e)))))

-- a place is the one whose session begins, or it was there
abbrev IsOneOf : List (Option Place) → ℕ → ℕ → ℕ → Place → Type 0
IsOneOf places key id m q = ((m ≡ key) × (q.session ≡ id)) ⊎ (place_at places m ≡ Some q)

entered_from : (places : List (Option Place)) (key id : ℕ) (mode : Mode) (m : ℕ) (q : Place)
    → place_at (changed_places key (begun_place id (panel_for mode)) places) m ≡ Some q → IsOneOf places key id m q
entered_from places key id mode m q e = by (place_at places key) refl e
  where
    by : (o : Option Place) → place_at places key ≡ o → place_at (changed_in key (begun_place id (panel_for mode)) places o) m ≡ Some q
        → IsOneOf places key id m q
    by None at e = inr e
    by (Some p) at e = place (where_is m key)
      where
        place : Where m key → IsOneOf places key id m q
        place (Here s) =
            let here : place_at (slice_set places key (Some (begun_place id (panel_for mode) p))) m
            ≡ Some (begun_place id (panel_for mode) p) =
            rw s (place_set_here places key p (Some (begun_place id (panel_for mode) p)) at) in
            let same : begun_place id (panel_for mode) p ≡ q = cc in
            inl (s, cc)
        place (Away f) = inr (sym (place_set places key m (Some (begun_place id (panel_for mode) p)) f) ∙ e)

sessions_begun : (last id key : ℕ) (rows new : State) (old places : List (Option Place)) → id ≡ last + 1
    → ((other : ℕ) → other ≢ id → is_there (session_device other) new ≡ is_there (session_device other) rows)
    → is_there (session_device id) new ≡ true
    → ((m : ℕ) (q : Place) → place_at places m ≡ Some q → IsOneOf old key id m q) → AreSessions last rows old → AreSessions id new places
sessions_begun last id key rows new old places next others own from a = record {
  ids = λ m q e. fits m q (from m q e);
  apart = λ m n q r e g low same. alone m n q r low same (from m q e) (from n r g);
  there = λ m q e live. row m q live (from m q e);
  later = λ other low. others other (λ s. omega (arith, low, s)) ∙ a.later other (omega (arith, low, next));
}
  where
    fits : (m : ℕ) (q : Place) → IsOneOf old key id m q → q.session ≤ id
    fits m q (inl h) = omega (arith, h.1)
    fits m q (inr h) = let i = a.ids m q h in omega (arith, i, next)

    alone : (m n : ℕ) (q r : Place) → 0 < q.session → q.session ≡ r.session → IsOneOf old key id m q → IsOneOf old key id n r → m ≡ n
    alone m n q r low same (inl h) (inl k) = h.0 ∙ sym k.0
    alone m n q r low same (inl h) (inr k) = let i = a.ids n r k in absurd (omega (arith, i, h.1, same, next))
    alone m n q r low same (inr h) (inl k) = let i = a.ids m q h in absurd (omega (arith, i, k.1, same, next))
    alone m n q r low same (inr h) (inr k) = a.apart m n q r h k low same

    row : (m : ℕ) (q : Place) → IsLive q → IsOneOf old key id m q → is_there (session_device q.session) new ≡ true
    row m q live (inl h) = cc h.1
    row m q live (inr h) = others q.session (λ s. let i = a.ids m q h in omega (arith, i, s, next)) ∙ a.there m q h live

pub sound_begun : (key id : ℕ) (mode : Mode) (held : Held) → IsMoment held.moment → id ≡ held.last_id + 1 → id ≤ 4294967295 → IsSound held
    → IsSound (session_begun key id mode held)
sound_begun key id mode held now next high s =
    let update = began id held.moment mode in
    let mid : Held = carried (update ∷ []) (record held { last_id = id }) in
    let covered =
    sessions_covered held.last_id held.rows held.places mid.places
    (covers_told_each (map change_in (update ∷ [])) held.places) s.sessions in
    let told = told_each_count (map change_in (update ∷ [])) held.places in
    let count = changed_count key (begun_place id (panel_for mode)) mid.places in
    record {
      moment = s.moment;
      few = omega (arith, s.few, told, count);
      whole =
          step_whole held.buses held.rows (Began id held.moment mode) s.whole (omega (arith, next), high) now;
      sessions =
          sessions_begun held.last_id id key held.rows mid.rows mid.places
          (changed_places key (begun_place id (panel_for mode)) mid.places) next
          (λ other apart. other_row id other held.moment mode held.rows apart) (own_row id held.moment mode held.rows)
          (entered_from mid.places key id mode) covered;
    }

-- ---- the end of a connection

-- no other connection has the session of the one that is gone
pub over_free : (key : ℕ) (held : Held) (p : Place) → at held key ≡ Some p → 0 < p.session → IsSound held
    → IsOver p.session (slice_set held.places key None)
over_free key held p e began s m q f live same =
    let c = covers_free held.places key p e m q f in
    free_other held.places key p e m q f
    (s.sessions.apart m key c.p p c.there e (rw (← c.mild.session) live.began) (cc c.mild.session))

-- and none has that of a connection whose session ended
pub over_ended : (key : ℕ) (held : Held) (p : Place) → at held key ≡ Some p → 0 < p.session → p.ended ≡ true → IsSound held
    → IsOver p.session held.places
over_ended key held p e began ended s m q f live same =
    let k : m ≡ key = s.sessions.apart m key q p f e live.began same in
    let is : Some q ≡ Some p = cc in
    let one : q ≡ p = cc in
    let off : q.ended ≡ true = cc in
    let on : q.ended ≡ false = live.not_ended in
    let bad : true ≡ false = cc in
    cc

-- ---- as the calls find it

pub begun_is : (held : Held) (key id : ℕ) (mode : Mode) (panel : Panel) (rows : State) (change : Change) (told places : List (Option Place))
    → panel ≡ panel_for mode → rows ≡ updated (began id held.moment mode) held.rows → change ≡ (began id held.moment mode).change
    → told ≡ told_all change held.places → places ≡ changed_places key (begun_place id panel) told
    → record held { rows = rows; last_id = id; places = places } ≡ session_begun key id mode held
begun_is held key id mode panel rows change told places e r c t p = cc

pub sound_carried_as : (held : Held) (updates : List Update) (rows : State) (places : List (Option Place))
    → rows ≡ updated_all updates held.rows → places ≡ told_each (map change_in updates) held.places → IsSound (carried updates held)
    → IsSound (record held { rows = rows; places = places })
sound_carried_as held updates rows places r p s = rw p (rw r s)

-- a connection's session ends by its own command
pub sound_ended : (key session : ℕ) (held : Held) → IsMoment held.moment → IsSessionAt session key held → IsSound held
    → IsSound (freed_of session (changed_at key (λ p. record p { ended = true }) held))
sound_ended key session held now here s =
    let ends : Place → Place = λ p. record p { ended = true } in
    let later = sound_changed_at key ends held (λ p. record { session = refl; ended = λ h. cc; panel = refl }) s in
    let now_there : at (changed_at key ends held) key ≡ Some (ends here.place) =
    cc (here.here, place_set_here held.places key here.place (Some (ends here.place)) here.here) in
    sound_freed session (changed_at key ends held) now (subst (λ n. n ≤ held.last_id) here.own (s.sessions.ids key here.place here.here))
    (subst (λ n. IsOver n (changed_at key ends held).places) here.own
    (over_ended key (changed_at key ends held) (ends here.place) now_there here.live.began refl later))
    later

pub sound_moment : (held : Held) (moment : ℕ) → IsMoment moment → IsSound held → IsSound (record held { moment = moment })
sound_moment held moment now s = assumption now

pub live_session_is : (p : Place) (session : ℕ) → Some session ≡ live_session_of (Some p) → (session ≡ p.session) × (0 < session)
live_session_is p session e = by (p.session == 0) refl p.ended e
  where
    by : (none : Bool) → (p.session == 0) ≡ none → (ended : Bool) → Some session ≡ (if none || ended then None else Some p.session)
        → (session ≡ p.session) × (0 < session)
    by true q ended e = cc
    by false q true e = cc
    by false q false e =
        let own : session ≡ p.session = cc in (own, rw own (pos_of_ne-zero (eqb-false p.session 0 q)))

-- a connection that is taken out, and then its session
pub sound_hung_up : (key : ℕ) (held : Held) (p : Place) (session : ℕ) → at held key ≡ Some p → session ≡ p.session → 0 < session
    → open_count (freed_place key held) ≤ open_count held → IsSound held → IsSound (freed_of session (freed_place key held))
sound_hung_up key held p session e own began fewer s =
    sound_freed session (freed_place key held) s.moment (subst (λ n. n ≤ held.last_id) (sym own) (s.sessions.ids key p e))
    (subst (λ n. IsOver n (freed_place key held).places) (sym own) (over_free key held p e (subst (λ n. 0 < n) own began) s))
    (sound_places held (slice_set held.places key None) (covers_free held.places key p e) fewer s)

pub filled_mild : (rows : List Shown) (p : Place) → IsMild p (filled rows p)
filled_mild rows p = by p.unsent p.panel refl
  where
    by : (bytes : List ℕ) (panel : Panel) → p.panel ≡ panel → IsMild p (filled_from rows p bytes (feed_in panel))
    by (byte ∷ bytes) panel e = mild_itself p
    by [] Absent e = mild_itself p
    by [] (Listening feed) e = record { session = refl; ended = λ h. h; panel = cc }
    by [] Overran e = mild_itself p

pub sound_place : (key : ℕ) (held : Held) (p q : Place) → at held key ≡ Some p → IsMild p q → IsSound held
    → IsSound (record held { places = slice_set held.places key (Some q) })
sound_place key held p q e mild s =
    sound_places held (slice_set held.places key (Some q)) (covers_set held.places key p q e mild)
    (let c = set_count held.places key p q e in omega (arith, c)) s
