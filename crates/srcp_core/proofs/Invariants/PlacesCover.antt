-- Places whose connections come from those of other places, with the sessions that these have.
use Rattle.srcp_core.proofs.Names.{◌≡◌, ◌≢◌, ℕ, zero, suc, false, List, [], ◌∷◌, refl, sym, ◌∙◌, subst, arith, option_map, ◌&&◌}
use Rattle.srcp_core.proofs.Names.{Option, Some, None, is_some, slice_set, count_by, Change, State, concerns, is_full, told, Place}
use Rattle.srcp_core.proofs.Names.{place_at, IsLive, AreSessions, is_panel, told_feed, told_place, told_all, told_each, feed_in}
use Rattle.srcp_core.proofs.Names.{changed_places, Panel, Absent, Listening, Overran, cond_both, length, ap, ◌≤◌}
use Rattle.srcp_core.proofs.Invariants.EveryPlaceIsTold.{count_by_cons, told_all_count, told_all_at}
use Rattle.std.proofs.lemmas.List.{get_or-set_other}

-- the session is the same, an end is not undone, and a panel stays one
pub record IsMild (p q : Place) : Type 0 where
  pub session : q.session ≡ p.session
  pub ended : q.ended ≡ false → p.ended ≡ false
  pub panel : is_panel q.panel ≡ is_panel p.panel

pub mild_itself : (p : Place) → IsMild p p
mild_itself p = record { session = refl; ended = λ h. h; panel = refl }

pub mild_live : (p q : Place) → IsMild p q → IsLive q → IsLive p
mild_live p q m l = record { began = rw (← m.session) l.began; not_ended = m.ended l.not_ended }

-- where a connection comes from
pub record Source (places : List (Option Place)) (key : ℕ) (q : Place) : Type 0 where
  pub p : Place
  pub there : place_at places key ≡ Some p
  pub mild : IsMild p q

abbrev pub Covers : List (Option Place) → List (Option Place) → Type 0
Covers old new = (key : ℕ) (q : Place) → place_at new key ≡ Some q → Source old key q

pub covers_itself : (places : List (Option Place)) → Covers places places
covers_itself places key q e = record { p = q; there = e; mild = mild_itself q }

pub covers_across : (a b c : List (Option Place)) → Covers a b → Covers b c → Covers a c
covers_across a b c f g key q e =
    let s = g key q e in
    let t = f key s.p s.there in
    record {
      p = t.p;
      there = t.there;
      mild = record {
        session = s.mild.session ∙ t.mild.session;
        ended = λ h. t.mild.ended (s.mild.ended h);
        panel = s.mild.panel ∙ t.mild.panel;
      };
    }

-- ---- a place is set

pub no_place : (key : ℕ) (p : Place) → place_at [] key ≡ Some p → ⊥
no_place zero p e = cc
no_place (suc key) p e = cc

pub place_set : (places : List (Option Place)) (key m : ℕ) (slot : Option Place) → m ≢ key
    → place_at (slice_set places key slot) m ≡ place_at places m
place_set places key m slot h = get_or-set_other places key m slot None h

pub place_set_here : (places : List (Option Place)) (key : ℕ) (p : Place) (slot : Option Place) → place_at places key ≡ Some p
    → place_at (slice_set places key slot) key ≡ slot
place_set_here [] key p slot h = absurd (no_place key p h)
place_set_here (x ∷ places) zero p slot h = refl
place_set_here (x ∷ places) (suc key) p slot h = place_set_here places key p slot h

pub data Where (m n : ℕ) : Type 0 where
  Here : m ≡ n → Where m n
  Away : m ≢ n → Where m n

pub where_is : (m n : ℕ) → Where m n
where_is zero zero = Here refl
where_is zero (suc n) = Away (λ e. omega (arith, e))
where_is (suc m) zero = Away (λ e. omega (arith, e))
where_is (suc m) (suc n) = elim (where_is m n) [ Here e ↦ Here (cc) | Away f ↦ Away (λ e. f (omega (arith, e))) ]

pub covers_set : (places : List (Option Place)) (key : ℕ) (p q : Place) → place_at places key ≡ Some p → IsMild p q
    → Covers places (slice_set places key (Some q))
covers_set places key p q at mild m r e = by (where_is m key)
  where
    by : Where m key → Source places m r
    by (Here s) =
        let here : place_at (slice_set places key (Some q)) m ≡ Some q = rw s (place_set_here places key p _ at) in
        let same : q ≡ r = cc in
        record { p = p; there = rw s at; mild = subst (IsMild p) same mild }
    by (Away f) = record { p = r; there = sym (place_set places key m _ f) ∙ e; mild = mild_itself r }

pub free_other : (places : List (Option Place)) (key : ℕ) (p : Place) → place_at places key ≡ Some p → (m : ℕ) (r : Place)
    → place_at (slice_set places key None) m ≡ Some r → m ≢ key
free_other places key p at m r e s =
    let here : place_at (slice_set places key None) m ≡ None = rw s (place_set_here places key p None at) in
    let bad : Some r ≡ None = cc in
    cc

pub covers_free : (places : List (Option Place)) (key : ℕ) (p : Place) → place_at places key ≡ Some p
    → Covers places (slice_set places key None)
covers_free places key p at m r e =
    record { p = r; there = sym (place_set places key m None (free_other places key p at m r e)) ∙ e; mild = mild_itself r }

-- ---- a change is told

-- no more than what is unsent and the panel of a place changes, and no byte comes to it
pub record IsTold (p q : Place) : Type 0 where
  pub is : q ≡ record p { unsent = q.unsent; panel = q.panel }
  pub fewer : length q.unsent ≤ length p.unsent
  pub panel : is_panel q.panel ≡ is_panel p.panel

pub told_so : (change : Change) (p : Place) → IsTold p (told_place change p)
told_so change p = by p.panel refl
  where
    by : (panel : Panel) → p.panel ≡ panel → IsTold p (told_feed change p (feed_in panel))
    by Absent e = record { is = refl; fewer = omega arith; panel = refl }
    by Overran e = record { is = refl; fewer = omega arith; panel = refl }
    by (Listening feed) e =
        cond_both (concerns feed.cursor change && is_full feed) (record p { unsent = []; panel = Overran })
        (record p { panel = Listening (told change feed) }) (IsTold p)
        (λ _. record { is = refl; fewer = omega arith; panel = cc }) (λ _. record { is = refl; fewer = omega arith; panel = cc })

pub told_mild : (change : Change) (p : Place) → IsMild p (told_place change p)
told_mild change p =
    let t = told_so change p in
    record { session = ap (λ q. q.session) t.is; ended = λ h. sym (ap (λ q. q.ended) t.is) ∙ h; panel = t.panel }

pub covers_told : (change : Change) (places : List (Option Place)) → Covers places (told_all change places)
covers_told change places key q e = by _ refl (sym (told_all_at change places key) ∙ e)
  where
    by : (o : Option Place) → place_at places key ≡ o → option_map (told_place change) o ≡ Some q → Source places key q
    by None at h = cc
    by (Some p) at h = let same : told_place change p ≡ q = cc in record {
      p = p;
      there = at;
      mild = subst (IsMild p) same (told_mild change p);
    }

pub covers_told_each : (changes : List Change) (places : List (Option Place)) → Covers places (told_each changes places)
covers_told_each [] places = covers_itself places
covers_told_each (change ∷ changes) places =
    covers_across places (told_all change places) (told_each changes (told_all change places)) (covers_told change places)
    (covers_told_each changes (told_all change places))

pub told_each_count : (changes : List Change) (places : List (Option Place))
    → count_by is_some (told_each changes places) ≡ count_by is_some places
told_each_count [] places = refl
told_each_count (change ∷ changes) places = told_each_count changes _ ∙ told_all_count change places

-- ---- how many are open

pub set_count : (places : List (Option Place)) (key : ℕ) (p q : Place) → place_at places key ≡ Some p
    → count_by is_some (slice_set places key (Some q)) ≡ count_by is_some places
set_count [] key p q h = refl
set_count (None ∷ places) zero p q h = cc
set_count (Some x ∷ places) zero p q h = count_by_cons is_some (Some q) places ∙ sym (count_by_cons is_some (Some x) places)
set_count (x ∷ places) (suc key) p q h =
    cc (count_by_cons is_some x (slice_set places key (Some q)), set_count places key p q h, count_by_cons is_some x places)

-- ---- the sessions

pub sessions_covered : (last : ℕ) (rows : State) (old new : List (Option Place)) → Covers old new → AreSessions last rows old
    → AreSessions last rows new
sessions_covered last rows old new f a = record {
  ids = λ key q e. let s = f key q e in rw s.mild.session (a.ids key s.p s.there);
  apart = λ m n q r e g low same.
      let s = f m q e in
      let t = f n r g in
      a.apart m n s.p t.p s.there t.there (rw (← s.mild.session) low) (sym s.mild.session ∙ same ∙ t.mild.session);
  there = λ key q e live.
      let s = f key q e in
      cc (s.mild.session, a.there key s.p s.there (mild_live s.p q s.mild live));
  later = a.later;
}

-- ---- the connection at one place is changed

-- by the connection that was found there
pub set_as : (places : List (Option Place)) (key : ℕ) (change : Place → Place) (p q : Place) → place_at places key ≡ Some p → q ≡ change p
    → slice_set places key (Some q) ≡ changed_places key change places
set_as places key change p q there is = cc

-- nothing, where there is none
pub none_as : (places : List (Option Place)) (key : ℕ) (change : Place → Place) → place_at places key ≡ None
    → places ≡ changed_places key change places
none_as places key change none = cc
