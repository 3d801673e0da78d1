-- What is unsent, and whose session goes on, while lines are answered.
use Rattle.srcp_core.proofs.Names.{◌≡◌, ℕ, ◌+◌, ◌<◌, ◌≤◌, true, List, [], ◌∷◌, map, length, ap, sym, ◌∙◌, subst, arith, option_map, Option}
use Rattle.srcp_core.proofs.Names.{Some, None, lt-ltb, Change, Reply, Accepted, Protocol, Go, Refused, Shows, Mode, session_device, Update}
use Rattle.srcp_core.proofs.Names.{is_there, Place, Held, place_at, IsLive, IsSound, IsSessionAt, told_place, told_all, told_each, carried}
use Rattle.srcp_core.proofs.Names.{unsent_of, changed_in, with_unsent, longest, session_begun, nat_lt, Greets, Goes, refl}
use Rattle.srcp_info.specs.declared.change.Reply.TheVariants.{Mode as ModeReply}
use Rattle.srcp_core.specs.Machine.{replied, answered}
use Rattle.srcp_core.proofs.Invariants.EveryPlaceIsTold.{told_all_at}
use Rattle.srcp_core.proofs.Invariants.ChangesOneByOne.{change_in}
use Rattle.srcp_core.proofs.Invariants.PlacesCover.{place_set_here, told_so}

-- ---- what is unsent

slot_shorter : (change : Change) (o : Option Place) → length (unsent_of (option_map (told_place change) o)) ≤ length (unsent_of o)
slot_shorter change None = omega arith
slot_shorter change (Some p) = (told_so change p).fewer

pub told_each_shorter : (changes : List Change) (places : List (Option Place)) (key : ℕ)
    → length (unsent_of (place_at (told_each changes places) key)) ≤ length (unsent_of (place_at places key))
told_each_shorter [] places key = omega arith
told_each_shorter (change ∷ changes) places key =
    let rest = told_each_shorter changes (told_all change places) key in
    let one = slot_shorter change (place_at places key) in
    let is = ap (λ (o : Option Place). length (unsent_of o)) (told_all_at change places key) in
    omega (arith, rest, one, is)

pub longest_most : (reply : Reply) → longest reply ≤ 126
longest_most Accepted = omega arith
longest_most Protocol = omega arith
longest_most ModeReply = omega arith
longest_most (Go id) = omega arith
longest_most (Shows shown) = omega arith
longest_most (Refused code) = omega arith

-- ---- the session that goes on

-- the connection at the place of these, with its session
pub record IsSessionIn (session key : ℕ) (places : List (Option Place)) : Type 0 where
  pub place : Place
  pub here : place_at places key ≡ Some place
  pub own : place.session ≡ session
  pub live : IsLive place

told_session : (session key : ℕ) (changes : List Change) (places : List (Option Place)) → IsSessionIn session key places
    → IsSessionIn session key (told_each changes places)
told_session session key [] places s = s
told_session session key (change ∷ changes) places s =
    let l = (told_so change s.place).is in
    told_session session key changes (told_all change places) (record {
      place = told_place change s.place;
      here = told_all_at change places key ∙ ap (option_map (told_place change)) s.here;
      own = ap (λ (q : Place). q.session) l ∙ s.own;
      live = record {
        began = subst (λ n. 0 < n) (sym (ap (λ (q : Place). q.session) l)) s.live.began;
        not_ended = ap (λ (q : Place). q.ended) l ∙ s.live.not_ended;
      };
    })

pub session_replied : (session key : ℕ) (reply : Reply) (updates : List Update) (held : Held) → IsSessionAt session key held
    → IsSessionAt session key (replied key reply (carried updates held))
session_replied session key reply updates held s =
    let t =
    told_session session key (map change_in updates) held.places
    (record { place = s.place; here = s.here; own = s.own; live = s.live }) in
    let line = with_unsent _ in
    record {
      place = line t.place;
      here =
          ap (λ (o : Option Place). place_at (changed_in key line (carried updates held).places o) key) t.here
          ∙ place_set_here (carried updates held).places key t.place _ t.here;
      own = t.own;
      live = record { began = t.live.began; not_ended = t.live.not_ended };
    }

-- its row is there
pub session_row : (session key : ℕ) (held : Held) → IsSound held → IsSessionAt session key held
    → is_there (session_device session) held.rows ≡ true
session_row session key held s h = rw (← h.own) (s.sessions.there key h.place h.here h.live)

-- a session that was given memory begins
pub goes_granted : (held : Held) (key : ℕ) (mode : Mode) (last : ℕ) (mid new : Held) → last < 4294967295 → last ≡ held.last_id
    → mid ≡ session_begun key (last + 1) mode held → new ≡ replied key (Go (last + 1)) mid
    → new ≡ answered true key (Greets mode Goes) held
goes_granted held key mode last mid new low is m n =
    let left : nat_lt held.last_id 4294967295 ≡ true = lt-ltb _ _ (rw (← is) low) in rw (n, m, is, left) refl
