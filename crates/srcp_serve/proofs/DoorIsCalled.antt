-- What the methods of a server ask of its door, call after call, and how failed calls are counted.
use Rattle.srcp_serve.proofs.Names.{◌≡◌, ◌∙◌, ℕ, ◌+◌, true, not, List, [], ◌∷◌, ◌++◌, Option, refl, append-nil, length-append, ◌≤◌, arith}
use Rattle.srcp_serve.proofs.Names.{flat_map-append, list_all-append, all_append, list_all, AllByRecursion, flat_map, Trace}
use Rattle.srcp_serve.proofs.Names.{AreAboutPeers, AreTurns, AreMoment, Asks, AreAccept, IsTurn, is_of_peer}
use Rattle.srcp_door.specs.Calls.{Call, ExpectCall, NowCall, AcceptCall, IsFair, is_expect, turns}
use Rattle.srcp_serve.proofs.CallsByTurnAndPeer.{one_part, parts-append}
use Rattle.srcp_serve.proofs.CallsAreAdded.{adds_none, adds_then}
use Rattle.srcp_serve.specs.Tally.{CountsFaults, CallsDoor}
use Rattle.srcp_serve.specs.declared.serving.Server.{Server}

pub of_peers_then : (xs ys : List Call) → AreAboutPeers xs → AreAboutPeers ys → AreAboutPeers (xs ++ ys)
of_peers_then xs ys x y = record {
  peers = rw (list_all-append, x.peers) y.peers;
  fair = all_append IsFair xs ys x.fair y.fair;
}

pub asks_none : (old : Trace) → Asks AreAboutPeers old old
asks_none old trace is = ([], adds_none is, record { peers = refl; fair = tt })

-- calls that are so, and then others
pub asks_then : {A B C : List Call → Type 0} → ((xs ys : List Call) → A xs → B ys → C (xs ++ ys)) → (old mid new : Trace)
    → Asks A old mid → Asks B mid new → Asks C old new
asks_then join old mid new first second trace is =
    let y = second trace is in
    let x = first _ y.1.was in
    (x.0 ++ y.0, adds_then y.1.was x.1 y.1, join x.0 y.0 x.2 y.2)

pub turn_begins : (xs ys : List Call) → AreMoment xs → AreAccept ys → IsTurn (xs ++ ys)
turn_begins (ExpectCall due slack ∷ NowCall answer ∷ []) ys x y = y
turn_begins other ys x y = absurd x

pub turn_goes_on : (xs ys : List Call) → IsTurn xs → AreAboutPeers ys → IsTurn (xs ++ ys)
turn_goes_on (ExpectCall due slack ∷ NowCall now ∷ AcceptCall answer ∷ rest) ys t y = of_peers_then rest ys t y
turn_goes_on other ys t y = absurd t

-- ---- turn after turn

pub not_now : (calls : List Call) → list_all is_of_peer calls ≡ true → list_all (λ call. not (is_expect call)) calls ≡ true
not_now [] h = refl
not_now (ExpectCall due slack ∷ calls) h = cc
not_now (NowCall answer ∷ calls) h = cc
not_now (AcceptCall answer ∷ calls) h = cc
not_now (call ∷ calls) h = not_now calls h

pub turns_none : (old : Trace) → Asks (AreTurns 0) old old
turns_none old trace is = ([], adds_none is, record { many = refl; each = tt; all = refl })

pub one_more_turn : {count : ℕ} (trace calls : List Call) → AreTurns count trace → IsTurn calls → AreTurns (count + 1) (trace ++ calls)
one_more_turn trace (ExpectCall due slack ∷ NowCall now ∷ AcceptCall answer ∷ rest) so t =
    let later = NowCall now ∷ AcceptCall answer ∷ rest in
    let whole = ExpectCall due slack ∷ later in
    let alone = one_part is_expect later (not_now rest t.peers) in
    let last : turns whole ≡ whole ∷ [] = rw (alone.0, alone.1) refl in
    let all : turns (trace ++ whole) ≡ turns trace ++ whole ∷ [] = rw (parts-append, last) refl in
    record {
      many = rw (all, length-append, so.many) refl;
      each = rw all (all_append IsTurn (turns trace) (whole ∷ []) so.each (t, tt));
      all = rw (all, flat_map-append, so.all, append-nil) refl;
    }
one_more_turn trace other so t = absurd t

-- each answer of a turn is one that the door may give, and so is each of all turns
fair_turn : (calls : List Call) → IsTurn calls → AllByRecursion IsFair calls
fair_turn (ExpectCall due slack ∷ NowCall now ∷ AcceptCall answer ∷ rest) t = (tt, (tt, (tt, t.fair)))
fair_turn other t = absurd t

fair_each : (all : List (List Call)) → AllByRecursion IsTurn all → AllByRecursion IsFair (flat_map (λ turn. turn) all)
fair_each [] h = tt
fair_each (calls ∷ all) h = all_append IsFair calls _ (fair_turn calls h.0) (fair_each all h.1)

pub fair_turns : {count : ℕ} (calls : List Call) → AreTurns count calls → AllByRecursion IsFair calls
fair_turns calls t = rw t.all at (fair_each (turns calls) t.each)

-- ---- counting the failures of a door

-- no call failed
pub none_failed : (tally count count_later : ℕ) → tally ≤ count → count_later ≡ count → CountsFaults tally count tally count_later
none_failed tally count _ le same = record {
  within = omega (arith, le, same);
  onward = λ low. omega (arith, same);
  exact = λ low. omega (arith, same);
}

-- some calls, and then others
pub counts_then : (a b c d e f : ℕ) → CountsFaults a b c d → CountsFaults c d e f → CountsFaults a b e f
counts_then a b c d e f first second = record {
  within = second.within;
  onward = λ low. omega (arith, first.onward, second.onward);
  exact = λ low. omega (arith, first.exact, second.onward, second.exact);
}

-- ---- what the methods of a server do to its door, call after call

module _ {D : Type 0} (faults : D → ℕ) (trace : D → Trace) (limit : D → Option ℕ) where
  -- no call
  pub calls_none : (s : Server D) → s.tally.faults ≤ faults s.door.now → CallsDoor faults trace limit AreAboutPeers s s
  calls_none s counted = record {
    same_door = refl;
    counted = none_failed _ _ _ counted refl;
    asks = asks_none (trace s.door.now);
    same_limit = refl;
  }

  -- some calls, and then others
  pub calls_then : {A B C : List Call → Type 0} → ((xs ys : List Call) → A xs → B ys → C (xs ++ ys)) → (s t u : Server D)
      → CallsDoor faults trace limit A s t → CallsDoor faults trace limit B t u → CallsDoor faults trace limit C s u
  calls_then join s t u first second = record {
    same_door = second.same_door ∙ first.same_door;
    counted = counts_then _ _ _ _ _ _ first.counted second.counted;
    asks = asks_then join _ _ _ first.asks second.asks;
    same_limit = second.same_limit ∙ first.same_limit;
  }

  -- calls about peers, and then others about peers
  pub calls_on : (s t u : Server D) → CallsDoor faults trace limit AreAboutPeers s t → CallsDoor faults trace limit AreAboutPeers t u
      → CallsDoor faults trace limit AreAboutPeers s u
  calls_on = calls_then of_peers_then
