-- If each read of the calls fits what may go at the pace of its turn, what the door hands out in a turn leaves the reserve.
use Rattle.std.specs.Prelude.{⊤}
use Rattle.srcp_serve.proofs.Names.{◌≡◌, ℕ, ◌+◌, ◌-◌, ◌≤◌, ◌==◌, ◌&&◌, Bool, true, false, max, cond, List, [], ◌∷◌, ◌++◌, map, arith}
use Rattle.srcp_serve.proofs.Names.{Option, Some, None, append-nil, append_assoc, nat_lt, nat_tests, filter_map, flat_map}
use Rattle.srcp_serve.proofs.Names.{all_append, refl, AllByRecursion, Bus, Connection, Call, ExpectCall, NowCall, AcceptCall, ReadCall}
use Rattle.srcp_serve.proofs.Names.{WriteCall, CloseCall, Stand, course, events_of, IsFair, IsLayout, IsOverrun, IsServed, accept_of, begun}
use Rattle.srcp_serve.proofs.Names.{changes_left, clients, empty_stand, question, refuses, timed, turn_asks, turned, turns, visits_ask}
use Rattle.srcp_door.specs.Pacing.{fits, pace_of, spent}
use Rattle.srcp_door.specs.declared.pacing.Pace.{Pace}
use Rattle.srcp_door.specs.declared.pacing.Pace.TheVariants.{Paced, OneLine}
use Rattle.srcp_serve.specs.Serving.{PeersDiffer}
use Rattle.srcp_serve.specs.Pacing.{FitsReserve, LeavesReserve, OfEachTurnAfter, weighed, weighed_in}
use Rattle.srcp_serve.proofs.CallsByTurnAndPeer.{AreOfPeers, AreTurnsAsked, asks_peer, refused_peers, turns_parted, visits_peers}
use Rattle.srcp_serve.proofs.ReadsSparePanels.{reads_spare_all}
use Rattle.srcp_serve.proofs.TurnsCarryStreams.{joined, whole}

-- each read of the calls fits what may go after the calls before; a moment begins a pace, by the slack that was told last
abbrev pub ReadsFit : (slack : Option ℕ) → Pace → (past calls : List Call) → Type 0
ReadsFit slack pace past [] = ⊤
ReadsFit slack pace past (ExpectCall due told ∷ calls) = ReadsFit told pace (past ++ ExpectCall due told ∷ []) calls
ReadsFit slack pace past (NowCall answer ∷ calls) =
    (tick : Bool) × ReadsFit slack (pace_of slack tick) (past ++ NowCall answer ∷ []) calls
ReadsFit slack pace past (ReadCall peer answer buffer grants ∷ calls) =
    (fits pace (weighed_in past (ReadCall peer answer buffer grants)) ≡ true)
    × ReadsFit slack (spent pace (weighed_in past (ReadCall peer answer buffer grants)))
    (past ++ ReadCall peer answer buffer grants ∷ []) calls
ReadsFit slack pace past (AcceptCall answer granted ∷ calls) = ReadsFit slack pace (past ++ AcceptCall answer granted ∷ []) calls
ReadsFit slack pace past (WriteCall peer bytes answer ∷ calls) = ReadsFit slack pace (past ++ WriteCall peer bytes answer ∷ []) calls
ReadsFit slack pace past (CloseCall peer answer ∷ calls) = ReadsFit slack pace (past ++ CloseCall peer answer ∷ []) calls

-- how much may go at a pace
abbrev most_at : Pace → ℕ
most_at (Paced left) = left
most_at OneLine = 11

sum_fits : (pace : Pace) (weight more : ℕ) → fits pace weight ≡ true → more ≤ most_at (spent pace weight) → weight + more ≤ most_at pace
sum_fits (Paced left) weight more e h = let fit : weight ≤ left = grind (arith, nat_tests) in omega (arith, fit, h)
sum_fits OneLine weight more e h = by (weight == 0) refl h
  where
    by : (b : Bool) → (weight == 0) ≡ b → more ≤ most_at (cond b OneLine (Paced 0)) → weight + more ≤ 11
    by true none h = let zero : weight ≡ 0 = grind (arith, nat_tests) in omega (arith, zero, h)
    by false none h = let fit : weight ≤ 11 = grind (arith, nat_tests) in omega (arith, fit, h)

begins_with : (slack : Option ℕ) (tick : Bool) → most_at (pace_of slack tick) ≤ max (changes_left slack - 160) 11
begins_with None tick = by (tick && nat_lt (256 - 160) 11)
  where
    by : (b : Bool) → most_at (cond b OneLine (Paced (256 - 160))) ≤ max (256 - 160) 11
    by true = omega arith
    by false = omega arith
begins_with (Some left) tick = by (tick && nat_lt (left - 160) 11)
  where
    by : (b : Bool) → most_at (cond b OneLine (Paced (left - 160))) ≤ max (left - 160) 11
    by true = omega arith
    by false = omega arith

-- calls about peers hand out no more than may go
peers_fit : (slack : Option ℕ) (pace : Pace) (past calls more : List Call) → AreOfPeers (map question calls)
    → ReadsFit slack pace past (calls ++ more)
    → (weighed past calls ≤ most_at pace) × ((later : Pace) × ReadsFit slack later (past ++ calls) more)
peers_fit slack pace past [] more own fit = (omega arith, (pace, rw (append-nil past) fit))
peers_fit slack pace past (ReadCall peer answer buffer grants ∷ calls) more own fit =
    let call = ReadCall peer answer buffer grants in
    let weight = weighed_in past call in
    let rest = peers_fit slack (spent pace weight) (past ++ call ∷ []) calls more own.1 fit.1 in
    (sum_fits pace weight (weighed (past ++ call ∷ []) calls) fit.0 rest.0, (rest.1.0, rw append_assoc at rest.1.1))
peers_fit slack pace past (WriteCall peer bytes answer ∷ calls) more own fit =
    let rest = peers_fit slack pace (past ++ WriteCall peer bytes answer ∷ []) calls more own.1 fit in
    (let few = rest.0 in omega (arith, few), (rest.1.0, rw append_assoc at rest.1.1))
peers_fit slack pace past (CloseCall peer answer ∷ calls) more own fit =
    let rest = peers_fit slack pace (past ++ CloseCall peer answer ∷ []) calls more own.1 fit in
    (let few = rest.0 in omega (arith, few), (rest.1.0, rw append_assoc at rest.1.1))
peers_fit slack pace past (ExpectCall due told ∷ calls) more own fit = let no = own.0 in cc
peers_fit slack pace past (NowCall answer ∷ calls) more own fit = let no = own.0 in cc
peers_fit slack pace past (AcceptCall answer granted ∷ calls) more own fit = let no = own.0 in cc

module _ (buses : List Bus) where
  -- so it is with those of a turn
  turn_leaves : (slack : Option ℕ) (pace : Pace) (past : List Call) (stand : Stand) (calls more : List Call)
      → map question calls ≡ turn_asks buses stand calls → ReadsFit slack pace past (calls ++ more)
      → LeavesReserve past stand calls
      × ((told : Option ℕ) × ((later : Pace) × ReadsFit told later (past ++ calls) more))
  turn_leaves slack pace past stand (ExpectCall due told ∷ NowCall moment ∷ AcceptCall answer granted ∷ calls) more asked fit =
      let turn = ExpectCall due told ∷ NowCall moment ∷ AcceptCall answer granted ∷ calls in
      let refused = flat_map (refuses buses (timed buses stand turn).events) (filter_map accept_of turn) in
      let visits = visits_ask buses (begun buses stand turn).events turn (clients (begun buses stand turn).slots) in
      let rest : map question calls ≡ refused ++ visits = cc in
      let peers : AreOfPeers (map question calls) =
      rw rest (all_append (λ q. asks_peer q ≡ true) refused visits (refused_peers buses (timed buses stand turn).events _)
      (visits_peers buses (begun buses stand turn).events turn _)) in
      let before = ((past ++ ExpectCall due told ∷ []) ++ NowCall moment ∷ []) ++ AcceptCall answer granted ∷ [] in
      let same : before ++ calls ≡ past ++ turn = simp append_assoc in
      let all = peers_fit told (pace_of told fit.0) before calls more peers fit.1 in
      let few = all.0 in
      let most = begins_with told fit.0 in
      (omega (arith, few, most), (told, (all.1.0, rw same at all.1.1)))
  turn_leaves slack pace past stand other more asked fit = cc

  turns_leave : (slack : Option ℕ) (pace : Pace) (past : List Call) (stand : Stand) (all : List (List Call))
      → AreTurnsAsked buses stand all → ReadsFit slack pace past (joined all) → OfEachTurnAfter buses LeavesReserve past stand all
  turns_leave slack pace past stand [] asked fit = tt
  turns_leave slack pace past stand (calls ∷ all) asked fit =
      let here = turn_leaves slack pace past stand calls (joined all) asked.0 fit in
      (here.0, turns_leave here.1.0 here.1.1.0 (past ++ calls) (turned buses stand calls) all asked.1 here.1.1.1)

  -- if in each turn moments and ends of sessions fit the reserve then, no panel ever overran
  pub fit_reads_spare : IsLayout buses → (count : ℕ) (trace : List Call) → IsServed buses count trace → PeersDiffer buses trace
      → AllByRecursion IsFair trace → ReadsFit None (Paced 0) [] trace
      → OfEachTurnAfter buses (FitsReserve buses) [] empty_stand (turns trace)
      → (number : ℕ) (later : Connection) → IsOverrun buses (course buses (events_of buses trace)) number later → ⊥
  fit_reads_spare layout count trace served differ fair fit =
      let same = whole buses count trace served differ fair in
      reads_spare_all buses layout count trace served differ fair
      (turns_leave None (Paced 0) [] empty_stand (turns trace) (turns_parted buses empty_stand trace [] tt served.asked).1 (rw same fit))
