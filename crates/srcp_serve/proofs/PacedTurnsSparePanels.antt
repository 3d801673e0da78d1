-- A turn that brings no more changes than the door was told makes no panel overrun.
use Rattle.srcp_serve.proofs.Names.{drop, ◌≡◌, ◌∙◌, ℕ, List, [], ◌∷◌, ◌++◌, map, refl, ap, sym, append-nil, append_assoc, zero, suc, length}
use Rattle.srcp_serve.proofs.Names.{filter_map, flat_map, fold, Bus, Event, At, Open, Accepted, Call, ExpectCall, Stand, begun, moment_of}
use Rattle.srcp_serve.proofs.Names.{accept_of, clients, timed, turned, visit_events, with_accept, with_moment, Expects, OfEachTurn}
use Rattle.srcp_serve.proofs.Names.{empty_stand, expects, question, turn_asks, turns, Connection, course, IsLayout, drop_at, IsOverrun}
use Rattle.srcp_serve.proofs.Names.{changes_left, slack, IsLight, IsPaced, ServingSparesAll, TurnsSpare, SparesPanels, changes_allowed}
use Rattle.srcp_core.proofs.CourseLaws.WaitsGrow.{few_close_none}
use Rattle.srcp_core.proofs.CourseLaws.LinesBringTheirWeight.{light_lines}
use Rattle.srcp_serve.proofs.CallsByTurnAndPeer.{accept_as, each_turn, turns_parted}

-- a peer that was accepted
abbrev pub opens : Accepted → Event
opens accept = Open accept.granted

-- the moments and the accepts
abbrev pub opening_events : List Call → List Event
opening_events calls = map At (filter_map moment_of calls) ++ map opens (filter_map accept_of calls)

module _ (buses : List Bus) where
  moments_events : (stand : Stand) (moments : List ℕ) → (fold (with_moment buses) stand moments).events ≡ stand.events ++ map At moments
  moments_events stand [] = sym (append-nil stand.events)
  moments_events stand (moment ∷ moments) = moments_events (with_moment buses stand moment) moments
      ∙ append_assoc stand.events (At moment ∷ []) (map At moments)

  accept_events : (stand : Stand) (accept : Accepted) → (with_accept buses stand accept).events ≡ stand.events ++ opens accept ∷ []
  accept_events stand accept = accept_as buses (λ (s : Stand). s.events ≡ stand.events ++ opens accept ∷ []) stand accept refl refl

  accepts_events : (stand : Stand) (connected : List Accepted)
      → (fold (with_accept buses) stand connected).events ≡ stand.events ++ map opens connected
  accepts_events stand [] = sym (append-nil _)
  accepts_events stand (accept ∷ connected) =
      cc (
        accepts_events (with_accept buses stand accept) connected,
        accept_events stand accept,
        append_assoc stand.events (opens accept ∷ []) (map opens connected),
      )

  pub begun_events : (stand : Stand) (calls : List Call) → (begun buses stand calls).events ≡ stand.events ++ opening_events calls
  begun_events stand calls =
      cc (
        accepts_events (timed buses stand calls) (filter_map accept_of calls),
        moments_events stand (filter_map moment_of calls),
        append_assoc stand.events (map At (filter_map moment_of calls)) (map opens (filter_map accept_of calls)),
      )

  -- all events of the turn
  abbrev pub turn_events : Stand → List Call → List Event
  turn_events stand calls = opening_events calls ++ flat_map (visit_events calls) (clients (begun buses stand calls).slots)

  pub turned_events : (stand : Stand) (calls : List Call) → (turned buses stand calls).events ≡ stand.events ++ turn_events stand calls
  turned_events stand calls = simp (begun_events, append_assoc)

-- ---- a turn that brings no more changes than the door was told makes no panel overrun

module _ (buses : List Bus) where
  -- what the door was told is how many changes may come
  allowed_by_slack : (stand : Stand) (calls : List Call) → map question calls ≡ turn_asks buses stand calls
      → changes_allowed calls ≡ changes_left (slack buses (course buses stand.events))
  allowed_by_slack stand (ExpectCall due slack_expected ∷ calls) e =
      let head : Expects due slack_expected ≡ expects buses stand.events = cc in
      let same : slack_expected ≡ slack buses (course buses stand.events) = cc in
      ap changes_left same
  allowed_by_slack stand other e = cc

  spares : (stand : Stand) (calls : List Call) → map question calls ≡ turn_asks buses stand calls → IsPaced buses stand calls
      → SparesPanels buses stand calls
  spares stand calls asked paced number later over =
      let same = turned_events buses stand calls in
      few_close_none buses stand.events _ (rw (allowed_by_slack stand calls asked, same) at paced) number later (rw same at over)

  pub light_spares : IsLayout buses → (stand : Stand) (calls : List Call) → map question calls ≡ turn_asks buses stand calls
      → IsLight buses stand calls → SparesPanels buses stand calls
  light_spares layout stand calls asked light number later over =
      let more = turn_events buses stand calls in
      let same = turned_events buses stand calls in
      let events : drop (length stand.events) (turned buses stand calls).events ≡ more =
      cc (drop_at stand.events more (length stand.events) refl) in
      let few = rw (allowed_by_slack stand calls asked, events, same) at light in
      light_lines buses layout stand.events more few number later (rw same at over)

  -- ---- turn after turn

  -- so none ever overran
  all_spared : (Law : Stand → List Call → Type 0) (stand : Stand) (all : List (List Call))
      → OfEachTurn buses (λ stand calls. Law stand calls → SparesPanels buses stand calls) stand all → OfEachTurn buses Law stand all
      → ((number : ℕ) (later : Connection) → IsOverrun buses (course buses stand.events) number later → ⊥)
      → (number : ℕ) (later : Connection) → IsOverrun buses (course buses (fold (turned buses) stand all).events) number later → ⊥
  all_spared Law stand [] spare law none = none
  all_spared Law stand (calls ∷ all) spare law none =
      all_spared Law (turned buses stand calls) all spare.1 law.1
      (λ number later over. let was = spare.0 law.0 number later over in none number was.0 was.1)

  none_first : (number : ℕ) (later : Connection) → IsOverrun buses (course buses []) number later → ⊥
  none_first zero later over = let e = over.there in cc
  none_first (suc number) later over = let e = over.there in cc

  pub paced_spare : TurnsSpare buses (IsPaced buses)
  paced_spare count trace served =
      each_turn buses _ _ spares empty_stand (turns trace) (turns_parted buses empty_stand trace [] tt served.asked).1

  pub paced_spares_all : ServingSparesAll buses (IsPaced buses)
  paced_spares_all count trace served paced =
      all_spared (IsPaced buses) empty_stand (turns trace) (paced_spare count trace served) paced none_first

  pub light_spare : IsLayout buses → TurnsSpare buses (IsLight buses)
  light_spare layout count trace served =
      each_turn buses _ _ (light_spares layout) empty_stand (turns trace) (turns_parted buses empty_stand trace [] tt served.asked).1

  pub light_spares_all : IsLayout buses → ServingSparesAll buses (IsLight buses)
  light_spares_all layout count trace served light = all_spared _ _ _ (light_spare layout count trace served) light none_first
