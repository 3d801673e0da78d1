-- Settled panels hold the registry: by the core's law, since what the socket took is all that the connection was sent.
use Rattle.std.proofs.Common.{◌≡◌, ◌∙◌, ℕ, suc, ◌^◌, max, ◌<◌, ◌≤◌, List, [], ◌∷◌, length, refl, ap, sym}
use Rattle.std.proofs.Common.{subst, arith, Option, Some, None}
use Rattle.std.specs.Prelude.{flat_map, fold, slice_index_or}
use Rattle.std.specs.Io.{StartsWith}
use Rattle.std.proofs.lemmas.Bool.{and_parts, ltb-false}
use Rattle.std.proofs.lemmas.List.{take_all}
use Rattle.std.proofs.lemmas.Option.{get_or_from_slice_get, slice_get_within}
use Rattle.srcp_info.specs.WellFormed.{IsMoment}
use Rattle.srcp_grammar.specs.declared.layout.Bus.{Bus}
use Rattle.srcp_core.specs.Connection.{is_open, sent}
use Rattle.srcp_core.specs.Course.{World, accepted, counted, course, fault, happens, open_connection, or_refused, start}
use Rattle.srcp_core.specs.Under.{Event, Open, Bytes, Room, At, Shut}
use Rattle.srcp_core.specs.declared.record.CoreFault.{CoreFault}
use Rattle.srcp_core.proofs.CourseLaws.EventsKeep.{IsAnswered, kept_fed, kept_shut}
use Rattle.srcp_core.specs.Laws.{AllMoments, HasMoment}
use Rattle.srcp_core.proofs.CourseLaws.EveryCourse.{told_rightly}
use Rattle.srcp_serve.specs.Serving.{events_of, stand_after, taken as given_taken}
use Rattle.srcp_peers.specs.Accounts.{account}
use Rattle.srcp_peers.specs.Streams.{taken, taken_in, took}
use Rattle.srcp_peers.proofs.AccountsHoldStreams.{taken_is, took_is}
use Rattle.srcp_host.specs.Settled.{SettledPanelsHold}
use Rattle.srcp_host.proofs.SocketsFollowTheCourse.{at_index, taken_trace}

-- ---- each moment of the events has 64 bits, since the last one has

module _ (buses : List Bus) (n last : ℕ) where
  -- no answer to a line has another moment
  abbrev Stays : World → Type 0
  Stays w = w.moment ≡ last

  stays : IsAnswered buses n Stays
  stays = record {
    step = λ step w same. same;
    numbers = λ id w same. same;
    says = λ mode ends w plain same. same;
    answers = λ reply w plain same. same;
    enters = λ id reply w plain same. same;
  }

module _ (buses : List Bus) where
  no_earlier : (event : Event) (w : World) → w.moment ≤ (accepted buses event w).moment
  no_earlier (Open granted) w = omega arith
  no_earlier (Bytes n piece) w =
      let same = kept_fed buses n (Stays buses n w.moment) (stays buses n w.moment) piece (open_connection w n) w refl refl in
      omega (arith, same)
  no_earlier (Room n bytes) w = omega arith
  no_earlier (At moment) w = omega arith
  no_earlier (Shut n) w =
      let same = kept_shut buses n (Stays buses n w.moment) (stays buses n w.moment) (open_connection w n) w refl (λ conn e. refl) in
      omega (arith, same)

  no_earlier_then : (o : Option CoreFault) (event : Event) (w : World) → w.moment ≤ (or_refused buses o event w).moment
  no_earlier_then None event w = no_earlier event w
  no_earlier_then (Some cause) event w = omega arith

  has_moment : (event : Event) (w : World) → IsMoment (happens buses w event).moment → HasMoment event
  has_moment (Open granted) w fits = tt
  has_moment (Bytes n piece) w fits = tt
  has_moment (Room n bytes) w fits = tt
  has_moment (At moment) w fits = by w.moment fits
    where
      by : (now : ℕ) → max now moment < 2 ^ 64 → moment < 2 ^ 64
      by now few = omega (arith, few)
  has_moment (Shut n) w fits = tt

  grows : (events : List Event) (w : World) → w.moment ≤ (fold (happens buses) w events).moment
  grows [] w = omega arith
  grows (event ∷ events) w =
      let first : w.moment ≤ (happens buses w event).moment = no_earlier_then (fault buses (counted w) event) event (counted w) in
      let later = grows events (happens buses w event) in
      omega (arith, first, later)

  all_moments : (events : List Event) (w : World) → IsMoment (fold (happens buses) w events).moment → AllMoments events
  all_moments [] w fits = tt
  all_moments (event ∷ events) w fits =
      let next = happens buses w event in
      let later = grows events next in
      (has_moment event w (below next.moment _ later fits), all_moments events next fits)
    where
      below : (a b : ℕ) → a ≤ b → b < 2 ^ 64 → a < 2 ^ 64
      below a b few fits = omega (arith, few, fits)

-- ---- all that was taken

-- a prefix that is no shorter is all
whole : (xs ys : List ℕ) → StartsWith xs ys → length xs ≤ length ys → ys ≡ xs
whole xs ys starts long = sym starts ∙ take_all (length ys) xs long

pub settled_panels_hold : SettledPanelsHold
settled_panels_hold buses count opens log old core layout fits served k conn socket here peer settled free =
    let given = served.given in
    let events = events_of buses given.calls in
    let w = course buses events in
    let connected = (stand_after buses given.calls).connected in
    let within : k < length w.connections = slice_get_within w.connections k conn here in
    let is_conn : slice_index_or w.connections k conn ≡ conn = get_or_from_slice_get w.connections k conn conn here in
    let is_socket : slice_index_or connected k socket ≡ socket = get_or_from_slice_get connected k socket socket peer in
    let is_sent : sent conn ≡ taken socket log =
    ap sent (sym is_conn)
    ∙ at_index sent (λ p. given_taken p given.calls) w.connections connected given.course.taken k conn socket within
    ∙ ap (λ p. given_taken p given.calls) is_socket ∙ taken_trace socket given.calls ∙ ap (flat_map (taken_in socket)) given.are in
    let starts : StartsWith (sent conn) (took socket log) =
    subst (λ c. StartsWith (sent c) (took socket log)) is_conn
    (subst (λ s. StartsWith (sent (slice_index_or w.connections k conn)) (took s log)) is_socket (served.sockets k conn socket within)) in
    let long : length (account socket log).sent.written ≤ length (account socket log).sent.took = ltb-false _ _ free in
    let is_long : length (sent conn) ≤ length (took socket log) =
    subst (λ (xs : List ℕ). length xs ≤ length (took socket log)) (taken_is socket log ∙ sym is_sent)
    (subst (λ (xs : List ℕ). length (account socket log).sent.written ≤ length xs) (took_is socket log) long) in
    let parts = and_parts (is_open conn) _ settled in
    let same : course core.buses core.events ≡ w = rw (given.course.layout, given.course.events) refl in
    let told = told_rightly buses layout events (suc k) conn (record { there = here; info = (and_parts conn.info _ parts.1).0 }) in
    record {
      all = whole (sent conn) (took socket log) starts is_long;
      client = (told.1 (all_moments buses events start (rw same at fits))).registry settled;
      registry = rw (same, given.course.layout) refl;
    }
