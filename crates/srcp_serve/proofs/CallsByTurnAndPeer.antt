-- The calls of some turns are parted by what they ask: turn by turn, and in a turn peer by peer.
use Rattle.srcp_serve.proofs.Names.{and_parts, cond_both, not-true, or_parts, Open, with_accept, with_connection, ◌≡◌, ◌∙◌, Bool, true}
use Rattle.srcp_serve.proofs.Names.{false, not, cond, List, [], ◌∷◌, ◌++◌, if◌then◌else◌, ap, sym, refl, ℕ, map, take, filter, arith}
use Rattle.srcp_serve.proofs.Names.{append-nil, append_assoc, ◌==◌, ◌+◌, fold, length-append, take_while, list_all, list_any}
use Rattle.srcp_serve.proofs.Names.{AllByRecursion, filter_map, flat_map, take_while-cons, fold-append, parts, nat_tests, filter-append}
use Rattle.srcp_serve.proofs.Names.{Event, Bytes, all_append, all_weaker, filter_every, filter_no_one, filter-map, Bus, Accepted, Call}
use Rattle.srcp_serve.proofs.Names.{ExpectCall, Question, Expects, Moments, expects, Accepts, Reads, Writes, Closes, Client, Stand}
use Rattle.srcp_serve.proofs.Names.{OfEachTurn, OfEachVisit, question, asks_of, is_expect, visit, accept_of, piece_of, count_of}
use Rattle.srcp_serve.proofs.Names.{loses_reading, turns, connects, handed, reads_of, writes_of, closes_of, visit_asks, visits_ask}
use Rattle.srcp_serve.proofs.Names.{visit_events, refuses, turn_asks, turns_ask, turned, timed, begun, clients, empty_stand, stand_after}
use Rattle.srcp_serve.proofs.Names.{IsServed, map-append, is_ready}

module _ {X : Type 0} (begins : X → Bool) where
  -- what comes before the next part
  abbrev before : List X → List X
  before xs = take_while (λ next. not (begins next)) xs

  part_ends : (xs : List X) (y : X) (ys : List X) → begins y ≡ true → before (xs ++ y ∷ ys) ≡ before xs
  part_ends [] y ys e = take_while-cons (λ next. not (begins next)) y ys ∙ ap (λ b. cond (not b) (y ∷ before ys) []) e
  part_ends (x ∷ xs) y ys e =
      cc (
        take_while-cons (λ next. not (begins next)) x (xs ++ y ∷ ys),
        part_ends xs y ys e,
        take_while-cons (λ next. not (begins next)) x xs,
      )

  -- the parts of a list and then more, which begins one, are those of the list and those of the rest
  pub parts-append : (xs : List X) (y : X) (ys : List X) → begins y ≡ true
      → parts begins (xs ++ y ∷ ys) ≡ parts begins xs ++ parts begins (y ∷ ys)
  parts-append [] y ys e = refl
  parts-append (x ∷ xs) y ys e =
      let more = parts begins (y ∷ ys) in
      let same = parts-append xs y ys e in
      elim (begins
      x) as (λ b. (if b then (x ∷ before (xs ++ y ∷ ys)) ∷ parts begins (xs ++ y ∷ ys) else parts begins (xs ++ y ∷ ys))
      ≡ (if b then (x ∷ before xs) ∷ parts begins xs else parts begins xs) ++ more) [
        | true ↦ rw (part_ends, same) refl
        | false ↦ same
      ]

  -- what begins no part is all before the next, and has none
  pub one_part : (xs : List X) → list_all (λ x. not (begins x)) xs ≡ true → (before xs ≡ xs) × (parts begins xs ≡ [])
  one_part [] h = (refl, refl)
  one_part (x ∷ xs) h =
      let b = and_parts (not (begins x)) _ h in
      let none = not-true (begins x) b.0 in
      let more = one_part xs b.1 in (cc (take_while-cons (λ next. not (begins next)) x xs), cc)

pub turned_round : (a b : ℕ) → (a == b) ≡ false → (b == a) ≡ false
turned_round a b e = grind (arith, nat_tests)

pub no_calls : (calls : List Call) → map question calls ≡ [] → calls ≡ []
no_calls [] e = refl
no_calls (call ∷ calls) e = cc

-- none is so, by the test and one by one
pub not_any : {X : Type 0} (p : X → Bool) (xs : List X) → list_any p xs ≡ false → AllByRecursion (λ x. p x ≡ false) xs
not_any p [] e = tt
not_any p (x ∷ xs) e = let b = or_parts (p x) _ e in (b.0, not_any p xs b.1)

pub any_not : {X : Type 0} (p : X → Bool) (xs : List X) → AllByRecursion (λ x. p x ≡ false) xs → list_any p xs ≡ false
any_not p [] a = refl
any_not p (x ∷ xs) a = cc (any_not p xs a.1)

-- what each step keeps, all steps keep
pub fold_keeps : {A B : Type 0} (P : A → Type 0) (f : A → B → A) → ((a : A) (b : B) → P a → P (f a b)) → (bs : List B) (a : A) → P a
    → P (fold f a bs)
fold_keeps P f step [] a p = p
fold_keeps P f step (b ∷ bs) a p = fold_keeps P f step bs (f a b) (step a b p)

-- what holds of each of both lists holds of each of the one that is chosen
pub all_if : {X : Type 0} (P : X → Type 0) (b : Bool) (xs ys : List X) → AllByRecursion P xs → AllByRecursion P ys
    → AllByRecursion P (if b then xs else ys)
all_if P true xs ys h k = h
all_if P false xs ys h k = k

-- what holds whether the peer of an accept is connected or not
pub refuses_as : (buses : List Bus) (P : List Question → Type 0) (events : List Event) (accept : Accepted)
    → P [] → P (Closes accept.peer ∷ []) → P (refuses buses events accept)
refuses_as buses P events accept first second =
    cond_both (connects buses events accept.granted) [] (Closes accept.peer ∷ []) P (λ e. first) (λ e. second)

pub accept_as : (buses : List Bus) (P : Stand → Type 0) (stand : Stand) (accept : Accepted) → P (with_connection buses stand accept)
    → P (record stand { events = stand.events ++ Open accept.granted ∷ [] }) → P (with_accept buses stand accept)
accept_as buses P stand accept first second = cond_both (connects buses stand.events accept.granted) (with_connection buses stand accept)
    (record stand { events = stand.events ++ Open accept.granted ∷ [] }) P (λ e. first) (λ e. second)

-- ---- questions by whom they are about

-- about some peer
abbrev pub asks_peer : Question → Bool
asks_peer (Reads who most) = true
asks_peer (Writes who bytes) = true
asks_peer (Closes who) = true
asks_peer other = false

abbrev pub AreOf : ℕ → List Question → Type 0
AreOf peer questions = AllByRecursion (λ q. asks_of peer q ≡ true) questions

abbrev pub AreOfPeers : List Question → Type 0
AreOfPeers questions = AllByRecursion (λ q. asks_peer q ≡ true) questions

pub other_question : (p q : ℕ) (asked : Question) → (p == q) ≡ false → asks_of p asked ≡ true → asks_of q asked ≡ false
other_question p q Moments e h = refl
other_question p q other e h = grind (arith, nat_tests)

pub other_questions : (p q : ℕ) (questions : List Question) → (p == q) ≡ false → AreOf p questions → filter (asks_of q) questions ≡ []
other_questions p q questions e h = filter_no_one _ _ (all_weaker _ _ (λ asked own. other_question p q asked e own) _ h)

peer_question : (peer : ℕ) (q : Question) → asks_of peer q ≡ true → asks_peer q ≡ true
peer_question peer Moments h = h
peer_question peer other h = cc

pub same_peer : (peer : ℕ) → (peer == peer) ≡ true
same_peer peer = grind (arith, nat_tests)

pub writes_own : (peer : ℕ) (texts : List (List ℕ)) → AreOf peer (map (Writes peer) texts)
writes_own peer [] = tt
writes_own peer (text ∷ texts) = (same_peer peer, writes_own peer texts)

-- none has that peer
abbrev pub IsNoneOf : ℕ → List Client → Type 0
IsNoneOf peer all = AllByRecursion (λ client. (client.peer == peer) ≡ false) all

-- no two have one peer
abbrev pub PeersApart : List Client → Type 0
PeersApart [] = Unit {0}
PeersApart (client ∷ all) = IsNoneOf client.peer all × PeersApart all

module _ (buses : List Bus) where
  -- a visit asks of its own peer
  pub visit_own : (events : List Event) (calls : List Call) (client : Client) → AreOf client.peer (visit_asks buses events calls client)
  visit_own events calls client =
      let own = same_peer client.peer in
      let Own : Question → Type 0 = λ q. asks_of client.peer q ≡ true in
      let reads = all_if Own (is_ready buses client.conn events) (Reads client.peer 256 ∷ []) [] (own, tt) tt in
      let read_events = events ++ map (Bytes client.conn) (filter_map piece_of calls) in
      let texts = take 300 (handed buses client.conn read_events (filter_map count_of calls)) in
      let writes = all_if Own (list_any loses_reading calls) [] (map (Writes client.peer) texts) tt (writes_own client.peer texts) in
      all_append Own (reads_of buses events client ++ writes_of buses events calls client) (closes_of buses events calls client)
      (all_append Own (reads_of buses events client) (writes_of buses events calls client) reads writes)
      (all_if Own _ (Closes client.peer ∷ []) [] (own, tt) tt)

  pub visits_peers : (events : List Event) (calls : List Call) (all : List Client) → AreOfPeers (visits_ask buses events calls all)
  visits_peers events calls [] = tt
  visits_peers events calls (client ∷ all) =
      all_append (λ q. asks_peer q ≡ true) (visit_asks buses events (visit calls client) client)
      (visits_ask buses (events ++ visit_events calls client) calls all)
      (all_weaker _ _ (peer_question client.peer) _ (visit_own events (visit calls client) client))
      (visits_peers (events ++ visit_events calls client) calls all)

  -- what the visits ask of a peer that has no slot among theirs
  pub none_asked : (peer : ℕ) (events : List Event) (calls : List Call) (all : List Client) → IsNoneOf peer all
      → filter (asks_of peer) (visits_ask buses events calls all) ≡ []
  none_asked peer events calls [] h = refl
  none_asked peer events calls (client ∷ all) h =
      rw (
        filter-append (asks_of peer) (visit_asks buses events (visit calls client) client)
            (visits_ask buses (events ++ visit_events calls client) calls all),
        other_questions client.peer peer (visit_asks buses events (visit calls client) client) h.0
            (visit_own events (visit calls client) client),
        none_asked peer (events ++ visit_events calls client) calls all h.1,
      )

  -- each visit asked what it was to ask
  abbrev pub AreAsked : List Event → List Call → List Client → Type 0
  AreAsked events calls all = OfEachVisit buses
      (λ events calls client. map question (visit calls client) ≡ visit_asks buses events (visit calls client) client) events calls all

  -- these questions are about none of them
  abbrev pub IsOfNone : List Question → List Client → Type 0
  IsOfNone questions all = AllByRecursion (λ client. filter (asks_of client.peer) questions ≡ []) all

  none_more : (client : Client) (before more : List Question) (all : List Client) → AreOf client.peer more → IsNoneOf client.peer all
      → IsOfNone before all → IsOfNone (before ++ more) all
  none_more client before more [] own h k = tt
  none_more client before more (other ∷ all) own h k =
      let apart : (client.peer == other.peer) ≡ false = let e = h.0 in grind (arith, nat_tests) in (
        cc (filter-append (asks_of other.peer) before more, other_questions client.peer other.peer more apart own),
        none_more client before more all own h.1 k.1,
      )

  -- so the calls of a turn are parted by their peers
  pub visits_parted : (before : List Question) (events : List Event) (calls : List Call) (all : List Client) → PeersApart all
      → IsOfNone before all → map question calls ≡ before ++ visits_ask buses events calls all → AreAsked events calls all
  visits_parted before events calls [] apart none e = tt
  visits_parted before events calls (client ∷ all) apart none e =
      let mine = visit_asks buses events (visit calls client) client in
      let next = events ++ visit_events calls client in
      let later = visits_ask buses next calls all in
      let own = visit_own events (visit calls client) client in
      let here : map question (visit calls client) ≡ mine =
      rw (
        ← filter-map question (asks_of client.peer) calls,
        e,
        filter-append (asks_of client.peer) before (mine ++ later),
        none.0,
        filter-append (asks_of client.peer) mine later,
        filter_every (asks_of client.peer) mine own,
        none_asked client.peer next calls all apart.0,
        append-nil mine,
      ) in (
        here,
        visits_parted (before ++ mine) next calls all apart.1 (none_more client before mine all own apart.0 none.1)
            (e ∙ sym (append_assoc before mine later)),
      )

  -- ---- turn by turn

  -- what follows from a law of a turn holds of each turn of which that holds
  pub each_turn : (P Q : Stand → List Call → Type 0) → ((stand : Stand) (calls : List Call) → P stand calls → Q stand calls)
      → (stand : Stand) (all : List (List Call)) → OfEachTurn buses P stand all → OfEachTurn buses Q stand all
  each_turn P Q law stand [] h = tt
  each_turn P Q law stand (calls ∷ all) h = (law stand calls h.0, each_turn P Q law (turned buses stand calls) all h.1)

  -- each turn asked what it was to ask
  abbrev pub AreTurnsAsked : Stand → List (List Call) → Type 0
  AreTurnsAsked stand all = OfEachTurn buses (λ stand calls. map question calls ≡ turn_asks buses stand calls) stand all

  -- the calls before the next moment
  abbrev pub in_turn : List Call → List Call
  in_turn calls = take_while (λ next. not (is_expect next)) calls

  abbrev pub asks_moment : Question → Bool
  asks_moment (Expects due slack) = true
  asks_moment other = false

  abbrev pub NoMoments : List Question → Type 0
  NoMoments questions = AllByRecursion (λ q. asks_moment q ≡ false) questions

  no_moment : (q : Question) → asks_peer q ≡ true → asks_moment q ≡ false
  no_moment (Expects due slack) h = cc
  no_moment other h = refl

  pub refused_peers : (events : List Event) (peers : List Accepted) → AreOfPeers (flat_map (refuses buses events) peers)
  refused_peers events [] = tt
  refused_peers events (peer ∷ peers) =
      all_append (λ q. asks_peer q ≡ true) _ _ (refuses_as buses AreOfPeers events peer tt (refl, tt)) (refused_peers events peers)

  -- what a turn asks after the moment
  abbrev pub rest_asks : Stand → List Call → List Question
  rest_asks stand calls =
      Moments ∷ Accepts
      ∷ (flat_map (refuses buses (timed buses stand calls).events) (filter_map accept_of calls)
      ++ visits_ask buses (begun buses stand calls).events calls (clients (begun buses stand calls).slots))

  pub rest_moments : (stand : Stand) (calls : List Call) → NoMoments (rest_asks stand calls)
  rest_moments stand calls =
      let refused = flat_map (refuses buses (timed buses stand calls).events) (filter_map accept_of calls) in
      let visits = visits_ask buses (begun buses stand calls).events calls (clients (begun buses stand calls).slots) in
      let peers = all_append (λ q. asks_peer q ≡ true) refused visits (refused_peers (timed buses stand calls).events _)
      (visits_peers (begun buses stand calls).events calls _) in
      (refl, (refl, all_weaker _ _ no_moment (refused ++ visits) peers))

  not_first : (stand : Stand) (call : Call) (questions : List Question) (all : List (List Call)) → asks_moment (question call) ≡ false
      → question call ∷ questions ≡ turns_ask buses stand all → ⊥
  not_first stand call questions [] h e = cc
  not_first stand call questions (calls ∷ all) h e = let same : question call ≡ expects buses stand.events = cc in cc

  -- what is asked before the next moment, and then the turns
  pub turns_parted : (stand : Stand) (trace : List Call) (first : List Question) → NoMoments first
      → map question trace ≡ first ++ turns_ask buses stand (turns trace)
      → (map question (in_turn trace) ≡ first) × AreTurnsAsked stand (turns trace)
  turns_parted stand [] [] h e = (refl, tt)
  turns_parted stand [] (q ∷ first) h e = cc
  turns_parted stand (ExpectCall due slack ∷ trace) [] h e =
      let calls = ExpectCall due slack ∷ in_turn trace in
      let tail : map question trace ≡ rest_asks stand calls ++ turns_ask buses (turned buses stand calls) (turns trace) = cc in
      let more = turns_parted (turned buses stand calls) trace (rest_asks stand calls) (rest_moments stand calls) tail in
      let asked : map question calls ≡ turn_asks buses stand calls = cc (e, more.0) in
      (ap (map question) (take_while-cons (λ next. not (is_expect next)) (ExpectCall due slack) trace), (asked, more.1))
  turns_parted stand (ExpectCall due slack ∷ trace) (q ∷ first) h e =
      let same : Expects due slack ≡ q = cc in cc (ap asks_moment same, h.0)
  turns_parted stand (call ∷ trace) [] h e = absurd (not_first stand call (map question trace) (turns trace) refl e)
  turns_parted stand (call ∷ trace) (q ∷ first) h e =
      let more = turns_parted stand trace first h.1 (cc) in
      (cc (e, take_while-cons (λ next. not (is_expect next)) call trace, more.0), more.1)

-- ---- laws of what a door tells: of some turns, and then some more

module _ (buses : List Bus) where
  turns_ask-append : (stand : Stand) (xs ys : List (List Call))
      → turns_ask buses stand (xs ++ ys) ≡ turns_ask buses stand xs ++ turns_ask buses (fold (turned buses) stand xs) ys
  turns_ask-append stand [] ys = refl
  turns_ask-append stand (x ∷ xs) ys = rw (turns_ask-append (turned buses stand x) xs ys) (sym (append_assoc (turn_asks buses stand x) _ _))

  not_expect : (calls : List Call) → NoMoments buses (map question calls) → list_all (λ call. not (is_expect call)) calls ≡ true
  not_expect [] h = refl
  not_expect (ExpectCall due slack ∷ calls) h = let no = h.0 in cc
  not_expect (call ∷ calls) h = not_expect calls h.1

  -- one turn more
  pub served-more : (n : ℕ) (trace calls : List Call) → IsServed buses n trace
      → map question calls ≡ turn_asks buses (stand_after buses trace) calls
      → IsServed buses (n + 1) (trace ++ calls) × (stand_after buses (trace ++ calls) ≡ turned buses (stand_after buses trace) calls)
  served-more n trace (ExpectCall due slack ∷ calls) before asked =
      let stand = stand_after buses trace in
      let turn = ExpectCall due slack ∷ calls in
      let rest : map question calls ≡ rest_asks buses stand turn = cc in
      let alone = one_part is_expect calls (not_expect calls (rw rest (rest_moments buses stand turn))) in
      let all : turns (trace ++ turn) ≡ turns trace ++ turn ∷ [] =
      rw (parts-append is_expect trace (ExpectCall due slack) calls refl, alone.0, alone.1) refl in (
        record {
          turns_are = rw (all, length-append (turns trace) (turn ∷ []), before.turns_are) refl;
          asked = rw (all, map-append question trace turn, turns_ask-append empty_stand (turns trace) (turn ∷ []), before.asked, asked)
              (ap (λ more. turns_ask buses empty_stand (turns trace) ++ more) (sym (append-nil (turn_asks buses stand turn))));
        },
        rw all (fold-append (turned buses) empty_stand (turns trace) (turn ∷ [])),
      )
  served-more n trace other before asked = cc
