-- Nobody is accepted only if the system was asked, or had nobody, or there is no place. A fault is answered only if it
-- was asked, or the numbers ran out.
use Rattle.std.proofs.Common.{◌≡◌, ◌∙◌, ℕ, zero, suc, ◌<◌, ◌≤◌, Bool, true, false, cond, List, [], ◌∷◌, ◌++◌, length, map, refl}
use Rattle.std.proofs.Common.{ap, sym, subst}
use Rattle.std.proofs.Common.{arith, ⊎_elim, inl, inr, ◌⊎◌, ◌==◌, ◌||◌, ◌&&◌, not, nat_le, filter, Option, Some, None, Ok, Err, true≢false}
use Rattle.std.proofs.Common.{append-nil}
use Rattle.std.specs.Prelude.{slice_index_or, Result}
use Rattle.std.specs.List.{AllByRecursion, IsDistinct, list_any}
use Rattle.std.proofs.lemmas.Cmp.{nat_eq_equiv}
use Rattle.std.proofs.lemmas.Bool.{cases_eq, or_cases}
use Rattle.std.proofs.lemmas.Bool.Decides.{nat_tests}
use Rattle.std.proofs.lemmas.Map.Made.{length-le_from_is_member}
use Rattle.std.proofs.lemmas.Map.Keys.{IsDistinct-from_apart}
use Rattle.std.specs.declared.io.ErrorKind.{ErrorKind}
use Rattle.srcp_door.specs.declared.door.DoorFault.{DoorFault}
use Rattle.srcp_door.specs.Calls.{AcceptCall}
use Rattle.srcp_peers.specs.declared.peer.Peer.{Peer}
use Rattle.srcp_peers.specs.declared.stay.Stay.{Stay}
use Rattle.srcp_peers.specs.declared.stay.Stay.TheVariants as stay
use Rattle.srcp_peers.specs.declared.turn.Listening.{Listening}
use Rattle.srcp_peers.specs.Accounts.{Account, Lingering, account, closed}
use Rattle.srcp_peers.specs.AllPeers.{AreApart}
use Rattle.srcp_peers.specs.Peers.{StaysAs, is_shut}
use Rattle.srcp_peers.specs.Steps.{Accepts, Answers, Clocks, Closes, Reads, SaysNothing, Shuts, Step, Waits, Writes, calls}
use Rattle.srcp_peers.specs.Times.{Times, accept_answer, times}
use Rattle.srcp_peers.proofs.PeersStayKept.{account_more, alien, skips}
use Rattle.srcp_peers.proofs.CallsAreOfTheDoor.{times_more}
use Rattle.srcp_log.specs.Asked.{AreAsked, Covers, IsExcused, MayAnswer, is_shut_down}
use Rattle.srcp_log.specs.Doors.{Stands}
use Rattle.srcp_log.specs.Work.{is_crowded}
use Rattle.srcp_log.proofs.AcceptsKeepSockets.{new_peer}

-- ---- steps that came

-- the door answers an accept
abbrev accepting : Result (Option ℕ) DoorFault → Step
accepting answer = Answers (AcceptCall answer)

abbrev pub is_accepting : Step → Bool
is_accepting (Answers (AcceptCall answer)) = true
is_accepting other = false

-- a step stands in what was there, or in what came
pub splits : (log came before after : List Step) (step : Step) → log ++ came ≡ before ++ step ∷ after
    → ((rest : List Step) × (log ≡ before ++ step ∷ rest))
    ⊎ ((mid : List Step) × (came ≡ mid ++ step ∷ after) × (before ≡ log ++ mid))
splits [] came before after step e = inr (before, e, refl)
splits (x ∷ log) came [] after step e = inl (log, (let same : x ≡ step = cc in ap (λ s. s ∷ log) same))
splits (x ∷ log) came (y ∷ before) after step e =
    let same : x ≡ y = cc in
    let more : log ++ came ≡ before ++ step ∷ after = cc in
    ⊎_elim
    (λ (here : (rest : List Step) × (log ≡ before ++ step ∷ rest)).
    inl (here.0, ap (λ s. s ∷ log) same ∙ ap (λ (l : List Step). y ∷ l) here.1))
    (λ (there : (mid : List Step) × (came ≡ mid ++ step ∷ after) × (before ≡ log ++ mid)).
    inr (there.0, there.1, ap (λ s. s ∷ before) (sym same) ∙ ap (λ (l : List Step). x ∷ l) there.2))
    (splits log came before after step more)

pub or_last : (a : Bool) → (a || true) ≡ true
or_last true = refl
or_last false = refl

any_in : (mid after : List Step) (answer : Result (Option ℕ) DoorFault)
    → list_any is_accepting (mid ++ accepting answer ∷ after) ≡ true
any_in [] after answer = refl
any_in (step ∷ mid) after answer = ap (λ b. is_accepting step || b) (any_in mid after answer) ∙ or_last (is_accepting step)

asked_came : (old came : List Step) → list_any is_accepting came ≡ false → AreAsked old → AreAsked (old ++ came)
asked_came old came none asked before after answer is =
    ⊎_elim
    (λ (here : (rest : List Step) × (old ≡ before ++ accepting answer ∷ rest)). asked before here.0 answer here.1)
    (λ (there : (mid : List Step) × (came ≡ mid ++ accepting answer ∷ after) × (before ≡ old ++ mid)).
    absurd (true≢false (sym (any_in there.0 after answer) ∙ ap (list_any is_accepting) (sym there.1) ∙ none)))
    (splits old came before after (accepting answer) is)

none_silent : (came : List Step) → calls came ≡ [] → list_any is_accepting came ≡ false
none_silent [] e = refl
none_silent (Accepts number answer ∷ came) e = none_silent came e
none_silent (Reads who buffer answer ∷ came) e = none_silent came e
none_silent (Writes who bytes answer ∷ came) e = none_silent came e
none_silent (Waits most count ready ∷ came) e = none_silent came e
none_silent (Shuts who ∷ came) e = none_silent came e
none_silent (Closes who ∷ came) e = none_silent came e
none_silent (Clocks answer ∷ came) e = none_silent came e
none_silent (Answers call ∷ came) e = cc

pub asked_silent : (old new : List Step) → SaysNothing old new → AreAsked old → AreAsked new
asked_silent old new says asked =
    subst AreAsked (sym says.1) (asked_came old says.0 (none_silent says.0 says.2) asked)

pub asked_step : (old new : List Step) (step : Step) → new ≡ old ++ step ∷ [] → is_accepting step ≡ false → AreAsked old
    → AreAsked new
asked_step old new step tells none asked =
    subst AreAsked (sym tells) (asked_came old (step ∷ []) (ap (λ b. b || false) none) asked)

-- ---- an accept is answered

alone : (mid after : List Step) (answer one : Result (Option ℕ) DoorFault) → accepting one ∷ [] ≡ mid ++ accepting answer ∷ after
    → (mid ≡ []) × (one ≡ answer)
alone [] after answer one e = (refl, (let same : accepting one ≡ accepting answer = cc in cc))
alone (step ∷ mid) after answer one e =
    let none : [] ≡ mid ++ accepting answer ∷ after = cc in
    absurd (true≢false (sym (any_in mid after answer) ∙ ap (list_any is_accepting) (sym none)))

pub asked_accept : (old new : List Step) (answer : Result (Option ℕ) DoorFault) → new ≡ old ++ Answers (AcceptCall answer) ∷ []
    → MayAnswer old answer → AreAsked old → AreAsked new
asked_accept old new one tells may asked before after answer is =
    ⊎_elim
    (λ (here : (rest : List Step) × (old ≡ before ++ accepting answer ∷ rest)). asked before here.0 answer here.1)
    (λ (there : (mid : List Step) × (accepting one ∷ [] ≡ mid ++ accepting answer ∷ after) × (before ≡ old ++ mid)).
    let only = alone there.0 after answer one there.1 in
    let same : old ≡ before = sym (there.2 ∙ ap (λ (l : List Step). old ++ l) only.0 ∙ append-nil old) in
    subst (λ (l : List Step). MayAnswer l answer) same (subst (MayAnswer old) only.1 may))
    (splits old (accepting one ∷ []) before after (accepting answer) (sym tells ∙ is))

-- the system was asked
pub was_asked : (old new : List Step) (number : ℕ) (said : Result Unit ErrorKind) (answer : Result (Option ℕ) DoorFault)
    → new ≡ old ++ Accepts number said ∷ [] → MayAnswer new answer
was_asked old new number said answer tells = by answer
  where
    nothing : None ≡ Some (accept_answer number said) → ⊥
    nothing e = cc

    asked : (wall start : ℕ) → (times wall start new).heard ≡ None → ⊥
    asked wall start none = nothing (sym none
        ∙ ap (λ (x : Times). x.heard) (ap (times wall start) tells ∙ times_more wall start old (Accepts number said)))

    by : (a : Result (Option ℕ) DoorFault) → MayAnswer new a
    by (Ok None) = λ wall start none. absurd (asked wall start none)
    by (Ok (Some peer)) = tt
    by (Err fault) = λ wall start none. absurd (asked wall start none)

-- ---- there is no place

abbrev numbers : List Peer → List ℕ
numbers peers = map (λ (p : Peer). p.number) peers

length_numbers : (peers : List Peer) → length (numbers peers) ≡ length peers
length_numbers [] = refl
length_numbers (p ∷ peers) = omega (arith, length_numbers peers)

number_at : (peers : List Peer) (k d : ℕ) (p : Peer) → k < length peers
    → slice_index_or (numbers peers) k d ≡ (slice_index_or peers k p).number
number_at [] k d p lt = absurd (omega (arith, lt))
number_at (x ∷ peers) zero d p lt = refl
number_at (x ∷ peers) (suc k) d p lt = number_at peers k d p (omega (arith, lt))

numbers_differ : (peers : List Peer) → AreApart peers → IsDistinct (λ a b. a == b) (numbers peers)
numbers_differ peers apart = IsDistinct-from_apart (λ a b. a == b) (numbers peers) (λ i j d low lt.
    let l : j < length peers = omega (arith, lt, length_numbers peers) in
    let k : i < length peers = omega (arith, low, l) in
    let one = number_at peers i d (new_peer 0 0) k in
    let other = number_at peers j d (new_peer 0 0) l in
    ap (λ n. n == slice_index_or (numbers peers) j d) one ∙ ap (λ n. (slice_index_or peers i (new_peer 0 0)).number == n) other
    ∙ alien (slice_index_or peers i (new_peer 0 0)).number (slice_index_or peers j (new_peer 0 0)).number
    (apart j i (new_peer 0 0) l k (λ e. omega (arith, low, e))))

-- those of different numbers that pass differ
apart_filter : (n : ℕ) (test : ℕ → Bool) (xs : List ℕ) → AllByRecursion (λ y. (n == y) ≡ false) xs
    → AllByRecursion (λ y. (n == y) ≡ false) (filter test xs)
apart_filter n test [] h = tt
apart_filter n test (x ∷ xs) h = by (test x) (apart_filter n test xs h.1)
  where
    by : (b : Bool) → AllByRecursion (λ y. (n == y) ≡ false) (filter test xs)
        → AllByRecursion (λ y. (n == y) ≡ false) (cond b (x ∷ filter test xs) (filter test xs))
    by true rest = (h.0, rest)
    by false rest = rest

differ_filter : (test : ℕ → Bool) (xs : List ℕ) → IsDistinct (λ a b. a == b) xs → IsDistinct (λ a b. a == b) (filter test xs)
unfolding IsDistinct
differ_filter test [] h = tt
differ_filter test (x ∷ xs) h = by (test x) (differ_filter test xs h.1)
  where
    by : (b : Bool) → IsDistinct (λ c d. c == d) (filter test xs)
        → IsDistinct (λ c d. c == d) (cond b (x ∷ filter test xs) (filter test xs))
    by true rest = (apart_filter x test xs h.0, rest)
    by false rest = rest

same_number : (n m : ℕ) → (n == m) ≡ true → n ≡ m
same_number n m e = grind (arith, nat_tests)

-- what holds of each number of a list
each_number : (test : ℕ → Bool) (peers : List Peer)
    → ((k : ℕ) (d : Peer) → k < length peers → test (slice_index_or peers k d).number ≡ true)
    → (socket : ℕ) → list_any (λ n. socket == n) (numbers peers) ≡ true → test socket ≡ true
each_number test [] all socket e = absurd (true≢false (sym e))
each_number test (p ∷ peers) all socket e = ⊎_elim
    (λ (here : (socket == p.number) ≡ true). ap test (same_number socket p.number here) ∙ all 0 p (omega arith))
    (λ there. each_number test peers (λ k d lt. all (suc k) d (omega (arith, lt))) socket there)
    (or_cases (socket == p.number) (list_any (λ n. socket == n) (numbers peers)) e)

-- one that is filtered passes
passes : (test : ℕ → Bool) (xs : List ℕ) (socket : ℕ) → list_any (λ n. socket == n) (filter test xs) ≡ true → test socket ≡ true
passes test [] socket e = absurd (true≢false (sym e))
passes test (x ∷ xs) socket e = by (test x) refl e (passes test xs socket)
  where
    by : (b : Bool) → test x ≡ b → list_any (λ n. socket == n) (cond b (x ∷ filter test xs) (filter test xs)) ≡ true
        → (list_any (λ n. socket == n) (filter test xs) ≡ true → test socket ≡ true) → test socket ≡ true
    by true passed f rest = ⊎_elim
        (λ (here : (socket == x) ≡ true). ap test (same_number socket x here) ∙ passed)
        rest
        (or_cases (socket == x) (list_any (λ n. socket == n) (filter test xs)) f)
    by false failed f rest = rest f

same_count : (test : ℕ → Bool) (peers : List Peer)
    → ((k : ℕ) (d : Peer) → k < length peers → test (slice_index_or peers k d).number ≡ is_shut (slice_index_or peers k d).stay)
    → length (filter test (numbers peers)) ≡ length (filter (λ (p : Peer). is_shut p.stay) peers)
same_count test [] each = refl
same_count test (p ∷ peers) each = by (test p.number) (is_shut p.stay) (each 0 p (omega arith))
    (same_count test peers (λ k d lt. each (suc k) d (omega (arith, lt))))
  where
    by : (b c : Bool) → b ≡ c
        → length (filter test (numbers peers)) ≡ length (filter (λ (q : Peer). is_shut q.stay) peers)
        → length (cond b (p.number ∷ filter test (numbers peers)) (filter test (numbers peers)))
        ≡ length (cond c (p ∷ filter (λ (q : Peer). is_shut q.stay) peers) (filter (λ (q : Peer). is_shut q.stay) peers))
    by true true e rest = omega (arith, rest)
    by false false e rest = rest
    by true false e rest = absurd (true≢false e)
    by false true e rest = absurd (true≢false (sym e))

stays_shut : (watched : Bool) (lingering : Lingering) (outgoing : List ℕ) (s : Stay) → StaysAs watched lingering outgoing s
    → ((not watched && lingering.kept) && lingering.shut) ≡ is_shut s
stays_shut watched lingering outgoing stay.Here h = ap (λ w. (not w && lingering.kept) && lingering.shut) h.0
stays_shut watched lingering outgoing (stay.Draining since) h =
    ap (λ w. (not w && lingering.kept) && lingering.shut) h.0 ∙ ap (λ k. k && lingering.shut) h.1 ∙ h.3
stays_shut watched lingering outgoing (stay.Shut since) h =
    ap (λ w. (not w && lingering.kept) && lingering.shut) h.0 ∙ ap (λ k. k && lingering.shut) h.1 ∙ h.3

stays_kept : (watched : Bool) (lingering : Lingering) (outgoing : List ℕ) (s : Stay) → StaysAs watched lingering outgoing s
    → lingering.kept ≡ true
stays_kept watched lingering outgoing stay.Here h = h.1
stays_kept watched lingering outgoing (stay.Draining since) h = h.1
stays_kept watched lingering outgoing (stay.Shut since) h = h.1

abbrev is_kept : Account → Bool
is_kept a = a.lingering.kept

crowded_is : (log : List Step) (peers : List Peer) (l : Listening) (last : ℕ) → Stands log peers l last → is_crowded peers ≡ true
    → (kept shut : List ℕ) → Covers is_kept log kept
    → Covers is_shut_down log shut → (nat_le 129 (length kept) || nat_le 64 (length shut)) ≡ true
crowded_is log peers l last stands crowded kept shut all_kept all_shut = ⊎_elim
    (λ (full : nat_le 129 (length peers) ≡ true).
    let most : length (numbers peers) ≤ length kept = length-le_from_is_member nat_eq_equiv (numbers peers) kept differ
    (λ socket there. all_kept socket (each_number (λ n. is_kept (account n log)) peers
    (λ k d lt. let p = slice_index_or peers k d in let a = account p.number log in
    stays_kept a.watched a.lingering p.outgoing p.stay (stands.kept k d lt).stays) socket there)) in
    ap (λ b. b || nat_le 64 (length shut))
    (at_least 129 (length peers) (length kept) full (omega (arith, most, length_numbers peers))))
    (λ (many : nat_le 64 (length (filter (λ (p : Peer). is_shut p.stay) peers)) ≡ true).
    let most : length (filter rests (numbers peers)) ≤ length shut =
    length-le_from_is_member nat_eq_equiv (filter rests (numbers peers)) shut
    (differ_filter rests (numbers peers) differ)
    (λ socket there. all_shut socket (passes rests (numbers peers) socket there)) in
    ap (λ b. nat_le 129 (length kept) || b)
    (at_least 64 (length (filter (λ (p : Peer). is_shut p.stay) peers)) (length shut) many (omega (arith, most, count)))
    ∙ or_last (nat_le 129 (length kept)))
    (or_cases (nat_le 129 (length peers)) (nat_le 64 (length (filter (λ (p : Peer). is_shut p.stay) peers))) crowded)
  where
    rests : ℕ → Bool
    rests socket = is_shut_down (account socket log)

    differ : IsDistinct (λ a b. a == b) (numbers peers)
    differ = numbers_differ peers stands.apart

    count : length (filter rests (numbers peers)) ≡ length (filter (λ (p : Peer). is_shut p.stay) peers)
    count = same_count rests peers (λ k d lt. let p = slice_index_or peers k d in let a = account p.number log in
        stays_shut a.watched a.lingering p.outgoing p.stay (stands.kept k d lt).stays)

    at_least : (least n m : ℕ) → nat_le least n ≡ true → n ≤ m → nat_le least m ≡ true
    at_least least n m e le = grind (arith, nat_tests)

-- one less than so many
one_less : (kept shut : ℕ) → (nat_le 129 (suc kept) || nat_le 64 (suc shut)) ≡ true
    → (nat_le 128 kept || nat_le 63 shut) ≡ true
one_less kept shut e = ⊎_elim
    (λ (h : nat_le 129 (suc kept) ≡ true). ap (λ b. b || nat_le 63 shut) (less 128 kept h))
    (λ (h : nat_le 64 (suc shut) ≡ true). ap (λ b. nat_le 128 kept || b) (less 63 shut h) ∙ or_last (nat_le 128 kept))
    (or_cases (nat_le 129 (suc kept)) (nat_le 64 (suc shut)) e)
  where
    less : (least n : ℕ) → nat_le (suc least) (suc n) ≡ true → nat_le least n ≡ true
    less least n h = grind (arith, nat_tests)

-- sockets that are all such, and one more, are all such
covers_more : (is_such : Account → Bool) (log later : List Step) (one : ℕ) (sockets : List ℕ)
    → ((socket : ℕ) → (socket ≡ one → ⊥) → is_such (account socket later) ≡ is_such (account socket log)) → Covers is_such later sockets
    → Covers is_such log (one ∷ sockets)
covers_more is_such log later one sockets same covers socket such = ⊎_elim
    (λ (e : socket ≡ one). ap (λ b. b || list_any (λ n. socket == n) sockets) (equal socket one e))
    (λ (ne : socket ≡ one → ⊥). ap (λ b. (socket == one) || b) (covers socket (same socket ne ∙ such)) ∙ or_last (socket == one))
    (cases_eq socket one)
  where
    equal : (n m : ℕ) → n ≡ m → (n == m) ≡ true
    equal n m e = grind (arith, nat_tests)

pub may_crowded : (log : List Step) (peers : List Peer) (l : Listening) (last : ℕ) → Stands log peers l last
    → is_crowded peers ≡ true → IsExcused log
may_crowded log peers l last stands crowded wall start none loud kept shut all_kept all_shut =
    one_less (length kept) (length shut)
    (crowded_is log peers l last stands crowded (0 ∷ kept) (0 ∷ shut)
    (covers_more is_kept log log 0 kept (λ socket ne. refl) all_kept)
    (covers_more is_shut_down log log 0 shut (λ socket ne. refl) all_shut))

-- one was closed to make a place
pub may_closed : (old new : List Step) (peers : List Peer) (l : Listening) (last who : ℕ) → Stands old peers l last
    → is_crowded peers ≡ true → new ≡ old ++ Closes who ∷ [] → IsExcused new
may_closed old new peers l last who stands crowded tells wall start none loud kept shut all_kept all_shut =
    one_less (length kept) (length shut)
    (crowded_is old peers l last stands crowded (who ∷ kept) (who ∷ shut)
    (covers_more is_kept old new who kept (λ socket ne. ap is_kept (same socket ne)) all_kept)
    (covers_more is_shut_down old new who shut (λ socket ne. ap is_shut_down (same socket ne)) all_shut))
  where
    same : (socket : ℕ) → (socket ≡ who → ⊥) → account socket new ≡ account socket old
    same socket ne = ap (account socket) tells ∙ account_more socket old (Closes who)
        ∙ skips (who == socket) (closed (account socket old)) (account socket old) (alien who socket ne)

-- no step was made
pub asked_first : (log : List Step) → log ≡ [] → AreAsked log
asked_first log none before after answer is =
    absurd (true≢false (sym (any_in before after answer) ∙ ap (list_any is_accepting) (sym is ∙ none)))
