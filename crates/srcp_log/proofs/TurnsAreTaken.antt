-- While not every line may go, lines are handed out of the peer that was served longest ago. So no peer starves.
use Rattle.std.proofs.Common.{◌≡◌, ◌∙◌, ℕ, zero, suc, ◌+◌, ◌<◌, ◌≤◌, Bool, true, false, not, cond, List, [], ◌∷◌, ◌++◌, length}
use Rattle.std.proofs.Common.{refl, ap, sym, subst, arith, ⊎_elim, inl, inr, ◌==◌, ◌&&◌, ◌||◌, Option, Some, None, true≢false, append_assoc}
use Rattle.std.specs.Prelude.{◌≢◌, ◌⊎◌, Result, fold, min, nat_le, nat_lt, slice_index_or}
use Rattle.std.specs.List.{list_any}
use Rattle.std.proofs.lemmas.Bool.{cases_Bool, cases_eq}
use Rattle.std.proofs.lemmas.Bool.Decides.{nat_tests}
use Rattle.std.proofs.lemmas.List.Elements.{filter_map-append}
use Rattle.std.proofs.lemmas.List.Sums.{fold-append}
use Rattle.srcp_door.specs.Calls.{Call, ReadCall}
use Rattle.srcp_door.specs.Pacing.{fits, is_short_pace, weight_of}
use Rattle.srcp_door.specs.declared.door.DoorFault.{DoorFault}
use Rattle.srcp_door.specs.declared.door.Got.{Got}
use Rattle.srcp_door.specs.declared.pacing.LineBoundary.{LineBoundary}
use Rattle.srcp_door.specs.declared.pacing.Pace.{Pace}
use Rattle.srcp_door.specs.declared.pacing.Pace.TheVariants.{Paced}
use Rattle.srcp_peers.specs.declared.peer.Peer.{Peer}
use Rattle.srcp_peers.specs.declared.stay.Stay.{Stay}
use Rattle.srcp_peers.specs.declared.stay.Stay.TheVariants as stay
use Rattle.srcp_peers.specs.declared.turn.Listening.{Listening}
use Rattle.srcp_peers.specs.declared.turn.Turn.{Turn}
use Rattle.srcp_peers.specs.Accounts.{Account, account, is_held}
use Rattle.srcp_peers.specs.AllPeers.{IsAbsent}
use Rattle.srcp_peers.specs.Peers.{Agrees, ReadsAs, holds_input, is_here, is_turn_before}
use Rattle.srcp_peers.specs.Reports.{IsAnswered}
use Rattle.srcp_peers.specs.Steps.{Answers, Step, call_of, calls}
use Rattle.srcp_peers.specs.Times.{Times, times}
use Rattle.srcp_peers.specs.Turns.{got_bytes, own_pace}
use Rattle.srcp_peers.proofs.PeersRestByAccount.{and_left, and_right, held_is}
use Rattle.srcp_peers.proofs.StatesFollowSteps.{reads_here}
use Rattle.srcp_log.specs.Doors.{IsMissing, IsPresent, IsThere, Stands}
use Rattle.srcp_log.specs.Duties.{takes_input}
use Rattle.srcp_log.specs.KeptTimes.{IsTimed}
use Rattle.srcp_log.specs.Services.{AreCounted, AreInTurn, IsCountable, IsInTurn, NobodyStarves, Services, is_of, is_served}
use Rattle.srcp_log.specs.Services.{last_service, served, serves, services}
use Rattle.srcp_log.specs.Work.{IsPeerRead, goes_behind}
use Rattle.srcp_log.proofs.FirstReadsFillThePace.{here_is}
use Rattle.srcp_log.proofs.SocketsStayStanding.{find as find_peer, nobody}
use Rattle.srcp_log.proofs.TimesGoOn.{line_kept}

-- ---- who is there

is_there : (s : Stay) → is_here s ≡ true → s ≡ stay.Here
is_there stay.Here e = refl
is_there (stay.Draining since) e = absurd (true≢false (sym e))
is_there (stay.Shut since) e = absurd (true≢false (sym e))

-- a peer that is there, or none
abbrev pub There : (who : ℕ) → List Peer → Type 0
There who peers = (k : ℕ) × (k < length peers) × IsPresent who (slice_index_or peers k nobody)

present : (who : ℕ) (log : List Step) (peers : List Peer) (l : Listening) (last : ℕ) → Stands log peers l last
    → There who peers ⊎ IsMissing who peers
present who log peers l last stands = ⊎_elim
    (λ (there : IsThere who peers). ⊎_elim
    (λ (here : is_here (slice_index_or peers there.index nobody).stay ≡ true).
    inl (there.index, there.within, (there.same nobody, is_there (slice_index_or peers there.index nobody).stay here)))
    (λ (gone : is_here (slice_index_or peers there.index nobody).stay ≡ false). inr (λ k d lt same. ⊎_elim
    (λ (e : k ≡ there.index). ap (λ (p : Peer). is_here p.stay) (default_same peers k there.index d nobody e lt) ∙ gone)
    (λ (ne : k ≡ there.index → ⊥). absurd (stands.apart k there.index d lt there.within ne (same ∙ sym (there.same d))))
    (cases_eq k there.index)))
    (cases_Bool (is_here (slice_index_or peers there.index nobody).stay)))
    (λ (absent : IsAbsent who peers). inr (λ k d lt same. absurd (absent k d lt same)))
    (find_peer who peers)
  where
    default_same : (peers : List Peer) (k j : ℕ) (d e : Peer) → k ≡ j → k < length peers
        → slice_index_or peers k d ≡ slice_index_or peers j e
    default_same [] k j d e same lt = absurd (omega (arith, lt))
    default_same (p ∷ peers) zero zero d e same lt = refl
    default_same (p ∷ peers) zero (suc j) d e same lt = absurd (omega (arith, same))
    default_same (p ∷ peers) (suc k) zero d e same lt = absurd (omega (arith, same))
    default_same (p ∷ peers) (suc k) (suc j) d e same lt = default_same peers k j d e (omega (arith, same)) (omega (arith, lt))

neither : (a b : Bool) → (a || b) ≡ false → (a ≡ false) × (b ≡ false)
neither true b e = absurd (true≢false e)
neither false b e = (refl, e)

none_such : (is_such : Peer → Bool) (peers : List Peer) → list_any is_such peers ≡ false → (k : ℕ) (d : Peer) → k < length peers
    → is_such (slice_index_or peers k d) ≡ false
none_such is_such [] none k d lt = absurd (omega (arith, lt))
none_such is_such (p ∷ peers) none zero d lt = (neither (is_such p) (list_any is_such peers) none).0
none_such is_such (p ∷ peers) none (suc k) d lt =
    none_such is_such peers (neither (is_such p) (list_any is_such peers) none).1 k d (omega (arith, lt))

-- input of it is held that the core takes
holds_as : (a : Account) (p : Peer) → Agrees a p → takes_input a ≡ true → holds_input p ≡ true
holds_as a p h takes =
    let watched : a.watched ≡ true = and_left a.watched (not a.sent.cut && is_held a.received) takes in
    let rest : (not a.sent.cut && is_held a.received) ≡ true = and_right a.watched (not a.sent.cut && is_held a.received) takes in
    let here : p.stay ≡ stay.Here = here_is a.watched a.lingering p.outgoing p.stay h.stays watched in
    let reads : ReadsAs a.received p.incoming p.input = reads_here a.received p.incoming p.input p.stay here h.reads in
    let held : is_held a.received ≡ not (length p.incoming == 0) = held_is a.received p.incoming reads.0 in
    both (is_here p.stay) a.sent.cut p.backpressured (is_held a.received) (not (length p.incoming == 0)) (ap is_here here) h.cut held rest
  where
    both : (here cut other held some : Bool) → here ≡ true → cut ≡ other → held ≡ some → (not cut && held) ≡ true
        → (here && (not other && some)) ≡ true
    both here cut other held some h c s e = rw (h, ← c, ← s) e

-- ---- a read in turn

last_within : (socket : ℕ) (s : Services) (who : Option ℕ) → s.last ≤ s.count
    → ((served socket s who).last ≤ (served socket s who).count) × (s.last ≤ (served socket s who).last)
last_within socket s None low = (low, omega arith)
last_within socket s (Some peer) low = by (peer == socket)
  where
    by : (b : Bool) → (cond b (s.count + 1) s.last ≤ s.count + 1) × (s.last ≤ cond b (s.count + 1) s.last)
    by true = (omega arith, omega (arith, low))
    by false = (omega (arith, low), omega arith)

-- the last service of a socket is one of all, and a later one is no lower
low_and_later : (socket : ℕ) (s : Services) (came : List Call) → s.last ≤ s.count
    → (let t = fold (λ s call. served socket s (serves call)) s came in (t.last ≤ t.count) × (s.last ≤ t.last))
low_and_later socket s [] low = (low, omega arith)
low_and_later socket s (call ∷ came) low =
    let one = last_within socket s (serves call) low in
    let more = low_and_later socket (served socket s (serves call)) came one.0 in
    let up = one.1 in
    let on = more.1 in
    (more.0, omega (arith, up, on))

low : (socket : ℕ) (came : List Call) → (services socket came).last ≤ (services socket came).count
low socket came = (low_and_later socket (record { count = 0; last = 0 }) came (omega arith)).0

counts_alike : (a b : ℕ) (s t : Services) (came : List Call) → s.count ≡ t.count
    → (fold (λ s call. served a s (serves call)) s came).count ≡ (fold (λ s call. served b s (serves call)) t came).count
counts_alike a b s t [] same = same
counts_alike a b s t (call ∷ came) same = counts_alike a b (served a s (serves call)) (served b t (serves call)) came (one (serves call))
  where
    one : (who : Option ℕ) → (served a s who).count ≡ (served b t who).count
    one None = same
    one (Some peer) = ap (λ n. n + 1) same

-- the number that a peer has is the number of its last service
exact : (log : List Step) (p : Peer) → IsCountable log → p.served ≡ min (last_service p.number log) 18446744073709551615
    → p.served ≡ last_service p.number log
exact log p few is =
    let within = low p.number (calls log) in
    let alike = counts_alike p.number 0 (record { count = 0; last = 0 }) (record { count = 0; last = 0 }) (calls log) refl in
    omega (arith, few, is, within, alike)

behind_none : (short behind : Bool) → short ≡ true → (short && behind) ≡ false → behind ≡ false
behind_none true behind e none = none
behind_none false behind e none = absurd (true≢false (sym e))

no_sooner : (a b : ℕ) (holds : Bool) → holds ≡ true → (nat_lt b a && holds) ≡ false → a ≤ b
no_sooner a b holds e none = let is : (nat_lt b a && true) ≡ false = rw (← e) none in grind (arith, nat_tests)

waits_weighs_nothing : (pace : Pace) (weight : ℕ) → is_short_pace pace ≡ true → fits (own_pace true pace) weight ≡ true → weight ≤ 0
waits_weighs_nothing pace weight short fit =
    let light : nat_le weight 0 ≡ true = sym (ap (λ (b : Bool). fits (cond b (Paced 0) pace) weight) short) ∙ fit in
    grind (arith, nat_tests)

pub read_in_turn : (old : List Step) (turn : Turn) (made : ℕ) (peers later : List Peer) (l : Listening) (last who space : ℕ)
    (answer : Result Got DoorFault) (buffer : List ℕ) → Stands old peers l last → IsTimed old turn → AreCounted old made peers
    → (IsMissing who peers → got_bytes answer buffer ≡ []) → IsPeerRead turn peers later who space answer (got_bytes answer buffer)
    → IsInTurn turn.timekeeper.wall turn.timekeeper.start old who answer buffer
read_in_turn old turn made peers later l last who space answer buffer stands timed counted missing read few short weighs other takes =
    ⊎_elim
    (λ (there : There who peers). ⊎_elim
    (λ (at : IsThere other peers).
    let q : Peer = slice_index_or peers at.index nobody in
    let p : Peer = slice_index_or peers there.0 nobody in
    let holds : holds_input q ≡ true = holds_as (account q.number old) q (stands.kept at.index nobody at.within)
    (subst (λ (n : ℕ). takes_input (account n old) ≡ true) (sym (at.same nobody)) takes) in
    let no : (nat_lt q.served p.served && holds_input q) ≡ false =
    none_such (is_turn_before p.served) peers (first there) at.index nobody at.within in
    let sooner : p.served ≤ q.served = no_sooner p.served q.served (holds_input q) holds no in
    let own = exact old p few (counted.last there.0 nobody there.1) in
    let theirs = exact old q few (counted.last at.index nobody at.within) in
    let me : last_service p.number old ≡ last_service who old = ap (λ n. last_service n old) there.2.0 in
    let them : last_service q.number old ≡ last_service other old = ap (λ n. last_service n old) (at.same nobody) in
    omega (arith, sooner, own, theirs, me, them))
    (λ (absent : IsAbsent other peers).
    absurd (true≢false (sym (and_left (account other old).watched _ takes) ∙ (stands.closed other absent).watched)))
    (find_peer other peers))
    (λ (none : IsMissing who peers).
    let empty : weight_of (t.lines who) (got_bytes answer buffer) ≡ 0 = ap (weight_of (t.lines who)) (missing none) in
    absurd (omega (arith, weighs, empty)))
    (present who old peers l last stands)
  where
    t : Times
    t = times turn.timekeeper.wall turn.timekeeper.start old

    is_short : is_short_pace turn.pace ≡ true
    is_short = ap (λ (u : Turn). is_short_pace u.pace) (sym timed.same) ∙ short

    first : (there : There who peers) → list_any (is_turn_before (slice_index_or peers there.0 nobody).served) peers ≡ false
    first there =
        let p : Peer = slice_index_or peers there.0 nobody in
        let answered : IsAnswered turn (goes_behind turn peers p) p space answer (got_bytes answer buffer) =
        (read there.0 nobody there.1 there.2).0 in
        let line : p.share.line ≡ t.lines who = sym (line_kept old turn.timekeeper.wall turn.timekeeper.start p
        (stands.kept there.0 nobody there.1)) ∙ ap t.lines there.2.0 in
        ⊎_elim
        (λ (waits : goes_behind turn peers p ≡ true).
        let nothing : weight_of p.share.line (got_bytes answer buffer) ≤ 0 =
        waits_weighs_nothing turn.pace (weight_of p.share.line (got_bytes answer buffer)) is_short
        (subst (λ (w : Bool). fits (own_pace w turn.pace) (weight_of p.share.line (got_bytes answer buffer)) ≡ true) waits answered.fits) in
        let same = ap (λ (b : LineBoundary). weight_of b (got_bytes answer buffer)) line in
        absurd (omega (arith, nothing, same, weighs)))
        (λ (goes : goes_behind turn peers p ≡ false).
        behind_none (is_short_pace turn.pace) (list_any (is_turn_before p.served) peers) is_short goes)
        (cases_Bool (goes_behind turn peers p))

-- a late turn hands out nothing
pub late_in_turn : (old : List Step) (wall start who : ℕ) (answer : Result Got DoorFault) (buffer : List ℕ)
    → got_bytes answer buffer ≡ [] → IsInTurn wall start old who answer buffer
late_in_turn old wall start who answer buffer nothing few short weighs other takes =
    let empty = ap (weight_of ((times wall start old).lines who)) nothing in
    absurd (omega (arith, weighs, empty))

-- ---- between two services

unserved : (socket : ℕ) (s : Services) (came : List Call) → is_served socket came ≡ false
    → (fold (λ s call. served socket s (serves call)) s came).last ≡ s.last
unserved socket s [] none = refl
unserved socket s (call ∷ came) none =
    let no = neither (is_of socket (serves call)) (is_served socket came) none in
    unserved socket (served socket s (serves call)) came no.1 ∙ one (serves call) no.0
  where
    one : (who : Option ℕ) → is_of socket who ≡ false → (served socket s who).last ≡ s.last
    one None e = refl
    one (Some peer) e = ap (λ (b : Bool). cond b (s.count + 1) s.last) e

just_served : (who : ℕ) (s : Services) (one : Option ℕ) → one ≡ Some who → (served who s one).last ≡ s.count + 1
just_served who s None e = cc
just_served who s (Some peer) e =
    let same : peer ≡ who = cc in
    let is : (peer == who) ≡ true = grind (arith, nat_tests) in
    ap (λ (b : Bool). cond b (s.count + 1) s.last) is

other_served : (who other : ℕ) (s : Services) (one : Option ℕ) → one ≡ Some who → other ≢ who → (served other s one).last ≡ s.last
other_served who other s None e differ = cc
other_served who other s (Some peer) e differ = ⊎_elim
    (λ (same : (peer == other) ≡ true).
    absurd (differ (let is : peer ≡ other = grind (arith, nat_tests) in let by : peer ≡ who = cc in sym is ∙ by)))
    (λ (ne : (peer == other) ≡ false). ap (λ (b : Bool). cond b (s.count + 1) s.last) ne)
    (cases_Bool (peer == other))

pub nobody_starves : (wall start : ℕ) (log : List Step) → AreInTurn wall start log → NobodyStarves wall start log
nobody_starves wall start log in_turn before mid after who other first second one two is serving few short weighs differ takes = ⊎_elim
    (λ (yes : is_served other (calls mid) ≡ true). yes)
    (λ (no : is_served other (calls mid) ≡ false).
    let turn = in_turn then after who second two (is ∙ sym (append_assoc before (x ∷ mid) (Answers (ReadCall who second two) ∷ after)))
    few short weighs other takes in
    let mine = ap (λ (s : Services). s.last) (at who) in
    let theirs = ap (λ (s : Services). s.last) (at other) in
    let still = unserved other (served other (services other (calls before)) (serves call)) (calls mid) no in
    let own = just_served who (services who (calls before)) (serves call) serving in
    let kept = other_served who other (services other (calls before)) (serves call) serving differ in
    let on = (low_and_later who (served who (services who (calls before)) (serves call)) (calls mid)
    (last_within who (services who (calls before)) (serves call) (low who (calls before))).0).1 in
    let within = low other (calls before) in
    let alike = counts_alike who other (record { count = 0; last = 0 }) (record { count = 0; last = 0 }) (calls before) refl in
    absurd (omega (arith, turn, mine, theirs, still, own, kept, on, within, alike)))
    (cases_Bool (is_served other (calls mid)))
  where
    call : Call
    call = ReadCall who first one

    x : Step
    x = Answers call

    then : List Step
    then = before ++ x ∷ mid

    at : (socket : ℕ) → services socket (calls then)
        ≡ fold (λ s c. served socket s (serves c)) (served socket (services socket (calls before)) (serves call)) (calls mid)
    at socket = ap (services socket) (filter_map-append call_of before (x ∷ mid))
        ∙ fold-append (λ s c. served socket s (serves c)) (record { count = 0; last = 0 }) (calls before) (call ∷ calls mid)
