-- How far the peers are on the way to their ends goes on from step to step.
use Rattle.std.proofs.Common.{◌≡◌, ◌∙◌, ℕ, ◌<◌, ◌+◌, Bool, true, false, not, List, [], ◌∷◌, ◌++◌, length, refl, ap, sym, subst}
use Rattle.std.proofs.Common.{arith, ⊎_elim, ◌==◌, cond, get_or, set, get_or-set_other, get_or-set_same, if◌then◌else◌}
use Rattle.std.proofs.Common.{Option, None, Ok, Err, true≢false}
use Rattle.std.specs.Prelude.{◌≢◌, ◌&&◌, ◌||◌, fold, nat_le, nat_lt, slice_index_or, Result}
use Rattle.std.proofs.lemmas.Bool.{cases_eq}
use Rattle.std.proofs.lemmas.Bool.Decides.{nat_tests}
use Rattle.std.proofs.lemmas.List.{get_or_default, length-set}
use Rattle.std.proofs.lemmas.List.Elements.{All-push}
use Rattle.std.proofs.lemmas.List.Sums.{fold-append}
use Rattle.std.specs.List.{remove}
use Rattle.srcp_door.specs.Calls.{NowCall, WriteCall}
use Rattle.srcp_door.specs.declared.door.DoorFault.{DoorFault}
use Rattle.srcp_peers.specs.declared.ending.Ending.{Ending}
use Rattle.srcp_peers.specs.declared.ending.Ending.TheVariants.{Open, Settling, Settled}
use Rattle.srcp_peers.specs.declared.peer.Peer.{Peer}
use Rattle.srcp_peers.specs.declared.readiness.Input.{Input}
use Rattle.srcp_peers.specs.declared.readiness.Input.TheVariants as input
use Rattle.srcp_peers.specs.declared.readiness.Output.{Output}
use Rattle.srcp_peers.specs.declared.stay.Stay.{Stay}
use Rattle.srcp_peers.specs.declared.stay.Stay.TheVariants as stay
use Rattle.srcp_peers.specs.declared.system.Ready.{Ready}
use Rattle.srcp_peers.specs.Accounts.{Account, Received, account, account_step, is_held, untouched}
use Rattle.srcp_peers.specs.AllPeers.{AllKeepRest, AreApart, AreBegun, AreKept, AreShutDown, AreThose}
use Rattle.srcp_peers.specs.Ends.{begun, written}
use Rattle.srcp_peers.specs.Peers.{Agrees, ReadsAs, after_wake, is_lost, is_over, stay_after, woken_input, woken_output}
use Rattle.srcp_peers.specs.Reports.{is_settled}
use Rattle.srcp_peers.specs.Steps.{Accepts, Answers, Clocks, Closes, Reads, SaysNothing, Shuts, Step, Waits, Writes, call_of, calls}
use Rattle.srcp_peers.proofs.PeersStayKept.{account_more, alien, own, picks, skips}
use Rattle.srcp_peers.proofs.PeersRestByAccount.{held_is}
use Rattle.srcp_peers.proofs.CallsAreOfTheDoor.{says_step}
use Rattle.srcp_peers.proofs.StatesFollowSteps.{reads_here}
use Rattle.srcp_log.specs.Endings.{AreAsFar, AreVisited, Leaving, ending_of, ending_step, is_all_read, is_as_far, leaving, leaving_step}
use Rattle.srcp_log.proofs.AcceptsKeepSockets.{new_peer}
use Rattle.srcp_log.proofs.WorkIsDone.{no_calls, some_call}
use Rattle.srcp_log.proofs.SocketsLingerAndClose.{leaves_one}

-- ---- how far

pub far_written : (wanted is : Ending) (all : Bool) → is_as_far wanted is ≡ true
    → is_as_far (written wanted all) (written is all) ≡ true
far_written Open is all e = refl
far_written (Settling most) Open all e = absurd (true≢false (sym e))
far_written (Settling most) (Settling writes) true e = more most writes e
  where
    more : (m w : ℕ) → nat_le w m ≡ true → nat_le (cond (nat_lt w 300) (w + 1) 300) (cond (nat_lt m 300) (m + 1) 300) ≡ true
    more m w h = grind (arith, nat_tests)
far_written (Settling most) (Settling writes) false e = refl
far_written (Settling most) Settled all e = refl
far_written Settled Open all e = absurd (true≢false (sym e))
far_written Settled (Settling writes) all e = absurd (true≢false (sym e))
far_written Settled Settled all e = refl

-- the begin of a visit takes nobody back
either_far : (wanted : Ending) (b : Bool) → is_as_far wanted (Settling 0) ≡ true → is_as_far wanted Settled ≡ true
    → is_as_far wanted (cond b Settled (Settling 0)) ≡ true
either_far wanted true low high = high
either_far wanted false low high = low

none_most : (most : ℕ) → nat_le 0 most ≡ true
none_most most = grind (arith, nat_tests)

far_on : (wanted is : Ending) (over : Bool) → is_as_far wanted is ≡ true → is_as_far wanted (begun is over) ≡ true
far_on Open is over e = refl
far_on (Settling most) Open over e = absurd (true≢false (sym e))
far_on (Settling most) (Settling writes) over e = either_far (Settling most) (nat_lt writes 300) (none_most most) refl
far_on (Settling most) Settled over e = refl
far_on Settled Open over e = absurd (true≢false (sym e))
far_on Settled (Settling writes) over e = absurd (true≢false (sym e))
far_on Settled Settled over e = refl

far_begun : (wanted is : Ending) (over : Bool) → is_as_far wanted is ≡ true
    → is_as_far (begun wanted over) (begun is over) ≡ true
far_begun Open Open true e = refl
far_begun Open (Settling writes) true e = either_far (Settling 0) (nat_lt writes 300) refl refl
far_begun Open Settled true e = refl
far_begun Open is false e = refl
far_begun (Settling most) Open over e = absurd (true≢false (sym e))
far_begun (Settling most) (Settling writes) over e = by (nat_lt most 300) (nat_lt writes 300) (fewer most writes e)
  where
    fewer : (m w : ℕ) → nat_le w m ≡ true → nat_lt m 300 ≡ true → nat_lt w 300 ≡ true
    fewer m w h lt = grind (arith, nat_tests)

    by : (b c : Bool) → (b ≡ true → c ≡ true) → is_as_far (cond b Settled (Settling 0)) (cond c Settled (Settling 0)) ≡ true
    by true true h = refl
    by true false h = absurd (true≢false (sym (h refl)))
    by false true h = refl
    by false false h = refl
far_begun (Settling most) Settled over e = by (nat_lt most 300)
  where
    by : (b : Bool) → is_as_far (cond b Settled (Settling 0)) Settled ≡ true
    by true = refl
    by false = refl
far_begun Settled Open over e = absurd (true≢false (sym e))
far_begun Settled (Settling writes) over e = absurd (true≢false (sym e))
far_begun Settled Settled over e = refl

-- ---- steps came

leaving_from : (socket : ℕ) (x : Leaving) (log : List Step)
    → (fold (leaving_step socket) x log).account ≡ fold (account_step socket) x.account log
leaving_from socket x [] = refl
leaving_from socket x (step ∷ log) = leaving_from socket (leaving_step socket x step) log

pub leaving_account : (socket : ℕ) (log : List Step) → (leaving socket log).account ≡ account socket log
leaving_account socket log = leaving_from socket (record { account = untouched; ending = Open }) log

ending_more : (socket : ℕ) (log : List Step) (step : Step)
    → ending_of socket (log ++ step ∷ []) ≡ ending_step socket (leaving socket log) step
ending_more socket log step =
    ap (λ (x : Leaving). x.ending) (fold-append (leaving_step socket) (record { account = untouched; ending = Open }) log (step ∷ []))

-- nobody is wanted further after the steps that came
abbrev pub Slackens : (old new : List Step) → Type 0
Slackens old new = (socket : ℕ) (is : Ending) → is_as_far (ending_of socket old) is ≡ true → is_as_far (ending_of socket new) is ≡ true

far_accepted : (b : Bool) (wanted is : Ending) → is_as_far wanted is ≡ true → is_as_far (if b then Open else wanted) is ≡ true
far_accepted true wanted is e = refl
far_accepted false wanted is e = e

far_step : (socket : ℕ) (x : Leaving) (step : Step) (is : Ending) → call_of step ≡ None → is_as_far x.ending is ≡ true
    → is_as_far (ending_step socket x step) is ≡ true
far_step socket x (Accepts number (Ok done)) is none e = far_accepted (number == socket) x.ending is e
far_step socket x (Accepts number (Err fault)) is none e = e
far_step socket x (Reads who buffer answer) is none e = e
far_step socket x (Writes who bytes answer) is none e = e
far_step socket x (Waits most count ready) is none e = e
far_step socket x (Shuts who) is none e = e
far_step socket x (Closes who) is none e = e
far_step socket x (Clocks answer) is none e = e
far_step socket x (Answers call) is none e = absurd (some_call call none)

far_came : (socket : ℕ) (x : Leaving) (came : List Step) (is : Ending) → calls came ≡ [] → is_as_far x.ending is ≡ true
    → is_as_far (fold (leaving_step socket) x came).ending is ≡ true
far_came socket x [] is none e = e
far_came socket x (step ∷ came) is none e =
    let n = no_calls step came none in
    far_came socket (leaving_step socket x step) came is n.1 (far_step socket x step is n.0 e)

pub slackens_silent : (old new : List Step) → SaysNothing old new → Slackens old new
slackens_silent old new says socket far e =
    subst (λ (l : List Step). is_as_far (ending_of socket l) far ≡ true) (sym says.1)
    (subst (λ (x : Leaving). is_as_far x.ending far ≡ true)
    (sym (fold-append (leaving_step socket) (record { account = untouched; ending = Open }) old says.0))
    (far_came socket (leaving socket old) says.0 far says.2 e))

pub slackens_step : (old new : List Step) (step : Step) → new ≡ old ++ step ∷ []
    → ((socket : ℕ) (x : Leaving) → ending_step socket x step ≡ x.ending) → Slackens old new
slackens_step old new step tells same socket far e = subst (λ (x : Ending). is_as_far x far ≡ true)
    (sym (ap (ending_of socket) tells ∙ ending_more socket old step ∙ same socket (leaving socket old))) e

-- ---- the peers

-- each that is there was there, and is as far
abbrev pub AreOf : (before after : List Peer) → Type 0
AreOf before after = (k : ℕ) (d : Peer) → k < length after → (slice_index_or after k d).stay ≡ stay.Here
    → (j : ℕ) × (j < length before) × ((slice_index_or before j d).stay ≡ stay.Here)
    × ((slice_index_or after k d).number ≡ (slice_index_or before j d).number)
    × ((slice_index_or after k d).ending ≡ (slice_index_or before j d).ending)

pub same_ones : (peers : List Peer) → AreOf peers peers
same_ones peers k d lt here = (k, lt, here, refl, refl)

pub far_goes : (old new : List Step) (before after : List Peer) → Slackens old new → AreOf before after → AreAsFar old before
    → AreAsFar new after
far_goes old new before after slackens those far k d lt here =
    let j = those k d lt here in
    let p : Peer = slice_index_or before j.0 d in
    let q : Peer = slice_index_or after k d in
    subst (λ (n : ℕ). is_as_far (ending_of n new) q.ending ≡ true) (sym j.3)
    (subst (λ (e : Ending). is_as_far (ending_of p.number new) e ≡ true) (sym j.4)
    (slackens p.number p.ending (far j.0 d j.1 j.2)))

pub far_same : (old new : List Step) (peers : List Peer) (step : Step) → new ≡ old ++ step ∷ []
    → ((socket : ℕ) (x : Leaving) → ending_step socket x step ≡ x.ending) → AreAsFar old peers → AreAsFar new peers
far_same old new peers step tells same far =
    far_goes old new peers peers (slackens_step old new step tells same) (same_ones peers) far

-- one of them, which is as far if it is there
pub set_one : (peers : List Peer) (i : ℕ) (p q : Peer) → i < length peers
    → (q.stay ≡ stay.Here → ((get_or peers i p).stay ≡ stay.Here) × (q.number ≡ (get_or peers i p).number)
    × (q.ending ≡ (get_or peers i p).ending)) → AreOf peers (set peers i q)
set_one peers i p q within is k d lt here =
    let low : k < length peers = omega (arith, lt, length-set peers i q) in
    ⊎_elim
    (λ (e : k ≡ i).
    let at : get_or (set peers i q) k d ≡ q = ap (λ n. get_or (set peers i q) n d) e ∙ get_or-set_same peers i q d within in
    let h = is (ap (λ (x : Peer). x.stay) (sym at) ∙ here) in
    let there : get_or peers i p ≡ get_or peers k d = get_or_default peers i p d within ∙ ap (λ n. get_or peers n d) (sym e) in (
      k,
      low,
      ap (λ (x : Peer). x.stay) (sym there) ∙ h.0,
      ap (λ (x : Peer). x.number) at ∙ h.1 ∙ ap (λ (x : Peer). x.number) there,
      ap (λ (x : Peer). x.ending) at ∙ h.2 ∙ ap (λ (x : Peer). x.ending) there,
    ))
    (λ (ne : k ≡ i → ⊥).
    let at : get_or (set peers i q) k d ≡ get_or peers k d = get_or-set_other peers i k q d ne in
    (k, low, ap (λ (x : Peer). x.stay) (sym at) ∙ here, ap (λ (x : Peer). x.number) at, ap (λ (x : Peer). x.ending) at))
    (cases_eq k i)

-- ---- sockets were found ready

woken_one : (p : Peer) (one : Ready) → ((after_wake p one).ending ≡ p.ending) × ((after_wake p one).stay ≡ p.stay)
    × ((after_wake p one).number ≡ p.number)
woken_one p one = by (one.socket == p.number)
  where
    by : (b : Bool) → (let q = if b then record p {
      input = woken_input p.input one.readable (one.closed || one.urgent);
      output = woken_output p.output one.writable;
    } else p in (q.ending ≡ p.ending) × (q.stay ≡ p.stay) × (q.number ≡ p.number))
    by true = (refl, refl, refl)
    by false = (refl, refl, refl)

woken_all : (p : Peer) (ready : List Ready) → ((fold after_wake p ready).ending ≡ p.ending) × ((fold after_wake p ready).stay ≡ p.stay)
    × ((fold after_wake p ready).number ≡ p.number)
woken_all p [] = (refl, refl, refl)
woken_all p (one ∷ more) =
    let a = woken_one p one in
    let b = woken_all (after_wake p one) more in
    (b.0 ∙ a.0, b.1 ∙ a.1, b.2 ∙ a.2)

pub woken_of : (before after : List Peer) (ready : List Ready) → length after ≡ length before
    → ((k : ℕ) (d : Peer) → k < length before → slice_index_or after k d ≡ fold after_wake (slice_index_or before k d) ready)
    → AreOf before after
woken_of before after ready long woken k d lt here =
    let low : k < length before = omega (arith, lt, long) in
    let p : Peer = slice_index_or before k d in
    let is = woken k d low in
    let same = woken_all p ready in (
      k,
      low,
      sym same.1 ∙ ap (λ (x : Peer). x.stay) (sym is) ∙ here,
      ap (λ (x : Peer). x.number) is ∙ same.2,
      ap (λ (x : Peer). x.ending) is ∙ same.0,
    )

-- ---- one was closed, and one came

pub removed_of : (peers : List Peer) (i : ℕ) (p : Peer) → i < length peers → get_or peers i p ≡ p → AreApart peers
    → AreOf peers (remove peers i)
removed_of peers i p within at apart k d lt here =
    let leaves = leaves_one p.number peers i within
    (λ e. ap (λ (x : Peer). x.number) (get_or_default peers i e p within ∙ at)) apart in
    let f = leaves.from k d lt in (
      f.0,
      f.1,
      ap (λ (x : Peer). x.stay) (sym f.2) ∙ here,
      ap (λ (x : Peer). x.number) f.2,
      ap (λ (x : Peer). x.ending) f.2,
    )

pub far_pushed : (old new : List Step) (peers items : List Peer) (p : Peer) (clock number : ℕ) (done : Unit {0})
    → items ≡ peers ++ p ∷ [] → p ≡ new_peer clock number → new ≡ old ++ Accepts number (Ok done) ∷ []
    → AreAsFar old peers → AreAsFar new items
far_pushed old new peers items p clock number done pushed is tells far k d lt here =
    let slackens = slackens_silent old new (says_step old new (Accepts number (Ok done)) tells refl) in
    let Far : Peer → Type 0 = λ q. q.stay ≡ stay.Here → is_as_far (ending_of q.number new) q.ending ≡ true in
    let opens : ending_of p.number new ≡ Open = ap (ending_of p.number) tells ∙ ending_more p.number old (Accepts number (Ok done))
    ∙ picks (number == p.number) Open (leaving p.number old).ending
    (ap (λ (x : Peer). number == x.number) is ∙ own number) in
    let one : Far p = λ e. ap (λ w. is_as_far w p.ending) opens in
    let each : (j : ℕ) (e : Peer) → j < length peers → Far (slice_index_or peers j e) = λ j e low stays.
    slackens (slice_index_or peers j e).number (slice_index_or peers j e).ending (far j e low stays) in
    subst (λ (qs : List Peer). k < length qs → Far (slice_index_or qs k d)) (sym pushed) (All-push Far peers p each one k d) lt here

-- ---- one was written to

pub far_wrote : (old new : List Step) (peers : List Peer) (i : ℕ) (p q : Peer) (bytes : List ℕ) (count : ℕ) → i < length peers
    → p ≡ get_or peers i p → AreApart peers → q.number ≡ p.number → q.stay ≡ p.stay
    → q.ending ≡ written p.ending (not (nat_lt count (length bytes)))
    → new ≡ old ++ Answers (WriteCall p.number bytes (Ok count)) ∷ [] → AreAsFar old peers → AreAsFar new (set peers i q)
far_wrote old new peers i p q bytes count within at apart same stays ends tells far k d lt here =
    let low : k < length peers = omega (arith, lt, length-set peers i q) in
    let more : (socket : ℕ) → ending_of socket new
    ≡ (if p.number == socket then written (ending_of socket old) (not (nat_lt count (length bytes))) else ending_of socket old) =
    λ socket. ap (ending_of socket) tells ∙ ending_more socket old (Answers (WriteCall p.number bytes (Ok count))) in
    ⊎_elim
    (λ (e : k ≡ i).
    let is : get_or (set peers i q) k d ≡ q = ap (λ n. get_or (set peers i q) n d) e ∙ get_or-set_same peers i q d within in
    let there : get_or peers k d ≡ p = ap (λ n. get_or peers n d) e ∙ get_or_default peers i d p within ∙ sym at in
    let was : is_as_far (ending_of p.number old) p.ending ≡ true =
    subst (λ (x : Peer). is_as_far (ending_of x.number old) x.ending ≡ true) there
    (far k d low (ap (λ (x : Peer). x.stay) there ∙ sym stays ∙ ap (λ (x : Peer). x.stay) (sym is) ∙ here)) in
    let wanted : ending_of p.number new ≡ written (ending_of p.number old) (not (nat_lt count (length bytes))) = more p.number
    ∙ picks (p.number == p.number) _ _ (own p.number) in
    subst (λ (x : Peer). is_as_far (ending_of x.number new) x.ending ≡ true) (sym is)
    (subst (λ (n : ℕ). is_as_far (ending_of n new) q.ending ≡ true) (sym same)
    (subst (λ (w : Ending). is_as_far w q.ending ≡ true) (sym wanted)
    (subst (λ (e : Ending). is_as_far (written (ending_of p.number old) (not (nat_lt count (length bytes)))) e ≡ true) (sym ends)
    (far_written (ending_of p.number old) p.ending (not (nat_lt count (length bytes))) was)))))
    (λ (ne : k ≡ i → ⊥).
    let x : Peer = get_or peers k d in
    let is : get_or (set peers i q) k d ≡ x = get_or-set_other peers i k q d ne in
    let differ : x.number ≢ p.number = λ (e : x.number ≡ p.number).
    apart k i d low within ne (e ∙ ap (λ (y : Peer). y.number) (at ∙ get_or_default peers i p d within)) in
    let wanted : ending_of x.number new ≡ ending_of x.number old = more x.number
    ∙ skips (p.number == x.number) _ _ (alien p.number x.number differ) in
    subst (λ (y : Peer). is_as_far (ending_of y.number new) y.ending ≡ true) (sym is)
    (subst (λ (w : Ending). is_as_far w x.ending ≡ true) (sym wanted)
    (far k d low (ap (λ (y : Peer). y.stay) (sym is) ∙ here))))
    (cases_eq k i)

-- ---- visits begin

and_none : (b : Bool) → (b && false) ≡ false
and_none true = refl
and_none false = refl

not_twice : (b : Bool) → not (not b) ≡ b
not_twice true = refl
not_twice false = refl

-- the input of a peer is over when its account says so
pub over_as : (received : Received) (incoming : List ℕ) (state : Input) → ReadsAs received incoming state
    → is_over incoming state ≡ is_all_read received
over_as received incoming input.Ready h = sym (ap (λ e. e && (not received.failed && not (is_held received))) h.1.1)
over_as received incoming input.Emptying h = sym (ap (λ e. e && (not received.failed && not (is_held received))) h.1.1)
over_as received incoming input.Quiet h = sym (ap (λ e. e && (not received.failed && not (is_held received))) h.1.1)
over_as received incoming input.Ended h =
    let held : is_held received ≡ not (length incoming == 0) = held_is received incoming h.0 in
    sym (ap (λ e. e && (not received.failed && not (is_held received))) h.1.1 ∙ ap (λ f. not f && not (is_held received)) h.1.0
    ∙ ap not held ∙ not_twice (length incoming == 0))
over_as received incoming input.Failed h =
    sym (ap (λ f. received.ended && (not f && not (is_held received))) h.1.0 ∙ and_none received.ended)

pub far_visited : (old new : List Step) (before after : List Peer) → length after ≡ length before → SaysNothing old new
    → AreThose before after → AreBegun before after → AreAsFar old before → AreAsFar new after
far_visited old new before after long says those begins far k d lt here =
    let low : k < length before = omega (arith, lt, long) in
    let p : Peer = slice_index_or before k d in
    let q : Peer = slice_index_or after k d in
    let b = begins k d low in
    subst (λ (n : ℕ). is_as_far (ending_of n new) q.ending ≡ true) (sym (those k d low))
    (subst (λ (e : Ending). is_as_far (ending_of p.number new) e ≡ true) (sym b.1)
    (far_on (ending_of p.number new) p.ending (is_over q.incoming q.input)
    (slackens_silent old new says p.number p.ending (far k d low (sym b.0 ∙ here)))))

pub visited_all : (old new : List Step) (before after : List Peer) → length after ≡ length before → SaysNothing old new
    → AreThose before after → AreKept new after → AreBegun before after → AreAsFar old before → AreVisited new after
visited_all old new before after long says those kept begins far k d lt here =
    let low : k < length before = omega (arith, lt, long) in
    let p : Peer = slice_index_or before k d in
    let q : Peer = slice_index_or after k d in
    let b = begins k d low in
    let agrees : Agrees (account q.number new) q = kept k d lt in
    let received : Received = (account q.number new).received in
    let over : is_over q.incoming q.input ≡ is_all_read received =
    over_as received q.incoming q.input (reads_here received q.incoming q.input q.stay here agrees.reads) in
    let wanted : is_as_far (begun (ending_of p.number new) (is_over q.incoming q.input)) q.ending ≡ true =
    subst (λ (e : Ending). is_as_far (begun (ending_of p.number new) (is_over q.incoming q.input)) e ≡ true) (sym b.1)
    (far_begun (ending_of p.number new) p.ending (is_over q.incoming q.input)
    (slackens_silent old new says p.number p.ending (far k d low (sym b.0 ∙ here)))) in
    subst (λ (o : Bool). is_as_far (begun (ending_of q.number new) o) q.ending ≡ true) over
    (subst (λ (n : ℕ). is_as_far (begun (ending_of n new) (is_over q.incoming q.input)) q.ending ≡ true) (sym (those k d low)) wanted)

-- ---- the moment is reported

pub far_told : (old mid new : List Step) (peers : List Peer) (shown : Option ℕ) (answer : Result ℕ DoorFault)
    → mid ≡ old ++ Clocks shown ∷ [] → new ≡ mid ++ Answers (NowCall answer) ∷ [] → AreVisited old peers → AreAsFar new peers
far_told old mid new peers shown answer reads tells visited k d lt here =
    let p : Peer = slice_index_or peers k d in
    let was : (leaving p.number mid).ending ≡ ending_of p.number old = ap (ending_of p.number) reads
    ∙ ending_more p.number old (Clocks shown) in
    let came : (leaving p.number mid).account.received ≡ (account p.number old).received =
    ap (λ (a : Account). a.received)
    (leaving_account p.number mid ∙ ap (account p.number) reads ∙ account_more p.number old (Clocks shown)) in
    let wanted : ending_of p.number new ≡ begun (ending_of p.number old) (is_all_read (account p.number old).received) =
    ap (ending_of p.number) tells ∙ ending_more p.number mid (Answers (NowCall answer))
    ∙ ap (λ (e : Ending). begun e (is_all_read (leaving p.number mid).account.received)) was
    ∙ ap (λ (x : Received). begun (ending_of p.number old) (is_all_read x)) came in
    subst (λ (w : Ending). is_as_far w p.ending ≡ true) (sym wanted) (visited k d lt here)

-- ---- the end is told

pub settled_so : (wanted is : Ending) → is_as_far wanted is ≡ true → is_settled wanted ≡ true → is_settled is ≡ true
settled_so Open is e h = absurd (true≢false (sym h))
settled_so (Settling most) is e h = absurd (true≢false (sym h))
settled_so Settled Open e h = absurd (true≢false (sym e))
settled_so Settled (Settling writes) e h = absurd (true≢false (sym e))
settled_so Settled Settled e h = refl

-- ---- what is flushed, and who is closed by the core

still_here : (before : Stay) (outgoing : List ℕ) (state : Output) → stay_after before outgoing state ≡ stay.Here → before ≡ stay.Here
still_here stay.Here outgoing state e = refl
still_here (stay.Draining since) outgoing state e = by ((length outgoing == 0) && not (is_lost state)) e
  where
    by : (b : Bool) → cond b (stay.Shut since) (stay.Draining since) ≡ stay.Here → stay.Draining since ≡ stay.Here
    by true h = cc
    by false h = cc
still_here (stay.Shut since) outgoing state e = e

pub flushed_of : (before after : List Peer) → length after ≡ length before → AreThose before after → AreShutDown before after
    → AllKeepRest before after → AreOf before after
flushed_of before after long those shut keeps k d lt here =
    let low : k < length before = omega (arith, lt, long) in
    let q : Peer = slice_index_or after k d in (
      k,
      low,
      still_here (slice_index_or before k d).stay q.outgoing q.output (sym (shut k d low) ∙ here),
      those k d low,
      (keeps k d low).1,
    )

pub far_left : (old new : List Step) (peers : List Peer) (i : ℕ) (p q : Peer) (since : ℕ) → i < length peers
    → q ≡ record p { stay = stay.Draining since } → Slackens old new → AreAsFar old peers → AreAsFar new (set peers i q)
far_left old new peers i p q since within is slackens far =
    far_goes old new peers (set peers i q) slackens
    (set_one peers i p q within (λ here. absurd (gone (ap (λ (x : Peer). x.stay) (sym is) ∙ here)))) far
  where
    gone : stay.Draining since ≡ stay.Here → ⊥
    gone e = cc
