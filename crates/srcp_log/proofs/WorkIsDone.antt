-- What a door has done goes on from step to step.
use Rattle.std.proofs.Common.{◌≡◌, ◌∙◌, ℕ, suc, ◌<◌, ◌≤◌, ◌+◌, Bool, true, false, not}
use Rattle.std.proofs.Common.{List, [], ◌∷◌, ◌++◌, length, take, refl, ap, sym, subst}
use Rattle.std.proofs.Common.{arith, ⊎_elim, ◌==◌, ◌&&◌, ◌||◌, if◌then◌else◌, Option, Some, None, Ok, Err, true≢false}
use Rattle.std.proofs.Common.{append-nil, append_assoc}
use Rattle.std.specs.Prelude.{Result, fold, nat_lt, slice_index_or}
use Rattle.std.specs.List.{list_all, list_any}
use Rattle.std.proofs.lemmas.Bool.{or_cases}
use Rattle.std.proofs.lemmas.Bool.Decides.{nat_tests}
use Rattle.std.proofs.lemmas.List.{length-append}
use Rattle.std.proofs.lemmas.List.Sums.{fold-append}
use Rattle.std.specs.declared.io.ErrorKind.{ErrorKind}
use Rattle.srcp_door.specs.Calls.{AcceptCall, Call, CloseCall, ExpectCall, NowCall, ReadCall}
use Rattle.srcp_door.specs.Calls.{WriteCall}
use Rattle.srcp_door.specs.declared.door.DoorFault.{DoorFault}
use Rattle.srcp_peers.specs.declared.peer.Peer.{Peer}
use Rattle.srcp_peers.specs.declared.stay.Stay.{Stay}
use Rattle.srcp_peers.specs.declared.stay.Stay.TheVariants as stay
use Rattle.srcp_peers.specs.declared.system.Ready.{Ready}
use Rattle.srcp_peers.specs.declared.system.IoFailure.{IoFailure}
use Rattle.srcp_peers.specs.declared.system.IoFailure.TheVariants.{WouldBlock, Interrupted, Fatal}
use Rattle.srcp_peers.specs.declared.turn.Listening.{Listening}
use Rattle.srcp_peers.specs.declared.turn.Turn.{Turn}
use Rattle.srcp_peers.specs.Accounts.{Account, accepted, account, account_step, closed, heard_failure, is_held, read_in, read_of}
use Rattle.srcp_peers.specs.Accounts.{failed_read, failed_write, shut_down, untouched, waited, woken, woken_came, woken_sent}
use Rattle.srcp_peers.specs.Peers.{Agrees, ComesAs, StaysAs, holds_input, is_here}
use Rattle.srcp_peers.specs.Steps.{Accepts, Answers, Clocks, Closes, Reads, SaysNothing, Shuts, Step, Waits, Writes}
use Rattle.srcp_peers.specs.Steps.{call_of, calls, failure_of}
use Rattle.srcp_peers.specs.Times.{KeepsTimes, Times, clocked, first_times, times, times_step}
use Rattle.srcp_peers.specs.Turns.{has_ticked}
use Rattle.srcp_peers.proofs.CallsAreOfTheDoor.{times_more}
use Rattle.srcp_peers.proofs.AccountsHoldStreams.{if_same}
use Rattle.srcp_peers.proofs.PeersStayKept.{account_more}
use Rattle.srcp_peers.proofs.PeersRestByAccount.{and_left, and_right, held_is}
use Rattle.srcp_log.specs.Doors.{Stands}
use Rattle.srcp_log.specs.KeptTimes.{IsTimed}
use Rattle.srcp_log.specs.Duties.{AreDone, IsDone, MayTell, has_waited, is_shown, last_shown, shown_by}
use Rattle.srcp_log.specs.Duties.{takes_input, waited_after}
use Rattle.srcp_log.proofs.AcceptsAreAsked.{splits}
use Rattle.srcp_log.proofs.SocketsStayStanding.{nobody}

-- ---- one step came

pub not_none : (x : Step) (mid after : List Step) → [] ≡ mid ++ x ∷ after → ⊥
not_none x [] after e = cc
not_none x (y ∷ mid) after e = cc

pub one_only : (step x : Step) (mid after : List Step) → step ∷ [] ≡ mid ++ x ∷ after → (mid ≡ []) × (x ≡ step)
one_only step x [] after e = (refl, (let same : step ≡ x = cc in sym same))
one_only step x (y ∷ mid) after e =
    let none : [] ≡ mid ++ x ∷ after = cc in
    absurd (not_none x mid after none)

pub done_step : (limit : Option ℕ) (wall start : ℕ) (old new : List Step) (step : Step) → new ≡ old ++ step ∷ []
    → IsDone limit wall start old step → AreDone limit wall start old → AreDone limit wall start new
done_step limit wall start old new step tells may done before after x is =
    ⊎_elim
    (λ (here : (rest : List Step) × (old ≡ before ++ x ∷ rest)). done before here.0 x here.1)
    (λ (there : (mid : List Step) × (step ∷ [] ≡ mid ++ x ∷ after) × (before ≡ old ++ mid)).
    let one = one_only step x there.0 after there.1 in
    let same : before ≡ old = there.2 ∙ ap (λ (l : List Step). old ++ l) one.0 ∙ append-nil old in
    subst (λ (l : List Step). IsDone limit wall start l x) (sym same) (subst (λ (s : Step). IsDone limit wall start old s) (sym one.1) may))
    (splits old (step ∷ []) before after x (sym tells ∙ is))

-- two steps came
pub tells_two : (old mid new : List Step) (one other : Step) → mid ≡ old ++ one ∷ [] → new ≡ mid ++ other ∷ []
    → new ≡ old ++ one ∷ other ∷ []
tells_two old mid new one other first second =
    second ∙ ap (λ (l : List Step). l ++ other ∷ []) first ∙ append_assoc old (one ∷ []) (other ∷ [])

-- ---- steps came that are no calls and no waits

-- nothing is to be done before it
abbrev pub is_free : Step → Bool
is_free (Waits most count ready) = false
is_free (Answers call) = false
is_free other = true

free_done : (limit : Option ℕ) (wall start : ℕ) (log : List Step) (step : Step) → is_free step ≡ true → IsDone limit wall start log step
free_done limit wall start log (Accepts number answer) e = tt
free_done limit wall start log (Reads who buffer answer) e = tt
free_done limit wall start log (Writes who bytes answer) e = tt
free_done limit wall start log (Waits most count ready) e = absurd (true≢false (sym e))
free_done limit wall start log (Shuts who) e = tt
free_done limit wall start log (Closes who) e = tt
free_done limit wall start log (Clocks answer) e = tt
free_done limit wall start log (Answers call) e = absurd (true≢false (sym e))

free_in : (mid after : List Step) (x : Step) → list_all is_free (mid ++ x ∷ after) ≡ true → is_free x ≡ true
free_in [] after x all = and_left (is_free x) (list_all is_free after) all
free_in (m ∷ mid) after x all = free_in mid after x (and_right (is_free m) (list_all is_free (mid ++ x ∷ after)) all)

pub no_call : (call : Call) (rest : List Call) → call ∷ rest ≡ [] → ⊥
no_call call rest e = cc

pub some_call : (call : Call) → Some call ≡ None → ⊥
some_call call e = cc

waits_grow : (came : List Step) (t : Times) → calls came ≡ [] → t.waits ≤ (fold times_step t came).waits
waits_grow [] t e = omega arith
waits_grow (Accepts number answer ∷ came) t e = waits_grow came (times_step t (Accepts number answer)) e
waits_grow (Reads who buffer answer ∷ came) t e = waits_grow came t e
waits_grow (Writes who bytes answer ∷ came) t e = waits_grow came t e
waits_grow (Waits most count ready ∷ came) t e =
    let more : t.waits + 1 ≤ (fold times_step (times_step t (Waits most count ready)) came).waits =
    waits_grow came (times_step t (Waits most count ready)) e in
    omega (arith, more)
waits_grow (Shuts who ∷ came) t e = waits_grow came t e
waits_grow (Closes who ∷ came) t e = waits_grow came t e
waits_grow (Clocks (Some time) ∷ came) t e = waits_grow came (times_step t (Clocks (Some time))) e
waits_grow (Clocks None ∷ came) t e = waits_grow came t e
waits_grow (Answers call ∷ came) t e = absurd (no_call call (calls came) e)

free_from : (came : List Step) (t : Times) → calls came ≡ [] → (fold times_step t came).waits ≡ t.waits → list_all is_free came ≡ true
free_from [] t e same = refl
free_from (Accepts number answer ∷ came) t e same = free_from came (times_step t (Accepts number answer)) e same
free_from (Reads who buffer answer ∷ came) t e same = free_from came t e same
free_from (Writes who bytes answer ∷ came) t e same = free_from came t e same
free_from (Waits most count ready ∷ came) t e same =
    let more : t.waits + 1 ≤ (fold times_step (times_step t (Waits most count ready)) came).waits =
    waits_grow came (times_step t (Waits most count ready)) e in
    absurd (omega (arith, more, same))
free_from (Shuts who ∷ came) t e same = free_from came t e same
free_from (Closes who ∷ came) t e same = free_from came t e same
free_from (Clocks (Some time) ∷ came) t e same = free_from came (times_step t (Clocks (Some time))) e same
free_from (Clocks None ∷ came) t e same = free_from came t e same
free_from (Answers call ∷ came) t e same = absurd (no_call call (calls came) e)

pub free_came : (old new : List Step) (says : SaysNothing old new) → KeepsTimes old new → list_all is_free says.0 ≡ true
free_came old new says keeps =
    let waits : (fold times_step (times 0 0 old) says.0).waits ≡ (times 0 0 old).waits =
    ap (λ (t : Times). t.waits) (sym (fold-append times_step (first_times 0 0) old says.0))
    ∙ ap (λ l. (times 0 0 l).waits) (sym says.1) ∙ ap (λ (t : Times). t.waits) (keeps 0 0) in
    free_from says.0 (times 0 0 old) says.2 waits

pub done_silent : (limit : Option ℕ) (wall start : ℕ) (old new : List Step) → SaysNothing old new → KeepsTimes old new
    → AreDone limit wall start old → AreDone limit wall start new
done_silent limit wall start old new says keeps done before after x is =
    ⊎_elim
    (λ (here : (rest : List Step) × (old ≡ before ++ x ∷ rest)). done before here.0 x here.1)
    (λ (there : (mid : List Step) × (says.0 ≡ mid ++ x ∷ after) × (before ≡ old ++ mid)).
    free_done limit wall start before x (free_in there.0 after x (ap (list_all is_free) (sym there.1) ∙ free_came old new says keeps)))
    (splits old says.0 before after x (sym says.1 ∙ is))

-- no step was made
pub done_first : (limit : Option ℕ) (wall start : ℕ) (log : List Step) → log ≡ [] → AreDone limit wall start log
done_first limit wall start log none before after x is = absurd (not_none x before after (sym none ∙ is))

-- the turn went on, from the same clocks
pub done_turn : (limit : Option ℕ) (log : List Step) (before after same : Turn) → after ≡ same
    → same.timekeeper.wall ≡ before.timekeeper.wall → same.timekeeper.start ≡ before.timekeeper.start
    → AreDone limit before.timekeeper.wall before.timekeeper.start log
    → AreDone limit after.timekeeper.wall after.timekeeper.start log
done_turn limit log before after same is wall start done =
    subst (λ (t : Turn). AreDone limit t.timekeeper.wall t.timekeeper.start log) (sym is)
    (subst (λ (w : ℕ). AreDone limit w same.timekeeper.start log) (sym wall)
    (subst (λ (s : ℕ). AreDone limit before.timekeeper.wall s log) (sym start) done))

-- a limit was set
pub done_limited : (limit : Option ℕ) (most wall start : ℕ) (log : List Step) → AreDone limit wall start log
    → AreDone (Some most) wall start log
done_limited limit most wall start log done before after x is = by x (done before after x is)
  where
    some_limit : (n : ℕ) → Some n ≡ None → ⊥
    some_limit n e = cc

    by : (step : Step) → IsDone limit wall start before step → IsDone (Some most) wall start before step
    by (Accepts number answer) h = h
    by (Reads who buffer answer) h = h
    by (Writes who bytes answer) h = h
    by (Waits left count ready) h = (h.0, h.1, h.2, λ none. absurd (some_limit most none))
    by (Shuts who) h = h
    by (Closes who) h = h
    by (Clocks answer) h = h
    by (Answers (ExpectCall due slack)) h = h
    by (Answers (NowCall answer)) h = h
    by (Answers (AcceptCall answer)) h = h
    by (Answers (ReadCall who answer buffer)) h = h
    by (Answers (WriteCall who bytes answer)) h = h
    by (Answers (CloseCall who answer)) h = h

-- ---- input is held

woken_takes : (socket : ℕ) (a : Account) (ready : List Ready) → takes_input (fold (woken socket) a ready) ≡ takes_input a
woken_takes socket a [] = refl
woken_takes socket a (one ∷ more) = woken_takes socket (woken socket a one) more
    ∙ if_same takes_input (one.socket == socket) (record a {
      sent = woken_sent a.sent one.writable;
      received = woken_came a.received one.readable (one.closed || one.urgent);
    }) a refl

takes_accepted : (socket number : ℕ) (a : Account) (answer : Result Unit ErrorKind) → takes_input a ≡ true
    → takes_input (account_step socket a (Accepts number answer)) ≡ true
takes_accepted socket number a (Ok done) takes = by (socket == 0) (number == socket)
  where
    by : (b c : Bool) → takes_input (if b then a else if c then accepted a (Ok done) else a) ≡ true
    by true c = takes
    by false true = and_right (not a.sent.cut) (is_held a.received) (and_right a.watched (not a.sent.cut && is_held a.received) takes)
    by false false = takes
takes_accepted socket number a (Err fault) takes = by (socket == 0) (number == socket) (failure_of fault)
  where
    by : (b c : Bool) (said : IoFailure)
        → takes_input (if b then record a { received = heard_failure a.received said } else if c then a else a) ≡ true
    by true c WouldBlock = takes
    by true c Interrupted = takes
    by true c Fatal = takes
    by false true said = takes
    by false false said = takes

longer : (handed gave more : ℕ) → nat_lt handed gave ≡ true → nat_lt handed (gave + more) ≡ true
longer handed gave more h = grind (arith, nat_tests)

takes_read : (a : Account) (buffer : List ℕ) (answer : Result ℕ ErrorKind) → takes_input a ≡ true
    → takes_input (read_of a buffer answer) ≡ true
takes_read a buffer (Ok count) takes = by a.watched a.sent.cut takes
  where
    by : (watched cut : Bool) → (watched && (not cut && is_held a.received)) ≡ true
        → (watched && (not cut && is_held (read_in a.received buffer (Ok count)))) ≡ true
    by true false h = ap (nat_lt (length a.received.handed)) (length-append a.received.gave (take count buffer))
        ∙ longer (length a.received.handed) (length a.received.gave) (length (take count buffer)) h
    by true true h = absurd (true≢false (sym h))
    by false cut h = absurd (true≢false (sym h))
takes_read a buffer (Err fault) takes = by (failure_of fault)
  where
    by : (said : IoFailure) → takes_input (record a { received = failed_read a.received said; unread = false }) ≡ true
    by WouldBlock = takes
    by Interrupted = takes
    by Fatal = takes

takes_wrote : (a : Account) (said : IoFailure) → takes_input (record a { sent = failed_write a.sent said }) ≡ takes_input a
takes_wrote a WouldBlock = refl
takes_wrote a Interrupted = refl
takes_wrote a Fatal = refl

-- one of two
either : (b : Bool) (x a : Account) → takes_input x ≡ true → takes_input a ≡ true → takes_input (if b then x else a) ≡ true
either true x a e f = e
either false x a e f = f

takes_step : (socket : ℕ) (a : Account) (step : Step) → call_of step ≡ None → takes_input a ≡ true
    → takes_input (account_step socket a step) ≡ true
takes_step socket a (Accepts number answer) none takes = takes_accepted socket number a answer takes
takes_step socket a (Reads who buffer answer) none takes = either (who == socket) (read_of a buffer answer) a
    (takes_read a buffer answer takes) takes
takes_step socket a (Writes who bytes (Ok count)) none takes = either (who == socket) _ a takes takes
takes_step socket a (Writes who bytes (Err fault)) none takes = either (who == socket) _ a
    (takes_wrote a (failure_of fault) ∙ takes) takes
takes_step socket a (Waits most count ready) none takes = woken_takes socket (waited socket a most) (take count ready) ∙ takes
takes_step socket a (Shuts who) none takes = either (who == socket) (shut_down a) a takes takes
takes_step socket a (Closes who) none takes = either (who == socket) (closed a) a takes takes
takes_step socket a (Clocks answer) none takes = takes
takes_step socket a (Answers call) none takes = absurd (some_call call none)

-- steps of which none is a call
pub no_calls : (step : Step) (came : List Step) → calls (step ∷ came) ≡ [] → (call_of step ≡ None) × (calls came ≡ [])
no_calls (Accepts number answer) came e = (refl, e)
no_calls (Reads who buffer answer) came e = (refl, e)
no_calls (Writes who bytes answer) came e = (refl, e)
no_calls (Waits most count ready) came e = (refl, e)
no_calls (Shuts who) came e = (refl, e)
no_calls (Closes who) came e = (refl, e)
no_calls (Clocks answer) came e = (refl, e)
no_calls (Answers call) came e = absurd (no_call call (calls came) e)

takes_came : (socket : ℕ) (a : Account) (came : List Step) → calls came ≡ [] → takes_input a ≡ true
    → takes_input (fold (account_step socket) a came) ≡ true
takes_came socket a [] e takes = takes
takes_came socket a (step ∷ came) e takes =
    let none = no_calls step came e in
    takes_came socket (account_step socket a step) came none.1 (takes_step socket a step none.0 takes)

takes_silent : (socket : ℕ) (old new : List Step) → SaysNothing old new → takes_input (account socket old) ≡ true
    → takes_input (account socket new) ≡ true
takes_silent socket old new says takes =
    ap (λ l. takes_input (account socket l)) says.1 ∙ ap takes_input (fold-append (account_step socket) untouched old says.0)
    ∙ takes_came socket (account socket old) says.0 says.2 takes

-- a peer of which the door holds input
held_peer : (peers : List Peer) → list_any holds_input peers ≡ true
    → (k : ℕ) × (k < length peers) × ((d : Peer) → holds_input (slice_index_or peers k d) ≡ true)
held_peer [] e = absurd (true≢false (sym e))
held_peer (p ∷ peers) e = ⊎_elim
    (λ (here : holds_input p ≡ true). (0, omega arith, λ d. here))
    (λ (there : list_any holds_input peers ≡ true).
    let one = held_peer peers there in
    let lt : one.0 < length peers = one.1 in
    (suc one.0, omega (arith, lt), λ d. one.2 d))
    (or_cases (holds_input p) (list_any holds_input peers) e)

takes_so : (watched cut held other none : Bool) → watched ≡ true → cut ≡ other → held ≡ not none → (not other && not none) ≡ true
    → (watched && (not cut && held)) ≡ true
takes_so watched cut held other none w c h e = rw (w, c, h) e

takes_as : (a : Account) (p : Peer) → Agrees a p → holds_input p ≡ true → takes_input a ≡ true
takes_as a p h holds = by p.stay h.reads h.stays holds
  where
    by : (here : Stay) → ComesAs a.received p.incoming p.input here → StaysAs a.watched a.lingering p.outgoing here
        → (is_here here && (not p.backpressured && not (length p.incoming == 0))) ≡ true → takes_input a ≡ true
    by stay.Here reads stays e = takes_so a.watched a.sent.cut (is_held a.received) p.backpressured (length p.incoming == 0) stays.0 h.cut
        (held_is a.received p.incoming reads.0) e
    by (stay.Draining since) reads stays e = absurd (true≢false (sym e))
    by (stay.Shut since) reads stays e = absurd (true≢false (sym e))

-- ---- it waited

waited_step : (waited : Bool) (step : Step) → call_of step ≡ None → waited ≡ true → waited_after waited step ≡ true
waited_step waited (Accepts number answer) none e = e
waited_step waited (Reads who buffer answer) none e = e
waited_step waited (Writes who bytes answer) none e = e
waited_step waited (Waits most count ready) none e = refl
waited_step waited (Shuts who) none e = e
waited_step waited (Closes who) none e = e
waited_step waited (Clocks answer) none e = e
waited_step waited (Answers call) none e = absurd (some_call call none)

waited_came : (waited : Bool) (came : List Step) → calls came ≡ [] → waited ≡ true → fold waited_after waited came ≡ true
waited_came waited [] e w = w
waited_came waited (step ∷ came) e w =
    let none = no_calls step came e in
    waited_came (waited_after waited step) came none.1 (waited_step waited step none.0 w)

pub looked_wait : (old new : List Step) (most : Option ℕ) (count : ℕ) (ready : List Ready) → new ≡ old ++ Waits most count ready ∷ []
    → has_waited new ≡ true
looked_wait old new most count ready tells =
    ap has_waited tells ∙ fold-append waited_after false old (Waits most count ready ∷ [])

pub looked_silent : (old new : List Step) → SaysNothing old new → has_waited old ≡ true → has_waited new ≡ true
looked_silent old new says looked =
    ap has_waited says.1 ∙ fold-append waited_after false old says.0 ∙ waited_came (has_waited old) says.0 says.2 looked

-- ---- a moment may be reported

pub may_tell : (turn : Turn) (old new : List Step) (peers : List Peer) (l : Listening) (last : ℕ) (held : Bool)
    → Stands old peers l last → SaysNothing old new → (held ≡ true → list_any holds_input peers ≡ true)
    → (held ≡ true → has_ticked turn ≡ false) → (held ≡ false → has_waited new ≡ true) → MayTell turn new
may_tell turn old new peers l last true stands says holds stood looked = record {
  waits = λ none.
      let one = held_peer peers (holds refl) in
      let p : Peer = slice_index_or peers one.0 nobody in
      let takes = takes_silent p.number old new says
      (takes_as (account p.number old) p (stands.kept one.0 nobody one.1) (one.2 nobody)) in
      absurd (true≢false (sym takes ∙ none p.number));
  ticked = λ ticked. absurd (true≢false (sym ticked ∙ stood refl));
}
may_tell turn old new peers l last false stands says holds stood looked = record {
  waits = λ none. looked refl;
  ticked = λ ticked. looked refl;
}

pub clocked_turn : (t : Times) (shown : Option ℕ) → (clocked t shown).turn ≡ t.turn
clocked_turn t None = refl
clocked_turn t (Some time) = refl

pub moment_done : (limit : Option ℕ) (turn : Turn) (old mid : List Step) (shown : Option ℕ) (answer : Result ℕ DoorFault)
    → mid ≡ old ++ Clocks shown ∷ [] → is_shown (Some shown) answer ≡ true → IsTimed old turn → MayTell turn old
    → IsDone limit turn.timekeeper.wall turn.timekeeper.start mid (Answers (NowCall answer))
moment_done limit turn old mid shown answer tells is_so timed may = record {
  clock = ap (λ l. is_shown (last_shown l) answer) tells
      ∙ ap (λ s. is_shown s answer) (fold-append (λ before step. shown_by step) None old (Clocks shown ∷ [])) ∙ is_so;
  may = record {
    waits = λ none. waited ∙ may.waits (λ socket. sym (ap takes_input (account_more socket old (Clocks shown)))
        ∙ ap (λ l. takes_input (account socket l)) (sym tells) ∙ none socket);
    ticked = λ ticked. waited ∙ may.ticked (ap has_ticked (sym same) ∙ ticked);
  };
}
  where
    wall : ℕ
    wall = turn.timekeeper.wall

    start : ℕ
    start = turn.timekeeper.start

    waited : has_waited mid ≡ has_waited old
    waited = ap has_waited tells ∙ fold-append waited_after false old (Clocks shown ∷ [])

    same : (times wall start mid).turn ≡ turn
    same = ap (λ l. (times wall start l).turn) tells ∙ ap (λ (t : Times). t.turn) (times_more wall start old (Clocks shown))
        ∙ clocked_turn (times wall start old) shown ∙ timed.same
