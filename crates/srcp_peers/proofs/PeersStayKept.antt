-- How what is known of a peer goes on from step to step.
use Rattle.std.proofs.Common.{◌≡◌, ◌∙◌, ℕ, Bool, true, false, not, List, [], ◌∷◌, ◌++◌, take, if◌then◌else◌, Ok, Err}
use Rattle.std.proofs.Common.{refl, ap, sym, subst, arith, ◌==◌, Option}
use Rattle.std.specs.Prelude.{◌≢◌, OnErr, Result, ◌&&◌, ◌||◌, fold}
use Rattle.std.proofs.lemmas.List.Sums.{fold-append}
use Rattle.std.proofs.lemmas.Bool.Decides.{nat_tests}
use Rattle.std.specs.declared.io.ErrorKind.{ErrorKind}
use Rattle.srcp_peers.specs.declared.system.IoFailure.{IoFailure}
use Rattle.srcp_peers.specs.declared.system.IoFailure.TheVariants.{WouldBlock, Interrupted, Fatal}
use Rattle.srcp_peers.specs.declared.system.Ready.{Ready}
use Rattle.srcp_peers.specs.declared.readiness.Input.TheVariants as input
use Rattle.srcp_peers.specs.declared.readiness.Output.TheVariants as output
use Rattle.srcp_peers.specs.declared.peer.Peer.{Peer}
use Rattle.srcp_peers.specs.declared.stay.Stay.TheVariants as stay
use Rattle.srcp_peers.specs.Steps.{Step, Writes, Waits, Answers, failure_of}
use Rattle.srcp_door.specs.Calls.{ReadCall}
use Rattle.srcp_door.specs.declared.door.DoorFault.{DoorFault}
use Rattle.srcp_door.specs.declared.door.Got.{Got}
use Rattle.srcp_door.specs.declared.door.Got.TheVariants as got
use Rattle.srcp_peers.specs.Accounts.{Account, account, account_step, answered_step, is_at_rest, is_short_wait, Received, wrote}
use Rattle.srcp_peers.specs.Accounts.{failed_write, may_end, may_fail}
use Rattle.srcp_peers.specs.Accounts.{untouched, waited, woken, woken_sent}
use Rattle.srcp_peers.specs.Accounts.{woken_came}
use Rattle.srcp_door.specs.Pacing.{line_after}
use Rattle.srcp_door.specs.declared.pacing.LineBoundary.{LineBoundary}
use Rattle.srcp_door.specs.declared.pacing.LineBoundary.TheVariants as boundary
use Rattle.srcp_peers.specs.Peers.{Agrees, ComesAs, IsKept, MayEnd, MayFail, ReadsAs, Spares, after_failure, after_wake, after_write}
use Rattle.srcp_peers.specs.Peers.{is_lost, is_resting, is_wanting, woken_input, woken_output}
use Rattle.srcp_peers.specs.Turns.{got_bytes}
use Rattle.srcp_peers.proofs.StatesFollowSteps.{comes_here, handed_as, reads_here, woken_comes}
use Rattle.srcp_peers.proofs.StatesFollowSteps.{failed_as, woken_writes, wrote_as}
use Rattle.srcp_peers.proofs.LinesAreHandedOut.{line_after-append}
use Rattle.srcp_peers.proofs.PeersLingerByAccount.{may_end_then, may_fail_then, stays_drop}
use Rattle.srcp_peers.proofs.UnreadPeersAreRead.{noted_agrees, wants_less, wants_woken}
use Rattle.srcp_peers.proofs.PeersRestByAccount.{resting}

-- an account after one more step
pub account_more : (socket : ℕ) (log : List Step) (step : Step) → account socket (log ++ step ∷ []) ≡ account_step socket
    (account socket log) step
account_more socket log step = fold-append (account_step socket) untouched log (step ∷ [])

-- a peer is what its account says after a step, if so it was before
pub kept_after : (old new : List Step) (step : Step) (p q : Peer) → new ≡ old ++ step ∷ [] → q.number ≡ p.number
    → ((a : Account) → Agrees a p → Agrees (account_step p.number a step) q) → IsKept old p → IsKept new q
kept_after old new step p q is same follows kept =
    let more : account p.number new ≡ account_step p.number (account p.number old) step = ap (account p.number) is
    ∙ account_more p.number old step in
    subst (λ (n : ℕ). Agrees (account n new) q) (sym same)
    (subst (λ (a : Account). Agrees a q) (sym more) (follows (account p.number old) kept))

-- the account of another socket stays
pub spares_after : (other : ℕ) (old new : List Step) (step : Step) → new ≡ old ++ step ∷ []
    → ((a : Account) → account_step other a step ≡ a) → Spares other old new
spares_after other old new step is same = ap (account other) is ∙ account_more other old step ∙ same (account other old)

-- ---- whose step it is

pub own : (n : ℕ) → (n == n) ≡ true
own n = grind (arith, nat_tests)

pub alien : (n other : ℕ) → other ≢ n → (n == other) ≡ false
alien n other differ = grind (arith, nat_tests)

pub picks : {X : Type 0} (b : Bool) (x y : X) → b ≡ true → (if b then x else y) ≡ x
picks b x y e = ap (λ c. if c then x else y) e

pub skips : {X : Type 0} (b : Bool) (x y : X) → b ≡ false → (if b then x else y) ≡ y
skips b x y e = ap (λ c. if c then x else y) e

-- ---- the steps of a peer

agrees_own : (b : Bool) (x y : Account) (p : Peer) → b ≡ true → Agrees x p → Agrees (if b then x else y) p
agrees_own b x y p e h = subst (λ (a : Account). Agrees a p) (sym (picks b x y e)) h

-- a write of what is queued, to a socket that takes more for all that is known
pub kept_write : (old new : List Step) (p : Peer) (answer : Result ℕ ErrorKind) → is_lost p.output ≡ false
    → new ≡ old ++ Writes p.number p.outgoing answer ∷ [] → IsKept old p
    → IsKept new (after_write (record p { output = output.Open }) answer)
kept_write old new p (Ok count) sound tells kept =
    let q : Peer = after_write (record p { output = output.Open }) (Ok count) in
    kept_after old new (Writes p.number p.outgoing (Ok count)) p q tells refl
    (λ (a : Account) (h : Agrees a p). agrees_own (p.number == p.number)
    (record a { sent = wrote a.sent p.outgoing (Ok count) }) a q (own p.number)
    (assumption (
      stays_drop a.watched a.lingering p.outgoing p.stay count h.stays,
      wrote_as a.sent p.outgoing count p.output sound h.writes,
    ))) kept
kept_write old new p (Err fault) sound tells kept =
    let q : Peer = after_write (record p { output = output.Open }) (Err fault) in
    kept_after old new (Writes p.number p.outgoing (Err fault)) p q tells refl
    (λ (a : Account) (h : Agrees a p). agrees_own (p.number == p.number)
    (record a { sent = wrote a.sent p.outgoing (Err fault) }) a q (own p.number)
    (refused a (failure_of fault) h)) kept
  where
    refused : (a : Account) (said : IoFailure) → Agrees a p → Agrees (record a { sent = failed_write a.sent said })
        (record p { output = after_failure output.Open said; awaits_reply = false })
    refused a WouldBlock h = assumption (failed_as a.sent p.outgoing WouldBlock p.output sound h.writes)
    refused a Interrupted h = assumption (failed_as a.sent p.outgoing Interrupted p.output sound h.writes)
    refused a Fatal h = assumption (failed_as a.sent p.outgoing Fatal p.output sound h.writes)

-- some of what is held was handed out
handed_agrees : (a : Account) (p q : Peer) (received : Received) (honest : Bool) (bytes : List ℕ)
    → q ≡ record p { incoming = q.incoming; share = q.share; awaits_reply = q.awaits_reply; served = q.served }
    → p.incoming ≡ bytes ++ q.incoming → ComesAs received q.incoming p.input p.stay
    → q.share.line ≡ line_after boundary.At received.handed → honest ≡ true → Agrees a p
    → Agrees (record a { received = received; honest = honest }) q
handed_agrees a p q received honest bytes same is reads line rightly h =
    let unread : (a.watched && a.unread) ≡ true → is_wanting p.input q.incoming ≡ true =
    λ e. wants_less p.input p.incoming bytes q.incoming is (h.unread e) in
    rw same (assumption (reads, line, rightly, unread))

-- what a read of the door answered
got_agrees : (a : Account) (p q : Peer) (answer : Result Got DoorFault) (buffer : List ℕ) → p.stay ≡ stay.Here
    → q ≡ record p { incoming = q.incoming; share = q.share; awaits_reply = q.awaits_reply; served = q.served }
    → p.incoming ≡ got_bytes answer buffer ++ q.incoming → q.share.line ≡ line_after p.share.line (got_bytes answer buffer)
    → (answer ≡ Ok got.Ended → MayEnd p) → OnErr answer (MayFail p) → Agrees a p
    → Agrees (answered_step p.number a (ReadCall p.number answer buffer)) q
got_agrees a p q (Ok (got.Bytes count)) buffer here same is lined ended failed h =
    let bytes = take count buffer in
    let received : Received = record a.received { handed = a.received.handed ++ bytes } in
    let r = reads_here a.received p.incoming p.input p.stay here h.reads in
    agrees_own (p.number == p.number) (record a { received = received }) a q (own p.number)
    (handed_agrees a p q received a.honest bytes same is
    (comes_here received q.incoming p.input p.stay here
    (handed_as a.received bytes q.incoming p.input (subst (λ (b : List ℕ). ReadsAs a.received b p.input) is r)))
    (lined ∙ ap (λ (l : LineBoundary). line_after l bytes) h.line ∙ sym (line_after-append boundary.At a.received.handed bytes)) h.honest h)
got_agrees a p q (Ok got.Nothing) buffer here same is lined ended failed h =
    handed_agrees a p q a.received a.honest [] same is (subst (λ (b : List ℕ). ComesAs a.received b p.input p.stay) is h.reads)
    (lined ∙ h.line) h.honest h
got_agrees a p q (Ok got.Ended) buffer here same is lined ended failed h =
    let e = ended refl in
    let r : ReadsAs a.received p.incoming input.Ended = subst (ReadsAs a.received p.incoming) e.0
    (reads_here a.received p.incoming p.input p.stay here h.reads) in
    agrees_own (p.number == p.number) (record a { honest = a.honest && may_end a }) a q (own p.number)
    (handed_agrees a p q a.received (a.honest && may_end a) [] same is
    (subst (λ (b : List ℕ). ComesAs a.received b p.input p.stay) is h.reads) (lined ∙ h.line)
    (ap (λ b. b && may_end a) h.honest ∙ may_end_then a p.incoming p.outgoing p.output r.0 r.1.1 e.1 e.3 e.4 h.writes) h)
got_agrees a p q (Err fault) buffer here same is lined ended failed h =
    agrees_own (p.number == p.number) (record a { honest = a.honest && may_fail a }) a q (own p.number)
    (handed_agrees a p q a.received (a.honest && may_fail a) [] same is
    (subst (λ (b : List ℕ). ComesAs a.received b p.input p.stay) is h.reads) (lined ∙ h.line)
    (ap (λ b. b && may_fail a) h.honest ∙ may_fail_then a p here failed h) h)

pub kept_got : (old new : List Step) (p q : Peer) (answer : Result Got DoorFault) (buffer : List ℕ)
    → p.stay ≡ stay.Here → q ≡ record p { incoming = q.incoming; share = q.share; awaits_reply = q.awaits_reply; served = q.served }
    → p.incoming ≡ got_bytes answer buffer ++ q.incoming
    → q.share.line ≡ line_after p.share.line (got_bytes answer buffer)
    → (answer ≡ Ok got.Ended → MayEnd p) → OnErr answer (MayFail p)
    → new ≡ old ++ Answers (ReadCall p.number answer buffer) ∷ [] → IsKept old p → IsKept new q
kept_got old new p q answer buffer here same is lined ended failed tells kept =
    kept_after old new (Answers (ReadCall p.number answer buffer)) p q tells (ap (λ (x : Peer). x.number) same)
    (λ (a : Account) (h : Agrees a p). got_agrees a p q answer buffer here same is lined ended failed h) kept

-- ---- the sockets that a wait found ready

pub woken_agrees : (a : Account) (p : Peer) (ready : Ready) → Agrees a p → Agrees (woken p.number a ready) (after_wake p ready)
woken_agrees a p ready h = by (ready.socket == p.number)
  where
    closed : Bool
    closed = ready.closed || ready.urgent

    by : (b : Bool) → Agrees (if b then record a {
      sent = woken_sent a.sent ready.writable;
      received = woken_came a.received ready.readable (ready.closed || ready.urgent);
    } else a) (if b then record p {
      input = woken_input p.input ready.readable (ready.closed || ready.urgent);
      output = woken_output p.output ready.writable;
    } else p)
    by true = let unread : (a.watched && a.unread) ≡ true → is_wanting (woken_input p.input ready.readable closed) p.incoming ≡ true =
        λ e. wants_woken p.input p.incoming ready.readable closed (h.unread e) in
        assumption (
          woken_comes a.received p.incoming p.input p.stay ready.readable closed h.reads,
          woken_writes a.sent p.outgoing p.output ready.writable h.writes,
          unread,
        )
    by false = h

pub woken_number : (p : Peer) (ready : Ready) → (after_wake p ready).number ≡ p.number
woken_number p ready = by (ready.socket == p.number)
  where
    by : (b : Bool) → (if b then record p {
      input = woken_input p.input ready.readable (ready.closed || ready.urgent);
      output = woken_output p.output ready.writable;
    } else p).number ≡ p.number
    by true = refl
    by false = refl

pub all_woken : (n : ℕ) (a : Account) (p : Peer) (ready : List Ready) → p.number ≡ n → Agrees a p
    → Agrees (fold (woken n) a ready) (fold after_wake p ready)
all_woken n a p [] same h = h
all_woken n a p (one ∷ more) same h =
    let first : Agrees (woken p.number a one) (after_wake p one) = woken_agrees a p one h in
    let here : Agrees (woken n a one) (after_wake p one) = subst (λ (m : ℕ). Agrees (woken m a one) (after_wake p one)) same first in
    all_woken n (woken n a one) (after_wake p one) more (woken_number p one ∙ same) here

pub all_number : (p : Peer) (ready : List Ready) → (fold after_wake p ready).number ≡ p.number
all_number p [] = refl
all_number p (one ∷ more) = all_number (after_wake p one) more ∙ woken_number p one

pub unless_long : (short rests : Bool) → (short ≡ false → rests ≡ true) → (short || rests) ≡ true
unless_long true rests f = refl
unless_long false rests f = f refl

pub or_so : (b c : Bool) → c ≡ true → (b || c) ≡ true
or_so true c e = refl
or_so false c e = e

-- a wait, long only if the peer rests
pub kept_waited : (old new : List Step) (p : Peer) (most : Option ℕ) (count : ℕ) (ready : List Ready)
    → (is_short_wait most ≡ false → is_resting p ≡ true)
    → new ≡ old ++ Waits most count ready ∷ [] → IsKept old p → IsKept new (fold after_wake p (take count ready))
kept_waited old new p most count ready rest tells kept =
    kept_after old new (Waits most count ready) p (fold after_wake p (take count ready)) tells (all_number p (take count ready))
    (λ (a : Account) (h : Agrees a p). noted_agrees (fold (woken p.number) (waited p.number a most) (take count ready))
    (fold after_wake p (take count ready)) (all_woken p.number (waited p.number a most) p (take count ready) refl
    (assumption (ap (λ b. b && (not (a.watched || (p.number == 0)) || (is_short_wait most || is_at_rest a.sent a.received))) h.rested
    ∙ or_so (not (a.watched || (p.number == 0))) (is_short_wait most || is_at_rest a.sent a.received)
    (unless_long (is_short_wait most) (is_at_rest a.sent a.received) (λ long. resting a p h (rest long))))))) kept
