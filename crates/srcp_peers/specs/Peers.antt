-- What a peer's states mean.
use Rattle.std.specs.Prelude.{◌≡◌, ◌≢◌, ◌⊎◌, ℕ, ◌==◌, ◌&&◌, ◌||◌, nat_le, nat_lt, Bool, true, false, not, if◌then◌else◌}
use Rattle.std.specs.Prelude.{List, [], ◌∷◌, ◌++◌, ◌+◌, ◌-◌, ◌/◌, count_by, drop, filter, length, max, min, take}
use Rattle.std.specs.Prelude.{cond, Result, Ok, Err}
use Rattle.std.specs.Io.{StartsWith}
use Rattle.std.specs.declared.io.ErrorKind.{ErrorKind}
use Rattle.srcp_info.specs.Limits.{most_in_piece}
use Rattle.srcp_peers.specs.declared.system.Ready.{Ready}
use Rattle.srcp_peers.specs.declared.system.IoFailure.{IoFailure}
use Rattle.srcp_peers.specs.declared.system.IoFailure.TheVariants.{WouldBlock, Interrupted, Fatal}
use Rattle.srcp_peers.specs.declared.readiness.Input.{Input}
use Rattle.srcp_peers.specs.declared.readiness.Input.TheVariants as input
use Rattle.srcp_peers.specs.declared.readiness.Output.{Output}
use Rattle.srcp_peers.specs.declared.readiness.Output.TheVariants as output
use Rattle.srcp_peers.specs.declared.readiness.Flush.{Flush}
use Rattle.srcp_peers.specs.declared.readiness.Flush.TheVariants as flush
use Rattle.srcp_peers.specs.declared.peer.Peer.{Peer}
use Rattle.srcp_peers.specs.declared.stay.Stay.{Stay}
use Rattle.srcp_peers.specs.declared.stay.Stay.TheVariants as stay
use Rattle.srcp_door.specs.Pacing.{line_after}
use Rattle.srcp_peers.specs.declared.ending.Ending.TheVariants as ending
use Rattle.srcp_door.specs.declared.pacing.LineBoundary.TheVariants as boundary
use Rattle.srcp_peers.specs.Steps.{GrowsBy, Step, Reads, SaysNothing, Writes, failure_of}
use Rattle.srcp_peers.specs.Times.{KeepsTimes}
use Rattle.srcp_peers.specs.Accounts.{Account, Lingering, Sent, Received, account, is_overdue}
use Rattle.srcp_peers.specs.Limits.{flush_threshold, most_drained, most_outgoing}

-- what reads and waits found, if the input is in this state
abbrev pub FindsAs : Received → Input → Type 0
FindsAs received input.Ready = (received.failed ≡ false) × (received.ended ≡ false) × (received.emptying ≡ false)
    × (received.quiet ≡ false)
FindsAs received input.Emptying = (received.failed ≡ false) × (received.ended ≡ false) × (received.emptying ≡ true)
    × (received.quiet ≡ false)
FindsAs received input.Quiet = (received.failed ≡ false) × (received.ended ≡ false) × (received.emptying ≡ false)
    × (received.quiet ≡ true)
FindsAs received input.Ended = (received.failed ≡ false) × (received.ended ≡ true)
FindsAs received input.Failed = (received.failed ≡ true) × (received.ended ≡ false)

-- what a state of the input means, if `incoming` is held of it
abbrev pub ReadsAs : Received → List ℕ → Input → Type 0
ReadsAs received incoming state = (received.gave ≡ received.handed ++ incoming) × FindsAs received state

-- what a state of the output means, if `outgoing` is queued for it
abbrev pub WritesAs : Sent → List ℕ → Output → Type 0
WritesAs sent outgoing output.Open = (sent.written ≡ sent.took ++ outgoing) × (sent.lost ≡ false) × (sent.full ≡ false)
WritesAs sent outgoing output.Full = (sent.written ≡ sent.took ++ outgoing) × (sent.lost ≡ false) × (sent.full ≡ true)
WritesAs sent outgoing output.Lost = StartsWith sent.written sent.took × (sent.lost ≡ true)

-- what is known of what came of a peer: what comes of one that lingers is dropped
abbrev pub ComesAs : Received → List ℕ → Input → Stay → Type 0
ComesAs received incoming state stay.Here = ReadsAs received incoming state
ComesAs received incoming state (stay.Draining since) =
    StartsWith received.gave received.handed × FindsAs received state
ComesAs received incoming state (stay.Shut since) =
    StartsWith received.gave received.handed × FindsAs received state

-- what it means that a peer stays so, if `outgoing` is queued for it
abbrev pub StaysAs : (watched : Bool) → Lingering → List ℕ → Stay → Type 0
StaysAs watched lingering outgoing stay.Here = (watched ≡ true) × (lingering.kept ≡ true) × (lingering.shut ≡ false)
StaysAs watched lingering outgoing (stay.Draining since) = (watched ≡ false) × (lingering.kept ≡ true)
    × (lingering.since ≡ since) × (lingering.shut ≡ false)
StaysAs watched lingering outgoing (stay.Shut since) = (watched ≡ false) × (lingering.kept ≡ true)
    × (lingering.since ≡ since) × (lingering.shut ≡ true) × (outgoing ≡ [])

-- a read may find something
abbrev pub may_have : Input → Bool
may_have input.Ready = true
may_have input.Emptying = true
may_have other = false

-- it is read in the next visit: less than a piece is held
abbrev pub is_wanting : Input → List ℕ → Bool
is_wanting state incoming = may_have state && nat_lt (length incoming) most_in_piece

-- a peer is what its account says
pub record Agrees (a : Account) (p : Peer) : Type 0 where
  pub reads : ComesAs a.received p.incoming p.input p.stay
  pub writes : WritesAs a.sent p.outgoing p.output
  pub stays : StaysAs a.watched a.lingering p.outgoing p.stay
  pub rightly : a.lingering.rightly ≡ true
  pub unread : (a.watched && a.unread) ≡ true → is_wanting p.input p.incoming ≡ true
  pub served : a.served ≡ true
  pub cut : a.sent.cut ≡ p.backpressured
  pub line : p.share.line ≡ line_after boundary.At a.received.handed
  pub honest : a.honest ≡ true
  pub rested : a.rested ≡ true

-- so it is after all steps
abbrev pub IsKept : List Step → Peer → Type 0
IsKept log p = Agrees (account p.number log) p

-- the steps that came say nothing of this socket
abbrev pub Spares : ℕ → (old new : List Step) → Type 0
Spares socket old new = account socket new ≡ account socket old

-- the steps that came are as many calls of the system at most, for one peer alone: it is what its account says, and has
-- the number that it had; the other sockets are spared, the door answers nothing, and nothing is said of the time
pub record CallsForOne (count : ℕ) (old new : Peer) (log later : List Step) : Type 0 where
  pub kept : IsKept later new
  pub others : (other : ℕ) → other ≢ old.number → Spares other log later
  pub calls : SaysNothing log later
  pub most : GrowsBy count log later
  pub times : KeepsTimes log later
  pub number : new.number ≡ old.number

-- as many of the steps that came are such
abbrev pub Makes : (is_such : Step → Bool) → ℕ → (old new : List Step) → Type 0
Makes is_such count old new = count_by is_such new ≡ count_by is_such old + count

-- a read of this socket
abbrev pub is_read_of : ℕ → Step → Bool
is_read_of socket (Reads who buffer answer) = who == socket
is_read_of socket other = false

-- among the steps that came is a write of these bytes to this socket
abbrev pub IsOffered : ℕ → List ℕ → (old new : List Step) → Type 0
IsOffered socket bytes old new = (before : List Step) × (answer : Result ℕ ErrorKind) × (after : List Step)
    × (new ≡ old ++ (before ++ Writes socket bytes answer ∷ after))

-- ---- what answers make of a peer

-- a write that failed
abbrev pub after_failure : Output → IoFailure → Output
after_failure state WouldBlock = output.Full
after_failure state Interrupted = state
after_failure state Fatal = output.Lost

-- a write of `all` bytes that took `count` of them
abbrev pub output_after : (count all : ℕ) → Output
output_after count all = if count == 0 then output.Lost else if nat_lt count all then output.Full else output.Open

-- more is queued, unless the socket takes no more
abbrev pub queued_more : Output → List ℕ → List ℕ → List ℕ
queued_more output.Lost outgoing bytes = outgoing
queued_more state outgoing bytes = outgoing ++ bytes

-- how many lines may still be queued while the socket takes no more: each takes one
abbrev pub lines_left_after : Output → (lines_left : ℕ) → ℕ
lines_left_after output.Full lines_left = lines_left - 1
lines_left_after state lines_left = lines_left

-- how many of as many bytes as that are queued, if `fitting` of them have space: none if no line is left while the
-- socket takes no more; what is written to a lost peer goes nowhere
abbrev pub enqueued_as : Output → (lines_left fitting all : ℕ) → ℕ
enqueued_as output.Open lines_left fitting all = fitting
enqueued_as output.Full lines_left fitting all = if nat_lt 0 lines_left then fitting else 0
enqueued_as output.Lost lines_left fitting all = all

abbrev pub enqueued : Peer → (bytes : List ℕ) → ℕ
enqueued p bytes =
    enqueued_as p.output p.lines_left (min (length bytes) (most_outgoing - length p.outgoing)) (length bytes)

-- a read that gave `count` bytes, if there was space for `space`
abbrev pub given_some : Input → Bool → Input
given_some input.Ready true = input.Quiet
given_some state left = state

abbrev pub given : Input → ℕ → ℕ → Input
given state count space = if count == 0 then input.Ended else given_some state (nat_lt count space)

abbrev pub missed : Input → IoFailure → Input
missed state WouldBlock = input.Quiet
missed state Interrupted = state
missed state Fatal = input.Failed

abbrev pub after_read : Peer → List ℕ → Result ℕ ErrorKind → Peer
after_read p buffer (Ok count) = record p {
  incoming = p.incoming ++ take count buffer;
  input = given p.input count (length buffer);
}
after_read p buffer (Err fault) = record p { input = missed p.input (failure_of fault) }

-- a write of all that is queued
abbrev pub after_write : Peer → Result ℕ ErrorKind → Peer
after_write p (Ok count) = record p {
  outgoing = drop count p.outgoing;
  output = output_after count (length p.outgoing);
  awaits_reply = false;
}
after_write p (Err fault) = record p { output = after_failure p.output (failure_of fault); awaits_reply = false }

-- the step that came is a read of its socket, and `new` has what that gave
abbrev pub Asks : (p new : Peer) → (log later : List Step) → Type 0
Asks p new log later = (buffer : List ℕ) × (answer : Result ℕ ErrorKind)
    × (later ≡ log ++ Reads p.number buffer answer ∷ []) × (new.incoming ≡ (after_read p buffer answer).incoming)
    × (new.input ≡ (after_read p buffer answer).input)

-- the step that came is a write of what is queued to its socket, and `new` is what that leaves
abbrev pub Offers : (p new : Peer) → (log later : List Step) → Type 0
Offers p new log later = (answer : Result ℕ ErrorKind) × (later ≡ log ++ Writes p.number p.outgoing answer ∷ [])
    × (new ≡ after_write p answer)

-- its socket was found ready
abbrev pub woken_input : Input → (readable closed : Bool) → Input
woken_input input.Ready readable closed = cond closed input.Emptying input.Ready
woken_input input.Quiet readable closed = cond closed input.Emptying (cond readable input.Ready input.Quiet)
woken_input state readable closed = state

abbrev pub woken_output : Output → Bool → Output
woken_output output.Full writable = cond writable output.Open output.Full
woken_output state writable = state

abbrev pub after_wake : Peer → Ready → Peer
after_wake p ready = if ready.socket == p.number then record p {
  input = woken_input p.input ready.readable (ready.closed || ready.urgent);
  output = woken_output p.output ready.writable;
} else p

-- its socket takes no more
abbrev pub is_lost : Output → Bool
is_lost output.Lost = true
is_lost other = false

-- ---- what a turn does with a peer

abbrev pub flushes_all : Flush → Bool
flushes_all flush.Answers = false
flushes_all other = true

-- full sockets are tried, though they were not found ready
abbrev pub tries_again : Flush → Bool
tries_again flush.Again = true
tries_again other = false

-- what is queued is flushed: an answer, unless input of the peer is held that the core takes; and much
abbrev pub is_due : Flush → Peer → Bool
is_due what p = flushes_all what
    || (nat_lt flush_threshold (length p.outgoing) || (p.awaits_reply && (p.backpressured || (length p.incoming == 0))))

-- what is flushed of a peer that stays so, in a turn that flushes `what`: all, if it lingers
abbrev pub flush_of : Flush → Stay → Flush
flush_of what stay.Here = what
flush_of what other = flush.All

-- how it stays behind that, if `outgoing` is still queued: it is shut down once its socket took all, if it lingers
abbrev pub stay_after : Stay → (outgoing : List ℕ) → Output → Stay
stay_after (stay.Draining since) outgoing state =
    cond ((length outgoing == 0) && not (is_lost state)) (stay.Shut since) (stay.Draining since)
stay_after other outgoing state = other

-- something is queued for it that is flushed, and its socket may take it
abbrev pub IsFlushed : Flush → Peer → Type 0
IsFlushed what p = (woken_output p.output (tries_again what) ≡ output.Open) × (p.outgoing ≢ [])
    × (is_due what p ≡ true)

-- a turn that flushes `what` offers its socket what is queued for it, if that is flushed
abbrev pub OffersDue : Flush → Peer → (old new : List Step) → Type 0
OffersDue what p old new = IsFlushed (flush_of what p.stay) p → IsOffered p.number p.outgoing old new

-- it is there
abbrev pub is_here : Stay → Bool
is_here stay.Here = true
is_here other = false

-- it lingers, and is owed nothing
abbrev pub is_shut : Stay → Bool
is_shut (stay.Shut since) = true
is_shut other = false

-- input of it is held that the core takes
abbrev pub holds_input : Peer → Bool
holds_input p = is_here p.stay && (not p.backpressured && not (length p.incoming == 0))

-- it is its turn before that of a peer whose last service has that number: it holds input, and was served longer ago
abbrev pub is_turn_before : (served : ℕ) → Peer → Bool
is_turn_before served p = nat_lt p.served served && holds_input p

-- something is queued for it that its socket may still take
abbrev pub is_waiting : Peer → Bool
is_waiting p = not (length p.outgoing == 0) && not (is_lost p.output)

-- its input is over, and none of it held
abbrev pub is_over : List ℕ → Input → Bool
is_over incoming input.Ended = length incoming == 0
is_over incoming other = false

-- its end may be reported: its input is over and was handed out, a visit had no more for it, and its socket took all
abbrev pub MayEnd : Peer → Type 0
MayEnd p = (p.input ≡ input.Ended) × (p.incoming ≡ []) × (p.ending ≡ ending.Settled) × (p.outgoing ≡ [])
    × (is_lost p.output ≡ false)

-- it may be reported as lost: a read or a write of its socket failed
abbrev pub MayFail : Peer → Type 0
MayFail p = (p.input ≡ input.Failed) ⊎ (is_lost p.output ≡ true)

-- its share stays, and the number of its last service
abbrev pub KeepsShare : (old new : Peer) → Type 0
KeepsShare old new = (new.share ≡ old.share) × (new.served ≡ old.served)

-- a flush leaves its share, how far it is on the way to its end and whether the core has more for it. If it is there,
-- it stays so, and what came of it stays
abbrev pub KeepsRest : (old new : Peer) → Type 0
KeepsRest old new = KeepsShare old new × (new.ending ≡ old.ending) × (new.backpressured ≡ old.backpressured)
    × (is_here old.stay ≡ true
    → (new.stay ≡ old.stay) × (new.incoming ≡ old.incoming) × (new.input ≡ old.input))

-- as its visit begins its share is a whole piece with `anew`, and else what was left of it
abbrev pub IsShared : (anew : Bool) → (old new : Peer) → Type 0
IsShared anew old new = (new.share.rest ≡ cond anew most_in_piece old.share.rest) × (new.served ≡ old.served)

-- ---- what a peer may wait for

-- nothing is queued that its socket may take
abbrev pub rests_writing : List ℕ → Output → Bool
rests_writing outgoing output.Open = length outgoing == 0
rests_writing outgoing output.Full = true
rests_writing outgoing output.Lost = false

-- no input of it is held or may come unless its socket is ready, and its end is not to be reported
abbrev pub rests_reading : List ℕ → Input → Bool
rests_reading outgoing input.Quiet = true
rests_reading outgoing input.Ended = not (length outgoing == 0)
rests_reading outgoing other = false

-- nothing is to be done for it
abbrev pub has_rest : Peer → Bool
has_rest p = rests_writing p.outgoing p.output
    && cond p.backpressured (length p.outgoing == most_outgoing)
    ((length p.incoming == 0) && rests_reading p.outgoing p.input)

-- it is there, and may be waited for
abbrev pub is_resting : Peer → Bool
is_resting p = is_here p.stay && has_rest p

-- it is there, and something happens to it though no socket is found ready
abbrev pub is_busy : Peer → Bool
is_busy p = is_here p.stay && not (is_resting p)

-- ---- when a peer may be closed

abbrev pub closable_as : (clock : ℕ) → Output → Stay → Bool
closable_as clock state stay.Here = false
closable_as clock state (stay.Draining since) = is_lost state || is_overdue clock since
closable_as clock state (stay.Shut since) = true

-- it lingers, and is owed nothing, or lost, or its time is over
abbrev pub is_closable : (clock : ℕ) → Peer → Bool
is_closable clock p = closable_as clock p.output p.stay

-- no read finds anything any more
abbrev pub has_ended : Input → Bool
has_ended input.Ended = true
has_ended input.Failed = true
has_ended other = false

abbrev pub gone_as : (clock : ℕ) → Input → Output → Stay → Bool
gone_as clock came state stay.Here = false
gone_as clock came state (stay.Draining since) = is_lost state || is_overdue clock since
gone_as clock came state (stay.Shut since) = is_lost state || (has_ended came || is_overdue clock since)

-- nothing is left to do for it: it lingers, and is owed nothing and ended too, or lost, or its time is over
abbrev pub is_gone : (clock : ℕ) → Peer → Bool
is_gone clock p = gone_as clock p.input p.output p.stay

-- how often the socket of each that lingers is read in a turn: they share some reads, but each has one
abbrev pub reads_each : List Peer → ℕ
reads_each peers = max (most_drained / max (length (filter (λ peer. not (is_here peer.stay)) peers)) 1) 1

-- how many calls of the system a flush makes for it at most, if one that lingers is read so often
abbrev pub calls_in : (reads : ℕ) → Peer → ℕ
calls_in reads p = cond (is_here p.stay) 1 (max 2 reads)

-- one that was shut down is drained: its socket was read until nothing came, or as often as that
abbrev pub IsDrained : (reads : ℕ) → (old new : Peer) → (log later : List Step) → Type 0
IsDrained reads old new log later = is_shut old.stay ≡ true
    → (may_have new.input ≡ false) ⊎ Makes (is_read_of old.number) reads log later

-- ---- who is read

-- while it is there it is not unread
abbrev pub IsRead : List Step → (socket : ℕ) → Type 0
IsRead log socket = ((account socket log).watched && (account socket log).unread) ≡ false
