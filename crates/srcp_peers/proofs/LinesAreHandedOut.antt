-- The line that a socket's peer is being handed out.
use Rattle.std.proofs.Common.{◌≡◌, ◌∙◌, ℕ, Bool, true, false, cond, List, [], ◌∷◌, ◌++◌, refl, ap, sym, ◌==◌, if◌then◌else◌, Some}
use Rattle.std.proofs.Common.{None, Ok, Err}
use Rattle.std.specs.Prelude.{Result, flat_map, fold}
use Rattle.std.proofs.lemmas.List.Sums.{fold-append}
use Rattle.srcp_door.specs.Pacing.{Seen, line_after, seen_after, seen_of, with_text}
use Rattle.srcp_door.specs.declared.pacing.LineBoundary.{LineBoundary}
use Rattle.srcp_door.specs.declared.pacing.LineBoundary.TheVariants.{At, Inside}
use Rattle.srcp_door.specs.declared.door.DoorFault.{DoorFault}
use Rattle.srcp_door.specs.declared.door.Got.{Got}
use Rattle.srcp_door.specs.declared.door.Got.TheVariants as got
use Rattle.srcp_door.specs.Calls.{ExpectCall, NowCall, AcceptCall, ReadCall, WriteCall, CloseCall}
use Rattle.srcp_peers.specs.Accounts.{account}
use Rattle.srcp_peers.specs.Steps.{Accepts, Clocks, Closes, Reads, Shuts, Step, Answers, Waits, Writes}
use Rattle.srcp_peers.specs.Streams.{handed_in}
use Rattle.srcp_peers.specs.Times.{Times, first_times, times, times_step, answered_moment}
use Rattle.srcp_peers.specs.Turns.{got_bytes}
use Rattle.srcp_peers.proofs.AccountsHoldStreams.{by_calls, handed_is, in_call}

-- ---- a line after more bytes

-- bytes behind a line begin one
with_push : (l : LineBoundary) (xs : List ℕ) (byte : ℕ) → with_text l (xs ++ byte ∷ []) ≡ Inside
with_push l [] byte = refl
with_push l (x ∷ xs) byte = refl

abbrev rest_of : Seen → LineBoundary
rest_of seen = with_text seen.line seen.text

same_rest : (seen other : Seen) (ys : List ℕ) → rest_of seen ≡ rest_of other
    → rest_of (fold seen_after seen ys) ≡ rest_of (fold seen_after other ys)
same_rest seen other [] e = e
same_rest seen other (y ∷ ys) e = same_rest (seen_after seen y) (seen_after other y) ys (one (y == 10))
  where
    one : (b : Bool)
        → rest_of (cond b (record { line = At; text = []; weight = (seen_after seen 10).weight })
        (record { line = seen.line; text = seen.text ++ y ∷ []; weight = seen.weight }))
        ≡ rest_of (cond b (record { line = At; text = []; weight = (seen_after other 10).weight })
        (record { line = other.line; text = other.text ++ y ∷ []; weight = other.weight }))
    one true = refl
    one false = with_push seen.line seen.text y ∙ sym (with_push other.line other.text y)

pub line_after-append : (l : LineBoundary) (xs ys : List ℕ) → line_after l (xs ++ ys) ≡ line_after (line_after l xs) ys
line_after-append l xs ys =
    ap rest_of (fold-append seen_after (record { line = l; text = []; weight = 0 }) xs ys)
    ∙ same_rest (seen_of l xs) (record { line = line_after l xs; text = []; weight = 0 }) ys refl

-- ---- the line of a socket after all steps

-- a read says it of one socket
read_line : (b : Bool) (l : LineBoundary) (answer : Result Got DoorFault) (buffer : List ℕ)
    → (if b then line_after l (got_bytes answer buffer) else l) ≡ line_after l (if b then got_bytes answer buffer else [])
read_line true l answer buffer = refl
read_line false l answer buffer = refl

none_line : (b : Bool) (l : LineBoundary) → (if b then line_after l [] else l) ≡ l
none_line true l = refl
none_line false l = refl

moment_lines : (socket : ℕ) (t : Times) (answer : Result ℕ DoorFault) → (answered_moment t answer).lines socket ≡ t.lines socket
moment_lines socket t (Ok moment) = refl
moment_lines socket t (Err fault) = refl

line_step : (socket : ℕ) (t : Times) (step : Step)
    → (times_step t step).lines socket ≡ line_after (t.lines socket) (in_call (handed_in socket) step)
line_step socket t (Accepts number answer) = refl
line_step socket t (Reads who buffer answer) = refl
line_step socket t (Writes who bytes answer) = refl
line_step socket t (Shuts who) = refl
line_step socket t (Closes who) = refl
line_step socket t (Waits most count ready) = refl
line_step socket t (Clocks (Some time)) = refl
line_step socket t (Clocks None) = refl
line_step socket t (Answers (ExpectCall due slack)) = refl
line_step socket t (Answers (NowCall answer)) = moment_lines socket t answer
line_step socket t (Answers (AcceptCall answer)) = refl
line_step socket t (Answers (ReadCall who (Ok (got.Bytes count)) buffer)) =
    read_line (who == socket) (t.lines socket) (Ok (got.Bytes count))
    buffer
line_step socket t (Answers (ReadCall who (Ok got.Nothing) buffer)) = none_line (who == socket) (t.lines socket)
line_step socket t (Answers (ReadCall who (Ok got.Ended) buffer)) = none_line (who == socket) (t.lines socket)
line_step socket t (Answers (ReadCall who (Err fault) buffer)) = none_line (who == socket) (t.lines socket)
line_step socket t (Answers (WriteCall who bytes answer)) = refl
line_step socket t (Answers (CloseCall who answer)) = refl

lines_of : (socket : ℕ) (t : Times) (log : List Step)
    → (fold times_step t log).lines socket ≡ line_after (t.lines socket) (flat_map (in_call (handed_in socket)) log)
lines_of socket t [] = refl
lines_of socket t (step ∷ log) =
    lines_of socket (times_step t step) log
    ∙ ap (λ l. line_after l (flat_map (in_call (handed_in socket)) log)) (line_step socket t step)
    ∙ sym (line_after-append (t.lines socket) (in_call (handed_in socket) step) (flat_map (in_call (handed_in socket)) log))

pub line_is : (wall start socket : ℕ) (log : List Step)
    → (times wall start log).lines socket ≡ line_after At (account socket log).received.handed
line_is wall start socket log =
    lines_of socket (first_times wall start) log
    ∙ ap (line_after At) (by_calls (handed_in socket) log ∙ sym (handed_is socket log))
