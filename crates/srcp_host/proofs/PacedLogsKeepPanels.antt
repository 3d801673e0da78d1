-- A log in which each read kept to what might go makes no panel overrun.
use Rattle.std.proofs.Common.{◌≡◌, ◌∙◌, ℕ, ◌-◌, ◌==◌, Bool, true, false, List, [], ◌∷◌, ◌++◌, map, refl, ap, sym, subst, arith}
use Rattle.std.proofs.Common.{Option, Some, None, Ok, Err, append-nil, if◌then◌else◌}
use Rattle.std.specs.Prelude.{Result, fold}
use Rattle.std.specs.List.{AllByRecursion}
use Rattle.std.proofs.lemmas.Bool.{and_parts}
use Rattle.std.proofs.lemmas.Bool.Decides.{nat_tests}
use Rattle.std.proofs.lemmas.Grind.{flat_map-append}
use Rattle.srcp_door.specs.Calls as door
use Rattle.srcp_door.specs.Pacing.{fits, line_after, spent, weight_of}
use Rattle.srcp_door.specs.declared.door.DoorFault.{DoorFault}
use Rattle.srcp_door.specs.declared.door.Got.{Got}
use Rattle.srcp_door.specs.declared.door.Got.TheVariants as got
use Rattle.srcp_door.specs.declared.pacing.LineBoundary.{LineBoundary}
use Rattle.srcp_door.specs.declared.pacing.LineBoundary.TheVariants as boundary
use Rattle.srcp_door.specs.declared.pacing.Pace.{Pace}
use Rattle.srcp_door.specs.declared.pacing.Pace.TheVariants.{Paced, OneLine}
use Rattle.srcp_serve.specs.Given.{Call, door_call, ExpectCall, NowCall, AcceptCall, ReadCall, WriteCall, CloseCall}
use Rattle.srcp_serve.specs.Pacing.{weighed_in}
use Rattle.srcp_serve.specs.Serving.{handed_out, handed_out_in}
use Rattle.srcp_serve.proofs.PacesLeaveReserve.{ReadsFit, fit_reads_spare}
use Rattle.srcp_serve.proofs.TurnsFollow.{fair_given}
use Rattle.srcp_peers.specs.Steps.{Accepts, Answers, Clocks, Closes, Reads, Shuts, Step, Waits, Writes, calls}
use Rattle.srcp_peers.specs.Times.{Times, answered_times, first_times, lines_after, times, times_step}
use Rattle.srcp_peers.specs.Turns.{after_read, got_bytes, ticks}
use Rattle.srcp_peers.specs.declared.turn.Turn.{Turn}
use Rattle.srcp_peers.proofs.LinesAreHandedOut.{line_after-append}
use Rattle.srcp_log.specs.KeptTimes.{ArePaced}
use Rattle.srcp_host.specs.Panels.{PanelsAreKept}

-- ---- what was paced at the end was paced all the while

paced_before_step : (t : Times) (step : Step) → (times_step t step).paced ≡ true → t.paced ≡ true
paced_before_step t (Answers (door.ExpectCall due slack)) h = h
paced_before_step t (Answers (door.NowCall (Ok moment))) h = h
paced_before_step t (Answers (door.NowCall (Err fault))) h = h
paced_before_step t (Answers (door.AcceptCall answer)) h = h
paced_before_step t (Answers (door.ReadCall who answer buffer)) h =
    (and_parts t.paced (fits t.turn.pace (weight_of (t.lines who) (got_bytes answer buffer))) h).0
paced_before_step t (Answers (door.WriteCall who bytes answer)) h = h
paced_before_step t (Answers (door.CloseCall who answer)) h = h
paced_before_step t (Clocks (Some time)) h = h
paced_before_step t (Clocks None) h = h
paced_before_step t (Accepts number answer) h = h
paced_before_step t (Reads who buffer answer) h = h
paced_before_step t (Writes who bytes answer) h = h
paced_before_step t (Waits most count ready) h = h
paced_before_step t (Shuts who) h = h
paced_before_step t (Closes who) h = h

paced_before : (log : List Step) (t : Times) → (fold times_step t log).paced ≡ true → t.paced ≡ true
paced_before [] t h = h
paced_before (step ∷ log) t h = paced_before_step t step (paced_before log (times_step t step) h)

-- ---- the line of each socket is that of what was handed out of its peer

abbrev AreLinesOf : (ℕ → LineBoundary) → List Call → Type 0
AreLinesOf lines past = (socket : ℕ) → lines socket ≡ line_after boundary.At (handed_out socket past)

same_lines : (lines : ℕ → LineBoundary) (past : List Call) (call : Call) → ((socket : ℕ) → handed_out_in socket call ≡ [])
    → AreLinesOf lines past → AreLinesOf lines (past ++ call ∷ [])
same_lines lines past call none are socket =
    let same : handed_out socket (past ++ call ∷ []) ≡ handed_out socket past =
    cc (flat_map-append (handed_out_in socket) past (call ∷ []), none socket, append-nil (handed_out socket past)) in
    are socket ∙ ap (line_after boundary.At) (sym same)

none_either : (b : Bool) → (let none : List ℕ = [] in none ≡ (if b then none else none))
none_either true = refl
none_either false = refl

-- what a read handed out of its own peer
own_bytes : (socket who : ℕ) (answer : Result Got DoorFault) (buffer : List ℕ) (grants : List Bool)
    → handed_out_in socket (ReadCall who answer buffer grants) ≡ (if who == socket then got_bytes answer buffer else [])
own_bytes socket who (Ok (got.Bytes count)) buffer grants = refl
own_bytes socket who answer buffer grants = none_either (who == socket)

read_lines : (lines : ℕ → LineBoundary) (past : List Call) (who : ℕ) (answer : Result Got DoorFault) (buffer : List ℕ) (grants : List Bool)
    → AreLinesOf lines past → AreLinesOf (lines_after lines who answer buffer) (past ++ ReadCall who answer buffer grants ∷ [])
read_lines lines past who answer buffer grants are socket =
    let call = ReadCall who answer buffer grants in
    let bytes = if who == socket then got_bytes answer buffer else [] in
    let all : handed_out socket (past ++ call ∷ []) ≡ handed_out socket past ++ bytes =
    cc (
      flat_map-append (handed_out_in socket) past (call ∷ []),
      own_bytes socket who answer buffer grants,
      append-nil (handed_out_in socket call),
    ) in
    by (who == socket)
    ∙ sym (line_after-append boundary.At (handed_out socket past) bytes) ∙ ap (line_after boundary.At) (sym all)
  where
    by : (b : Bool) → (if b then line_after (lines socket) (got_bytes answer buffer) else lines socket)
        ≡ line_after (line_after boundary.At (handed_out socket past)) (if b then got_bytes answer buffer else [])
    by true = ap (λ line. line_after line (got_bytes answer buffer)) (are socket)
    by false = are socket

-- so the door weighs a read as the times do
read_weighs : (lines : ℕ → LineBoundary) (past : List Call) (who : ℕ) (answer : Result Got DoorFault) (buffer : List ℕ)
    (grants : List Bool) → AreLinesOf lines past
    → weight_of (lines who) (got_bytes answer buffer) ≡ weighed_in past (ReadCall who answer buffer grants)
read_weighs lines past who answer buffer grants are =
    let self : (who == who) ≡ true = grind (arith, nat_tests) in
    let own : handed_out_in who (ReadCall who answer buffer grants) ≡ got_bytes answer buffer =
    own_bytes who who answer buffer grants ∙ ap (λ b. if b then got_bytes answer buffer else []) self in
    ap (λ line. weight_of line (got_bytes answer buffer)) (are who)
    ∙ ap (weight_of (line_after boundary.At (handed_out who past))) (sym own)

-- ---- so each read fits what may go

none_spent : (pace : Pace) → pace ≡ spent pace 0
none_spent (Paced left) = let same : left ≡ left - 0 = omega arith in ap Paced same
none_spent OneLine = refl

read_pace : (turn : Turn) (line : LineBoundary) (answer : Result Got DoorFault) (buffer : List ℕ)
    → ((after_read turn line answer buffer).pace ≡ spent turn.pace (weight_of line (got_bytes answer buffer)))
    × ((after_read turn line answer buffer).slack ≡ turn.slack)
read_pace turn line (Ok (got.Bytes count)) buffer = (refl, refl)
read_pace turn line (Ok got.Nothing) buffer = (none_spent turn.pace, refl)
read_pace turn line (Ok got.Ended) buffer = (none_spent turn.pace, refl)
read_pace turn line (Err fault) buffer = (none_spent turn.pace, refl)

abbrev FitAt : Times → (past trace : List Call) → Type 0
FitAt t past trace = ReadsFit t.turn.slack t.turn.pace past trace

one_fits : (t : Times) (log : List Step) (past : List Call) (call : Call) (trace : List Call) → AreLinesOf t.lines past
    → (fold times_step (answered_times t (door_call call)) log).paced ≡ true
    → ((later : Times) → AreLinesOf later.lines (past ++ call ∷ []) → (fold times_step later log).paced ≡ true
    → FitAt later (past ++ call ∷ []) trace) → FitAt t past (call ∷ trace)
one_fits t log past (ExpectCall due slack) trace are paced more =
    more (answered_times t (door.ExpectCall due slack)) (same_lines t.lines past _ (λ socket. refl) are) paced
one_fits t log past (NowCall (Ok moment)) trace are paced more =
    (ticks t.turn t.clock, more (answered_times t (door.NowCall (Ok moment))) (same_lines t.lines past _ (λ socket. refl) are) paced)
one_fits t log past (NowCall (Err fault)) trace are paced more =
    (false, more (answered_times t (door.NowCall (Err fault))) (same_lines t.lines past _ (λ socket. refl) are) paced)
one_fits t log past (AcceptCall answer granted) trace are paced more =
    more (answered_times t (door.AcceptCall answer)) (same_lines t.lines past _ (λ socket. refl) are) paced
one_fits t log past (WriteCall who bytes answer) trace are paced more =
    more (answered_times t (door.WriteCall who bytes answer)) (same_lines t.lines past _ (λ socket. refl) are) paced
one_fits t log past (CloseCall who answer) trace are paced more =
    more (answered_times t (door.CloseCall who answer)) (same_lines t.lines past _ (λ socket. refl) are) paced
one_fits t log past (ReadCall who answer buffer grants) trace are paced more =
    let call = ReadCall who answer buffer grants in
    let next = answered_times t (door.ReadCall who answer buffer) in
    let weighs = read_weighs t.lines past who answer buffer grants are in
    let fit = (and_parts t.paced (fits t.turn.pace (weight_of (t.lines who) (got_bytes answer buffer))) (paced_before log next paced)).1 in
    let rest = more next (read_lines t.lines past who answer buffer grants are) paced in
    let pace = (read_pace t.turn (t.lines who) answer buffer).0 ∙ ap (spent t.turn.pace) weighs in
    let slack = (read_pace t.turn (t.lines who) answer buffer).1 in (
      sym (ap (fits t.turn.pace) weighs) ∙ fit,
      subst (λ (p : Pace). ReadsFit t.turn.slack p (past ++ call ∷ []) trace) pace
          (subst (λ (s : Option ℕ). ReadsFit s (after_read t.turn (t.lines who) answer buffer).pace (past ++ call ∷ []) trace) slack rest),
    )

reads_fit : (log : List Step) (t : Times) (past trace : List Call) → AreLinesOf t.lines past → map door_call trace ≡ calls log
    → (fold times_step t log).paced ≡ true → FitAt t past trace
reads_fit [] t past [] are e paced = tt
reads_fit [] t past (call ∷ trace) are e paced = cc
reads_fit (Answers call ∷ log) t past [] are e paced = cc
reads_fit (Answers call ∷ log) t past (given ∷ trace) are e paced =
    let here : call ≡ door_call given = cc in
    let rest : map door_call trace ≡ calls log = cc in
    one_fits t log past given trace are (subst (λ (c : door.Call). (fold times_step (answered_times t c) log).paced ≡ true) here paced)
    (λ later are paced. reads_fit log later (past ++ given ∷ []) trace are rest paced)
reads_fit (Clocks (Some time) ∷ log) t past trace are e paced = reads_fit log (times_step t (Clocks (Some time))) past trace are e paced
reads_fit (Clocks None ∷ log) t past trace are e paced = reads_fit log t past trace are e paced
reads_fit (Accepts number answer ∷ log) t past trace are e paced =
    reads_fit log (times_step t (Accepts number answer)) past trace are e paced
reads_fit (Waits most count ready ∷ log) t past trace are e paced =
    reads_fit log (times_step t (Waits most count ready)) past trace are e paced
reads_fit (Reads who buffer answer ∷ log) t past trace are e paced = reads_fit log t past trace are e paced
reads_fit (Writes who bytes answer ∷ log) t past trace are e paced = reads_fit log t past trace are e paced
reads_fit (Shuts who ∷ log) t past trace are e paced = reads_fit log t past trace are e paced
reads_fit (Closes who ∷ log) t past trace are e paced = reads_fit log t past trace are e paced

pub panels_kept : (wall start : ℕ) (log : List Step) → ArePaced (times wall start log) → door.PeersDiffer [] (calls log)
    → AllByRecursion door.IsFair (calls log) → PanelsAreKept log
panels_kept wall start log paced differ fair buses layout count trace served are fits =
    fit_reads_spare buses layout count trace served
    (subst (door.PeersDiffer []) (sym are) differ) (fair_given trace (subst (AllByRecursion door.IsFair) (sym are) fair))
    (reads_fit log (first_times wall start) [] trace (λ socket. refl) are paced.light) fits
