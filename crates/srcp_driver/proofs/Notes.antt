-- What is noted by events and orders alone is what the table says.
use Rattle.std.proofs.Common.{◌&&◌, ◌==◌, [], ap, Bool, false, List, None, not, Option, refl, Some, true, ℕ, ◌∙◌, ◌∷◌, ◌≡◌}
use Rattle.std.specs.Option.{option_map_or, option_or}
use Rattle.std.specs.Prelude.{if◌then◌else◌, is_some, ◌||◌}
use Rattle.srcp_driver.specs.Cabs.{aged, asked, confirms, handed, has_passed, held, is_due, is_no_command, is_own, is_silent, named}
use Rattle.srcp_driver.specs.Cabs.{refused, reported, told, with_answer, with_command, with_row}
use Rattle.srcp_driver.specs.Drives.{is_alike, is_same, is_value}
use Rattle.srcp_driver.specs.Noted.{asks, is_hand_off, Noted, noted_answer, noted_asked, noted_by, noted_command, noted_hand, noted_heard}
use Rattle.srcp_driver.specs.Noted.{noted_lost, noted_refused, noted_row, noted_said, noted_so, noted_told, NotedPower, notes, power_noted}
use Rattle.srcp_driver.specs.Noted.{power_noted_asked, power_noted_heard, power_noted_told, power_notes, power_told_so, still_open}
use Rattle.srcp_driver.specs.Noted.{unreplied}
use Rattle.srcp_driver.specs.Powers.{is_cut}
use Rattle.srcp_driver.specs.Runs.{course, heard, is_here, Known, known, Made, moment, order, told_so}
use Rattle.srcp_driver.specs.Steps.{at, next, put_noted, Table, tells}
use Rattle.srcp_driver.specs.declared.cab.Cab.{Cab}
use Rattle.srcp_driver.specs.declared.drive.Drive.{Drive}
use Rattle.srcp_driver.specs.declared.event.Event.{Event}
use Rattle.srcp_driver.specs.declared.event.Put.{Put}
use Rattle.srcp_driver.specs.declared.event.Tell.{Tell}
use Rattle.srcp_driver.specs.declared.event.Event.TheVariants as event
use Rattle.srcp_driver.specs.declared.event.Put.TheVariants as put
use Rattle.srcp_driver.specs.declared.event.Tell.TheVariants as tell
use Rattle.srcp_driver.proofs.Agree.{Agrees, agrees, all_agrees, blanks}
use Rattle.srcp_driver.proofs.Each.{cab_heard, cab_ordered, cab_put, cab_refused, Each, each_heard, each_ordered, each_put}
use Rattle.srcp_driver.proofs.Plain.{facts}
use Rattle.srcp_driver.proofs.Same.{pick, picks}
use Rattle.srcp_driver.proofs.Seen.{heard_waiting, IsSeen, ordered_waiting, power_heard_seen, power_ordered_seen}
use Rattle.srcp_driver.proofs.Seen.{power_put_seen, power_seen, put_waiting, seen}
use Rattle.srcp_driver.proofs.Ties.{Tied}

-- ---- one locomotive

row_seen : (drive : Drive) (old : Bool) (cab : Cab) → noted_row drive old (seen cab) ≡ seen (with_row drive old cab)
row_seen drive old cab = picks IsSeen (is_own cab.asked drive) (noted_answer drive (seen cab))
    (noted_command drive (is_no_command drive old cab) (seen cab))
    (with_answer drive cab) (with_command drive (is_no_command drive old cab) cab) refl refl

-- a report: what is awaited leaves what is noted
hand_seen : (drive : Drive) (cab : Cab) (x y : Option Drive)
    → (if is_some x then seen cab else option_map_or (λ told. if is_alike told drive then seen cab else noted_hand drive (seen cab)) y
    (seen cab))
    ≡ seen (option_map_or (λ told. if is_same told drive then record cab { awaited = None; is_late = false } else cab) x
    (option_map_or (λ told. if is_alike told drive then cab else handed drive cab) y cab))
hand_seen drive cab (Some a) y = pick (IsSeen (seen cab)) (is_same a drive) (record cab { awaited = None; is_late = false }) cab refl refl
hand_seen drive cab None (Some b) = picks IsSeen (is_alike b drive) (seen cab)
    (noted_hand drive (seen cab)) cab (handed drive cab) refl refl
hand_seen drive cab None None = refl

said_seen : (k : Known) (drive : Drive) (here same : Bool) (cab : Cab) → k.awaited ≡ cab.awaited
    → (if here && same then noted_said k drive (seen cab) else seen cab)
    ≡ seen (if here then (if same then reported drive cab else cab) else cab)
said_seen k drive true same cab e = picks IsSeen same (noted_said k drive (seen cab)) (seen cab) (reported drive cab) cab
    (ap (λ (x : Option Drive). if is_some x then seen cab else option_map_or (λ told. if is_alike told drive then seen cab
    else noted_hand drive (seen cab)) cab.told (seen cab)) e
    ∙ hand_seen drive cab cab.awaited cab.told) refl
said_seen k drive false same cab e = refl

cut_seen : (here cut : Bool) (cab : Cab) → (if here && cut then noted_lost (seen cab) else seen cab)
    ≡ seen (if here then (if cut then held cab else cab) else cab)
cut_seen true cut cab = picks IsSeen cut (noted_lost (seen cab)) (seen cab) (held cab) cab refl refl
cut_seen false cut cab = refl

late_seen : (k : Known) (now : ℕ) (cab : Cab) → k.awaited ≡ cab.awaited → k.told_at ≡ cab.told_at
    → (if is_some k.awaited && has_passed confirms k.told_at now then record (seen cab) { told = None } else seen cab)
    ≡ seen (aged now cab)
late_seen k now cab e at = ap (λ (x : Option Drive). if is_some x && has_passed confirms k.told_at now
    then record (seen cab) { told = None } else seen cab) e
    ∙ ap (λ (x : ℕ). if is_some cab.awaited && has_passed confirms x now then record (seen cab) { told = None } else seen cab) at
    ∙ picks IsSeen (is_due now cab) (record (seen cab) { told = None }) (seen cab) (record cab { told = None; is_late = true }) cab
    refl refl

refused_seen : (x : Option Put) (n : ℕ) (cab : Cab)
    → noted_refused n x (seen cab) ≡ seen (option_map_or (λ order. cab_refused order n cab) x cab)
refused_seen None n cab = refl
refused_seen (Some (put.Power on)) n cab = refl
refused_seen (Some (put.Silent m is_silent)) n cab = refl
refused_seen (Some (put.Cab m drive)) n cab = picks IsSeen (n == m)
    (record (seen cab) { command = if is_value cab.command drive then None else cab.command; asked = None; is_refused = true })
    (seen cab)
    (refused drive cab) cab (refl) refl

ordered_seen : (t : Table) (x : Option Tell) (n : ℕ) (cab : Cab) → noted_told n x (seen cab) ≡ seen (cab_ordered t x n cab)
ordered_seen t None n cab = refl
ordered_seen t (Some tell.StopAll) n cab = refl
ordered_seen t (Some (tell.Power on)) n cab = refl
ordered_seen t (Some (tell.Cab m drive)) n cab =
    picks IsSeen (n == m) (record (seen cab) { told = Some drive }) (seen cab) (told drive t.clock cab) cab refl refl

put_seen : (x : Option Put) (n : ℕ) (cab : Cab) → noted_asked n x (seen cab) ≡ seen (cab_put x n cab)
put_seen None n cab = refl
put_seen (Some (put.Power on)) n cab = refl
put_seen (Some (put.Cab m drive)) n cab =
    picks IsSeen (n == m) (record (seen cab) { asked = Some drive }) (seen cab) (asked drive cab) cab refl refl
put_seen (Some (put.Silent m is_silent)) n cab =
    picks IsSeen (n == m) (record (seen cab) { is_named = is_silent }) (seen cab) (named is_silent cab) cab refl refl

-- ---- the table

pub record Seen (w : Option Put) (p : NotedPower) (k : ℕ → Noted) (t : Table) : Type 0 where
  pub waits : w ≡ t.waiting
  pub power : p ≡ power_seen t.power
  pub cabs : Each (λ n cab. k n ≡ seen cab) t.cabs

abbrev Noting : Made → List Event → Table → Type 0
Noting made past t = Seen (unreplied made past) (power_noted made past) (λ n. noted_by made n past) t

cab_heard_seen : (made : Made) (past : List Event) (event : Event) (n : ℕ) (cab : Cab) → is_here past ≡ (course made past).is_here
    → Noting made past (course made past) → Tied (known made n past) cab
    → noted_heard made n past event (seen cab) ≡ seen (cab_heard (course made past) event n cab)
cab_heard_seen made past (event.Row m drive listed) n cab here all tied =
    let t : Table = course made past in
    ap (λ (b : Bool). if n == m then noted_row drive (listed || not b) (seen cab) else seen cab) here
    ∙ picks IsSeen (n == m) (noted_row drive (listed || not t.is_here) (seen cab)) (seen cab) (with_row drive (listed || not t.is_here) cab)
    cab (row_seen drive (listed || not t.is_here) cab) refl
cab_heard_seen made past (event.Power on listed) n cab here all tied = refl
cab_heard_seen made past event.Greeted n cab here all tied = refl
cab_heard_seen made past event.Gone n cab here all tied = refl
cab_heard_seen made past event.Lost n cab here all tied = refl
cab_heard_seen made past event.StopAll n cab here all tied = refl
cab_heard_seen made past (event.Said m drive) n cab here all tied =
    ap (λ (b : Bool). if b && (n == m) then noted_said (known made n past) drive (seen cab) else seen cab) here
    ∙ said_seen (known made n past) drive (course made past).is_here (n == m) cab tied.awaited
cab_heard_seen made past (event.SaidPower on) n cab here all tied =
    let t : Table = course made past in
    ap (λ (b : Bool). if b && is_hand_off (power_noted made past) on then noted_lost (seen cab) else seen cab) here
    ∙ ap (λ (p : NotedPower). if t.is_here && is_hand_off p on then noted_lost (seen cab) else seen cab) all.power
    ∙ cut_seen t.is_here (is_cut on t.power) cab
cab_heard_seen made past (event.Moment now) n cab here all tied = late_seen (known made n past) now cab tied.awaited tied.told_at
cab_heard_seen made past (event.Reply true) n cab here all tied = refl
cab_heard_seen made past (event.Reply false) n cab here all tied =
    ap (λ (w : Option Put). noted_refused n w (seen cab)) all.waits ∙ refused_seen (course made past).waiting n cab
cab_heard_seen made past event.Joined n cab here all tied = refl
cab_heard_seen made past event.Ready n cab here all tied = refl

heard_all : (made : Made) (past : List Event) (event : Event) → Agrees made (facts made past) (course made past)
    → Noting made past (course made past)
    → Seen (still_open event (unreplied made past)) (power_notes made past event) (λ n. notes made n past event) (heard made past event)
heard_all made past event agree all =
    let t : Table = course made past in
    record {
      waits = ap (still_open event) all.waits ∙ heard_waiting t event;
      power = ap (λ (b : Bool). power_noted_heard b event (power_noted made past)) agree.plain.here
          ∙ ap (power_noted_heard t.is_here event) all.power ∙ power_heard_seen t event;
      cabs = each_heard (λ n cab. noted_by made n past ≡ seen cab) (λ n cab. notes made n past event ≡ seen cab) t event
          (λ n cab is e. ap (noted_heard made n past event) e
          ∙ cab_heard_seen made past event n cab agree.plain.here all (agree.known n cab is)) all.cabs;
    }

ordered_all : (w : Option Put) (p : NotedPower) (k : ℕ → Noted) (now : ℕ) (t : Table) → now ≡ t.clock → Seen w p k t
    → Seen w (power_noted_told now (next t) p) (λ n. noted_told n (next t) (k n)) (tells t)
ordered_all w p k now t is all = record {
  waits = all.waits ∙ ordered_waiting t (next t);
  power = ap (λ (at : ℕ). power_noted_told at (next t) p) is ∙ ap (power_noted_told t.clock (next t)) all.power
      ∙ power_ordered_seen t (next t);
  cabs = each_ordered (λ n cab. k n ≡ seen cab) (λ n cab. noted_told n (next t) (k n) ≡ seen cab) t (next t)
      (λ n cab is e. ap (noted_told n (next t)) e ∙ ordered_seen t (next t) n cab) all.cabs;
}

put_all : (w : Option Put) (p : NotedPower) (k : ℕ → Noted) (t : Table) (x : Option Put) → Seen w p k t
    → Seen (option_or x w) (power_noted_asked x p) (λ n. noted_asked n x (k n)) (option_map_or (put_noted t) x t)
put_all w p k t x all = record {
  waits = ap (option_or x) all.waits ∙ put_waiting t x;
  power = ap (power_noted_asked x) all.power ∙ power_put_seen t x;
  cabs = each_put (λ n cab. k n ≡ seen cab) (λ n cab. noted_asked n x (k n) ≡ seen cab) t x
      (λ n cab is e. ap (noted_asked n x) e ∙ put_seen x n cab) all.cabs;
}

-- ---- after every list of events

pub seen_by : (made : Made) (past : List Event) → Noting made past (course made past)
seen_by made [] = record {
  waits = refl;
  power = refl;
  cabs = blanks (λ n cab. noted_by made n [] ≡ seen cab) (λ n. refl) made.count;
}
seen_by made (event ∷ past) =
    let t : Table = heard made past event in
    put_all (still_open event (unreplied made past))
    (power_noted_told (moment (event ∷ past)) (order made past event) (power_notes made past event))
    (λ n. noted_told n (order made past event) (notes made n past event)) (tells t) (asks made past event)
    (ordered_all (still_open event (unreplied made past)) (power_notes made past event) (λ n. notes made n past event)
    (moment (event ∷ past)) t (all_agrees made past event).plain.now
    (heard_all made past event (agrees made past) (seen_by made past)))

-- once one event more came, and before the orders that follow it
pub all_seen : (made : Made) (past : List Event) (event : Event)
    → Seen (still_open event (unreplied made past)) (power_notes made past event) (λ n. notes made n past event) (heard made past event)
all_seen made past event = heard_all made past event (agrees made past) (seen_by made past)

-- .. and before the registry is asked
pub told_seen : (made : Made) (past : List Event) (event : Event)
    → Seen (still_open event (unreplied made past)) (power_told_so made past event) (λ n. noted_so made n past event)
    (told_so made past event)
told_seen made past event = ordered_all (still_open event (unreplied made past)) (power_notes made past event)
    (λ n. notes made n past event) (moment (event ∷ past)) (heard made past event) (all_agrees made past event).plain.now
    (all_seen made past event)
