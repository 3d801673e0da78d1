-- A row that drove at a loss counts again only once it rested.
use Rattle.std.proofs.Common.{◌&&◌, ◌++◌, ◌==◌, [], ap, Bool, false, List, None, not, Option, refl, Some, sym, true, ℕ, ◌∙◌, ◌∷◌, ◌≡◌}
use Rattle.std.specs.Option.{option_map_or}
use Rattle.std.specs.Prelude.{if◌then◌else◌, ◌||◌}
use Rattle.srcp_driver.specs.Cabs.{handed, held, is_due, is_no_command, is_own, refused, reported, told, with_answer, with_command}
use Rattle.srcp_driver.specs.Cabs.{with_row}
use Rattle.srcp_driver.specs.Drives.{drives, is_alike, is_same}
use Rattle.srcp_driver.specs.Laws.{AreNo, is_row, may_rest, RowsRestFirst}
use Rattle.srcp_driver.specs.Powers.{is_cut}
use Rattle.srcp_driver.specs.Runs.{course, is_loss, Made, moves}
use Rattle.srcp_driver.specs.Steps.{after, happens, next, next_put, Table, tells}
use Rattle.srcp_driver.specs.declared.cab.Cab.{Cab}
use Rattle.srcp_driver.specs.declared.drive.Drive.{Drive}
use Rattle.srcp_driver.specs.declared.event.Event.{Event}
use Rattle.srcp_driver.specs.declared.event.Tell.{Tell}
use Rattle.srcp_driver.specs.declared.event.Event.TheVariants as event
use Rattle.srcp_driver.specs.declared.event.Tell.TheVariants as tell
use Rattle.srcp_driver.proofs.Chosen.{order_for, quiet}
use Rattle.srcp_driver.proofs.Commands.{wanted_rests}
use Rattle.srcp_driver.proofs.Each.{cab_heard, cab_ordered, Each, each_heard, each_ordered, each_put_keeps}
use Rattle.srcp_driver.proofs.Rows.{HasRow, row_since}
use Rattle.srcp_driver.proofs.Same.{not_false, or_left, or_right, pick}
use Rattle.srcp_driver.proofs.Waits.{aged_waits, cut_waits, forgotten_waits, held_waits, Of, ordered_waits, row_waits, said_waits, Waits}

-- a locomotive waits, and no row that drives counts
record IsHeld (cab : Cab) : Type 0 where
  pub waits : Waits cab
  pub held : cab.is_held ≡ true
  pub asks : cab.is_refused ≡ false

-- ---- held, until it rests

lost_held : (t : Table) (loss : Event) (n : ℕ) (row : Drive) (cab : Cab) → is_loss loss ≡ true → drives row ≡ true
    → HasRow row cab → IsHeld (cab_heard t loss n cab)
lost_held t event.Greeted n row cab e moves is =
    record { waits = forgotten_waits cab; held = or_right cab.is_held (drives cab.row) (ap drives is ∙ moves); asks = refl }
lost_held t event.Gone n row cab e moves is =
    record { waits = forgotten_waits cab; held = or_right cab.is_held (drives cab.row) (ap drives is ∙ moves); asks = refl }
lost_held t event.Lost n row cab e moves is =
    record { waits = held_waits cab; held = or_right cab.is_held (drives cab.row) (ap drives is ∙ moves); asks = refl }
lost_held t event.StopAll n row cab e moves is =
    record { waits = held_waits cab; held = or_right cab.is_held (drives cab.row) (ap drives is ∙ moves); asks = refl }
lost_held t (event.Row m drive listed) n row cab e moves is = absurd (cc)
lost_held t (event.Power on listed) n row cab e moves is = absurd (cc)
lost_held t (event.Said m drive) n row cab e moves is = absurd (cc)
lost_held t (event.SaidPower on) n row cab e moves is = absurd (cc)
lost_held t (event.Moment now) n row cab e moves is = absurd (cc)
lost_held t (event.Reply accepted) n row cab e moves is = absurd (cc)
lost_held t event.Joined n row cab e moves is = absurd (cc)
lost_held t event.Ready n row cab e moves is = absurd (cc)

-- the flags alone
record Flags (cab : Cab) : Type 0 where
  pub held : cab.is_held ≡ true
  pub asks : cab.is_refused ≡ false

held_flags : (cab : Cab) → Flags cab → Flags (held cab)
held_flags cab e = record { held = or_left cab.is_held (drives cab.row) e.held; asks = refl }

kept_of : (moving old held refused same : Bool) → moving ≡ true → held ≡ true → refused ≡ false
    → (moving && (old || (held && (not refused || same)))) ≡ true
kept_of true true held refused same m h r = refl
kept_of true false true false same m h r = refl
kept_of true false true true same m h r = absurd (cc)
kept_of true false false refused same m h r = absurd (cc)
kept_of false old held refused same m h r = absurd (cc)

row_no : (drive : Drive) (old : Bool) (cab : Cab) → drives drive ≡ true → Flags cab → is_no_command drive old cab ≡ true
row_no drive old cab moves e =
    kept_of (drives drive) old cab.is_held cab.is_refused (is_same cab.row drive) moves e.held e.asks

row_flags_of : (drive : Drive) (own denied : Bool) (cab : Cab) → denied ≡ true → Flags cab
    → Flags (if own then with_answer drive cab else with_command drive denied cab)
row_flags_of drive true denied cab is e = record { held = e.held; asks = refl }
row_flags_of drive false denied cab is e = record { held = is; asks = refl }

row_flags : (b : Bool) (drive : Drive) (old : Bool) (cab : Cab) → (b && not (drives drive)) ≡ false → Flags cab
    → Flags (if b then with_row drive old cab else cab)
row_flags true drive old cab denied e = row_flags_of drive (is_own cab.asked drive) (is_no_command drive old cab) cab
    (row_no drive old cab (not_false (drives drive) denied) e) e
row_flags false drive old cab denied e = e

hand_flags : (drive : Drive) (cab : Cab) → Flags cab → Flags (handed drive cab)
hand_flags drive cab e = record { held = e.held; asks = refl }

said_flags_of : (drive : Drive) (cab : Cab) (x y : Option Drive) → Flags cab
    → Flags (option_map_or (λ told. if is_same told drive then record cab { awaited = None; is_late = false } else cab) x
    (option_map_or (λ told. if is_alike told drive then cab else handed drive cab) y cab))
said_flags_of drive cab (Some a) y e = pick Flags (is_same a drive) (record cab { awaited = None; is_late = false }) cab
    (record { held = e.held; asks = e.asks }) e
said_flags_of drive cab None (Some x) e = pick Flags (is_alike x drive) cab (handed drive cab) e (hand_flags drive cab e)
said_flags_of drive cab None None e = e

heard_flags : (t : Table) (event : Event) (n : ℕ) (cab : Cab) → may_rest n event ≡ false → Flags cab
    → Flags (cab_heard t event n cab)
heard_flags t (event.Row m drive listed) n cab denied e = row_flags (n == m) drive (listed || not t.is_here) cab denied e
heard_flags t (event.Power on listed) n cab denied e = e
heard_flags t event.Greeted n cab denied e = record { held = (held_flags cab e).held; asks = refl }
heard_flags t event.Gone n cab denied e = record { held = (held_flags cab e).held; asks = refl }
heard_flags t event.Lost n cab denied e = held_flags cab e
heard_flags t event.StopAll n cab denied e = held_flags cab e
heard_flags t (event.Said m drive) n cab denied e = pick Flags t.is_here (if n == m then reported drive cab else cab) cab
    (pick Flags (n == m) (reported drive cab) cab (said_flags_of drive cab cab.awaited cab.told e) e) e
heard_flags t (event.SaidPower on) n cab denied e = pick Flags t.is_here (if is_cut on t.power then held cab else cab) cab
    (pick Flags (is_cut on t.power) (held cab) cab (held_flags cab e) e) e
heard_flags t (event.Moment now) n cab denied e = pick Flags (is_due now cab) (record cab { told = None; is_late = true }) cab
    (record { held = e.held; asks = e.asks }) e
heard_flags t (event.Reply true) n cab denied e = e
heard_flags t (event.Reply false) n cab denied e = absurd (cc)
heard_flags t event.Joined n cab denied e = record { held = e.held; asks = refl }
heard_flags t event.Ready n cab denied e = e

-- a row that is no command leaves it waiting
row_still : (b : Bool) (drive : Drive) (old : Bool) (cab : Cab) → (b && not (drives drive)) ≡ false → IsHeld cab
    → Waits (if b then with_row drive old cab else cab)
row_still b drive old cab denied e = row_waits b drive old cab
    (λ so. ap (λ (none : Bool). option_map_or drives (if none then None else Some drive) false)
    (row_no drive old cab (not_false (drives drive) (ap (λ (b : Bool). b && not (drives drive)) (sym so) ∙ denied))
    (record { held = e.held; asks = e.asks }))) e.waits

heard_still : (t : Table) (event : Event) (n : ℕ) (cab : Cab) → may_rest n event ≡ false → IsHeld cab
    → Waits (cab_heard t event n cab)
heard_still t (event.Row m drive listed) n cab denied e = row_still (n == m) drive (listed || not t.is_here) cab denied e
heard_still t (event.Power on listed) n cab denied e = e.waits
heard_still t event.Greeted n cab denied e = forgotten_waits cab
heard_still t event.Gone n cab denied e = forgotten_waits cab
heard_still t event.Lost n cab denied e = held_waits cab
heard_still t event.StopAll n cab denied e = held_waits cab
heard_still t (event.Said m drive) n cab denied e = said_waits t.is_here (n == m) drive cab denied e.waits
heard_still t (event.SaidPower on) n cab denied e = cut_waits t.is_here (is_cut on t.power) cab e.waits
heard_still t (event.Moment now) n cab denied e = aged_waits now cab e.waits
heard_still t (event.Reply true) n cab denied e = e.waits
heard_still t (event.Reply false) n cab denied e = absurd (cc)
heard_still t event.Joined n cab denied e = record { rests = e.waits.rests; unsure = e.waits.unsure }
heard_still t event.Ready n cab denied e = e.waits

event_held : (n : ℕ) (t : Table) (event : Event) → may_rest n event ≡ false → Each (Of n IsHeld) t.cabs
    → Each (Of n IsHeld) (happens t event).cabs
event_held n t event denied all = each_heard (Of n IsHeld) (Of n IsHeld) t event
    (λ m cab is p same.
    let here : may_rest m event ≡ false = ap (λ (k : ℕ). may_rest k event) same ∙ denied in
    let e : IsHeld cab = p same in
    let flags : Flags (cab_heard t event m cab) = heard_flags t event m cab here (record { held = e.held; asks = e.asks }) in
    record { waits = heard_still t event m cab here e; held = flags.held; asks = flags.asks }) all

ordered_flags : (t : Table) (x : Option Tell) (n : ℕ) (cab : Cab) → Flags cab → Flags (cab_ordered t x n cab)
ordered_flags t None n cab e = e
ordered_flags t (Some tell.StopAll) n cab e = e
ordered_flags t (Some (tell.Power on)) n cab e = e
ordered_flags t (Some (tell.Cab m drive)) n cab e =
    pick Flags (n == m) (told drive t.clock cab) cab (record { held = e.held; asks = e.asks }) e

after_held : (n : ℕ) (t : Table) (event : Event) → Each (Of n IsHeld) (happens t event).cabs → Each (Of n IsHeld) (after t event).cabs
after_held n t event all =
    let told : Each (Of n IsHeld) (tells (happens t event)).cabs =
    each_ordered (Of n IsHeld) (Of n IsHeld) (happens t event) (next (happens t event))
    (λ m cab is p same.
    let e : IsHeld cab = p same in
    let flags = ordered_flags (happens t event) (next (happens t event)) m cab (record { held = e.held; asks = e.asks }) in
    record {
      waits = ordered_waits (happens t event) (next (happens t event)) m cab refl is e.waits;
      held = flags.held;
      asks = flags.asks;
    }) all in
    each_put_keeps (Of n IsHeld) (tells (happens t event)) (next_put (tells (happens t event)))
    (λ m drive cab p same. let e : IsHeld cab = p same in
    record { waits = record { rests = e.waits.rests; unsure = e.waits.unsure }; held = e.held; asks = e.asks })
    (λ m is_silent cab p same. let e : IsHeld cab = p same in
    record { waits = record { rests = e.waits.rests; unsure = e.waits.unsure }; held = e.held; asks = e.asks }) told

held_since : (made : Made) (before : List Event) (row : Drive) (listed : Bool) (quiet : List Event) (loss : Event)
    (since : List Event) (n : ℕ) → drives row ≡ true → AreNo (is_row n) quiet → is_loss loss ≡ true
    → AreNo (may_rest n) since
    → Each (Of n IsHeld) (course made (since ++ loss ∷ quiet ++ event.Row n row listed ∷ before)).cabs
held_since made before row listed quiet loss [] n moves calm lost denied =
    let t : Table = course made (quiet ++ event.Row n row listed ∷ before) in
    after_held n t loss (each_heard (Of n (HasRow row)) (Of n IsHeld) t loss
    (λ m cab is p same. lost_held t loss m row cab lost moves (p same)) (row_since made before row listed quiet n calm))
held_since made before row listed quiet loss (newest ∷ since) n moves calm lost denied =
    let t : Table = course made (since ++ loss ∷ quiet ++ event.Row n row listed ∷ before) in
    after_held n t newest (event_held n t newest denied.0
    (held_since made before row listed quiet loss since n moves calm lost denied.1))

pub rows_rest_first : RowsRestFirst
rows_rest_first made before row listed quiet loss since newest n drive lt moves calm lost denied e =
    let t : Table = course made (since ++ loss ∷ quiet ++ event.Row n row listed ∷ before) in
    let one = order_for (happens t newest) n drive e in
    let held : IsHeld one.cab = event_held n t newest denied.0
    (held_since made before row listed quiet loss since n moves calm lost denied.1) n one.cab one.is refl in
    ap drives one.so ∙ wanted_rests one.cab held.waits.rests
