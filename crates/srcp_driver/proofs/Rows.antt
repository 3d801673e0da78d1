-- A row is what it was told to be, until another comes.
use Rattle.std.proofs.Common.{◌++◌, ◌==◌, [], ap, Bool, false, List, None, not, Option, refl, Some, subst, sym, true, ℕ, ◌∙◌, ◌∷◌, ◌≡◌}
use Rattle.std.specs.Option.{option_map_or}
use Rattle.std.specs.Prelude.{if◌then◌else◌, ◌||◌}
use Rattle.srcp_driver.specs.Cabs.{handed, held, is_due, is_no_command, is_own, is_silent, refused, reported, told, with_answer}
use Rattle.srcp_driver.specs.Cabs.{with_command, with_row}
use Rattle.srcp_driver.specs.Drives.{is_alike, is_same}
use Rattle.srcp_driver.specs.Laws.{AreNo, is_row}
use Rattle.srcp_driver.specs.Powers.{is_cut}
use Rattle.srcp_driver.specs.Runs.{course, Made}
use Rattle.srcp_driver.specs.Steps.{after, happens, next, next_put, Table, tells}
use Rattle.srcp_driver.specs.declared.cab.Cab.{Cab}
use Rattle.srcp_driver.specs.declared.drive.Drive.{Drive}
use Rattle.srcp_driver.specs.declared.event.Event.{Event}
use Rattle.srcp_driver.specs.declared.event.Put.{Put}
use Rattle.srcp_driver.specs.declared.event.Tell.{Tell}
use Rattle.srcp_driver.specs.declared.event.Event.TheVariants as event
use Rattle.srcp_driver.specs.declared.event.Put.TheVariants as put
use Rattle.srcp_driver.specs.declared.event.Tell.TheVariants as tell
use Rattle.srcp_driver.proofs.Chosen.{quiet}
use Rattle.srcp_driver.proofs.Each.{cab_heard, cab_ordered, cab_refused, Each, each_heard, each_ordered, each_put_keeps}
use Rattle.srcp_driver.proofs.Lists.{changed_at, here_at}
use Rattle.srcp_driver.proofs.Same.{pick, pick_else}
use Rattle.srcp_driver.proofs.Waits.{Of}

-- its row is this
abbrev pub HasRow : Drive → Cab → Type 0
HasRow row cab = cab.row ≡ row

-- ---- the row, until another comes

said_row_of : (row drive : Drive) (cab : Cab) (x y : Option Drive) → HasRow row cab
    → HasRow row (option_map_or (λ told. if is_same told drive then record cab { awaited = None; is_late = false } else cab) x
    (option_map_or (λ told. if is_alike told drive then cab else handed drive cab) y cab))
said_row_of row drive cab (Some a) y e = pick (HasRow row) (is_same a drive) (record cab { awaited = None; is_late = false }) cab e e
said_row_of row drive cab None (Some x) e = pick (HasRow row) (is_alike x drive) cab (handed drive cab) e e
said_row_of row drive cab None None e = e

refused_row : (row : Drive) (x : Option Put) (n : ℕ) (cab : Cab) → HasRow row cab
    → HasRow row (option_map_or (λ order. cab_refused order n cab) x cab)
refused_row row None n cab e = e
refused_row row (Some (put.Power on)) n cab e = e
refused_row row (Some (put.Silent m is_silent)) n cab e = e
refused_row row (Some (put.Cab m drive)) n cab e = pick (HasRow row) (n == m) (refused drive cab) cab e e

pub heard_row : (row : Drive) (t : Table) (event : Event) (n : ℕ) (cab : Cab) → is_row n event ≡ false → HasRow row cab
    → HasRow row (cab_heard t event n cab)
heard_row row t (event.Row m drive listed) n cab denied e =
    pick_else (HasRow row) (n == m) (with_row drive (listed || not t.is_here) cab) cab denied e
heard_row row t (event.Power on listed) n cab denied e = e
heard_row row t event.Greeted n cab denied e = e
heard_row row t event.Gone n cab denied e = e
heard_row row t event.Lost n cab denied e = e
heard_row row t event.StopAll n cab denied e = e
heard_row row t (event.Said m drive) n cab denied e = pick (HasRow row) t.is_here (if n == m then reported drive cab else cab) cab
    (pick (HasRow row) (n == m) (reported drive cab) cab (said_row_of row drive cab cab.awaited cab.told e) e) e
heard_row row t (event.SaidPower on) n cab denied e = pick (HasRow row) t.is_here (if is_cut on t.power then held cab else cab) cab
    (pick (HasRow row) (is_cut on t.power) (held cab) cab e e) e
heard_row row t (event.Moment now) n cab denied e = pick (HasRow row) (is_due now cab) (record cab { told = None; is_late = true }) cab e e
heard_row row t (event.Reply true) n cab denied e = e
heard_row row t (event.Reply false) n cab denied e = refused_row row t.waiting n cab e
heard_row row t event.Joined n cab denied e = e
heard_row row t event.Ready n cab denied e = e

pub ordered_row : (row : Drive) (t : Table) (x : Option Tell) (n : ℕ) (cab : Cab) → HasRow row cab → HasRow row (cab_ordered t x n cab)
ordered_row row t None n cab e = e
ordered_row row t (Some tell.StopAll) n cab e = e
ordered_row row t (Some (tell.Power on)) n cab e = e
ordered_row row t (Some (tell.Cab m drive)) n cab e = pick (HasRow row) (n == m) (told drive t.clock cab) cab e e

pub after_row : (row : Drive) (n : ℕ) (t : Table) (event : Event) → Each (Of n (HasRow row)) (happens t event).cabs
    → Each (Of n (HasRow row)) (after t event).cabs
after_row row n t event all =
    let told : Each (Of n (HasRow row)) (tells (happens t event)).cabs =
    each_ordered (Of n (HasRow row)) (Of n (HasRow row)) (happens t event) (next (happens t event))
    (λ m cab is p same. ordered_row row (happens t event) (next (happens t event)) m cab (p same)) all in
    each_put_keeps (Of n (HasRow row)) (tells (happens t event)) (next_put (tells (happens t event)))
    (λ m drive cab p same. p same) (λ m is_silent cab p same. p same) told

-- the row is what it says
own_row : (drive : Drive) (old own denied : Bool) (cab : Cab) → HasRow drive
    (if own then with_answer drive cab else with_command drive denied cab)
own_row drive old true denied cab = refl
own_row drive old false denied cab = refl

pub self_row : (drive : Drive) (old : Bool) (m n : ℕ) (cab : Cab) → n ≡ m → HasRow drive (changed_at m (with_row drive old) n cab)
self_row drive old m n cab same = subst (HasRow drive) (sym (here_at m n (with_row drive old) cab same))
    (own_row drive old (is_own cab.asked drive) (is_no_command drive old cab) cab)

pub row_since : (made : Made) (before : List Event) (row : Drive) (listed : Bool) (quiet : List Event) (n : ℕ)
    → AreNo (is_row n) quiet → Each (Of n (HasRow row)) (course made (quiet ++ event.Row n row listed ∷ before)).cabs
row_since made before row listed [] n denied = after_row row n (course made before) (event.Row n row listed)
    (each_heard (λ m cab. Unit {0}) (Of n (HasRow row)) (course made before) (event.Row n row listed)
    (λ m cab is p same. self_row row (listed || not (course made before).is_here) n m cab same) (λ m cab is. tt))
row_since made before row listed (newest ∷ quiet) n denied =
    let t : Table = course made (quiet ++ event.Row n row listed ∷ before) in
    after_row row n t newest (each_heard (Of n (HasRow row)) (Of n (HasRow row)) t newest
    (λ m cab is p same. heard_row row t newest m cab (ap (λ (k : ℕ). is_row k newest) same ∙ denied.0) (p same))
    (row_since made before row listed quiet n denied.1))
