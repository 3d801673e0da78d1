-- After a loss a locomotive waits to be commanded, or for the station to report that it rests.
use Rattle.std.proofs.Common.{◌&&◌, ◌==◌, ap, Bool, false, None, not, Option, refl, Some, subst, sym, true, ℕ, ◌∙◌, ◌≡◌}
use Rattle.std.proofs.lemmas.Bool.{eqb-true}
use Rattle.std.specs.Option.{option_map_or}
use Rattle.std.specs.Prelude.{if◌then◌else◌, slice_get, ◌||◌}
use Rattle.srcp_driver.specs.Cabs.{aged, forgotten, handed, held, is_due, is_kept, is_no_command, is_own, is_silent, refused, reported}
use Rattle.srcp_driver.specs.Cabs.{told, wanted, with_answer, with_command, with_row}
use Rattle.srcp_driver.specs.Drives.{drives, is_alike, is_same, is_value}
use Rattle.srcp_driver.specs.Laws.{may_command}
use Rattle.srcp_driver.specs.Powers.{is_cut}
use Rattle.srcp_driver.specs.Runs.{moves, rests}
use Rattle.srcp_driver.specs.Steps.{after, at, happens, next, next_put, Table, tells}
use Rattle.srcp_driver.specs.declared.cab.Cab.{Cab}
use Rattle.srcp_driver.specs.declared.drive.Drive.{Drive}
use Rattle.srcp_driver.specs.declared.event.Event.{Event}
use Rattle.srcp_driver.specs.declared.event.Put.{Put}
use Rattle.srcp_driver.specs.declared.event.Tell.{Tell}
use Rattle.srcp_driver.specs.declared.event.Event.TheVariants as event
use Rattle.srcp_driver.specs.declared.event.Put.TheVariants as put
use Rattle.srcp_driver.specs.declared.event.Tell.TheVariants as tell
use Rattle.srcp_driver.proofs.Chosen.{order_for}
use Rattle.srcp_driver.proofs.Commands.{IsRest, wanted_rests}
use Rattle.srcp_driver.proofs.Each.{cab_heard, cab_ordered, cab_refused, Each, each_heard, each_ordered, each_put_keeps}
use Rattle.srcp_driver.proofs.Same.{pick, same_drive}

-- the station was told that it rests, and has not reported that; or what it was told may be lost
abbrev pub IsUnsure : Option Drive → Option Drive → Type 0
IsUnsure None awaited = Unit {0}
IsUnsure (Some told) awaited = (awaited ≡ Some told) × (drives told ≡ false)

-- a locomotive waits to be commanded, or for the station to report that it rests
pub record Waits (cab : Cab) : Type 0 where
  pub rests : IsRest cab.command
  pub unsure : IsUnsure cab.told cab.awaited

pub held_waits : (cab : Cab) → Waits (held cab)
held_waits cab = record { rests = refl; unsure = tt }

pub forgotten_waits : (cab : Cab) → Waits (forgotten cab)
forgotten_waits cab = record { rests = refl; unsure = tt }

pub aged_waits : (now : ℕ) (cab : Cab) → Waits cab → Waits (aged now cab)
aged_waits now cab e = pick Waits (is_due now cab) (record cab { told = None; is_late = true }) cab
    (record { rests = e.rests; unsure = tt }) e

none_or : (b : Bool) (x : Option Drive) → IsRest x → IsRest (if b then None else x)
none_or true x e = refl
none_or false x e = e

refused_waits : (drive : Drive) (cab : Cab) → Waits cab → Waits (refused drive cab)
refused_waits drive cab e =
    record { rests = none_or (is_value cab.command drive) cab.command e.rests; unsure = e.unsure }

pub cut_waits : (here cut : Bool) (cab : Cab) → Waits cab → Waits (if here then (if cut then held cab else cab) else cab)
cut_waits true true cab e = held_waits cab
cut_waits true false cab e = e
cut_waits false cut cab e = e

-- what is confirmed is not what rests: a report that it drives leaves it so
confirmed_of : (told : Option Drive) (a drive : Drive) → IsUnsure told (Some a) → is_same a drive ≡ true → drives drive ≡ true
    → IsUnsure told None
confirmed_of None a drive e same moves = tt
confirmed_of (Some x) a drive e same moves =
    let is : a ≡ drive = same_drive a drive same in
    let so : a ≡ x = cc in
    let denied : drives x ≡ true = ap drives (sym so ∙ is) ∙ moves in
    absurd (cc)

confirm_waits : (cab : Cab) (a drive : Drive) (b : Bool) → is_same a drive ≡ b → cab.awaited ≡ Some a → drives drive ≡ true
    → Waits cab → Waits (if b then record cab { awaited = None; is_late = false } else cab)
confirm_waits cab a drive true same is moves e = record {
  rests = e.rests;
  unsure = confirmed_of cab.told a drive (subst (IsUnsure cab.told) is e.unsure) same moves;
}
confirm_waits cab a drive false same is moves e = e

unsure_none : (told : Option Drive) → IsUnsure told None → told ≡ None
unsure_none None e = refl
unsure_none (Some x) e = let denied : None ≡ Some x = e.0 in absurd (cc)

said_of : (drive : Drive) (cab : Cab) (x y : Option Drive) → cab.awaited ≡ x → cab.told ≡ y → drives drive ≡ true → Waits cab
    → Waits (option_map_or (λ told. if is_same told drive then record cab { awaited = None; is_late = false } else cab) x
    (option_map_or (λ told. if is_alike told drive then cab else handed drive cab) y cab))
said_of drive cab (Some a) y x-is y-is moves e = confirm_waits cab a drive (is_same a drive) refl x-is moves e
said_of drive cab None None x-is y-is moves e = e
said_of drive cab None (Some t) x-is y-is moves e =
    let none : cab.told ≡ None = unsure_none cab.told (subst (IsUnsure cab.told) x-is e.unsure) in absurd (cc)

said_moves : (same moving : Bool) → (same && not moving) ≡ false → same ≡ true → moving ≡ true
said_moves true true e s = refl
said_moves true false e s = absurd (cc)
said_moves false moving e s = absurd (cc)

pub said_waits : (here b : Bool) (drive : Drive) (cab : Cab) → (b && not (drives drive)) ≡ false → Waits cab
    → Waits (if here then (if b then reported drive cab else cab) else cab)
said_waits true true drive cab denied e = said_of drive cab cab.awaited cab.told refl refl (said_moves true (drives drive) denied refl) e
said_waits true false drive cab denied e = e
said_waits false b drive cab denied e = e

row_unsure : (b : Bool) (told awaited : Option Drive) → IsUnsure told awaited → IsUnsure (if b then told else None) awaited
row_unsure true told awaited e = e
row_unsure false told awaited e = tt

-- a row that is no command, or rests
row_of : (drive : Drive) (own denied : Bool) (cab : Cab) → (own ≡ false → IsRest (if denied then None else Some drive)) → Waits cab
    → Waits (if own then with_answer drive cab else with_command drive denied cab)
row_of drive true denied cab rests e = record { rests = e.rests; unsure = e.unsure }
row_of drive false denied cab rests e =
    record { rests = rests refl; unsure = row_unsure (drives drive) cab.told cab.awaited e.unsure }

pub row_waits : (b : Bool) (drive : Drive) (old : Bool) (cab : Cab)
    → (b ≡ true → IsRest (if is_no_command drive old cab then None else Some drive)) → Waits cab
    → Waits (if b then with_row drive old cab else cab)
row_waits true drive old cab rests e =
    row_of drive (is_own cab.asked drive) (is_no_command drive old cab) cab (λ own. rests refl) e
row_waits false drive old cab rests e = e

-- a listed row that drives is no command, and one that rests has nothing drive
listed_of : (drive : Drive) (moving away kept : Bool) → drives drive ≡ moving
    → IsRest (if moving && ((true || away) || kept) then None else Some drive)
listed_of drive true away kept e = refl
listed_of drive false away kept e = e

row_listed : (drive : Drive) (same listed away kept : Bool) → (same && not listed) ≡ false → same ≡ true
    → IsRest (if drives drive && ((listed || away) || kept) then None else Some drive)
row_listed drive true true away kept e s = listed_of drive (drives drive) away kept refl
row_listed drive true false away kept e s = absurd (cc)
row_listed drive false listed away kept e s = absurd (cc)

refused_of : (x : Option Put) (n : ℕ) (cab : Cab) → Waits cab → Waits (option_map_or (λ order. cab_refused order n cab) x cab)
refused_of None n cab e = e
refused_of (Some (put.Power on)) n cab e = e
refused_of (Some (put.Silent m is_silent)) n cab e = e
refused_of (Some (put.Cab m drive)) n cab e = pick Waits (n == m) (refused drive cab) cab (refused_waits drive cab e) e

heard_waits : (t : Table) (event : Event) (n : ℕ) (cab : Cab) → may_command n event ≡ false → Waits cab
    → Waits (cab_heard t event n cab)
heard_waits t (event.Row m drive listed) n cab denied e = row_waits (n == m) drive (listed || not t.is_here) cab
    (row_listed drive (n == m) listed (not t.is_here) (is_kept drive cab) denied) e
heard_waits t (event.Power on listed) n cab denied e = e
heard_waits t event.Greeted n cab denied e = forgotten_waits cab
heard_waits t event.Gone n cab denied e = forgotten_waits cab
heard_waits t event.Lost n cab denied e = held_waits cab
heard_waits t event.StopAll n cab denied e = held_waits cab
heard_waits t (event.Said m drive) n cab denied e = said_waits t.is_here (n == m) drive cab denied e
heard_waits t (event.SaidPower on) n cab denied e = cut_waits t.is_here (is_cut on t.power) cab e
heard_waits t (event.Moment now) n cab denied e = aged_waits now cab e
heard_waits t (event.Reply true) n cab denied e = e
heard_waits t (event.Reply false) n cab denied e = refused_of t.waiting n cab e
heard_waits t event.Joined n cab denied e = record { rests = e.rests; unsure = e.unsure }
heard_waits t event.Ready n cab denied e = e

-- what it is told then rests
told_of : (t : Table) (b : Bool) (drive : Drive) (cab : Cab) → (b ≡ true → drives drive ≡ false) → Waits cab
    → Waits (if b then told drive t.clock cab else cab)
told_of t true drive cab rests e = record { rests = e.rests; unsure = (refl, rests refl) }
told_of t false drive cab rests e = e

for_cab : (t : Table) (n m : ℕ) (drive : Drive) (cab : Cab) → next t ≡ Some (tell.Cab m drive) → slice_get t.cabs n ≡ Some cab
    → n ≡ m → drive ≡ wanted cab
for_cab t n m drive cab e is same =
    let one = order_for t m drive e in
    let at : slice_get t.cabs m ≡ Some cab = ap (slice_get t.cabs) (sym same) ∙ is in
    let here : one.cab ≡ cab = cc (one.is, at) in
    one.so ∙ ap wanted here

pub ordered_waits : (t : Table) (x : Option Tell) (n : ℕ) (cab : Cab) → next t ≡ x → slice_get t.cabs n ≡ Some cab → Waits cab
    → Waits (cab_ordered t x n cab)
ordered_waits t None n cab is at e = e
ordered_waits t (Some tell.StopAll) n cab is at e = e
ordered_waits t (Some (tell.Power on)) n cab is at e = e
ordered_waits t (Some (tell.Cab m drive)) n cab is at e = told_of t (n == m) drive cab
    (λ b. ap drives (for_cab t n m drive cab is at (eqb-true n m b)) ∙ wanted_rests cab e.rests) e

-- of one locomotive
abbrev pub Of : ℕ → (Cab → Type 0) → ℕ → Cab → Type 0
Of n P m cab = m ≡ n → P cab

pub after_waits : (n : ℕ) (t : Table) (event : Event) → Each (Of n Waits) (happens t event).cabs → Each (Of n Waits) (after t event).cabs
after_waits n t event all =
    let told : Each (Of n Waits) (tells (happens t event)).cabs =
    each_ordered (Of n Waits) (Of n Waits) (happens t event) (next (happens t event))
    (λ m cab is p same. ordered_waits (happens t event) (next (happens t event)) m cab refl is (p same)) all in
    each_put_keeps (Of n Waits) (tells (happens t event)) (next_put (tells (happens t event)))
    (λ m drive cab p same. let e : Waits cab = p same in record { rests = e.rests; unsure = e.unsure })
    (λ m is_silent cab p same. let e : Waits cab = p same in record { rests = e.rests; unsure = e.unsure }) told

pub event_waits : (n : ℕ) (t : Table) (event : Event) → may_command n event ≡ false → Each (Of n Waits) t.cabs
    → Each (Of n Waits) (happens t event).cabs
event_waits n t event denied all = each_heard (Of n Waits) (Of n Waits) t event
    (λ m cab is p same. heard_waits t event m cab (ap (λ (k : ℕ). may_command k event) same ∙ denied) (p same)) all
