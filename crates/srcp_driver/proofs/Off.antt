-- The power does not come on by itself.
use Rattle.std.proofs.Common.{◌&&◌, ◌++◌, [], ap, Bool, false, List, None, not, Option, refl, Some, subst, sym, true, ℕ, ◌∙◌, ◌∷◌, ◌≡◌}
use Rattle.std.proofs.Common.{◌≢◌}
use Rattle.std.specs.Option.{option_map_or}
use Rattle.std.specs.Prelude.{if◌then◌else◌, is_some, ◌||◌}
use Rattle.srcp_driver.specs.Cabs.{confirms, has_passed, is_silent, reported}
use Rattle.srcp_driver.specs.Drives.{is_same_way}
use Rattle.srcp_driver.specs.Laws.{AreNo, CutsStay, PowerStaysOff, switches_on}
use Rattle.srcp_driver.specs.Noted.{is_hand_off, NotedPower}
use Rattle.srcp_driver.specs.Powers.{is_cut, is_told, power_heard}
use Rattle.srcp_driver.specs.TableLaws.{OffIsWanted}
use Rattle.srcp_driver.specs.Runs.{course, is_here, is_power_loss, Made, order}
use Rattle.srcp_driver.specs.Steps.{after, at, happens, next, next_put, noted, put_noted, put_refused, switched, Table, tells}
use Rattle.srcp_driver.specs.declared.drive.Drive.{Drive}
use Rattle.srcp_driver.specs.declared.event.Event.{Event}
use Rattle.srcp_driver.specs.declared.event.Put.{Put}
use Rattle.srcp_driver.specs.declared.event.Tell.{Tell}
use Rattle.srcp_driver.specs.declared.power.Power.{Power}
use Rattle.srcp_driver.specs.declared.event.Event.TheVariants as event
use Rattle.srcp_driver.specs.declared.event.Put.TheVariants as put
use Rattle.srcp_driver.specs.declared.event.Tell.TheVariants as tell
use Rattle.srcp_driver.proofs.Agree.{agrees}
use Rattle.srcp_driver.proofs.Chosen.{order_on}
use Rattle.srcp_driver.proofs.Notes.{seen_by}
use Rattle.srcp_driver.proofs.Same.{pick}

abbrev IsDark : Power → Type 0
IsDark p = p.is_on ≡ false

abbrev IsOff : Table → Type 0
IsOff t = IsDark t.power

row_off : (on listed away own : Bool) (p : Bool) → (on && not listed) ≡ false → p ≡ false
    → (if on && own then p else (on && not (listed || away))) ≡ false
row_off true true away true p denied e = e
row_off true true away false p denied e = refl
row_off true false away own p denied e = absurd (cc)
row_off false listed away own p denied e = refl

said_off_of : (p : Power) (x y : Option Bool) → p.is_on ≡ false
    → (option_map_or (λ told. if is_same_way told false then record p { awaited = None; is_late = false } else p) x
    (option_map_or (λ told. record p { is_on = if is_same_way told false then p.is_on else false; told = Some false }) y p)).is_on
    ≡ false
said_off_of p (Some a) y e = pick IsDark (is_same_way a false) (record p { awaited = None; is_late = false }) p e e
said_off_of p None (Some true) e = refl
said_off_of p None (Some false) e = e
said_off_of p None None e = e

said_off : (t : Table) (on here : Bool) → on ≡ false → IsOff t → IsOff (if here then switched t on else t)
said_off t true here denied e = absurd (cc)
said_off t false true denied e = pick IsDark (is_cut false t.power)
    (record t.power { is_on = false; told = Some false; awaited = None; is_late = false }) (power_heard false t.power) refl
    (said_off_of t.power t.power.awaited t.power.told e)
said_off t false false denied e = e

said_same_off : (t : Table) (m : ℕ) (drive : Drive) (here : Bool) → IsOff t
    → IsOff (if here then record t { cabs = at t.cabs m (reported drive) } else t)
said_same_off t m drive true e = e
said_same_off t m drive false e = e

refused_off : (t : Table) (x : Option Put) → IsOff t → IsOff (option_map_or (put_refused t) x t)
refused_off t None e = e
refused_off t (Some (put.Power on)) e = e
refused_off t (Some (put.Silent m is_silent)) e = e
refused_off t (Some (put.Cab m drive)) e = e

heard_off : (t : Table) (event : Event) → switches_on event ≡ false → IsOff t → IsOff (happens t event)
heard_off t (event.Row m drive listed) denied e = e
heard_off t (event.Power on listed) denied e =
    row_off on listed (not t.is_here) (is_told t.power.asked true) t.power.is_on denied e
heard_off t event.Greeted denied e = refl
heard_off t event.Gone denied e = refl
heard_off t event.Lost denied e = refl
heard_off t event.StopAll denied e = e
heard_off t (event.Said m drive) denied e = said_same_off t m drive t.is_here e
heard_off t (event.SaidPower on) denied e = said_off t on t.is_here denied e
heard_off t (event.Moment now) denied e = pick IsDark (is_some t.power.awaited && has_passed confirms t.power.told_at now)
    (record t.power { told = None; is_late = true }) t.power e e
heard_off t (event.Reply true) denied e = e
heard_off t (event.Reply false) denied e = refused_off t t.waiting e
heard_off t event.Joined denied e = e
heard_off t event.Ready denied e = e

told_off : (t : Table) (x : Option Tell) → IsOff t → IsOff (option_map_or (noted t) x t)
told_off t None e = e
told_off t (Some tell.StopAll) e = e
told_off t (Some (tell.Power on)) e = e
told_off t (Some (tell.Cab m drive)) e = e

put_off : (t : Table) (x : Option Put) → IsOff t → IsOff (option_map_or (put_noted t) x t)
put_off t None e = e
put_off t (Some (put.Power on)) e = e
put_off t (Some (put.Cab m drive)) e = e
put_off t (Some (put.Silent m is_silent)) e = e

after_off : (t : Table) (event : Event) → IsOff (happens t event) → IsOff (after t event)
after_off t event e = put_off (tells (happens t event)) (next_put (tells (happens t event)))
    (told_off (happens t event) (next (happens t event)) e)

lost_off : (t : Table) (loss : Event) → is_power_loss loss ≡ true → IsOff (happens t loss)
lost_off t event.Greeted e = refl
lost_off t event.Gone e = refl
lost_off t event.Lost e = refl
lost_off t event.StopAll e = absurd (cc)
lost_off t (event.Row m drive listed) e = absurd (cc)
lost_off t (event.Power on listed) e = absurd (cc)
lost_off t (event.Said m drive) e = absurd (cc)
lost_off t (event.SaidPower on) e = absurd (cc)
lost_off t (event.Moment now) e = absurd (cc)
lost_off t (event.Reply accepted) e = absurd (cc)
lost_off t event.Joined e = absurd (cc)
lost_off t event.Ready e = absurd (cc)

-- the power is off once a hand has switched it off
cut_off : (t : Table) (here : Bool) → t.is_here ≡ here → here ≡ true → is_cut false t.power ≡ true
    → IsOff (happens t (event.SaidPower false))
cut_off t here is h cut =
    subst (λ (b : Bool). IsOff (if b then switched t false else t)) (sym (is ∙ h))
    (ap (λ (b : Bool). (if b then record t.power { is_on = false; told = Some false; awaited = None; is_late = false }
    else power_heard false t.power).is_on) cut)

since_off : (made : Made) (before : List Event) (loss : Event) (since : List Event) → IsOff (happens (course made before) loss)
    → AreNo switches_on since → IsOff (course made (since ++ loss ∷ before))
since_off made before loss [] lost denied = after_off (course made before) loss lost
since_off made before loss (event ∷ since) lost denied = after_off (course made (since ++ loss ∷ before)) event
    (heard_off (course made (since ++ loss ∷ before)) event denied.0 (since_off made before loss since lost denied.1))

first_of : (a b c : Bool) → (a && b && c) ≡ true → a ≡ true
first_of true b c e = refl
first_of false b c e = absurd (cc)

stays_off : (made : Made) (before : List Event) (loss : Event) (since : List Event) (newest : Event)
    → IsOff (happens (course made before) loss) → AreNo switches_on (newest ∷ since)
    → order made (since ++ loss ∷ before) newest ≢ Some (tell.Power true)
stays_off made before loss since newest lost denied e =
    let t : Table = course made (since ++ loss ∷ before) in
    let off : IsOff (happens t newest) = heard_off t newest denied.0 (since_off made before loss since lost denied.1) in
    let one = order_on (happens t newest) e in
    let p : Power = (happens t newest).power in
    let on : p.is_on ≡ true = first_of p.is_on (not (is_told p.told true)) (option_map_or (λ on. p.is_late) p.awaited true) one.on in
    absurd (cc)

pub power_stays_off : PowerStaysOff
power_stays_off made before loss since newest lost denied =
    stays_off made before loss since newest (lost_off (course made before) loss lost) denied

pub cuts_stay : CutsStay
cuts_stay made before since newest here cut denied = stays_off made before (event.SaidPower false) since newest
    (cut_off (course made before) (is_here before) (sym (agrees made before).plain.here) here
    (ap (λ (k : NotedPower). is_hand_off k false) (sym (seen_by made before).power) ∙ cut)) denied

pub off_is_wanted : OffIsWanted
off_is_wanted made before since newest here cut denied =
    cuts_stay made before since newest here (ap (λ (k : NotedPower). is_hand_off k false) (seen_by made before).power ∙ cut) denied
