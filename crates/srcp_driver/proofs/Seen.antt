-- What may be noted of the table, and what is noted of the power and of the order to the registry.
use Rattle.std.proofs.Common.{◌&&◌, Bool, false, None, Option, refl, Some, sym, true, ℕ, ◌≡◌}
use Rattle.std.specs.Option.{option_map_or, option_or}
use Rattle.std.specs.Prelude.{if◌then◌else◌, is_some}
use Rattle.srcp_driver.specs.Cabs.{confirms, has_passed}
use Rattle.srcp_driver.specs.Cabs.{is_silent, reported}
use Rattle.srcp_driver.specs.Drives.{is_same_way}
use Rattle.srcp_driver.specs.Noted.{Noted}
use Rattle.srcp_driver.specs.Noted.{NotedPower, power_noted_asked}
use Rattle.srcp_driver.specs.Noted.{power_noted_heard, power_noted_said, power_noted_told, still_open}
use Rattle.srcp_driver.specs.Powers.{is_cut}
use Rattle.srcp_driver.specs.Steps.{at, happens, noted, put_noted, put_refused, switched, Table}
use Rattle.srcp_driver.specs.declared.cab.Cab.{Cab}
use Rattle.srcp_driver.specs.declared.drive.Drive.{Drive}
use Rattle.srcp_driver.specs.declared.event.Event.{Event}
use Rattle.srcp_driver.specs.declared.event.Put.{Put}
use Rattle.srcp_driver.specs.declared.event.Tell.{Tell}
use Rattle.srcp_driver.specs.declared.power.Power.{Power}
use Rattle.srcp_driver.specs.declared.event.Event.TheVariants as event
use Rattle.srcp_driver.specs.declared.event.Put.TheVariants as put
use Rattle.srcp_driver.specs.declared.event.Tell.TheVariants as tell
use Rattle.srcp_driver.proofs.Same.{picks}

-- what may be noted of a locomotive, and of the power
abbrev pub seen : Cab → Noted
seen cab = record {
  row = cab.row;
  command = cab.command;
  is_held = cab.is_held;
  asked = cab.asked;
  is_refused = cab.is_refused;
  is_named = cab.is_named;
  told = cab.told;
}

abbrev pub power_seen : Power → NotedPower
power_seen p = record {
  row = p.row;
  command = p.is_on;
  asked = p.asked;
  told = p.told;
  awaited = p.awaited;
  told_at = p.told_at;
}

-- this is noted of the locomotive, and of the power
abbrev pub IsSeen : Noted → Cab → Type 0
IsSeen k cab = k ≡ seen cab

abbrev IsPowerSeen : NotedPower → Power → Type 0
IsPowerSeen k p = k ≡ power_seen p

-- ---- the order to the registry

said_waiting : (t : Table) (m : ℕ) (drive : Drive) (here : Bool)
    → t.waiting ≡ (if here then record t { cabs = at t.cabs m (reported drive) } else t).waiting
said_waiting t m drive true = refl
said_waiting t m drive false = refl

power_waiting : (t : Table) (on here : Bool) → t.waiting ≡ (if here then switched t on else t).waiting
power_waiting t on true = refl
power_waiting t on false = refl

refused_waiting : (t : Table) (x : Option Put) → t.waiting ≡ x → None ≡ (option_map_or (put_refused t) x t).waiting
refused_waiting t None e = sym e
refused_waiting t (Some (put.Power on)) e = refl
refused_waiting t (Some (put.Silent m is_silent)) e = refl
refused_waiting t (Some (put.Cab m drive)) e = refl

pub heard_waiting : (t : Table) (event : Event) → still_open event t.waiting ≡ (happens t event).waiting
heard_waiting t (event.Row m drive listed) = refl
heard_waiting t (event.Power on listed) = refl
heard_waiting t event.Greeted = refl
heard_waiting t event.Gone = refl
heard_waiting t event.Lost = refl
heard_waiting t event.StopAll = refl
heard_waiting t (event.Said m drive) = said_waiting t m drive t.is_here
heard_waiting t (event.SaidPower on) = power_waiting t on t.is_here
heard_waiting t (event.Moment now) = refl
heard_waiting t (event.Reply true) = refl
heard_waiting t (event.Reply false) = refused_waiting t t.waiting refl
heard_waiting t event.Joined = refl
heard_waiting t event.Ready = refl

pub ordered_waiting : (t : Table) (x : Option Tell) → t.waiting ≡ (option_map_or (noted t) x t).waiting
ordered_waiting t None = refl
ordered_waiting t (Some tell.StopAll) = refl
ordered_waiting t (Some (tell.Power on)) = refl
ordered_waiting t (Some (tell.Cab m drive)) = refl

pub put_waiting : (t : Table) (x : Option Put) → option_or x t.waiting ≡ (option_map_or (put_noted t) x t).waiting
put_waiting t None = refl
put_waiting t (Some (put.Power on)) = refl
put_waiting t (Some (put.Cab m drive)) = refl
put_waiting t (Some (put.Silent m is_silent)) = refl

-- ---- the power

power_said_of : (on : Bool) (p : Power) (cut : Bool) (x y : Option Bool)
    → (if cut then record (power_seen p) { command = false; told = Some false; awaited = None }
    else option_map_or (λ told. if is_same_way told on then record (power_seen p) { awaited = None } else power_seen p) x
    (option_map_or (λ told. record (power_seen p) { command = if is_same_way told on then p.is_on else on; told = Some on }) y
    (power_seen p)))
    ≡ power_seen (if cut then record p { is_on = false; told = Some false; awaited = None; is_late = false }
    else option_map_or (λ told. if is_same_way told on then record p { awaited = None; is_late = false } else p) x
    (option_map_or (λ told. record p { is_on = if is_same_way told on then p.is_on else on; told = Some on }) y p))
power_said_of on p true x y = refl
power_said_of on p false (Some a) y = picks IsPowerSeen (is_same_way a on) (record (power_seen p) { awaited = None }) (power_seen p)
    (record p { awaited = None; is_late = false }) p refl refl
power_said_of on p false None (Some b) = refl
power_said_of on p false None None = refl

power_said : (t : Table) (on here : Bool)
    → (if here then power_noted_said on (power_seen t.power) else power_seen t.power)
    ≡ power_seen (if here then switched t on else t).power
power_said t on true = power_said_of on t.power (is_cut on t.power) t.power.awaited t.power.told
power_said t on false = refl

power_unsaid : (t : Table) (m : ℕ) (drive : Drive) (here : Bool)
    → power_seen t.power ≡ power_seen (if here then record t { cabs = at t.cabs m (reported drive) } else t).power
power_unsaid t m drive true = refl
power_unsaid t m drive false = refl

power_refused : (t : Table) (x : Option Put) → power_seen t.power ≡ power_seen (option_map_or (put_refused t) x t).power
power_refused t None = refl
power_refused t (Some (put.Power on)) = refl
power_refused t (Some (put.Silent m is_silent)) = refl
power_refused t (Some (put.Cab m drive)) = refl

pub power_heard_seen : (t : Table) (event : Event)
    → power_noted_heard t.is_here event (power_seen t.power) ≡ power_seen (happens t event).power
power_heard_seen t (event.Row m drive listed) = refl
power_heard_seen t (event.Power on listed) = refl
power_heard_seen t event.Greeted = refl
power_heard_seen t event.Gone = refl
power_heard_seen t event.Lost = refl
power_heard_seen t event.StopAll = refl
power_heard_seen t (event.Said m drive) = power_unsaid t m drive t.is_here
power_heard_seen t (event.SaidPower on) = power_said t on t.is_here
power_heard_seen t (event.Moment now) =
    picks IsPowerSeen (is_some t.power.awaited && has_passed confirms t.power.told_at now) (record (power_seen t.power) { told = None })
    (power_seen t.power) (record t.power { told = None; is_late = true }) t.power refl refl
power_heard_seen t (event.Reply true) = refl
power_heard_seen t (event.Reply false) = power_refused t t.waiting
power_heard_seen t event.Joined = refl
power_heard_seen t event.Ready = refl

pub power_ordered_seen : (t : Table) (x : Option Tell)
    → power_noted_told t.clock x (power_seen t.power) ≡ power_seen (option_map_or (noted t) x t).power
power_ordered_seen t None = refl
power_ordered_seen t (Some tell.StopAll) = refl
power_ordered_seen t (Some (tell.Power on)) = refl
power_ordered_seen t (Some (tell.Cab m drive)) = refl

pub power_put_seen : (t : Table) (x : Option Put)
    → power_noted_asked x (power_seen t.power) ≡ power_seen (option_map_or (put_noted t) x t).power
power_put_seen t None = refl
power_put_seen t (Some (put.Power on)) = refl
power_put_seen t (Some (put.Cab m drive)) = refl
power_put_seen t (Some (put.Silent m is_silent)) = refl
