-- What events and orders alone say of what is commanded, and of what the registry was asked: of each locomotive, and of
-- the power. Each list has the newest event first.
use Rattle.std.specs.Prelude.{ℕ, ◌==◌, Bool, true, false, not, ◌&&◌, ◌||◌, Option, Some, None, List, [], ◌∷◌}
use Rattle.std.specs.Prelude.{if◌then◌else◌, is_none, is_some}
use Rattle.std.specs.Option.{option_map_or, option_or}
use Rattle.srcp_driver.specs.Cabs.{confirms, has_passed}
use Rattle.srcp_driver.specs.Drives.{drives, is_alike, is_same, is_same_way, is_value}
use Rattle.srcp_driver.specs.Powers.{is_told}
use Rattle.srcp_driver.specs.Runs.{Known, Made, is_here, known, moment, order, told_so}
use Rattle.srcp_driver.specs.Steps.{next_put}
use Rattle.srcp_driver.specs.declared.drive.Drive.{Drive}
use Rattle.srcp_driver.specs.declared.drive.Speed.TheVariants as speed
use Rattle.srcp_driver.specs.declared.event.Event.{Event}
use Rattle.srcp_driver.specs.declared.event.Event.TheVariants as event
use Rattle.srcp_driver.specs.declared.event.Put.{Put}
use Rattle.srcp_driver.specs.declared.event.Put.TheVariants as put
use Rattle.srcp_driver.specs.declared.event.Tell.{Tell}
use Rattle.srcp_driver.specs.declared.event.Tell.TheVariants as tell

-- ---- the registry

-- what the registry is asked once an event came
abbrev pub asks : Made → List Event → Event → Option Put
asks made past event = next_put (told_so made past event)

-- a reply ends the waiting for one, and so does a new session
abbrev pub still_open : Event → Option Put → Option Put
still_open (event.Reply accepted) asked = None
still_open event.Joined asked = None
still_open other asked = asked

-- what the registry was asked and has not replied to
abbrev pub unreplied : Made → List Event → Option Put
unreplied made [] = None
unreplied made (event ∷ past) = option_or (asks made past event) (still_open event (unreplied made past))

-- ---- the power

-- of the power: what its row says; what was commanded last, which is off after a loss; what the registry was asked to
-- set the row to, until the row says so; what the station was told last, unless that may be lost, or something was
-- lost since; what the station was told, until it has reported that; and at which moment
pub record NotedPower : Type 0 where
  pub row : Bool
  pub command : Bool
  pub asked : Option Bool
  pub told : Option Bool
  pub awaited : Option Bool
  pub told_at : ℕ

abbrev pub power_blank : NotedPower
power_blank =
    record { row = false; command = false; asked = None; told = None; awaited = None; told_at = 0 }

-- a hand switches the power off: it was told to be on, and the station reports that it is off
abbrev pub is_hand_off : NotedPower → Bool → Bool
is_hand_off noted on =
    not on && (is_told noted.awaited true || (is_none noted.awaited && is_told noted.told true))

-- a row says this: it counts unless it is listed, or the station is away, or it answers what the registry was asked
abbrev pub power_noted_row : Bool → Bool → NotedPower → NotedPower
power_noted_row on old noted = record noted {
  row = on;
  command = if on && is_told noted.asked true then noted.command else on && not old;
  asked = if is_told noted.asked on then None else noted.asked;
}

-- a report counts once the station has reported what it was told, and at once if a hand switches the power off
abbrev pub power_noted_said : Bool → NotedPower → NotedPower
power_noted_said on noted = if is_hand_off noted on
    then record noted { command = false; told = Some false; awaited = None }
    else option_map_or (λ told. if is_same_way told on then record noted { awaited = None } else noted) noted.awaited
    (option_map_or
    (λ told. record noted { command = if is_same_way told on then noted.command else on; told = Some on })
    noted.told noted)

abbrev pub power_noted_heard : Bool → Event → NotedPower → NotedPower
power_noted_heard here (event.Power on listed) noted = power_noted_row on (listed || not here) noted
power_noted_heard here event.Greeted noted = record noted { command = false; told = None; awaited = None }
power_noted_heard here event.Gone noted = record noted { command = false; told = None; awaited = None }
power_noted_heard here event.Lost noted = record noted { command = false; told = None }
power_noted_heard here (event.SaidPower on) noted = if here then power_noted_said on noted else noted
power_noted_heard here (event.Moment now) noted =
    if is_some noted.awaited && has_passed confirms noted.told_at now then record noted { told = None } else noted
power_noted_heard here event.Joined noted = record noted { asked = None }
power_noted_heard here other noted = noted

abbrev pub power_noted_told : ℕ → Option Tell → NotedPower → NotedPower
power_noted_told now (Some (tell.Power on)) noted = record noted { told = Some on; awaited = Some on; told_at = now }
power_noted_told now other noted = noted

abbrev pub power_noted_asked : Option Put → NotedPower → NotedPower
power_noted_asked (Some (put.Power on)) noted = record noted { asked = Some on }
power_noted_asked other noted = noted

abbrev pub power_noted : Made → List Event → NotedPower
power_noted made [] = power_blank
power_noted made (event ∷ past) = power_noted_asked (asks made past event)
    (power_noted_told (moment (event ∷ past)) (order made past event)
    (power_noted_heard (is_here past) event (power_noted made past)))

-- .. as one event more came, before the orders that follow it
abbrev pub power_notes : Made → List Event → Event → NotedPower
power_notes made past event = power_noted_heard (is_here past) event (power_noted made past)

-- .. and before the registry is asked
abbrev pub power_told_so : Made → List Event → Event → NotedPower
power_told_so made past event =
    power_noted_told (moment (event ∷ past)) (order made past event) (power_notes made past event)

-- all rest after this event: something is lost, or a hand switches the power off
abbrev pub is_cut_off : Made → List Event → Event → Bool
is_cut_off made past (event.SaidPower on) = is_here past && is_hand_off (power_noted made past) on
is_cut_off made past other = false

-- ---- a locomotive

-- of a locomotive: what its row says; what was commanded last since the last loss; whether its row drove at a loss, or
-- was listed as driving, and has not rested since; what the registry was asked to set the row to, until the row says
-- so; whether the registry has refused that; whether it was asked last to say that the locomotive is silent; and what
-- the station was told or has reported last, unless that may be lost, or the locomotive was to rest since
pub record Noted : Type 0 where
  pub row : Drive
  pub command : Option Drive
  pub is_held : Bool
  pub asked : Option Drive
  pub is_refused : Bool
  pub is_named : Bool
  pub told : Option Drive

abbrev pub nothing_noted : Noted
nothing_noted = record {
  row = record { speed = speed.Stand; is_forward = true };
  command = None;
  is_held = false;
  asked = None;
  is_refused = false;
  is_named = false;
  told = None;
}

-- the same, but at rest. What is noted has definitions of its own, so that a law refuses an edit of the table's
abbrev pub at_rest : Drive → Drive
at_rest drive = if drives drive then record drive { speed = speed.Stand } else drive

-- what the locomotive is to do: what was commanded last, or else to rest
abbrev pub to_do : Noted → Drive
to_do noted = option_map_or (λ drive. drive) noted.command (at_rest noted.row)

-- a row that drives as the registry was asked answers that
abbrev pub is_answer : Drive → Noted → Bool
is_answer drive noted = drives drive && is_value noted.asked drive

-- a row that drives does not count: it is listed, or the station is away; or its row drove at a loss and has not rested
-- since, unless the registry has refused to set that, and the row now says something else
abbrev pub is_denied : Drive → Bool → Noted → Bool
is_denied drive old noted =
    drives drive && (old || (noted.is_held && (not noted.is_refused || is_same noted.row drive)))

abbrev pub noted_answer : Drive → Noted → Noted
noted_answer drive noted = record noted { row = drive; asked = None; is_refused = false }

abbrev pub noted_command : Drive → Bool → Noted → Noted
noted_command drive denied noted = record noted {
  row = drive;
  command = if denied then None else Some drive;
  is_held = denied;
  asked = if is_value noted.asked drive then None else noted.asked;
  is_refused = false;
  told = if drives drive then noted.told else None;
}

abbrev pub noted_row : Drive → Bool → Noted → Noted
noted_row drive old noted =
    if is_answer drive noted then noted_answer drive noted else noted_command drive (is_denied drive old noted) noted

-- something is lost: nothing is commanded any more
abbrev pub noted_lost : Noted → Noted
noted_lost noted =
    record noted { command = None; is_held = noted.is_held || drives noted.row; is_refused = false; told = None }

-- a hand throttle commands this
abbrev pub noted_hand : Drive → Noted → Noted
noted_hand drive noted = record noted { command = Some drive; is_refused = false; told = Some drive }

-- a report counts once the station has reported what it was told, if it says something else
abbrev pub noted_said : Known → Drive → Noted → Noted
noted_said known drive noted =
    if is_some known.awaited
    then noted
    else option_map_or (λ told. if is_alike told drive then noted else noted_hand drive noted) noted.told noted

-- the registry refuses what it was asked
abbrev pub noted_refused : ℕ → Option Put → Noted → Noted
noted_refused n (Some (put.Cab m drive)) noted = if n == m
    then record noted {
      command = if is_value noted.command drive then None else noted.command;
      asked = None;
      is_refused = true;
    }
    else noted
noted_refused n other noted = noted

-- an event, with what was known as it came
abbrev pub noted_heard : Made → ℕ → List Event → Event → Noted → Noted
noted_heard made n past (event.Row m drive listed) noted =
    if n == m then noted_row drive (listed || not (is_here past)) noted else noted
noted_heard made n past event.Greeted noted = noted_lost noted
noted_heard made n past event.Gone noted = noted_lost noted
noted_heard made n past event.Lost noted = noted_lost noted
noted_heard made n past event.StopAll noted = noted_lost noted
noted_heard made n past (event.Said m drive) noted =
    if is_here past && (n == m) then noted_said (known made n past) drive noted else noted
noted_heard made n past (event.SaidPower on) noted =
    if is_cut_off made past (event.SaidPower on) then noted_lost noted else noted
noted_heard made n past (event.Moment now) noted =
    if is_some (known made n past).awaited && has_passed confirms (known made n past).told_at now
    then record noted { told = None }
    else noted
noted_heard made n past (event.Reply false) noted = noted_refused n (unreplied made past) noted
noted_heard made n past event.Joined noted =
    record noted { asked = None; is_refused = false; is_named = false }
noted_heard made n past other noted = noted

abbrev pub noted_told : ℕ → Option Tell → Noted → Noted
noted_told n (Some (tell.Cab m drive)) noted = if n == m then record noted { told = Some drive } else noted
noted_told n other noted = noted

abbrev pub noted_asked : ℕ → Option Put → Noted → Noted
noted_asked n (Some (put.Cab m drive)) noted = if n == m then record noted { asked = Some drive } else noted
noted_asked n (Some (put.Silent m is_silent)) noted = if n == m then record noted { is_named = is_silent } else noted
noted_asked n other noted = noted

abbrev pub noted_by : Made → ℕ → List Event → Noted
noted_by made n [] = nothing_noted
noted_by made n (event ∷ past) = noted_asked n (asks made past event)
    (noted_told n (order made past event) (noted_heard made n past event (noted_by made n past)))

-- .. as one event more came, before the orders that follow it
abbrev pub notes : Made → ℕ → List Event → Event → Noted
notes made n past event = noted_heard made n past event (noted_by made n past)

-- .. and before the registry is asked
abbrev pub noted_so : Made → ℕ → List Event → Event → Noted
noted_so made n past event = noted_told n (order made past event) (notes made n past event)
