-- What holds of commands after every list of events: they are told, and the registry says them. Each list has the
-- newest event first.
use Rattle.std.specs.Prelude.{◌≡◌, ◌≢◌, ◌⊎◌, ℕ, ◌==◌, ◌<◌, Bool, true, false, not, ◌&&◌, Some, None}
use Rattle.std.specs.Prelude.{List, ◌∷◌, ◌++◌, is_some}
use Rattle.srcp_driver.specs.Cabs.{has_passed, silence}
use Rattle.srcp_driver.specs.Drives.{drives, is_alike, is_same}
use Rattle.srcp_driver.specs.Laws.{AreNo, is_rest}
use Rattle.srcp_driver.specs.Noted.{Noted, NotedPower, asks, is_answer, noted_by, notes, power_noted, power_notes}
use Rattle.srcp_driver.specs.Noted.{noted_so, power_told_so, still_open, to_do, unreplied}
use Rattle.srcp_driver.specs.Powers.{is_told}
use Rattle.srcp_driver.specs.Runs.{Known, Made, has_room, is_here, is_loss, is_power_loss, known, knows, moment}
use Rattle.srcp_driver.specs.Runs.{on_at, order}
use Rattle.srcp_driver.specs.declared.drive.Drive.{Drive}
use Rattle.srcp_driver.specs.declared.event.Event.{Event}
use Rattle.srcp_driver.specs.declared.event.Event.TheVariants as event
use Rattle.srcp_driver.specs.declared.event.Put.{Put}
use Rattle.srcp_driver.specs.declared.event.Put.TheVariants as put
use Rattle.srcp_driver.specs.declared.event.Tell.TheVariants as tell

-- ---- the track

-- the station was told or has reported last what is commanded, or has not confirmed what it was told before
abbrev pub IsTold : Noted → Known → Type 0
IsTold noted known = (noted.told ≡ Some (to_do noted)) ⊎ (is_some known.awaited ≡ true)

-- a stop is not confirmed, of a locomotive that was not silent as the power was switched on
pub record Awaits (made : Made) (past : List Event) (event : Event) : Type 0 where
  pub n : ℕ
  pub within : n < made.count
  pub unconfirmed : is_rest (knows made n past event).awaited ≡ true
  pub heard : has_passed silence (knows made n past event).since (on_at (event ∷ past)) ≡ false

-- the power was told to be as it is commanded, or that is not confirmed, or a stop is not
abbrev pub IsPowered : Made → List Event → Event → NotedPower → Type 0
IsPowered made past event noted =
    (noted.told ≡ Some noted.command) ⊎ ((is_some noted.awaited ≡ true) ⊎ Awaits made past event)

-- the track is as it is commanded: each locomotive, and the power
pub record IsTrack (made : Made) (past : List Event) (event : Event) : Type 0 where
  pub cabs : (n : ℕ) → n < made.count → IsTold (notes made n past event) (knows made n past event)
  pub power : IsPowered made past event (power_notes made past event)

-- nothing is left to tell, though an order may go
pub record IsDone (made : Made) (past : List Event) (event : Event) : Type 0 where
  pub here : is_here (event ∷ past) ≡ true
  pub room : has_room made past event ≡ true
  pub none : order made past event ≡ None

-- once nothing is left to tell, the track is as it is commanded
abbrev pub TrackIsCommanded : Type 0
TrackIsCommanded = (made : Made) (past : List Event) (event : Event) → IsDone made past event → IsTrack made past event

-- what a locomotive is to do and was not told has something told, once the station has confirmed what it was told
abbrev pub Answers : Type 0
Answers = (made : Made) (past : List Event) (event : Event) (n : ℕ) → n < made.count → is_here (event ∷ past) ≡ true
    → has_room made past event ≡ true → (knows made n past event).awaited ≡ None
    → (knows made n past event).does ≢ Some (to_do (notes made n past event)) → is_some (order made past event) ≡ true

-- an order says something else than what the station was told or has reported last, unless that may be lost, or
-- something was lost since
pub record IsNew (made : Made) (past : List Event) (event : Event) : Type 0 where
  pub cabs : (n : ℕ) (drive : Drive) → order made past event ≡ Some (tell.Cab n drive)
      → (notes made n past event).told ≢ Some drive
  pub power : (on : Bool) → order made past event ≡ Some (tell.Power on) → (power_notes made past event).told ≢ Some on

-- nothing is told twice
abbrev pub NothingTwice : Type 0
NothingTwice = (made : Made) (past : List Event) (event : Event) → IsNew made past event

-- ---- commands count

-- an event may end what a locomotive was commanded to do: a row, another report, a loss, or a refusal
abbrev pub may_end : ℕ → Drive → Event → Bool
may_end n drive (event.Row m other listed) = n == m
may_end n drive (event.Said m other) = (n == m) && not (is_same other drive)
may_end n drive (event.SaidPower on) = not on
may_end n drive (event.Reply accepted) = not accepted
may_end n drive other = is_loss other

-- each order for a locomotive tells it to do this; and once nothing is left to tell, it was told last to do so, or that
-- is not confirmed
pub record IsObeyed (made : Made) (n : ℕ) (drive : Drive) (past : List Event) (newest : Event) : Type 0 where
  pub told : (other : Drive) → order made past newest ≡ Some (tell.Cab n other) → other ≡ drive
  pub track : IsDone made past newest
      → ((knows made n past newest).does ≡ Some drive) ⊎ (is_some (knows made n past newest).awaited ≡ true)

-- so it is from an event on, until another may end that
abbrev pub Counts : Made → ℕ → Drive → (Event → Bool) → List Event → Event → Type 0
Counts made n drive ends before command = (since : List Event) (newest : Event) → AreNo ends (newest ∷ since)
    → IsObeyed made n drive (since ++ command ∷ before) newest

-- a row of a locomotive counts while the station is there, unless it is listed, answers what the registry was asked, or
-- the locomotive is held: its row drove at a loss, and has not rested since
abbrev pub RowsCount : Type 0
RowsCount = (made : Made) (before : List Event) (n : ℕ) (drive : Drive) → n < made.count → is_here before ≡ true
    → is_answer drive (noted_by made n before) ≡ false → (noted_by made n before).is_held ≡ false
    → Counts made n drive (may_end n drive) before (event.Row n drive false)

-- another row, or another report
abbrev pub may_differ : ℕ → Drive → Event → Bool
may_differ n drive (event.Row m other listed) = n == m
may_differ n drive (event.Said m other) = (n == m) && not (is_same other drive)
may_differ n drive other = false

-- a row that rests counts always, after losses too
abbrev pub RestsCount : Type 0
RestsCount = (made : Made) (before : List Event) (n : ℕ) (drive : Drive) (listed : Bool) → n < made.count
    → drives drive ≡ false → Counts made n drive (may_differ n drive) before (event.Row n drive listed)

-- a report counts once the station has reported what it was told, if it says something else
abbrev pub HandsCount : Type 0
HandsCount = (made : Made) (before : List Event) (n : ℕ) (drive told : Drive) → n < made.count → is_here before ≡ true
    → (known made n before).awaited ≡ None → (noted_by made n before).told ≡ Some told → is_alike told drive ≡ false
    → Counts made n drive (may_end n drive) before (event.Said n drive)

-- an event may end that the power is commanded to be on
abbrev pub may_cut : Event → Bool
may_cut (event.Power on listed) = true
may_cut (event.SaidPower on) = not on
may_cut other = is_power_loss other

-- the power is not told to be off; and once nothing is left to tell, it was told last to be on, or that is not
-- confirmed, or a stop is not
pub record IsOn (made : Made) (past : List Event) (newest : Event) : Type 0 where
  pub told : order made past newest ≢ Some (tell.Power false)
  pub track : IsDone made past newest → ((power_notes made past newest).told ≡ Some true)
      ⊎ ((is_some (power_notes made past newest).awaited ≡ true) ⊎ Awaits made past newest)

-- a row that switches the power on counts while the station is there, unless it is listed, or answers what the
-- registry was asked
abbrev pub SwitchingOnCounts : Type 0
SwitchingOnCounts = (made : Made) (before since : List Event) (newest : Event) → is_here before ≡ true
    → is_told (power_noted made before).asked true ≡ false → AreNo may_cut (newest ∷ since)
    → IsOn made (since ++ event.Power true false ∷ before) newest

-- ---- the registry

-- the station has confirmed nothing that it was told of a locomotive for two seconds, by a moment
abbrev pub is_unheard : Known → ℕ → Bool
is_unheard known now = is_some known.awaited && has_passed silence known.since now

-- the row says what the locomotive is to do; or the registry was asked to set it, or has refused that
abbrev pub IsRow : Noted → Type 0
IsRow noted = (noted.row ≡ to_do noted) ⊎ ((is_some noted.asked ≡ true) ⊎ (noted.is_refused ≡ true))

-- the registry says what the track does: of each locomotive, and whether the locomotive is silent; and of the power
pub record IsRegistry (made : Made) (past : List Event) : Type 0 where
  pub row : (n : ℕ) → n < made.count → IsRow (noted_by made n past)
  pub silent : (n : ℕ) → n < made.count
      → is_unheard (known made n past) (moment past) ≡ (noted_by made n past).is_named
  pub power : ((power_noted made past).row ≡ (power_noted made past).command)
      ⊎ (is_some (power_noted made past).asked ≡ true)

-- so it is once nothing is left to ask and no reply is waited for
abbrev pub RegistryIsTrack : Type 0
RegistryIsTrack = (made : Made) (past : List Event) (event : Event) → asks made past event ≡ None
    → unreplied made (event ∷ past) ≡ None → IsRegistry made (event ∷ past)

-- ---- what the registry is asked

-- the registry is asked to set a row to what is commanded, if the row says something else, and once
pub record IsToAsk (noted : Noted) (drive : Drive) : Type 0 where
  pub commanded : drive ≡ to_do noted
  pub row : noted.row ≢ drive
  pub asked : noted.asked ≡ None
  pub refused : noted.is_refused ≡ false

pub record IsToSwitch (noted : NotedPower) (on : Bool) : Type 0 where
  pub commanded : on ≡ noted.command
  pub row : noted.row ≢ on
  pub asked : noted.asked ≡ None

-- so it is with each locomotive and the power, one order at a time; and what the registry says of a locomotive that is
-- silent, or is not any more, is new
pub record IsAsked (made : Made) (past : List Event) (event : Event) (asked : Put) : Type 0 where
  pub free : still_open event (unreplied made past) ≡ None
  pub cabs : (n : ℕ) (drive : Drive) → asked ≡ put.Cab n drive → IsToAsk (noted_so made n past event) drive
  pub power : (on : Bool) → asked ≡ put.Power on → IsToSwitch (power_told_so made past event) on
  pub silent : (n : ℕ) (is_silent : Bool) → asked ≡ put.Silent n is_silent
      → (is_silent ≡ is_unheard (known made n (event ∷ past)) (moment (event ∷ past)))
      × ((noted_so made n past event).is_named ≢ is_silent)

abbrev pub AsksAreCommanded : Type 0
AsksAreCommanded = (made : Made) (past : List Event) (event : Event) (asked : Put) → asks made past event ≡ Some asked
    → IsAsked made past event asked
