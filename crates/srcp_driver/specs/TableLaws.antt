-- What the laws of commands say of the table itself, after every list of events. Each list has the newest event first.
use Rattle.std.specs.Prelude.{false, is_some, List, None, slice_get, Some, true, ℕ, ◌++◌, ◌∷◌, ◌≡◌, ◌≢◌, ◌⊎◌}
use Rattle.std.specs.Option.{option_map_or}
use Rattle.srcp_driver.specs.Cabs.{has_passed, is_own, is_silent, silence, wanted}
use Rattle.srcp_driver.specs.Drives.{is_alike}
use Rattle.srcp_driver.specs.Laws.{AreEchoes, AreNo, IsEcho, is_rest, switches_on}
use Rattle.srcp_driver.specs.Powers.{is_cut, is_told}
use Rattle.srcp_driver.specs.Runs.{Made, course, has_room, heard, is_here, knows, order, told_so}
use Rattle.srcp_driver.specs.Steps.{Table, next_put}
use Rattle.srcp_driver.specs.declared.cab.Cab.{Cab}
use Rattle.srcp_driver.specs.declared.drive.Drive.{Drive}
use Rattle.srcp_driver.specs.declared.event.Event.{Event}
use Rattle.srcp_driver.specs.declared.event.Event.TheVariants as event
use Rattle.srcp_driver.specs.declared.event.Tell.TheVariants as tell

-- ---- commands

-- a row that counts is what the locomotive is to do
abbrev pub RowsAreWanted : Type 0
RowsAreWanted = (made : Made) (past : List Event) (n : ℕ) (drive : Drive) (before now : Cab) → is_here past ≡ true
    → slice_get (course made past).cabs n ≡ Some before → is_own before.asked drive ≡ false → before.is_held ≡ false
    → slice_get (heard made past (event.Row n drive false)).cabs n ≡ Some now → wanted now ≡ drive

-- so is a report that counts
abbrev pub HandsAreWanted : Type 0
HandsAreWanted = (made : Made) (past : List Event) (n : ℕ) (drive : Drive) (before now : Cab) → is_here past ≡ true
    → slice_get (course made past).cabs n ≡ Some before → before.awaited ≡ None
    → option_map_or (λ told. is_alike told drive) before.told true ≡ false
    → slice_get (heard made past (event.Said n drive)).cabs n ≡ Some now → wanted now ≡ drive

-- after a row that switches the power on, and counts, the power is to be on
abbrev pub OnIsWanted : Type 0
OnIsWanted = (made : Made) (past : List Event) → is_here past ≡ true
    → is_told (course made past).power.asked true ≡ false
    → (heard made past (event.Power true false)).power.is_on ≡ true

-- once a hand has switched the power off at the station, power is told to be on only if somebody switches it on
abbrev pub OffIsWanted : Type 0
OffIsWanted = (made : Made) (before since : List Event) (newest : Event) → is_here before ≡ true
    → is_cut false (course made before).power ≡ true → AreNo switches_on (newest ∷ since)
    → order made (since ++ event.SaidPower false ∷ before) newest ≢ Some (tell.Power true)

-- an echo changes nothing of what the locomotive is to do
abbrev pub EchoIsNotWanted : Type 0
EchoIsNotWanted = (made : Made) (past : List Event) (n : ℕ) (drive : Drive) (before now : Cab) → AreEchoes made past
    → IsEcho made past (event.Said n drive) → slice_get (course made past).cabs n ≡ Some before
    → slice_get (heard made past (event.Said n drive)).cabs n ≡ Some now → wanted now ≡ wanted before

-- ---- the track

-- the station was told what the locomotive is to do, or has not confirmed what it was told before
abbrev pub IsCabTold : Cab → Type 0
IsCabTold cab = (cab.told ≡ Some (wanted cab)) ⊎ (is_some cab.awaited ≡ true)

-- a stop is not confirmed, of a locomotive that was not silent as the power was switched on
pub record IsStopping (t : Table) : Type 0 where
  pub n : ℕ
  pub cab : Cab
  pub is : slice_get t.cabs n ≡ Some cab
  pub unconfirmed : is_rest cab.awaited ≡ true
  pub heard : has_passed silence cab.since t.power.on_at ≡ false

-- each locomotive was told what it is to do, and so was the power, but for what the station has not confirmed
pub record IsTableTold (t : Table) : Type 0 where
  pub cabs : (n : ℕ) (cab : Cab) → slice_get t.cabs n ≡ Some cab → IsCabTold cab
  pub power : (t.power.told ≡ Some t.power.is_on) ⊎ ((is_some t.power.awaited ≡ true) ⊎ IsStopping t)

-- so it is once nothing is left to tell
abbrev pub TableIsTold : Type 0
TableIsTold = (made : Made) (past : List Event) (event : Event) → is_here (event ∷ past) ≡ true
    → has_room made past event ≡ true → order made past event ≡ None → IsTableTold (heard made past event)

-- what a locomotive is to do and was not told has something told, once the station has confirmed what it was told
abbrev pub TableAnswers : Type 0
TableAnswers = (made : Made) (past : List Event) (event : Event) (n : ℕ) (cab : Cab) → is_here (event ∷ past) ≡ true
    → has_room made past event ≡ true → slice_get (heard made past event).cabs n ≡ Some cab
    → (knows made n past event).awaited ≡ None → (knows made n past event).does ≢ Some (wanted cab)
    → is_some (order made past event) ≡ true

-- ---- the registry

-- the row says what the locomotive is to do; or the registry was asked to set it, or has refused that
abbrev pub IsCabRow : Cab → Type 0
IsCabRow cab = (cab.row ≡ wanted cab) ⊎ ((is_some cab.asked ≡ true) ⊎ (cab.is_refused ≡ true))

-- so it is once nothing is left to ask and no reply is waited for; and the registry says which locomotives are silent
pub record IsCabAsked (t : Table) (cab : Cab) : Type 0 where
  pub row : IsCabRow cab
  pub silent : is_silent t.clock cab ≡ cab.is_named

abbrev pub TableIsAsked : Type 0
TableIsAsked = (made : Made) (past : List Event) (event : Event) (n : ℕ) (cab : Cab)
    → next_put (told_so made past event) ≡ None → (told_so made past event).waiting ≡ None
    → slice_get (told_so made past event).cabs n ≡ Some cab → IsCabAsked (told_so made past event) cab
