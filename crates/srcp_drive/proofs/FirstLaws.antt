-- What is told first.
use Rattle.std.proofs.Common.{◌≡◌, ◌∙◌, ℕ, Bool, true, false, List, [], ◌++◌, Option, Some, None, refl, ap, arith}
use Rattle.std.specs.Prelude.{codes, is_none, is_some, not, ◌==◌}
use Rattle.std.proofs.lemmas.List.{append-nil}
use Rattle.std.proofs.Common.{append_assoc}
use Rattle.srcp_driver.specs.Steps.{step}
use Rattle.srcp_driver.specs.declared.event.Event.TheVariants as event
use Rattle.srcp_driver.specs.declared.event.Tell.{Tell}
use Rattle.srcp_driver.specs.declared.event.Tell.TheVariants as tell
use Rattle.srcp_info.specs.declared.key.Key.{Key}
use Rattle.srcp_info.specs.declared.value.Value.TheVariants.{Power}
use Rattle.srcp_stations.specs.declared.tell.Tell.TheVariants as station
use Rattle.srcp_drive.specs.Desks.{Desk, acted, changed, driven, is_listed, maybe, next, one, orders_text, power_event, power_row}
use Rattle.srcp_drive.specs.Desks.{is_only_told, row_noted, row_taken, taken}
use Rattle.srcp_drive.specs.Engines.{most_cabs}
use Rattle.srcp_drive.specs.Laws.{DriverIsFirst, StopAllIsFirst}
use Rattle.srcp_drive.specs.Orders.{put_text, told}
use Rattle.srcp_drive.proofs.Settlings.{answered_none}

-- all are told to stop as that comes
stop_told : (d : Desk) → d.driver.is_here ≡ true → (acted d event.StopAll).tell ≡ Some tell.StopAll
stop_told d here =
    let now : (step d.driver event.StopAll).tell ≡ Some tell.StopAll = rw here refl in
    ap (λ s. s.tell) (answered_none most_cabs d.engines (step d.driver event.StopAll) (omega arith) (rw now refl)) ∙ now

one_told : (d : Desk) → d.driver.is_here ≡ true → (behind : List ℕ) × ((one d event.StopAll).text ≡ told station.StopAll ++ behind)
unfolding one
one_told d here = (put_text d.bus (driven d event.StopAll).engines (acted d event.StopAll).put, rw (stop_told d here) refl)

-- so it is as the row of the power says that
row_told : (d : Desk) (listed on : Bool) → d.driver.is_here ≡ true
    → (behind : List ℕ) × ((power_row d listed on (codes "stop all")).text ≡ told station.StopAll ++ behind)
unfolding power_row
row_told d listed on here =
    let noted : Desk = record d { is_on = on } in
    let first = one_told noted here in
    let more = (maybe (one noted event.StopAll).desk (power_event listed d.is_on on (is_only_told (codes "stop all")))).text in
    (first.0 ++ more, ap (λ text. text ++ more) first.1 ∙ append_assoc (told station.StopAll) first.0 more)

taken_told : (d : Desk) (key : Key) (listed on : Bool) → d.driver.is_here ≡ true
    → (behind : List ℕ) × ((row_taken d key listed (Power on (codes "stop all"))).text ≡ told station.StopAll ++ behind)
unfolding row_taken
taken_told d key listed on here = row_told d listed on here

noted_told : (d : Desk) (key : Key) (listed on : Bool) → d.driver.is_here ≡ true → key.bus ≡ d.bus
    → (behind : List ℕ) × ((row_noted d key listed (Power on (codes "stop all"))).text ≡ told station.StopAll ++ behind)
unfolding row_noted
noted_told d key true on here same =
    let is : (key.bus == d.bus) ≡ true = grind (arith, same) in rw is (taken_told (record d { last_row = Some key }) key true on here)
noted_told d key false on here same = let is : (key.bus == d.bus) ≡ true = grind (arith, same) in rw is (taken_told d key false on here)

pub stop_all_is_first : StopAllIsFirst
unfolding taken changed
stop_all_is_first d key stamp on here same = noted_told d key (is_listed d.last_row key) on here same

-- something is told, or nothing
none_not_some : (tell : Option Tell) → is_none tell ≡ not (is_some tell)
none_not_some (Some tell) = refl
none_not_some None = refl

pub driver_is_first : DriverIsFirst
unfolding next
driver_is_first d some =
    let orders = acted d event.Ready in
    let text = orders_text (driven d event.Ready) orders.tell orders.put in
    rw (none_not_some orders.tell, some) (append-nil (text ++ []) ∙ append-nil text)
