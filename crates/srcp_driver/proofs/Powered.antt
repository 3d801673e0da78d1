-- A row that switches the power on counts, until another event may end that.
use Rattle.std.proofs.Common.{◌&&◌, ◌++◌, [], ap, Bool, false, inl, inr, List, None, not, Option, refl, Some, sym, true}
use Rattle.std.proofs.Common.{ℕ, ◌∙◌, ◌∷◌, ◌≡◌, ◌⊎◌}
use Rattle.std.specs.Option.{option_map_or}
use Rattle.std.specs.Prelude.{if◌then◌else◌, is_some, ◌||◌}
use Rattle.srcp_driver.specs.Cabs.{confirms, has_passed}
use Rattle.srcp_driver.specs.CommandLaws.{Awaits, IsPowered, may_cut, SwitchingOnCounts}
use Rattle.srcp_driver.specs.Drives.{is_same_way}
use Rattle.srcp_driver.specs.Laws.{AreNo}
use Rattle.srcp_driver.specs.Noted.{asks, NotedPower, power_noted, power_noted_asked, power_noted_heard, power_noted_said, power_noted_told}
use Rattle.srcp_driver.specs.Noted.{power_notes}
use Rattle.srcp_driver.specs.Powers.{is_told}
use Rattle.srcp_driver.specs.TableLaws.{OnIsWanted}
use Rattle.srcp_driver.specs.Runs.{heard, is_here, Made, moment, order}
use Rattle.srcp_driver.specs.declared.event.Event.{Event}
use Rattle.srcp_driver.specs.declared.event.Put.{Put}
use Rattle.srcp_driver.specs.declared.event.Tell.{Tell}
use Rattle.srcp_driver.specs.declared.power.Power.{Power}
use Rattle.srcp_driver.specs.declared.event.Event.TheVariants as event
use Rattle.srcp_driver.specs.declared.event.Put.TheVariants as put
use Rattle.srcp_driver.specs.declared.event.Tell.TheVariants as tell
use Rattle.srcp_driver.proofs.Chosen.{order_off}
use Rattle.srcp_driver.proofs.Notes.{all_seen, seen_by}
use Rattle.srcp_driver.proofs.Same.{pick}
use Rattle.srcp_driver.proofs.Tracks.{track_is_commanded}

abbrev IsOnNow : NotedPower → Type 0
IsOnNow noted = noted.command ≡ true

said_on_of : (noted : NotedPower) (x y : Option Bool) → noted.command ≡ true
    → (option_map_or (λ told. if is_same_way told true then record noted { awaited = None } else noted) x
    (option_map_or (λ told. record noted { command = if is_same_way told true then noted.command else true; told = Some true }) y
    noted)).command ≡ true
said_on_of noted (Some a) y e = pick IsOnNow (is_same_way a true) (record noted { awaited = None }) noted e e
said_on_of noted None (Some true) e = e
said_on_of noted None (Some false) e = refl
said_on_of noted None None e = e

said_on : (here on : Bool) (noted : NotedPower) → not on ≡ false → noted.command ≡ true
    → (if here then power_noted_said on noted else noted).command ≡ true
said_on true true noted denied e = said_on_of noted noted.awaited noted.told e
said_on true false noted denied e = absurd (cc)
said_on false on noted denied e = e

heard_on : (here : Bool) (event : Event) (noted : NotedPower) → may_cut event ≡ false → noted.command ≡ true
    → (power_noted_heard here event noted).command ≡ true
heard_on here (event.Row m drive listed) noted denied e = e
heard_on here (event.Power on listed) noted denied e = absurd (cc)
heard_on here event.Greeted noted denied e = absurd (cc)
heard_on here event.Gone noted denied e = absurd (cc)
heard_on here event.Lost noted denied e = absurd (cc)
heard_on here event.StopAll noted denied e = e
heard_on here (event.Said m drive) noted denied e = e
heard_on here (event.SaidPower on) noted denied e = said_on here on noted denied e
heard_on here (event.Moment now) noted denied e = pick IsOnNow (is_some noted.awaited && has_passed confirms noted.told_at now)
    (record noted { told = None }) noted e e
heard_on here (event.Reply accepted) noted denied e = e
heard_on here event.Joined noted denied e = e
heard_on here event.Ready noted denied e = e

told_on : (now : ℕ) (x : Option Tell) (noted : NotedPower) → noted.command ≡ true → (power_noted_told now x noted).command ≡ true
told_on now None noted e = e
told_on now (Some tell.StopAll) noted e = e
told_on now (Some (tell.Power on)) noted e = e
told_on now (Some (tell.Cab m drive)) noted e = e

asked_on : (x : Option Put) (noted : NotedPower) → noted.command ≡ true → (power_noted_asked x noted).command ≡ true
asked_on None noted e = e
asked_on (Some (put.Power on)) noted e = e
asked_on (Some (put.Cab m drive)) noted e = e
asked_on (Some (put.Silent m is_silent)) noted e = e

after_on : (made : Made) (past : List Event) (event : Event) → (power_notes made past event).command ≡ true
    → (power_noted made (event ∷ past)).command ≡ true
after_on made past event e = asked_on (asks made past event)
    (power_noted_told (moment (event ∷ past)) (order made past event) (power_notes made past event))
    (told_on (moment (event ∷ past)) (order made past event) (power_notes made past event) e)

since_on : (made : Made) (before since : List Event) (command : Event) → (power_notes made before command).command ≡ true
    → AreNo may_cut since → (power_noted made (since ++ command ∷ before)).command ≡ true
since_on made before [] command first denied = after_on made before command first
since_on made before (event ∷ since) command first denied =
    let past : List Event = since ++ command ∷ before in
    after_on made past event (heard_on (is_here past) event (power_noted made past) denied.0
    (since_on made before since command first denied.1))

row_on : (own here before : Bool) → own ≡ false → here ≡ true
    → (if true && own then before else (true && not (false || not here))) ≡ true
row_on false true before o h = refl
row_on false false before o h = absurd (cc)
row_on true here before o h = absurd (cc)

pub on_is_wanted : OnIsWanted
on_is_wanted made past here own = ap (λ (k : NotedPower). k.command) (sym (all_seen made past (event.Power true false)).power)
    ∙ row_on (is_told (power_noted made past).asked true) (is_here past) (power_noted made past).command
    (ap (λ (k : NotedPower). is_told k.asked true) (seen_by made past).power ∙ own) here

cut_no : (on told may : Bool) → on ≡ true → (not on && not told && may) ≡ true → ⊥
cut_no true told may is e = absurd (cc)
cut_no false told may is e = absurd (cc)

on_told : (made : Made) (past : List Event) (event : Event) (noted : NotedPower) → noted.command ≡ true
    → IsPowered made past event noted
    → (noted.told ≡ Some true) ⊎ ((is_some noted.awaited ≡ true) ⊎ Awaits made past event)
on_told made past event noted is (inl told) = inl (told ∙ ap (λ (b : Bool). Some b) is)
on_told made past event noted is (inr waits) = inr waits

pub switching_on_counts : SwitchingOnCounts
switching_on_counts made before since newest here own denied =
    let past : List Event = since ++ event.Power true false ∷ before in
    let p : Power = (heard made past newest).power in
    let on : (power_notes made past newest).command ≡ true = heard_on (is_here past) newest (power_noted made past) denied.0
    (since_on made before since (event.Power true false) (row_on (is_told (power_noted made before).asked true) (is_here before)
    (power_noted made before).command own here) denied.1) in
    record {
      told = λ e. cut_no p.is_on (is_told p.told false) (option_map_or (λ on. p.is_late || on) p.awaited true)
          (ap (λ (k : NotedPower). k.command) (sym (all_seen made past newest).power) ∙ on)
          (order_off (heard made past newest) e);
      track = λ done. on_told made past newest (power_notes made past newest) on (track_is_commanded made past newest done).power;
    }
