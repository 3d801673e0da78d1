-- Nothing is told twice.
use Rattle.std.proofs.Common.{◌&&◌, ap, Bool, false, None, not, Option, refl, Some, sym, true, ◌∙◌, ◌≡◌}
use Rattle.std.specs.Option.{option_map_or}
use Rattle.std.specs.Prelude.{◌||◌}
use Rattle.srcp_driver.specs.Cabs.{differs, wanted}
use Rattle.srcp_driver.specs.CommandLaws.{NothingTwice}
use Rattle.srcp_driver.specs.Drives.{is_same, is_same_way, is_value}
use Rattle.srcp_driver.specs.Noted.{Noted, NotedPower}
use Rattle.srcp_driver.specs.Powers.{is_told}
use Rattle.srcp_driver.specs.Runs.{heard}
use Rattle.srcp_driver.specs.Steps.{next, Table}
use Rattle.srcp_driver.specs.declared.drive.Drive.{Drive}
use Rattle.srcp_driver.specs.declared.event.Tell.TheVariants as tell
use Rattle.srcp_driver.proofs.Chosen.{order_for, order_off, order_on}
use Rattle.srcp_driver.proofs.Notes.{all_seen}
use Rattle.srcp_driver.proofs.Same.{drive_same, way_same}

value_same : (x : Option Drive) (drive : Drive) → x ≡ Some drive → is_value x drive ≡ true
value_same None drive e = absurd (cc)
value_same (Some other) drive e = let same : other ≡ drive = cc in ap (λ (d : Drive). is_same d drive) same ∙ drive_same drive

told_same : (x : Option Bool) (on : Bool) → x ≡ Some on → is_told x on ≡ true
told_same None on e = absurd (cc)
told_same (Some last) on e = let same : last ≡ on = cc in ap (λ (b : Bool). is_same_way b on) same ∙ way_same on

middle : (a b c : Bool) → (a && not b && c) ≡ true → b ≡ false
middle true true c e = absurd (cc)
middle true false c e = refl
middle false b c e = absurd (cc)

power_new : (t : Table) (on : Bool) → next t ≡ Some (tell.Power on) → is_told t.power.told on ≡ false
power_new t true e = middle t.power.is_on (is_told t.power.told true) (option_map_or (λ on. t.power.is_late) t.power.awaited true)
    (order_on t e).on
power_new t false e = middle (not t.power.is_on) (is_told t.power.told false)
    (option_map_or (λ on. t.power.is_late || on) t.power.awaited true) (order_off t e)

pub nothing_twice : NothingTwice
nothing_twice made past event =
    let t : Table = heard made past event in
    let seen = all_seen made past event in
    record {
      cabs = λ n drive e told.
          let one = order_for t n drive e in
          let same : one.cab.told ≡ Some (wanted one.cab) = ap (λ (k : Noted). k.told) (sym (seen.cabs n one.cab one.is)) ∙ told
          ∙ ap (λ (d : Drive). Some d) one.so in
          let denied : differs one.cab ≡ false = ap not (value_same one.cab.told (wanted one.cab) same) in
          let differ : differs one.cab ≡ true = one.differs in
          absurd (cc);
      power = λ on e told.
          let same : t.power.told ≡ Some on = ap (λ (k : NotedPower). k.told) (sym seen.power) ∙ told in
          let denied : is_told t.power.told on ≡ false = power_new t on e in
          let yes : is_told t.power.told on ≡ true = told_same t.power.told on same in
          absurd (cc);
    }
