-- The refused and the accepted effects of a command, and the rows set.
use Rattle.srcp_rules.proofs.Names
use Names.{◌≡◌, ℕ, ◌+◌, ◌≤◌, ◌<◌, min, Bool, true, false, not, cond, nat_lt, List, [], length, Option, Some, None, IfSome, refl, sym, ap}
use Names.{arith, option_map_or, Group, Key, Row, Code, Accepted, Value, first_key, IsMoment, IsValueAt, Bus, row_count, SetPower, SetGl}
use Names.{SetGa, SetFb, SetLock, key_at, power_device, fb_device, device_in, lock_at, session_device, key_address, State, Update, IsRowOf}
use Names.{IsWhole, MayFall, has_row, row_at, is_there, functions_of, row_put, Effect, refused, accepted, unless_refused, lock_end}
use Names.{port_end, MayObey}
use Names.value
use Names.devices
use Rattle.std.specs.Prelude.{◌*◌}
use Rattle.std.proofs.Common.{length-append, length-drop}
use Rattle.std.proofs.Math.Nat.{min-le_right}
use Rattle.srcp_grammar.specs.Command.{kept_speed}
use Rattle.srcp_grammar.specs.declared.command.Drive.{Drive}
use Rattle.srcp_grammar.specs.declared.command.Switch.{Switch}
use Rattle.srcp_grammar.specs.declared.command.PowerSwitch.{PowerSwitch}
use Rattle.srcp_grammar.specs.declared.command.Sensor.{Sensor}
use Rattle.srcp_grammar.specs.declared.command.TimedLock.{TimedLock}
use Rattle.srcp_rules.specs.State.{functions_in}
use Rattle.srcp_rules.specs.Effect.{first_refusal, functions_after}
use Rattle.srcp_rules.proofs.CommandLaws.{NoneApplies, unless_made}
use Rattle.srcp_rules.proofs.StateLaws.{placed}
use Rattle.srcp_rules.proofs.AddsNoRowLaws.{gl_count}
use Rattle.srcp_rules.proofs.StepLaws.{IsRowOf-put, lock_group-is_lock}
use Rattle.srcp_rules.proofs.WholeLaws.{functions_at}

-- ---- refusals

pub refused_done : (refusals : List (Bool × Code)) (updates : List Update) (code : Code) → Some code ≡ first_refusal refusals
    → refused code ≡ unless_refused refusals updates
refused_done refusals updates code e = ap (λ o. option_map_or refused o (accepted updates)) e

pub accepted_done : (refusals : List (Bool × Code)) (updates : List Update) → None ≡ first_refusal refusals
    → accepted updates ≡ unless_refused refusals updates
accepted_done refusals updates e = ap (λ o. option_map_or refused o (accepted updates)) e

pub none_applies : (refusals : List (Bool × Code)) → None ≡ first_refusal refusals → NoneApplies refusals
none_applies refusals e =
    unless_made (λ did. did.reply ≡ Accepted → NoneApplies refusals) (λ code f. absurd (let bad : ⊥ = cc in bad)) refusals []
    (λ none f. none) (ap (λ (did : Effect). did.reply) (sym (accepted_done refusals [] e)))

-- ---- a locomotive is there if its state row is

-- each of two tests passes if the other does
alike : (a b : Bool) → (a ≡ true → b ≡ true) → (b ≡ true → a ≡ true) → a ≡ b
alike a b down up = grind arith

-- it has both its rows or none
pub gl_there : (buses : List Bus) (state : State) → IsWhole buses state → (bus address : ℕ)
    → has_row (key_at (device_in devices.Gl bus address) 1) state ≡ is_there (device_in devices.Gl bus address) state
gl_there buses state whole bus address =
    let device = device_in devices.Gl bus address in
    alike (has_row (key_at device 1) state) (is_there device state)
    (λ here.
    let place : 1 < row_count buses device = placed buses state whole (key_at device 1) here in
    whole.complete (key_at device 1) here 0 (omega arith))
    (λ here.
    let two = gl_count buses bus address (placed buses state whole (first_key device) here) in
    whole.complete (first_key device) here 1 (omega arith))

-- ---- rows that are set

pub is_not : (b : Bool) → not b ≡ false → b ≡ true
is_not b e = grind arith

greatest : (n : ℕ) → IsMoment (min n 18446744073709551615)
greatest n = let h = min-le_right n 18446744073709551615 in omega (arith, h)

timed : (P : Type 0) (n : ℕ) (b : Bool) → P → IfSome (cond b (Some (min n 18446744073709551615)) None) (λ m. IsMoment m × P)
timed P n b p = grind (arith, greatest)

port_end_fits : (moment : ℕ) (on : Bool) (time : Option ℕ) → IfSome (port_end moment on time) (λ m. IsMoment m × MayFall (value.GaPort on))
port_end_fits moment on time = grind (arith, timed)

-- the functions of a locomotive's state are few
functions_few : (g : Group) (port : ℕ) (shows : Value) → IsValueAt g port shows → length (functions_in shows) ≤ 29
functions_few g port shows h = grind arith

-- as many functions as before
pub as_many : (given before : List Bool) → length given ≤ length before → length (functions_after given before) ≡ length before
as_many given before h = simp (length-append, length-drop) (omega arith)

module _ (buses : List Bus) (state : State) (session moment : ℕ) (now : IsMoment moment) where
  found_few : IsWhole buses state → (key : Key) (o : Option Row) → row_at key state ≡ o → length (functions_at o) ≤ 29
  found_few whole key None e = omega arith
  found_few whole key (Some row) e = functions_few row.shown.key.group row.shown.key.port row.shown.value (whole.rows key row e).shown.value

  -- the row of a lock, whose session's id is in range, since it has a row
  pub lock_row : (lock : TimedLock) → MayObey buses state session (SetLock lock)
      → IsRowOf buses
      (row_put moment (first_key (lock_at lock.target)) (value.Lock lock.seconds session) (lock_end moment lock.seconds))
  lock_row lock may =
      let key = first_key (session_device session) in
      let range = (key_address buses may.whole.laid_out key (placed buses state may.whole key may.begun)).1 in
      IsRowOf-put buses may.whole.laid_out _ _ _ _ may.of.0 now (lock_group-is_lock lock.target.group, refl, may.of.1, range)
      (timed _ (moment + 1000 * lock.seconds) (nat_lt 0 lock.seconds) tt)

  -- the row of an accessory's port
  pub ga_row : (switch : Switch) → MayObey buses state session (SetGa switch)
      → IsRowOf buses
      (row_put moment (key_at (device_in devices.Ga switch.bus switch.address) (1 + switch.port)) (value.GaPort switch.on)
      (port_end moment switch.on switch.time))
  ga_row switch may = IsRowOf-put buses may.whole.laid_out _ _ _ _ may.of.0.0 now may.of.0.1 (port_end_fits moment switch.on switch.time)

  -- the row of a locomotive's state, which has as many functions as before
  pub gl_row : (drive : Drive) → MayObey buses state session (SetGl drive)
      → length drive.functions ≤ length (functions_of drive.bus drive.address state)
      → IsRowOf buses
      (row_put moment (key_at (device_in devices.Gl drive.bus drive.address) 1)
      (value.GlState drive.mode (kept_speed drive.mode drive.v) drive.vmax
      (functions_after drive.functions (functions_of drive.bus drive.address state))) None)
  gl_row drive may short =
      let key = key_at (device_in devices.Gl drive.bus drive.address) 1 in
      let before = functions_of drive.bus drive.address state in
      let after = functions_after drive.functions before in
      let same = as_many drive.functions before short in
      let most : length before ≤ 29 = found_few may.whole key (row_at key state) refl in
      let few : length after ≤ 29 = omega (arith, most, same) in
      let fits = may.of.1 in
      IsRowOf-put buses may.whole.laid_out _ _ _ _ may.of.0 now (fits.0, fits.1, fits.2, few) tt

  pub power_row : (power : PowerSwitch) → MayObey buses state session (SetPower power)
      → IsRowOf buses (row_put moment (first_key (power_device power.bus)) (value.Power power.on power.text) None)
  power_row power may = IsRowOf-put buses may.whole.laid_out _ _ _ _ may.of.0 now may.of.1 tt

  pub fb_row : (sensor : Sensor) → MayObey buses state session (SetFb sensor)
      → IsRowOf buses (row_put moment (first_key (fb_device sensor.bus sensor.port)) (value.Fb sensor.on) None)
  fb_row sensor may = IsRowOf-put buses may.whole.laid_out _ _ _ _ may.of now (refl, refl) tt
