-- Laws for people who run trains: a stop stops, GET shows what was set, a lock lasts, and who goes leaves the
-- trains alone.
use Rattle.std.specs.Prelude.{◌≡◌, ◌≢◌, ℕ, Bool, false, IsTrue, if◌then◌else◌, List, [], replicate, Option, Some, None}
use Rattle.std.specs.Option.{ForSome, option_map_or}
use Rattle.srcp_info.specs.declared.key.Device.{Device}
use Rattle.srcp_info.specs.declared.key.Key.{Key}
use Rattle.srcp_info.specs.declared.key.Group.TheVariants.{Session}
use Rattle.srcp_info.specs.declared.value.Value.{Value}
use Rattle.srcp_info.specs.declared.value.Value.TheVariants.{Power, GlState, Fb}
use Rattle.srcp_info.specs.declared.change.Row.{Row}
use Rattle.srcp_info.specs.declared.change.Reply.TheVariants.{Accepted, Shows}
use Rattle.srcp_info.specs.Key.{first_key}
use Rattle.srcp_info.specs.WellFormed.{is_lock}
use Rattle.srcp_info.specs.Limits.{emergency_stop}
use Rattle.srcp_grammar.specs.declared.layout.Bus.{Bus}
use Rattle.srcp_grammar.specs.declared.command.DeviceGroup.{DeviceGroup}
use Rattle.srcp_grammar.specs.declared.command.DeviceGroup.TheVariants.{Gl, Ga}
use Rattle.srcp_grammar.specs.declared.command.Drive.{Drive}
use Rattle.srcp_grammar.specs.declared.command.NewGl.{NewGl}
use Rattle.srcp_grammar.specs.declared.command.PowerSwitch.{PowerSwitch}
use Rattle.srcp_grammar.specs.declared.command.Sensor.{Sensor}
use Rattle.srcp_grammar.specs.declared.command.Command.{Command}
use Rattle.srcp_grammar.specs.declared.command.Command.TheVariants.{GetPower, SetPower, GetGl, SetGl, InitGl}
use Rattle.srcp_grammar.specs.declared.command.Command.TheVariants.{TermGl, InitGa, TermGa, GetFb, SetFb, TermLock}
use Rattle.srcp_grammar.specs.Command.{kept_speed}
use Rattle.srcp_grammar.specs.Devices.{key_at, power_device, fb_device, device_in, lock_at, lock_on}
use Rattle.srcp_rules.specs.State.{State, IsWhole, first_row, functions_of, is_there, row_at, row_put, updated_all}
use Rattle.srcp_rules.specs.Effect.{effect, functions_after, gl_init, has_init, is_locked}
use Rattle.srcp_rules.specs.Due.{freed, is_held_by}
use Rattle.srcp_rules.specs.Laws.{IsKept}

-- the row is set, GET replies this row to any session at any moment, and every other row stays
pub record SetsAlone (get : Command) (row : Row) (before after : State) : Type 0 where
  pub there : row_at row.shown.key after ≡ Some row
  pub replied : (session moment : ℕ) → (effect after session moment get).reply ≡ Shows row.shown
  pub others : (key : Key) → key ≢ row.shown.key → IsKept key before after

-- ---- power and feedback

-- SET of power, on or off, is accepted whatever is locked; GET shows this power next, and no other row changes
abbrev pub PowersAreSet : Type 0
PowersAreSet = (state : State) (session moment : ℕ) (power : PowerSwitch)
    → let did = effect state session moment (SetPower power) in
    (did.reply ≡ Accepted)
    × SetsAlone (GetPower power.bus) (first_row moment (power_device power.bus) (Power power.on power.text))
    state (updated_all did.updates state)

-- and so is SET of a feedback port
abbrev pub SensorsAreSet : Type 0
SensorsAreSet = (state : State) (session moment : ℕ) (sensor : Sensor)
    → let did = effect state session moment (SetFb sensor) in
    (did.reply ≡ Accepted)
    × SetsAlone (GetFb sensor.bus sensor.port)
    (first_row moment (fb_device sensor.bus sensor.port) (Fb sensor.on))
    state (updated_all did.updates state)

-- ---- locomotives

-- the row of a locomotive with this state
abbrev pub driving : (moment bus address : ℕ) → Value → Row
driving moment bus address shows = row_put moment (key_at (device_in Gl bus address) 1) shows None

-- a locomotive drives as the accepted command says; functions not given by the command stay
abbrev pub DrivesAreSet : Type 0
DrivesAreSet = (state : State) (session moment : ℕ) (drive : Drive)
    → let did = effect state session moment (SetGl drive) in
    did.reply ≡ Accepted
    → let functions = functions_after drive.functions (functions_of drive.bus drive.address state) in
    SetsAlone (GetGl drive.bus drive.address)
    (driving moment drive.bus drive.address
    (GlState drive.mode (kept_speed drive.mode drive.v) drive.vmax functions))
    state (updated_all did.updates state)

-- an emergency stop without functions is accepted if the locomotive is there and no other session has locked it;
-- the locomotive stands then, with the functions as before
abbrev pub StopsStop : Type 0
StopsStop = (state : State) (session moment : ℕ) (drive : Drive) → drive.mode ≡ emergency_stop → drive.functions ≡ []
    → IsTrue (is_there (device_in Gl drive.bus drive.address) state)
    → is_locked state session Gl drive.bus drive.address ≡ false
    → let did = effect state session moment (SetGl drive) in
    (did.reply ≡ Accepted)
    × SetsAlone (GetGl drive.bus drive.address)
    (driving moment drive.bus drive.address
    (GlState emergency_stop 0 drive.vmax (functions_of drive.bus drive.address state)))
    state (updated_all did.updates state)

-- an accepted INIT leaves a locomotive with these parameters unchanged; any other stands still, forward,
-- with all functions off
abbrev pub InitsStandStill : Type 0
InitsStandStill = (state : State) (session moment : ℕ) (gl : NewGl)
    → let did = effect state session moment (InitGl gl) in
    did.reply ≡ Accepted
    → let key = key_at (device_in Gl gl.bus gl.address) 1 in
    row_at key (updated_all did.updates state)
    ≡ (if has_init state Gl gl.bus gl.address (gl_init gl) then row_at key state
    else Some (driving moment gl.bus gl.address (GlState 1 0 0 (replicate gl.functions false))))

-- ---- locks

-- the session has the lock of the device
abbrev pub has_lock : State → (session : ℕ) → DeviceGroup → (bus address : ℕ) → Bool
has_lock state session group bus address =
    option_map_or (is_held_by session) (row_at (first_key (lock_on group bus address)) state) false

-- the lock that a command may take out: TERM of a lock takes out the lock, and so do TERM and INIT of the device
abbrev pub may_unlock : Command → Option Device
may_unlock (InitGl gl) = Some (lock_on Gl gl.bus gl.address)
may_unlock (TermGl bus address) = Some (lock_on Gl bus address)
may_unlock (InitGa ga) = Some (lock_on Ga ga.bus ga.address)
may_unlock (TermGa bus address) = Some (lock_on Ga bus address)
may_unlock (TermLock target) = Some (lock_at target)
may_unlock other = None

-- any other command of a session leaves the session's lock
abbrev pub OwnLocksLast : Type 0
OwnLocksLast = (state : State) (session moment : ℕ) (command : Command) (group : DeviceGroup) (bus address : ℕ)
    → IsTrue (has_lock state session group bus address) → may_unlock command ≢ Some (lock_on group bus address)
    → IsTrue (has_lock (updated_all (effect state session moment command).updates state) session group bus address)

-- ---- the end of a session

-- the end of a session changes no locomotive, no port of an accessory, no power and no feedback port
abbrev pub EndsChangeNoDevice : Type 0
EndsChangeNoDevice = (buses : List Bus) (state : State) (session moment : ℕ) (key : Key) → IsWhole buses state
    → is_lock key.group ≡ false → key.group ≢ Session
    → IsKept key state (updated_all (freed state session moment) state)

-- nor a lock of another session
abbrev pub EndsKeepOtherLocks : Type 0
EndsKeepOtherLocks = (buses : List Bus) (state : State) (session moment : ℕ) (group : DeviceGroup) (bus address : ℕ)
    → IsWhole buses state
    → ForSome (row_at (first_key (lock_on group bus address)) state) (λ row. is_held_by session row ≡ false)
    → IsKept (first_key (lock_on group bus address)) state (updated_all (freed state session moment) state)
