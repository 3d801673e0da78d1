-- Laws of every command, every moment, and every session's beginning and end.
use Rattle.std.specs.Prelude.{◌≡◌, ◌≢◌, ℕ, ◌+◌, ◌*◌, ◌≤◌, ◌<◌, true, false, nat_le, if◌then◌else◌, List, []}
use Rattle.std.specs.Prelude.{take, drop, length, IsTrue, Option, Some, None, IfSome, ⊤, ◌∷◌}
use Rattle.std.specs.List.{AllByRecursion}
use Rattle.std.specs.Option.{option_map_or, ForSome}
use Rattle.srcp_info.specs.declared.key.Key.{Key}
use Rattle.srcp_info.specs.declared.value.Value.{Value}
use Rattle.srcp_info.specs.declared.value.Value.TheVariants.{GaPort, Lock}
use Rattle.srcp_info.specs.declared.change.Row.{Row}
use Rattle.srcp_info.specs.Key.{first_key}
use Rattle.srcp_info.specs.declared.change.Code.{Code}
use Rattle.srcp_info.specs.declared.change.Reply.TheVariants.{Accepted, Refused}
use Rattle.srcp_info.specs.declared.value.Mode.{Mode}
use Rattle.srcp_info.specs.Limits.{greatest_id, greatest_u64}
use Rattle.srcp_info.specs.WellFormed.{IsMoment, IsWellFormed, IsWellFormedReply}
use Rattle.srcp_grammar.specs.declared.layout.Bus.{Bus}
use Rattle.srcp_grammar.specs.declared.command.DeviceGroup.{DeviceGroup}
use Rattle.srcp_grammar.specs.declared.command.Switch.{Switch}
use Rattle.srcp_grammar.specs.declared.command.TimedLock.{TimedLock}
use Rattle.srcp_grammar.specs.declared.command.Command.{Command}
use Rattle.srcp_grammar.specs.declared.command.Command.TheVariants.{SetPower, CheckPower, SetGl, CheckGl, SetGa}
use Rattle.srcp_grammar.specs.declared.command.Command.TheVariants.{CheckGa, SetFb, CheckFb, SetLock, CheckLock}
use Rattle.srcp_grammar.specs.Layout.{IsLayout}
use Rattle.srcp_grammar.specs.Devices.{key_at, session_device, device_in, lock_at, lock_on}
use Rattle.srcp_rules.specs.State.{State, Update, AddsNoRow, IsRising, IsWhole, opening, row_at, is_there}
use Rattle.srcp_rules.specs.State.{updated, updated_all, row_put}
use Rattle.srcp_grammar.specs.Command.{IsCommandOf}
use Rattle.srcp_grammar.specs.Weight.{most_changes}
use Rattle.srcp_rules.specs.Effect.{effect, refused, is_locked, port_key, row_of_port, row_of_lock, moment_after}
use Rattle.srcp_rules.specs.Obeyed.{MayObey}
use Rattle.srcp_rules.specs.Due.{due, freed, began, is_due, is_held_by}
use Rattle.srcp_rules.specs.Steps.{Order, Step, IsStepOf, IsTimely, effect as effect_under, stepped, updates_of}

-- ---- whole registries

-- the registry of a layout begins whole
abbrev pub OpeningsAreWhole : Type 0
OpeningsAreWhole =
    (buses : List Bus) (moment : ℕ) → IsLayout buses → IsMoment moment → IsWhole buses (opening buses moment)

-- an update leaves the keys rising
abbrev pub UpdatesKeepRising : Type 0
UpdatesKeepRising = (update : Update) (state : State) → IsRising state → IsRising (updated update state)

-- a step, with all updates, leaves the registry whole; between the Puts of a command a new device lacks rows
abbrev pub StepsKeepWhole : Type 0
StepsKeepWhole = (buses : List Bus) (state : State) (step : Step) → IsWhole buses state → IsStepOf buses step
    → IsTimely state step → IsWhole buses (stepped state step)

-- each update of a moment leaves the registry whole: the registry is whole after the first k, and the others follow
abbrev pub MomentsKeepWhole : Type 0
MomentsKeepWhole = (buses : List Bus) (state : State) (moment k : ℕ) → IsWhole buses state → IsMoment moment
    → let after = updated_all (take k (due state moment)) state in
    IsWhole buses after × (due after moment ≡ drop k (due state moment))

-- and so does each update of a session's end
abbrev pub EndsKeepWhole : Type 0
EndsKeepWhole = (buses : List Bus) (state : State) (session moment k : ℕ) → IsWhole buses state
    → let after = updated_all (take k (freed state session moment)) state in
    IsWhole buses after × (freed after session moment ≡ drop k (freed state session moment))

-- ---- the rows of a device come and go together

-- no Put of a step gives a row to a device that has rows
abbrev pub StepsAddNoRow : Type 0
StepsAddNoRow = (buses : List Bus) (state : State) (step : Step) → IsWhole buses state → IsStepOf buses step
    → AllByRecursion (λ update. AddsNoRow state update.change) (updates_of state step)

-- nor does a session's end, whatever the registry
abbrev pub EndsAddNoRow : Type 0
EndsAddNoRow = (state : State) (session moment : ℕ)
    → AllByRecursion (λ update. AddsNoRow state update.change) (freed state session moment)

-- ---- changes and replies have lines

-- a command makes no more changes than the most
abbrev pub CommandsChangeLittle : Type 0
CommandsChangeLittle =
    (buses : List Bus) (state : State) (session moment : ℕ) (command : Command) → IsCommandOf buses command
    → length (effect state session moment command).updates ≤ most_changes

-- each of the changes can be written as a line
abbrev pub CanBeTold : List Update → Type 0
CanBeTold updates = AllByRecursion (λ update. IsWellFormed update.change) updates

-- the changes of a step can be told
abbrev pub StepsCanBeTold : Type 0
StepsCanBeTold = (buses : List Bus) (state : State) (step : Step) → IsWhole buses state → IsStepOf buses step
    → IsTimely state step → CanBeTold (updates_of state step)

-- and so can the reply to a command
abbrev pub RepliesCanBeTold : Type 0
RepliesCanBeTold = (buses : List Bus) (state : State) (session moment : ℕ) (command : Command)
    → MayObey buses state session command → IsMoment moment
    → IsWellFormedReply (effect state session moment command).reply

-- ---- the laws of a step, for each kind

-- these changes leave a whole registry whole, give a device with rows no new row, and can be told
pub record AreOfStep (buses : List Bus) (state : State) (updates : List Update) (of timely : Type 0) : Type 0 where
  pub whole : IsWhole buses state → of → timely → IsWhole buses (updated_all updates state)
  pub adds : IsWhole buses state → of → AllByRecursion (λ update. AddsNoRow state update.change) updates
  pub told : IsWhole buses state → of → timely → CanBeTold updates

-- the changes of a command do so
abbrev pub CommandsAreSteps : Type 0
CommandsAreSteps = (buses : List Bus) (state : State) (session moment : ℕ) (command : Command)
    → AreOfStep buses state (effect state session moment command).updates (IsCommandOf buses command)
    (IsTrue (is_there (session_device session) state) × IsMoment moment)

-- the changes of a moment do so
abbrev pub MomentsAreSteps : Type 0
MomentsAreSteps =
    (buses : List Bus) (state : State) (moment : ℕ) → AreOfStep buses state (due state moment) ⊤ (IsMoment moment)

-- the changes of a session's end do so
abbrev pub EndsAreSteps : Type 0
EndsAreSteps = (buses : List Bus) (state : State) (session moment : ℕ)
    → AreOfStep buses state (freed state session moment) ⊤ (IsMoment moment)

-- and the change of a session's beginning does so
abbrev pub BeginningsAreSteps : Type 0
BeginningsAreSteps = (buses : List Bus) (state : State) (session moment : ℕ) (mode : Mode)
    → AreOfStep buses state (began session moment mode ∷ []) ((1 ≤ session) × (session ≤ greatest_id)) (IsMoment moment)

-- which can be told, whatever the layout and the registry
abbrev pub BeginningsCanBeTold : Type 0
BeginningsCanBeTold = (session moment : ℕ) (mode : Mode) → IsMoment moment → 1 ≤ session → session ≤ greatest_id
    → IsWellFormed (began session moment mode).change

-- ---- refusals and checks

-- a refused command changes no row and ends no session
abbrev pub RefusalsChangeNothing : Type 0
RefusalsChangeNothing = (state : State) (session moment : ℕ) (command : Command) (code : Code)
    → (effect state session moment command).reply ≡ Refused code
    → effect state session moment command ≡ refused code

-- a command refused by another rule has the refusal of this rule, whatever memory answers
abbrev pub RefusalsNeedNoMemory : Type 0
RefusalsNeedNoMemory = (state : State) (session moment : ℕ) (order : Order) (code : Code)
    → (effect state session moment order.command).reply ≡ Refused code
    → effect_under state session moment order ≡ effect state session moment order.command

-- the SET of a CHECK
abbrev pub set_of : Command → Option Command
set_of (CheckPower power) = Some (SetPower power)
set_of (CheckGl drive) = Some (SetGl drive)
set_of (CheckGa switch) = Some (SetGa switch)
set_of (CheckFb sensor) = Some (SetFb sensor)
set_of (CheckLock lock) = Some (SetLock lock)
set_of other = None

-- CHECK answers as SET would, and changes no row and ends no session
abbrev pub ChecksAnswerAsSets : Type 0
ChecksAnswerAsSets = (state : State) (session moment : ℕ) (command : Command)
    → IfSome (set_of command)
    (λ set.
    effect state session moment command ≡ record (effect state session moment set) { updates = []; ends = false })

-- ---- a single row

-- the row at the key is as before
abbrev pub IsKept : Key → (before after : State) → Type 0
IsKept key before after = row_at key after ≡ row_at key before

-- ---- locks

-- no command of a session changes a device locked by another session, or the lock of the device
abbrev pub LocksHold : Type 0
LocksHold = (state : State) (session moment : ℕ) (command : Command) (group : DeviceGroup) (bus address : ℕ)
    → IsTrue (is_locked state session group bus address)
    → let after = updated_all (effect state session moment command).updates state in
    (port : ℕ) → IsKept (key_at (device_in group bus address) port) state after
    × IsKept (key_at (lock_on group bus address) port) state after

-- ---- sessions

-- no command touches the row of a session
abbrev pub CommandsKeepSessions : Type 0
CommandsKeepSessions = (state : State) (session moment : ℕ) (command : Command) (id : ℕ)
    → IsKept (first_key (session_device id)) state (updated_all (effect state session moment command).updates state)

-- nor does a moment
abbrev pub MomentsKeepSessions : Type 0
MomentsKeepSessions = (buses : List Bus) (state : State) (moment id : ℕ) → IsWhole buses state
    → IsKept (first_key (session_device id)) state (updated_all (due state moment) state)

-- the session is gone with all locks of the session, and every other session is as before
pub record IsFreed (session : ℕ) (before after : State) : Type 0 where
  pub gone : is_there (session_device session) after ≡ false
  pub locks : (key : Key) → ForSome (row_at key after) (λ row. is_held_by session row ≡ false)
  pub others : (id : ℕ) → id ≢ session → IsKept (first_key (session_device id)) before after

-- the end of a session takes out the session's locks and row, and no other session's row
abbrev pub EndsFreeAll : Type 0
EndsFreeAll = (buses : List Bus) (state : State) (session moment : ℕ) → IsWhole buses state
    → IsFreed session state (updated_all (freed state session moment) state)

-- ---- due moments

-- a due lock is gone, a due port is 0
abbrev pub fallen : (moment : ℕ) → Key → Value → Option Row
fallen moment key (Lock seconds session) = None
fallen moment key other = Some (row_put moment key (GaPort false) None)

-- a row after a moment: a due row falls, and any other stays
abbrev pub comes_to : (moment : ℕ) → Row → Option Row
comes_to moment row = if is_due moment row then fallen moment row.shown.key row.shown.value else Some row

-- the row at each key falls or stays so at a moment, whoever has locked which device
abbrev pub MomentsCarryOut : Type 0
MomentsCarryOut = (buses : List Bus) (state : State) (moment : ℕ) (key : Key) → IsWhole buses state → IsMoment moment
    → row_at key (updated_all (due state moment) state) ≡ option_map_or (comes_to moment) (row_at key state) None

-- after an accepted SET the port has the due moment of the command or none, whatever the port had before
abbrev pub PortsAreSet : Type 0
PortsAreSet = (state : State) (session moment : ℕ) (switch : Switch)
    → (effect state session moment (SetGa switch)).reply ≡ Accepted
    → row_at (port_key switch) (updated_all (effect state session moment (SetGa switch)).updates state)
    ≡ Some (row_of_port moment switch)

-- and a lock has the due moment of the command
abbrev pub LocksAreSet : Type 0
LocksAreSet = (state : State) (session moment : ℕ) (lock : TimedLock)
    → (effect state session moment (SetLock lock)).reply ≡ Accepted
    → row_at (first_key (lock_at lock.target)) (updated_all (effect state session moment (SetLock lock)).updates state)
    ≡ Some (row_of_lock moment session lock)

-- a port set to 1 for some milliseconds is 1 at each moment before these have passed, and 0 from then on
abbrev pub PortsFallBack : Type 0
PortsFallBack = (buses : List Bus) (state : State) (session moment later milliseconds : ℕ) (switch : Switch)
    → MayObey buses state session (SetGa switch) → IsMoment moment → IsMoment later
    → switch.on ≡ true → switch.time ≡ Some milliseconds → 0 < milliseconds
    → (effect state session moment (SetGa switch)).reply ≡ Accepted
    → let after = updated_all (effect state session moment (SetGa switch)).updates state in
    row_at (port_key switch) (updated_all (due after later) after)
    ≡ Some (if nat_le (moment_after moment milliseconds) later
    then row_put later (port_key switch) (GaPort false) None
    else row_of_port moment switch)

-- a lock set for some seconds is there at each moment before these have passed, and gone from then on
abbrev pub LocksRunOut : Type 0
LocksRunOut = (buses : List Bus) (state : State) (session moment later : ℕ) (lock : TimedLock)
    → MayObey buses state session (SetLock lock) → IsMoment moment → IsMoment later
    → 0 < lock.seconds → (effect state session moment (SetLock lock)).reply ≡ Accepted
    → let after = updated_all (effect state session moment (SetLock lock)).updates state in
    row_at (first_key (lock_at lock.target)) (updated_all (due after later) after)
    ≡ (if nat_le (moment_after moment (1000 * lock.seconds)) later then None
    else Some (row_of_lock moment session lock))

-- a time ends after the given milliseconds, but not later than the greatest moment
abbrev pub MomentsEnd : Type 0
MomentsEnd = (moment milliseconds : ℕ)
    → (moment + milliseconds ≤ greatest_u64 → moment_after moment milliseconds ≡ moment + milliseconds)
    × (greatest_u64 ≤ moment + milliseconds → moment_after moment milliseconds ≡ greatest_u64)
