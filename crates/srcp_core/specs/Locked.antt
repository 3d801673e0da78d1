-- To be believed: what becomes of a device over a course while a session has its lock.
use Rattle.std.specs.Prelude.{◌≡◌, ◌≢◌, ℕ, ◌==◌, Bool, false, is_some, IsTrue, ⊤, List, [], ◌∷◌, ◌++◌, Option}
use Rattle.std.specs.Prelude.{Some, None}
use Rattle.std.specs.List.{AllByRecursion}
use Rattle.std.specs.Option.{option_map_or}
use Rattle.srcp_info.specs.Key.{first_key}
use Rattle.srcp_info.specs.declared.change.Reply.TheVariants.{Accepted}
use Rattle.srcp_info.specs.declared.change.Row.{Row}
use Rattle.srcp_info.specs.declared.key.Device.{Device}
use Rattle.srcp_info.specs.declared.key.Key.{Key}
use Rattle.srcp_grammar.specs.Devices.{device_in, key_at, lock_on}
use Rattle.srcp_grammar.specs.Layout.{IsLayout}
use Rattle.srcp_grammar.specs.declared.command.Command.TheVariants.{SetLock}
use Rattle.srcp_grammar.specs.declared.command.DeviceGroup.{DeviceGroup}
use Rattle.srcp_grammar.specs.declared.command.TimedLock.{TimedLock}
use Rattle.srcp_grammar.specs.declared.layout.Bus.{Bus}
use Rattle.srcp_rules.specs.Due.{is_due}
use Rattle.srcp_rules.specs.Laws.{comes_to}
use Rattle.srcp_rules.specs.SafetyLaws.{has_lock, may_unlock}
use Rattle.srcp_rules.specs.State.{State, opening, row_at}
use Rattle.srcp_rules.specs.Steps.{stepped, Step, Obeyed, Began, Moment, Ended, Order, effect}
use Rattle.srcp_core.specs.Course.{course, state_after}
use Rattle.srcp_core.specs.Laws.{AllMoments}
use Rattle.srcp_core.specs.Under.{Event}

-- the step is a command of the session
abbrev pub is_command_of : (session : ℕ) → Step → Bool
is_command_of session (Obeyed id moment order) = id == session
is_command_of _ _ = false

-- the step is the end of the session
abbrev pub is_end_of : (session : ℕ) → Step → Bool
is_end_of session (Ended id moment) = id == session
is_end_of _ _ = false

-- the step leaves the lock of the session, which has this row: it is no command of the session that may take the lock
-- out, no moment at which the lock has run out, and not the session's end
abbrev pub LeavesLock : (session : ℕ) → Device → Option Row → Step → Type 0
LeavesLock session lock _ (Obeyed id moment order) = id ≡ session → may_unlock order.command ≢ Some lock
LeavesLock _ _ _ (Began _ _ _) = ⊤
LeavesLock _ _ row (Moment moment) = option_map_or (is_due moment) row false ≡ false
LeavesLock session _ _ (Ended id moment) = id ≢ session

-- what a step makes of a row that only falls: at a moment it falls if its end has come, and no other step changes it
abbrev pub falls_in : Step → Row → Option Row
falls_in (Moment moment) row = comes_to moment row
falls_in _ row = Some row

-- what these steps make of it, one after another, if it is there
abbrev pub falls_over : List Step → Option Row → Option Row
falls_over [] row = row
falls_over (step ∷ steps) row = falls_over steps (option_map_or (falls_in step) row None)

-- from the step on at which its SET of a lock is accepted, a session has the lock
abbrev pub LocksBegin : Type 0
LocksBegin = (state : State) (session moment : ℕ) (lock : TimedLock) (order : Order) → order.command ≡ SetLock lock
    → (effect state session moment order).reply ≡ Accepted
    → IsTrue (has_lock (stepped state (Obeyed session moment order)) session
    lock.target.group lock.target.bus lock.target.address)

module _ (buses : List Bus) where
  -- the registry after these steps
  abbrev pub after : List Step → State
  after steps = state_after (opening buses 0) steps

  -- after the first steps the later ones do no more to the row at the key than to let it fall
  abbrev pub OnlyFalls : Key → (first later : List Step) → Type 0
  OnlyFalls key first later = row_at key (after (first ++ later)) ≡ falls_over later (row_at key (after first))

  -- the session keeps the lock in each step that leaves it
  abbrev pub LocksLast : Type 0
  LocksLast = IsLayout buses → (events : List Event) → AllMoments events
      → (first rest : List Step) (step : Step) → (course buses events).steps ≡ first ++ step ∷ rest
      → (session : ℕ) (group : DeviceGroup) (bus address : ℕ)
      → IsTrue (has_lock (after first) session group bus address)
      → let lock = lock_on group bus address in
      LeavesLock session lock (row_at (first_key lock) (after first)) step
      → IsTrue (has_lock (after (first ++ step ∷ [])) session group bus address)

  -- a step that is no command of the session that has the lock does no more to a row of the device than to let it fall;
  -- nor to the lock, unless the step ends the session
  abbrev pub LockedStepsFall : Type 0
  LockedStepsFall = IsLayout buses → (events : List Event) → AllMoments events
      → (first rest : List Step) (step : Step) → (course buses events).steps ≡ first ++ step ∷ rest
      → (session : ℕ) (group : DeviceGroup) (bus address : ℕ)
      → IsTrue (has_lock (after first) session group bus address)
      → is_command_of session step ≡ false
      → ((port : ℕ) → OnlyFalls (key_at (device_in group bus address) port) first (step ∷ []))
      × (is_end_of session step ≡ false → OnlyFalls (first_key (lock_on group bus address)) first (step ∷ []))

  -- so in later steps without a command of the session, and without its end: as long as the lock has not run out, the
  -- session has it, and each row of the device fell and nothing else
  abbrev pub LockedIsLeftAlone : Type 0
  LockedIsLeftAlone = IsLayout buses → (events : List Event) → AllMoments events
      → (first later rest : List Step) → (course buses events).steps ≡ first ++ later ++ rest
      → (session : ℕ) (group : DeviceGroup) (bus address : ℕ)
      → IsTrue (has_lock (after first) session group bus address)
      → AllByRecursion (λ step. (is_command_of session step ≡ false) × (is_end_of session step ≡ false)) later
      → IsTrue (is_some (falls_over later (row_at (first_key (lock_on group bus address)) (after first))))
      → IsTrue (has_lock (after (first ++ later)) session group bus address)
      × ((port : ℕ) → OnlyFalls (key_at (device_in group bus address) port) first later)
