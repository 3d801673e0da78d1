-- No command of a session touches a device locked by another session.
use Rattle.srcp_rules.specs.Laws.{LocksHold}
use Rattle.srcp_rules.proofs.Names
use Names.{arith, each-range, ◌≡◌, ℕ, true, false, List, [], ◌∷◌, Option, refl, sym, ap, ◌∙◌, true≢false, AllByRecursion, Key, Device}
use Names.{Change, Put, Gone, first_key, key_of, owns, owns-device_of, all_append, DeviceGroup, Command}
use Names.{InitGa, key_at, device_in, lock_on, lock_group, State, Update}
use Names.{row_at, updated, updated_by, updated_all, effect, is_locked, removals, false_from_ne_true, can_go, is_lock, weaken}
use Names.{same_key-true, no_owner}
use Names.devices
use Rattle.srcp_rules.proofs.OrderLaws.{owns-other}
use Rattle.srcp_rules.proofs.DueRowLaws.{lock_goes}
use Rattle.srcp_rules.proofs.StepLaws.{device_goes, device_group-is_lock, lock_group-is_lock, device_group-injective}
use Rattle.srcp_rules.proofs.CommandLaws.{NoneApplies, changes_of, refusals_of, of_changes, each-removals}
use Rattle.srcp_rules.proofs.StateLaws.{row_at-put_other, row_at-kept}

-- ---- changes that a device is apart from

abbrev pub AreApart : Device → List Update → Type 0
AreApart device updates = AllByRecursion (λ update. owns device (key_of update.change) ≡ false) updates

apart_by : (device : Device) (port : ℕ) (change : Change) (due : Option ℕ) (state : State) → owns device (key_of change) ≡ false
    → row_at (key_at device port) (updated_by change due state) ≡ row_at (key_at device port) state
apart_by device port (Put shown) due state h =
    row_at-put_other (key_at device port) (record { shown = shown; due = due }) state
    (false_from_ne_true _ (λ e.
    true≢false (sym (owns-device_of (key_at device port)) ∙ sym (ap (owns device) (same_key-true shown.key (key_at device port) e)) ∙ h)))
apart_by device port (Gone stamp other) due state h =
    row_at-kept (key_at device port) other state (owns-other other (key_at device port) (λ same.
    true≢false (sym (owns-device_of (first_key device)) ∙ ap (λ d. owns device (first_key d)) same ∙ h)))

-- they leave each of its rows as it is
pub apart_row : (device : Device) (port : ℕ) (updates : List Update) (state : State) → AreApart device updates
    → row_at (key_at device port) (updated_all updates state) ≡ row_at (key_at device port) state
apart_row device port [] state h = refl
apart_row device port (u ∷ us) state h = apart_row device port us (updated u state) h.1 ∙ apart_by device port u.change u.due state h.0

-- ---- groups

-- a lock is another's as its device is
lock_as_device : (g h : DeviceGroup) (bus address b a : ℕ)
    → owns (lock_on g bus address) (first_key (lock_on h b a)) ≡ owns (device_in g bus address) (first_key (device_in h b a))
lock_as_device g h bus address b a = grind arith

-- ---- a device that another session has locked

module _ (state : State) (session moment : ℕ) (g : DeviceGroup) (bus address : ℕ)
    (locked : is_locked state session g bus address ≡ true) where
  -- the key is of another device
  abbrev AreTwo : Key → Type 0
  AreTwo key = (owns (device_in g bus address) key ≡ false) × (owns (lock_on g bus address) key ≡ false)

  abbrev IsApart : Update → Type 0
  IsApart update = AreTwo (key_of update.change)

  abbrev AllApart : List Update → Type 0
  AllApart updates = AllByRecursion IsApart updates

  -- a device that the session finds unlocked is another
  other_device : (h : DeviceGroup) (b a : ℕ) → is_locked state session h b a ≡ false
      → owns (device_in g bus address) (first_key (device_in h b a)) ≡ false
  other_device h b a unlocked =
      owns-other (device_in g bus address) (first_key (device_in h b a)) (λ same.
      let kinds : h ≡ g = device_group-injective h g (ap (λ (d : Device). d.group) same) in
      let too : is_locked state session h b a ≡ is_locked state session g bus address =
      λ i. is_locked state session (kinds i) ((same i).bus) ((same i).address) in
      true≢false (sym locked ∙ sym too ∙ unlocked))

  lock_apart : (h : DeviceGroup) (b a : ℕ) → is_locked state session h b a ≡ false → AreTwo (first_key (lock_on h b a))
  lock_apart h b a unlocked = (
    no_owner is_lock false (device_in g bus address) (first_key (lock_on h b a)) (device_group-is_lock g) (lock_group-is_lock h),
    lock_as_device g h bus address b a ∙ other_device h b a unlocked,
  )

  row_apart : (h : DeviceGroup) (b a port : ℕ) → is_locked state session h b a ≡ false → AreTwo (key_at (device_in h b a) port)
  row_apart h b a port unlocked = (
    other_device h b a unlocked,
    no_owner is_lock true (lock_on g bus address) (key_at (device_in h b a) port) (lock_group-is_lock g) (device_group-is_lock h),
  )

  -- what never goes is neither
  never : (key : Key) → can_go key.group ≡ false → AreTwo key
  never key h = (
    no_owner can_go true (device_in g bus address) key (device_goes g) h,
    no_owner can_go true (lock_on g bus address) key (lock_goes (lock_group g) (lock_group-is_lock g)).0 h,
  )

  removals_apart : (h : DeviceGroup) (b a : ℕ) → is_locked state session h b a ≡ false → AllApart (removals state moment h b a)
  removals_apart h b a unlocked =
      each-removals IsApart moment state h b a (λ e. lock_apart h b a unlocked) (λ e. row_apart h b a 0 unlocked)

  changes_apart : (command : Command) → NoneApplies (refusals_of state session moment command)
      → AllApart (changes_of state session moment command)
  changes_apart (InitGa ga) none =
      let row = λ (port : ℕ). row_apart devices.Ga ga.bus ga.address port none.0 in
      all_append IsApart _ _ (removals_apart devices.Ga ga.bus ga.address none.0)
      (row 0, each-range IsApart _ 1 ga.ports (λ port low high. row port))
  changes_apart other none = grind (arith, row_apart, lock_apart, never, removals_apart, all_append)

-- no command of the session touches it: its rows and its lock stay
pub locks_hold : LocksHold
locks_hold state session moment command g bus address locked port =
    let updates = (effect state session moment command).updates in
    let apart =
    of_changes state session moment (AllApart state session moment g bus address locked) tt command
    (changes_apart state session moment g bus address locked command) in (
      apart_row (device_in g bus address) port updates state (weaken updates apart (λ u t. t.0)),
      apart_row (lock_on g bus address) port updates state (weaken updates apart (λ u t. t.1)),
    )
