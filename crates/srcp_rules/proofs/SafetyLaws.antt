-- A stop stops, GET shows what was set, a lock lasts, and the end of a session leaves the trains alone.
use Rattle.srcp_rules.proofs.Names
use Names.{arith, ◌≡◌, ℕ, Bool, true, false, length, List, [], nat_lt, refl, sym, ap, ◌∙◌, true≢false, Key, Device, Row}
use Names.{Accepted, device_of, first_key, key_of, owns, is_lock, all_append, Bus, DeviceGroup, SetGl, device_in, lock_on, lock_group}
use Names.{session_device, State, Update, IsWhole, row_at, is_there, updated, updated_all, functions_of, first_row, put_of, effect}
use Names.{is_locked, false_from_ne_true, same_key, same_key-true, ◌∷◌, removal, gone_at, subst, Some, power_device, fb_device, freed}
use Names.{is_held_by, each-mapped, no_owner, C414, cond, fresh_gl, gl_init, key_at, removals, replicate, ◌++◌}
use Names.{AllByRecursion, Command, InitGa, InitGl, SetFb, SetGa, SetLock, SetPower, TermGa, TermGl, TermLock, can_go, each-range}
use Names.{lock_at, option_map_or, put_at, None, ◌+◌}
use Names.value
use Names.devices
use Rattle.std.specs.Prelude.{◌≢◌}
use Rattle.std.proofs.lemmas.Bool.Decides.{nat_tests}
use Rattle.std.proofs.Common.{eq-eqb}
use Rattle.srcp_info.specs.Limits.{emergency_stop}
use Rattle.srcp_info.specs.declared.key.Group.TheVariants.{Session}
use Rattle.srcp_grammar.specs.declared.command.Drive.{Drive}
use Rattle.srcp_grammar.specs.declared.command.TimedLock.{TimedLock}
use Rattle.srcp_grammar.specs.declared.command.Command.TheVariants.{GetGl}
use Rattle.srcp_grammar.specs.Command.{kept_speed}
use Rattle.srcp_rules.specs.Effect.{functions_after, gl_put, gl_refusals, has_init, row_of_lock, row_of_port}
use Rattle.srcp_rules.specs.SafetyLaws.{DrivesAreSet, EndsChangeNoDevice, EndsKeepOtherLocks, PowersAreSet, SensorsAreSet}
use Rattle.srcp_rules.specs.SafetyLaws.{InitsStandStill, OwnLocksLast, SetsAlone, StopsStop, driving, has_lock, may_unlock}
use Rattle.srcp_rules.proofs.DueRowLaws.{held_value, lock_goes}
use Rattle.srcp_rules.proofs.DueStepLaws.{lock_port}
use Rattle.srcp_rules.proofs.FallLaws.{accepted_done, put_there}
use Rattle.srcp_rules.proofs.LockedLaws.{apart_row}
use Rattle.srcp_rules.proofs.OrderLaws.{owns-other}
use Rattle.srcp_rules.proofs.CommandLaws.{changes_of, each-removal, each-removals, of_changes}
use Rattle.srcp_rules.proofs.StateLaws.{IsKnown, each_known, row_at-put_other, row_at-put_row, row_at-put_same, updated_all-append}
use Rattle.srcp_rules.proofs.StepLaws.{device_group-is_lock, is_session, lock_group-is_lock}

-- ---- one row is set

-- a row that is set leaves every other
others_stay : (row : Row) (state : State) (key : Key) → key ≢ row.shown.key
    → row_at key (updated (put_of row) state) ≡ row_at key state
others_stay row state key apart =
    row_at-put_other key row state
    (false_from_ne_true (same_key row.shown.key key) (λ e. apart (sym (same_key-true row.shown.key key e))))

pub powers_set : PowersAreSet
powers_set state session moment power =
    let row = first_row moment (power_device power.bus) (value.Power power.on power.text) in
    let there = row_at-put_same row state in
    (refl, record { there = there; replied = λ other later. rw there; others = others_stay row state })

pub sensors_set : SensorsAreSet
sensors_set state session moment sensor =
    let row = first_row moment (fb_device sensor.bus sensor.port) (value.Fb sensor.on) in
    let there = row_at-put_same row state in
    (refl, record { there = there; replied = λ other later. rw there; others = others_stay row state })

pub drives_set : DrivesAreSet
drives_set state session moment drive e =
    let functions = functions_after drive.functions (functions_of drive.bus drive.address state) in
    let shows = value.GlState drive.mode (kept_speed drive.mode drive.v) drive.vmax functions in
    let row = driving moment drive.bus drive.address shows in
    let there = put_there (gl_refusals state session drive) row state e in
    let done = accepted_done (gl_refusals state session drive) (put_of row ∷ []) e in
    record {
      there = there;
      replied = λ other later. rw there;
      others = λ key apart. ap (λ updates. row_at key (updated_all updates state)) done ∙ others_stay row state key apart;
    }

-- ---- an emergency stop

never_more : (n : ℕ) → nat_lt n 0 ≡ false
never_more n = grind (arith, nat_tests)

stop_accepted : (state : State) (session moment : ℕ) (drive : Drive) → drive.functions ≡ []
    → is_there (device_in devices.Gl drive.bus drive.address) state ≡ true
    → is_locked state session devices.Gl drive.bus drive.address ≡ false
    → (effect state session moment (SetGl drive)).reply ≡ Accepted
stop_accepted state session moment drive none there free =
    let has = functions_of drive.bus drive.address state in
    let few : nat_lt (length has) (length drive.functions) ≡ false =
    ap (λ (given : List Bool). nat_lt (length has) (length given)) none ∙ never_more (length has) in
    rw (there, few, free)

-- an emergency stop without functions
stopped : (drive : Drive) (has : List Bool) → drive.mode ≡ emergency_stop → drive.functions ≡ []
    → value.GlState drive.mode (kept_speed drive.mode drive.v) drive.vmax (functions_after drive.functions has)
    ≡ value.GlState emergency_stop 0 drive.vmax has
stopped drive has mode none = rw (mode, none)

pub stops_stop : StopsStop
stops_stop state session moment drive mode none there free =
    let e = stop_accepted state session moment drive none there free in
    let after = updated_all (effect state session moment (SetGl drive)).updates state in (
      e,
      subst (λ shows. SetsAlone (GetGl drive.bus drive.address) (driving moment drive.bus drive.address shows) state after)
          (stopped drive (functions_of drive.bus drive.address state) mode none) (drives_set state session moment drive e),
    )

-- ---- INIT

pub inits_stand_still : InitsStandStill
inits_stand_still state session moment gl e =
    let same = has_init state devices.Gl gl.bus gl.address (gl_init gl) in
    let made = removals state moment devices.Gl gl.bus gl.address ++ fresh_gl moment gl in
    let key = key_at (device_in devices.Gl gl.bus gl.address) 1 in
    let locked = (is_locked state session devices.Gl gl.bus gl.address, C414) ∷ [] in
    ap (λ updates. row_at key (updated_all updates state)) (accepted_done locked (cond same [] made) e)
    ∙ by same
  where
    by : (same : Bool)
        → row_at (key_at (device_in devices.Gl gl.bus gl.address) 1)
        (updated_all (cond same [] (removals state moment devices.Gl gl.bus gl.address ++ fresh_gl moment gl)) state)
        ≡ cond same (row_at (key_at (device_in devices.Gl gl.bus gl.address) 1) state)
        (Some (driving moment gl.bus gl.address (value.GlState 1 0 0 (replicate gl.functions false))))
    by true = refl
    by false =
        rw updated_all-append
        (row_at-put_same (driving moment gl.bus gl.address (value.GlState 1 0 0 (replicate gl.functions false))) _)

-- ---- a session's own lock

module _ (state : State) (session moment : ℕ) (g : DeviceGroup) (bus address : ℕ)
    (held : has_lock state session g bus address ≡ true) where
  abbrev IsBeside : Update → Type 0
  IsBeside update = owns (lock_on g bus address) (key_of update.change) ≡ false

  abbrev AreBeside : List Update → Type 0
  AreBeside updates = AllByRecursion IsBeside updates

  -- what is no lock is beside it
  row_beside : (h : DeviceGroup) (b a port : ℕ) → owns (lock_on g bus address) (key_at (device_in h b a) port) ≡ false
  row_beside h b a port =
      no_owner is_lock true (lock_on g bus address) (key_at (device_in h b a) port) (lock_group-is_lock g) (device_group-is_lock h)

  never_beside : (key : Key) → can_go key.group ≡ false → owns (lock_on g bus address) key ≡ false
  never_beside key h =
      no_owner can_go true (lock_on g bus address) key (lock_goes (lock_group g) (lock_group-is_lock g)).0 h

  -- and so is another lock
  lock_beside : (h : DeviceGroup) (b a : ℕ) → Some (lock_on h b a) ≢ Some (lock_on g bus address)
      → owns (lock_on g bus address) (first_key (lock_on h b a)) ≡ false
  lock_beside h b a other = owns-other (lock_on g bus address) (first_key (lock_on h b a)) (λ same. other (ap Some same))

  removals_beside : (h : DeviceGroup) (b a : ℕ) → Some (lock_on h b a) ≢ Some (lock_on g bus address)
      → AreBeside (removals state moment h b a)
  removals_beside h b a other =
      each-removals IsBeside moment state h b a (λ there. lock_beside h b a other) (λ there. row_beside h b a 0)

  -- what leaves the row of the lock leaves the session the lock
  beside_held : (updates : List Update) → AreBeside updates → has_lock (updated_all updates state) session g bus address ≡ true
  beside_held updates beside =
      ap (λ o. option_map_or (is_held_by session) o false) (apart_row (lock_on g bus address) 0 updates state beside) ∙ held

  one_held : (update : Update) → IsBeside update → has_lock (updated update state) session g bus address ≡ true
  one_held update beside = beside_held (update ∷ []) (beside, tt)

  -- a lock that the session sets is its own
  set_held : (target : TimedLock)
      → has_lock (updated_all (put_of (row_of_lock moment session target) ∷ []) state) session g bus address ≡ true
  set_held target =
      ap (λ o. option_map_or (is_held_by session) o false)
      (row_at-put_row (first_key (lock_on g bus address)) (row_of_lock moment session target) state)
      ∙ by (same_key (first_key (lock_at target.target)) (first_key (lock_on g bus address)))
    where
      by : (same : Bool)
          → option_map_or (is_held_by session)
          (cond same (Some (row_of_lock moment session target)) (row_at (first_key (lock_on g bus address)) state)) false
          ≡ true
      by true = eq-eqb session session refl
      by false = held

  changes_held : (command : Command) → may_unlock command ≢ Some (lock_on g bus address)
      → has_lock (updated_all (changes_of state session moment command) state) session g bus address ≡ true
  changes_held (SetLock target) other = set_held target
  changes_held (InitGl gl) other =
      beside_held _
      (all_append IsBeside _ _ (removals_beside devices.Gl gl.bus gl.address other)
      (row_beside devices.Gl gl.bus gl.address 0, (row_beside devices.Gl gl.bus gl.address 1, tt)))
  changes_held (InitGa ga) other =
      let row = λ (port : ℕ). row_beside devices.Ga ga.bus ga.address port in
      beside_held _
      (all_append IsBeside _ _ (removals_beside devices.Ga ga.bus ga.address other)
      (row 0, each-range IsBeside _ 1 ga.ports (λ port low high. row port)))
  changes_held (TermGl b a) other = beside_held _ (removals_beside devices.Gl b a other)
  changes_held (TermGa b a) other = beside_held _ (removals_beside devices.Ga b a other)
  changes_held (TermLock target) other =
      one_held (gone_at moment (lock_at target)) (lock_beside target.group target.bus target.address other)
  changes_held (SetPower power) other =
      one_held (put_at moment (first_key (power_device power.bus)) (value.Power power.on power.text) None)
      (never_beside (first_key (power_device power.bus)) refl)
  changes_held (SetFb sensor) other =
      one_held (put_at moment (first_key (fb_device sensor.bus sensor.port)) (value.Fb sensor.on) None)
      (never_beside (first_key (fb_device sensor.bus sensor.port)) refl)
  changes_held (SetGl drive) other = one_held (gl_put state moment drive) (row_beside devices.Gl drive.bus drive.address 1)
  changes_held (SetGa switch) other =
      one_held (put_of (row_of_port moment switch)) (row_beside devices.Ga switch.bus switch.address (1 + switch.port))
  changes_held command other = held

pub own_locks_last : OwnLocksLast
own_locks_last state session moment command g bus address held other =
    of_changes state session moment (λ updates. has_lock (updated_all updates state) session g bus address ≡ true) held command
    (λ none. changes_held state session moment g bus address held command other)

-- ---- the end of a session

module _ (buses : List Bus) (state : State) (session moment : ℕ) (whole : IsWhole buses state) where
  -- what a row that the session holds is
  held_lock : (row : Row) → IsKnown buses state row → is_held_by session row ≡ true → is_lock row.shown.key.group ≡ true
  held_lock row known e = held_value session row.shown.value row.shown.key.group row.shown.key.port known.0.shown.value e

  -- what neither is a lock of the session nor its row stays
  left : (key : Key)
      → ((row : Row) → IsKnown buses state row → is_held_by session row ≡ true
      → owns (device_of key) (first_key (device_of row.shown.key)) ≡ false)
      → owns (device_of key) (first_key (session_device session)) ≡ false
      → row_at key (updated_all (freed state session moment) state) ≡ row_at key state
  left key locks own =
      let Apart = λ (update : Update). owns (device_of key) (key_of update.change) ≡ false in
      apart_row (device_of key) key.port (freed state session moment) state
      (all_append Apart _ (removal state moment (session_device session))
      (each-mapped (IsKnown buses state) Apart (is_held_by session) (λ row. gone_at moment (device_of row.shown.key)) locks state
      (each_known buses state whole))
      (each-removal Apart moment state (session_device session) (λ there. own)))

  device_stays : (key : Key) → is_lock key.group ≡ false → key.group ≢ Session
      → row_at key (updated_all (freed state session moment) state) ≡ row_at key state
  device_stays key no_lock no_session =
      left key
      (λ row known e. no_owner is_lock false (device_of key) (first_key (device_of row.shown.key)) no_lock (held_lock row known e))
      (owns-other (device_of key) (first_key (session_device session)) (λ e. no_session (sym (ap (λ (d : Device). d.group) e))))

  -- a lock that the session holds has the one row of its device
  lock_row : (row : Row) (g : DeviceGroup) (bus address : ℕ) → IsKnown buses state row → is_held_by session row ≡ true
      → device_of row.shown.key ≡ lock_on g bus address → row_at (first_key (lock_on g bus address)) state ≡ Some row
  lock_row row g bus address known e same =
      let port = lock_port row.shown.value row.shown.key known.0.shown.value (held_lock row known e) in
      let key : first_key (lock_on g bus address) ≡ row.shown.key =
      λ i. record { bus = (sym same i).bus; group = (sym same i).group; address = (sym same i).address; port = sym port i } in
      ap (λ k. row_at k state) key ∙ known.1

  lock_stays : (g : DeviceGroup) (bus address : ℕ)
      → ((row : Row) → row_at (first_key (lock_on g bus address)) state ≡ Some row → is_held_by session row ≡ false)
      → row_at (first_key (lock_on g bus address)) (updated_all (freed state session moment) state)
      ≡ row_at (first_key (lock_on g bus address)) state
  lock_stays g bus address of_another =
      left (first_key (lock_on g bus address))
      (λ row known e. owns-other (lock_on g bus address) (first_key (device_of row.shown.key)) (λ same.
      true≢false (sym e ∙ of_another row (lock_row row g bus address known e same))))
      (no_owner is_session false (lock_on g bus address) (first_key (session_device session))
      (lock_goes (lock_group g) (lock_group-is_lock g)).1 refl)

pub ends_change_no_device : EndsChangeNoDevice
ends_change_no_device buses state session moment key whole = device_stays buses state session moment whole key

pub ends_keep_other_locks : EndsKeepOtherLocks
ends_keep_other_locks buses state session moment g bus address whole = lock_stays buses state session moment whole g bus address
