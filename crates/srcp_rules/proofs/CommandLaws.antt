-- Laws of every command follow from the laws of refusals, of rows that GET shows, and of accepted changes.
use Rattle.srcp_rules.proofs.Names
use Names.{cases_Bool, inl, inr, ◌≡◌, ℕ, ◌+◌, Bool, true, false, cond, ◌==◌, List, [], ◌∷◌, ◌++◌, Option, Some, None, refl, arith}
use Names.{AllByRecursion, Key, Device, Row, Code, C414, C416, Accepted, first_key, all_append, DeviceGroup, Command, SetPower, SetGl}
use Names.{CheckGl, InitGl, TermGl, SetGa, CheckGa, InitGa, TermGa, SetFb, SetLock, CheckLock, TermLock, key_at, session_device}
use Names.{power_device, fb_device, device_in, lock_at, lock_on, State, Update, row_at, is_there, Effect, effect, accepted, refused}
use Names.{unless_refused, put_of, option_map_or, not, refusals, put_at, gone_at, removal, removals, is_locked, gl_init, fresh_gl, fresh_ga}
use Names.value
use Names.devices
use Rattle.srcp_info.specs.declared.change.Code.TheVariants.{C415}
use Rattle.srcp_info.specs.declared.change.Reply.TheVariants.{Shows}
use Rattle.srcp_grammar.specs.declared.command.Command.TheVariants.{GetSession, TermSession, GetPower, GetGl, GetGa, GetFb, GetLock}
use Rattle.srcp_rules.specs.Effect.{gl_refusals, has_init, gl_put, row_of_port, row_of_lock}

-- no refusal of the list applies
abbrev pub NoneApplies : List (Bool × Code) → Type 0
NoneApplies refusals = AllByRecursion (λ refusal. refusal.0 ≡ false) refusals

-- what holds of each refusal holds of a list of them, if it holds of what is done where none applies
pub unless_made : (P : Effect → Type 0) → ((code : Code) → P (refused code)) → (refusals : List (Bool × Code)) (updates : List Update)
    → (NoneApplies refusals → P (accepted updates)) → P (unless_refused refusals updates)
unless_made P refuses [] updates h = h tt
unless_made P refuses (refusal ∷ others) updates h = elim (cases_Bool refusal.0) [
  | inl e ↦ rw e (refuses refusal.1)
  | inr e ↦ rw e (unless_made P refuses others updates (λ more. h (e, more)))
]

module _ (state : State) (session moment : ℕ) where
  -- what may refuse a command that changes something
  abbrev pub refusals_of : Command → List (Bool × Code)
  refusals_of (SetGl drive) = gl_refusals state session drive
  refusals_of (InitGl gl) = (is_locked state session devices.Gl gl.bus gl.address, C414) ∷ []
  refusals_of (TermGl bus address) = refusals state session devices.Gl bus address
  refusals_of (SetGa switch) = refusals state session devices.Ga switch.bus switch.address
  refusals_of (InitGa ga) = (is_locked state session devices.Ga ga.bus ga.address, C414) ∷ []
  refusals_of (TermGa bus address) = refusals state session devices.Ga bus address
  refusals_of (SetLock lock) = refusals state session lock.target.group lock.target.bus lock.target.address
  refusals_of (TermLock target) =
      (not (is_there (lock_at target) state), C416) ∷ (is_locked state session target.group target.bus target.address, C414) ∷ []
  refusals_of other = []

  -- and what it changes, an INIT unless it finds its device as it would make it
  abbrev pub changes_of : Command → List Update
  changes_of (SetPower power) = put_at moment (first_key (power_device power.bus)) (value.Power power.on power.text) None ∷ []
  changes_of (SetGl drive) = gl_put state moment drive ∷ []
  changes_of (InitGl gl) = removals state moment devices.Gl gl.bus gl.address ++ fresh_gl moment gl
  changes_of (TermGl bus address) = removals state moment devices.Gl bus address
  changes_of (SetGa switch) = put_of (row_of_port moment switch) ∷ []
  changes_of (InitGa ga) = removals state moment devices.Ga ga.bus ga.address ++ fresh_ga moment ga
  changes_of (TermGa bus address) = removals state moment devices.Ga bus address
  changes_of (SetFb sensor) = put_at moment (first_key (fb_device sensor.bus sensor.port)) (value.Fb sensor.on) None ∷ []
  changes_of (SetLock lock) = put_of (row_of_lock moment session lock) ∷ []
  changes_of (TermLock target) = gone_at moment (lock_at target) ∷ []
  changes_of other = []

  module _ (P : Effect → Type 0) (refuses : (code : Code) → P (refused code)) (nothing : P (accepted []))
      (ends : P (record { reply = Accepted; updates = []; ends = true }))
      (shows : (key : Key) (row : Row) → row_at key state ≡ Some row → P (record { reply = Shows row.shown; updates = []; ends = false }))
    where
      shown : (key : Key) (o : Option Row) → row_at key state ≡ o
          → P (option_map_or (λ row. record { reply = Shows row.shown; updates = []; ends = false }) o (refused C416))
      shown key None e = refuses C416
      shown key (Some row) e = shows key row e

      ended : (own : Bool) → P (cond own (record { reply = Accepted; updates = []; ends = true }) (refused C415))
      ended own = grind (arith, ends, refuses C415)

      made : (command : Command) (updates : List Update) → (NoneApplies (refusals_of command) → P (accepted updates))
          → P (unless_refused (refusals_of command) updates)
      made command = unless_made P refuses (refusals_of command)

      tried : (refusals : List (Bool × Code)) → P (unless_refused refusals [])
      tried refusals = unless_made P refuses refusals [] (λ none. nothing)

      -- an INIT that is not refused
      new : (same : Bool) (updates : List Update) → P (accepted updates) → P (accepted (cond same [] updates))
      new same updates h = grind (arith, nothing)

      pub of_effect : (command : Command) → (NoneApplies (refusals_of command) → P (accepted (changes_of command)))
          → P (effect state session moment command)
      of_effect (GetSession id) h = shown (first_key (session_device id)) _ refl
      of_effect (TermSession None) h = ends
      of_effect (TermSession (Some id)) h = ended (id == session)
      of_effect (GetPower bus) h = shown (first_key (power_device bus)) _ refl
      of_effect (SetPower power) h = h tt
      of_effect (GetGl bus address) h = shown (key_at (device_in devices.Gl bus address) 1) _ refl
      of_effect (SetGl drive) h = made (SetGl drive) _ h
      of_effect (CheckGl drive) h = tried (refusals_of (SetGl drive))
      of_effect (InitGl gl) h = made (InitGl gl) _ (λ none. new (has_init state devices.Gl gl.bus gl.address (gl_init gl)) _ (h none))
      of_effect (TermGl bus address) h = made (TermGl bus address) _ h
      of_effect (GetGa bus address port) h = shown (key_at (device_in devices.Ga bus address) (1 + port)) _ refl
      of_effect (SetGa switch) h = made (SetGa switch) _ h
      of_effect (CheckGa switch) h = tried (refusals_of (SetGa switch))
      of_effect (InitGa ga) h =
          made (InitGa ga) _ (λ none. new (has_init state devices.Ga ga.bus ga.address (value.GaInit ga.letter)) _ (h none))
      of_effect (TermGa bus address) h = made (TermGa bus address) _ h
      of_effect (GetFb bus port) h = shown (first_key (fb_device bus port)) _ refl
      of_effect (SetFb sensor) h = h tt
      of_effect (GetLock target) h = shown (first_key (lock_at target)) _ refl
      of_effect (SetLock lock) h = made (SetLock lock) _ h
      of_effect (CheckLock lock) h = tried (refusals_of (SetLock lock))
      of_effect (TermLock target) h = made (TermLock target) _ h
      of_effect other h = nothing

  -- the same of its changes alone
  pub of_changes : (P : List Update → Type 0) → P [] → (command : Command)
      → (NoneApplies (refusals_of command) → P (changes_of command)) → P (effect state session moment command).updates
  of_changes P nothing = of_effect (λ did. P did.updates) (λ code. nothing) nothing nothing (λ key row e. nothing)

-- ---- what holds of each of several changes

module _ (P : Update → Type 0) (moment : ℕ) where
  pub each-removal : (state : State) (device : Device) → (is_there device state ≡ true → P (gone_at moment device))
      → AllByRecursion P (removal state moment device)
  each-removal state device h = grind arith

  pub each-removals : (state : State) (g : DeviceGroup) (bus address : ℕ)
      → (is_there (lock_on g bus address) state ≡ true → P (gone_at moment (lock_on g bus address)))
      → (is_there (device_in g bus address) state ≡ true → P (gone_at moment (device_in g bus address)))
      → AllByRecursion P (removals state moment g bus address)
  each-removals state g bus address lock device =
      all_append P (removal state moment (lock_on g bus address)) (removal state moment (device_in g bus address))
      (each-removal state (lock_on g bus address) lock) (each-removal state (device_in g bus address) device)
