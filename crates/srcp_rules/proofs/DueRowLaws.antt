-- The change of a due row, and the beginning of a session, leave a whole registry whole.
use Rattle.srcp_rules.proofs.Names
use Names.{arith, ◌≡◌, ℕ, true, false, List, Option, None, IfSome, ◌==◌, nat_le, refl, ap, option_map_or, Group, Key, Mode, Value, Row}
use Names.{device_of, first_key, IsMoment, IsValueAt, is_lock, can_go, Bus, IsKeyOf, State, IsWhole, MayFall, has_row, updated, holder_in}
use Names.{session_device, device_in, due_change, began}
use Names.value
use Names.devices
use Rattle.srcp_rules.proofs.WholeLaws.{look_in}
use Rattle.srcp_rules.proofs.StepLaws.{is_gl, is_session, apart_owner, IsRowOf-put, LockedFor-other, HeldFor-other, single_put, other_put}
use Rattle.srcp_rules.proofs.StepLaws.{lock_gone}
use Rattle.srcp_rules.proofs.AddsNoRowLaws.{one_session}

-- a lock's group is no session's and can go
pub lock_goes : (g : Group) → is_lock g ≡ true → (can_go g ≡ true) × (is_session g ≡ false)
lock_goes g e = grind arith

-- a row that is due may be
pub due_may : (moment : ℕ) (row : Row) (o : Option ℕ) → row.due ≡ o → IfSome o (λ m. IsMoment m × MayFall row.shown.value)
    → option_map_or (λ m. nat_le m moment) o false ≡ true → MayFall row.shown.value
due_may moment row o e h t = grind arith

-- a lock alone is held
pub held_value : (session : ℕ) (shows : Value) (g : Group) (port : ℕ) → IsValueAt g port shows
    → option_map_or (λ holder. holder == session) (holder_in shows) false ≡ true → is_lock g ≡ true
held_value session shows g port fits e = grind arith

module _ (buses : List Bus) (moment : ℕ) (now : IsMoment moment) where
  -- ---- a session begins

  pub began_kept : (session : ℕ) (mode : Mode) (state : State) → IsKeyOf buses (first_key (session_device session)) → IsWhole buses state
      → IsWhole buses (updated (began session moment mode) state)
  began_kept session mode state place whole =
      single_put buses (session_device session) moment (value.Session mode) None state whole (one_session buses session) refl
      (IsRowOf-put buses whole.laid_out (first_key (session_device session)) moment (value.Session mode) None place now (refl, refl) tt)
      (LockedFor-other buses (first_key (session_device session)) (look_in state) refl)
      (HeldFor-other buses (value.Session mode) (look_in state) refl)

  -- ---- a moment comes

  port_back : (key : Key) (state : State) → IsKeyOf buses key → IsValueAt key.group key.port (value.GaPort false) → has_row key state ≡ true
      → IsWhole buses state
      → IsWhole buses (updated (due_change moment key (value.GaPort false)) state)
  port_back key state place fits there whole =
      other_put buses (device_of key) key.port _ _ _ state whole there (ap is_lock fits.0) refl
      (IsRowOf-put buses whole.laid_out _ _ _ _ place now fits tt)
      (λ b a e. absurd (apart_owner is_gl (device_of key) (first_key (device_in devices.Gl b a)) (ap is_gl fits.0) refl e))

  -- one row that is due
  pub due_step : (key : Key) (shows : Value) (state : State) → IsKeyOf buses key → IsValueAt key.group key.port shows → MayFall shows
      → (is_lock key.group ≡ false → has_row key state ≡ true) → IsWhole buses state
      → IsWhole buses (updated (due_change moment key shows) state)
  due_step key (value.GaPort on) state place fits may there whole = port_back key state place fits (there (ap is_lock fits.0)) whole
  due_step key (value.Lock seconds session) state place fits may there whole =
      let goes = lock_goes key.group fits.0 in
      lock_gone buses (device_of key) state whole fits.0 goes.0 goes.1
  due_step key other state place fits may there whole = absurd may
