-- A device made for the first time, or afresh.
use Rattle.srcp_rules.proofs.Names
use Names.{arith, cases_Bool, inl, inr, false_from_ne_true, ◌≡◌, ℕ, ◌<◌, true, false, cond, is_some, List, [], ◌∷◌, ◌++◌, map, sym, ap, ◌∙◌}
use Names.{true≢false, Row, Change, C414, Value, first_key, owns, Bus, DeviceGroup, row_count, device_in, lock_on, State, Update, IsWhole}
use Names.{is_there, put_of, updated_all, accepted, unless_refused, gone_at, is_locked, removal, removals, AreRowsOf, AreNewRowsOf}
use Names.{put_rows}
use Rattle.std.proofs.lemmas.List.{map-append}
use Rattle.srcp_rules.specs.Effect.{has_init, init_device}
use Rattle.srcp_rules.proofs.StateLaws.{row_at-kept, updated_all-append}
use Rattle.srcp_rules.proofs.StepLaws.{lock_on_gone}
use Rattle.srcp_rules.proofs.AddingLaws.{none_there}
use Rattle.srcp_rules.proofs.PutRowsLaws.{updated_all-puts, put_rows-without}
use Rattle.std.proofs.Math.Bool.{and-false}
use Rattle.std.proofs.lemmas.Simd.{map-map}

abbrev change_of : Update → Change
change_of update = update.change

-- a lock is none of its device's rows
lock_apart : (g : DeviceGroup) (bus address : ℕ) → owns (lock_on g bus address) (first_key (device_in g bus address)) ≡ false
lock_apart g bus address = grind (arith, and-false)

module _ (buses : List Bus) (state : State) (whole : IsWhole buses state) (moment : ℕ) (g : DeviceGroup) (bus address : ℕ) where
  -- the registry without the lock
  abbrev pub unlocked : State
  unlocked = updated_all (removal state moment (lock_on g bus address)) state

  pub unlocked_whole : IsWhole buses unlocked
  unlocked_whole = elim (cases_Bool (is_there (lock_on g bus address) state)) [
    | inl e ↦ rw e (lock_on_gone buses g bus address state whole)
    | inr e ↦ rw e whole
  ]

  pub unlocked_there : is_there (device_in g bus address) state ≡ true → is_there (device_in g bus address) unlocked ≡ true
  unlocked_there there = elim (cases_Bool (is_there (lock_on g bus address) state)) [
    | inl e ↦ rw e (ap is_some
        (row_at-kept (first_key (device_in g bus address)) (lock_on g bus address) state (lock_apart g bus address)) ∙ there)
    | inr e ↦ rw e there
  ]

  -- a device that is not there has no lock
  pub removals_none : is_there (device_in g bus address) state ≡ false → removals state moment g bus address ≡ []
  removals_none absent =
      rw (
        false_from_ne_true (is_there (lock_on g bus address) state)
            (λ e. true≢false (sym (whole.locked g bus address e) ∙ absent)),
        absent,
      )

  changes_puts : (rows : List Row) → map (λ row. (put_of row).change) rows ≡ map change_of (map put_of rows)
  changes_puts rows = sym (map-map change_of put_of rows)

  pub changes_made : (rows : List Row) → is_there (device_in g bus address) state ≡ false
      → map (λ row. (put_of row).change) rows ≡ map change_of (removals state moment g bus address ++ map put_of rows)
  changes_made rows absent = rw (removals_none absent) (changes_puts rows)

  pub rows_made : (rows : List Row) → is_there (device_in g bus address) state ≡ false
      → put_rows rows state ≡ updated_all (removals state moment g bus address ++ map put_of rows) state
  rows_made rows absent = rw (removals_none absent) (sym (updated_all-puts rows state))

  pub changes_remade : (rows : List Row) → is_there (device_in g bus address) state ≡ true
      → (map change_of (removal state moment (lock_on g bus address)) ++ (gone_at moment (device_in g bus address)).change ∷ [])
      ++ map (λ row. (put_of row).change) rows
      ≡ map change_of (removals state moment g bus address ++ map put_of rows)
  changes_remade rows there = rw (there, map-append, map-append, changes_puts rows)

  pub rows_remade : (rows : List Row) → is_there (device_in g bus address) state ≡ true → AreRowsOf buses (device_in g bus address) rows
      → put_rows rows unlocked ≡ updated_all (removals state moment g bus address ++ map put_of rows) state
  rows_remade rows there all =
      rw (there, updated_all-append, updated_all-append, updated_all-puts)
      (sym (put_rows-without buses (device_in g bus address) rows all unlocked unlocked_whole))

  pub added : (rows : List Row) → AreRowsOf buses (device_in g bus address) rows → 0 < row_count buses (device_in g bus address)
      → is_there (device_in g bus address) state ≡ false → AreNewRowsOf buses state (device_in g bus address) rows
  added rows all some absent = record { all = all; free = none_there buses state whole (device_in g bus address) absent some }

-- a device that nobody else has locked, and that has other parameters or is not there, is made
pub init_accepted : (state : State) (session moment : ℕ) (g : DeviceGroup) (bus address : ℕ) (init : Value) (fresh : List Update)
    → is_locked state session g bus address ≡ false → has_init state g bus address init ≡ false
    → accepted (removals state moment g bus address ++ fresh) ≡ init_device state session moment g bus address init fresh
init_accepted state session moment g bus address init fresh free other =
    let made = removals state moment g bus address ++ fresh in
    λ i. unless_refused ((sym free i, C414) ∷ []) (cond (sym other i) [] made)
