-- The first change of a moment beyond a cursor, and the first of a session's end.
use Rattle.srcp_rules.proofs.Names
use Names.{find-map, cases_Bool, inl, inr, same_Some, arith, ◌≡◌, ℕ, Bool, true, not, ◌&&◌, cond, is_some, List, [], ◌∷◌, ◌++◌, map, filter}
use Names.{find, option_map, Some, None, refl, sym, ap, subst, ◌∙◌, second_so, Key, Value, Row, Cursor, device_of, first_key, key_of}
use Names.{has_reached, IsMoment, IsValueAt, IsWellFormed, Bus, session_device, State, Update, AddsNoRow, IsWhole, MayFall, row_at}
use Names.{is_there, updated, gone_at, due_change, first_beyond, is_due, is_held_by, freed, found_holds, find_passes, weaken, slice_get}
use Names.value
use Rattle.srcp_rules.specs.Due.{due_after}
use Rattle.srcp_grammar.proofs.FindLaws.{find_same}
use Rattle.srcp_rules.proofs.StateLaws.{IsKnown, each_known}
use Rattle.srcp_rules.proofs.CursorLaws.{find-both}
use Rattle.srcp_rules.proofs.DueRowLaws.{due_may, due_step}
use Rattle.srcp_rules.proofs.ToldLaws.{change_told, freed_told}
use Rattle.srcp_rules.proofs.FreedStepLaws.{freed_later}
use Rattle.srcp_rules.proofs.AddsNoRowLaws.{AddsNoRow-from_put, due_put}
use Rattle.srcp_rules.specs.Laws.{CanBeTold}

-- a lock has one row
lock_key : (key : Key) → key.port ≡ 0 → first_key (device_of key) ≡ key
lock_key key h = λ i. record { bus = key.bus; group = key.group; address = key.address; port = sym h i }

-- the change that a row brings stands at the row
pub change_key : (moment : ℕ) (key : Key) (shows : Value) → MayFall shows → IsValueAt key.group key.port shows
    → key_of (due_change moment key shows).change ≡ key
change_key moment key shows may fits = grind (arith, lock_key)

module _ (buses : List Bus) (state : State) (whole : IsWhole buses state) (moment : ℕ) (now : IsMoment moment) where
  abbrev brings : Row → Update
  brings row = due_change moment row.shown.key row.shown.value

  due_key : (row : Row) → IsKnown buses state row → is_due moment row ≡ true → key_of (brings row).change ≡ row.shown.key
  due_key row k e = change_key moment row.shown.key row.shown.value (due_may moment row row.due refl k.0.due e) k.0.shown.value

  module _ (cursor : Cursor) where
    -- the first change beyond the cursor is that of the first row beyond it that is due
    due_after-first : due_after state moment cursor ≡ option_map brings (first_beyond cursor (is_due moment) state)
    due_after-first =
        find-map brings (λ update. not (has_reached cursor (key_of update.change))) (filter (is_due moment) state)
        ∙ ap (option_map brings)
        (sym (find-both (is_due moment) (λ row. not (has_reached cursor (key_of (brings row).change))) state)
        ∙ find_same (λ row. is_due moment row && not (has_reached cursor (key_of (brings row).change)))
        (λ row. not (has_reached cursor row.shown.key) && is_due moment row) state
        (weaken state (each_known buses state whole) (λ row k. grind (arith, due_key row k))))

-- the row whose change is the first of a moment beyond a cursor
pub record IsNextDue (buses : List Bus) (state : State) (moment : ℕ) (cursor : Cursor) (row : Row) : Type 0 where
  pub first : due_after state moment cursor ≡ Some (due_change moment row.shown.key row.shown.value)
  pub there : row_at row.shown.key state ≡ Some row
  pub may : MayFall row.shown.value
  pub whole : IsWhole buses (updated (due_change moment row.shown.key row.shown.value) state)
  pub told : IsWellFormed (due_change moment row.shown.key row.shown.value).change
  pub adds : AddsNoRow state (due_change moment row.shown.key row.shown.value).change

module _ {buses : List Bus} {state : State} (whole : IsWhole buses state) (moment : ℕ) (now : IsMoment moment) (cursor : Cursor) where
  pub next_due : (row : Row) → Some row ≡ first_beyond cursor (is_due moment) state → IsNextDue buses state moment cursor row
  next_due row is =
      let test = λ (other : Row). not (has_reached cursor other.shown.key) && is_due moment other in
      let key = row.shown.key in
      let shows = row.shown.value in
      let k = found_holds _ test state (each_known buses state whole) row (sym is) in
      let fits = k.0.shown in
      let may =
      due_may moment row row.due refl k.0.due
      (second_so (not (has_reached cursor key)) (is_due moment row) (find_passes test state row (sym is))) in
      record {
        first = due_after-first buses state whole moment now cursor ∙ ap (option_map (brings buses state whole moment now)) (sym is);
        there = k.1;
        may = may;
        whole = due_step buses moment now key shows state k.0.place fits.value may (λ other. ap is_some k.1) whole;
        told = change_told buses state whole moment now key shows fits.address fits.value may;
        adds = AddsNoRow-from_put buses state whole (due_change moment key shows).change (due_put buses moment key shows k.0.place);
      }

  pub none_due : None ≡ first_beyond cursor (is_due moment) state → due_after state moment cursor ≡ None
  none_due is = due_after-first buses state whole moment now cursor ∙ ap (option_map (brings buses state whole moment now)) (sym is)

-- ---- the end of a session

found_first : {X : Type 0} (p : X → Bool) (xs : List X) (x : X) → find p xs ≡ Some x → (rest : List X) × (filter p xs ≡ x ∷ rest)
found_first p [] x e = let bad : None ≡ Some x = e in absurd (let f : ⊥ = cc in f)
found_first p (y ∷ xs) x e = elim (cases_Bool (p y)) [
  | inl t ↦ (filter p xs, rw (t, same_Some y x (rw t at e)))
  | inr t ↦ (let rest = found_first p xs x (rw t at e) in (rest.0, rw t rest.1))
]

found_none : {X : Type 0} (p : X → Bool) (xs : List X) → find p xs ≡ None → filter p xs ≡ []
found_none p [] e = refl
found_none p (y ∷ xs) e = grind (arith, found_none p xs)

module _ (state : State) (session moment : ℕ) where
  abbrev gone_rows : List Row → List Update
  gone_rows rows = map (λ row. gone_at moment (device_of row.shown.key)) rows

  abbrev own : Bool → List Update
  own there = cond there (gone_at moment (session_device session) ∷ []) []

  -- the first lock of the session goes first
  freed_held : (row : Row) → find (is_held_by session) state ≡ Some row
      → (later : List Update) × (freed state session moment ≡ gone_at moment (device_of row.shown.key) ∷ later)
  freed_held row found =
      let first = found_first (is_held_by session) state row found in (
        gone_rows first.0 ++ own (is_there (session_device session) state),
        ap (λ rows. gone_rows rows ++ own (is_there (session_device session) state)) first.1,
      )

  -- if it has none its own row goes
  pub freed_own : (there : Bool) → None ≡ find (is_held_by session) state → is_there (session_device session) state ≡ there
      → freed state session moment ≡ own there
  freed_own there none e =
      ap (λ rows. gone_rows rows ++ own (is_there (session_device session) state)) (found_none (is_held_by session) state (sym none))
      ∙ ap own e

-- the first change of a session's end, after which the registry is whole
pub record IsNextFreed (buses : List Bus) (state : State) (session moment : ℕ) (update : Update) : Type 0 where
  pub first : slice_get (freed state session moment) 0 ≡ Some update
  pub whole : IsWhole buses (updated update state)
  pub told : IsWellFormed update.change

module _ {buses : List Bus} {state : State} (whole : IsWhole buses state) (session moment : ℕ) (now : IsMoment moment) where
  next_freed : (update : Update) (later : List Update) → freed state session moment ≡ update ∷ later
      → IsNextFreed buses state session moment update
  next_freed update later e = record {
    first = ap (λ us. slice_get us 0) e;
    whole = (freed_later buses state whole moment session update later e).0;
    told = (subst CanBeTold e (freed_told buses state whole moment now session)).0;
  }

  pub next_lock : (row : Row) → Some row ≡ find (is_held_by session) state
      → IsNextFreed buses state session moment (gone_at moment (device_of row.shown.key))
  next_lock row found =
      let held = freed_held state session moment row (sym found) in next_freed (gone_at moment (device_of row.shown.key)) held.0 held.1

  pub next_own : None ≡ find (is_held_by session) state → is_there (session_device session) state ≡ true
      → IsNextFreed buses state session moment (gone_at moment (session_device session))
  next_own none there = next_freed (gone_at moment (session_device session)) [] (freed_own state session moment true none there)

-- a value that may be due and is no lock is a port
pub port_value : (shows : Value) → MayFall shows → ((seconds session : ℕ) → shows ≡ value.Lock seconds session → ⊥)
    → (on : Bool) × (shows ≡ value.GaPort on)
port_value shows may other = grind arith
