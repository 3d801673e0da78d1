-- The changes of a moment come by rising key, so one walk carries them out.
use Rattle.srcp_core.proofs.Names.{not, slice_get, Option, Some, None, option_map, option_map_or, refl, ap, subst, ◌∙◌, AllByRecursion}
use Rattle.srcp_core.proofs.Names.{Less, Change, Cursor, Start, After, Row, Key, IsRisingBy, key_cmp, has_reached, IsMoment}
use Rattle.srcp_core.proofs.Names.{after_from_less, all_weaker, Bus, due, State, Update, IsRowOf, IsWhole, updated, each_filtered, each_of}
use Rattle.srcp_core.proofs.Names.{row_key, due_told, Place, CanBeTold}
use Rattle.std.specs.Prelude.{◌≡◌, ℕ, true, false, List, [], ◌∷◌, map, filter, find}
use Rattle.srcp_info.specs.Key.{key_of}
use Rattle.srcp_info.proofs.ClientLaws.{rising_filter}
use Rattle.srcp_rules.specs.Due.{due_after, due_change, is_due}
use Rattle.srcp_rules.specs.State.{updated_if}
use Rattle.srcp_rules.proofs.DueLaws.{due_may}
use Rattle.srcp_rules.proofs.DueStepLaws.{due_later}
use Rattle.srcp_rules.proofs.NextLaws.{change_key}
use Rattle.srcp_core.proofs.Invariants.ChangesOneByOne.{GoesOn, Stops, change_in, goes_on, stops}

abbrev pub update_key : Update → Key
update_key update = key_of update.change

-- the cursor has reached none of the changes
abbrev pub AreAhead : Cursor → List Update → Type 0
AreAhead at updates = AllByRecursion (λ update. has_reached at (update_key update) ≡ false) updates

pub all_ahead : (updates : List Update) → AreAhead Start updates
all_ahead [] = tt
all_ahead (update ∷ updates) = (refl, all_ahead updates)

-- the first of them is the first beyond the cursor
pub first_ahead : (at : Cursor) (updates : List Update) → AreAhead at updates
    → find (λ update. not (has_reached at (update_key update))) updates ≡ slice_get updates 0
first_ahead at [] h = refl
first_ahead at (update ∷ updates) h = rw h.0 refl

-- past the first the others are ahead
pub others_ahead : (update : Update) (updates : List Update) → IsRisingBy update_key (update ∷ updates)
    → AreAhead (After (update_key update)) updates
others_ahead update updates rising =
    all_weaker (λ other. key_cmp (update_key update) (update_key other) ≡ Less)
    (λ other. has_reached (After (update_key update)) (update_key other) ≡ false)
    (λ other less. ap not (after_from_less (update_key other) (update_key update) less)) updates rising.0

-- ---- they rise

module _ (brings : Row → Update) where
  abbrev IsAtRow : Row → Type 0
  IsAtRow row = update_key (brings row) ≡ row.shown.key

  brought_above : (row : Row) (rows : List Row) → IsAtRow row → AllByRecursion (λ other. key_cmp row.shown.key other.shown.key ≡ Less) rows
      → AllByRecursion IsAtRow rows
      → AllByRecursion (λ other. key_cmp (update_key (brings row)) (update_key other) ≡ Less) (map brings rows)
  brought_above row [] here above same = tt
  brought_above row (other ∷ rows) here above same = (rw (here, same.0) above.0, brought_above row rows here above.1 same.1)

  brought_rise : (rows : List Row) → AllByRecursion IsAtRow rows → IsRisingBy row_key rows → IsRisingBy update_key (map brings rows)
  brought_rise [] same rising = tt
  brought_rise (row ∷ rows) same rising = (brought_above row rows same.0 rising.0 same.1, brought_rise rows same.1 rising.1)

pub due_rise : (buses : List Bus) (state : State) → IsWhole buses state → (moment : ℕ) → IsRisingBy update_key (due state moment)
due_rise buses state whole moment =
    let brings = λ (row : Row). due_change moment _ _ in
    brought_rise brings (filter (is_due moment) state)
    (all_weaker (λ row. IsRowOf buses row × (is_due moment row ≡ true)) (IsAtRow brings)
    (λ row h. change_key moment row.shown.key row.shown.value (due_may moment row row.due refl h.0.due h.1) h.0.shown.value)
    (filter (is_due moment) state)
    (each_filtered (IsRowOf buses) (is_due moment) state (each_of buses state whole)))
    (rising_filter row_key (is_due moment) state whole.rising)

-- ---- one change after another

module _ (buses : List Bus) (moment : ℕ) (now : IsMoment moment) where
  abbrev pub brings : State → List Update
  brings state = due state moment

  abbrev pub later : (state : State) → IsWhole buses state → (update : Update) (updates : List Update) → brings state ≡ update ∷ updates
      → IsWhole buses (updated update state) × (brings (updated update state) ≡ updates)
  later state whole = due_later buses state whole moment now

  abbrev pub tells : (state : State) → IsWhole buses state → CanBeTold (brings state)
  tells state whole = due_told buses state whole moment now

  module _ (state : State) (at : Cursor) (ahead : AreAhead at (due state moment)) where
    first : due_after state moment at ≡ slice_get (due state moment) 0
    first = first_ahead at _ ahead

    after_first : (new : State) → new ≡ updated_if (due_after state moment at) state
        → new ≡ option_map_or (λ update. updated update state) (slice_get (due state moment) 0) state
    after_first new after = after ∙ ap (λ (o : Option Update). option_map_or (λ update. updated update state) o state) first

    -- after the first of the changes that the moment brings beyond the cursor
    pub due_goes_on : IsWhole buses state → (change : Change) (new : State) (places : List (Option Place))
        → Some change ≡ option_map change_in (due_after state moment at)
        → new ≡ updated_if (due_after state moment at) state → GoesOn buses brings later tells state change new places
    due_goes_on whole change new places is after =
        goes_on buses brings later tells state whole change new places (is ∙ ap (option_map change_in) first) (after_first new after)

    -- where there is none, nothing is left
    pub due_stops : (new : State) → None ≡ option_map change_in (due_after state moment at)
        → new ≡ updated_if (due_after state moment at) state → Stops buses brings later tells state new
    due_stops new is after = stops buses brings later tells state new (is ∙ ap (option_map change_in) first) (after_first new after)

    -- past the first the others are ahead
    pub due_ahead : IsWhole buses state → (change : Change) (new : State) → Some change ≡ option_map change_in (due_after state moment at)
        → new ≡ updated_if (due_after state moment at) state
        → AreAhead (After (key_of change)) (due new moment)
    due_ahead whole change new is after = by _ refl (is ∙ ap (option_map change_in) first) (after_first new after)
      where
        by : (updates : List Update) → due state moment ≡ updates → Some change ≡ option_map change_in (slice_get updates 0)
            → new ≡ option_map_or (λ update. updated update state) (slice_get updates 0) state
            → AreAhead (After (key_of change)) (due new moment)
        by [] e is after = let bad : Some change ≡ None = is in let f : AreAhead (After (key_of change)) (due new moment) = cc in f
        by (update ∷ updates) e is after =
            let same : update.change ≡ change = cc in
            let left : updates ≡ due new moment = cc (later state whole update updates e).1 in
            rw (← same)
            (subst (AreAhead (After (update_key update))) left
            (others_ahead update updates (subst (IsRisingBy update_key) e (due_rise buses state whole moment))))
