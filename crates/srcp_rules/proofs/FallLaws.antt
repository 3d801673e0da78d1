-- Each row after a moment, and the rows after a timed SET.
use Rattle.srcp_rules.proofs.Names
use Names.{cases_Bool, inl, inr, ◌≡◌, ℕ, Bool, true, false, cond, map, filter, List, [], ◌∷◌, Option, Some, None, refl, sym}
use Names.{ap, subst, ◌∙◌, arith, false_from_ne_true, option_map_or, AllByRecursion, Key, Value, Row, Code, Accepted, device_of, first_key}
use Names.{owns, IsMoment, IsValueAt, is_lock, Bus, SetLock, lock_at, State, Update, IsWhole, MayFall, row_at, updated, updated_all}
use Names.{row_put, put_of, nat_le, SetGa, unless_refused, refusals, port_end, lock_end, due, due_change, is_due, device_from_owns}
use Names.{found_holds, same_key, same_key-true}
use Names.value
use Names.devices
use Rattle.std.specs.Prelude.{◌*◌}
use Rattle.std.proofs.lemmas.Bool.{lt-ltb}
use Rattle.std.proofs.Math.Nat.{min-eq_left, min-eq_right}
use Rattle.srcp_rules.specs.Effect.{moment_after, port_key, row_of_lock, row_of_port}
use Rattle.srcp_rules.specs.Laws.{LocksAreSet, LocksRunOut, MomentsEnd, PortsAreSet, PortsFallBack, comes_to, fallen}
use Rattle.srcp_grammar.proofs.FindLaws.{each_unfiltered}
use Rattle.srcp_rules.proofs.StateLaws.{row_at-put_row, row_at-put_same, row_at-without, row_at_key, IsKnown, front_row}
use Rattle.srcp_rules.proofs.DueRowLaws.{due_may}
use Rattle.srcp_rules.proofs.DueStepLaws.{due_later, lock_keys}
use Rattle.srcp_rules.proofs.EffectLaws.{effect_kept}
use Rattle.srcp_rules.proofs.CommandLaws.{unless_made}

-- ---- one moment

module _ (buses : List Bus) (moment : ℕ) (now : IsMoment moment) where
  -- what the moment makes of what stands at a key
  abbrev fate : Option Row → Option Row
  fate o = option_map_or (comes_to moment) o None

  -- a row that is due falls
  due_fate : (row : Row) (shows : Value) → is_due moment row ≡ true → row.shown.value ≡ shows
      → comes_to moment row ≡ fallen moment row.shown.key shows
  due_fate row shows now_due same = rw (now_due, same)

  module _ (state : State) (whole : IsWhole buses state) where
    abbrev Known : Row → Type 0
    Known row = IsKnown buses state row

    -- a lock's device has one row
    same_lock : (row other : Row) (key : Key) → Known row → is_lock row.shown.key.group ≡ true → owns (device_of row.shown.key) key ≡ true
        → row_at key state ≡ Some other → other ≡ row
    same_lock row other key k lock e h =
        let at_key : other.shown.key ≡ key = row_at_key key state other h in
        let device = ap device_of at_key ∙ device_from_owns (device_of row.shown.key) key e in
        let keys = lock_keys row.shown.key other.shown.key _ _ k.0.shown.value (whole.rows key other h).shown.value lock device in
        let found : Some other ≡ Some row = sym h ∙ ap (λ q. row_at q state) (sym at_key ∙ keys) ∙ k.1 in
        cc

    lock_by : (row : Row) (seconds session : ℕ) → Known row → is_lock row.shown.key.group ≡ true → is_due moment row ≡ true
        → row.shown.value ≡ value.Lock seconds session → (key : Key)
        → owns (device_of row.shown.key) key ≡ true → (o : Option Row) → row_at key state ≡ o → None ≡ fate o
    lock_by row seconds session k lock now_due same key e None h = refl
    lock_by row seconds session k lock now_due same key e (Some other) h =
        sym (ap (comes_to moment) (same_lock row other key k lock e h) ∙ due_fate row (value.Lock seconds session) now_due same)

    -- ---- any row that is due

    -- to carry it out leaves what the moment makes of each row
    step_by : (row : Row) → Known row → is_due moment row ≡ true → (shows : Value) → row.shown.value ≡ shows → MayFall shows → (key : Key)
        → fate (row_at key (updated (due_change moment row.shown.key shows) state)) ≡ fate (row_at key state)
    step_by row k now_due (value.GaPort on) same may key =
        rw (row_at-put_row key (row_put moment row.shown.key (value.GaPort false) None) state)
        (elim (cases_Bool (same_key row.shown.key key)) [
          | inl e ↦ rw e (sym (ap fate (ap (λ q. row_at q state) (sym (same_key-true row.shown.key key e)) ∙ k.1)
              ∙ due_fate row (value.GaPort on) now_due same))
          | inr e ↦ rw e
        ])
    step_by row k now_due (value.Lock seconds session) same may key =
        let fits = subst (IsValueAt row.shown.key.group row.shown.key.port) same k.0.shown.value in
        rw (row_at-without key (device_of row.shown.key) state)
        (elim (cases_Bool (owns (device_of row.shown.key) key)) [
          | inl e ↦ rw e (lock_by row seconds session k fits.0 now_due same key e (row_at key state) refl)
          | inr e ↦ rw e
        ])
    step_by row k now_due other same may key = absurd may

    step : (rows : List Row) → filter (is_due moment) state ≡ rows → (update : Update) (updates : List Update)
        → map (λ row. due_change moment row.shown.key row.shown.value) rows ≡ update ∷ updates → (key : Key)
        → fate (row_at key (updated update state)) ≡ fate (row_at key state)
    step [] held update updates e key = let bad : [] ≡ update ∷ updates = e in cc
    step (row ∷ rows) held update updates e key =
        let first : due_change moment row.shown.key row.shown.value ≡ update = cc in
        let k = front_row buses state whole (is_due moment) row rows held in
        ap (λ u. fate (row_at key (updated u state))) (sym first)
        ∙ step_by row k.0 k.1 row.shown.value refl (due_may moment row row.due refl k.0.0.due k.1) key

    -- ---- if nothing is due

    nothing_due : (rows : List Row) → map (λ row. due_change moment row.shown.key row.shown.value) rows ≡ []
        → AllByRecursion (λ row. ⊥) rows
    nothing_due [] e = tt
    nothing_due (row ∷ rows) e =
        let bad : due_change moment row.shown.key row.shown.value ∷ map (λ r. due_change moment r.shown.key r.shown.value) rows ≡ [] = e in
        cc

    still_by : due state moment ≡ [] → (key : Key) (o : Option Row) → row_at key state ≡ o → o ≡ fate o
    still_by e key None h = refl
    still_by e key (Some row) h =
        rw (false_from_ne_true (is_due moment row)
        (found_holds (λ r. is_due moment r ≡ true → ⊥) (λ r. same_key r.shown.key key) state
        (each_unfiltered (λ r. ⊥) (is_due moment) state (nothing_due (filter (is_due moment) state) e)) row h))

  all_fates : (updates : List Update) (state : State) → IsWhole buses state → due state moment ≡ updates → (key : Key)
      → row_at key (updated_all updates state) ≡ fate (row_at key state)
  all_fates [] state whole e key = still_by state whole e key (row_at key state) refl
  all_fates (update ∷ updates) state whole e key =
      let later = due_later buses state whole moment now update updates e in
      all_fates updates (updated update state) later.0 later.1 key
      ∙ step state whole (filter (is_due moment) state) refl update updates e key

  -- a moment makes of each row what it comes to
  pub due_rows : (state : State) → IsWhole buses state → (key : Key)
      → row_at key (updated_all (due state moment) state) ≡ option_map_or (comes_to moment) (row_at key state) None
  due_rows state whole key = all_fates (due state moment) state whole refl key

-- ---- what a SET leaves behind

-- a command that is accepted makes its changes
pub accepted_done : (refused : List (Bool × Code)) (updates : List Update) → (unless_refused refused updates).reply ≡ Accepted
    → (unless_refused refused updates).updates ≡ updates
accepted_done refused updates =
    unless_made (λ did. did.reply ≡ Accepted → did.updates ≡ updates) (λ code e. cc) refused updates (λ none e. refl)

-- so the row that a SET puts is there
pub put_there : (refused : List (Bool × Code)) (row : Row) (state : State) → (unless_refused refused (put_of row ∷ [])).reply ≡ Accepted
    → row_at row.shown.key (updated_all (unless_refused refused (put_of row ∷ [])).updates state) ≡ Some row
put_there refused row state e =
    ap (λ us. row_at row.shown.key (updated_all us state)) (accepted_done refused (put_of row ∷ []) e) ∙ row_at-put_same row state

pub port_set : PortsAreSet
port_set state session moment switch e =
    put_there (refusals state session devices.Ga switch.bus switch.address) (row_of_port moment switch) state e

pub lock_set : LocksAreSet
lock_set state session moment lock e =
    put_there (refusals state session lock.target.group lock.target.bus lock.target.address) (row_of_lock moment session lock) state e

-- ---- and what becomes of it

-- what a later moment makes of a row that has a due moment
falls : (later : ℕ) (row : Row) (ends : ℕ) → row.due ≡ Some ends
    → comes_to later row ≡ cond (nat_le ends later) (fallen later row.shown.key row.shown.value) (Some row)
falls later row ends due =
    ap (λ o. cond (option_map_or (λ m. nat_le m later) o false) (fallen later row.shown.key row.shown.value) (Some row)) due

either : (b : Bool) (x y : Row) → cond b (Some x) (Some y) ≡ Some (cond b x y)
either b x y = grind arith

pub port_falls : PortsFallBack
port_falls buses state session moment later milliseconds switch may begins now on time some e =
    let whole = effect_kept buses state may.whole session moment may.begun begins (SetGa switch) may.of in
    let ends = moment_after moment milliseconds in
    let due : port_end moment switch.on switch.time ≡ Some ends = rw (on, time, lt-ltb 0 milliseconds some) in
    due_rows buses later now _ whole (port_key switch)
    ∙ ap (λ o. option_map_or (comes_to later) o None) (port_set state session moment switch e)
    ∙ falls later (row_of_port moment switch) ends due
    ∙ either (nat_le ends later) (row_put later (port_key switch) (value.GaPort false) None) (row_of_port moment switch)

pub lock_runs_out : LocksRunOut
lock_runs_out buses state session moment later lock may begins now some e =
    let whole = effect_kept buses state may.whole session moment may.begun begins (SetLock lock) may.of in
    let due : lock_end moment lock.seconds ≡ Some (moment_after moment (1000 * lock.seconds)) = rw (lt-ltb 0 lock.seconds some) in
    due_rows buses later now _ whole (first_key (lock_at lock.target))
    ∙ ap (λ o. option_map_or (comes_to later) o None) (lock_set state session moment lock e)
    ∙ falls later (row_of_lock moment session lock) (moment_after moment (1000 * lock.seconds)) due

-- ---- the greatest moment

pub ends_in_time : MomentsEnd
ends_in_time moment milliseconds = (λ h. min-eq_left h, λ h. min-eq_right h)
