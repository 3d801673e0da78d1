-- What a session has locked only falls in the steps that are no commands of the session.
use Rattle.srcp_core.proofs.Names.{◌≡◌, ℕ, true, false, true≢false, List, [], ◌∷◌, ◌++◌, refl, ap, sym, ◌∙◌, subst, inl, inr}
use Rattle.srcp_core.proofs.Names.{◌⊎◌, ⊎_elim, cases_Bool, eqb-true, ne_eqb, fold-append, AllByRecursion, ◌==◌, not, Option, Some, None}
use Rattle.srcp_core.proofs.Names.{option_map_or, is_some, first_key, Key, Row, Mode, Accepted, Bus, IsLayout, session_device, State}
use Rattle.srcp_core.proofs.Names.{IsWhole, row_at, row_at-put_other, updated_all, opening, AllMoments, Event, Step, Obeyed}
use Rattle.srcp_core.proofs.Names.{Began, Moment, Ended, state_after, course, append_assoc}
use Rattle.std.proofs.Common.{eq-eqb}
use Rattle.std.proofs.lemmas.Bool.{false_from_ne_true}
use Rattle.srcp_info.specs.declared.value.Value.{Value}
use Rattle.srcp_info.specs.declared.value.Value.TheVariants as value
use Rattle.srcp_grammar.specs.Devices.{device_in, key_at, lock_group, lock_on}
use Rattle.srcp_grammar.specs.declared.command.DeviceGroup.{DeviceGroup}
use Rattle.srcp_rules.specs.Due.{is_due, is_held_by}
use Rattle.srcp_rules.specs.Effect.{effect as effect_of}
use Rattle.srcp_rules.specs.Laws.{comes_to, fallen}
use Rattle.srcp_rules.specs.SafetyLaws.{has_lock}
use Rattle.srcp_rules.specs.State.{holder_in, holder_of, row_put}
use Rattle.srcp_rules.specs.Steps.{stepped}
use Rattle.srcp_rules.proofs.DueRowLaws.{lock_goes}
use Rattle.srcp_rules.proofs.FallLaws.{due_rows, lock_set}
use Rattle.srcp_rules.proofs.KeyLaws.{no_key}
use Rattle.srcp_rules.proofs.LockedLaws.{locks_hold}
use Rattle.srcp_rules.proofs.SafetyLaws.{ends_change_no_device, ends_keep_other_locks, own_locks_last}
use Rattle.srcp_rules.proofs.StepLaws.{device_elsewhere, device_group-is_lock, is_session, lock_group-is_lock}
use Rattle.srcp_core.specs.Locked.{LeavesLock, LockedIsLeftAlone, LockedStepsFall, LocksBegin, LocksLast, falls_in, falls_over}
use Rattle.srcp_core.specs.Locked.{is_command_of, is_end_of}
use Rattle.srcp_rules.proofs.EachStepLaws.{effect_law, step_whole}
use Rattle.srcp_core.proofs.CourseLaws.RegistryStaysWhole.{kept_course}
use Rattle.srcp_core.proofs.CourseLaws.StepsKeepWhole.{AreSteps, Fits, steps_whole, whole_opening}

-- ---- rows that fall

-- a row that is kept
kept_row : (o : Option Row) → option_map_or (λ (row : Row). Some row) o None ≡ o
kept_row None = refl
kept_row (Some row) = refl

-- what is gone stays so
falls_none : (steps : List Step) → falls_over steps None ≡ None
falls_none [] = refl
falls_none (step ∷ steps) = falls_none steps

module _ (session : ℕ) where
  gone : (moment : ℕ) (key : Key) (shows : Value) → option_map_or (λ holder. holder == session) (holder_in shows) false ≡ true
      → fallen moment key shows ≡ None
  gone moment key (value.Lock seconds holder) held = refl
  gone moment key other held = absurd (true≢false (sym held))

  -- a lock goes or stays
  lock_falls : (step : Step) (row : Row) → is_held_by session row ≡ true → (falls_in step row ≡ None) ⊎ (falls_in step row ≡ Some row)
  lock_falls (Moment moment) row held = elim (cases_Bool (is_due moment row)) [
    | inl e ↦ inl (rw e (gone moment row.shown.key row.shown.value held))
    | inr e ↦ inr (rw e)
  ]
  lock_falls other row held = inr refl

  -- and if it stays, the session has it still
  still_held : (step : Step) (later : List Step) (o : Option Row) → option_map_or (is_held_by session) o false ≡ true
      → is_some (falls_over later (option_map_or (falls_in step) o None)) ≡ true
      → option_map_or (is_held_by session) (option_map_or (falls_in step) o None) false ≡ true
  still_held step later None held lasts = held
  still_held step later (Some row) held lasts =
      ⊎_elim
      (λ e. absurd (true≢false (sym lasts ∙ ap (λ o. is_some (falls_over later o)) e ∙ ap is_some (falls_none later))))
      (λ e. ap (λ o. option_map_or (is_held_by session) o false) e ∙ held) (lock_falls step row held)

  -- ---- another session

  module _ (id : ℕ) (other : (id == session) ≡ false) where
    apart : (holder : ℕ) → (holder == session) ≡ true → (holder == id) ≡ false
    apart holder e =
        false_from_ne_true (holder == id)
        (λ same. true≢false (sym (eq-eqb id session (sym (eqb-true holder id same) ∙ eqb-true holder session e)) ∙ other))

    -- the lock is another's
    locked_for : (o : Option Row) → option_map_or (is_held_by session) o false ≡ true
        → option_map_or (λ row. option_map_or (λ holder. not (holder == id)) (holder_of row) false) o false ≡ true
    locked_for None held = held
    locked_for (Some row) held = by (holder_of row) held
      where
        by : (o : Option ℕ) → option_map_or (λ holder. holder == session) o false ≡ true
            → option_map_or (λ holder. not (holder == id)) o false ≡ true
        by None e = e
        by (Some holder) e = ap not (apart holder e)

    -- and is not held by it
    unheld : (o : Option Row) → option_map_or (is_held_by session) o false ≡ true → (row : Row) → o ≡ Some row
        → is_held_by id row ≡ false
    unheld None held row e = let bad : None ≡ Some row = e in cc
    unheld (Some found) held row e =
        let same : found ≡ row = cc in
        by (holder_of row) (subst (λ r. is_held_by session r ≡ true) same held)
      where
        by : (o : Option ℕ) → option_map_or (λ holder. holder == session) o false ≡ true
            → option_map_or (λ holder. holder == id) o false ≡ false
        by None e = refl
        by (Some holder) e = apart holder e

-- ---- one step

module _ (buses : List Bus) (session : ℕ) (g : DeviceGroup) (bus address : ℕ) where
  abbrev lock : Key
  lock = first_key (lock_on g bus address)

  abbrev row_key : (port : ℕ) → Key
  row_key port = key_at (device_in g bus address) port

  abbrev IsHeld : State → Type 0
  IsHeld state = has_lock state session g bus address ≡ true

  no_session : is_session (lock_group g) ≡ false
  no_session = (lock_goes (lock_group g) (lock_group-is_lock g)).1

  module _ (state : State) (whole : IsWhole buses state) (held : IsHeld state) where
    -- the beginning of a session leaves every other row
    begun_elsewhere : (id moment : ℕ) (mode : Mode) (key : Key) → is_session key.group ≡ false
        → row_at key (stepped state (Began id moment mode)) ≡ row_at key state
    begun_elsewhere id moment mode key elsewhere =
        row_at-put_other key (row_put moment (first_key (session_device id)) (value.Session mode) None) state
        (no_key is_session true (first_key (session_device id)) key refl elsewhere)

    rows_fall : (step : Step) → Fits buses state step → is_command_of session step ≡ false → (port : ℕ)
        → row_at (row_key port) (stepped state step) ≡ option_map_or (falls_in step) (row_at (row_key port) state) None
    rows_fall (Obeyed id moment order) fits other port =
        effect_law (λ did. row_at (row_key port) (updated_all did.updates state) ≡ row_at (row_key port) state) state id moment order
        (locks_hold state id moment order.command g bus address (locked_for session id other _ held) port).0 refl
        ∙ sym (kept_row (row_at (row_key port) state))
    rows_fall (Began id moment mode) fits other port =
        begun_elsewhere id moment mode (row_key port) (device_elsewhere g) ∙ sym (kept_row (row_at (row_key port) state))
    rows_fall (Moment moment) fits other port = due_rows buses moment fits.1 state whole (row_key port)
    rows_fall (Ended id moment) fits other port =
        ends_change_no_device buses state id moment (row_key port) whole (device_group-is_lock g)
        (λ e. true≢false (sym (ap is_session e) ∙ device_elsewhere g))
        ∙ sym (kept_row (row_at (row_key port) state))

    lock_only_falls : (step : Step) → Fits buses state step → is_command_of session step ≡ false → is_end_of session step ≡ false
        → row_at lock (stepped state step) ≡ option_map_or (falls_in step) (row_at lock state) None
    lock_only_falls (Obeyed id moment order) fits other ends =
        effect_law (λ did. row_at lock (updated_all did.updates state) ≡ row_at lock state) state id moment order
        (locks_hold state id moment order.command g bus address (locked_for session id other _ held) 0).1 refl
        ∙ sym (kept_row (row_at lock state))
    lock_only_falls (Began id moment mode) fits other ends =
        begun_elsewhere id moment mode lock no_session ∙ sym (kept_row (row_at lock state))
    lock_only_falls (Moment moment) fits other ends = due_rows buses moment fits.1 state whole lock
    lock_only_falls (Ended id moment) fits other ends =
        ends_keep_other_locks buses state id moment g bus address whole (unheld session id ends (row_at lock state) held)
        ∙ sym (kept_row (row_at lock state))

    -- a row that does not fall at the moment stays
    not_fallen : (moment : ℕ) (o : Option Row) → option_map_or (is_due moment) o false ≡ false → option_map_or (comes_to moment) o None ≡ o
    not_fallen moment None e = refl
    not_fallen moment (Some row) e = rw e

    -- what leaves the lock's row leaves the session the lock
    row_held : (step : Step) → row_at lock (stepped state step) ≡ row_at lock state → IsHeld (stepped state step)
    row_held step e = ap (λ o. option_map_or (is_held_by session) o false) e ∙ held

    lasts : (step : Step) → Fits buses state step → LeavesLock session (lock_on g bus address) (row_at lock state) step
        → IsHeld (stepped state step)
    lasts (Obeyed id moment order) fits leaves = elim (cases_Bool (id == session)) [
      | inl e ↦ own (eqb-true id session e)
      | inr e ↦
          row_held (Obeyed id moment order)
          (lock_only_falls (Obeyed id moment order) fits e refl ∙ kept_row (row_at lock state))
    ]
      where
        own : id ≡ session → IsHeld (stepped state (Obeyed id moment order))
        own e =
            effect_law (λ did. has_lock (updated_all did.updates state) session g bus address ≡ true) state id moment order
            (subst (λ who. has_lock (updated_all (effect_of state who moment order.command).updates state) session g bus address ≡ true)
            (sym e) (own_locks_last state session moment order.command g bus address held (leaves e))) held
    lasts (Began id moment mode) fits leaves =
        row_held (Began id moment mode) (begun_elsewhere id moment mode lock no_session)
    lasts (Moment moment) fits leaves =
        row_held (Moment moment) (due_rows buses moment fits.1 state whole lock ∙ not_fallen moment (row_at lock state) leaves)
    lasts (Ended id moment) fits leaves =
        row_held (Ended id moment)
        (lock_only_falls (Ended id moment) fits refl (ne_eqb id session leaves) ∙ kept_row (row_at lock state))

  -- ---- step after step

  abbrev AreOthers : List Step → Type 0
  AreOthers steps = AllByRecursion (λ step. (is_command_of session step ≡ false) × (is_end_of session step ≡ false)) steps

  left_alone : (later : List Step) (state : State) → IsWhole buses state → AreSteps buses state later → IsHeld state → AreOthers later
      → is_some (falls_over later (row_at lock state)) ≡ true
      → IsHeld (state_after state later)
      × ((port : ℕ) → row_at (row_key port) (state_after state later) ≡ falls_over later (row_at (row_key port) state))
  left_alone [] state whole fit held others lasts = (held, λ port. refl)
  left_alone (step ∷ later) state whole fit held others lasts =
      let falls = lock_only_falls state whole held step fit.0 others.0.0 others.0.1 in
      let stays =
      ap (λ o. option_map_or (is_held_by session) o false) falls ∙ still_held session step later (row_at lock state) held lasts in
      let rest =
      left_alone later (stepped state step) (step_whole buses state step whole fit.0.0 fit.0.1) fit.1 stays others.1
      (ap (λ o. is_some (falls_over later o)) falls ∙ lasts) in (
        rest.0,
        λ port. rest.1 port ∙ ap (falls_over later) (rows_fall state whole held step fit.0 others.0.0 port),
      )

-- ---- steps of a course

module _ (buses : List Bus) where
  are_first : (first rest : List Step) (state : State) → AreSteps buses state (first ++ rest) → AreSteps buses state first
  are_first [] rest state fit = tt
  are_first (step ∷ first) rest state fit = (fit.0, are_first first rest (stepped state step) fit.1)

  are_rest : (first rest : List Step) (state : State) → AreSteps buses state (first ++ rest) → AreSteps buses (state_after state first) rest
  are_rest [] rest state fit = fit
  are_rest (step ∷ first) rest state fit = are_rest first rest (stepped state step) fit.1

  -- the steps up to some, of a course, and those behind them
  pub record IsPartOf (first rest : List Step) : Type 0 where
    pub whole : IsWhole buses (state_after (opening buses 0) first)
    pub fit : AreSteps buses (state_after (opening buses 0) first) rest

  parted : IsLayout buses → (events : List Event) → AllMoments events → (first rest : List Step)
      → (course buses events).steps ≡ first ++ rest → IsPartOf first rest
  parted layout events moments first rest e =
      let fit = subst (AreSteps buses (opening buses 0)) e (kept_course buses layout events moments).steps_fit in
      record {
        whole = steps_whole buses (opening buses 0) first (whole_opening buses layout) (are_first first rest (opening buses 0) fit);
        fit = are_rest first rest (opening buses 0) fit;
      }

  pub steps_fall : LockedStepsFall buses
  steps_fall layout events moments first rest step e session g bus address held other =
      let part = parted layout events moments first (step ∷ rest) e in
      let state = state_after (opening buses 0) first in
      let then : state_after (opening buses 0) (first ++ step ∷ []) ≡ stepped state step =
      fold-append stepped (opening buses 0) first (step ∷ []) in (
        λ port. ap (row_at (row_key buses session g bus address port)) then
            ∙ rows_fall buses session g bus address state part.whole held step part.fit.0 other port,
        λ ends. ap (row_at (lock buses session g bus address)) then
            ∙ lock_only_falls buses session g bus address state part.whole held step part.fit.0 other ends,
      )

  pub locks_last : LocksLast buses
  locks_last layout events moments first rest step e session g bus address held leaves =
      let part = parted layout events moments first (step ∷ rest) e in
      let state = state_after (opening buses 0) first in
      ap (λ s. has_lock s session g bus address) (fold-append stepped (opening buses 0) first (step ∷ []))
      ∙ lasts buses session g bus address state part.whole held step part.fit.0 leaves

  pub is_left_alone : LockedIsLeftAlone buses
  is_left_alone layout events moments first later rest e session g bus address held others lasts =
      let part = parted layout events moments first (later ++ rest) (e ∙ append_assoc first later rest) in
      let state = state_after (opening buses 0) first in
      let then : state_after (opening buses 0) (first ++ later) ≡ state_after state later =
      fold-append stepped (opening buses 0) first later in
      let left =
      left_alone buses session g bus address later state part.whole (are_first later rest state part.fit) held others lasts in (
        ap (λ s. has_lock s session g bus address) then ∙ left.0,
        λ port. ap (row_at (row_key buses session g bus address port)) then ∙ left.1 port,
      )

-- ---- a lock that is set

pub locks_begin : LocksBegin
locks_begin state session moment target order command accepted =
    effect_law
    (λ did. did.reply ≡ Accepted
    → has_lock (updated_all did.updates state) session target.target.group target.target.bus target.target.address ≡ true)
    state session moment order
    (subst
    (λ asked. (effect_of state session moment asked).reply ≡ Accepted
    → has_lock (updated_all (effect_of state session moment asked).updates state) session
    target.target.group target.target.bus target.target.address ≡ true)
    (sym command)
    (λ e. ap (λ o. option_map_or (is_held_by session) o false) (lock_set state session moment target e) ∙ eq-eqb session session refl))
    (λ e. cc) accepted
