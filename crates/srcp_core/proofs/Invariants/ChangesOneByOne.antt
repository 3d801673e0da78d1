-- Changes that are carried out and told one by one are those of the whole step.
use Rattle.srcp_core.proofs.Names.{◌≡◌, ◌<◌, List, [], ◌∷◌, map, length, refl, ap, sym, subst, arith, option_map, option_map_or, Option}
use Rattle.srcp_core.proofs.Names.{Some, None, slice_get, IsWellFormed, Change, Bus, State, Update, IsWhole, updated, updated_all}
use Rattle.srcp_core.proofs.Names.{CanBeTold, Place, told_all, told_each}

abbrev pub change_in : Update → Change
change_in update = update.change

module _ (buses : List Bus) (brings : State → List Update)
    (later : (state : State) → IsWhole buses state → (update : Update) (updates : List Update) → brings state ≡ update ∷ updates
    → IsWhole buses (updated update state) × (brings (updated update state) ≡ updates))
    (tells : (state : State) → IsWhole buses state → CanBeTold (brings state))
  where
    -- after the first of the changes that a registry brings
    pub record GoesOn (state : State) (change : Change) (new : State) (places : List (Option Place)) : Type 0 where
      pub whole : IsWhole buses new
      pub rows : updated_all (brings new) new ≡ updated_all (brings state) state
      pub slots : told_each (map change_in (brings new)) (told_all change places) ≡ told_each (map change_in (brings state)) places
      pub fewer : length (brings new) < length (brings state)
      pub told : IsWellFormed change

    pub goes_on : (state : State) → IsWhole buses state → (change : Change) (new : State) (places : List (Option Place))
        → Some change ≡ option_map change_in (slice_get (brings state) 0)
        → new ≡ option_map_or (λ update. updated update state) (slice_get (brings state) 0) state → GoesOn state change new places
    goes_on state whole change new places is after = by _ refl (tells state whole) is after
      where
        by : (updates : List Update) → brings state ≡ updates → CanBeTold updates → Some change ≡ option_map change_in (slice_get updates 0)
            → new ≡ option_map_or (λ update. updated update state) (slice_get updates 0) state → GoesOn state change new places
        by [] e t is after = let bad : Some change ≡ None = is in cc
        by (update ∷ updates) e t is after =
            let l = later state whole update updates e in
            let same : change ≡ update.change = cc in
            let left : brings new ≡ updates = cc l.1 in
            record {
              whole = subst (IsWhole buses) (sym after) l.0;
              rows = cc;
              slots = cc;
              fewer = let a = ap (λ us. length us) left in let b = ap (λ us. length us) e in omega (arith, a, b);
              told = subst IsWellFormed (sym same) t.0;
            }

    -- where no change is left
    pub record Stops (state new : State) : Type 0 where
      pub nothing : brings state ≡ []
      pub same : new ≡ state

    pub stops : (state new : State) → None ≡ option_map change_in (slice_get (brings state) 0)
        → new ≡ option_map_or (λ update. updated update state) (slice_get (brings state) 0) state → Stops state new
    stops state new is after = by _ refl is after
      where
        by : (updates : List Update) → brings state ≡ updates → None ≡ option_map change_in (slice_get updates 0)
            → new ≡ option_map_or (λ update. updated update state) (slice_get updates 0) state → Stops state new
        by [] e is after = record { nothing = e; same = after }
        by (update ∷ updates) e is after = let bad : None ≡ Some update.change = is in cc
