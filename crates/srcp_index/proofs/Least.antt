-- Laws of the least rank of pairs in the order since a moment, and of the rows whose pairs they are.
use Rattle.srcp_rules.proofs.Names
use Names.{◌≡◌, ℕ, ◌<◌, ◌≤◌, Bool, true, false, cond, nat_le, min, slice_index_or, IfSome, List, [], ◌∷◌, length, ◌==◌}
use Names.{Option, Some, None, AllByRecursion, option_map_or, refl, sym, ap, subst, ◌∙◌, arith, inl, inr, cases_Bool, eqb-true, Row}
use Names.{State, weaken}
use Rattle.std.specs.Prelude.{fold, take_while, Any, ◌||◌}
use Rattle.std.specs.List.{list_any}
use Rattle.std.proofs.lemmas.Bool.{leb-false}
use Rattle.std.proofs.lemmas.List.Folds.{Any-from_list_any, list_any-from_Any}
use Rattle.std.proofs.lemmas.List.Sorted.{IsPermutation-sym, list_any-IsPermutation, length_permutation}
use Rattle.std.proofs.lemmas.List.Sums.{take_while-cons}
use Rattle.srcp_index.specs.declared.index.Pair.{Pair}
use Rattle.srcp_index.specs.Pairs.{IsLeastRank, before}
use Rattle.srcp_index.specs.Ordered.{IsInOrder, order_by}
use Rattle.srcp_index.specs.Indexed.{due_of, pairs_of}
use Rattle.srcp_index.specs.Earliest.{IsEarliestDue}
use Rattle.srcp_index.proofs.Pairs.{no_less}
use Rattle.srcp_index.proofs.Ordered.{all_moved, order_by-permutes}

-- what some item has is what some item of a weaker kind has
any_weaker : {X : Type 0} (P Q : X → Type 0) → ((x : X) → P x → Q x) → (xs : List X) → Any P xs → Any Q xs
any_weaker P Q f xs a = (a.0, a.1, a.2, a.3, f a.1 a.4)

-- ---- the least rank

module _ (since : ℕ) where
  -- the least of this rank and those that have come
  abbrev pub least_from : (rank : ℕ) → List Pair → ℕ
  least_from rank ys = fold (λ least pair. min least pair.rank) rank (take_while (λ pair. nat_le pair.rank since) ys)

  least_step : (rank : ℕ) (y : Pair) (ys : List Pair)
      → least_from rank (y ∷ ys) ≡ cond (nat_le y.rank since) (least_from (min rank y.rank) ys) rank
  least_step rank y ys = grind (arith, take_while-cons)

  least_up_to : (rank : ℕ) (ys : List Pair) → least_from rank ys ≤ rank
  least_up_to rank [] = omega arith
  least_up_to rank (y ∷ ys) = grind (arith, least_step rank y ys, least_up_to (min rank y.rank) ys)

  -- no rank is less, in a list in order
  none_less : (least : ℕ) (y : Pair) (ys : List Pair) → nat_le y.rank since ≡ false → least ≤ y.rank → IsInOrder (before since) (y ∷ ys)
      → AllByRecursion (λ x. least ≤ x.rank) (y ∷ ys)
  none_less least y ys e m r = (m, weaken ys r.0 (λ z b. let k = no_less z.rank y.rank _ since b e in omega arith))

  least_of_all : (least rank : ℕ) (ys : List Pair) → least ≤ least_from rank ys → rank ≤ since → IsInOrder (before since) ys
      → AllByRecursion (λ y. least ≤ y.rank) ys
  least_of_all least rank [] l h r = tt
  least_of_all least rank (y ∷ ys) l h r =
      elim (cases_Bool (nat_le y.rank since)) [
        | inl e ↦
            let s : least_from rank (y ∷ ys) ≡ least_from (min rank y.rank) ys = least_step rank y ys ∙ rw e refl in
            let u = least_up_to (min rank y.rank) ys in
            (omega arith, least_of_all least (min rank y.rank) ys (omega arith) (omega arith) r.1)
        | inr e ↦ let u = least_up_to rank (y ∷ ys) in let m = leb-false y.rank since e in none_less least y ys e (omega arith) r
      ]

  -- and it is the first rank or one of those
  least_is_one : (rank : ℕ) (ys : List Pair) (least : ℕ) → least ≡ least_from rank ys
      → (list_any (λ y. y.rank == least) ys || (rank == least)) ≡ true
  least_is_one rank [] least e = grind arith
  least_is_one rank (y ∷ ys) least e = grind (arith, least_step rank y ys, least_is_one (min rank y.rank) ys least)

  pub least_ranked : (first : Pair) (ys : List Pair) → 0 < length ys → first ≡ slice_index_or ys 0 first → IsInOrder (before since) ys
      → IsLeastRank (Some (least_from first.rank ys)) ys
  least_ranked first [] within at r = absurd (omega (arith, within))
  least_ranked first (y ∷ ys) within at r = (
    least_first,
    any_weaker _ _ (λ x e. eqb-true x.rank _ e) (y ∷ ys) (Any-from_list_any (λ x. x.rank == least_from first.rank (y ∷ ys)) (y ∷ ys) one),
  )
    where
      least_first : AllByRecursion (λ x. least_from first.rank (y ∷ ys) ≤ x.rank) (y ∷ ys)
      least_first =
          let least = least_from first.rank (y ∷ ys) in
          grind (arith, least_up_to first.rank (y ∷ ys), none_less least y ys, least_of_all least first.rank (y ∷ ys))

      one : list_any (λ x. x.rank == least_from first.rank (y ∷ ys)) (y ∷ ys) ≡ true
      one = grind (arith, least_is_one first.rank (y ∷ ys) (least_from first.rank (y ∷ ys)))

-- ---- the rows whose pairs they are

module _ (first : ℕ) where
  no_earlier : (state : State) → AllByRecursion (λ pair. first ≤ pair.rank) (pairs_of due_of state)
      → AllByRecursion (λ row. IfSome row.due (λ moment. first ≤ moment)) state
  no_earlier [] h = tt
  no_earlier (row ∷ state) h = grind (arith, no_earlier state)

  -- the row falls due at the moment
  abbrev falls : Row → Bool
  falls row = option_map_or (λ moment. moment == first) row.due false

  one_due : (state : State) → list_any (λ pair. pair.rank == first) (pairs_of due_of state) ≡ list_any falls state
  one_due [] = refl
  one_due (row ∷ state) = grind (arith, one_due state)

none_due : (state : State) → length (pairs_of due_of state) ≡ 0 → AllByRecursion (λ row. row.due ≡ None) state
none_due [] e = tt
none_due (row ∷ state) e = grind (arith, none_due state)

-- the least rank of the pairs of due moments is the earliest of these
pub earliest : (since : ℕ) (state : State) (pairs : List Pair) (o : Option ℕ) → pairs ≡ order_by (before since) (pairs_of due_of state)
    → IsLeastRank o pairs → IsEarliestDue o state
earliest since state pairs None is h =
    none_due state (sym (length_permutation _ _ (order_by-permutes (before since) (pairs_of due_of state))) ∙ ap length (sym is ∙ h))
earliest since state pairs (Some first) is h =
    let moved = order_by-permutes (before since) (pairs_of due_of state) in
    let least = subst (IsLeastRank (Some first)) is h in
    let some = list_any-from_Any (λ pair. pair.rank == first) _ (any_weaker _ _ (λ pair e. grind arith) _ least.1) in
    let one = sym (one_due first state) ∙ list_any-IsPermutation (λ pair. pair.rank == first) _ _ moved ∙ some in (
      no_earlier first state (all_moved (λ pair. first ≤ pair.rank) _ _ (IsPermutation-sym _ _ moved) least.0),
      any_weaker _ _ (λ row e. grind arith) state (Any-from_list_any (falls first) state one),
    )
