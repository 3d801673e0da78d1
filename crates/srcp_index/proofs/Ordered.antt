-- Laws of lists in the order of a test.
use Rattle.srcp_rules.proofs.Names
use Names.{◌≡◌, ℕ, zero, suc, ◌+◌, Bool, true, false, List, [], ◌∷◌, ◌++◌, drop, find, Some, if◌then◌else◌, AllByRecursion, sum_by}
use Names.{IsStrictWeakOrder, refl, sym, ◌∙◌, arith, inl, inr, cases_Bool, sum_by-cons, weaken, all_append}
use Rattle.std.specs.List.Sorted.{IsPermutation}
use Rattle.std.proofs.lemmas.List.Elements.{All-from_recursion, recursion_from_All}
use Rattle.std.proofs.lemmas.List.Sorted.{IsPermutation-refl, IsPermutation-trans, IsPermutation-cons, IsPermutation-middle}
use Rattle.std.proofs.lemmas.List.Sorted.{All-permutation}
use Rattle.std.proofs.lemmas.List.Sorted.{sum_by-IsPermutation}
use Rattle.srcp_grammar.proofs.PlaceLaws.{Follows}
use Rattle.srcp_index.specs.Ordered.{IsInOrder, insert_by, remove_by, order_by}

-- what holds of each item holds of each when they are moved
pub all_moved : {X : Type 0} (P : X → Type 0) (xs ys : List X) → IsPermutation xs ys → AllByRecursion P xs → AllByRecursion P ys
all_moved P xs ys p a = recursion_from_All P ys (All-permutation P xs ys p (All-from_recursion P xs a))

module _ {X : Type 0} (lt : X → X → Bool) where
  -- to insert an item, or to bring a list into order, moves items alone
  pub insert_by-permutes : (x : X) (xs : List X) → IsPermutation (x ∷ xs) (insert_by lt x xs)
  insert_by-permutes x [] = IsPermutation-refl (x ∷ [])
  insert_by-permutes x (y ∷ ys) =
      elim (cases_Bool (lt y x)) [
        | inl e ↦ rw e (IsPermutation-trans _ _ _ (IsPermutation-middle (x ∷ []) y ys) (IsPermutation-cons y _ _ (insert_by-permutes x ys)))
        | inr e ↦ rw e (IsPermutation-refl (x ∷ y ∷ ys))
      ]

  pub order_by-permutes : (xs : List X) → IsPermutation xs (order_by lt xs)
  order_by-permutes [] = IsPermutation-refl []
  order_by-permutes (x ∷ xs) =
      IsPermutation-trans _ _ _ (IsPermutation-cons x _ _ (order_by-permutes xs)) (insert_by-permutes x (order_by lt xs))

  pub order_by-append : (xs ys : List X) → IsInOrder lt xs → IsInOrder lt ys
      → AllByRecursion (λ x. AllByRecursion (λ y. lt y x ≡ false) ys) xs → IsInOrder lt (xs ++ ys)
  order_by-append [] ys a b c = b
  order_by-append (x ∷ xs) ys a b c = grind (arith, all_append (λ y. lt y x ≡ false), order_by-append xs ys a.1 b c.1)

  pub ranked_drop : (n : ℕ) (xs : List X) → IsInOrder lt xs → IsInOrder lt (drop n xs)
  ranked_drop zero xs h = h
  ranked_drop (suc n) [] h = tt
  ranked_drop (suc n) (x ∷ xs) h = ranked_drop n xs h.1

  -- to look for what passes a test, if none that passes is put behind another that follows it
  module _ (t : X → Bool) (R : X → X → Type 0) (apart : (x y : X) → R x y → t x ≡ true → t y ≡ true → lt y x ≡ false) where
    find_put-skipped : (x : X) (xs : List X) → t x ≡ false → find t (insert_by lt x xs) ≡ find t xs
    find_put-skipped x [] e = grind arith
    find_put-skipped x (y ∷ ys) e = grind (arith, find_put-skipped x ys e)

    find_put-found : (x : X) (xs : List X) → t x ≡ true → AllByRecursion (R x) xs → find t (insert_by lt x xs) ≡ Some x
    find_put-found x [] e h = grind arith
    find_put-found x (y ∷ ys) e h = grind (arith, apart x y h.0 e, find_put-found x ys e h.1)

    pub find-order_by : (xs : List X) → Follows R xs → find t (order_by lt xs) ≡ find t xs
    find-order_by [] h = refl
    find-order_by (x ∷ xs) h =
        let behind = all_moved (R x) xs (order_by lt xs) (order_by-permutes xs) h.0 in
        grind (arith, find_put-found x (order_by lt xs), find_put-skipped x (order_by lt xs), find-order_by xs h.1)

module _ {X : Type 0} (lt : X → X → Bool) (weak : IsStrictWeakOrder lt) where
  itself : (x : X) → lt x x ≡ false
  itself x = grind (arith, weak.one_way)

  pub ranked_put : (x : X) (xs : List X) → IsInOrder lt xs → IsInOrder lt (insert_by lt x xs)
  ranked_put x [] h = (tt, tt)
  ranked_put x (y ∷ ys) h =
      let each = all_moved (λ z. lt z y ≡ false) (x ∷ ys) (insert_by lt x ys) (insert_by-permutes lt x ys) in
      grind (arith, weak.one_way, weak.chain, each, weaken, ranked_put x ys h.1)

  pub ranked_is : (xs : List X) → IsInOrder lt (order_by lt xs)
  ranked_is [] = tt
  ranked_is (x ∷ xs) = ranked_put x (order_by lt xs) (ranked_is xs)

  all_taken : (P : X → Type 0) (x : X) (xs : List X) → AllByRecursion P xs → AllByRecursion P (remove_by lt x xs)
  all_taken P x [] h = tt
  all_taken P x (y ∷ ys) h = grind (arith, all_taken P x ys h.1)

  pub ranked_taken : (x : X) (xs : List X) → IsInOrder lt xs → IsInOrder lt (remove_by lt x xs)
  ranked_taken x [] h = tt
  ranked_taken x (y ∷ ys) h = grind (arith, all_taken, ranked_taken x ys h.1)

  -- what is put can be taken out
  pub remove_by-insert_by : (x : X) (xs : List X) → remove_by lt x (insert_by lt x xs) ≡ xs
  remove_by-insert_by x [] = grind (arith, itself)
  remove_by-insert_by x (y ∷ ys) = grind (arith, itself, remove_by-insert_by x ys)

  -- 1 if the item ties with z
  abbrev pub hit : X → X → ℕ
  hit z x = if lt z x then 0 else (if lt x z then 0 else 1)

  hit_itself : (x : X) → hit x x ≡ 1
  hit_itself x = grind (arith, itself)

  hits_below : (x y : X) (ys : List X) → lt x y ≡ true → AllByRecursion (λ z. lt z y ≡ false) ys → sum_by (hit x) ys ≡ 0
  hits_below x y [] e h = refl
  hits_below x y (z ∷ zs) e h = grind (arith, weak.chain, sum_by-cons (hit x), hits_below x y zs e h.1)

  module _ (tie : (x y : X) → lt x y ≡ false → lt y x ≡ false → x ≡ y) where
    -- a list in order is given by how often each item is in it
    pub unique : (xs ys : List X) → IsInOrder lt xs → IsInOrder lt ys → ((z : X) → sum_by (hit z) xs ≡ sum_by (hit z) ys) → xs ≡ ys
    unique [] [] a b s = refl
    unique [] (y ∷ ys) a b s = grind (arith, s y, sum_by-cons (hit y), hit_itself)
    unique (x ∷ xs) [] a b s = grind (arith, s x, sum_by-cons (hit x), hit_itself)
    unique (x ∷ xs) (y ∷ ys) a b s =
        let more : (z : X) → sum_by (hit z) (x ∷ xs) ≡ hit z y + sum_by (hit z) ys = λ z. s z ∙ sum_by-cons (hit z) y ys in
        let less : (z : X) → sum_by (hit z) (x ∷ xs) ≡ hit z x + sum_by (hit z) xs = λ z. sum_by-cons (hit z) x xs in
        let same : x ≡ y = grind (arith, more x, more y, less x, less y, hit_itself, hits_below x y ys, hits_below y x xs, tie) in
        let rest = unique xs ys a.1 b.1 (λ z. grind (arith, more z, less z, same)) in
        cc

    -- a list in order that has the items of another is the order of that
    pub is_order : (ys xs : List X) → IsInOrder lt ys → ((f : X → ℕ) → sum_by f ys ≡ sum_by f xs) → ys ≡ order_by lt xs
    is_order ys xs r same =
        unique ys (order_by lt xs) r (ranked_is xs)
        (λ z. same (hit z) ∙ sym (sum_by-IsPermutation (hit z) xs (order_by lt xs) (order_by-permutes lt xs)))

    -- the order that a list was brought into before makes no difference
    pub order_by-order_by : (other : X → X → Bool) (xs : List X) → order_by lt (order_by other xs) ≡ order_by lt xs
    order_by-order_by other xs = is_order (order_by lt (order_by other xs)) xs (ranked_is (order_by other xs)) (λ f.
        sum_by-IsPermutation f xs _ (IsPermutation-trans _ _ _ (order_by-permutes other xs) (order_by-permutes lt (order_by other xs))))
