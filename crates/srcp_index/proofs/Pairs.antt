-- Laws of the order of pairs since a moment.
use Rattle.srcp_rules.proofs.Names
use Names.{◌≡◌, ℕ, ◌-◌, ◌≤◌, Bool, true, false, IsStrictWeakOrder, sym, ap, ◌∙◌, arith, nat_cmp_total, List, [], ◌∷◌, ◌++◌, take, drop}
use Names.{nat_le, AllByRecursion, sum_by, take-append-drop, nat_lt, ◌==◌, ◌&&◌, not, weaken}
use Rattle.srcp_info.specs.declared.change.Cursor.{Cursor}
use Rattle.srcp_info.specs.Key.{key_cmp, has_reached}
use Rattle.srcp_info.proofs.KeyLaws.{key_cmp_total, key_tie, nat_tie, then_tie}
use Rattle.srcp_info.proofs.ClientLaws.{reached_below}
use Rattle.std.specs.declared.cmp.Ordering.TheVariants.{Equal, Less}
use Rattle.std.specs.Cmp.{IsTotalOrder}
use Rattle.std.specs.Ordering.{is_lt, is_gt, nat_cmp, ordering_then, ordering_reverse}
use Rattle.std.specs.declared.cmp.Ordering.{Ordering}
use Rattle.std.proofs.lemmas.Bool.{leb-false}
use Rattle.std.proofs.lemmas.Cmp.{on_total, then_total}
use Rattle.std.proofs.lemmas.List.Sorted.{ranks_by, sum_by-IsPermutation, IsPermutation-append_left}
use Rattle.std.specs.List.Sorted.{IsPermutation}
use Rattle.srcp_index.specs.Pairs.{is_due_beyond, order, before}
use Rattle.srcp_index.specs.declared.index.Pair.{Pair}
use Rattle.srcp_index.specs.Ordered.{IsInOrder, order_by}
use Rattle.srcp_index.proofs.Splits.{IsSplit}
use Rattle.srcp_index.proofs.Ordered as law
use Rattle.srcp_rules.proofs.OrderLaws.{same}

pub order_total : (since : ℕ) → IsTotalOrder (order since)
order_total since = then_total (on_total (λ (p : Pair). p.rank - since) nat_cmp_total)
    (then_total (on_total (λ (p : Pair). p.key) key_cmp_total) (on_total (λ (p : Pair). p.rank) nat_cmp_total))

pub before_weak : (since : ℕ) → IsStrictWeakOrder (before since)
before_weak since = ranks_by (order_total since) (λ (p : Pair). p)

-- ---- two ranks, and the order that decides if both count alike since a moment

module _ (m n : ℕ) (o : Ordering) where
  -- the first comes before the second
  abbrev leads : ℕ → Bool
  leads since = is_lt (ordering_then (nat_cmp (m - since) (n - since)) o)

  -- past two moments it makes no difference which of them counts
  past_both : (s t : ℕ) → s ≤ m → s ≤ n → t ≤ m → t ≤ n → leads s ≡ leads t
  past_both s t h k p q = grind arith

  -- a rank past the moment doesn't lead one up to it
  across : (t latest : ℕ) → t ≤ latest → nat_le n latest ≡ true → nat_le m latest ≡ false → leads t ≡ false
  across t latest h e f = grind arith

  -- ranks that have come stay so along a list in order
  pub come_first : (since latest : ℕ) → since ≤ latest → leads since ≡ false → nat_le m latest ≡ true → nat_le n latest ≡ true
  come_first since latest h e f = grind arith

  pub no_less : (since : ℕ) → leads since ≡ false → nat_le n since ≡ false → n ≤ m
  no_less since e f = grind arith

  pub due_stops : (since : ℕ) (c d : Bool) → leads since ≡ false → (nat_le n since && not (nat_le n since && c)) ≡ false
      → (nat_le n since && c) ≡ false → (nat_le m since && d) ≡ false
  due_stops since c d e f g = grind arith

  -- and so do ranks below one
  pub lower_first : (rank : ℕ) → leads 0 ≡ false → nat_lt m rank ≡ true → nat_lt n rank ≡ true
  lower_first rank e f = grind arith

  pub rank_stops : (rank : ℕ) → leads 0 ≡ false → nat_lt n rank ≡ false → (n == rank) ≡ false → (m == rank) ≡ false
  rank_stops rank e f g = grind arith

neither : (o p : Ordering) → o ≡ ordering_reverse p → is_lt o ≡ false → is_lt p ≡ false → o ≡ Equal
neither o p e f g = grind arith

-- pairs that tie are one
pub before_tie : (since : ℕ) (a b : Pair) → before since a b ≡ false → before since b a ≡ false → a ≡ b
before_tie since a b e f =
    let tie = neither (order since a b) (order since b a) ((order_total since).antisymm a b) e f in
    let rest = then_tie (key_cmp a.key b.key) (nat_cmp a.rank b.rank) (then_tie (nat_cmp (a.rank - since) (b.rank - since)) _ tie).1 in
    λ i. record { rank = nat_tie a.rank b.rank rest.1 i; key = key_tie a.key b.key rest.0 i }

-- of two alike the one of lower key comes first
pub alike_after : (since : ℕ) (x y : Pair) → key_cmp x.key y.key ≡ Less → y.rank - since ≡ x.rank - since → before since y x ≡ false
alike_after since x y l e =
    rw (same (y.rank - since) (x.rank - since) e, key_cmp_total.antisymm y.key x.key ∙ ap ordering_reverse l)

-- a list of pairs in order that has those of another is the order of that
pub is_order : (since : ℕ) (ys xs : List Pair) → IsInOrder (before since) ys → ((f : Pair → ℕ) → sum_by f ys ≡ sum_by f xs)
    → ys ≡ order_by (before since) xs
is_order since = law.is_order (before since) (before_weak since) (before_tie since)

-- ---- bringing pairs from one order into another

module _ (s t latest : ℕ) (h : s ≤ latest) (k : t ≤ latest) where
  past_ranked : (ys : List Pair) → AllByRecursion (λ z. nat_le z.rank latest ≡ false) ys → IsInOrder (before s) ys → IsInOrder (before t) ys
  past_ranked [] a r = tt
  past_ranked (y ∷ ys) a r = (each ys a.1 r.0, past_ranked ys a.1 r.1)
    where
      each : (zs : List Pair) → AllByRecursion (λ z. nat_le z.rank latest ≡ false) zs → AllByRecursion (λ z. before s z y ≡ false) zs
          → AllByRecursion (λ z. before t z y ≡ false) zs
      each [] b l = tt
      each (z ∷ zs) b l =
          let m = leb-false y.rank latest a.0 in
          let n = leb-false z.rank latest b.0 in (
            sym (past_both z.rank y.rank _ s t (omega arith) (omega arith) (omega arith) (omega arith)) ∙ l.0,
            each zs b.1 l.1,
          )

  -- a list is in the second order once its front is, as far as either moment goes
  pub arranged : (xs : List Pair) (n : ℕ) (front : List Pair) → IsInOrder (before s) xs
      → IsSplit (λ z. nat_le z.rank latest) xs n → IsPermutation (take n xs) front → IsInOrder (before t) front
      → front ++ drop n xs ≡ order_by (before t) xs
  arranged xs n front r ends p q =
      let fits = law.all_moved (λ z. nat_le z.rank latest ≡ true) (take n xs) front p ends.0 in
      let moved = rw take-append-drop at (IsPermutation-append_left (drop n xs) (take n xs) front p) in
      is_order t (front ++ drop n xs) xs
      (law.order_by-append (before t) front (drop n xs) q (past_ranked (drop n xs) ends.1 (law.ranked_drop (before s) n xs r))
      (weaken front fits (λ x e. weaken (drop n xs) ends.1 (λ y f. across y.rank x.rank _ t latest k e f))))
      (λ f. sum_by-IsPermutation f xs (front ++ drop n xs) moved)

-- ---- looking for pairs

-- the rank has come, but the key is not beyond the cursor
abbrev pub is_passed : (since : ℕ) → Cursor → Pair → Bool
is_passed since cursor x = nat_le x.rank since && not (is_due_beyond since cursor x)

passed : (since m n : ℕ) (k r : Ordering) (c d : Bool) → (is_gt (ordering_reverse k) ≡ false → d ≡ true → c ≡ true)
    → leads n m (ordering_then k r) since ≡ false → (nat_le n since && not (nat_le n since && not d)) ≡ true
    → (nat_le m since && not (nat_le m since && not c)) ≡ true
passed since m n k r c d h e f = grind arith

pub passed_first : (since : ℕ) (cursor : Cursor) (x y : Pair) → before since y x ≡ false → is_passed since cursor y ≡ true
    → is_passed since cursor x ≡ true
passed_first since cursor x y e f =
    passed since x.rank y.rank (key_cmp y.key x.key) (nat_cmp y.rank x.rank) (has_reached cursor x.key) (has_reached cursor y.key)
    (λ g. reached_below cursor x.key y.key (ap is_gt (key_cmp_total.antisymm x.key y.key) ∙ g)) e f

pub passed_not_due : (since : ℕ) (cursor : Cursor) (x : Pair) → is_passed since cursor x ≡ true → is_due_beyond since cursor x ≡ false
passed_not_due since cursor x e = grind arith
