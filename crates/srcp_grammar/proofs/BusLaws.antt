-- A layout with a further bus: the place of the bus, and a layout again.
use Rattle.std.specs.Prelude.{◌≡◌, ℕ, ◌<◌, ◌≤◌, Bool, true, false, ◌||◌, ◌==◌, nat_lt, List, [], ◌∷◌, ◌++◌, length, map, filter, find}
use Rattle.std.specs.Prelude.{insert, is_some, cond, slice_index_or, Option, Some}
use Rattle.std.proofs.Common.{refl, sym, ◌∙◌, true≢false, arith}
use Rattle.std.specs.Cmp.{nat_cmp_is}
use Rattle.std.specs.List.{AllByRecursion, list_any}
use Rattle.std.specs.List.Sorted.{IsStrictlySortedBy, IsPartitionPoint, IsPartitionedBy}
use Rattle.std.specs.Ordering.{nat_cmp}
use Rattle.std.specs.declared.cmp.Ordering.TheVariants.{Less}
use Rattle.std.proofs.lemmas.Bool.{ltb-true, lt-ltb}
use Rattle.std.proofs.lemmas.List.Folds.{list_any_at}
use Rattle.std.proofs.lemmas.Map.Keys.{sorted_from_strictly_increasing, IsStrictlyIncreasing-from_sorted}
use Rattle.srcp_info.proofs.ClientLaws.{all_append, all_filter, all_kept}
use Rattle.srcp_grammar.specs.declared.layout.Bus.{Bus}
use Rattle.srcp_grammar.specs.Layout.{IsBus, IsLayout, has_number, with_bus}
use Rattle.srcp_grammar.proofs.FindLaws.{each-weaken}
use Rattle.srcp_grammar.proofs.PlaceLaws.{front_each, back_each, filter_front, filter_back, Follows, partitioned}
use Rattle.std.proofs.lemmas.Map.Keys.{sorted_head, sorted_tail}
use Rattle.std.specs.Cmp.{ranked}

-- ---- rising buses

pub each_unmapped : {X Y : Type 0} (P : Y → Type 0) (f : X → Y) (xs : List X) → AllByRecursion P (map f xs)
    → AllByRecursion (λ x. P (f x)) xs
each_unmapped P f [] h = tt
each_unmapped P f (x ∷ xs) h = (h.0, each_unmapped P f xs h.1)

-- each bus has a number below all later ones
abbrev pub Rising : List Bus → Type 0
Rising [] = Unit
Rising (b ∷ bs) = AllByRecursion (λ c. b.number < c.number) bs × Rising bs

pub rising_buses : (bs : List Bus) → IsStrictlySortedBy nat_cmp (map (λ bus. bus.number) bs) → Rising bs
rising_buses [] h = tt
rising_buses (b ∷ bs) h = (
  each_unmapped (λ n. b.number < n) (λ bus. bus.number) bs
      (each-weaken {P = λ n. nat_cmp b.number n ≡ Less} (λ n e. ranked b.number n Less (sym e)) (map (λ bus. bus.number) bs)
      (sorted_head nat_cmp b.number (map (λ bus. bus.number) bs) h)),
  rising_buses bs (sorted_tail nat_cmp b.number (map (λ bus. bus.number) bs) h),
)

-- ---- numbers

found_step : (b o : Bool) (bus : Bus) (r : Option Bus) → o ≡ is_some r → (b || o) ≡ is_some (cond b (Some bus) r)
found_step true o bus r e = refl
found_step false o bus r e = e

-- one has the number where it is found
any_found : (buses : List Bus) (n : ℕ) → list_any (λ bus. bus.number == n) buses ≡ has_number buses n
any_found [] n = grind arith
any_found (bus ∷ buses) n = grind (arith, any_found buses n)

-- a bus of a number is there where it is found
pub has_number-found : (buses : List Bus) (n : ℕ) → has_number buses n ≡ is_some (find (λ bus. bus.number == n) buses)
has_number-found buses n = refl

rises_sorted : (bs : List Bus) → Rising bs → IsStrictlySortedBy nat_cmp (map (λ bus. bus.number) bs)
unfolding IsStrictlySortedBy
rises_sorted [] h = tt
rises_sorted (b ∷ bs) h = (mapped bs h.0, rises_sorted bs h.1)
  where
    mapped : (cs : List Bus) → AllByRecursion (λ c. b.number < c.number) cs
        → AllByRecursion (λ n. nat_cmp b.number n ≡ Less) (map (λ bus. bus.number) cs)
    mapped [] h = tt
    mapped (c ∷ cs) h = (sym (nat_cmp_is b.number c.number Less h.0), mapped cs h.1)

rises_step : (c : Bool) (b : Bus) (bs : List Bus) → AllByRecursion (λ other. b.number < other.number) bs → Rising bs
    → Rising (cond c (b ∷ bs) bs)
rises_step true b bs a r = (a, r)
rises_step false b bs a r = r

rises-filter : (p : Bus → Bool) (bs : List Bus) → Rising bs → Rising (filter p bs)
rises-filter p [] h = grind (arith, rises_step, all_filter)
rises-filter p (b ∷ bs) h = grind (arith, rises_step, all_filter, rises-filter p bs h.1)

rises_join : (xs : List Bus) (b : Bus) (ys : List Bus) → Rising xs → AllByRecursion (λ x. x.number < b.number) xs
    → AllByRecursion (λ y. b.number < y.number) ys → Rising ys → Rising (xs ++ b ∷ ys)
rises_join [] b ys r low high s = grind (arith, all_append, each-weaken)
rises_join (x ∷ xs) b ys r low high s = grind (arith, all_append, each-weaken, rises_join xs b ys r.1 low.1 high s)

-- ---- places

follows : (bs : List Bus) → Rising bs → Follows (λ a b. a.number < b.number) bs
follows [] h = tt
follows (b ∷ bs) h = (h.0, follows bs h.1)

module _ (bus : Bus) where
  abbrev pub below : Bus → Bool
  below other = nat_lt other.number bus.number

  abbrev pub above : Bus → Bool
  above other = nat_lt bus.number other.number

  not_above : (other : Bus) → below other ≡ true → above other ≡ false
  not_above other e = grind arith

  then_above : (other : Bus) → below other ≡ false → ((other.number == bus.number) ≡ true → ⊥) → above other ≡ true
  then_above other e f = grind arith

  pub below_partitioned : (buses : List Bus) → IsLayout buses → IsPartitionedBy below buses
  below_partitioned buses layout =
      partitioned (λ a b. a.number < b.number) below
      (λ x y less e. lt-ltb x.number bus.number (omega (arith, less, ltb-true y.number bus.number e))) buses
      (follows buses (rising_buses buses (sorted_from_strictly_increasing (map (λ other. other.number) buses) layout.rising)))

  -- an insert at the place that a search by the number finds gives the buses with one more
  pub insert-with_bus : (buses : List Bus) (place : ℕ) → has_number buses bus.number ≡ false → place ≤ length buses
      → IsPartitionPoint (λ other. below other ≡ true) (λ other. below other ≡ false) buses place
      → insert buses place bus ≡ with_bus bus buses
  insert-with_bus buses place free h parted =
      let low = front_each (λ other. below other ≡ true) buses place h parted.0 in
      let no_high =
      front_each (λ other. above other ≡ false) buses place h (λ k d a b. not_above (slice_index_or buses k d) (parted.0 k d a b)) in
      let no_low = back_each (λ other. below other ≡ false) buses place parted.1 in
      let high = back_each (λ other. above other ≡ true) buses place
      (λ k d a b.
      then_above (slice_index_or buses k d) (parted.1 k d a b)
      (λ e.
      true≢false (sym (list_any_at (λ other. other.number == bus.number) buses k d b e) ∙ any_found buses bus.number
      ∙ free))) in
      λ i. sym (filter_front below buses place low no_low) i ++ bus ∷ sym (filter_back above buses place no_high high) i

  -- it is a layout again
  pub IsLayout-with_bus : (buses : List Bus) → IsLayout buses → IsBus bus → IsLayout (with_bus bus buses)
  IsLayout-with_bus buses layout fits =
      let rises = rising_buses buses (sorted_from_strictly_increasing (map (λ other. other.number) buses) layout.rising) in
      record {
        each =
            all_append IsBus (filter below buses) (bus ∷ filter above buses) (all_filter IsBus below buses layout.each)
            (fits, all_filter IsBus above buses layout.each);
        rising = IsStrictlyIncreasing-from_sorted (map (λ other. other.number) (with_bus bus buses))
            (rises_sorted (with_bus bus buses)
            (rises_join (filter below buses) bus (filter above buses) (rises-filter below buses rises)
            (all_kept (λ x. x.number < bus.number) below (λ x e. ltb-true x.number bus.number e) buses)
            (all_kept (λ y. bus.number < y.number) above (λ y e. ltb-true bus.number y.number e) buses)
            (rises-filter above buses rises)));
      }
