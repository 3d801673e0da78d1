-- Pairs of a rank and a key, and their order since a moment.
use Rattle.std.specs.Prelude.{◌≡◌, ℕ, ◌≤◌, ◌-◌, Bool, not, nat_le, ◌&&◌, List, [], Option, Some, None, Any}
use Rattle.std.specs.List.{AllByRecursion}
use Rattle.std.specs.Ordering.{nat_cmp, ordering_then, is_lt}
use Rattle.std.specs.declared.cmp.Ordering.{Ordering}
use Rattle.srcp_info.specs.declared.change.Cursor.{Cursor}
use Rattle.srcp_info.specs.Key.{key_cmp, has_reached}
use Rattle.srcp_index.specs.declared.index.Pair.{Pair}

-- ranks up to `since` are alike, and pairs of like rank go by their keys
abbrev pub order : (since : ℕ) → Pair → Pair → Ordering
order since a b =
    ordering_then (nat_cmp (a.rank - since) (b.rank - since))
    (ordering_then (key_cmp a.key b.key) (nat_cmp a.rank b.rank))

abbrev pub before : (since : ℕ) → Pair → Pair → Bool
before since a b = is_lt (order since a b)

-- the model of an index: the pairs in the order since the moment, and for how many pairs memory is reserved
pub record IndexModel : Type 0 where
  pub since : ℕ
  pub pairs : List Pair
  pub reserved : ℕ

-- the rank has come, and the key is beyond the cursor
abbrev pub is_due_beyond : (moment : ℕ) → Cursor → Pair → Bool
is_due_beyond moment cursor pair = nat_le pair.rank moment && not (has_reached cursor pair.key)

-- the least rank of the pairs: no pair has a lesser rank, and a pair has this rank; none if there is no pair
abbrev pub IsLeastRank : Option ℕ → List Pair → Type 0
IsLeastRank None pairs = pairs ≡ []
IsLeastRank (Some rank) pairs = AllByRecursion (λ pair. rank ≤ pair.rank) pairs × Any (λ pair. pair.rank ≡ rank) pairs
