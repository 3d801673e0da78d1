-- Where a key stands, or would stand, among rows in key order.
use Rattle.std.specs.Prelude.{◌≡◌, ℕ, ◌≤◌, ◌<◌, length, take, drop, slice_index_or}
use Rattle.std.specs.List.{AllByRecursion}
use Rattle.std.specs.declared.cmp.Ordering.TheVariants.{Less}
use Rattle.srcp_info.specs.declared.key.Key.{Key}
use Rattle.srcp_info.specs.declared.change.Row.{Row}
use Rattle.srcp_info.specs.Key.{key_cmp}
use Rattle.srcp_rules.specs.State.{State}

module _ (state : State) (key : Key) (index : ℕ) where
  -- the row at the index has the key
  pub record HasKeyAt : Type 0 where
    pub within : index < length state
    pub here : (d : Row) → (slice_index_or state index d).shown.key ≡ key

  -- the key belongs between the rows before the index and the rows from the index on
  pub record IsGapAt : Type 0 where
    pub within : index ≤ length state
    pub below : AllByRecursion (λ row. key_cmp row.shown.key key ≡ Less) (take index state)
    pub above : AllByRecursion (λ row. key_cmp key row.shown.key ≡ Less) (drop index state)
