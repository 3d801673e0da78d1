-- How indexes keep a pair of each row with a rank: a due moment, or the session of a lock.
use Rattle.std.specs.Prelude.{◌≡◌, ℕ, ◌<◌, ◌≤◌, Bool, true, false, IsTrue, IsSome, List, [], ◌∷◌, fold, flat_map}
use Rattle.std.specs.Prelude.{length, Option}
use Rattle.std.specs.List.{AllByRecursion, count_by}
use Rattle.std.specs.Option.{option_map_or}
use Rattle.srcp_info.specs.declared.key.Group.{Group}
use Rattle.srcp_info.specs.declared.key.Group.TheVariants.{Ga, LockGl, LockGa}
use Rattle.srcp_info.specs.declared.key.Key.{Key}
use Rattle.srcp_info.specs.declared.change.Row.{Row}
use Rattle.srcp_info.specs.WellFormed.{can_go}
use Rattle.srcp_rules.specs.State.{State, IsRising, holder_of}
use Rattle.srcp_rules.specs.Rows.{most_rows}
use Rattle.srcp_index.specs.declared.index.Pair.{Pair}
use Rattle.srcp_index.specs.declared.indexes.Indexes.{Indexes}
use Rattle.srcp_index.specs.Pairs.{IndexModel, before}
use Rattle.srcp_index.specs.Ordered.{insert_by, order_by}

-- the pair of a row of this rank
abbrev pub at_rank : Row → (rank : ℕ) → Pair
at_rank row r = record { rank = r; key = row.shown.key }

-- the pair of the row, if the row has a rank
abbrev pub pair_of : (rank : Row → Option ℕ) → Row → List Pair
pair_of rank row = option_map_or (λ r. at_rank row r ∷ []) (rank row) []

-- the pairs of all rows, in key order
abbrev pub pairs_of : (rank : Row → Option ℕ) → State → List Pair
pairs_of rank state = flat_map (pair_of rank) state

-- how a list in an order is edited at the place of a pair: by insert_by or by remove_by
abbrev pub Edit : Type 0
Edit = (Pair → Pair → Bool) → Pair → List Pair → List Pair

-- the index edited at the pair of the key, if there is a rank
abbrev pub pair_edited : Edit → (rank : Option ℕ) → Key → IndexModel → IndexModel
pair_edited edit rank k index = record index {
  pairs =
      option_map_or (λ r. edit (before index.since) (record { rank = r; key = k }) index.pairs) rank index.pairs;
}

-- the moment at which the row falls due, if any
abbrev pub due_of : Row → Option ℕ
due_of row = row.due

-- both indexes edited at the pairs of the row
abbrev pub row_edited : Edit → Row → Indexes → Indexes
row_edited edit row both = record {
  moments = pair_edited edit (due_of row) row.shown.key both.moments;
  sessions = pair_edited edit (holder_of row) row.shown.key both.sessions;
}

-- both indexes with the pairs of these rows
abbrev pub with_rows : List Row → Indexes → Indexes
with_rows rows both = fold (λ before row. row_edited insert_by row before) both rows

-- the index has reserved memory for a further pair
abbrev pub HasReserved : IndexModel → Type 0
HasReserved index = length index.pairs < index.reserved

-- the row's device comes and goes
abbrev pub is_removable : Row → Bool
is_removable row = can_go row.shown.key.group

-- a row of the group may have a due moment or a holder
abbrev pub may_rank : Group → Bool
may_rank Ga = true
may_rank LockGl = true
may_rank LockGa = true
may_rank other = false

-- how many rows have a device that comes and goes
abbrev pub removable_rows : State → ℕ
removable_rows state = count_by is_removable state

-- only a row of an accessory or of a lock has a rank, and the row's port is a port of the group
pub record IsRankedRow (row : Row) : Type 0 where
  pub due : IsSome (due_of row) → IsTrue (may_rank row.shown.key.group)
  pub held : IsSome (holder_of row) → IsTrue (may_rank row.shown.key.group)
  pub port : row.shown.key.port < most_rows row.shown.key.group

-- the index has the pairs of the rows, and reserved memory for `count` pairs
pub record HasPairs (rank : Row → Option ℕ) (state : State) (index : IndexModel) (count : ℕ) : Type 0 where
  pub pairs : index.pairs ≡ order_by (before index.since) (pairs_of rank state)
  pub reserved : count ≤ index.reserved

-- the keys rise; both indexes have the pairs of the rows, and memory for `count` pairs, one for each row that can go
pub record IsIndexed (state : State) (both : Indexes) (count : ℕ) : Type 0 where
  pub rising : IsRising state
  pub due : HasPairs due_of state both.moments count
  pub held : HasPairs holder_of state both.sessions count
  pub since : both.sessions.since ≡ 0
  pub counted : removable_rows state ≡ count
  pub rows : AllByRecursion IsRankedRow state
