-- Which rows have a rank, and the pairs of these rows in an index.
use Rattle.srcp_rules.proofs.Names
use Names.{◌≡◌, ℕ, ◌+◌, ◌<◌, ◌≤◌, true, IsTrue, IsSome, IfSome, List, length, Option, Some, None, AllByRecursion}
use Names.{ap, sym, ◌∙◌, arith, Key, Group, Value, Row, IsMoment, IsValueAt, can_go, Bus, State, IsRowOf}
use Names.{MayFall, holder_in, most_rows, weaken}
use Rattle.std.proofs.lemmas.List.Sorted.{length_permutation}
use Rattle.srcp_index.specs.Pairs.{IndexModel, before}
use Rattle.srcp_index.specs.Indexed.{HasPairs, IsRankedRow, removable_rows, may_rank, pairs_of}
use Rattle.srcp_index.specs.Indexed.{pair_edited}
use Rattle.srcp_index.specs.Ordered.{insert_by, order_by}
use Rattle.srcp_index.proofs.Ordered.{insert_by-permutes, order_by-permutes}
use Rattle.srcp_index.proofs.PairsOfRows.{fewer_pairs}

-- ---- rows with a rank

pub ranked_goes : (g : Group) → may_rank g ≡ true → can_go g ≡ true
ranked_goes g e = grind arith

due_goes : (g : Group) (port : ℕ) (shows : Value) (o : Option ℕ) → IsValueAt g port shows
    → IfSome o (λ moment. IsMoment moment × MayFall shows) → IsSome o → may_rank g ≡ true
due_goes g port shows o v h s = grind arith

held_goes : (g : Group) (port : ℕ) (shows : Value) → IsValueAt g port shows → IsSome (holder_in shows) → may_rank g ≡ true
held_goes g port shows v s = grind arith

port_within : (g : Group) (port : ℕ) (shows : Value) → IsValueAt g port shows → port < most_rows g
port_within g port shows v = grind arith

pub ranked_row : (buses : List Bus) (row : Row) → IsRowOf buses row → IsRankedRow row
ranked_row buses row of =
    let key = row.shown.key in
    let fits = of.shown.value in
    record {
      due = due_goes key.group key.port row.shown.value row.due fits of.due;
      held = held_goes key.group key.port row.shown.value fits;
      port = port_within key.group key.port row.shown.value fits;
    }

-- ---- one index

module _ (rank : Row → Option ℕ) where
  -- an index with the same pairs has memory for more rows, or for fewer
  pub with_reserved : (state : State) (index other : IndexModel) (m n : ℕ) → other.pairs ≡ index.pairs → other.since ≡ index.since
      → n ≤ other.reserved → HasPairs rank state index m → HasPairs rank state other n
  with_reserved state index other m n pairs since reserved h =
      record { pairs = pairs ∙ h.pairs ∙ ap (λ s. order_by (before s) (pairs_of rank state)) (sym since); reserved = reserved }

  -- there are no more pairs than rows that come and go
  pub few : ((row : Row) → IsRankedRow row → IsSome (rank row) → IsTrue (may_rank row.shown.key.group)) → (state : State)
      (index : IndexModel) (count : ℕ) → AllByRecursion IsRankedRow state → HasPairs rank state index count
      → length index.pairs ≤ removable_rows state
  few ranks state index count ranked h =
      let same = length_permutation _ _ (order_by-permutes (before index.since) (pairs_of rank state)) in
      let fewer = fewer_pairs rank state (weaken state ranked (λ row r s. ranked_goes row.shown.key.group (ranks row r s))) in
      omega (arith, ap length h.pairs, same, fewer)

-- one pair more at most
pub longer : (rank : Option ℕ) (k : Key) (index : IndexModel) → length (pair_edited insert_by rank k index).pairs ≤ 1 + length index.pairs
longer None k index = omega arith
longer (Some r) k index =
    omega (arith, length_permutation _ _ (insert_by-permutes (before index.since) (record { rank = r; key = k }) index.pairs))
