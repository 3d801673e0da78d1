-- Sums over the rows of a registry, with a single row put or looked at apart.
use Rattle.srcp_rules.proofs.Names
use Names.{◌≡◌, ℕ, ◌+◌, Bool, true, not, cond, [], ◌∷◌, filter, Option, Some, sum_by, is_gt, is_eq, ordering_reverse, Ordering}
use Names.{refl, sym, ap, ◌∙◌, arith, sum_by-cons, sum_by-append, Key, Row, key_cmp, is_after, key_cmp_total, rising_put, State}
use Names.{IsRising, row_at, put_row}
use Rattle.srcp_index.specs.Indexed.{is_removable}
use Rattle.srcp_rules.proofs.KeyLaws.{same_key, same_key-true}
use Rattle.srcp_rules.proofs.StateLaws.{row_key, row_at-put_row}
use Rattle.srcp_rules.proofs.PutRowsLaws.{same_rows}

-- 1 for a row of a device that comes and goes
abbrev pub removable_count : Row → ℕ
removable_count row = cond (is_removable row) 1 0

-- the rows but that at the key
abbrev pub but_at : Key → State → State
but_at key state = filter (λ row. not (same_key row.shown.key key)) state

-- the rows below the key, and those above it
abbrev lows : Key → State → State
lows key state = filter (λ row. is_after key row.shown.key) state

abbrev highs : Key → State → State
highs key state = filter (λ row. is_after row.shown.key key) state

over : (b : Bool) (o p : Option Row) → (b ≡ true → o ≡ p) → cond b o p ≡ p
over b o p same = grind arith

-- a row that is there is put where it is
pub put_there : (row : Row) (state : State) → IsRising state → row_at row.shown.key state ≡ Some row → put_row row state ≡ state
put_there row state rising there =
    same_rows (put_row row state) state (rising_put row_key row state rising) rising (λ key. row_at-put_row key row state
    ∙ over (same_key row.shown.key key) (Some row) (row_at key state)
    (λ e. sym there ∙ ap (λ k. row_at k state) (same_key-true row.shown.key key e)))

module _ (w : Row → ℕ) where
  apart : (o p : Ordering) → p ≡ ordering_reverse o → (row : Row) (others below above : State) → sum_by w others
      ≡ sum_by w below + sum_by w above
      → sum_by w (cond (not (is_eq o)) (row ∷ others) others) ≡ sum_by w (cond (is_gt p) (row ∷ below) below) + sum_by w
      (cond (is_gt o) (row ∷ above) above)
  apart o p e row others below above h =
      grind (arith, sum_by-cons w row others, sum_by-cons w row below, sum_by-cons w row above)

  two_parts : (key : Key) (state : State) → sum_by w (but_at key state) ≡ sum_by w (lows key state) + sum_by w (highs key state)
  two_parts key [] = refl
  two_parts key (row ∷ state) =
      apart (key_cmp row.shown.key key) (key_cmp key row.shown.key) (key_cmp_total.antisymm key row.shown.key) row (but_at key state)
      (lows key state) (highs key state) (two_parts key state)

  -- the sum over rows with one put is that of the others and its own
  pub sum-put_row : (row : Row) (state : State) → sum_by w (put_row row state) ≡ w row + sum_by w (but_at row.shown.key state)
  sum-put_row row state =
      let key = row.shown.key in
      let parts = sum_by-append w (lows key state) (row ∷ highs key state) in
      omega (arith, parts, sum_by-cons w row (highs key state), two_parts key state)

  pub sum-there : (row : Row) (state : State) → IsRising state → row_at row.shown.key state ≡ Some row → sum_by w state
      ≡ w row + sum_by w (but_at row.shown.key state)
  sum-there row state rising there = ap (sum_by w) (sym (put_there row state rising there)) ∙ sum-put_row row state
