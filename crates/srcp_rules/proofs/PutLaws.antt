-- Look-ups in two lists of rows, the second behind the first, and changes of either list.
use Rattle.srcp_rules.proofs.Names
use Names.{◌≡◌, Bool, true, false, not, List, [], ◌∷◌, ◌++◌, filter, find, None, refl, sym, ap, ◌∙◌, append_assoc, find-append}
use Names.{AllByRecursion, option_or, is_gt, Less, Device, Row, key_cmp, is_after, owns, after_from_less, filter_every, State, IsRising}
use Names.{put_row, without, put_rows, weaken}
use Rattle.std.proofs.lemmas.List.Elements.{filter-append}
use Rattle.srcp_info.proofs.ClientLaws.{filter_no_one}

module _ {X : Type 0} (t : X → Bool) where
  -- nothing is found in the first list
  pub find_past : (xs ys : List X) → AllByRecursion (λ x. t x ≡ false) xs → find t (xs ++ ys) ≡ find t ys
  find_past [] ys h = refl
  find_past (x ∷ xs) ys h = rw h.0 (find_past xs ys h.1)

  pub find_none : (xs : List X) → AllByRecursion (λ x. t x ≡ false) xs → find t xs ≡ None
  find_none [] h = refl
  find_none (x ∷ xs) h = rw h.0 (find_none xs h.1)

  -- or in the second
  pub find_before : (xs ys : List X) → AllByRecursion (λ x. t x ≡ false) ys → find t (xs ++ ys) ≡ find t xs
  find_before [] ys h = find_none ys h
  find_before (x ∷ xs) ys h = rw (find_before xs ys h)

  -- what is found depends on what is found behind the first list
  pub find_behind : (xs ys zs : List X) → find t ys ≡ find t zs → find t (xs ++ ys) ≡ find t (xs ++ zs)
  find_behind xs ys zs e = find-append t xs ys ∙ ap (λ o. option_or (find t xs) o) e ∙ sym (find-append t xs zs)

-- ---- putting rows

module _ (row : Row) where
  abbrev lower : Row → Bool
  lower other = is_after row.shown.key other.shown.key

  abbrev higher : Row → Bool
  higher other = is_after other.shown.key row.shown.key

  -- behind rows that are below it
  pub put_row-past : (xs ys : State) → AllByRecursion (λ x. key_cmp x.shown.key row.shown.key ≡ Less) xs
      → put_row row (xs ++ ys) ≡ xs ++ put_row row ys
  put_row-past xs ys h =
      rw (
        filter-append lower xs ys,
        filter-append higher xs ys,
        filter_every lower xs (weaken xs h (λ x e. after_from_less row.shown.key x.shown.key e)),
        filter_no_one higher xs (weaken xs h (λ x e. ap is_gt e)),
      )
      (append_assoc xs (filter lower ys) (row ∷ filter higher ys))

pub put_rows-past : (rows xs ys : State) → AllByRecursion (λ row. AllByRecursion (λ x. key_cmp x.shown.key row.shown.key ≡ Less) xs) rows
    → put_rows rows (xs ++ ys) ≡ xs ++ put_rows rows ys
put_rows-past [] xs ys h = refl
put_rows-past (row ∷ rows) xs ys h = ap (put_rows rows) (put_row-past row xs ys h.0) ∙ put_rows-past rows xs (put_row row ys) h.1

-- rows by rising key, if there are none
pub put_rows-new : (rows : State) → IsRising rows → put_rows rows [] ≡ rows
put_rows-new [] h = refl
put_rows-new (row ∷ rows) h =
    put_rows-past rows (row ∷ []) [] (weaken rows h.0 (λ y e. (e, tt)))
    ∙ ap (λ ys. row ∷ ys) (put_rows-new rows h.1)

-- ---- taking out the rows of a device

-- if all are the device's, none is left
pub without-all : (device : Device) (xs : State) → AllByRecursion (λ x. owns device x.shown.key ≡ true) xs → without device xs ≡ []
without-all device xs h = filter_no_one (λ row. not (owns device row.shown.key)) xs (weaken xs h (λ x e. ap not e))
