-- A row that is there all the time is listed exactly once.
use Rattle.std.proofs.Common.{◌≡◌, ◌≤◌, Bool, true, false, not, List, [], ◌∷◌, ◌++◌, length, refl, ap, sym, ◌∙◌, subst, arith}
use Rattle.std.proofs.Math.Nat.{le_refl}
use Rattle.std.proofs.lemmas.Bool.{cond_both}
use Rattle.std.proofs.lemmas.List.Folds.{list_any-append}
use Rattle.std.proofs.lemmas.List.Sums.{fold-append}
use Rattle.std.proofs.lemmas.Map.Views.{any-filter_same}
use Rattle.std.proofs.Math.Bool.{or-true}
use Rattle.std.specs.List.{AllByRecursion, filter, fold}
use Rattle.std.specs.Ordering.{eq_by_cmp, is_eq}
use Rattle.std.specs.Prelude.{◌&&◌, ⊤}
use Rattle.std.specs.declared.cmp.Ordering.{Ordering}
use Rattle.std.specs.declared.cmp.Ordering.TheVariants.{Less, Equal, Greater}
use Rattle.srcp_info.specs.Client.{IsRisingBy}
use Rattle.srcp_info.specs.Key.{key_cmp, has_reached}
use Rattle.srcp_info.specs.declared.change.Change.{Change}
use Rattle.srcp_info.specs.declared.change.Cursor.{Cursor}
use Rattle.srcp_info.specs.declared.change.Cursor.TheVariants.{Start, After, Done}
use Rattle.srcp_info.specs.declared.change.Shown.{Shown}
use Rattle.srcp_info.specs.declared.key.Key.{Key}
use Rattle.srcp_info.proofs.ClientLaws.{key_at, rising_fold}
use Rattle.srcp_info.proofs.KeyLaws.{key_cmp_total}
use Rattle.srcp_feed.specs.Cursor.{beyond, changed_all}
use Rattle.srcp_feed.specs.History.{Changes, Gives, Happening, HasAlways, IsSettled, Panel, after, begun, happens, has_key, listed}
use Rattle.srcp_feed.specs.History.{steps_of, times_listed}
use Rattle.srcp_feed.proofs.Steps.{lists_one}
use Rattle.srcp_feed.proofs.PanelSteps.{IsGiven, IsKept, any_steps, kept_all, kept_given, listed_more, listed_told}
use Rattle.srcp_feed.proofs.PanelKeeps.{kept_after, nothing_owed}

is_equal : (a b : Key) → eq_by_cmp key_cmp a b ≡ true → key_cmp a b ≡ Equal
is_equal a b e = by _ refl
  where
    by : (o : Ordering) → key_cmp a b ≡ o → key_cmp a b ≡ Equal
    by Less k = let bad : is_eq Less ≡ true = subst (λ o. is_eq o ≡ true) k e in cc
    by Equal k = k
    by Greater k = let bad : is_eq Greater ≡ true = subst (λ o. is_eq o ≡ true) k e in cc

-- none above a key has that key
none_equal : (a key : Key) (rows : List Shown) → key_cmp a key ≡ Equal → AllByRecursion (λ (y : Shown). key_cmp a y.key ≡ Less) rows
    → filter (λ row. eq_by_cmp key_cmp row.key key) rows ≡ []
none_equal a key [] e r = refl
none_equal a key (row ∷ rows) e r =
    let less : key_cmp key row.key ≡ Less = sym (key_cmp_total.congr a key row.key e) ∙ r.0 in
    let more : key_cmp row.key key ≡ Greater = cc (key_cmp_total.antisymm row.key key) in
    rw (ap is_eq more) (none_equal a key rows e r.1)

pub at_most_one : (key : Key) (rows : List Shown) → IsRisingBy (λ (row : Shown). row.key) rows
    → length (filter (λ row. eq_by_cmp key_cmp row.key key) rows) ≤ 1
at_most_one key [] r = omega arith
at_most_one key (row ∷ rows) r =
    cond_both _ _ _ (λ (xs : List Shown). length xs ≤ 1)
    (λ e. rw (none_equal row.key key rows (is_equal row.key key e) r.0) (le_refl 1)) (λ e. at_most_one key rows r.1)

at_least_one : (key : Key) (rows : List Shown) → has_key key rows ≡ true → 1 ≤ length (filter (λ row. eq_by_cmp key_cmp row.key key) rows)
at_least_one key [] h = cc
at_least_one key (row ∷ rows) h =
    cond_both (eq_by_cmp key_cmp row.key key) (row ∷ filter (λ row. eq_by_cmp key_cmp row.key key) rows) _ (λ xs. 1 ≤ length xs)
    (λ e. omega arith) (λ e. at_least_one key rows (rw e at h))

same_passed : (cursor : Cursor) (a b : Key) → key_cmp a b ≡ Equal → has_reached cursor a ≡ has_reached cursor b
same_passed Start a b e = refl
same_passed (After last) a b e = cc (key_cmp_total.congr a b last e)
same_passed Done a b e = refl

-- of the rows that are left, those that the listing has not come to have the keys that they had
has_beyond : (cursor : Cursor) (key : Key) (rows : List Shown)
    → has_key key (beyond cursor rows) ≡ not (has_reached cursor key) && has_key key rows
has_beyond cursor key rows =
    any-filter_same (λ row. eq_by_cmp key_cmp row.key key) (λ row. not (has_reached cursor row.key)) (not (has_reached cursor key))
    (λ row e. ap not (same_passed cursor row.key key (is_equal row.key key e))) rows

-- a key that was not passed is among those that are left
key_beyond : (cursor : Cursor) (key : Key) (rows : List Shown) → has_reached cursor key ≡ false → has_key key rows ≡ true
    → has_key key (beyond cursor rows) ≡ true
key_beyond cursor key rows f h = cc (has_beyond cursor key rows)

has_left : (key : Key) (xs ys : List Shown) → has_key key xs ≡ true → has_key key (xs ++ ys) ≡ true
has_left key xs ys h = cc (list_any-append (λ row. eq_by_cmp key_cmp row.key key) xs ys)

has_last : (key : Key) (xs : List Shown) (y : Shown) → eq_by_cmp key_cmp y.key key ≡ true → has_key key (xs ++ y ∷ []) ≡ true
has_last key xs y e = cc (list_any-append (λ row. eq_by_cmp key_cmp row.key key) xs (y ∷ []), or-true (has_key key xs))

-- if no row is left, a key that has one was passed
none_left : (cursor : Cursor) (key : Key) (rows : List Shown) → beyond cursor rows ≡ [] → has_key key rows ≡ true
    → has_reached cursor key ≡ true
none_left cursor key rows b here = by (has_reached cursor key) refl
  where
    by : (t : Bool) → has_reached cursor key ≡ t → has_reached cursor key ≡ true
    by true e = e
    by false e = let h : has_key key [] ≡ true = ap (has_key key) (sym b) ∙ key_beyond cursor key rows e here in cc

-- the key has a row, and was listed if the listing has passed it
record Meets (key : Key) (panel : Panel) : Type 0 where
  order : IsRisingBy key_at panel.rows
  here : has_key key panel.rows ≡ true
  met : has_reached panel.feed.cursor key ≡ true → has_key key (listed panel.given) ≡ true

meets_listed : (key : Key) (row : Shown) (left : List Shown) (panel : Panel)
    → beyond panel.feed.cursor panel.rows ≡ row ∷ left → Meets key panel → has_reached (After row.key) key ≡ true
    → (t : Bool) → has_reached panel.feed.cursor key ≡ t → has_key key (listed panel.given ++ row ∷ []) ≡ true
meets_listed key row left panel b m p true e = has_left key (listed panel.given) (row ∷ []) (m.met e)
meets_listed key row left panel b m p false e =
    let one = lists_one panel.feed.cursor row left panel.rows m.order b in
    let here : has_key key (row ∷ left) ≡ true = ap (has_key key) (sym b) ∙ key_beyond panel.feed.cursor key panel.rows e m.here in
    let away : has_key key left ≡ false = cc (one.left, has_beyond (After row.key) key panel.rows) in
    has_last key (listed panel.given) row (first here away (eq_by_cmp key_cmp row.key key) refl)
  where
    first : has_key key (row ∷ left) ≡ true → has_key key left ≡ false → (t : Bool) → eq_by_cmp key_cmp row.key key ≡ t
        → eq_by_cmp key_cmp row.key key ≡ true
    first h a true k = k
    first h a false k = let g : has_key key left ≡ true = rw k at h in cc

meets_given : (key : Key) → IsGiven (Meets key)
meets_given key = record {
  tells = λ change queue panel e m. record {
    order = m.order;
    here = m.here;
    met = λ p. ap (has_key key) (listed_told panel.given panel.rows change) ∙ m.met p;
  };
  lists = λ row left panel e b m. record {
    order = m.order;
    here = m.here;
    met = λ p.
        ap (has_key key) (listed_more panel.given panel.rows row)
        ∙ meets_listed key row left panel b m p (has_reached panel.feed.cursor key) refl;
  };
  ends = λ panel e b m. record {
    order = m.order;
    here = m.here;
    met = λ p. m.met (none_left panel.feed.cursor key panel.rows b m.here);
  };
}

always_now : (key : Key) (rows : List Shown) (steps : List (List Change)) → HasAlways key rows steps → has_key key rows ≡ true
always_now key rows [] a = a
always_now key rows (changes ∷ steps) a = a.0

meets_all : (key : Key) (happenings : List Happening) (panel : Panel) → HasAlways key panel.rows (steps_of happenings)
    → Meets key panel → Meets key (fold happens panel happenings)
meets_all key [] panel a m = m
meets_all key (Changes changes ∷ happenings) panel a m =
    meets_all key happenings (happens panel (Changes changes)) a.1
    (record {
      order = rising_fold changes panel.rows m.order;
      here = always_now key (changed_all changes panel.rows) (steps_of happenings) a.1;
      met = m.met;
    })
meets_all key (Gives ∷ happenings) panel a m =
    meets_all key happenings (happens panel Gives) a (kept_given (Meets key) (meets_given key) panel m)

-- what was listed stays listed
abbrev WasListed : Key → Panel → Type 0
WasListed key panel = has_key key (listed panel.given) ≡ true

stays_listed : (key : Key) → IsKept (λ changes. ⊤) (WasListed key)
stays_listed key = record {
  given = record {
    tells = λ change queue panel e h. ap (has_key key) (listed_told panel.given panel.rows change) ∙ h;
    lists = λ row left panel e b h.
        ap (has_key key) (listed_more panel.given panel.rows row) ∙ has_left key (listed panel.given) (row ∷ []) h;
    ends = λ panel e b h. h;
  };
  steps = λ changes panel any h. h;
}

pub lists_once : (first : List Shown) (early more : List Happening) (key : Key) → IsRisingBy key_at first → IsSettled (after first early)
    → HasAlways key first (steps_of early) → times_listed key (after first (early ++ more)).given ≡ 1
lists_once first early more key order settled always =
    let panel = after first early in
    let m = meets_all key early (begun first) always
    (record { order = order; here = always_now key first (steps_of early) always; met = λ p. absurd (cc) }) in
    let here : WasListed key panel =
    m.met (none_left panel.feed.cursor key panel.rows (nothing_owed panel settled).1 m.here) in
    let still : WasListed key (after first (early ++ more)) =
    subst (WasListed key) (sym (fold-append happens (begun first) early more))
    (kept_all _ (WasListed key) (stays_listed key) more panel (any_steps (steps_of more)) here) in
    let low = at_least_one key (listed (after first (early ++ more)).given) still in
    let high = at_most_one key (listed (after first (early ++ more)).given) (kept_after first (early ++ more) order).rising in
    omega arith
