-- What an information session was given and what waits for it, and what a step and a line make of both.
use Rattle.srcp_core.proofs.Names.{◌≡◌, ℕ, ◌+◌, ◌-◌, ◌≤◌, true, List, [], ◌∷◌, ◌++◌, map, length, drop, refl, ap, ◌∙◌}
use Rattle.srcp_core.proofs.Names.{subst, arith, append-nil, append_assoc, length-append, length-drop, le-leb, length_push}
use Rattle.srcp_core.proofs.Names.{drop-drop, filter_map-append, fold-append, filter, filter_map, nat_le, Option, Some}
use Rattle.srcp_core.proofs.Names.{None, IsRisingBy, Change, Start, After, Done, Shown, beyond, moved, changed_all, Next}
use Rattle.srcp_core.proofs.Names.{Told, Listed, key_at, lists_one, beyond_done, History, told_change, items_of, Item, le_refl}
use Rattle.srcp_feed.proofs.Steps.{ListsOne}
use Rattle.srcp_core.proofs.CourseLaws.Histories.{rows_after, concerning_by, concerning_push, concerning_same, cursor_by, AreBy, IsDoneBy}
use Rattle.srcp_core.proofs.CourseLaws.Histories.{by_all, by_more, done_more, cursor_before}
use Rattle.srcp_core.proofs.Names.{all_append, cases_Bool, ⊎_elim}

-- the changes that were told
abbrev pub tolds : List Item → List Change
tolds items = filter_map (λ item. told_change item.what) items

abbrev pub untold_by : ℕ → List Item → Option ℕ → History → List Change
untold_by go items done history = drop (length (tolds items)) (concerning_by go (cursor_by done items) history)

abbrev pub owed_by : ℕ → List Item → Option ℕ → History → List Shown → List Next
owed_by go items done history rows =
    map Told (untold_by go items done history) ++ map Listed (beyond (cursor_by done items (length history)) rows)

-- what was given and told is of the steps so far
pub record Fits (start : List Shown) (history : History) (go : ℕ) (items : List Item) (done : Option ℕ) : Type 0 where
  pub numbers : AreBy (length history) items
  pub done_by : IsDoneBy (length history) done
  pub began : go ≤ length history
  pub enough : length (tolds items) ≤ length (concerning_by go (cursor_by done items) history)

pub rows_push : (start : List Shown) (history : History) (changes : List Change)
    → rows_after start (history ++ changes ∷ []) ≡ changed_all changes (rows_after start history)
rows_push start history changes = fold-append (λ rows changes. changed_all changes rows) start history _

-- a step more
pub fits_push : (start : List Shown) (history : History) (changes : List Change) (go : ℕ) (items : List Item) (done : Option ℕ)
    → Fits start history go items done → Fits start (history ++ changes ∷ []) go items done
fits_push start history changes go items done f =
    let len : length (history ++ changes ∷ []) ≡ length history + 1 = length_push history changes in
    let up : length history ≤ length (history ++ changes ∷ []) = omega arith in
    let numbers = f.numbers in
    let before : List Change = concerning_by go _ history in
    let extra : List Change = filter _ changes in
    let con : concerning_by go (cursor_by done items) (history ++ changes ∷ []) ≡ before ++ extra =
    concerning_push go _ history changes f.began in
    let longer : length (concerning_by go (cursor_by done items) (history ++ changes ∷ [])) ≡ length before + length extra =
    cc (length-append before extra) in
    let enough = f.enough in
    let began = f.began in
    record {
      numbers = by_more _ _ items up f.numbers;
      done_by = done_more _ _ done up f.done_by;
      began = omega arith;
      enough = omega arith;
    }

-- ---- one line more

abbrev pub item_of : History → Next → Item
item_of history what = record { steps = length history; what = what }

-- after one line is given, what waits and what is left to list
pub record OneMore (start : List Shown) (history : History) (go : ℕ) (items : List Item) (done : Option ℕ) (waits : List Change)
    (left : List Shown) : Type 0 where
  pub fits : Fits start history go items done
  pub waiting : untold_by go items done history ≡ waits
  pub listing : beyond (cursor_by done items (length history)) (rows_after start history) ≡ left

-- what is given now does not change what concerns the session
pub concerning_item : (history : History) (go : ℕ) (items : List Item) (done : Option ℕ) (what : Next)
    → concerning_by go (cursor_by done (items ++ item_of history what ∷ [])) history ≡ concerning_by go (cursor_by done items) history
concerning_item history go items done what =
    concerning_same go _ _ 0 history (λ k low high. cursor_before (length history) k done items _ (omega (arith, high)) (refl, tt))

-- how far the listing is after a line
pub cursor_item : (history : History) (items : List Item) (what : Next) → AreBy (length history) items
    → cursor_by None (items ++ item_of history what ∷ []) (length history) ≡ moved (cursor_by None items (length history)) what
cursor_item history items what a =
    cc (
      by_all (length history) _ (all_append (λ item. item.steps ≤ length history) items (item_of history what ∷ []) a (le_refl _, tt)),
      fold-append (λ cursor item. moved cursor item.what) Start items (item_of history what ∷ []),
      by_all _ items a,
    )

pub cursor_told : (history : History) (items : List Item) (done : Option ℕ) (change : Change) → AreBy (length history) items
    → cursor_by done (items ++ item_of history (Told change) ∷ []) (length history) ≡ cursor_by done items (length history)
cursor_told history items None change a = cursor_item history items _ a
cursor_told history items (Some m) change a =
    ⊎_elim (λ e. rw e refl) (λ e. rw e (cursor_item history items (Told change) a)) (cases_Bool (nat_le m (length history)))

pub fits_told : (start : List Shown) (history : History) (go : ℕ) (items : List Item) (done : Option ℕ) (change : Change)
    (changes : List Change)
    → Fits start history go items done → untold_by go items done history ≡ change ∷ changes
    → OneMore start history go (items ++ item_of history (Told change) ∷ []) done changes
    (beyond (cursor_by done items (length history)) (rows_after start history))
fits_told start history go items done change changes f e =
    let con = concerning_item history go items done (Told change) in
    let cur = cursor_told history items done change f.numbers in
    let tol : tolds (items ++ item_of history (Told change) ∷ []) ≡ tolds items ++ change ∷ [] =
    filter_map-append (λ (item : Item). told_change _) items _ in
    let len : length (tolds (items ++ item_of history (Told change) ∷ [])) ≡ length (tolds items) + 1 =
    cc (length_push (tolds items) change) in
    let before : List Change = concerning_by go (cursor_by done items) history in
    let room : length before - length (tolds items) ≡ length (change ∷ changes) = cc (length-drop (length (tolds items)) before) in
    let lencon : length (concerning_by go (cursor_by done (items ++ item_of history (Told change) ∷ [])) history) ≡ length before =
    cc in
    let waits : untold_by go (items ++ item_of history (Told change) ∷ []) done history ≡ changes =
    cc (drop-drop 1 (length (tolds items)) before) in
    record {
      fits = record {
        numbers = all_append _ items _ f.numbers (le_refl _, tt);
        done_by = f.done_by;
        began = f.began;
        enough = omega arith;
      };
      waiting = waits;
      listing = cc;
    }

-- where a row is left the listing is not done
pub not_done : (start : List Shown) (history : History) (go : ℕ) (items : List Item) (done : Option ℕ) (row : Shown) (left : List Shown)
    → Fits start history go items done → beyond (cursor_by done items (length history)) (rows_after start history) ≡ row ∷ left
    → done ≡ None
not_done start history go items None row left f b = refl
not_done start history go items (Some m) row left f b =
    let past : nat_le m (length history) ≡ true = le-leb m (length history) f.done_by in
    let bad : beyond Done (rows_after start history) ≡ row ∷ left = rw past at b in
    let none = beyond_done (rows_after start history) in
    cc

pub fits_listed : (start : List Shown) (history : History) (go : ℕ) (items : List Item) (done : Option ℕ) (row : Shown) (left : List Shown)
    → IsRisingBy key_at (rows_after start history) → Fits start history go items done
    → untold_by go items done history ≡ [] → beyond (cursor_by done items (length history)) (rows_after start history) ≡ row ∷ left
    → OneMore start history go (items ++ item_of history (Listed row) ∷ []) done [] left
fits_listed start history go items (Some m) row left order f e b = let bad = not_done start history go items (Some m) row left f b in cc
fits_listed start history go items None row left order f e b =
    let con = concerning_item history go items None (Listed row) in
    let cur : cursor_by None (items ++ item_of history (Listed row) ∷ []) (length history) ≡ After row.key =
    cursor_item history items (Listed row) f.numbers in
    let tol : tolds (items ++ item_of history (Listed row) ∷ []) ≡ tolds items =
    filter_map-append (λ (item : Item). told_change item.what) items (item_of history (Listed row) ∷ []) ∙ append-nil (tolds items) in
    let len : length (tolds (items ++ item_of history (Listed row) ∷ [])) ≡ length (tolds items) = ap length tol in
    let lencon : length (concerning_by go (cursor_by None (items ++ item_of history (Listed row) ∷ [])) history)
    ≡ length (concerning_by go (cursor_by None items) history) = ap length con in
    let enough = f.enough in
    let one : ListsOne (cursor_by None items (length history)) row left (rows_after start history) =
    lists_one (cursor_by None items (length history)) row left (rows_after start history) order b in
    let waits : untold_by go (items ++ item_of history (Listed row) ∷ []) None history ≡ [] =
    ap (λ n. drop n (concerning_by go (cursor_by None (items ++ item_of history (Listed row) ∷ [])) history)) len
    ∙ ap (drop (length (tolds items))) con ∙ e in
    record {
      fits = record {
        numbers = all_append _ items _ f.numbers (le_refl _, tt);
        done_by = f.done_by;
        began = f.began;
        enough = omega arith;
      };
      waiting = waits;
      listing = cc one.left;
    }

-- ---- further laws of a session

-- what is kept by each thing that can happen to a session
pub record Law (start : List Shown) (P : History → ℕ → List Item → Option ℕ → Type 0) : Type 0 where
  -- it holds before anything was given
  pub fresh : (history : History) (go : ℕ) → go ≤ length history → P history go [] None
  -- a step more
  pub push : (history : History) (changes : List Change) (go : ℕ) (items : List Item) (done : Option ℕ)
      → IsRisingBy key_at (rows_after start history) → Fits start history go items done → P history go items done
      → P (history ++ changes ∷ []) go items done
  -- the first change that waits is told
  pub tell : (history : History) (go : ℕ) (items : List Item) (done : Option ℕ) (change : Change) (changes : List Change)
      → IsRisingBy key_at (rows_after start history) → Fits start history go items done → P history go items done
      → untold_by go items done history ≡ change ∷ changes → P history go (items ++ item_of history (Told change) ∷ []) done
  -- the first row that is left is listed
  pub list : (history : History) (go : ℕ) (items : List Item) (row : Shown) (left : List Shown)
      → IsRisingBy key_at (rows_after start history) → Fits start history go items None → P history go items None
      → untold_by go items None history ≡ [] → beyond (cursor_by None items (length history)) (rows_after start history) ≡ row ∷ left
      → P history go (items ++ item_of history (Listed row) ∷ []) None
  -- the listing is done
  pub finish : (history : History) (go : ℕ) (items : List Item) → IsRisingBy key_at (rows_after start history)
      → Fits start history go items None → P history go items None
      → untold_by go items None history ≡ [] → beyond (cursor_by None items (length history)) (rows_after start history) ≡ []
      → P history go items (Some (length history))

-- ---- the prefix of what is owed

module _ (start : List Shown) (P : History → ℕ → List Item → Option ℕ → Type 0) (law : Law start P) where
  -- after lines are given, what is owed is the rest
  pub record Gives (history : History) (go : ℕ) (items : List Item) (done : Option ℕ) (rest : List Next) : Type 0 where
    pub fits : Fits start history go items done
    pub also : P history go items done
    pub owes : owed_by go items done history (rows_after start history) ≡ rest

  pub gives : (history : History) (go : ℕ) (items : List Item) (done : Option ℕ) (nexts rest : List Next)
      → IsRisingBy key_at (rows_after start history) → Fits start history go items done → P history go items done
      → owed_by go items done history (rows_after start history) ≡ nexts ++ rest
      → Gives history go (items ++ items_of (length history) nexts) done rest
  gives history go items done [] rest order f p e = rw (append-nil items) (record { fits = f; also = p; owes = e })
  gives history go items done (what ∷ nexts) rest order f p e =
      by (untold_by go items done history) refl (beyond (cursor_by done items (length history)) (rows_after start history)) refl
      (λ item f p e. gives history go (items ++ item ∷ []) done nexts rest order f p e)
    where
      joined : (other : Next) → other ≡ what
          → Gives history go ((items ++ item_of history other ∷ []) ++ items_of (length history) nexts) done rest
          → Gives history go (items ++ items_of (length history) (what ∷ nexts)) done rest
      joined other same g =
          subst (λ is. Gives history go is done rest)
          (append_assoc items _ _
          ∙ ap (λ w. items ++ items_of (length history) (w ∷ nexts)) same) g

      listed : (row : Shown) (left : List Shown) → untold_by go items done history ≡ []
          → beyond (cursor_by done items (length history)) (rows_after start history) ≡ row ∷ left
          → P history go (items ++ item_of history (Listed row) ∷ []) done
      listed row left u b =
          let none = not_done start history go items done row left f b in
          rw none
          (law.list history go items row left order (rw (← none) f)
          (rw (← none) p)
          (rw (← none) u)
          (subst (λ d. beyond (cursor_by d items (length history)) (rows_after start history) ≡ row ∷ left) none b))

      by : (u : List Change) → untold_by go items done history ≡ u → (b : List Shown)
          → beyond (cursor_by done items (length history)) (rows_after start history) ≡ b
          → ((item : Item) → Fits start history go (items ++ item ∷ []) done → P history go (items ++ item ∷ []) done
          → owed_by go (items ++ item ∷ []) done history (rows_after start history) ≡ nexts ++ rest
          → Gives history go ((items ++ item ∷ []) ++ items_of (length history) nexts) done rest)
          → Gives history go (items ++ items_of (length history) (what ∷ nexts)) done rest
      by [] u [] b next =
          let bad : map Told [] ++ map Listed [] ≡ what ∷ (nexts ++ rest) = cc in
          cc
      by [] u (row ∷ left) b next =
          let is : Listed row ∷ map Listed left ≡ what ∷ (nexts ++ rest) = cc in
          let head : Listed row ≡ what = cc in
          let tail : map Listed left ≡ nexts ++ rest = cc in
          let one = fits_listed start history go items done row left order f u b in
          joined (Listed row) head
          (next (item_of history (Listed row)) one.fits (listed row left u b)
          (ap (λ u. map Told u
          ++ map Listed
          (beyond (cursor_by done (items ++ item_of history (Listed row) ∷ []) (length history))
          (rows_after start history)))
          one.waiting
          ∙ ap (λ b. map Told [] ++ map Listed b) one.listing ∙ tail))
      by (change ∷ changes) u left b next =
          let is : Told change ∷ (map Told changes ++ map Listed left) ≡ what ∷ (nexts ++ rest) = cc in
          let head : Told change ≡ what = cc in
          let tail : map Told changes ++ map Listed left ≡ nexts ++ rest = cc in
          let one = fits_told start history go items done change changes f u in
          joined (Told change) head
          (next (item_of history (Told change)) one.fits (law.tell history go items done change changes order f p u)
          (ap (λ u. map Told u
          ++ map Listed
          (beyond (cursor_by done (items ++ item_of history (Told change) ∷ []) (length history))
          (rows_after start history)))
          one.waiting
          ∙ ap (λ b. map Told changes ++ map Listed b) (one.listing ∙ b) ∙ tail))
