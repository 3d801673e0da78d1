-- Room for bytes: a prefix of what is owed is given, and the listing is done where there was no more.
use Rattle.srcp_core.proofs.Names.{◌≡◌, ℕ, zero, suc, inl, inr, ◌⊎◌, ⊎_elim, min, append_assoc, length-drop, ◌+◌, ◌-◌, ◌<◌, ◌≤◌}
use Rattle.srcp_core.proofs.Names.{true, false, List, [], ◌∷◌, ◌++◌, map, length, refl, ap, ◌∙◌, arith, length-append, max}
use Rattle.srcp_core.proofs.Names.{flat_map-append, lt-leb, ltb-true, flat_map, option_or, Option}
use Rattle.srcp_core.proofs.Names.{Some, None, IfSome, Shown, beyond, Next, Told, Listed, key_at, IsRisingBy}
use Rattle.srcp_core.proofs.Names.{beyond_done, Connection, History, heard, line_of, prefix, fitting}
use Rattle.srcp_core.proofs.Names.{available, exhausts, text, given, unsent, took, items_of, Item, cases_lt, le_refl}
use Rattle.srcp_core.proofs.CourseLaws.Histories.{rows_after, concerning_by, concerning_same, cursor_by, cursor_done}
use Rattle.srcp_core.proofs.CourseLaws.ItemsFitHistory.{Fits, Law, Gives, owed_by, untold_by}

-- ---- prefixes

pub record IsPrefix (nexts all : List Next) : Type 0 where
  pub rest : List Next
  pub whole : all ≡ nexts ++ rest

pub is_prefix : (bytes : ℕ) (nexts : List Next) → IsPrefix (prefix bytes nexts) nexts
is_prefix zero nexts = record { rest = nexts; whole = refl }
is_prefix (suc bytes) [] = record { rest = []; whole = refl }
is_prefix (suc bytes) (what ∷ nexts) =
    let ih = is_prefix (suc bytes - length (line_of what)) nexts in
    record { rest = ih.rest; whole = ap (λ ns. what ∷ ns) ih.whole }

pub fitting_prefix : (bytes : ℕ) (left : List ℕ) (nexts : List Next) → IsPrefix (fitting bytes left nexts) nexts
fitting_prefix bytes left nexts = is_prefix (max bytes 1 - length left) nexts

pub prefix_none : (bytes : ℕ) → prefix bytes [] ≡ []
prefix_none zero = refl
prefix_none (suc bytes) = refl

pub fitting_none : (bytes : ℕ) (left : List ℕ) → fitting bytes left [] ≡ []
fitting_none bytes left = prefix_none (max bytes 1 - length left)

-- where there are fewer bytes than that, the prefix is all
pub prefix_all : (bytes : ℕ) (nexts : List Next) → length (flat_map line_of nexts) < bytes → prefix bytes nexts ≡ nexts
prefix_all zero nexts h = absurd (omega arith)
prefix_all (suc bytes) [] h = refl
prefix_all (suc bytes) (what ∷ nexts) h =
    let e = length-append (line_of what) (flat_map line_of nexts) in
    let k : length (flat_map line_of nexts) < suc bytes - length (line_of what) = omega arith in
    cc (prefix_all (suc bytes - length (line_of what)) nexts k)

-- ---- the end of a listing

pub no_lists : {A : Type 0} (xs ys : List A) → xs ++ ys ≡ [] → (xs ≡ []) × (ys ≡ [])
no_lists [] ys e = (refl, e)
no_lists (x ∷ xs) ys e = cc

pub no_map : {A B : Type 0} (f : A → B) (xs : List A) → map f xs ≡ [] → xs ≡ []
no_map f [] e = refl
no_map f (x ∷ xs) e = cc

pub nothing_owed : (go : ℕ) (items : List Item) (done : Option ℕ) (history : History) (rows : List Shown)
    → owed_by go items done history rows ≡ []
    → (untold_by go items done history ≡ []) × (beyond (cursor_by done items (length history)) rows ≡ [])
nothing_owed go items done history rows e =
    let both = no_lists _ _ e in
    (no_map Told _ both.0, no_map Listed _ both.1)

-- what a session that is done now was told
pub before_done : (go : ℕ) (items : List Item) (history : History)
    → concerning_by go (cursor_by (Some (length history)) items) history ≡ concerning_by go (cursor_by None items) history
before_done go items history =
    concerning_same go _ _ 0 history (λ k low high. rw (lt-leb (length history) k (omega (arith, high))) refl)

-- a listing that is done when nothing is owed
fits_done : (start : List Shown) (history : History) (go : ℕ) (items : List Item) → Fits start history go items None
    → owed_by go items None history (rows_after start history) ≡ [] → Fits start history go items (Some (length history))
fits_done start history go items f owes =
    let both = nothing_owed go items None history _ owes in
    let con = before_done go items history in
    let waits : untold_by go items (Some (length history)) history ≡ untold_by go items None history = cc in
    let cur = cursor_done (length history) items in
    let lencon : length (concerning_by go (cursor_by (Some (length history)) items) history)
    ≡ length (concerning_by go (cursor_by None items) history) = cc in
    let enough = f.enough in
    record {
      numbers = f.numbers;
      done_by = le_refl _;
      began = f.began;
      enough = omega arith;
    }

pub done_owes : (start : List Shown) (history : History) (go : ℕ) (items : List Item) (done : Option ℕ)
    → owed_by go items done history (rows_after start history) ≡ []
    → owed_by go items (option_or done (Some (length history))) history (rows_after start history) ≡ []
done_owes start history go items (Some m) owes = owes
done_owes start history go items None owes =
    let both = nothing_owed go items None history _ owes in
    let con = before_done go items history in
    let waits : untold_by go items (Some (length history)) history ≡ untold_by go items None history = cc in
    let cur = cursor_done _ items in
    ap (λ u. map Told u ++ map Listed (beyond (cursor_by (Some (length history)) items (length history)) (rows_after start history)))
    (waits ∙ both.0)
    ∙ ap (λ c. map Listed (beyond c (rows_after start history))) cur
    ∙ ap (map Listed) (beyond_done (rows_after start history))

pub also_done : (start : List Shown) (P : History → ℕ → List Item → Option ℕ → Type 0) (law : Law start P) (history : History) (go : ℕ)
    (items : List Item) (done : Option ℕ)
    → IsRisingBy key_at (rows_after start history) → Gives start P law history go items done []
    → Fits start history go items (option_or done (Some (length history))) × P history go items (option_or done (Some (length history)))
also_done start P law history go items (Some m) order g = (g.fits, g.also)
also_done start P law history go items None order g =
    let both = nothing_owed go items None history _ g.owes in
    (fits_done start history go items g.fits g.owes, law.finish history go items order g.fits g.also both.0 both.1)

-- ---- room

-- what is exhausted was all given
pub exhausted : (bytes : ℕ) (left : List ℕ) (nexts : List Next) → exhausts bytes left nexts ≡ true → fitting bytes left nexts ≡ nexts
exhausted bytes left nexts e =
    let less = ltb-true (length (available left nexts)) (max bytes 1) e in
    let size = length-append left (flat_map line_of nexts) in
    prefix_all (max bytes 1 - length left) nexts (omega (arith, less, size))

pub text_items : (n : ℕ) (items : List Item) (nexts : List Next) → text (items ++ items_of n nexts) ≡ text items ++ flat_map line_of nexts
text_items n items nexts =
    flat_map-append (λ (item : Item). line_of _) items _ ∙ ap (λ t. text items ++ t) (same nexts)
  where
    same : (nexts : List Next) → text (items_of n nexts) ≡ flat_map line_of nexts
    same [] = refl
    same (what ∷ nexts) = cc (same nexts)

-- a prefix that has fewer bytes than were asked for is all
pub prefix_short : (bytes : ℕ) (nexts : List Next) → length (flat_map line_of (prefix bytes nexts)) < bytes → prefix bytes nexts ≡ nexts
prefix_short zero nexts h = absurd (omega arith)
prefix_short (suc bytes) [] h = refl
prefix_short (suc bytes) (what ∷ nexts) h =
    let e = length-append (line_of what) (flat_map line_of (prefix (suc bytes - length (line_of what)) nexts)) in
    let left = suc bytes - length (line_of what) in
    let k : length (flat_map line_of (prefix left nexts)) < left = omega arith in
    cc (prefix_short left nexts k)

-- room for `bytes` bytes gives at least that many, or all
pub fitting_enough : (bytes : ℕ) (left : List ℕ) (nexts : List Next)
    → (bytes ≤ length left + length (flat_map line_of (fitting bytes left nexts))) ⊎ (fitting bytes left nexts ≡ nexts)
fitting_enough bytes left nexts =
    ⊎_elim (λ less. inr (prefix_short (max bytes 1 - length left) nexts less)) (λ enough. inl (omega (arith, enough)))
    (cases_lt (length (flat_map line_of (fitting bytes left nexts))) (max bytes 1 - length left))

-- no more is taken than was given
pub took_within : (bytes n : ℕ) (nexts : List Next) (conn : Connection) → conn.taken ≤ length (given conn)
    → conn.taken + min bytes (length (available (unsent conn) nexts)) ≤ length (given (took bytes n nexts conn))
took_within bytes n nexts conn within =
    let whole : given (took bytes n nexts conn) ≡ given conn ++ flat_map line_of (fitting bytes (unsent conn) nexts) =
    cc (text_items n conn.items (fitting bytes (unsent conn) nexts), append_assoc conn.out _ _) in
    let size : length (given (took bytes n nexts conn))
    ≡ length (given conn) + length (flat_map line_of (fitting bytes (unsent conn) nexts)) = cc (length-append _ _) in
    let left : length (unsent conn) ≡ length (given conn) - conn.taken = length-drop _ _ in
    let all : length (available (unsent conn) nexts) ≡ length (unsent conn) + length (flat_map line_of nexts) = length-append _ _ in
    ⊎_elim (λ h. omega (arith, size, left, all, within, h))
    (λ h. omega (arith, size, left, all, within, ap (λ (ns : List Next). length (flat_map line_of ns)) h))
    (fitting_enough bytes (unsent conn) nexts)

-- a connection of which the laws of a session hold, up to its end
pub record Stands (start : List Shown) (P : History → ℕ → List Item → Option ℕ → Type 0) (history : History)
    (conn : Connection) : Type 0 where
  pub fits : Fits start (heard conn.shut history) conn.go_step conn.items conn.done
      × P (heard conn.shut history) conn.go_step conn.items conn.done
  pub before : IfSome conn.shut (λ n. n ≤ length history)
  pub plain : conn.info ≡ false → (conn.items ≡ []) × (conn.done ≡ None)
  pub within : conn.taken ≤ length (given conn)
