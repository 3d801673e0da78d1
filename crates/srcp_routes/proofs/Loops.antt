-- What loops over places keep.
use Rattle.std.proofs.Common.{◌≡◌, ◌⊎◌, inl, inr, ℕ, zero, suc, ◌+◌, ◌<◌, ◌≤◌, Bool, true, false, not, ◌&&◌, ◌||◌}
use Rattle.std.proofs.Common.{◌++◌, Option, Some, None, List, [], ◌∷◌, drop, get_or, length, take, refl, sym, ◌∙◌, add-one, ap, arith}
use Rattle.std.proofs.lemmas.List.{append-nil, append_assoc, drop_all, take_all}
use Rattle.std.proofs.Math.Nat.{eq-or-lt_of_le}
use Rattle.std.proofs.lemmas.Bool.{and_cases, and_from, cases_Bool}
use Rattle.std.proofs.lemmas.List.Folds.{list_all_at}
use Rattle.std.proofs.lemmas.List.FromFn.{get_or-range_with_len, length-map-range_with_len, length-range_with_len}
use Rattle.std.proofs.lemmas.List.FromFn.{map-range_with_len_more}
use Rattle.std.specs.List.{list_all, range_with_len}
use Rattle.std.specs.Option.{option_and_then, option_map}
use Rattle.std.specs.Prelude.{find, if◌then◌else◌, is_some, map, slice_get, slice_set, unwrap_or}
use Rattle.srcp_routes.specs.Plan.{Table, train_at, train_behind, wanted_at}
use Rattle.srcp_routes.specs.Stages.{lost_stage}
use Rattle.srcp_routes.specs.Steps.{due, next, order_at, sent}
use Rattle.srcp_routes.specs.Trains.{moved}
use Rattle.srcp_routes.specs.declared.conflict.Sensed.{Sensed}
use Rattle.srcp_routes.specs.declared.route.Route.{Route}
use Rattle.srcp_routes.specs.declared.stage.Stage.{Stage}
use Rattle.srcp_routes.specs.declared.train.Train.{Train}

-- a test of numbers from one on: it holds of all if it holds of each
pub all_hold : (test : ℕ → Bool) (a n : ℕ) → ((k : ℕ) → a ≤ k → k < a + n → test k ≡ true)
    → list_all test (range_with_len a n) ≡ true
all_hold test a zero each = refl
all_hold test a (suc n) each =
    and_from (test a) (list_all test (range_with_len (a + 1) n)) (each a (omega arith) (omega arith))
    (all_hold test (a + 1) n (λ k low high. each k (omega (arith, low)) (omega (arith, high))))

-- it does not hold of all if it fails at one
pub all_fail : (test : ℕ → Bool) (n i : ℕ) → i < n → test i ≡ false → list_all test (range_with_len 0 n) ≡ false
all_fail test n i lt fails =
    let here : get_or (range_with_len 0 n) i 0 ≡ i = omega (arith, get_or-range_with_len 0 n i 0 lt) in
    list_all_at test (range_with_len 0 n) i 0 (omega (arith, length-range_with_len 0 n)) (ap test here ∙ fails)

-- each passes what holds of all
pub all_at : (test : ℕ → Bool) (n i : ℕ) → i < n → list_all test (range_with_len 0 n) ≡ true → test i ≡ true
all_at test n i lt h = elim (cases_Bool (test i)) [
  | inl holds ↦ holds
  | inr fails ↦ let no : list_all test (range_with_len 0 n) ≡ false = all_fail test n i lt fails in absurd (cc)
]

-- what does not hold of all fails at one
pub record Fails (test : ℕ → Bool) (high : ℕ) : Type 0 where
  pub at : ℕ
  pub lt : at < high
  pub fails : test at ≡ false

fails_in : (test : ℕ → Bool) (a n : ℕ) → list_all test (range_with_len a n) ≡ false → Fails test (a + n)
fails_in test a zero h = absurd (cc)
fails_in test a (suc n) h = elim (and_cases (test a) (list_all test (range_with_len (a + 1) n)) h) [
  | inl here ↦ record { at = a; lt = omega arith; fails = here }
  | inr later ↦
      let one : Fails test (a + 1 + n) = fails_in test (a + 1) n later in
      record { at = one.at; lt = omega (arith, one.lt); fails = one.fails }
]

pub fails_below : (test : ℕ → Bool) (n : ℕ) → list_all test (range_with_len 0 n) ≡ false → Fails test n
fails_below test n h =
    let one : Fails test (0 + n) = fails_in test 0 n h in
    record { at = one.at; lt = omega (arith, one.lt); fails = one.fails }

-- the first number of which a test holds is found
first_of : (test : ℕ → Bool) (a n i : ℕ) (here : Bool) → test a ≡ here → (a ≡ i) ⊎ (a < i)
    → ((k : ℕ) → a ≤ k → k < i → test k ≡ false) → test i ≡ true
    → (a < i → find test (range_with_len (a + 1) n) ≡ Some i)
    → (if here then Some a else find test (range_with_len (a + 1) n)) ≡ Some i
first_of test a n i true is (inl same) each h so = ap (λ (k : ℕ). Some k) same
first_of test a n i true is (inr lower) each h so =
    let no : test a ≡ false = each a (omega arith) lower in absurd (cc)
first_of test a n i false is (inl same) each h so = let yes : test a ≡ true = ap test same ∙ h in absurd (cc)
first_of test a n i false is (inr lower) each h so = so lower

pub first_found : (test : ℕ → Bool) (a n i : ℕ) → a ≤ i → i < a + n → ((k : ℕ) → a ≤ k → k < i → test k ≡ false)
    → test i ≡ true → find test (range_with_len a n) ≡ Some i
first_found test a zero i low lt each h = absurd (omega (arith, low, lt))
first_found test a (suc n) i low lt each h =
    first_of test a n i (test a) refl (eq-or-lt_of_le {n = a} {m = i} low) each h
    (λ lower. first_found test (a + 1) n i (omega (arith, lower)) (omega (arith, lt))
    (λ k le lt'. each k (omega (arith, le)) lt') h)

-- of what is found the test holds
found_of : (test : ℕ → Bool) (x : ℕ) (xs : List ℕ) (n : ℕ) (here : Bool) → test x ≡ here
    → (find test xs ≡ Some n → test n ≡ true) → (if here then Some x else find test xs) ≡ Some n → test n ≡ true
found_of test x xs n true is later e = let same : x ≡ n = cc in ap test (sym same) ∙ is
found_of test x xs n false is later e = later e

pub found : (test : ℕ → Bool) (xs : List ℕ) (n : ℕ) → find test xs ≡ Some n → test n ≡ true
found test [] n e = absurd (cc)
found test (x ∷ xs) n e = found_of test x xs n (test x) refl (found test xs n) e

-- if none is found the test fails at each
none_of : (test : ℕ → Bool) (a n i : ℕ) (here : Bool) → test a ≡ here → (a ≡ i) ⊎ (a < i)
    → (a < i → find test (range_with_len (a + 1) n) ≡ None → test i ≡ false)
    → (if here then Some a else find test (range_with_len (a + 1) n)) ≡ None → test i ≡ false
none_of test a n i true is which so none = absurd (cc)
none_of test a n i false is (inl same) so none = ap test (sym same) ∙ is
none_of test a n i false is (inr lower) so none = so lower none

pub none_found : (test : ℕ → Bool) (a n i : ℕ) → a ≤ i → i < a + n → find test (range_with_len a n) ≡ None
    → test i ≡ false
none_found test a zero i low lt none = absurd (omega (arith, low, lt))
none_found test a (suc n) i low lt none =
    none_of test a n i (test a) refl (eq-or-lt_of_le {n = a} {m = i} low)
    (λ lower. none_found test (a + 1) n i (omega (arith, lower)) (omega (arith, lt))) none

-- none is found if the test fails at each
pub none_passes : (test : ℕ → Bool) (a n : ℕ) → ((k : ℕ) → a ≤ k → k < a + n → test k ≡ false)
    → find test (range_with_len a n) ≡ None
none_passes test a zero each = refl
none_passes test a (suc n) each =
    ap (λ (here : Bool). if here then Some a else find test (range_with_len (a + 1) n)) (each a (omega arith) (omega arith))
    ∙ none_passes test (a + 1) n (λ k low high. each k (omega (arith, low)) (omega (arith, high)))

-- ---- what loops write

-- one element is written
put_at : {X : Type 0} (front rest : List X) (x y : X) (n : ℕ) → length front ≡ n
    → slice_set (front ++ x ∷ rest) n y ≡ front ++ y ∷ rest
put_at [] rest x y zero long = refl
put_at [] rest x y (suc n) long = absurd (omega (arith, long))
put_at (z ∷ front) rest x y zero long = absurd (omega (arith, long))
put_at (z ∷ front) rest x y (suc n) long = ap (λ (l : List _). z ∷ l) (put_at front rest x y n (omega (arith, long)))

-- those below a number of which a test holds are given back
abbrev pub freed_below : (ℕ → Bool) → ℕ → List Bool → List Bool
freed_below test zero wanted = wanted
freed_below test (suc n) wanted =
    if test n then slice_set (freed_below test n wanted) n false else freed_below test n wanted

-- which are still wanted then
abbrev still : (ℕ → Bool) → List Bool → ℕ → Bool
still test wanted n = wanted_at wanted n && not (test n)

drop_at : (wanted : List Bool) (n : ℕ) → n < length wanted → drop n wanted ≡ wanted_at wanted n ∷ drop (suc n) wanted
drop_at [] n lt = absurd (omega (arith, lt))
drop_at (x ∷ wanted) zero lt = refl
drop_at (x ∷ wanted) (suc n) lt = drop_at wanted n (omega (arith, lt))

freed_step : (here x : Bool) (xs front rest : List Bool) (n : ℕ) → length front ≡ n → xs ≡ front ++ x ∷ rest
    → (if here then slice_set xs n false else xs) ≡ front ++ (x && not here) ∷ rest
freed_step true true xs front rest n long is =
    ap (λ (l : List Bool). slice_set l n false) is ∙ put_at front rest true false n long
freed_step true false xs front rest n long is =
    ap (λ (l : List Bool). slice_set l n false) is ∙ put_at front rest false false n long
freed_step false true xs front rest n long is = is
freed_step false false xs front rest n long is = is

range_more : (f : ℕ → Bool) (n : ℕ) → map f (range_with_len 0 (suc n)) ≡ map f (range_with_len 0 n) ++ f n ∷ []
range_more f n =
    ap (λ (k : ℕ). map f (range_with_len 0 k)) (sym (add-one n)) ∙ map-range_with_len_more f 0 n n (omega arith)

freed_is : (test : ℕ → Bool) (wanted : List Bool) (n : ℕ) → n ≤ length wanted
    → freed_below test n wanted ≡ map (still test wanted) (range_with_len 0 n) ++ drop n wanted
freed_is test wanted zero le = refl
freed_is test wanted (suc n) le =
    let front : List Bool = map (still test wanted) (range_with_len 0 n) in
    let rest : List Bool = drop (suc n) wanted in
    let parts : freed_below test n wanted ≡ front ++ wanted_at wanted n ∷ rest =
    freed_is test wanted n (omega (arith, le)) ∙ ap (λ (l : List Bool). front ++ l) (drop_at wanted n (omega (arith, le))) in
    freed_step (test n) (wanted_at wanted n) (freed_below test n wanted) front rest n
    (length-map-range_with_len (still test wanted) 0 n) parts
    ∙ sym (append_assoc front (still test wanted n ∷ []) rest)
    ∙ ap (λ (l : List Bool). l ++ rest) (sym (range_more (still test wanted) n))

pub all_freed : (test : ℕ → Bool) (wanted : List Bool) → freed_below test (length wanted) wanted
    ≡ map (λ n. wanted_at wanted n && not (test n)) (range_with_len 0 (length wanted))
all_freed test wanted = freed_is test wanted (length wanted) (omega arith)
    ∙ ap (λ (l : List Bool). map (still test wanted) (range_with_len 0 (length wanted)) ++ l)
    (drop_all (length wanted) wanted (omega arith))
    ∙ append-nil (map (still test wanted) (range_with_len 0 (length wanted)))

-- what is worked out of each place below a number is written
abbrev pub written : {X : Type 0} → (ℕ → X) → ℕ → List X → List X
written f n xs = map f (range_with_len 0 n) ++ drop n xs

split_at : {X : Type 0} (xs : List X) (n : ℕ) (d : X) → n < length xs
    → drop n xs ≡ unwrap_or (slice_get xs n) d ∷ drop (suc n) xs
split_at [] n d lt = absurd (omega (arith, lt))
split_at (x ∷ xs) zero d lt = refl
split_at (x ∷ xs) (suc n) d lt = split_at xs n d (omega (arith, lt))

behind_front : {X : Type 0} (front : List X) (x d : X) (rest : List X) (n : ℕ) → length front ≡ n
    → unwrap_or (slice_get (front ++ x ∷ rest) n) d ≡ x
behind_front [] x d rest zero long = refl
behind_front [] x d rest (suc n) long = absurd (omega (arith, long))
behind_front (y ∷ front) x d rest zero long = absurd (omega (arith, long))
behind_front (y ∷ front) x d rest (suc n) long = behind_front front x d rest n (omega (arith, long))

-- the next place still has what it had
written_next : {X : Type 0} (f : ℕ → X) (xs : List X) (n : ℕ) (d : X) → n < length xs
    → unwrap_or (slice_get (written f n xs) n) d ≡ unwrap_or (slice_get xs n) d
written_next f xs n d lt =
    ap (λ (l : List _). unwrap_or (slice_get (map f (range_with_len 0 n) ++ l) n) d) (split_at xs n d lt)
    ∙ behind_front (map f (range_with_len 0 n)) (unwrap_or (slice_get xs n) d) d (drop (suc n) xs) n
    (length-map-range_with_len f 0 n)

written_more : {X : Type 0} (f : ℕ → X) (xs : List X) (n : ℕ) (d : X) → n < length xs
    → slice_set (written f n xs) n (f n) ≡ written f (n + 1) xs
written_more f xs n d lt =
    ap (λ (l : List _). slice_set (map f (range_with_len 0 n) ++ l) n (f n)) (split_at xs n d lt)
    ∙ put_at (map f (range_with_len 0 n)) (drop (suc n) xs) (unwrap_or (slice_get xs n) d) (f n) n
    (length-map-range_with_len f 0 n)
    ∙ sym (append_assoc (map f (range_with_len 0 n)) (f n ∷ []) (drop (suc n) xs))
    ∙ ap (λ (l : List _). l ++ drop (suc n) xs) (sym (map-range_with_len_more f 0 n n (omega arith)))
    ∙ ap (λ (k : ℕ). map f (range_with_len 0 (n + 1)) ++ drop k xs) (sym (add-one n))

pub written_all : {X : Type 0} (f : ℕ → X) (xs : List X) (n : ℕ) → n ≡ length xs
    → written f n xs ≡ map f (range_with_len 0 (length xs))
written_all f xs n all = ap (λ (k : ℕ). written f k xs) all
    ∙ ap (λ (l : List _). map f (range_with_len 0 (length xs)) ++ l) (drop_all (length xs) xs (omega arith))
    ∙ append-nil (map f (range_with_len 0 (length xs)))

-- one train more is followed
pub follow_more : (routes : List Route) (sensors : List Sensed) (wanted : List Bool) (told : Sensed)
    (old trains : List (Option Train)) (n : ℕ) → n < length old
    → trains ≡ written (train_behind routes sensors wanted old told) n old
    → slice_set trains n (train_behind routes sensors wanted trains told n)
    ≡ written (train_behind routes sensors wanted old told) (n + 1) old
follow_more routes sensors wanted told old trains n lt is =
    let read : train_at trains n ≡ train_at old n =
    ap (λ (l : List (Option Train)). train_at l n) is
    ∙ written_next (train_behind routes sensors wanted old told) old n None lt in
    ap (λ (x : Option Train). slice_set trains n (if wanted_at wanted n then option_and_then
    (λ route. option_map (moved route sensors told) x) (slice_get routes n) else None)) read
    ∙ ap (λ (l : List (Option Train)). slice_set l n (train_behind routes sensors wanted old told n)) is
    ∙ written_more (train_behind routes sensors wanted old told) old n None lt

-- one stage more is that of a session that begins
lost_step : (routes : List Route) (stages : List Stage) (n : ℕ) (route : Route) → n < length routes
    → n < length stages → route ≡ get_or routes n route
    → slice_set (map lost_stage (take n routes) ++ drop n stages) n (lost_stage route)
    ≡ map lost_stage (take (suc n) routes) ++ drop (suc n) stages
lost_step [] stages n route lt lt' is = absurd (omega (arith, lt))
lost_step (first ∷ routes) [] n route lt lt' is = absurd (omega (arith, lt'))
lost_step (first ∷ routes) (s ∷ stages) zero route lt lt' is = ap (λ (x : Route). lost_stage x ∷ stages) is
lost_step (first ∷ routes) (s ∷ stages) (suc n) route lt lt' is =
    ap (λ (l : List Stage). lost_stage first ∷ l) (lost_step routes stages n route (omega (arith, lt)) (omega (arith, lt')) is)

pub lost_more : (routes : List Route) (stages : List Stage) (n : ℕ) (route : Route) → n < length routes
    → n < length stages → route ≡ get_or routes n route
    → slice_set (map lost_stage (take n routes) ++ drop n stages) n (lost_stage route)
    ≡ map lost_stage (take (n + 1) routes) ++ drop (n + 1) stages
lost_more routes stages n route lt lt' is = lost_step routes stages n route lt lt' is
    ∙ ap (λ (k : ℕ). map lost_stage (take k routes) ++ drop k stages) (sym (add-one n))

-- all stages are
pub lost_all : (routes : List Route) (stages : List Stage) (n : ℕ) → length routes ≤ n → length stages ≡ length routes
    → map lost_stage (take n routes) ++ drop n stages ≡ map lost_stage routes
lost_all routes stages n le same =
    ap (λ (l : List Route). map lost_stage l ++ drop n stages) (take_all n routes le)
    ∙ ap (λ (l : List Stage). map lost_stage routes ++ l) (drop_all n stages (omega (arith, le, same)))
    ∙ append-nil (map lost_stage routes)

-- ---- routes in the way

-- a route that conflicts and is not idle is in the way
pub in_the_way : (clash idle : Bool) → clash ≡ true → idle ≡ false → (not clash || idle) ≡ false
in_the_way true true c i = i
in_the_way true false c i = refl
in_the_way false idle c i = cc

-- the order of the first route that may send one is sent
sends_of : (t : Table) (waits : Bool) (d : Option ℕ) (n : ℕ) → waits ≡ false → d ≡ Some n
    → (if waits then record { table = t; order = None } else sent t d).order ≡ order_at t n
sends_of t true d n w e = absurd (cc)
sends_of t false None n w e = absurd (cc)
sends_of t false (Some m) n w e = let same : m ≡ n = cc in cc

pub sends : (t : Table) (n : ℕ) → is_some t.waiting ≡ false → due t ≡ Some n → (next t).order ≡ order_at t n
sends t n w e = sends_of t (is_some t.waiting) (due t) n w e
