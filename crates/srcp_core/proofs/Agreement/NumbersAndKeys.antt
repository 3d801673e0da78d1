-- Keys and connections by their numbers, the first being 1.
use Rattle.srcp_core.proofs.Names.{◌≡◌, ◌≢◌, ℕ, zero, suc, ◌+◌, ◌<◌, ◌≤◌, ⊎_elim, inl, inr, ◌⊎◌, Bool, true, false, cond, List, [], ◌∷◌}
use Rattle.srcp_core.proofs.Names.{◌++◌, length, length-append, refl, ap, sym, ◌∙◌, arith, subst, filter-append}
use Rattle.srcp_core.proofs.Names.{filter, Option, Some, None, is_none, if◌then◌else◌, Connection, is_open, numbered, with_numbered}
use Rattle.srcp_core.proofs.Names.{if_open, key_of, without_key, cases_lt}
use Rattle.srcp_core.proofs.Names.{map}
use Rattle.srcp_core.proofs.Invariants.PlacesCover.{Where, Here, Away, where_is}
use Rattle.std.specs.Prelude.{option_map}
use Rattle.std.proofs.lemmas.List.{length-set, get_or-set_other, get_or_append_left, get_or_past}
use Rattle.std.proofs.Math.Seq.{get_or-append_seam}
use Rattle.std.proofs.lemmas.Option.{slice_get_within}

-- ---- connections

pub length_with : (n : ℕ) (f : Connection → Connection) (xs : List Connection) → length (with_numbered n f xs) ≡ length xs
length_with n f [] = refl
length_with zero f (x ∷ xs) = refl
length_with (suc zero) f (x ∷ xs) = refl
length_with (suc (suc n)) f (x ∷ xs) = cc (length_with (suc n) f xs)

pub numbered_with : (n : ℕ) (f : Connection → Connection) (xs : List Connection)
    → numbered n (with_numbered n f xs) ≡ option_map f (numbered n xs)
numbered_with zero f [] = refl
numbered_with zero f (x ∷ xs) = refl
numbered_with (suc n) f [] = refl
numbered_with (suc zero) f (x ∷ xs) = refl
numbered_with (suc (suc n)) f (x ∷ xs) = numbered_with (suc n) f xs

-- a change that changes nothing
pub with_itself : (n : ℕ) (xs : List Connection) → with_numbered n (λ c. c) xs ≡ xs
with_itself n [] = refl
with_itself zero (x ∷ xs) = refl
with_itself (suc zero) (x ∷ xs) = refl
with_itself (suc (suc n)) (x ∷ xs) = cc (with_itself (suc n) xs)

-- two changes of one connection
pub with_twice : (n : ℕ) (f g k : Connection → Connection) (xs : List Connection)
    → ((x : Connection) → numbered n xs ≡ Some x → g (f x) ≡ k x) → with_numbered n g (with_numbered n f xs) ≡ with_numbered n k xs
with_twice n f g k [] h = refl
with_twice zero f g k (x ∷ xs) h = refl
with_twice (suc zero) f g k (x ∷ xs) h = cc (h x refl)
with_twice (suc (suc n)) f g k (x ∷ xs) h = cc (with_twice (suc n) f g k xs h)

pub with_same : (n : ℕ) (f : Connection → Connection) (xs : List Connection)
    → ((x : Connection) → numbered n xs ≡ Some x → f x ≡ x) → with_numbered n f xs ≡ xs
with_same n f xs h = rw (with_itself n xs) at (with_twice n (λ c. c) f (λ c. c) xs h)

-- a change that changes nothing of what is told of each
pub map_with : {X : Type 0} (tell : Connection → X) (n : ℕ) (f : Connection → Connection) (xs : List Connection)
    → ((x : Connection) → numbered n xs ≡ Some x → tell (f x) ≡ tell x) → map tell (with_numbered n f xs) ≡ map tell xs
map_with tell n f [] h = refl
map_with tell zero f (x ∷ xs) h = refl
map_with tell (suc zero) f (x ∷ xs) h = cc (h x refl)
map_with tell (suc (suc n)) f (x ∷ xs) h = cc (map_with tell (suc n) f xs h)

pub with_push : (n : ℕ) (f : Connection → Connection) (xs ys : List Connection) (x : Connection) → numbered n xs ≡ Some x
    → with_numbered n f (xs ++ ys) ≡ with_numbered n f xs ++ ys
with_push zero f xs ys x e = cc
with_push (suc n) f [] ys x e = cc
with_push (suc zero) f (y ∷ xs) ys x e = refl
with_push (suc (suc n)) f (y ∷ xs) ys x e = cc (with_push (suc n) f xs ys x e)

-- changes of two connections
pub with_apart : (n m : ℕ) (f g : Connection → Connection) (xs : List Connection) → m ≢ n
    → with_numbered m f (with_numbered n g xs) ≡ with_numbered n g (with_numbered m f xs)
with_apart n m f g [] d = refl
with_apart zero zero f g (x ∷ xs) d = refl
with_apart zero (suc zero) f g (x ∷ xs) d = refl
with_apart zero (suc (suc m)) f g (x ∷ xs) d = refl
with_apart (suc zero) zero f g (x ∷ xs) d = refl
with_apart (suc zero) (suc zero) f g (x ∷ xs) d = absurd (d refl)
with_apart (suc zero) (suc (suc m)) f g (x ∷ xs) d = refl
with_apart (suc (suc n)) zero f g (x ∷ xs) d = refl
with_apart (suc (suc n)) (suc zero) f g (x ∷ xs) d = refl
with_apart (suc (suc n)) (suc (suc m)) f g (x ∷ xs) d = cc (with_apart (suc n) (suc m) f g xs (λ e. d (cc)))

-- the connection of another number
pub numbered_other : (n m : ℕ) (f : Connection → Connection) (xs : List Connection) → (m ≡ n → ⊥)
    → numbered n (with_numbered m f xs) ≡ numbered n xs
numbered_other zero m f xs d = refl
numbered_other (suc n) m f [] d = refl
numbered_other (suc n) zero f (x ∷ xs) d = refl
numbered_other (suc zero) (suc zero) f (x ∷ xs) d = absurd (d refl)
numbered_other (suc zero) (suc (suc m)) f (x ∷ xs) d = refl
numbered_other (suc (suc n)) (suc zero) f (x ∷ xs) d = refl
numbered_other (suc (suc n)) (suc (suc m)) f (x ∷ xs) d = numbered_other (suc n) (suc m) f xs (λ e. d (cc))

pub numbered_push : (n : ℕ) (xs : List Connection) (x y : Connection) → numbered n xs ≡ Some y → numbered n (xs ++ x ∷ []) ≡ Some y
numbered_push zero xs x y e = cc
numbered_push (suc n) [] x y e = cc
numbered_push (suc zero) (z ∷ xs) x y e = e
numbered_push (suc (suc n)) (z ∷ xs) x y e = numbered_push (suc n) xs x y e

pub no_connection : (n : ℕ) (conn : Connection) → numbered n [] ≡ Some conn → ⊥
no_connection zero conn e = cc
no_connection (suc n) conn e = cc

-- how many are open
abbrev pub opens : List Connection → ℕ
opens xs = length (filter is_open xs)

abbrev pub one_if : Bool → ℕ
one_if t = cond t 1 0

pub opens_cons : (x : Connection) (xs : List Connection) → opens (x ∷ xs) ≡ one_if (is_open x) + opens xs
opens_cons x xs =
    elim (is_open x) as (λ t. length (cond t (x ∷ filter is_open xs) (filter is_open xs)) ≡ one_if t + opens xs) [
      | true ↦ omega arith
      | false ↦ omega arith
    ]

pub opens_with : (n : ℕ) (f : Connection → Connection) (xs : List Connection) (x : Connection) → numbered n xs ≡ Some x
    → opens (with_numbered n f xs) + one_if (is_open x) ≡ opens xs + one_if (is_open (f x))
opens_with zero f xs x e = cc
opens_with (suc n) f [] x e = cc
opens_with (suc zero) f (y ∷ xs) x e =
    let same : y ≡ x = cc in
    let a = opens_cons (f y) xs in
    let b = opens_cons y xs in
    let c = ap (λ z. one_if (is_open z)) same in
    let d = ap (λ z. one_if (is_open (f z))) same in
    omega (arith, a, b, c, d)
opens_with (suc (suc n)) f (y ∷ xs) x e =
    let ih = opens_with (suc n) f xs x e in
    let a = opens_cons y (with_numbered (suc n) f xs) in
    let b = opens_cons y xs in
    omega (arith, a, b, ih)

pub opens_same : (n : ℕ) (f : Connection → Connection) (xs : List Connection)
    → ((x : Connection) → numbered n xs ≡ Some x → is_open (f x) ≡ is_open x) → opens (with_numbered n f xs) ≡ opens xs
opens_same n f [] o = refl
opens_same zero f (x ∷ xs) o = refl
opens_same (suc zero) f (x ∷ xs) o =
    let a = opens_cons (f x) xs in let b = opens_cons x xs in let c = ap one_if (o x refl) in omega (arith, a, b, c)
opens_same (suc (suc n)) f (x ∷ xs) o =
    let ih = opens_same (suc n) f xs o in
    let a = opens_cons x (with_numbered (suc n) f xs) in
    let b = opens_cons x xs in
    omega (arith, a, b, ih)

pub opens_push : (xs : List Connection) (x : Connection) → is_open x ≡ true → opens (xs ++ x ∷ []) ≡ opens xs + 1
opens_push xs x o =
    ap length (filter-append is_open xs (x ∷ [])) ∙ length-append _ _
    ∙ ap (λ k. opens xs + k) (opens_cons x [] ∙ ap (λ t. one_if t + 0) o)

pub numbered_within : (n : ℕ) (xs : List Connection) (x : Connection) → numbered n xs ≡ Some x → (0 < n) × (n ≤ length xs)
numbered_within zero xs x e = cc
numbered_within (suc n) xs x e = (omega arith, slice_get_within xs n x e)

pub numbered_none : (n : ℕ) (xs : List Connection) → 0 < n → numbered n xs ≡ None → length xs < n
numbered_none zero xs p e = absurd (omega (arith, p))
numbered_none (suc n) [] p e = omega arith
numbered_none (suc zero) (y ∷ xs) p e = cc
numbered_none (suc (suc n)) (y ∷ xs) p e = let q : 0 < suc n = omega arith in let ih = numbered_none (suc n) xs q e in omega (arith, ih)

-- ---- keys

pub no_key : (n key : ℕ) → key_of n [] ≡ Some key → ⊥
no_key zero key e = cc
no_key (suc zero) key e = cc
no_key (suc (suc n)) key e = cc

pub key_within : (n : ℕ) (keys : List (Option ℕ)) (key : ℕ) → key_of n keys ≡ Some key → (0 < n) × (n ≤ length keys)
key_within zero keys key e = cc
key_within (suc n) keys key e =
    ⊎_elim (λ l. (omega arith, l)) (λ h. let none = get_or_past keys n None h in cc) (cases_lt n (length keys))

pub length_without : (n : ℕ) (keys : List (Option ℕ)) → length (without_key n keys) ≡ length keys
length_without zero keys = refl
length_without (suc n) keys = length-set keys n None

pub without_here : (n : ℕ) (keys : List (Option ℕ)) → key_of n (without_key n keys) ≡ None
without_here zero keys = refl
without_here (suc zero) [] = refl
without_here (suc (suc n)) [] = refl
without_here (suc zero) (k ∷ keys) = refl
without_here (suc (suc n)) (k ∷ keys) = without_here (suc n) keys

pub without_other : (n m : ℕ) (keys : List (Option ℕ)) → m ≢ n → key_of m (without_key n keys) ≡ key_of m keys
without_other zero m keys d = refl
without_other (suc n) zero keys d = refl
without_other (suc n) (suc m) keys d = get_or-set_other keys n m None None (λ e. d (cc))

-- a key that is put at the end
pub key_push : (n : ℕ) (keys : List (Option ℕ)) (key : Option ℕ) → n ≤ length keys → key_of n (keys ++ key ∷ []) ≡ key_of n keys
key_push zero keys key h = refl
key_push (suc n) keys key h = get_or_append_left keys (key ∷ []) None n h

pub key_push_last : (keys : List (Option ℕ)) (key : Option ℕ) → key_of (suc (length keys)) (keys ++ key ∷ []) ≡ key
key_push_last keys key = get_or-append_seam keys key [] None

pub key_push_is : (n : ℕ) (keys : List (Option ℕ)) (key other : ℕ) → key_of n (keys ++ Some key ∷ []) ≡ Some other
    → (key_of n keys ≡ Some other) ⊎ ((n ≡ suc (length keys)) × (other ≡ key))
key_push_is zero keys key other e = cc
key_push_is (suc zero) [] key other e = let same : key ≡ other = cc in inr (refl, sym same)
key_push_is (suc (suc n)) [] key other e = absurd (no_key (suc n) other e)
key_push_is (suc zero) (k ∷ keys) key other e = inl e
key_push_is (suc (suc n)) (k ∷ keys) key other e =
    ⊎_elim (λ h. inl h) (λ h. inr (cc h.0, h.1)) (key_push_is (suc n) keys key other e)

pub numbered_push_is : (n : ℕ) (xs : List Connection) (x y : Connection) → numbered n (xs ++ x ∷ []) ≡ Some y
    → (numbered n xs ≡ Some y) ⊎ ((n ≡ suc (length xs)) × (x ≡ y))
numbered_push_is zero xs x y e = cc
numbered_push_is (suc zero) [] x y e = let same : x ≡ y = cc in inr (refl, same)
numbered_push_is (suc (suc n)) [] x y e = cc
numbered_push_is (suc zero) (z ∷ xs) x y e = inl e
numbered_push_is (suc (suc n)) (z ∷ xs) x y e =
    ⊎_elim (λ h. inl h) (λ h. inr (cc h.0, h.1)) (numbered_push_is (suc n) xs x y e)

-- ---- the connection of a number after a change of one

-- where it comes from
pub record Source (m n : ℕ) (f : Connection → Connection) (xs : List Connection) (y : Connection) : Type 0 where
  pub x : Connection
  pub there : numbered m xs ≡ Some x
  pub from : ((m ≡ n → ⊥) × (y ≡ x)) ⊎ ((m ≡ n) × (y ≡ f x))

pub look_with : (m n : ℕ) (f : Connection → Connection) (xs : List Connection) (y : Connection) → numbered m (with_numbered n f xs) ≡ Some y
    → Source m n f xs y
look_with m n f xs y e = by (numbered m xs) refl (where_is m n)
  where
    by : (o : Option Connection) → numbered m xs ≡ o → Where m n → Source m n f xs y
    by None none (Here same) = let bad : None ≡ Some y = cc (numbered_with n f xs) in cc
    by (Some x) there (Here same) =
        let is : Some (f x) ≡ Some y = cc (numbered_with n f xs) in
        record { x = x; there = there; from = inr (same, cc) }
    by o there (Away d) = record {
      x = y;
      there = sym (numbered_other m n f xs (λ z. d (sym z))) ∙ e;
      from = inl (d, refl);
    }

-- and after one more was opened
pub look_push : (m : ℕ) (xs : List Connection) (x y : Connection) → numbered m (xs ++ x ∷ []) ≡ Some y → (numbered m xs ≡ Some y) ⊎ (y ≡ x)
look_push m xs x y e = ⊎_elim (λ h. inl h) (λ h. inr (sym h.1)) (numbered_push_is m xs x y e)

-- an open connection of that number
pub opened : (o : Option Connection) (conn : Connection) → if_open o ≡ Some conn → (o ≡ Some conn) × (conn.shut ≡ None)
opened None conn e = cc
opened (Some other) conn e = by _ refl
  where
    by : (s : Option ℕ) → other.shut ≡ s → (Some other ≡ Some conn) × (conn.shut ≡ None)
    by None p =
        let k : Some other ≡ Some conn = subst (λ s. (if is_none s then Some other else None) ≡ Some conn) p e in
        let same : other ≡ conn = cc in
        (k, cc)
    by (Some m) p = let k : None ≡ Some conn = subst (λ s. (if is_none s then Some other else None) ≡ Some conn) p e in cc
