-- The number of the connection that has a key, as keys come and go.
use Rattle.srcp_serve.proofs.Names.{◌≡◌, ◌≢◌, ℕ, zero, suc, ◌+◌, ◌<◌, ◌==◌, Bool, true, false, if◌then◌else◌, [], ◌∷◌, ◌++◌, length}
use Rattle.srcp_serve.proofs.Names.{slice_set, Option, Some, None, refl, arith, inl, inr, ◌⊎◌, key_of, number_in, number_from}
use Rattle.srcp_serve.proofs.Names.{without_key, Keys}
use Rattle.std.proofs.Common.{eq-eqb}
use Rattle.std.specs.Option.{option_map_or}
use Rattle.srcp_core.proofs.Agreement.PastIsLived.{number_of_key}

-- the key is that of its number
pub number_named : (n key : ℕ) (keys : Keys) → number_in key keys ≡ n → 0 < n → key_of n keys ≡ Some key
number_named n key keys e some = by (number_of_key key keys)
  where
    by : (number_in key keys ≡ 0) ⊎ (key_of (number_in key keys) keys ≡ Some key) → key_of n keys ≡ Some key
    by (inl none) = absurd (omega (arith, e, some, none))
    by (inr named) = rw e at named

push_from : (m key : ℕ) (keys : Keys) (last : Option ℕ) → 0 < number_from m key keys
    → number_from m key (keys ++ last ∷ []) ≡ number_from m key keys
push_from m key [] last some = absurd (omega (arith, some))
push_from m key (one ∷ keys) last some = by (push_from (suc m) key keys last) (option_map_or (λ k. k == key) one false) some
  where
    by : (0 < number_from (suc m) key keys → number_from (suc m) key (keys ++ last ∷ []) ≡ number_from (suc m) key keys)
        → (t : Bool) → 0 < (if t then m else number_from (suc m) key keys)
        → (if t then m else number_from (suc m) key (keys ++ last ∷ [])) ≡ (if t then m else number_from (suc m) key keys)
    by later true h = refl
    by later false h = later h

-- a key that is put at the end leaves the others
pub number_push : (key : ℕ) (keys : Keys) (last : Option ℕ) → 0 < number_in key keys
    → number_in key (keys ++ last ∷ []) ≡ number_in key keys
number_push key keys last = push_from 1 key keys last

fresh_from : (m key : ℕ) (keys : Keys) → 0 < m → number_from m key keys ≡ 0
    → number_from m key (keys ++ Some key ∷ []) ≡ m + length keys
fresh_from m key [] some none = rw (eq-eqb key key refl) (omega arith)
fresh_from m key (one ∷ keys) some none =
    by (fresh_from (suc m) key keys (omega arith)) (option_map_or (λ k. k == key) one false) none
  where
    by : (number_from (suc m) key keys ≡ 0 → number_from (suc m) key (keys ++ Some key ∷ []) ≡ suc m + length keys)
        → (t : Bool) → (if t then m else number_from (suc m) key keys) ≡ 0
        → (if t then m else number_from (suc m) key (keys ++ Some key ∷ [])) ≡ m + suc (length keys)
    by later true h = absurd (omega (arith, some, h))
    by later false h = omega (arith, later h)

-- a key that no connection had is that of the last
pub number_fresh : (key : ℕ) (keys : Keys) → number_in key keys ≡ 0 → number_in key (keys ++ Some key ∷ []) ≡ length keys + 1
number_fresh key keys none = omega (arith, fresh_from 1 key keys (omega arith) none)

without_from : (m key k : ℕ) (keys : Keys) → number_from m key keys ≢ m + k
    → number_from m key (slice_set keys k None) ≡ number_from m key keys
without_from m key zero [] other = refl
without_from m key (suc k) [] other = refl
without_from m key zero (one ∷ keys) other = by (option_map_or (λ k. k == key) one false) other
  where
    by : (t : Bool) → (if t then m else number_from (suc m) key keys) ≢ m + 0
        → number_from (suc m) key keys ≡ (if t then m else number_from (suc m) key keys)
    by true h = absurd (h (omega arith))
    by false h = refl
without_from m key (suc k) (one ∷ keys) other = by (without_from (suc m) key k keys) (option_map_or (λ k. k == key) one false) other
  where
    by : (number_from (suc m) key keys ≢ suc m + k → number_from (suc m) key (slice_set keys k None) ≡ number_from (suc m) key keys)
        → (t : Bool) → (if t then m else number_from (suc m) key keys) ≢ m + suc k
        → (if t then m else number_from (suc m) key (slice_set keys k None)) ≡ (if t then m else number_from (suc m) key keys)
    by later true h = refl
    by later false h = later (λ e. h (omega (arith, e)))

-- a key that goes leaves those of others
pub number_without : (n key : ℕ) (keys : Keys) → number_in key keys ≢ n → number_in key (without_key n keys) ≡ number_in key keys
number_without zero key keys other = refl
number_without (suc n) key keys other = without_from 1 key n keys (λ e. other (omega (arith, e)))
