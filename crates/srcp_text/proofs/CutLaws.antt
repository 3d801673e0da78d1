-- Laws of a text cut at the first byte that passes a test.
use Rattle.std.specs.Prelude.{◌≡◌, ℕ, ◌+◌, Bool, false, true, List, [], ◌∷◌, ◌++◌, length}
use Rattle.std.specs.List.{list_any, position_or_len, before_first, after_first, join_with_byte}
use Rattle.std.proofs.Common.{arith}
use Rattle.std.proofs.lemmas.List.{take_all, drop_all}
use Rattle.std.proofs.Math.Seq.{take-append_seam, drop-append-add}

position_or_len-none : (p : ℕ → Bool) (w : List ℕ) → list_any p w ≡ false → position_or_len p w ≡ length w
position_or_len-none p [] e = grind arith
position_or_len-none p (x ∷ w) e = grind (arith, position_or_len-none p w)

position_or_len-append : (p : ℕ → Bool) (w : List ℕ) (y : ℕ) (ys : List ℕ) → list_any p w ≡ false → p y ≡ true
    → position_or_len p (w ++ y ∷ ys) ≡ length w
position_or_len-append p [] y ys e h = grind arith
position_or_len-append p (x ∷ w) y ys e h = grind (arith, position_or_len-append p w y ys)

-- the bytes before the first to pass, and the bytes after
pub cut_at : (p : ℕ → Bool) (w : List ℕ) (y : ℕ) (ys : List ℕ) → list_any p w ≡ false → p y ≡ true
    → (before_first p (w ++ y ∷ ys) ≡ w) × (after_first p (w ++ y ∷ ys) ≡ ys)
cut_at p w y ys e h = grind (arith, position_or_len-append, take-append_seam, drop-append-add)

-- all bytes and none, if no byte passes
pub cut_nowhere : (p : ℕ → Bool) (w : List ℕ) → list_any p w ≡ false → (before_first p w ≡ w) × (after_first p w ≡ [])
cut_nowhere p w e = grind (arith, take_all, drop_all, position_or_len-none)

-- so a word is cut off words joined by such a byte
pub cut_join : (p : ℕ → Bool) (y : ℕ) → p y ≡ true → (w : List ℕ) (ws : List (List ℕ)) → list_any p w ≡ false
    → (before_first p (join_with_byte y (w ∷ ws)) ≡ w) × (after_first p (join_with_byte y (w ∷ ws)) ≡ join_with_byte y ws)
cut_join p y passes w [] e = cut_nowhere p w e
cut_join p y passes w (v ∷ ws) e = cut_at p w y (join_with_byte y (v ∷ ws)) e passes
