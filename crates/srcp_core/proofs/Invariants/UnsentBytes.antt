-- How many bytes of a connection are unsent.
use Rattle.srcp_core.proofs.Names.{◌≡◌, ℕ, ◌≤◌, ◌-◌, List, [], ◌∷◌, length, drop, refl, sym, arith, ne_eqb, is_nil}
use Rattle.std.proofs.Common.{◌==◌}
use Rattle.std.proofs.lemmas.List.{length-drop}

-- of the last bytes of some, as many as there are none are none
pub none_left : (bytes : List ℕ) (left : ℕ) → left ≤ length bytes → (left == 0) ≡ is_nil (drop (length bytes - left) bytes)
none_left bytes left h = by _ (omega (arith, h, length-drop (length bytes - left) bytes))
  where
    by : (rest : List ℕ) → length rest ≡ left → (left == 0) ≡ is_nil rest
    by [] e = rw (sym e) refl
    by (byte ∷ rest) e = ne_eqb left 0 (λ n. omega (arith, e, n))
