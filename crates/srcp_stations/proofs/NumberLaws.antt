-- Laws of the numbers that messages and commands write.
use Rattle.std.specs.Prelude.{◌≡◌, ℕ, ◌^◌, ◌≤◌, ◌<◌, true, false, List, ◌∷◌, length}
use Rattle.std.specs.List.{list_any}
use Rattle.std.specs.Char.{is_ascii_digit}
use Rattle.std.specs.Fmt.{decimal}
use Rattle.std.proofs.Common.{arith}
use Rattle.std.proofs.lemmas.Bool.Decides.{nat_tests}
use Rattle.std.proofs.lemmas.Fmt.{digits_decimal, length-decimal-le}
use Rattle.srcp_text.proofs.NumberLaws.{own}
use Rattle.srcp_text.proofs.StampLaws.{digits_free}
use Rattle.srcp_stations.specs.Read.{is_space}

-- a number of 32 bits has at most ten digits
pub length_number : (n : ℕ) → n < 2 ^ 32 → length (decimal n) ≤ 10
length_number n small = grind (arith, length-decimal-le)

digit_no_space : (c : ℕ) → is_ascii_digit c ≡ true → is_space c ≡ false
digit_no_space c h = grind (arith, nat_tests)

-- a printed number has no space
pub decimal_no_space : (n : ℕ) → n < 2 ^ 64 → list_any is_space (decimal n) ≡ false
decimal_no_space n h = digits_free is_space digit_no_space (decimal n) (digits_decimal own n h)

-- nor does it begin with a minus
pub no_minus : (n : ℕ) (ds : List ℕ) → n < 2 ^ 64 → decimal n ≡ 45 ∷ ds → ⊥
no_minus n ds h e = let digits = digits_decimal own n h in grind (arith, digits)
