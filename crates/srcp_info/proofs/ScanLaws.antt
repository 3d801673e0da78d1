-- Laws of the words of a text, cut at the spaces from the front.
use Rattle.std.specs.Prelude.{◌≡◌, ℕ, ◌/◌, ◌%◌, ◌^◌, ◌<◌, Bool, false, true, List, [], ◌∷◌, ◌++◌, length, map, ◌==◌, Some}
use Rattle.std.specs.List.{list_any, before_first, after_first, join_with_byte}
use Rattle.std.specs.Char.{is_ascii_digit}
use Rattle.std.specs.Fmt.{decimal}
use Rattle.std.proofs.Common.{refl, arith}
use Rattle.std.proofs.lemmas.Bool.{eqb-true, both_ways}
use Rattle.std.proofs.lemmas.Bool.Decides.{nat_tests}
use Rattle.std.proofs.lemmas.Fmt.{digits_decimal}
use Rattle.std.proofs.lemmas.List.{append_assoc, length-append}
use Rattle.srcp_text.specs.Stamp.{stamp, three_digits}
use Rattle.srcp_text.specs.Words.{plain_number_of}
use Rattle.srcp_text.proofs.CutLaws.{cut_at}
use Rattle.srcp_text.proofs.NumberLaws.{own, plain_number_of-decimal}
use Rattle.srcp_text.proofs.StampLaws.{digits_free, stamp_free, digit_no_point}
use Rattle.srcp_info.specs.Line.{bit_word}
use Rattle.srcp_info.specs.declared.scan.InfoKind.{InfoKind}
use Rattle.srcp_info.specs.WellFormed.{is_space}
use Rattle.srcp_info.specs.Read.{kind_code}
use Rattle.srcp_info.proofs.LineLaws.{join-cons}

-- ---- words without a space

digit_no_space : (c : ℕ) → is_ascii_digit c ≡ true → is_space c ≡ false
digit_no_space c h = grind (arith, nat_tests)

-- a printed number has none
pub decimal_no_space : (n : ℕ) → n < 2 ^ 64 → list_any is_space (decimal n) ≡ false
decimal_no_space n h = digits_free is_space digit_no_space (decimal n) (digits_decimal own n h)

-- nor has a stamp
pub stamp_no_space : (moment : ℕ) → moment < 2 ^ 64 → list_any is_space (stamp moment) ≡ false
stamp_no_space moment h = grind (arith, stamp_free, digit_no_space)

-- nor has the number of a line
pub kind_no_space : (kind : InfoKind) → list_any is_space (kind_code kind) ≡ false
kind_no_space kind = grind arith

-- ---- numbers

-- the seconds of a stamp stand before its point, and its thousandths after it
pub cut_stamp : (moment : ℕ) → moment < 2 ^ 64 → (before_first (λ byte. byte == 46) (stamp moment) ≡ decimal (moment / 1000))
    × (after_first (λ byte. byte == 46) (stamp moment) ≡ three_digits (moment % 1000))
cut_stamp moment h =
    let digits = digits_decimal own (moment / 1000) (omega arith) in
    cut_at (λ byte. byte == 46) (decimal (moment / 1000)) 46 (three_digits (moment % 1000))
    (digits_free (λ byte. byte == 46) digit_no_point (decimal (moment / 1000)) digits) refl

-- and they are read as such
pub seconds_again : (moment : ℕ) → moment < 2 ^ 64 → plain_number_of 18446744073709551 (decimal (moment / 1000)) ≡ Some (moment / 1000)
seconds_again moment h = grind (arith, plain_number_of-decimal)

-- ---- functions

-- no functions have no text
pub bits_none : (bits : List Bool) (rest : List ℕ) → rest ≡ join_with_byte 32 (map bit_word bits) → (length rest == 0) ≡ true → bits ≡ []
bits_none [] rest is e = grind (arith, join-cons, length-append, eqb-true)
bits_none (b ∷ bs) rest is e = grind (arith, join-cons, length-append, eqb-true)

-- and if there is a text there is a first
pub bits_some : (bits : List Bool) (rest : List ℕ) → rest ≡ join_with_byte 32 (map bit_word bits) → (length rest == 0) ≡ false
    → (b : Bool) × (bs : List Bool) × (bits ≡ b ∷ bs)
bits_some [] rest is e = absurd (both_ways (length rest == 0) e (rw is refl))
bits_some (b ∷ bs) rest is e = (b, bs, refl)

-- one more of them is read
pub bits_step : (bits seen seen' left : List Bool) (on : Bool) (rest more : List ℕ) → bits ≡ seen ++ left
    → rest ≡ join_with_byte 32 (map bit_word left) → (length rest == 0) ≡ false → seen' ≡ seen ++ on ∷ []
    → ((b : Bool) (others : List (List ℕ)) → rest ≡ join_with_byte 32 (bit_word b ∷ others) → (on ≡ b) × (more ≡ join_with_byte 32 others))
    → (left' : List Bool) × (bits ≡ seen' ++ left') × (more ≡ join_with_byte 32 (map bit_word left'))
bits_step bits seen seen' left on rest more whole is some push next = grind (arith, bits_some, append_assoc)
