-- What a text writes, from its first byte on.
use Rattle.std.proofs.Common.{◌≡◌, ℕ, ◌+◌, ◌*◌, ◌-◌, ◌<◌, ◌≤◌, Bool, false, eqb, ltb, List, [], ◌∷◌, ◌++◌, length, get_or, take, drop, refl}
use Rattle.std.proofs.Common.{sym, ap, ◌∙◌, append_assoc, subst, arith, Option, Some, None, inl, inr}
use Rattle.std.specs.Prelude.{option_map}
use Rattle.std.specs.Char.{digit_value}
use Rattle.std.specs.List.{slice_split, onto_first}
use Rattle.std.proofs.lemmas.Bool.{cases_Bool, ne_eqb, lt-ltb, ltb-true}
use Rattle.std.proofs.lemmas.Slice.{between_to_end}
use Rattle.srcp_script.specs.Script.{unescaped, after, plain_and, escapes, joined, hex_byte}

-- two hexadecimal digits stand at the front of the text, and the byte that they write
abbrev pub AreDigits : List ℕ → Type 0
AreDigits text = (digit_value (get_or text 0 0) < 16) × (digit_value (get_or text 1 0) < 16)

abbrev pub byte_at : List ℕ → ℕ
byte_at text = digit_value (get_or text 0 0) * 16 + digit_value (get_or text 1 0)

abbrev is_backslash : ℕ → Bool
is_backslash byte = eqb byte 92

-- the parts of a text between its backslashes
abbrev parts : List ℕ → List (List ℕ)
parts text = slice_split is_backslash text

-- a byte at the front of the first part is at the front of what is written
joined-front : (byte : ℕ) (plain : List ℕ) (more : Option (List ℕ))
    → joined (Some (byte ∷ plain)) more ≡ after byte (joined (Some plain) more)
joined-front byte plain None = refl
joined-front byte plain (Some bytes) = refl

joined-nil : (more : Option (List ℕ)) → joined (Some []) more ≡ more
joined-nil None = refl
joined-nil (Some bytes) = refl

-- ---- two hexadecimal digits

both_digits : (high low : ℕ) (plain : List ℕ) → digit_value high < 16 → digit_value low < 16
    → hex_byte (high ∷ low ∷ plain) ≡ Some ((digit_value high * 16 + digit_value low) ∷ plain)
both_digits high low plain h l = rw (lt-ltb (digit_value high) 16 h, lt-ltb (digit_value low) 16 l) refl

not_both : (high low : ℕ) (plain : List ℕ) → (digit_value high < 16 → digit_value low < 16 → ⊥) → hex_byte (high ∷ low ∷ plain) ≡ None
not_both high low plain fails =
    elim (cases_Bool (ltb (digit_value high) 16)) [
      | inr f ↦ rw f refl
      | inl h ↦ elim (cases_Bool (ltb (digit_value low) 16)) [
        | inr f ↦ rw (h, f) refl
        | inl l ↦ absurd (fails (ltb-true (digit_value high) 16 h) (ltb-true (digit_value low) 16 l))
      ]
    ]

digit_is_no_backslash : (byte : ℕ) → digit_value byte < 16 → eqb byte 92 ≡ false
digit_is_no_backslash byte small =
    ne_eqb byte 92 (λ same. let P : ℕ → Type 0 = λ b. digit_value b < 16 in absurd (let h : 36 < 16 = subst P same small in omega arith))

hex_parts : (high low : ℕ) → digit_value high < 16 → digit_value low < 16 → (all : List (List ℕ))
    → joined (Some []) (escapes (onto_first 120 (onto_first high (onto_first low all))))
    ≡ after (digit_value high * 16 + digit_value low) (plain_and all)
hex_parts high low h l [] = rw (both_digits high low [] h l) refl
hex_parts high low h l (plain ∷ more) =
    rw (both_digits high low plain h l) (joined-nil _ ∙ joined-front (digit_value high * 16 + digit_value low) plain (escapes more))

hex_digits : (high low : ℕ) (text : List ℕ) → digit_value high < 16 → digit_value low < 16
    → unescaped (92 ∷ 120 ∷ high ∷ low ∷ text) ≡ after (digit_value high * 16 + digit_value low) (unescaped text)
hex_digits high low text h l = rw (digit_is_no_backslash high h, digit_is_no_backslash low l) (hex_parts high low h l (parts text))

no_hex_parts : (high low : ℕ) → (digit_value high < 16 → digit_value low < 16 → ⊥) → (all : List (List ℕ))
    → joined (Some []) (escapes (onto_first 120 (onto_first high (onto_first low all)))) ≡ None
no_hex_parts high low fails [] = rw (not_both high low [] fails) refl
no_hex_parts high low fails (plain ∷ more) = rw (not_both high low plain fails) refl

no_hex_digits : (high low : ℕ) (text : List ℕ) → (digit_value high < 16 → digit_value low < 16 → ⊥)
    → unescaped (92 ∷ 120 ∷ high ∷ low ∷ text) ≡ None
no_hex_digits high low text fails =
    elim (cases_Bool (eqb high 92)) [
      | inl t ↦ rw t refl
      | inr h ↦ elim (cases_Bool (eqb low 92)) [
        | inl t ↦ rw (h, t) refl
        | inr l ↦ rw (h, l) (no_hex_parts high low fails (parts text))
      ]
    ]

-- both digits, or not both, at the front of what follows the x
pub unescaped-hex : (text : List ℕ) (byte : ℕ) → 2 ≤ length text → AreDigits text → byte ≡ byte_at text
    → unescaped (92 ∷ 120 ∷ text) ≡ after byte (unescaped (take (length text - 2) (drop 2 text)))
unescaped-hex [] byte long are is = absurd (omega arith)
unescaped-hex (high ∷ []) byte long are is = absurd (omega arith)
unescaped-hex (high ∷ low ∷ text) byte long are is =
    rw (is, between_to_end (high ∷ low ∷ text) 2 (length (high ∷ low ∷ text)) (omega arith)) (hex_digits high low text are.0 are.1)

pub unescaped-no_hex : (text : List ℕ) → 2 ≤ length text → (AreDigits text → ⊥) → unescaped (92 ∷ 120 ∷ text) ≡ None
unescaped-no_hex [] long fails = absurd (omega arith)
unescaped-no_hex (high ∷ []) long fails = absurd (omega arith)
unescaped-no_hex (high ∷ low ∷ text) long fails = no_hex_digits high low text (λ h l. fails (h, l))

pub unescaped-cut_hex : (text : List ℕ) → length text < 2 → unescaped (92 ∷ 120 ∷ text) ≡ None
unescaped-cut_hex [] short = refl
unescaped-cut_hex (high ∷ []) short = elim (cases_Bool (eqb high 92)) [ inl t ↦ rw t refl | inr f ↦ rw f refl ]
unescaped-cut_hex (high ∷ low ∷ text) short = absurd (omega arith)

-- what is written in front of the rest
abbrev pub behind : List ℕ → Option (List ℕ) → Option (List ℕ)
behind bytes more = option_map (λ rest. bytes ++ rest) more

-- what a text writes that has a backslash: the part before that, and then what the escape and the rest write
pub unescaped_escape : (text plain escape bytes : List ℕ) → parts text ≡ plain ∷ parts escape
    → behind bytes (unescaped text) ≡ behind (bytes ++ plain) (unescaped (92 ∷ escape))
unescaped_escape text plain escape bytes is = rw is (rw (joined-nil (escapes (parts escape))) (twice (escapes (parts escape))))
  where
    twice : (more : Option (List ℕ)) → behind bytes (joined (Some plain) more) ≡ behind (bytes ++ plain) more
    twice None = refl
    twice (Some rest) = ap Some (sym (append_assoc bytes plain rest))

-- one byte more in front of the rest
pub behind_after : (bytes : List ℕ) (byte : ℕ) (more : Option (List ℕ)) → behind bytes (after byte more) ≡ behind (bytes ++ byte ∷ []) more
behind_after bytes byte None = refl
behind_after bytes byte (Some rest) = ap Some (sym (append_assoc bytes (byte ∷ []) rest))
