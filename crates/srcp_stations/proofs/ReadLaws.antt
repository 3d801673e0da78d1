-- Laws of the words that a message has.
use Rattle.std.specs.Prelude.{◌≡◌, ◌≢◌, ℕ, ◌-◌, ◌^◌, ◌<◌, ◌≤◌, Bool, false, List, [], ◌∷◌}
use Rattle.std.specs.Prelude.{Option, Some, None, IfSome, length, take, drop, get_or, decimal}
use Rattle.std.specs.List.{list_any}
use Rattle.std.proofs.Common.{refl, arith}
use Rattle.std.proofs.lemmas.Bool.{cases_Bool}
use Rattle.std.proofs.lemmas.List.{take_all}
use lib.Chars.{codes}
use Rattle.srcp_stations.specs.declared.drive.Drive.{Drive}
use Rattle.srcp_stations.specs.declared.said.Said.{Said}
use Rattle.srcp_stations.specs.declared.said.Said.TheVariants.{Banner, Overload, Sensor, Slots, Power, Locomotive}
use Rattle.srcp_stations.specs.declared.said.Said.TheVariants.{Refused, Cv}
use Rattle.srcp_stations.specs.declared.read.Head.{Head}
use Rattle.srcp_stations.specs.declared.read.Head.TheVariants as head
use Rattle.srcp_stations.specs.declared.said.CvValue.{CvValue}
use Rattle.srcp_stations.specs.declared.said.CvValue.TheVariants.{Is, Nobody, CannotMeasure, NoTrack}
use Rattle.srcp_stations.specs.Said.{IsDrive, IsSaid, IsSlot, bits_word, bracketed, drive_code, said_line, slot_word}
use Rattle.srcp_stations.specs.Said.{value_word}
use Rattle.srcp_stations.specs.Read.{head_of, head_word, is_space, more_words}
use Rattle.srcp_stations.proofs.NumberLaws.{decimal_no_space, no_minus}

-- a message begins with the word of what it speaks of
pub front : (said : Said) → head_of said ≢ head.Other → said_line said ≡ bracketed (head_word (head_of said) ∷ more_words said)
front (Sensor number on) h = refl
front (Slots count) h = refl
front (Power track on) h = refl
front (Locomotive report) h = refl
front Refused h = refl
front (Cv checked cv value) h = refl
front Banner h = absurd (h refl)
front Overload h = absurd (h refl)

pub head_no_space : (head : Head) → list_any is_space (head_word head) ≡ false
head_no_space head = grind (arith, cases_Bool)

pub small_slot : (slot : Option ℕ) → IsSlot slot → IfSome slot (λ number. number < 2 ^ 32)
small_slot None h = tt
small_slot (Some number) h = omega (arith, h)

pub slot_no_space : (slot : Option ℕ) → IfSome slot (λ number. number < 2 ^ 32) → list_any is_space (slot_word slot) ≡ false
slot_no_space None h = refl
slot_no_space (Some number) h = decimal_no_space number (omega (arith, h))

-- no number is written as none is
pub slot_none : (slot : Option ℕ) → IfSome slot (λ number. number < 2 ^ 32) → slot_word slot ≡ codes "-1" → None ≡ slot
slot_none None h e = refl
slot_none (Some number) h e = absurd (no_minus number (49 ∷ []) (omega (arith, h)) e)

-- the code of a drive fits a byte
pub small_code : (drive : Drive) → IsDrive drive → drive_code drive < 2 ^ 8
small_code drive h = grind (arith, cases_Bool)

-- what begins with a minus has the highest bit on
pub bits_negative : (bits : ℕ) (word : List ℕ) → bits < 2 ^ 32 → word ≡ bits_word bits → get_or word 0 0 ≡ 45
    → (2 ^ 31 ≤ bits) × (take (length word - 1) (drop 1 word) ≡ decimal (2 ^ 32 - bits))
bits_negative bits [] small e first = grind arith
bits_negative bits (x ∷ xs) small e first = grind (arith, take_all, no_minus bits xs)

-- the number of a CV is small
pub small_cv : (checked : Bool) (cv : ℕ) (value : CvValue) → IsSaid (Cv checked cv value) → cv < 2 ^ 32
small_cv checked cv (Is n) h = omega (arith, h.0)
small_cv checked cv Nobody h = omega (arith, h)
small_cv checked cv CannotMeasure h = omega (arith, h)
small_cv checked cv NoTrack h = omega (arith, h)

-- no value is written as what is below 0
pub value_below : (checked : Bool) (cv : ℕ) (value other : CvValue) (digits : List ℕ) → IsSaid (Cv checked cv value)
    → IsSaid (Cv checked cv other) → value_word value ≡ 45 ∷ digits → value_word other ≡ 45 ∷ digits → other ≡ value
value_below checked cv (Is n) other digits h k e f = absurd (no_minus n digits (omega (arith, h.1)) e)
value_below checked cv value (Is m) digits h k e f = absurd (no_minus m digits (omega (arith, k.1)) f)
value_below checked cv value other digits h k e f = grind arith

-- and what is below 0 is said of any CV
pub any_cv : (checked : Bool) (cv : ℕ) (value : CvValue) → IsSaid (Cv checked cv value) → IsSaid (Cv checked cv Nobody)
any_cv checked cv (Is n) h = h.0
any_cv checked cv Nobody h = h
any_cv checked cv CannotMeasure h = h
any_cv checked cv NoTrack h = h
