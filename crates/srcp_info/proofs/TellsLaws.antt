-- The words of a line tell the change of the line.
use Rattle.std.proofs.lemmas.Grind.{common_steps}
use Rattle.std.specs.Prelude.{◌≡◌, ℕ, ◌^◌, ◌<◌, ◌-◌, Bool, List, ◌∷◌, length, take}
use Rattle.std.specs.List.{join_with_byte}
use Rattle.std.proofs.Common.{arith}
use Rattle.std.proofs.lemmas.Bool.{cases_Bool, eqb-true}
use Rattle.std.proofs.lemmas.List.{nil_from_length, same_from_push, length-append}
use Rattle.std.proofs.Math.Seq.{take-append_seam}
use Rattle.srcp_info.specs.declared.key.Group.{Group}
use Rattle.srcp_info.specs.declared.value.Value.{Value}
use Rattle.srcp_info.specs.declared.value.Value.TheVariants.{Session, Power, GlInit, GaInit}
use Rattle.srcp_info.specs.declared.scan.InfoKind.{InfoKind}
use Rattle.srcp_info.specs.declared.scan.InfoKind.TheVariants.{State, Init, Term}
use Rattle.srcp_info.specs.declared.change.Change.{Change}
use Rattle.srcp_info.specs.declared.change.Change.TheVariants.{Put, Gone}
use Rattle.srcp_info.specs.declared.key.Device.{Device}
use Rattle.srcp_info.specs.declared.change.Shown.{Shown}
use Rattle.srcp_info.specs.Line.{line, change_words, info_words, value_code, value_words, switch_word}
use Rattle.srcp_info.specs.Read.{kind_code, IsLineOf}
use Rattle.srcp_info.specs.WellFormed.{IsWellFormed, IsAddress}

-- what the line of a row with this value is about
abbrev pub kind_of_value : Value → InfoKind
kind_of_value (Session mode) = Init
kind_of_value (GlInit letter version steps functions) = Init
kind_of_value (GaInit letter) = Init
kind_of_value other = State

pub value_kind : (value : Value) → value_code value ≡ kind_code (kind_of_value value)
value_kind value = grind arith

-- a row that is shown is not gone
pub value_not_term : (value : Value) → kind_of_value value ≡ Term → ⊥
value_not_term value e = grind arith

-- a change puts a row, or tells that a device is gone
pub by_change : (P : Change → Type 0) → ((shown : Shown) → P (Put shown)) → ((moment : ℕ) (device : Device) → P (Gone moment device))
    → (change : Change) → P change
by_change P put gone (Put shown) = put shown
by_change P put gone (Gone moment device) = gone moment device

-- a bus fits a byte, and an address 32 bits
pub device_fits : (g : Group) (bus address : ℕ) → IsAddress g bus address → (bus < 2 ^ 8) × (address < 2 ^ 32)
device_fits g bus address h = grind arith

-- the words of a text's change, with spaces between them, are the text
pub text_of_line : (text : List ℕ) (change : Change) → IsLineOf text change → text ≡ join_with_byte 32 (change_words change)
text_of_line text change is = grind (arith, same_from_push)

-- so is that of a row, with the number that tells what it is about
pub text_of_row : (text : List ℕ) (shown : Shown) → IsLineOf text (Put shown)
    → text ≡ join_with_byte 32 (info_words shown.stamp (kind_code (kind_of_value shown.value)) shown.key.bus shown.key.group
    (value_words shown.key.address shown.key.port shown.value))
text_of_row text shown is = rw (← value_kind shown.value) (text_of_line text (Put shown) is)

-- what follows ON or OFF in the line of a power row is its text
pub power_text : (on : Bool) (text whole : List ℕ) → whole ≡ join_with_byte 32 (value_words 0 0 (Power on text))
    → (others : List (List ℕ)) × (whole ≡ join_with_byte 32 (switch_word on ∷ others)) × (join_with_byte 32 others ≡ text)
power_text on text whole is = grind (arith, cases_Bool, nil_from_length, eqb-true)

-- a line without its last byte is its words with spaces between them
pub without_lf : (change : Change) (items rest : List ℕ) → items ≡ line change → rest ≡ take (length items - 1) items
    → rest ≡ join_with_byte 32 (change_words change)
without_lf change items rest whole front = grind (arith, common_steps, length-append, take-append_seam)

-- if that is the text, the text is the line of the change
pub is_line : (text rest : List ℕ) (change : Change) → IsWellFormed change → rest ≡ join_with_byte 32 (change_words change) → rest ≡ text
    → IsLineOf text change
is_line text rest change ok words same = grind arith
