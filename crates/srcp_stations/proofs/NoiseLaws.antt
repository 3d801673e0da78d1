-- A message is read as what it says, whatever stands before it.
use Rattle.std.specs.Prelude.{◌≡◌, ℕ, ◌-◌, ◌^◌, ◌<◌, Bool, false, true, List, ◌++◌}
use Rattle.std.specs.Prelude.{Option, Some, None, decimal, nat_lt}
use Rattle.std.specs.Char.{is_ascii_digit}
use Rattle.std.specs.List.{join_with_byte, list_any}
use Rattle.std.proofs.lemmas.Bool.Decides.{nat_tests}
use Rattle.std.proofs.Common.{refl, sym, ap, arith, inl, inr}
use Rattle.std.proofs.lemmas.Bool.{cases_Bool}
use Rattle.std.proofs.lemmas.Fmt.{digits_decimal}
use lib.Chars.{codes}
use Rattle.srcp_text.proofs.NumberLaws.{own}
use Rattle.srcp_text.proofs.StampLaws.{digits_free}
use Rattle.srcp_stations.specs.declared.said.Said.{Said}
use Rattle.srcp_stations.specs.declared.said.Said.TheVariants as said
use Rattle.srcp_stations.specs.declared.said.CvValue.{CvValue}
use Rattle.srcp_stations.specs.declared.said.CvValue.TheVariants as value
use Rattle.srcp_stations.specs.Said.{IsMessage, IsSaid, IsSlot, Reads, Says, bits_word}
use Rattle.srcp_stations.specs.Said.{drive_code, said_line}
use Rattle.srcp_stations.specs.Said.{said_words, slot_word, value_word}
use Rattle.srcp_stations.specs.Text.{is_open, message_in}
use Rattle.std.proofs.lemmas.Bool.{or_from}
use Rattle.std.proofs.lemmas.List.Folds.{list_any-append}
use Rattle.srcp_stations.proofs.TextLaws.{noise_before}
use Rattle.srcp_stations.proofs.ReadLaws.{small_code, small_cv}
use Rattle.srcp_stations.proofs.SaidLaws.{messages_differ}

digit_no_open : (c : ℕ) → is_ascii_digit c ≡ true → is_open c ≡ false
digit_no_open c h = grind (arith, nat_tests)

decimal_no_open : (n : ℕ) → n < 2 ^ 32 → list_any is_open (decimal n) ≡ false
decimal_no_open n h = digits_free is_open digit_no_open (decimal n) (digits_decimal own n (omega arith))

slot_no_open : (slot : Option ℕ) → IsSlot slot → list_any is_open (slot_word slot) ≡ false
slot_no_open None h = refl
slot_no_open (Some number) h = decimal_no_open number (omega (arith, h))

bits_no_open : (bits : ℕ) → bits < 2 ^ 32 → list_any is_open (bits_word bits) ≡ false
bits_no_open bits h =
    elim (cases_Bool (nat_lt bits (2 ^ 31))) [
      | inl low ↦ rw low (decimal_no_open bits h)
      | inr high ↦ rw high (decimal_no_open (2 ^ 32 - bits) (grind arith))
    ]

value_no_open : (checked : Bool) (cv : ℕ) (value : CvValue) → IsSaid (said.Cv checked cv value)
    → list_any is_open (value_word value) ≡ false
value_no_open checked cv (value.Is n) h = decimal_no_open n (omega (arith, h.1))
value_no_open checked cv value.Nobody h = refl
value_no_open checked cv value.CannotMeasure h = refl
value_no_open checked cv value.NoTrack h = refl

said_no_open : (a : Said) → IsSaid a → list_any is_open (join_with_byte 32 (said_words a)) ≡ false
said_no_open (said.Sensor number on) h = grind (arith, cases_Bool, decimal_no_open)
said_no_open (said.Slots count) h = decimal_no_open count (omega (arith, h))
said_no_open (said.Power track on) h = grind (arith, cases_Bool)
said_no_open (said.Locomotive report) h =
    let code = decimal_no_open (drive_code report.drive) (omega (arith, small_code report.drive h.drive)) in
    let bits = bits_no_open report.functions (omega (arith, h.functions)) in
    let cab = decimal_no_open report.cab (omega (arith, h.cab)) in
    let slot = slot_no_open report.slot h.slot in
    grind (arith, list_any-append, or_from, cab, slot, code, bits)
said_no_open said.Refused h = refl
said_no_open (said.Cv checked cv value) h =
    let number = decimal_no_open cv (small_cv checked cv value h) in
    let what = value_no_open checked cv value h in
    grind (arith, cases_Bool, list_any-append, or_from, number, what)
said_no_open said.Banner h = refl
said_no_open said.Overload h = refl

-- whatever stands before it, a message is found
found_again : (noise : List ℕ) (a : Said) → IsSaid a → message_in (noise ++ said_line a) ≡ said_line a
found_again noise a h =
    noise_before noise (join_with_byte 32 (said_words a) ++ codes ">") (grind (arith, list_any-append, said_no_open a h))

is_message : (a : Said) → IsMessage (said_line a) a
is_message said.Banner = grind arith
is_message said.Overload = grind arith
is_message (said.Sensor number on) = refl
is_message (said.Slots count) = refl
is_message (said.Power track on) = refl
is_message (said.Locomotive report) = refl
is_message said.Refused = refl
is_message (said.Cv checked cv value) = refl

says_again : (noise : List ℕ) (a : Said) → IsSaid a → Says (noise ++ said_line a) a
says_again noise a h = record { valid = h; same = rw (found_again noise a h) (is_message a) }

pub messages_read_again : (noise : List ℕ) (a : Said) (result : Option Said) → IsSaid a → Reads (noise ++ said_line a) result
    → result ≡ Some a
messages_read_again noise a None h reads = absurd (reads a (says_again noise a h))
messages_read_again noise a (Some b) h reads =
    ap (λ x. Some x) (sym (messages_differ (noise ++ said_line a) a b (says_again noise a h) reads))
