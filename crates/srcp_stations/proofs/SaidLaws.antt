-- No bytes say two things.
use Rattle.std.specs.Prelude.{◌≡◌, ◌≢◌, ℕ, ◌-◌, ◌^◌, ◌<◌, Bool, false, true, List, [], ◌∷◌, ◌++◌}
use Rattle.std.specs.Prelude.{if◌then◌else◌, IsTrue, nat_eq, drop, ◌&&◌, Option, Some, None, length, decimal, nat_lt}
use Rattle.std.specs.Prelude.{get_or}
use Rattle.std.specs.List.{AllByRecursion, ends_with, starts_with}
use Rattle.std.proofs.lemmas.Bool.Decides.{Decides-eqb}
use Rattle.std.proofs.lemmas.Slice.Eq.{starts_is}
use Rattle.std.proofs.Common.{refl, sym, ◌∙◌, ap, arith, inl, inr}
use Rattle.std.proofs.lemmas.Bool.{cases_Bool}
use lib.Chars.{codes}
use Rattle.srcp_text.specs.Words.{IsWord}
use Rattle.srcp_text.proofs.NumberLaws.{filled}
use Rattle.srcp_stations.specs.declared.drive.Drive.{Drive}
use Rattle.srcp_stations.specs.declared.said.Track.{Track}
use Rattle.srcp_stations.specs.declared.said.Said.{Said}
use Rattle.srcp_stations.specs.declared.said.Said.TheVariants as said
use Rattle.srcp_stations.specs.declared.said.CvValue.{CvValue}
use Rattle.srcp_stations.specs.declared.said.CvValue.TheVariants as value
use Rattle.srcp_stations.specs.Said.{IsDrive, IsMessage, IsSaid, IsSlot, Says, bits_word}
use Rattle.srcp_stations.specs.Said.{drive_code, said_line}
use Rattle.srcp_stations.specs.Said.{said_words, slot_word, track_words, value_word}
use Rattle.srcp_stations.specs.declared.read.Head.TheVariants as head
use Rattle.srcp_stations.specs.Read.{head_of}
use Rattle.srcp_stations.specs.Text.{is_banner, is_framed, is_overload, message_in}
use Rattle.srcp_stations.proofs.NumberLaws.{no_minus}
use Rattle.std.proofs.lemmas.Bool.{and_parts}
use Rattle.srcp_stations.proofs.ReadLaws.{small_code, small_cv}
use Rattle.srcp_stations.proofs.JoinLaws.{same_words, small_word, decimal_same}

-- ---- messages

slot_is_word : (slot : Option ℕ) → IsSlot slot → IsWord (slot_word slot)
slot_is_word None h = (refl, refl)
slot_is_word (Some number) h = small_word number (omega (arith, h))

minus_word : (word : List ℕ) → IsWord word → IsWord (45 ∷ word)
minus_word word h = (filled (45 ∷ word) (omega arith), h.1)

bits_is_word : (bits : ℕ) → bits < 2 ^ 32 → IsWord (bits_word bits)
bits_is_word bits h =
    elim (cases_Bool (nat_lt bits (2 ^ 31))) [
      | inl low ↦ rw low (small_word bits h)
      | inr high ↦ rw high (minus_word (decimal (2 ^ 32 - bits)) (small_word (2 ^ 32 - bits) (grind arith)))
    ]

track_are_words : (track : Track) (on : Bool) → IsSaid (said.Power track on) → AllByRecursion IsWord (track_words track)
track_are_words track on h = grind arith

value_is_word : (checked : Bool) (cv : ℕ) (value : CvValue) → IsSaid (said.Cv checked cv value) → IsWord (value_word value)
value_is_word checked cv (value.Is n) h = small_word n (omega (arith, h.1))
value_is_word checked cv value.Nobody h = (refl, refl)
value_is_word checked cv value.CannotMeasure h = (refl, refl)
value_is_word checked cv value.NoTrack h = (refl, refl)

said_are_words : (a : Said) → IsSaid a → AllByRecursion IsWord (said_words a)
said_are_words (said.Sensor number true) h = ((refl, refl), (small_word number (omega (arith, h)), tt))
said_are_words (said.Sensor number false) h = ((refl, refl), (small_word number (omega (arith, h)), tt))
said_are_words (said.Slots count) h = ((refl, refl), (small_word count (omega (arith, h)), tt))
said_are_words (said.Power track true) h = ((refl, refl), track_are_words track true h)
said_are_words (said.Power track false) h = ((refl, refl), track_are_words track false h)
said_are_words (said.Locomotive report) h =
    let code = small_code report.drive h.drive in (
      (refl, refl),
      (
        small_word report.cab (omega (arith, h.cab)),
        (
          slot_is_word report.slot h.slot,
          (small_word (drive_code report.drive) (omega (arith, code)), (bits_is_word report.functions (omega (arith, h.functions)), tt)),
        ),
      ),
    )
said_are_words said.Refused h = ((refl, refl), tt)
said_are_words (said.Cv true cv value) h =
    ((refl, refl), (small_word cv (small_cv true cv value h), (value_is_word true cv value h, tt)))
said_are_words (said.Cv false cv value) h =
    ((refl, refl), (small_word cv (small_cv false cv value h), (value_is_word false cv value h, tt)))
said_are_words said.Banner h = ((refl, refl), tt)
said_are_words said.Overload h = ((refl, refl), tt)

-- ---- what words say

slot_same : (a b : Option ℕ) → IsSlot a → IsSlot b → slot_word a ≡ slot_word b → a ≡ b
slot_same None None h k e = refl
slot_same None (Some m) h k e = absurd (no_minus m (49 ∷ []) (omega (arith, k)) (sym e))
slot_same (Some n) None h k e = absurd (no_minus n (49 ∷ []) (omega (arith, h)) e)
slot_same (Some n) (Some m) h k e = ap (λ x. Some x) (decimal_same n m (omega (arith, h)) (omega (arith, k)) e)

bits_same : (a b : ℕ) → a < 2 ^ 32 → b < 2 ^ 32 → bits_word a ≡ bits_word b → a ≡ b
bits_same a b h k e =
    elim (cases_Bool (nat_lt a (2 ^ 31))) [
      | inl low ↦ elim (cases_Bool (nat_lt b (2 ^ 31))) [
        | inl low' ↦ decimal_same a b h k (rw (low, low') at e)
        | inr high' ↦ absurd (no_minus a (decimal (2 ^ 32 - b)) (omega (arith, h)) (rw (low, high') at e))
      ]
      | inr high ↦ elim (cases_Bool (nat_lt b (2 ^ 31))) [
        | inl low' ↦ absurd (no_minus b (decimal (2 ^ 32 - a)) (omega (arith, k)) (sym (rw (high, low') at e)))
        | inr high' ↦ grind (arith, decimal_same (2 ^ 32 - a) (2 ^ 32 - b))
      ]
    ]

track_same : (a b : Track) → track_words a ≡ track_words b → a ≡ b
track_same a b e = grind arith

code_same : (a b : Drive) → IsDrive a → IsDrive b → drive_code a ≡ drive_code b → a ≡ b
code_same a b h k e = grind (arith, cases_Bool)

letter_same : (a b : Bool) → (if a then codes "v" else codes "r") ≡ (if b then codes "v" else codes "r") → a ≡ b
letter_same a b e = grind (arith, cases_Bool)

value_same : (checked : Bool) (cv cv' : ℕ) (value : CvValue) (checked' : Bool) (value' : CvValue) → IsSaid (said.Cv checked cv value)
    → IsSaid (said.Cv checked' cv' value') → value_word value ≡ value_word value' → value ≡ value'
value_same checked cv cv' (value.Is n) checked' (value.Is m) h k e =
    ap (λ x. value.Is x) (decimal_same n m (omega (arith, h.1)) (omega (arith, k.1)) e)
value_same checked cv cv' (value.Is n) checked' other h k e = grind (arith, no_minus)
value_same checked cv cv' other checked' (value.Is m) h k e = grind (arith, no_minus)
value_same checked cv cv' value checked' value' h k e = grind arith

said_same : (a b : Said) → IsSaid a → IsSaid b → said_words a ≡ said_words b → a ≡ b
said_same (said.Sensor number on) b h k e = grind (arith, cases_Bool, decimal_same)
said_same (said.Slots count) b h k e = grind (arith, cases_Bool, decimal_same)
said_same (said.Power track on) b h k e = grind (arith, cases_Bool, track_same)
said_same (said.Locomotive a) (said.Locomotive b) h k e =
    let at = λ (n : ℕ). ap (λ (words : List (List ℕ)). get_or words n []) e in
    let cab = decimal_same a.cab b.cab (omega (arith, h.cab)) (omega (arith, k.cab)) (at 1) in
    let slot = slot_same a.slot b.slot h.slot k.slot (at 2) in
    let code = decimal_same (drive_code a.drive) (drive_code b.drive)
    (omega (arith, small_code a.drive h.drive)) (omega (arith, small_code b.drive k.drive)) (at 3) in
    let drive = code_same a.drive b.drive h.drive k.drive code in
    let functions = bits_same a.functions b.functions (omega (arith, h.functions)) (omega (arith, k.functions)) (at 4) in
    λ i. said.Locomotive (record { cab = cab i; slot = slot i; drive = drive i; functions = functions i })
said_same (said.Locomotive a) b h k e = grind (arith, cases_Bool)
said_same said.Refused b h k e = grind (arith, cases_Bool)
said_same (said.Cv checked cv value) (said.Cv checked' cv' value') h k e =
    let at = λ (n : ℕ). ap (λ (words : List (List ℕ)). get_or words n []) e in
    let first : checked ≡ checked' = letter_same checked checked' (at 0) in
    let number = decimal_same cv cv' (small_cv checked cv value h) (small_cv checked' cv' value' k) (at 1) in
    let what = value_same checked cv cv' value checked' value' h k (at 2) in
    λ i. said.Cv (first i) (number i) (what i)
said_same (said.Cv checked cv value) b h k e = grind (arith, cases_Bool)
said_same said.Banner b h k e = grind (arith, cases_Bool)
said_same said.Overload b h k e = grind (arith, cases_Bool)

lines_differ : (a b : Said) → IsSaid a → IsSaid b → said_line a ≡ said_line b → a ≡ b
lines_differ a b h k e = said_same a b h k (same_words (said_words a) (said_words b) (said_are_words a h) (said_are_words b k) e)

-- a message without text is no banner, and says nothing of an overload
plain : (a : Said) → IsSaid a → head_of a ≢ head.Other → (is_banner (said_line a) ≡ false) × (is_overload (said_line a) ≡ false)
plain a h some = grind (arith, cases_Bool)

begins : (first last message : List ℕ) (more : Bool) → IsTrue (is_framed first last message && more)
    → message ≡ first ++ drop (length first) message
begins first last message more e =
    let framed = (and_parts (is_framed first last message) more e).0 in
    let started = (and_parts (starts_with nat_eq message first) (ends_with nat_eq message last) framed).0 in
    (starts_is Decides-eqb message first (starts_with nat_eq message first) refl).0 started

-- one that is both begins in two ways
two_begins : (message : List ℕ) → IsTrue (is_banner message) → IsTrue (is_overload message) → ⊥
two_begins message e f =
    let framed : IsTrue (is_framed (codes "<iDCC") (codes ">") message && true) = rw e refl in
    let one = begins (codes "<iDCC") (codes ">") message true framed in
    let other = begins (codes "<*") (codes ">") message _ f in
    let second : 105 ≡ 42 = ap (λ (bytes : List ℕ). get_or bytes 1 0) (sym one ∙ other) in
    omega (arith, second)

banner_alone : (message : List ℕ) (b : Said) → IsSaid b → IsTrue (is_banner message) → IsMessage message b → said.Banner ≡ b
banner_alone message said.Banner k e f = refl
banner_alone message said.Overload k e f = absurd (two_begins message e f)
banner_alone message b k e f = let none = (plain b k (λ x. grind arith)).0 in grind (arith, none)

overload_alone : (message : List ℕ) (b : Said) → IsSaid b → IsTrue (is_overload message) → IsMessage message b → said.Overload ≡ b
overload_alone message said.Banner k e f = absurd (two_begins message f e)
overload_alone message said.Overload k e f = refl
overload_alone message b k e f = let none = (plain b k (λ x. grind arith)).1 in grind (arith, none)

plain_alone : (message : List ℕ) (a b : Said) → IsSaid a → IsSaid b → message ≡ said_line a → head_of a ≢ head.Other → IsMessage message b
    → a ≡ b
plain_alone message a said.Banner h k e some f = let none = (plain a h some).0 in grind (arith, none)
plain_alone message a said.Overload h k e some f = let none = (plain a h some).1 in grind (arith, none)
plain_alone message a b h k e some f = lines_differ a b h k (sym e ∙ f)

one_message : (message : List ℕ) (a b : Said) → IsSaid a → IsSaid b → IsMessage message a → IsMessage message b → a ≡ b
one_message message said.Banner b h k e f = banner_alone message b k e f
one_message message said.Overload b h k e f = overload_alone message b k e f
one_message message a b h k e f = plain_alone message a b h k e (λ x. grind arith) f

pub messages_differ : (bytes : List ℕ) (a b : Said) → Says bytes a → Says bytes b → a ≡ b
messages_differ bytes a b h k = one_message (message_in bytes) a b h.valid k.valid h.same k.same
