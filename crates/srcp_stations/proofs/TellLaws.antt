-- No command tells two things, and none is longer than the longest.
use Rattle.std.specs.Prelude.{◌≡◌, ℕ, ◌^◌, ◌<◌, ◌≤◌, Bool, false, true, List, [], ◌∷◌}
use Rattle.std.specs.Prelude.{length, decimal}
use Rattle.std.specs.Prelude.{get_or}
use Rattle.std.specs.List.{AllByRecursion}
use Rattle.std.proofs.Common.{refl, ap, arith}
use Rattle.std.proofs.lemmas.Bool.{cases_Bool}
use Rattle.std.proofs.lemmas.Fmt.{first_decimal, length-decimal-le}
use Rattle.std.proofs.lemmas.List.{length-append, same_from_push}
use Rattle.srcp_text.specs.Words.{IsWord}
use Rattle.srcp_stations.specs.declared.drive.Drive.{Drive}
use Rattle.srcp_stations.specs.declared.drive.Speed.{Speed}
use Rattle.srcp_stations.specs.declared.drive.Speed.TheVariants.{Halt, Stand, Step}
use Rattle.srcp_stations.specs.declared.tell.Tell.{Tell}
use Rattle.srcp_stations.specs.declared.tell.Tell.TheVariants as tell
use Rattle.srcp_stations.specs.Limits.{longest_tell}
use Rattle.srcp_stations.specs.Said.{IsDrive, IsSpeed}
use Rattle.srcp_stations.specs.Said.{bracketed}
use Rattle.srcp_stations.specs.Tell.{IsTell, bit_word, speed_word, tell_line, tell_words}
use Rattle.srcp_stations.proofs.NumberLaws.{no_minus}
use Rattle.srcp_stations.proofs.JoinLaws.{same_words, small_word, decimal_same}

-- ---- commands

bit_is_word : (on : Bool) → IsWord (bit_word on)
bit_is_word true = (refl, refl)
bit_is_word false = (refl, refl)

speed_is_word : (speed : Speed) → IsSpeed speed → IsWord (speed_word speed)
speed_is_word Halt h = (refl, refl)
speed_is_word Stand h = (refl, refl)
speed_is_word (Step step) h = small_word step (omega (arith, h))

tell_are_words : (a : Tell) → IsTell a → AllByRecursion IsWord (tell_words a)
tell_are_words tell.StopAll h = ((refl, refl), tt)
tell_are_words (tell.Power on) h = (bit_is_word on, tt)
tell_are_words (tell.Cab cab drive) h =
    ((refl, refl), (small_word cab (omega (arith, h.0)), (speed_is_word drive.speed h.1, (bit_is_word drive.is_forward, tt))))
tell_are_words (tell.Function cab number on) h =
    ((refl, refl), (small_word cab (omega (arith, h.0)), (small_word number (omega (arith, h.1)), (bit_is_word on, tt))))
tell_are_words (tell.Turnout address thrown) h = ((refl, refl), (small_word address (omega (arith, h.1)), (bit_is_word thrown, tt)))
tell_are_words (tell.Forget cab) h = ((refl, refl), (small_word cab (omega (arith, h.1)), tt))
tell_are_words (tell.Ask cab) h = ((refl, refl), (small_word cab (omega (arith, h.1)), tt))
tell_are_words tell.Hello h = ((refl, refl), tt)
tell_are_words tell.Alive h = ((refl, refl), tt)
tell_are_words tell.Sensors h = ((refl, refl), tt)
tell_are_words (tell.ReadCv cv) h = ((refl, refl), (small_word cv (omega (arith, h.1)), tt))
tell_are_words (tell.WriteCv cv value) h =
    ((refl, refl), (small_word cv (omega (arith, h.1)), (small_word value (omega (arith, h.2)), tt)))

bit_same : (a b : Bool) → bit_word a ≡ bit_word b → a ≡ b
bit_same a b e = grind (arith, cases_Bool)

first_digit : (n : ℕ) (ds : List ℕ) → 0 < n → n < 2 ^ 64 → decimal n ≡ 48 ∷ ds → ⊥
first_digit n ds h k e = let big = first_decimal n h k in grind (arith, big, e)

speed_same : (a b : Speed) → IsSpeed a → IsSpeed b → speed_word a ≡ speed_word b → a ≡ b
speed_same (Step n) (Step m) h k e = ap (λ x. Step x) (decimal_same n m (omega (arith, h)) (omega (arith, k)) e)
speed_same (Step n) b h k e = grind (arith, no_minus, first_digit)
speed_same a (Step m) h k e = grind (arith, no_minus, first_digit)
speed_same a b h k e = grind arith

drive_same : (a b : Drive) → IsDrive a → IsDrive b → speed_word a.speed ≡ speed_word b.speed
    → bit_word a.is_forward ≡ bit_word b.is_forward → a ≡ b
drive_same a b h k s w =
    let speed = speed_same a.speed b.speed h k s in
    let way = bit_same a.is_forward b.is_forward w in
    λ i. record { speed = speed i; is_forward = way i }

tell_same : (a b : Tell) → IsTell a → IsTell b → tell_words a ≡ tell_words b → a ≡ b
tell_same (tell.Cab n d) (tell.Cab m f) h k e =
    let at = λ (i : ℕ). ap (λ (words : List (List ℕ)). get_or words i []) e in
    let cab = decimal_same n m (omega (arith, h.0)) (omega (arith, k.0)) (at 1) in
    let drive = drive_same d f h.1 k.1 (at 2) (at 3) in
    λ i. tell.Cab (cab i) (drive i)
tell_same (tell.Cab n d) b h k e = grind (arith, cases_Bool)
tell_same tell.StopAll b h k e = grind (arith, cases_Bool)
tell_same (tell.Power on) b h k e = grind (arith, cases_Bool)
tell_same (tell.Function cab number on) b h k e = grind (arith, cases_Bool, decimal_same, bit_same)
tell_same (tell.Turnout address thrown) b h k e = grind (arith, cases_Bool, decimal_same, bit_same)
tell_same (tell.Forget cab) b h k e = grind (arith, cases_Bool, decimal_same)
tell_same (tell.Ask cab) b h k e = grind (arith, cases_Bool, decimal_same)
tell_same tell.Hello b h k e = grind (arith, cases_Bool)
tell_same tell.Alive b h k e = grind (arith, cases_Bool)
tell_same tell.Sensors b h k e = grind (arith, cases_Bool)
tell_same (tell.ReadCv cv) b h k e = grind (arith, cases_Bool, decimal_same)
tell_same (tell.WriteCv cv value) b h k e = grind (arith, cases_Bool, decimal_same)

pub commands_differ : (a b : Tell) → IsTell a → IsTell b → tell_line a ≡ tell_line b → a ≡ b
commands_differ a b h k e =
    let lines = (same_from_push (bracketed (tell_words a)) (bracketed (tell_words b)) 10 10 e).0 in
    tell_same a b h k (same_words (tell_words a) (tell_words b) (tell_are_words a h) (tell_are_words b k) lines)

-- ---- lengths

few : (k n : ℕ) → 0 < k → n < 10 ^ k → n < 2 ^ 32 → length (decimal n) ≤ k
few k n pos below small = grind (arith, length-decimal-le)

short_speed : (speed : Speed) → IsSpeed speed → length (speed_word speed) ≤ 3
short_speed Halt h = omega arith
short_speed Stand h = omega arith
short_speed (Step step) h = few 3 step (omega arith) (omega (arith, h)) (omega (arith, h))

short_bit : (on : Bool) → length (bit_word on) ≡ 1
short_bit on = grind (arith, cases_Bool)

pub commands_are_short : (a : Tell) → IsTell a → length (tell_line a) ≤ longest_tell
commands_are_short (tell.Cab cab drive) h =
    grind (arith, length-append, few 5 cab, short_speed drive.speed h.1, short_bit drive.is_forward)
commands_are_short (tell.Function cab number on) h = grind (arith, length-append, few 5 cab, few 2 number, short_bit on)
commands_are_short (tell.WriteCv cv value) h = grind (arith, length-append, few 4 cv, few 3 value)
commands_are_short (tell.Power on) h = grind (arith, length-append, short_bit on)
commands_are_short (tell.Turnout address thrown) h = grind (arith, length-append, few 4 address, short_bit thrown)
commands_are_short (tell.Forget cab) h = grind (arith, length-append, few 5 cab)
commands_are_short (tell.Ask cab) h = grind (arith, length-append, few 5 cab)
commands_are_short (tell.ReadCv cv) h = grind (arith, length-append, few 4 cv)
commands_are_short a h = grind arith
