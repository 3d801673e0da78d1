-- How much is left to tell, and that each order leaves less.
use Rattle.std.proofs.Common.{◌&&◌, ◌+◌, [], ap, arith, Bool, false, length, List, not, Option, refl, Some, suc, true, zero, ℕ, ◌∙◌, ◌∷◌}
use Rattle.std.proofs.Common.{◌≡◌, ◌≤◌}
use Rattle.std.specs.Option.{option_map_or}
use Rattle.std.specs.Prelude.{slice_get, slice_set, ◌||◌}
use Rattle.srcp_driver.specs.Cabs.{differs, told, wanted}
use Rattle.srcp_driver.specs.Powers.{is_to_cut, is_to_switch_on, is_told, power_told}
use Rattle.srcp_driver.specs.Steps.{at, Table}
use Rattle.srcp_driver.specs.declared.cab.Cab.{Cab}
use Rattle.srcp_driver.specs.declared.power.Power.{Power}
use Rattle.srcp_driver.proofs.Same.{drive_same}

pub bit : Bool → ℕ
bit true = 1
bit false = 0

-- how many locomotives are to be told something
abbrev pub left : List Cab → ℕ
left [] = 0
left (cab ∷ cabs) = bit (differs cab) + left cabs

pub bit_le : (b : Bool) → bit b ≤ 1
unfolding bit
bit_le true = omega arith
bit_le false = omega arith

pub left_le : (cabs : List Cab) → left cabs ≤ length cabs
left_le [] = omega arith
left_le (cab ∷ cabs) = omega (arith, bit_le (differs cab), left_le cabs)

pub bit_true : (b : Bool) → b ≡ true → bit b ≡ 1
unfolding bit
bit_true true e = refl
bit_true false e = absurd (cc)

pub bit_false : (b : Bool) → b ≡ false → bit b ≡ 0
unfolding bit
bit_false true e = absurd (cc)
bit_false false e = refl

left_set : (cabs : List Cab) (n : ℕ) (cab x : Cab) → slice_get cabs n ≡ Some cab → differs cab ≡ true → differs x ≡ false
    → left (slice_set cabs n x) + 1 ≡ left cabs
left_set [] n cab x is was now = absurd (cc)
left_set (y ∷ cabs) zero cab x is was now =
    let same : y ≡ cab = cc in
    omega (arith, bit_true (differs y) (ap differs same ∙ was), bit_false (differs x) now)
left_set (y ∷ cabs) (suc n) cab x is was now = omega (arith, left_set cabs n cab x is was now)

-- what is left, with the power
abbrev pub power_left : Power → ℕ
power_left power = bit (is_to_cut power) + bit (is_to_switch_on power)

abbrev pub work : Table → ℕ
work t = bit t.stops_all + left t.cabs + power_left t.power

-- ---- each order

pub told_differs : (now : ℕ) (cab : Cab) → differs (told (wanted cab) now cab) ≡ false
told_differs now cab = ap not (drive_same (wanted cab))

pub at_is : (cabs : List Cab) (n : ℕ) (change : Cab → Cab) (cab : Cab) → slice_get cabs n ≡ Some cab
    → at cabs n change ≡ slice_set cabs n (change cab)
at_is cabs n change cab e = ap (λ (x : Option Cab). option_map_or (λ cab. slice_set cabs n (change cab)) x cabs) e

pub left_told : (cabs : List Cab) (now n : ℕ) (cab : Cab) → slice_get cabs n ≡ Some cab → differs cab ≡ true
    → left (at cabs n (told (wanted cab) now)) + 1 ≡ left cabs
left_told cabs now n cab is was =
    let less : left (slice_set cabs n (told (wanted cab) now cab)) + 1 ≡ left cabs =
    left_set cabs n cab (told (wanted cab) now cab) is was (told_differs now cab) in
    ap (λ (l : List Cab). left l + 1) (at_is cabs n (told (wanted cab) now) cab is) ∙ less

cut_off : (on told may : Bool) → (not on && not told && may) ≡ true → on ≡ false
cut_off true told may e = absurd (cc)
cut_off false told may e = refl

cut_on : (on told may : Bool) → (on && not told && may) ≡ true → on ≡ true
cut_on true told may e = refl
cut_on false told may e = absurd (cc)

power_off : (on a may m : Bool) → on ≡ false → bit (not on && not true && may) + bit (on && not a && m) ≡ 0
unfolding bit
power_off true a may m e = absurd (cc)
power_off false a may m e = refl

power_on : (on a may m : Bool) → on ≡ true → bit (not on && not a && may) + bit (on && not true && m) ≡ 0
unfolding bit
power_on true a may m e = refl
power_on false a may m e = absurd (cc)

pub cut_less : (now : ℕ) (power : Power) → is_to_cut power ≡ true → power_left (power_told false now power) + 1 ≤ power_left power
cut_less now power e = omega (
  arith,
  power_off power.is_on false false false (cut_off power.is_on (is_told power.told false)
      (option_map_or (λ on. power.is_late || on) power.awaited true) e),
  bit_true (is_to_cut power) e,
)

pub on_less : (now : ℕ) (power : Power) → is_to_switch_on power ≡ true → power_left (power_told true now power) + 1 ≤ power_left power
on_less now power e = omega (
  arith,
  power_on power.is_on false true false (cut_on power.is_on (is_told power.told true)
      (option_map_or (λ on. power.is_late) power.awaited true) e),
  bit_true (is_to_switch_on power) e,
)
