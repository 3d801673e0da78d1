-- What is the same, and what a test that holds says.
use Rattle.std.proofs.Common.{◌&&◌, ap, Bool, false, None, not, Option, refl, Some, true, ◌∙◌, ◌≡◌}
use Rattle.std.proofs.lemmas.Bool.{eq-eqb, eqb-true}
use Rattle.std.specs.Prelude.{if◌then◌else◌, ◌||◌}
use Rattle.srcp_driver.specs.Drives.{drives, is_same, is_same_speed, is_same_way, is_value, rest}
use Rattle.srcp_driver.specs.declared.drive.Drive.{Drive}
use Rattle.srcp_driver.specs.declared.drive.Speed.{Speed}
use Rattle.srcp_driver.specs.declared.drive.Speed.TheVariants as speed

same_speed : (a b : Speed) → is_same_speed a b ≡ true → a ≡ b
same_speed speed.Halt speed.Halt e = refl
same_speed speed.Stand speed.Stand e = refl
same_speed (speed.Step x) (speed.Step y) e = ap speed.Step (eqb-true x y e)
same_speed speed.Halt speed.Stand e = absurd (cc)
same_speed speed.Halt (speed.Step y) e = absurd (cc)
same_speed speed.Stand speed.Halt e = absurd (cc)
same_speed speed.Stand (speed.Step y) e = absurd (cc)
same_speed (speed.Step x) speed.Halt e = absurd (cc)
same_speed (speed.Step x) speed.Stand e = absurd (cc)

speed_same : (a : Speed) → is_same_speed a a ≡ true
speed_same speed.Halt = refl
speed_same speed.Stand = refl
speed_same (speed.Step x) = eq-eqb x x refl

pub same_way : (a b : Bool) → is_same_way a b ≡ true → a ≡ b
same_way true true e = refl
same_way false false e = refl
same_way true false e = absurd (cc)
same_way false true e = absurd (cc)

pub way_same : (a : Bool) → is_same_way a a ≡ true
way_same true = refl
way_same false = refl

pub record Both (a b : Bool) : Type 0 where
  pub left : a ≡ true
  pub right : b ≡ true

pub both : (a b : Bool) → (a && b) ≡ true → Both a b
both true true e = record { left = refl; right = refl }
both true false e = absurd (cc)
both false b e = absurd (cc)

pub and_both : (a b : Bool) → a ≡ true → b ≡ true → (a && b) ≡ true
and_both true b a-is b-is = b-is
and_both false b a-is b-is = absurd (cc)

pub same_drive : (a b : Drive) → is_same a b ≡ true → a ≡ b
same_drive a b e =
    let parts = both (is_same_speed a.speed b.speed) (is_same_way a.is_forward b.is_forward) e in
    let fast : a.speed ≡ b.speed = same_speed a.speed b.speed parts.left in
    let way : a.is_forward ≡ b.is_forward = same_way a.is_forward b.is_forward parts.right in
    ap (λ (s : Speed). record a { speed = s }) fast ∙ ap (λ (w : Bool). record b { is_forward = w }) way

pub drive_same : (a : Drive) → is_same a a ≡ true
drive_same a = and_both (is_same_speed a.speed a.speed) (is_same_way a.is_forward a.is_forward)
    (speed_same a.speed) (way_same a.is_forward)

pub value_is : (x : Option Drive) (drive : Drive) → is_value x drive ≡ true → x ≡ Some drive
value_is None drive e = absurd (cc)
value_is (Some other) drive e = ap (λ (d : Drive). Some d) (same_drive other drive e)

pub not_false : (a : Bool) → not a ≡ false → a ≡ true
not_false true e = refl
not_false false e = absurd (cc)

pub not_true : (a : Bool) → not a ≡ true → a ≡ false
not_true true e = absurd (cc)
not_true false e = refl

-- ---- rest

rest_of : (drive : Drive) (here : Bool) → drives drive ≡ here
    → drives (if here then record drive { speed = speed.Stand } else drive) ≡ false
rest_of drive true e = refl
rest_of drive false e = e

pub rest_rests : (drive : Drive) → drives (rest drive) ≡ false
rest_rests drive = rest_of drive (drives drive) refl

pub or_right : (a b : Bool) → b ≡ true → (a || b) ≡ true
or_right true b e = refl
or_right false b e = e

pub or_left : (a b : Bool) → a ≡ true → (a || b) ≡ true
or_left true b e = refl
or_left false b e = absurd (cc)

-- ---- what a test picks

-- of two that keep something
pub pick : {X : Type 0} (P : X → Type 0) (b : Bool) (x y : X) → P x → P y → P (if b then x else y)
pick P true x y p q = p
pick P false x y p q = q

-- .. if the test fails
pub pick_else : {X : Type 0} (P : X → Type 0) (b : Bool) (x y : X) → b ≡ false → P y → P (if b then x else y)
pick_else P true x y denied q = absurd (cc)
pick_else P false x y denied q = q

-- of two pairs that agree
pub picks : {X Y : Type 0} (R : X → Y → Type 0) (b : Bool) (k l : X) (x y : Y) → R k x → R l y
    → R (if b then k else l) (if b then x else y)
picks R true k l x y p q = p
picks R false k l x y p q = q
