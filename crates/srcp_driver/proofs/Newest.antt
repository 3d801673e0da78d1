-- After a row that rests each order tells just that, until another row or a report.
use Rattle.std.proofs.Common.{◌&&◌, ◌++◌, ◌==◌, [], ap, Bool, false, inl, inr, List, None, not, Option, refl, Some, subst, sym, true, ℕ}
use Rattle.std.proofs.Common.{◌∙◌, ◌∷◌, ◌≡◌, ◌⊎◌}
use Rattle.std.specs.Option.{option_map_or}
use Rattle.std.specs.Prelude.{if◌then◌else◌, ◌||◌}
use Rattle.srcp_driver.specs.Cabs.{asked, is_kept, is_no_command, is_own, reported, with_answer, with_command, with_row}
use Rattle.srcp_driver.specs.Drives.{drives, is_value, rest}
use Rattle.srcp_driver.specs.Laws.{AreNo, is_row, may_change, NewestIsTold}
use Rattle.srcp_driver.specs.Powers.{is_cut}
use Rattle.srcp_driver.specs.Runs.{course, Made, rests}
use Rattle.srcp_driver.specs.Steps.{after, happens, next, next_put, Table, tells}
use Rattle.srcp_driver.specs.declared.cab.Cab.{Cab}
use Rattle.srcp_driver.specs.declared.drive.Drive.{Drive}
use Rattle.srcp_driver.specs.declared.event.Event.{Event}
use Rattle.srcp_driver.specs.declared.event.Event.TheVariants as event
use Rattle.srcp_driver.specs.declared.drive.Speed.TheVariants as speed
use Rattle.srcp_driver.proofs.Chosen.{order_for}
use Rattle.srcp_driver.proofs.Commands.{aged_keeps, ordered_keeps, power_keeps, refused_keeps}
use Rattle.srcp_driver.proofs.Each.{cab_heard, Each, each_heard, each_ordered, each_put_keeps}
use Rattle.srcp_driver.proofs.Lists.{changed_at, here_at}
use Rattle.srcp_driver.proofs.Rows.{HasRow, heard_row, ordered_row, self_row}
use Rattle.srcp_driver.proofs.Same.{both}
use Rattle.srcp_driver.proofs.Waits.{Of}

-- it is commanded to do what its row says, or nothing
abbrev IsOf : Drive → Option Drive → Type 0
IsOf row command = (command ≡ None) ⊎ (command ≡ Some row)

record IsNewest (row : Drive) (cab : Cab) : Type 0 where
  pub says : HasRow row cab
  pub command : IsOf row cab.command

not_own : (drive : Drive) (asked : Option Drive) (moving : Bool) → drives drive ≡ moving → moving ≡ false
    → is_own asked drive ≡ true → ⊥
not_own drive asked true is denied own = absurd (cc)
not_own drive asked false is denied own = let two = both (drives drive) (is_value asked drive) own in let e = two.left in absurd (cc)

no_of : (moving rest : Bool) → moving ≡ false → (moving && rest) ≡ true → ⊥
no_of true rest denied e = absurd (cc)
no_of false rest denied e = absurd (cc)

first_of : (row : Drive) (b denied : Bool) → (denied ≡ true → ⊥) → IsOf row (if denied then None else Some row)
first_of row b true never = absurd (never refl)
first_of row b false never = inr refl

row_of : (row : Drive) (own denied : Bool) (cab : Cab) → (own ≡ true → ⊥) → (denied ≡ true → ⊥)
    → IsOf row (if own then with_answer row cab else with_command row denied cab).command
row_of row true denied cab not-own never = absurd (not-own refl)
row_of row false denied cab not-own never = first_of row false denied never

first_command : (row : Drive) (old : Bool) (m n : ℕ) (cab : Cab) → n ≡ m → drives row ≡ false
    → IsOf row (changed_at m (with_row row old) n cab).command
first_command row old m n cab same rests =
    subst (λ (cab : Cab). IsOf row cab.command) (sym (here_at m n (with_row row old) cab same))
    (row_of row (is_own cab.asked row) (is_no_command row old cab) cab
    (λ own. not_own row cab.asked (drives row) refl rests own)
    (λ denied. no_of (drives row) (old || is_kept row cab) rests denied))

other_command : (row : Drive) (b : Bool) (x y : Cab) → b ≡ false → IsOf row y.command → IsOf row (if b then x else y).command
other_command row true x y denied e = absurd (cc)
other_command row false x y denied e = e

said_command : (row : Drive) (here b : Bool) (x y : Cab) → b ≡ false → IsOf row y.command
    → IsOf row (if here then (if b then x else y) else y).command
said_command row true b x y denied e = other_command row b x y denied e
said_command row false b x y denied e = e

heard_command : (row : Drive) (t : Table) (event : Event) (n : ℕ) (cab : Cab) → may_change n event ≡ false
    → IsOf row cab.command → IsOf row (cab_heard t event n cab).command
heard_command row t (event.Row m drive listed) n cab denied e =
    other_command row (n == m) (with_row drive (listed || not t.is_here) cab) cab denied e
heard_command row t (event.Power on listed) n cab denied e = e
heard_command row t event.Greeted n cab denied e = inl refl
heard_command row t event.Gone n cab denied e = inl refl
heard_command row t event.Lost n cab denied e = inl refl
heard_command row t event.StopAll n cab denied e = inl refl
heard_command row t (event.Said m drive) n cab denied e = said_command row t.is_here (n == m) (reported drive cab) cab denied e
heard_command row t (event.SaidPower on) n cab denied e =
    power_keeps (IsOf row) (IsOf row) t.is_here (is_cut on t.power) cab (λ x p. p) (inl refl) e
heard_command row t (event.Moment now) n cab denied e = aged_keeps (IsOf row) now cab e
heard_command row t (event.Reply true) n cab denied e = e
heard_command row t (event.Reply false) n cab denied e =
    refused_keeps (IsOf row) (IsOf row) t.waiting n cab (λ x p. p) (inl refl) e
heard_command row t event.Joined n cab denied e = e
heard_command row t event.Ready n cab denied e = e

row_no : (n : ℕ) (event : Event) → may_change n event ≡ false → is_row n event ≡ false
row_no n (event.Row m drive listed) e = e
row_no n (event.Power on listed) e = refl
row_no n event.Greeted e = refl
row_no n event.Gone e = refl
row_no n event.Lost e = refl
row_no n event.StopAll e = refl
row_no n (event.Said m drive) e = refl
row_no n (event.SaidPower on) e = refl
row_no n (event.Moment now) e = refl
row_no n (event.Reply accepted) e = refl
row_no n event.Joined e = refl
row_no n event.Ready e = refl

event_newest : (row : Drive) (n : ℕ) (t : Table) (event : Event) → may_change n event ≡ false → Each (Of n (IsNewest row)) t.cabs
    → Each (Of n (IsNewest row)) (happens t event).cabs
event_newest row n t event denied all = each_heard (Of n (IsNewest row)) (Of n (IsNewest row)) t event
    (λ m cab is p same.
    let here : may_change m event ≡ false = ap (λ (k : ℕ). may_change k event) same ∙ denied in
    let e : IsNewest row cab = p same in
    record {
      says = heard_row row t event m cab (row_no m event here) e.says;
      command = heard_command row t event m cab here e.command;
    }) all

after_newest : (row : Drive) (n : ℕ) (t : Table) (event : Event) → Each (Of n (IsNewest row)) (happens t event).cabs
    → Each (Of n (IsNewest row)) (after t event).cabs
after_newest row n t event all =
    let told : Each (Of n (IsNewest row)) (tells (happens t event)).cabs =
    each_ordered (Of n (IsNewest row)) (Of n (IsNewest row)) (happens t event) (next (happens t event))
    (λ m cab is p same.
    let e : IsNewest row cab = p same in
    record {
      says = ordered_row row (happens t event) (next (happens t event)) m cab e.says;
      command = ordered_keeps (IsOf row) (happens t event) (next (happens t event)) m cab e.command;
    }) all in
    each_put_keeps (Of n (IsNewest row)) (tells (happens t event)) (next_put (tells (happens t event)))
    (λ m drive cab p same. let e : IsNewest row cab = p same in record { says = e.says; command = e.command })
    (λ m is_silent cab p same. let e : IsNewest row cab = p same in record { says = e.says; command = e.command }) told

newest_since : (made : Made) (before since : List Event) (n : ℕ) (row : Drive) (listed : Bool) → drives row ≡ false
    → AreNo (may_change n) since → Each (Of n (IsNewest row)) (course made (since ++ event.Row n row listed ∷ before)).cabs
newest_since made before [] n row listed rests denied = after_newest row n (course made before) (event.Row n row listed)
    (each_heard (λ m cab. Unit {0}) (Of n (IsNewest row)) (course made before) (event.Row n row listed)
    (λ m cab is p same. record {
      says = self_row row (listed || not (course made before).is_here) n m cab same;
      command = first_command row (listed || not (course made before).is_here) n m cab same rests;
    }) (λ m cab is. tt))
newest_since made before (newest ∷ since) n row listed rests denied =
    let t : Table = course made (since ++ event.Row n row listed ∷ before) in
    after_newest row n t newest (event_newest row n t newest denied.0 (newest_since made before since n row listed rests denied.1))

rest_same : (drive : Drive) (moving : Bool) → moving ≡ false
    → (if moving then record drive { speed = speed.Stand } else drive) ≡ drive
rest_same drive true denied = absurd (cc)
rest_same drive false denied = refl

wanted_row : (row : Drive) (cab : Cab) (x : Option Drive) → drives row ≡ false → cab.row ≡ row → IsOf row x
    → option_map_or (λ drive. drive) x (rest cab.row) ≡ row
wanted_row row cab None rests is e = ap rest is ∙ rest_same row (drives row) rests
wanted_row row cab (Some x) rests is (inl none) = absurd (cc)
wanted_row row cab (Some x) rests is (inr same) = cc

pub newest_is_told : NewestIsTold
newest_is_told made before since newest n row drive listed lt rests denied e =
    let t : Table = course made (since ++ event.Row n row listed ∷ before) in
    let one = order_for (happens t newest) n drive e in
    let holds : IsNewest row one.cab = event_newest row n t newest denied.0
    (newest_since made before since n row listed rests denied.1) n one.cab one.is refl in
    one.so ∙ wanted_row row one.cab one.cab.command rests holds.says holds.command
