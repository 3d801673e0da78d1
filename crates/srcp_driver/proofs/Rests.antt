-- A row that rests counts, until another row or another report.
use Rattle.std.proofs.Common.{◌&&◌, ◌==◌, ap, Bool, false, inl, inr, List, None, not, Option, refl, Some, true}
use Rattle.std.proofs.Common.{ℕ, ◌∙◌, ◌≡◌, ◌⊎◌}
use Rattle.std.specs.Option.{option_map_or}
use Rattle.std.specs.Prelude.{if◌then◌else◌, is_some, ◌||◌}
use Rattle.srcp_driver.specs.Cabs.{has_passed, confirms}
use Rattle.srcp_driver.specs.CommandLaws.{may_differ, RestsCount}
use Rattle.srcp_driver.specs.Drives.{drives, is_same, is_value, rest}
use Rattle.srcp_driver.specs.Noted.{is_answer, is_cut_off, is_denied, Noted, noted_answer, noted_by, noted_command, noted_heard, noted_lost}
use Rattle.srcp_driver.specs.Noted.{noted_refused, noted_row, unreplied}
use Rattle.srcp_driver.specs.Runs.{is_here, known, Made}
use Rattle.srcp_driver.specs.declared.drive.Drive.{Drive}
use Rattle.srcp_driver.specs.declared.event.Event.{Event}
use Rattle.srcp_driver.specs.declared.event.Put.{Put}
use Rattle.srcp_driver.specs.declared.event.Event.TheVariants as event
use Rattle.srcp_driver.specs.declared.event.Put.TheVariants as put
use Rattle.srcp_driver.specs.declared.drive.Speed.TheVariants as speed
use Rattle.srcp_driver.proofs.Counts.{counts, row_does, said_keeps, self, Stays}
use Rattle.srcp_driver.proofs.Same.{pick, pick_else}

-- its row says this, and it is commanded to do this, or nothing
record Rests (drive : Drive) (noted : Noted) : Type 0 where
  pub row : noted.row ≡ drive
  pub command : (noted.command ≡ None) ⊎ (noted.command ≡ Some drive)

rests_stay : (drive : Drive) → Stays (Rests drive)
rests_stay drive = record {
  told = λ noted d e. record { row = e.row; command = e.command };
  asked = λ noted d e. record { row = e.row; command = e.command };
  named = λ noted b e. record { row = e.row; command = e.command };
}

rest_same : (drive : Drive) (moving : Bool) → moving ≡ false
    → (if moving then record drive { speed = speed.Stand } else drive) ≡ drive
rest_same drive true denied = absurd (cc)
rest_same drive false denied = refl

rests_to_do : (drive : Drive) (noted : Noted) (x : Option Drive) → drives drive ≡ false → noted.row ≡ drive
    → (x ≡ None) ⊎ (x ≡ Some drive) → option_map_or (λ drive. drive) x (rest noted.row) ≡ drive
rests_to_do drive noted None still is e = ap rest is ∙ rest_same drive (drives drive) still
rests_to_do drive noted (Some x) still is (inl none) = absurd (cc)
rests_to_do drive noted (Some x) still is (inr same) = cc

rests_lost : (drive : Drive) (noted : Noted) → Rests drive noted → Rests drive (noted_lost noted)
rests_lost drive noted e = record { row = e.row; command = inl refl }

none_rests : (b : Bool) (x : Option Drive) (drive : Drive) → (x ≡ None) ⊎ (x ≡ Some drive)
    → ((if b then None else x) ≡ None) ⊎ ((if b then None else x) ≡ Some drive)
none_rests true x drive e = inl refl
none_rests false x drive e = e

refused_rests : (drive : Drive) (n : ℕ) (x : Option Put) (noted : Noted) → Rests drive noted → Rests drive (noted_refused n x noted)
refused_rests drive n None noted e = e
refused_rests drive n (Some (put.Power on)) noted e = e
refused_rests drive n (Some (put.Silent m is_silent)) noted e = e
refused_rests drive n (Some (put.Cab m other)) noted e = pick (Rests drive) (n == m)
    (record noted { command = if is_value noted.command other then None else noted.command; asked = None; is_refused = true }) noted
    (record { row = e.row; command = none_rests (is_value noted.command other) noted.command drive e.command }) e

rests_heard : (made : Made) (n : ℕ) (drive : Drive) (past : List Event) (event : Event) (noted : Noted)
    → may_differ n drive event ≡ false → Rests drive noted → Rests drive (noted_heard made n past event noted)
rests_heard made n drive past (event.Row m other listed) noted denied e =
    pick_else (Rests drive) (n == m) (noted_row other (listed || not (is_here past)) noted) noted denied e
rests_heard made n drive past (event.Power on listed) noted denied e = e
rests_heard made n drive past event.Greeted noted denied e = rests_lost drive noted e
rests_heard made n drive past event.Gone noted denied e = rests_lost drive noted e
rests_heard made n drive past event.Lost noted denied e = rests_lost drive noted e
rests_heard made n drive past event.StopAll noted denied e = rests_lost drive noted e
rests_heard made n drive past (event.Said m other) noted denied e =
    said_keeps (Rests drive) drive other (known made n past) (is_here past) (n == m) noted denied
    (record { row = e.row; command = inr refl }) e
rests_heard made n drive past (event.SaidPower on) noted denied e = pick (Rests drive)
    (is_cut_off made past (event.SaidPower on)) (noted_lost noted) noted (rests_lost drive noted e) e
rests_heard made n drive past (event.Moment now) noted denied e = pick (Rests drive)
    (is_some (known made n past).awaited && has_passed confirms (known made n past).told_at now) (record noted { told = None }) noted
    (record { row = e.row; command = e.command }) e
rests_heard made n drive past (event.Reply true) noted denied e = e
rests_heard made n drive past (event.Reply false) noted denied e = refused_rests drive n (unreplied made past) noted e
rests_heard made n drive past event.Joined noted denied e = record { row = e.row; command = e.command }
rests_heard made n drive past event.Ready noted denied e = e

-- a row that rests is no answer, and is not denied
still_answer : (moving same : Bool) → moving ≡ false → (moving && same) ≡ false
still_answer true same e = absurd (cc)
still_answer false same e = refl

row_says : (drive : Drive) (answer denied : Bool) (noted : Noted)
    → (if answer then noted_answer drive noted else noted_command drive denied noted).row ≡ drive
row_says drive true denied noted = refl
row_says drive false denied noted = refl

pub rests_count : RestsCount
rests_count made before n drive listed lt still =
    let noted : Noted = noted_by made n before in
    let old : Bool = listed || not (is_here before) in
    counts (Rests drive) (may_differ n drive) made n drive lt (rests_stay drive) (rests_heard made n drive)
    (λ noted e. rests_to_do drive noted noted.command still e.row e.command) before (event.Row n drive listed)
    (self (Rests drive) n (noted_row drive old noted) noted (record {
      row = row_says drive (is_answer drive noted) (is_denied drive old noted) noted;
      command = inr (row_does drive old noted (still_answer (drives drive) (is_value noted.asked drive) still)
          (still_answer (drives drive) (old || (noted.is_held && (not noted.is_refused || is_same noted.row drive))) still));
    }))
