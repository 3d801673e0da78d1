-- The table agrees with what events and orders alone say, but for its locomotives.
use Rattle.std.proofs.Common.{◌&&◌, ◌+◌, ◌<◌, ◌==◌, ap, arith, Bool, false, length, List, None, not, Option, refl, Some, suc, sym, true}
use Rattle.std.proofs.Common.{zero, ℕ, ◌∙◌, ◌∷◌, ◌≡◌}
use Rattle.std.specs.Option.{option_map_or}
use Rattle.std.specs.Prelude.{if◌then◌else◌, is_some, ◌||◌}
use Rattle.srcp_driver.specs.Cabs.{confirms, has_passed, is_silent, reported, told}
use Rattle.srcp_driver.specs.Drives.{is_same_way}
use Rattle.srcp_driver.specs.Powers.{is_cut, power_aged, power_heard}
use Rattle.srcp_driver.specs.Runs.{asks_stop, counts, course, heard, is_here, is_moment, is_stop_all, Known, known, known_ordered, knows}
use Rattle.srcp_driver.specs.Runs.{Made, moment, on_at, owes_stop, told_since}
use Rattle.srcp_driver.specs.Steps.{at, next, noted, put_noted, put_refused, switched, Table}
use Rattle.srcp_driver.specs.declared.drive.Drive.{Drive}
use Rattle.srcp_driver.specs.declared.event.Event.{Event}
use Rattle.srcp_driver.specs.declared.event.Put.{Put}
use Rattle.srcp_driver.specs.declared.event.Tell.{Tell}
use Rattle.srcp_driver.specs.declared.power.Power.{Power}
use Rattle.srcp_driver.specs.declared.event.Event.TheVariants as event
use Rattle.srcp_driver.specs.declared.event.Put.TheVariants as put
use Rattle.srcp_driver.specs.declared.event.Tell.TheVariants as tell
use Rattle.srcp_driver.proofs.Chosen.{cab_room, on_room}
use Rattle.srcp_driver.proofs.Each.{heard_length, ordered_length, power_length, put_length, refused_length, said_length}
use Rattle.srcp_driver.proofs.Same.{pick}

-- what events and orders say: of each locomotive; whether the station is there, and is still to be told that all stop;
-- the last moment, that of the power, and how many orders were told since
pub record Facts : Type 0 where
  pub known : ℕ → Known
  pub here : Bool
  pub stops : Bool
  pub now : ℕ
  pub on_at : ℕ
  pub told : ℕ

abbrev pub facts : Made → List Event → Facts
facts made past = record {
  known = λ n. known made n past;
  here = is_here past;
  stops = owes_stop made past;
  now = moment past;
  on_at = on_at past;
  told = told_since made past;
}

-- as one event more came, before the orders that follow it
abbrev pub facts_heard : Made → List Event → Event → Facts
facts_heard made past event = record {
  known = λ n. knows made n past event;
  here = is_here (event ∷ past);
  stops = asks_stop event || owes_stop made past;
  now = moment (event ∷ past);
  on_at = on_at (event ∷ past);
  told = if is_moment event then 0 else told_since made past;
}

-- all but the locomotives
pub record Plain (made : Made) (f : Facts) (t : Table) : Type 0 where
  pub here : f.here ≡ t.is_here
  pub stops : f.stops ≡ t.stops_all
  pub now : f.now ≡ t.clock
  pub on_at : f.on_at ≡ t.power.on_at
  pub pace : t.pace ≡ made.pace
  pub told : f.told + t.left ≡ made.pace
  pub long : length t.cabs ≡ made.count

-- ---- events

plain_like : (made : Made) (f g : Facts) (t u : Table) → Plain made f t → g.here ≡ f.here → g.stops ≡ f.stops → g.now ≡ f.now
    → g.on_at ≡ f.on_at → g.told ≡ f.told → u.is_here ≡ t.is_here → u.stops_all ≡ t.stops_all → u.clock ≡ t.clock
    → u.power.on_at ≡ t.power.on_at → u.pace ≡ t.pace → u.left ≡ t.left → length u.cabs ≡ length t.cabs → Plain made g u
plain_like made f g t u plain here stops now on told here' stops' now' on' pace' left' long' = record {
  here = here ∙ plain.here ∙ sym here';
  stops = stops ∙ plain.stops ∙ sym stops';
  now = now ∙ plain.now ∙ sym now';
  on_at = on ∙ plain.on_at ∙ sym on';
  pace = pace' ∙ plain.pace;
  told = omega (arith, plain.told, told, left');
  long = long' ∙ plain.long;
}

-- an event that changes none of these
calm : (made : Made) (past : List Event) (event : Event) (u : Table) → Plain made (facts made past) (course made past)
    → is_here (event ∷ past) ≡ is_here past → asks_stop event ≡ false → moment (event ∷ past) ≡ moment past
    → on_at (event ∷ past) ≡ on_at past → is_moment event ≡ false → u.is_here ≡ (course made past).is_here
    → u.stops_all ≡ (course made past).stops_all → u.clock ≡ (course made past).clock
    → u.power.on_at ≡ (course made past).power.on_at → u.pace ≡ (course made past).pace
    → u.left ≡ (course made past).left → length u.cabs ≡ length (course made past).cabs
    → Plain made (facts_heard made past event) u
calm made past event u plain here stops now on told here' stops' now' on' pace' left' long' =
    plain_like made (facts made past) (facts_heard made past event) (course made past) u plain here
    (ap (λ (b : Bool). b || owes_stop made past) stops) now on
    (ap (λ (b : Bool). if b then 0 else told_since made past) told) here' stops' now' on' pace' left' long'

-- the power was switched on at this moment
abbrev WasOn : ℕ → Power → Type 0
WasOn at p = p.on_at ≡ at

reported_of : (on : Bool) (p : Power) (x y : Option Bool)
    → (option_map_or (λ told. if is_same_way told on then record p { awaited = None; is_late = false } else p) x
    (option_map_or (λ told. record p { is_on = if is_same_way told on then p.is_on else on; told = Some on }) y p)).on_at ≡ p.on_at
reported_of on p (Some a) y = pick (WasOn p.on_at) (is_same_way a on) (record p { awaited = None; is_late = false }) p refl refl
reported_of on p None (Some a) = refl
reported_of on p None None = refl

aged_on_at : (now : ℕ) (p : Power) → (power_aged now p).on_at ≡ p.on_at
aged_on_at now p = pick (WasOn p.on_at) (is_some p.awaited && has_passed confirms p.told_at now)
    (record p { told = None; is_late = true }) p refl refl

said_plain : (made : Made) (past : List Event) (m : ℕ) (drive : Drive) (here : Bool)
    → Plain made (facts made past) (course made past) → Plain made (facts_heard made past (event.Said m drive))
    (if here then record (course made past) { cabs = at (course made past).cabs m (reported drive) } else course made past)
said_plain made past m drive true p = calm made past (event.Said m drive)
    (record (course made past) { cabs = at (course made past).cabs m (reported drive) }) p refl refl refl refl refl refl refl
    refl refl refl refl (said_length (course made past) m drive true)
said_plain made past m drive false p = calm made past (event.Said m drive) (course made past) p refl refl refl refl refl refl refl
    refl refl refl refl refl

power_plain : (made : Made) (past : List Event) (on here : Bool) → Plain made (facts made past) (course made past)
    → Plain made (facts_heard made past (event.SaidPower on))
    (if here then switched (course made past) on else course made past)
power_plain made past on true p = calm made past (event.SaidPower on) (switched (course made past) on) p refl refl refl refl
    refl refl refl refl
    (pick (WasOn (course made past).power.on_at) (is_cut on (course made past).power)
    (record (course made past).power { is_on = false; told = Some false; awaited = None; is_late = false })
    (power_heard on (course made past).power) refl
    (reported_of on (course made past).power (course made past).power.awaited (course made past).power.told))
    refl refl (power_length (course made past) on true (is_cut on (course made past).power))
power_plain made past on false p = calm made past (event.SaidPower on) (course made past) p refl refl refl refl refl refl refl
    refl refl refl refl refl

reply_plain : (made : Made) (past : List Event) (x : Option Put) → Plain made (facts made past) (course made past)
    → Plain made (facts_heard made past (event.Reply false)) (option_map_or (put_refused (course made past)) x (course made past))
reply_plain made past None p = calm made past (event.Reply false) (course made past) p refl refl refl refl refl refl refl
    refl refl refl refl refl
reply_plain made past (Some (put.Power on)) p = calm made past (event.Reply false) (record (course made past) { waiting = None }) p
    refl refl refl refl refl refl refl refl refl refl refl refl
reply_plain made past (Some (put.Silent m is_silent)) p = calm made past (event.Reply false)
    (record (course made past) { waiting = None }) p refl refl refl refl refl refl refl refl refl refl refl refl
reply_plain made past (Some (put.Cab m drive)) p = calm made past (event.Reply false)
    (put_refused (course made past) (put.Cab m drive)) p refl refl refl refl refl refl refl
    refl refl refl refl (refused_length (course made past) (Some (put.Cab m drive)))

pub heard_plain : (made : Made) (past : List Event) (event : Event) → Plain made (facts made past) (course made past)
    → Plain made (facts_heard made past event) (heard made past event)
heard_plain made past (event.Row m drive listed) p =
    calm made past (event.Row m drive listed) (heard made past (event.Row m drive listed)) p refl refl refl refl refl refl refl
    refl refl refl refl (heard_length (course made past) (event.Row m drive listed))
heard_plain made past (event.Power true listed) p = record {
  here = p.here;
  stops = p.stops;
  now = p.now;
  on_at = p.now;
  pace = p.pace;
  told = p.told;
  long = p.long;
}
heard_plain made past (event.Power false listed) p =
    calm made past (event.Power false listed) (heard made past (event.Power false listed)) p refl refl refl refl refl refl refl
    refl refl refl refl refl
heard_plain made past event.Greeted p = record {
  here = refl;
  stops = refl;
  now = p.now;
  on_at = p.on_at;
  pace = p.pace;
  told = p.told;
  long = heard_length (course made past) event.Greeted ∙ p.long;
}
heard_plain made past event.Gone p = record {
  here = refl;
  stops = p.stops;
  now = p.now;
  on_at = p.on_at;
  pace = p.pace;
  told = p.told;
  long = heard_length (course made past) event.Gone ∙ p.long;
}
heard_plain made past event.Lost p = calm made past event.Lost (heard made past event.Lost) p refl refl refl refl refl refl refl
    refl refl refl refl (heard_length (course made past) event.Lost)
heard_plain made past event.StopAll p = record {
  here = p.here;
  stops = refl;
  now = p.now;
  on_at = p.on_at;
  pace = p.pace;
  told = p.told;
  long = heard_length (course made past) event.StopAll ∙ p.long;
}
heard_plain made past (event.Said m drive) p = said_plain made past m drive (course made past).is_here p
heard_plain made past (event.SaidPower on) p = power_plain made past on (course made past).is_here p
heard_plain made past (event.Moment at) p = record {
  here = p.here;
  stops = p.stops;
  now = refl;
  on_at = p.on_at ∙ sym (aged_on_at at (course made past).power);
  pace = p.pace;
  told = omega (arith, p.pace);
  long = heard_length (course made past) (event.Moment at) ∙ p.long;
}
heard_plain made past (event.Reply true) p =
    calm made past (event.Reply true) (heard made past (event.Reply true)) p refl refl refl refl refl refl refl
    refl refl refl refl refl
heard_plain made past (event.Reply false) p = reply_plain made past (course made past).waiting p
heard_plain made past event.Joined p = calm made past event.Joined (heard made past event.Joined) p refl refl refl refl refl
    refl refl refl refl refl refl (heard_length (course made past) event.Joined)
heard_plain made past event.Ready p = calm made past event.Ready (heard made past event.Ready) p refl refl refl refl refl refl
    refl refl refl refl refl refl

-- ---- orders

abbrev pub facts_ordered : Facts → Option Tell → Facts
facts_ordered f x = record {
  known = λ n. known_ordered n f.now x (f.known n);
  here = f.here;
  stops = f.stops && not (is_stop_all x);
  now = f.now;
  on_at = f.on_at;
  told = f.told + counts x;
}

and_yes : (b : Bool) → (b && true) ≡ b
and_yes true = refl
and_yes false = refl

and_no : (b : Bool) → (b && false) ≡ false
and_no true = refl
and_no false = refl

positive : (k : ℕ) → (k == 0) ≡ false → 0 < k
positive zero e = absurd (cc)
positive (suc k) e = omega arith

pub ordered_plain : (made : Made) (f : Facts) (t : Table) (x : Option Tell) → next t ≡ x → Plain made f t
    → Plain made (facts_ordered f x) (option_map_or (noted t) x t)
ordered_plain made f t None e p = record {
  here = p.here;
  stops = and_yes f.stops ∙ p.stops;
  now = p.now;
  on_at = p.on_at;
  pace = p.pace;
  told = omega (arith, p.told);
  long = p.long;
}
ordered_plain made f t (Some tell.StopAll) e p = record {
  here = p.here;
  stops = and_no f.stops;
  now = p.now;
  on_at = p.on_at;
  pace = p.pace;
  told = omega (arith, p.told);
  long = p.long;
}
ordered_plain made f t (Some (tell.Power true)) e p = record {
  here = p.here;
  stops = and_yes f.stops ∙ p.stops;
  now = p.now;
  on_at = p.on_at;
  pace = p.pace;
  told = omega (arith, p.told, positive t.left (on_room t e));
  long = p.long;
}
ordered_plain made f t (Some (tell.Power false)) e p = record {
  here = p.here;
  stops = and_yes f.stops ∙ p.stops;
  now = p.now;
  on_at = p.on_at;
  pace = p.pace;
  told = omega (arith, p.told);
  long = p.long;
}
ordered_plain made f t (Some (tell.Cab n drive)) e p = record {
  here = p.here;
  stops = and_yes f.stops ∙ p.stops;
  now = p.now;
  on_at = p.on_at;
  pace = p.pace;
  told = omega (arith, p.told, positive t.left (cab_room t n drive e));
  long = ordered_length t (Some (tell.Cab n drive)) ∙ p.long;
}

pub put_plain : (made : Made) (f : Facts) (t : Table) (x : Option Put) → Plain made f t
    → Plain made f (option_map_or (put_noted t) x t)
put_plain made f t None p = p
put_plain made f t (Some (put.Power on)) p =
    plain_like made f f t (put_noted t (put.Power on)) p refl refl refl refl refl refl refl refl refl refl refl refl
put_plain made f t (Some (put.Cab n drive)) p =
    plain_like made f f t (put_noted t (put.Cab n drive)) p refl refl refl refl refl refl refl refl refl refl refl
    (put_length t (Some (put.Cab n drive)))
put_plain made f t (Some (put.Silent n is_silent)) p =
    plain_like made f f t (put_noted t (put.Silent n is_silent)) p refl refl refl refl refl refl refl refl refl refl refl
    (put_length t (Some (put.Silent n is_silent)))
