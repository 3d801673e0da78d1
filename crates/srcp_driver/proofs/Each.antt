-- What each event and each order makes of the locomotive at a place.
use Rattle.std.proofs.Common.{◌==◌, Bool, false, length, List, None, not, Option, refl, Some, subst, sym, true, ℕ, ◌≡◌}
use Rattle.std.proofs.lemmas.List.{length-map, length-set}
use Rattle.std.specs.Option.{option_map_or}
use Rattle.std.specs.Prelude.{if◌then◌else◌, map, slice_get, slice_set, ◌||◌}
use Rattle.srcp_driver.specs.Cabs.{aged, asked, forgotten, held, is_silent, joined, named, refused, reported, told, with_row}
use Rattle.srcp_driver.specs.Powers.{is_cut}
use Rattle.srcp_driver.specs.Steps.{at, happens, noted, put_noted, put_refused, switched, Table}
use Rattle.srcp_driver.specs.declared.cab.Cab.{Cab}
use Rattle.srcp_driver.specs.declared.drive.Drive.{Drive}
use Rattle.srcp_driver.specs.declared.event.Event.{Event}
use Rattle.srcp_driver.specs.declared.event.Put.{Put}
use Rattle.srcp_driver.specs.declared.event.Tell.{Tell}
use Rattle.srcp_driver.specs.declared.event.Event.TheVariants as event
use Rattle.srcp_driver.specs.declared.event.Put.TheVariants as put
use Rattle.srcp_driver.specs.declared.event.Tell.TheVariants as tell
use Rattle.srcp_driver.proofs.Lists.{Before, before_at, before_map, changed_at}

-- ---- what becomes of one locomotive

abbrev pub cab_refused : Put → ℕ → Cab → Cab
cab_refused (put.Cab m drive) n cab = changed_at m (refused drive) n cab
cab_refused other n cab = cab

abbrev pub cab_heard : Table → Event → ℕ → Cab → Cab
cab_heard t (event.Row m drive listed) n cab = changed_at m (with_row drive (listed || not t.is_here)) n cab
cab_heard t event.Greeted n cab = forgotten cab
cab_heard t event.Gone n cab = forgotten cab
cab_heard t event.Lost n cab = held cab
cab_heard t event.StopAll n cab = held cab
cab_heard t (event.Said m drive) n cab = if t.is_here then changed_at m (reported drive) n cab else cab
cab_heard t (event.SaidPower on) n cab = if t.is_here then (if is_cut on t.power then held cab else cab) else cab
cab_heard t (event.Moment now) n cab = aged now cab
cab_heard t (event.Reply false) n cab = option_map_or (λ order. cab_refused order n cab) t.waiting cab
cab_heard t event.Joined n cab = joined cab
cab_heard t other n cab = cab

abbrev pub cab_ordered : Table → Option Tell → ℕ → Cab → Cab
cab_ordered t (Some (tell.Cab m drive)) n cab = changed_at m (told drive t.clock) n cab
cab_ordered t other n cab = cab

abbrev pub cab_put : Option Put → ℕ → Cab → Cab
cab_put (Some (put.Cab m drive)) n cab = changed_at m (asked drive) n cab
cab_put (Some (put.Silent m is_silent)) n cab = changed_at m (named is_silent) n cab
cab_put other n cab = cab

-- ---- and so it was before

same : (cabs : List Cab) (n : ℕ) (now : Cab) → slice_get cabs n ≡ Some now → Before cabs n (λ cab. cab) now
same cabs n now e = record { cab = now; is = e; so = refl }

said_before : (t : Table) (m : ℕ) (drive : Drive) (here : Bool) (n : ℕ) (now : Cab)
    → slice_get (if here then record t { cabs = at t.cabs m (reported drive) } else t).cabs n ≡ Some now
    → Before t.cabs n (λ cab. if here then changed_at m (reported drive) n cab else cab) now
said_before t m drive true n now e = before_at t.cabs m n (reported drive) now e
said_before t m drive false n now e = same t.cabs n now e

power_before : (t : Table) (on here cut : Bool) (n : ℕ) (now : Cab) → is_cut on t.power ≡ cut
    → slice_get (if here then record (switched t on) { cabs = if cut then map held t.cabs else t.cabs } else t).cabs n ≡ Some now
    → Before t.cabs n (λ cab. if here then (if cut then held cab else cab) else cab) now
power_before t on true true n now is e = before_map held t.cabs n now e
power_before t on true false n now is e = same t.cabs n now e
power_before t on false cut n now is e = same t.cabs n now e

refused_before : (t : Table) (x : Option Put) (n : ℕ) (now : Cab)
    → slice_get (option_map_or (put_refused t) x t).cabs n ≡ Some now
    → Before t.cabs n (λ cab. option_map_or (λ order. cab_refused order n cab) x cab) now
refused_before t None n now e = same t.cabs n now e
refused_before t (Some (put.Power on)) n now e = same t.cabs n now e
refused_before t (Some (put.Silent m is_silent)) n now e = same t.cabs n now e
refused_before t (Some (put.Cab m drive)) n now e = before_at t.cabs m n (refused drive) now e

pub heard_before : (t : Table) (event : Event) (n : ℕ) (now : Cab) → slice_get (happens t event).cabs n ≡ Some now
    → Before t.cabs n (cab_heard t event n) now
heard_before t (event.Row m drive listed) n now e = before_at t.cabs m n (with_row drive (listed || not t.is_here)) now e
heard_before t (event.Power on listed) n now e = same t.cabs n now e
heard_before t event.Greeted n now e = before_map forgotten t.cabs n now e
heard_before t event.Gone n now e = before_map forgotten t.cabs n now e
heard_before t event.Lost n now e = before_map held t.cabs n now e
heard_before t event.StopAll n now e = before_map held t.cabs n now e
heard_before t (event.Said m drive) n now e = said_before t m drive t.is_here n now e
heard_before t (event.SaidPower on) n now e = power_before t on t.is_here (is_cut on t.power) n now refl e
heard_before t (event.Moment at) n now e = before_map (aged at) t.cabs n now e
heard_before t (event.Reply true) n now e = same t.cabs n now e
heard_before t (event.Reply false) n now e = refused_before t t.waiting n now e
heard_before t event.Joined n now e = before_map joined t.cabs n now e
heard_before t event.Ready n now e = same t.cabs n now e

ordered_before : (t : Table) (x : Option Tell) (n : ℕ) (now : Cab)
    → slice_get (option_map_or (noted t) x t).cabs n ≡ Some now → Before t.cabs n (cab_ordered t x n) now
ordered_before t None n now e = same t.cabs n now e
ordered_before t (Some tell.StopAll) n now e = same t.cabs n now e
ordered_before t (Some (tell.Power on)) n now e = same t.cabs n now e
ordered_before t (Some (tell.Cab m drive)) n now e = before_at t.cabs m n (told drive t.clock) now e

put_before : (t : Table) (x : Option Put) (n : ℕ) (now : Cab)
    → slice_get (option_map_or (put_noted t) x t).cabs n ≡ Some now → Before t.cabs n (cab_put x n) now
put_before t None n now e = same t.cabs n now e
put_before t (Some (put.Power on)) n now e = same t.cabs n now e
put_before t (Some (put.Cab m drive)) n now e = before_at t.cabs m n (asked drive) now e
put_before t (Some (put.Silent m is_silent)) n now e = before_at t.cabs m n (named is_silent) now e

-- ---- what holds of each locomotive

abbrev pub Each : (ℕ → Cab → Type 0) → List Cab → Type 0
Each P cabs = (n : ℕ) (cab : Cab) → slice_get cabs n ≡ Some cab → P n cab

-- a change makes Q of what was P
abbrev pub Makes : (P Q : ℕ → Cab → Type 0) → List Cab → (ℕ → Cab → Cab) → Type 0
Makes P Q cabs change = (n : ℕ) (cab : Cab) → slice_get cabs n ≡ Some cab → P n cab → Q n (change n cab)

pub each_heard : (P Q : ℕ → Cab → Type 0) (t : Table) (event : Event) → Makes P Q t.cabs (cab_heard t event)
    → Each P t.cabs → Each Q (happens t event).cabs
each_heard P Q t event keeps all n now e =
    let was = heard_before t event n now e in
    subst (Q n) (sym was.so) (keeps n was.cab was.is (all n was.cab was.is))

pub each_ordered : (P Q : ℕ → Cab → Type 0) (t : Table) (x : Option Tell) → Makes P Q t.cabs (cab_ordered t x)
    → Each P t.cabs → Each Q (option_map_or (noted t) x t).cabs
each_ordered P Q t x keeps all n now e =
    let was = ordered_before t x n now e in
    subst (Q n) (sym was.so) (keeps n was.cab was.is (all n was.cab was.is))

pub each_put : (P Q : ℕ → Cab → Type 0) (t : Table) (x : Option Put) → Makes P Q t.cabs (cab_put x)
    → Each P t.cabs → Each Q (option_map_or (put_noted t) x t).cabs
each_put P Q t x keeps all n now e =
    let was = put_before t x n now e in
    subst (Q n) (sym was.so) (keeps n was.cab was.is (all n was.cab was.is))

here_keeps : (P : ℕ → Cab → Type 0) (b : Bool) (n : ℕ) (change : Cab → Cab) (cab : Cab) → (P n cab → P n (change cab))
    → P n cab → P n (if b then change cab else cab)
here_keeps P true n change cab keeps p = keeps p
here_keeps P false n change cab keeps p = p

-- what an order to the registry leaves as it is: all but what was asked and what is named
put_keeps : (P : ℕ → Cab → Type 0) (cabs : List Cab) (x : Option Put)
    → ((n : ℕ) (drive : Drive) (cab : Cab) → P n cab → P n (asked drive cab))
    → ((n : ℕ) (is_silent : Bool) (cab : Cab) → P n cab → P n (named is_silent cab)) → Makes P P cabs (cab_put x)
put_keeps P cabs None asks names n cab is p = p
put_keeps P cabs (Some (put.Power on)) asks names n cab is p = p
put_keeps P cabs (Some (put.Cab m drive)) asks names n cab is p =
    here_keeps P (n == m) n (asked drive) cab (asks n drive cab) p
put_keeps P cabs (Some (put.Silent m is_silent)) asks names n cab is p =
    here_keeps P (n == m) n (named is_silent) cab (names n is_silent cab) p

pub each_put_keeps : (P : ℕ → Cab → Type 0) (t : Table) (x : Option Put)
    → ((n : ℕ) (drive : Drive) (cab : Cab) → P n cab → P n (asked drive cab))
    → ((n : ℕ) (is_silent : Bool) (cab : Cab) → P n cab → P n (named is_silent cab))
    → Each P t.cabs → Each P (option_map_or (put_noted t) x t).cabs
each_put_keeps P t x asks names all = each_put P P t x (put_keeps P t.cabs x asks names) all

-- ---- how many there are

at_length_of : (cabs : List Cab) (m : ℕ) (change : Cab → Cab) (x : Option Cab)
    → length (option_map_or (λ cab. slice_set cabs m (change cab)) x cabs) ≡ length cabs
at_length_of cabs m change None = refl
at_length_of cabs m change (Some cab) = length-set cabs m (change cab)

at_length : (cabs : List Cab) (m : ℕ) (change : Cab → Cab) → length (at cabs m change) ≡ length cabs
at_length cabs m change = at_length_of cabs m change (slice_get cabs m)

pub said_length : (t : Table) (m : ℕ) (drive : Drive) (here : Bool)
    → length (if here then record t { cabs = at t.cabs m (reported drive) } else t).cabs ≡ length t.cabs
said_length t m drive true = at_length t.cabs m (reported drive)
said_length t m drive false = refl

pub power_length : (t : Table) (on here cut : Bool)
    → length (if here then record (switched t on) { cabs = if cut then map held t.cabs else t.cabs } else t).cabs ≡ length t.cabs
power_length t on true true = length-map t.cabs held
power_length t on true false = refl
power_length t on false cut = refl

pub refused_length : (t : Table) (x : Option Put) → length (option_map_or (put_refused t) x t).cabs ≡ length t.cabs
refused_length t None = refl
refused_length t (Some (put.Power on)) = refl
refused_length t (Some (put.Silent m is_silent)) = refl
refused_length t (Some (put.Cab m drive)) = at_length t.cabs m (refused drive)

pub heard_length : (t : Table) (event : Event) → length (happens t event).cabs ≡ length t.cabs
heard_length t (event.Row m drive listed) = at_length t.cabs m (with_row drive (listed || not t.is_here))
heard_length t (event.Power on listed) = refl
heard_length t event.Greeted = length-map t.cabs forgotten
heard_length t event.Gone = length-map t.cabs forgotten
heard_length t event.Lost = length-map t.cabs held
heard_length t event.StopAll = length-map t.cabs held
heard_length t (event.Said m drive) = said_length t m drive t.is_here
heard_length t (event.SaidPower on) = power_length t on t.is_here (is_cut on t.power)
heard_length t (event.Moment at) = length-map t.cabs (aged at)
heard_length t (event.Reply true) = refl
heard_length t (event.Reply false) = refused_length t t.waiting
heard_length t event.Joined = length-map t.cabs joined
heard_length t event.Ready = refl

pub ordered_length : (t : Table) (x : Option Tell) → length (option_map_or (noted t) x t).cabs ≡ length t.cabs
ordered_length t None = refl
ordered_length t (Some tell.StopAll) = refl
ordered_length t (Some (tell.Power on)) = refl
ordered_length t (Some (tell.Cab m drive)) = at_length t.cabs m (told drive t.clock)

pub put_length : (t : Table) (x : Option Put) → length (option_map_or (put_noted t) x t).cabs ≡ length t.cabs
put_length t None = refl
put_length t (Some (put.Power on)) = refl
put_length t (Some (put.Cab m drive)) = at_length t.cabs m (asked drive)
put_length t (Some (put.Silent m is_silent)) = at_length t.cabs m (named is_silent)
