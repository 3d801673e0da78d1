-- A sensor that the table has as free was last told to be 0, and one that it has as occupied was told to be 1.
use Rattle.std.proofs.Common.{◌≡◌, ◌⊎◌, inl, inr, ◌++◌, ◌==◌, ℕ, Bool, true, false, ◌&&◌, Option, Some, None, List, [], ◌∷◌}
use Rattle.std.proofs.Common.{◌||◌, refl, sym, ◌∙◌, ap, subst}
use Rattle.std.proofs.lemmas.Bool.{and_from, and_parts, eq-eqb, eqb-true, or_cases, or_from, or_left, or_right}
use Rattle.std.proofs.lemmas.List.Folds.{list_any-append}
use Rattle.std.specs.Option.{option_map_or}
use Rattle.std.specs.List.{list_any}
use Rattle.std.specs.Prelude.{if◌then◌else◌, is_some, map, option_to_list}
use Rattle.srcp_routes.specs.Conflicts.{is_same, route_sensors, sensors_of, told_sensor, unknown}
use Rattle.srcp_routes.specs.Plan.{Table}
use Rattle.srcp_routes.specs.Runs.{sensed_heard}
use Rattle.srcp_routes.specs.Steps.{after, answered, due, heard, sent}
use Rattle.srcp_routes.specs.declared.conflict.Sensed.{Sensed}
use Rattle.srcp_routes.specs.declared.interlocking.Event.{Event}
use Rattle.srcp_routes.specs.declared.interlocking.Event.TheVariants.{Ask, Give, Told, Second, Reply, Lost}
use Rattle.srcp_routes.specs.declared.route.Device.{Device}
use Rattle.srcp_routes.specs.declared.route.Occupancy.{Occupancy}
use Rattle.srcp_routes.specs.declared.route.Occupancy.TheVariants as occupancy
use Rattle.srcp_routes.specs.declared.route.Route.{Route}
use Rattle.srcp_routes.proofs.Locks.{same_back}

-- the table has a sensor of which this is known
abbrev pub known_as : (Occupancy → Bool) → List Sensed → Device → Bool
known_as of sensors x = list_any (λ (known : Sensed). of known.occupancy && is_same known.sensor x) sensors

-- what is known of a sensor is so
abbrev pub IsKnownRightly : (Occupancy → Bool) → List Sensed → (Device → Bool) → Type 0
IsKnownRightly of sensors is = (x : Device) → known_as of sensors x ≡ true → is x ≡ true

pub same_through : (x y z : Device) → is_same x y ≡ true → is_same y z ≡ true → is_same x z ≡ true
same_through x y z h g =
    let one : ((x.bus == y.bus) ≡ true) × ((x.address == y.address) ≡ true) =
    and_parts (x.bus == y.bus) (x.address == y.address) h in
    let two : ((y.bus == z.bus) ≡ true) × ((y.address == z.address) ≡ true) =
    and_parts (y.bus == z.bus) (y.address == z.address) g in
    and_from (x.bus == z.bus) (x.address == z.address)
    (eq-eqb x.bus z.bus (eqb-true x.bus y.bus one.0 ∙ eqb-true y.bus z.bus two.0))
    (eq-eqb x.address z.address (eqb-true x.address y.address one.1 ∙ eqb-true y.address z.address two.1))

-- what is known of one sensor after a telling
told_one : (of : Occupancy → Bool) (known : Sensed) (sensor x : Device) (now : Occupancy) (here there : Bool)
    → is_same known.sensor sensor ≡ here → is_same x sensor ≡ there
    → (of (if here then record known { occupancy = now } else known).occupancy
    && is_same (if here then record known { occupancy = now } else known).sensor x) ≡ true
    → ((there ≡ true) × (of now ≡ true)) ⊎ ((there ≡ false) × ((of known.occupancy && is_same known.sensor x) ≡ true))
told_one of known sensor x now true true at is h = inl (refl, (and_parts (of now) (is_same known.sensor x) h).0)
told_one of known sensor x now true false at is h =
    let both : (of now ≡ true) × (is_same known.sensor x ≡ true) = and_parts (of now) (is_same known.sensor x) h in
    let same : is_same x sensor ≡ true = same_through x known.sensor sensor (same_back known.sensor x both.1) at in
    absurd (cc)
told_one of known sensor x now false true at is h =
    let both : (of known.occupancy ≡ true) × (is_same known.sensor x ≡ true) =
    and_parts (of known.occupancy) (is_same known.sensor x) h in
    let same : is_same known.sensor sensor ≡ true = same_through known.sensor x sensor both.1 is in
    absurd (cc)
told_one of known sensor x now false false at is h = inr (refl, h)

told_known : (of : Occupancy → Bool) (sensors : List Sensed) (sensor x : Device) (now : Occupancy) (there : Bool)
    → is_same x sensor ≡ there → known_as of (map (told_sensor sensor now) sensors) x ≡ true
    → ((there ≡ true) × (of now ≡ true)) ⊎ ((there ≡ false) × (known_as of sensors x ≡ true))
told_known of [] sensor x now there is h = absurd (cc)
told_known of (known ∷ sensors) sensor x now there is h =
    elim (or_cases (of (told_sensor sensor now known).occupancy && is_same (told_sensor sensor now known).sensor x)
    (known_as of (map (told_sensor sensor now) sensors) x) h) [
      | inl here ↦ elim (told_one of known sensor x now (is_same known.sensor sensor) there refl is here) [
        | inl p ↦ inl p
        | inr p ↦ inr (p.0, or_left (of known.occupancy && is_same known.sensor x) (known_as of sensors x) p.1)
      ]
      | inr later ↦ elim (told_known of sensors sensor x now there is later) [
        | inl p ↦ inl p
        | inr p ↦ inr (p.0, or_right (of known.occupancy && is_same known.sensor x) (known_as of sensors x) p.1)
      ]
    ]

if_told : (test : Bool) (x y : Bool) (P : Type 0) → ((test ≡ true) × (x ≡ true)) ⊎ ((test ≡ false) × P) → (P → y ≡ true)
    → (if test then x else y) ≡ true
if_told true x y P (inl p) so = p.1
if_told true x y P (inr p) so = absurd (cc)
if_told false x y P (inl p) so = absurd (cc)
if_told false x y P (inr p) so = so p.1

pub answer_sensors : (t : Table) (ok : Bool) (x : Option ℕ) → (option_map_or (answered t ok) x t).sensors ≡ t.sensors
answer_sensors t ok None = refl
answer_sensors t ok (Some n) = refl

as_before : (of : Occupancy → Bool) (sensors later : List Sensed) (is : Device → Bool) → later ≡ sensors
    → IsKnownRightly of sensors is → IsKnownRightly of later is
as_before of sensors later is e all = subst (λ (l : List Sensed). IsKnownRightly of l is) (sym e) all

pub heard_free : (of : Occupancy → Bool) (t : Table) (event : Event) (is : Device → Bool)
    → IsKnownRightly of t.sensors is → IsKnownRightly of (heard t event).sensors (sensed_heard of is event)
heard_free of t (Ask n) is all = all
heard_free of t (Give n) is all = all
heard_free of t (Told sensor now) is all = λ x h.
    if_told (is_same x sensor) (of now) (is x) (known_as of t.sensors x ≡ true)
    (told_known of t.sensors sensor x now (is_same x sensor) refl h) (all x)
heard_free of t (Reply ok) is all = as_before of t.sensors _ is (answer_sensors t ok t.waiting) all
heard_free of t Second is all = all
heard_free of t Lost is all = all

next_free : (of : Occupancy → Bool) (t : Table) (waits : Bool) (d : Option ℕ) (is : Device → Bool)
    → IsKnownRightly of t.sensors is
    → IsKnownRightly of (if waits then record { table = t; order = None } else sent t d).table.sensors is
next_free of t true d is all = all
next_free of t false None is all = all
next_free of t false (Some n) is all = all

pub after_free : (of : Occupancy → Bool) (t : Table) (event : Event) (is : Device → Bool) → IsKnownRightly of t.sensors is
    → IsKnownRightly of (after t event).sensors (sensed_heard of is event)
after_free of t event is all = next_free of (heard t event) (is_some (heard t event).waiting) (due (heard t event))
    (sensed_heard of is event) (heard_free of t event is all)

-- before any event nothing is known
none_known : (of : Occupancy → Bool) (xs ys : List Sensed) (x : Device) → known_as of xs x ≡ false
    → known_as of ys x ≡ false → known_as of (xs ++ ys) x ≡ false
none_known of xs ys x one two = list_any-append _ xs ys ∙ or_from (known_as of xs x) (known_as of ys x) one two

unknown_known : (of : Occupancy → Bool) (devices : List Device) (x : Device) → of occupancy.Unknown ≡ false
    → known_as of (map unknown devices) x ≡ false
unknown_known of [] x none = refl
unknown_known of (device ∷ devices) x none =
    ap (λ (b : Bool). (b && is_same device x) || known_as of (map unknown devices) x) none
    ∙ unknown_known of devices x none

sensors_known : (of : Occupancy → Bool) (routes : List Route) (x : Device) → of occupancy.Unknown ≡ false
    → known_as of (sensors_of routes) x ≡ false
sensors_known of [] x none = refl
sensors_known of (route ∷ routes) x none = none_known of (route_sensors route) (sensors_of routes) x
    (unknown_known of (route.approach.items
    ++ (route.blocks.items ++ (option_to_list route.frees ++ route.sections.items))) x none)
    (sensors_known of routes x none)

pub start_free : (of : Occupancy → Bool) (routes : List Route) → of occupancy.Unknown ≡ false
    → IsKnownRightly of (sensors_of routes) (λ x. false)
start_free of routes none x h =
    let no : known_as of (sensors_of routes) x ≡ false = sensors_known of routes x none in absurd (cc)
