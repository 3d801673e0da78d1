-- The table knows of each sensor that frees a route, and of each section, whether it was told to be 1 last, and of each
-- sensor of an approach whether it was told to be 0 last.
use Rattle.std.proofs.Common.{◌≡◌, inl, inr, ◌++◌, ℕ, zero, suc, Bool, true, false, ◌&&◌, ◌||◌}
use Rattle.std.proofs.Common.{Option, Some, None, List, [], ◌∷◌, refl, sym, ◌∙◌, ap, subst}
use Rattle.std.proofs.lemmas.Bool.{and_from, and_parts, or_cases, or_left, or_right}
use Rattle.std.proofs.lemmas.List.Folds.{list_any-append}
use Rattle.std.specs.List.{list_any}
use Rattle.std.specs.Option.{option_map_or}
use Rattle.std.specs.Prelude.{if◌then◌else◌, is_some, map, option_and_then, option_to_list, slice_get}
use Rattle.srcp_routes.specs.Conflicts.{is_same, is_taken, is_vacant, route_sensors, sensors_of, told_sensor, unknown}
use Rattle.srcp_routes.specs.Plan.{Table}
use Rattle.srcp_routes.specs.Runs.{is_freed_by, sensed_heard}
use Rattle.srcp_routes.specs.Steps.{after, answered, due, heard, sent}
use Rattle.srcp_routes.specs.declared.conflict.Sensed.{Sensed}
use Rattle.srcp_routes.specs.declared.interlocking.Event.{Event}
use Rattle.srcp_routes.specs.declared.interlocking.Event.TheVariants.{Ask, Give, Told, Second, Reply, Lost}
use Rattle.srcp_routes.specs.declared.route.Device.{Device}
use Rattle.srcp_routes.specs.declared.route.Occupancy.{Occupancy}
use Rattle.srcp_routes.specs.declared.route.Route.{Route}
use Rattle.srcp_routes.proofs.Free.{answer_sensors, known_as, same_through}
use Rattle.srcp_routes.proofs.Locks.{same_back}

-- the table has this sensor
abbrev lists : List Sensed → Device → Bool
lists sensors x = list_any (λ (known : Sensed). is_same known.sensor x) sensors

-- a sensor is a section of a route
abbrev pub is_section_of : List Route → ℕ → Device → Bool
is_section_of routes n x = option_map_or
    (λ (route : Route). list_any (λ section. is_same section x) route.sections.items) (slice_get routes n) false

-- a sensor frees a route, or is a section of it
abbrev pub is_watched : List Route → ℕ → Device → Bool
is_watched routes n x = is_freed_by routes n x || is_section_of routes n x

-- a sensor is of the approach of a route
abbrev pub is_near : List Route → ℕ → Device → Bool
is_near routes n x = option_map_or
    (λ (route : Route). list_any (λ sensor. is_same sensor x) route.approach.items) (slice_get routes n) false

-- a sensor is in the table, and this is known of it there if it is so
pub record Knows (of : Occupancy → Bool) (sensors : List Sensed) (so : Device → Bool) (x : Device) : Type 0 where
  pub listed : lists sensors x ≡ true
  pub known : so x ≡ true → known_as of sensors x ≡ true

abbrev pub AllKnownOf : (List Route → ℕ → Device → Bool) → (Occupancy → Bool) → List Route → List Sensed → (Device → Bool) → Type 0
AllKnownOf watched of routes sensors so = (n : ℕ) (x : Device) → watched routes n x ≡ true → Knows of sensors so x

abbrev pub AllKnown : List Route → List Sensed → (Device → Bool) → Type 0
AllKnown routes sensors occupied = AllKnownOf is_watched is_taken routes sensors occupied

abbrev pub AllNear : List Route → List Sensed → (Device → Bool) → Type 0
AllNear routes sensors free = AllKnownOf is_near is_vacant routes sensors free

-- ---- once a sensor is told

told_same : (known : Sensed) (now : Occupancy) (here : Bool)
    → (if here then record known { occupancy = now } else known).sensor ≡ known.sensor
told_same known now true = refl
told_same known now false = refl

told_lists : (sensors : List Sensed) (sensor x : Device) (now : Occupancy) → lists sensors x ≡ true
    → lists (map (told_sensor sensor now) sensors) x ≡ true
told_lists [] sensor x now h = absurd (cc)
told_lists (known ∷ sensors) sensor x now h = elim (or_cases (is_same known.sensor x) (lists sensors x) h) [
  | inl here ↦ or_left (is_same (told_sensor sensor now known).sensor x) (lists (map (told_sensor sensor now) sensors) x)
      (ap (λ (y : Device). is_same y x) (told_same known now (is_same known.sensor sensor)) ∙ here)
  | inr later ↦ or_right (is_same (told_sensor sensor now known).sensor x) (lists (map (told_sensor sensor now) sensors) x)
      (told_lists sensors sensor x now later)
]

taken_one : (of : Occupancy → Bool) (known : Sensed) (sensor x : Device) (now : Occupancy) (here : Bool)
    → is_same known.sensor sensor ≡ here
    → is_same x sensor ≡ true → of now ≡ true → is_same known.sensor x ≡ true
    → (of (if here then record known { occupancy = now } else known).occupancy
    && is_same (if here then record known { occupancy = now } else known).sensor x) ≡ true
taken_one of known sensor x now true at is h same = and_from (of now) (is_same known.sensor x) h same
taken_one of known sensor x now false at is h same =
    let yes : is_same known.sensor sensor ≡ true = same_through known.sensor x sensor same is in absurd (cc)

told_taken : (of : Occupancy → Bool) (sensors : List Sensed) (sensor x : Device) (now : Occupancy) → is_same x sensor ≡ true
    → of now ≡ true → lists sensors x ≡ true → known_as of (map (told_sensor sensor now) sensors) x ≡ true
told_taken of [] sensor x now is h listed = absurd (cc)
told_taken of (known ∷ sensors) sensor x now is h listed = elim (or_cases (is_same known.sensor x) (lists sensors x) listed) [
  | inl here ↦ or_left (of (told_sensor sensor now known).occupancy && is_same (told_sensor sensor now known).sensor x)
      (known_as of (map (told_sensor sensor now) sensors) x)
      (taken_one of known sensor x now (is_same known.sensor sensor) refl is h here)
  | inr later ↦ or_right (of (told_sensor sensor now known).occupancy && is_same (told_sensor sensor now known).sensor x)
      (known_as of (map (told_sensor sensor now) sensors) x) (told_taken of sensors sensor x now is h later)
]

else_one : (of : Occupancy → Bool) (known : Sensed) (sensor x : Device) (now : Occupancy) (here : Bool) → is_same known.sensor sensor ≡ here
    → is_same x sensor ≡ false → (of known.occupancy && is_same known.sensor x) ≡ true
    → (of (if here then record known { occupancy = now } else known).occupancy
    && is_same (if here then record known { occupancy = now } else known).sensor x) ≡ true
else_one of known sensor x now true at is h =
    let both : (of known.occupancy ≡ true) × (is_same known.sensor x ≡ true) =
    and_parts (of known.occupancy) (is_same known.sensor x) h in
    let yes : is_same x sensor ≡ true = same_through x known.sensor sensor (same_back known.sensor x both.1) at in
    absurd (cc)
else_one of known sensor x now false at is h = h

told_else : (of : Occupancy → Bool) (sensors : List Sensed) (sensor x : Device) (now : Occupancy) → is_same x sensor ≡ false
    → known_as of sensors x ≡ true → known_as of (map (told_sensor sensor now) sensors) x ≡ true
told_else of [] sensor x now is h = absurd (cc)
told_else of (known ∷ sensors) sensor x now is h =
    elim (or_cases (of known.occupancy && is_same known.sensor x) (known_as of sensors x) h) [
      | inl here ↦ or_left
          (of (told_sensor sensor now known).occupancy && is_same (told_sensor sensor now known).sensor x)
          (known_as of (map (told_sensor sensor now) sensors) x)
          (else_one of known sensor x now (is_same known.sensor sensor) refl is here)
      | inr later ↦ or_right
          (of (told_sensor sensor now known).occupancy && is_same (told_sensor sensor now known).sensor x)
          (known_as of (map (told_sensor sensor now) sensors) x) (told_else of sensors sensor x now is later)
    ]

told_known : (of : Occupancy → Bool) (sensors : List Sensed) (so : Device → Bool) (sensor x : Device) (now : Occupancy)
    (there : Bool) → is_same x sensor ≡ there → Knows of sensors so x → (if there then of now else so x) ≡ true
    → known_as of (map (told_sensor sensor now) sensors) x ≡ true
told_known of sensors so sensor x now true is knows h = told_taken of sensors sensor x now is h knows.listed
told_known of sensors so sensor x now false is knows h = told_else of sensors sensor x now is (knows.known h)

pub answer_routes : (t : Table) (ok : Bool) (x : Option ℕ) → (option_map_or (answered t ok) x t).routes ≡ t.routes
answer_routes t ok None = refl
answer_routes t ok (Some n) = refl

-- ---- once an event came, and the next order is sent

heard_known_of : (watched : List Route → ℕ → Device → Bool) (of : Occupancy → Bool) (t : Table) (event : Event)
    (so : Device → Bool) → AllKnownOf watched of t.routes t.sensors so
    → AllKnownOf watched of (heard t event).routes (heard t event).sensors (sensed_heard of so event)
heard_known_of watched of t (Ask n) so all = all
heard_known_of watched of t (Give n) so all = all
heard_known_of watched of t (Told sensor now) so all = λ n x h. record {
  listed = told_lists t.sensors sensor x now (all n x h).listed;
  known = told_known of t.sensors so sensor x now (is_same x sensor) refl (all n x h);
}
heard_known_of watched of t Second so all = all
heard_known_of watched of t (Reply ok) so all = λ n x h.
    subst (λ (l : List Sensed). Knows of l so x) (sym (answer_sensors t ok t.waiting))
    (all n x (subst (λ (l : List Route). watched l n x ≡ true) (answer_routes t ok t.waiting) h))
heard_known_of watched of t Lost so all = all

pub heard_known : (t : Table) (event : Event) (occupied : Device → Bool) → AllKnown t.routes t.sensors occupied
    → AllKnown (heard t event).routes (heard t event).sensors (sensed_heard is_taken occupied event)
heard_known t event occupied all = heard_known_of is_watched is_taken t event occupied all

pub heard_near : (t : Table) (event : Event) (free : Device → Bool) → AllNear t.routes t.sensors free
    → AllNear (heard t event).routes (heard t event).sensors (sensed_heard is_vacant free event)
heard_near t event free all = heard_known_of is_near is_vacant t event free all

next_known : (watched : List Route → ℕ → Device → Bool) (of : Occupancy → Bool) (t : Table) (waits : Bool) (d : Option ℕ)
    (so : Device → Bool) → AllKnownOf watched of t.routes t.sensors so
    → AllKnownOf watched of (if waits then record { table = t; order = None } else sent t d).table.routes
    (if waits then record { table = t; order = None } else sent t d).table.sensors so
next_known watched of t true d so all = all
next_known watched of t false None so all = all
next_known watched of t false (Some n) so all = all

pub after_known : (t : Table) (event : Event) (occupied : Device → Bool) → AllKnown t.routes t.sensors occupied
    → AllKnown (after t event).routes (after t event).sensors (sensed_heard is_taken occupied event)
after_known t event occupied all = next_known is_watched is_taken (heard t event) (is_some (heard t event).waiting)
    (due (heard t event)) (sensed_heard is_taken occupied event) (heard_known t event occupied all)

pub after_near : (t : Table) (event : Event) (free : Device → Bool) → AllNear t.routes t.sensors free
    → AllNear (after t event).routes (after t event).sensors (sensed_heard is_vacant free event)
after_near t event free all = next_known is_near is_vacant (heard t event) (is_some (heard t event).waiting)
    (due (heard t event)) (sensed_heard is_vacant free event) (heard_near t event free all)

-- ---- before any event

any_listed : (devices : List Device) (x : Device) → list_any (λ device. is_same device x) devices ≡ true
    → lists (map unknown devices) x ≡ true
any_listed [] x h = absurd (cc)
any_listed (device ∷ devices) x h = elim (or_cases (is_same device x) (list_any (λ a. is_same a x) devices) h) [
  | inl here ↦ or_left (is_same device x) (lists (map unknown devices) x) here
  | inr later ↦ or_right (is_same device x) (lists (map unknown devices) x) (any_listed devices x later)
]

any_behind : (front rest : List Device) (x : Device) → list_any (λ device. is_same device x) rest ≡ true
    → list_any (λ device. is_same device x) (front ++ rest) ≡ true
any_behind [] rest x h = h
any_behind (device ∷ front) rest x h =
    or_right (is_same device x) (list_any (λ a. is_same a x) (front ++ rest)) (any_behind front rest x h)

freeing_listed : (frees : Option Device) (sections : List Device) (x : Device)
    → (option_map_or (λ freeing. is_same freeing x) frees false || list_any (λ section. is_same section x) sections) ≡ true
    → list_any (λ device. is_same device x) (option_to_list frees ++ sections) ≡ true
freeing_listed None sections x h = h
freeing_listed (Some freeing) sections x h = h

any_front : (front rest : List Device) (x : Device) → list_any (λ device. is_same device x) front ≡ true
    → list_any (λ device. is_same device x) (front ++ rest) ≡ true
any_front front rest x h = list_any-append (λ (device : Device). is_same device x) front rest
    ∙ or_left (list_any (λ device. is_same device x) front) (list_any (λ device. is_same device x) rest) h

-- a sensor of one route is among those of all
among : (routes : List Route) (n : ℕ) (route : Route) (x : Device) → slice_get routes n ≡ Some route
    → lists (route_sensors route) x ≡ true → lists (sensors_of routes) x ≡ true
among [] n route x is h = absurd (cc)
among (first ∷ routes) zero route x is h =
    let same : first ≡ route = cc in
    list_any-append (λ (known : Sensed). is_same known.sensor x) (route_sensors first) (sensors_of routes)
    ∙ or_left (lists (route_sensors first) x) (lists (sensors_of routes) x)
    (ap (λ (a : Route). lists (route_sensors a) x) same ∙ h)
among (first ∷ routes) (suc n) route x is h =
    list_any-append (λ (known : Sensed). is_same known.sensor x) (route_sensors first) (sensors_of routes)
    ∙ or_right (lists (route_sensors first) x) (lists (sensors_of routes) x) (among routes n route x is h)

watched_listed : (routes : List Route) (n : ℕ) (x : Device) (y : Option Route) → slice_get routes n ≡ y
    → (option_map_or (λ freeing. is_same freeing x) (option_and_then (λ (a : Route). a.frees) y) false
    || option_map_or (λ (route : Route). list_any (λ section. is_same section x) route.sections.items) y false) ≡ true
    → lists (sensors_of routes) x ≡ true
watched_listed routes n x None is h = absurd (cc)
watched_listed routes n x (Some route) is h = among routes n route x is
    (any_listed (route.approach.items ++ (route.blocks.items ++ (option_to_list route.frees ++ route.sections.items))) x
    (any_behind route.approach.items (route.blocks.items ++ (option_to_list route.frees ++ route.sections.items)) x
    (any_behind route.blocks.items (option_to_list route.frees ++ route.sections.items) x
    (freeing_listed route.frees route.sections.items x h))))

near_listed : (routes : List Route) (n : ℕ) (x : Device) (y : Option Route) → slice_get routes n ≡ y
    → option_map_or (λ (route : Route). list_any (λ sensor. is_same sensor x) route.approach.items) y false ≡ true
    → lists (sensors_of routes) x ≡ true
near_listed routes n x None is h = absurd (cc)
near_listed routes n x (Some route) is h = among routes n route x is
    (any_listed (route.approach.items ++ (route.blocks.items ++ (option_to_list route.frees ++ route.sections.items))) x
    (any_front route.approach.items (route.blocks.items ++ (option_to_list route.frees ++ route.sections.items)) x h))

pub start_known : (routes : List Route) → AllKnown routes (sensors_of routes) (λ x. false)
start_known routes n x watched =
    record { listed = watched_listed routes n x (slice_get routes n) refl watched; known = λ h. absurd (cc) }

pub start_near : (routes : List Route) → AllNear routes (sensors_of routes) (λ x. false)
start_near routes n x near =
    record { listed = near_listed routes n x (slice_get routes n) refl near; known = λ h. absurd (cc) }
