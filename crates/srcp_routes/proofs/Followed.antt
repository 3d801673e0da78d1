-- The table has the train of which events and orders tell.
use Rattle.std.proofs.Common.{◌≡◌, ◌≢◌, ◌⊎◌, inl, inr, ℕ, zero, suc, ◌+◌, ◌-◌, ◌==◌, ◌<◌, Bool, true, false, not, ◌&&◌, ◌||◌}
use Rattle.std.proofs.Common.{Option, Some, None, List, [], ◌∷◌, length, refl, sym, ◌∙◌, ap}
use Rattle.std.proofs.lemmas.Bool.{and_from, cases_eq, eq-eqb, ne_eqb, or_left, or_right}
use Rattle.std.proofs.lemmas.Option.{slice_get_within}
use Rattle.std.specs.List.{list_any}
use Rattle.std.specs.Option.{option_and_then, option_map, option_map_or}
use Rattle.std.specs.Prelude.{if◌then◌else◌, is_some, nat_lt, slice_get, slice_set}
use Rattle.srcp_routes.specs.Conflicts.{is_occupied, is_same, is_taken, is_vacant}
use Rattle.srcp_routes.specs.Plan.{Table, has_passed, is_freed, stage_at, still_wanted, train_at, train_told, wanted_at}
use Rattle.srcp_routes.specs.Plan.{train_behind, wanted_behind}
use Rattle.srcp_routes.specs.Runs.{Run, are_all_passed, head_heard, is_freed_by, is_passed, let_go_heard, sensed_heard}
use Rattle.srcp_routes.specs.Runs.{tail_heard}
use Rattle.srcp_routes.specs.Stages.{is_held}
use Rattle.srcp_routes.specs.Steps.{answered, heard, told}
use Rattle.srcp_routes.specs.Trains.{head_told, is_section, is_through, moved, tail_told}
use Rattle.srcp_routes.specs.declared.conflict.Sensed.{Sensed}
use Rattle.srcp_routes.specs.declared.interlocking.Event.{Event}
use Rattle.srcp_routes.specs.declared.interlocking.Event.TheVariants.{Ask, Give, Told, Second, Reply, Lost}
use Rattle.srcp_routes.specs.declared.route.Device.{Device}
use Rattle.srcp_routes.specs.declared.route.Occupancy.{Occupancy}
use Rattle.srcp_routes.specs.declared.route.Route.{Route}
use Rattle.srcp_routes.specs.declared.train.Train.{Train}
use Rattle.srcp_routes.proofs.Free.{IsKnownRightly, heard_free}
use Rattle.srcp_routes.proofs.Known.{AllKnown, heard_known, is_section_of, is_watched}
use Rattle.srcp_routes.proofs.Open.{AllOpen, IsOpen, open_held}
use Rattle.srcp_routes.proofs.Places.{at-places, at-replicate, at-set_else, at-set_off}

-- the train that a route has let go, by events and orders alone
abbrev pub train_of : Bool → ℕ → ℕ → Option Train
train_of true head tail = Some (record { head = head; tail = tail })
train_of false head tail = None

abbrev pub AllFollowed : Table → (ℕ → Bool) → (head tail : ℕ → ℕ) → Type 0
AllFollowed t let_go head tail = (n : ℕ) (route : Route) → slice_get t.routes n ≡ Some route
    → train_at t.trains n ≡ train_of (let_go n) (head n) (tail n)

-- what is told of a sensor
abbrev pub word : Device → Occupancy → Sensed
word sensor now = record { sensor = sensor; occupancy = now }

pub both_true : (a b : Bool) → (a ≡ true → b ≡ true) → (b ≡ true → a ≡ true) → a ≡ b
both_true true true one two = refl
both_true true false one two = let no : false ≡ true = one refl in absurd (cc)
both_true false true one two = let no : false ≡ true = two refl in absurd (cc)
both_true false false one two = refl

pub own_same : (x : Device) → is_same x x ≡ true
own_same x = and_from (x.bus == x.bus) (x.address == x.address) (eq-eqb x.bus x.bus refl) (eq-eqb x.address x.address refl)

-- ---- how far the train has come

-- two words on each section say the same
section_says : (f g : Device → Bool) (sections : List Device) (place : ℕ)
    → ((x : Device) → list_any (λ section. is_same section x) sections ≡ true → f x ≡ g x)
    → option_map_or f (slice_get sections place) false ≡ option_map_or g (slice_get sections place) false
section_says f g [] place all = refl
section_says f g (x ∷ xs) zero all =
    all x (or_left (is_same x x) (list_any (λ section. is_same section x) xs) (own_same x))
section_says f g (x ∷ xs) (suc place) all = section_says f g xs place
    (λ y h. all y (or_right (is_same x y) (list_any (λ section. is_same section y) xs) h))

-- what is known of a section once a sensor is told
section_known : (r : Run) (sensor : Device) (now : Occupancy) (n : ℕ) (route : Route) (x : Device)
    → AllKnown r.table.routes r.table.sensors r.occupied → IsKnownRightly is_taken r.table.sensors r.occupied
    → slice_get r.table.routes n ≡ Some route → list_any (λ section. is_same section x) route.sections.items ≡ true
    → sensed_heard is_taken r.occupied (Told sensor now) x ≡ is_occupied (told r.table sensor now).sensors x
section_known r sensor now n route x known taken is h =
    let in_route : is_section_of r.table.routes n x ≡ true =
    ap (λ (y : Option Route).
    option_map_or (λ (route : Route). list_any (λ section. is_same section x) route.sections.items) y false) is ∙ h in
    let watched : is_watched r.table.routes n x ≡ true =
    or_right (is_freed_by r.table.routes n x) (is_section_of r.table.routes n x) in_route in
    both_true (sensed_heard is_taken r.occupied (Told sensor now) x) (is_occupied (told r.table sensor now).sensors x)
    (heard_known r.table (Told sensor now) r.occupied known n x watched).known
    (heard_free is_taken r.table (Told sensor now) r.occupied taken x)

head_is : (r : Run) (sensor : Device) (now : Occupancy) (n : ℕ) (route : Route) → slice_get r.table.routes n ≡ Some route
    → head_heard r (Told sensor now) n
    ≡ head_told route (word sensor now) (record { head = r.head n; tail = r.tail n })
head_is r sensor now n route is = ap (λ (x : Option Route).
    if is_taken now && option_map_or (λ section. is_same section sensor)
    (option_and_then (λ (a : Route). slice_get a.sections.items (r.head n)) x) false then r.head n + 1 else r.head n) is

tail_is : (r : Run) (sensor : Device) (now : Occupancy) (n : ℕ) (route : Route)
    → AllKnown r.table.routes r.table.sensors r.occupied → IsKnownRightly is_taken r.table.sensors r.occupied
    → slice_get r.table.routes n ≡ Some route
    → tail_heard r (Told sensor now) n ≡ tail_told route (told r.table sensor now).sensors (word sensor now)
    (record { head = r.head n; tail = r.tail n })
tail_is r sensor now n route known taken is =
    ap (λ (x : Option Route). if is_vacant now && (option_map_or (λ section. is_same section sensor)
    (option_and_then (λ (a : Route). slice_get a.sections.items (r.tail n)) x) false
    && (nat_lt (r.tail n + 1) (r.head n) && option_map_or (sensed_heard is_taken r.occupied (Told sensor now))
    (option_and_then (λ (a : Route). slice_get a.sections.items (r.tail n + 1)) x) false))
    then r.tail n + 1 else r.tail n) is
    ∙ ap (λ (b : Bool). if is_vacant now && (is_section route (r.tail n) sensor && (nat_lt (r.tail n + 1) (r.head n) && b))
    then r.tail n + 1 else r.tail n)
    (section_says (sensed_heard is_taken r.occupied (Told sensor now)) (is_occupied (told r.table sensor now).sensors)
    route.sections.items (r.tail n + 1) (λ x h. section_known r sensor now n route x known taken is h))

-- the train once a sensor is told, if its route has let one go
abbrev later : Route → List Sensed → Sensed → Bool → ℕ → ℕ → Option Train
later route sensors now let_go head tail = option_map (moved route sensors now) (train_of let_go head tail)

told_is : (r : Run) (sensor : Device) (now : Occupancy) (n : ℕ) (route : Route)
    → slice_get r.table.routes n ≡ Some route
    → train_at r.table.trains n ≡ train_of (r.let_go n) (r.head n) (r.tail n)
    → train_told r.table.routes (told r.table sensor now).sensors r.table.trains (word sensor now) n
    ≡ later route (told r.table sensor now).sensors (word sensor now) (r.let_go n) (r.head n) (r.tail n)
told_is r sensor now n route is train =
    ap (λ (x : Option Route). option_and_then
    (λ route. option_map (moved route (told r.table sensor now).sensors (word sensor now)) (train_at r.table.trains n)) x) is
    ∙ ap (λ (x : Option Train). option_map (moved route (told r.table sensor now).sensors (word sensor now)) x) train

later_is : (route : Route) (sensors : List Sensed) (now : Sensed) (let_go : Bool) (head tail head' tail' : ℕ)
    → head' ≡ head_told route now (record { head = head; tail = tail })
    → tail' ≡ tail_told route sensors now (record { head = head; tail = tail })
    → later route sensors now let_go head tail ≡ train_of let_go head' tail'
later_is route sensors now true head tail head' tail' e d =
    ap (λ (h : ℕ). train_of true h (tail_told route sensors now (record { head = head; tail = tail }))) (sym e)
    ∙ ap (λ (h : ℕ). train_of true head' h) (sym d)
later_is route sensors now false head tail head' tail' e d = refl

-- the train as events tell of it
train_is : (r : Run) (sensor : Device) (now : Occupancy) (n : ℕ) (route : Route)
    → AllKnown r.table.routes r.table.sensors r.occupied → IsKnownRightly is_taken r.table.sensors r.occupied
    → slice_get r.table.routes n ≡ Some route
    → train_at r.table.trains n ≡ train_of (r.let_go n) (r.head n) (r.tail n)
    → train_told r.table.routes (told r.table sensor now).sensors r.table.trains (word sensor now) n
    ≡ train_of (r.let_go n) (head_heard r (Told sensor now) n) (tail_heard r (Told sensor now) n)
train_is r sensor now n route known taken is train =
    told_is r sensor now n route is train
    ∙ later_is route (told r.table sensor now).sensors (word sensor now) (r.let_go n) (r.head n) (r.tail n)
    (head_heard r (Told sensor now) n) (tail_heard r (Told sensor now) n) (head_is r sensor now n route is)
    (tail_is r sensor now n route known taken is)

through_is : (route : Route) (let_go : Bool) (head tail : ℕ)
    → option_map_or (is_through route) (train_of let_go head tail) false
    ≡ (let_go && (nat_lt 0 tail && (tail == length route.sections.items - 1)))
through_is route true head tail = refl
through_is route false head tail = refl

-- the train has passed each section but the last, as events tell
pub passed_is : (r : Run) (sensor : Device) (now : Occupancy) (n : ℕ) (route : Route)
    → AllKnown r.table.routes r.table.sensors r.occupied → IsKnownRightly is_taken r.table.sensors r.occupied
    → slice_get r.table.routes n ≡ Some route
    → train_at r.table.trains n ≡ train_of (r.let_go n) (r.head n) (r.tail n)
    → has_passed r.table.routes (told r.table sensor now).sensors r.table.trains (word sensor now) n
    ≡ is_passed r (Told sensor now) n
passed_is r sensor now n route known taken is train =
    ap (λ (x : Option Route). option_map_or (λ route. option_map_or (is_through route)
    (train_told r.table.routes (told r.table sensor now).sensors r.table.trains (word sensor now) n) false) x false) is
    ∙ ap (λ (x : Option Train). option_map_or (is_through route) x false) (train_is r sensor now n route known taken is train)
    ∙ through_is route (r.let_go n) (head_heard r (Told sensor now) n) (tail_heard r (Told sensor now) n)
    ∙ ap (λ (x : Option Route). r.let_go n && option_map_or (λ (a : Route). nat_lt 0 (tail_heard r (Told sensor now) n)
    && (tail_heard r (Told sensor now) n == length a.sections.items - 1)) x false) (sym is)

-- ---- once a sensor is told

freed_held : (frees : Option Device) (sensor : Device) (held : Bool)
    → option_map_or (λ freeing. is_same freeing sensor && held) frees false
    ≡ (option_map_or (λ freeing. is_same freeing sensor) frees false && held)
freed_held None sensor held = refl
freed_held (Some freeing) sensor held = refl

fell_is : (vacant knows occupied freed held wanted : Bool) → wanted ≡ true → held ≡ true
    → (freed ≡ true → occupied ≡ true → knows ≡ true) → (knows ≡ true → occupied ≡ true)
    → (if vacant && knows then (wanted && not (freed && held)) else wanted) ≡ not (vacant && (occupied && freed))
fell_is false knows occupied freed true true w h one two = refl
fell_is true true true true true true w h one two = refl
fell_is true true true false true true w h one two = refl
fell_is true true false freed true true w h one two = let no : false ≡ true = two refl in absurd (cc)
fell_is true false true true true true w h one two = let no : false ≡ true = one refl refl in absurd (cc)
fell_is true false true false true true w h one two = refl
fell_is true false false freed true true w h one two = refl
fell_is vacant knows occupied freed false wanted w h one two = absurd (cc)
fell_is vacant knows occupied freed held false w h one two = absurd (cc)

wanted_if : (t : Table) (sensor : Device) (n : ℕ) (fell : Bool) → n < length t.routes
    → wanted_at (if fell then still_wanted t sensor else t.wanted) n
    ≡ (if fell then (wanted_at t.wanted n && not (is_freed t.routes t.stages sensor n)) else wanted_at t.wanted n)
wanted_if t sensor n true lt =
    at-places (λ i. wanted_at t.wanted i && not (is_freed t.routes t.stages sensor i)) false (length t.routes) n lt
wanted_if t sensor n false lt = refl

-- a route that has let a train go is wanted unless the sensor that frees it falls
pub wanted_is : (r : Run) (sensor : Device) (now : Occupancy) (n : ℕ)
    → AllKnown r.table.routes r.table.sensors r.occupied → IsKnownRightly is_taken r.table.sensors r.occupied
    → n < length r.table.routes → IsOpen r.table n
    → wanted_at (told r.table sensor now).wanted n
    ≡ not (is_vacant now && (r.occupied sensor && is_freed_by r.table.routes n sensor))
wanted_is r sensor now n known taken lt opens =
    wanted_if r.table sensor n (is_vacant now && is_occupied r.table.sensors sensor) lt
    ∙ ap (λ (b : Bool). if is_vacant now && is_occupied r.table.sensors sensor then (wanted_at r.table.wanted n && not b)
    else wanted_at r.table.wanted n)
    (freed_held (option_and_then (λ (a : Route). a.frees) (slice_get r.table.routes n)) sensor
    (is_held (stage_at r.table.stages n)))
    ∙ fell_is (is_vacant now) (is_occupied r.table.sensors sensor) (r.occupied sensor)
    (is_freed_by r.table.routes n sensor) (is_held (stage_at r.table.stages n)) (wanted_at r.table.wanted n) opens.wanted
    (open_held (stage_at r.table.stages n) opens.opens)
    (λ freed. (known n sensor (or_left (is_freed_by r.table.routes n sensor) (is_section_of r.table.routes n sensor) freed)).known)
    (taken sensor)

kept_train : (wanted fallen passed let_go : Bool) (head tail : ℕ) → (let_go ≡ true → wanted ≡ not fallen)
    → (if wanted && not (let_go && passed) then train_of let_go head tail else None)
    ≡ train_of (not (fallen || (let_go && passed)) && let_go) head tail
kept_train true true passed true head tail w = let no : true ≡ not true = w refl in absurd (cc)
kept_train true false true true head tail w = refl
kept_train true false false true head tail w = refl
kept_train false true passed true head tail w = refl
kept_train false false passed true head tail w = let no : false ≡ not false = w refl in absurd (cc)
kept_train true true passed false head tail w = refl
kept_train true false passed false head tail w = refl
kept_train false true passed false head tail w = refl
kept_train false false passed false head tail w = refl

pub some_of : (let_go : Bool) (head tail : ℕ) (x : Option Train) → x ≡ train_of let_go head tail → let_go ≡ true
    → is_some x ≡ true
some_of true head tail x e h = ap (λ (y : Option Train). is_some y) e
some_of false head tail x e h = absurd (cc)

told_followed : (r : Run) (sensor : Device) (now : Occupancy) (n : ℕ) (route : Route)
    → AllKnown r.table.routes r.table.sensors r.occupied → IsKnownRightly is_taken r.table.sensors r.occupied
    → AllOpen r.table → slice_get r.table.routes n ≡ Some route
    → train_at r.table.trains n ≡ train_of (r.let_go n) (r.head n) (r.tail n)
    → train_at (heard r.table (Told sensor now)).trains n ≡ train_of (let_go_heard r (Told sensor now) n)
    (head_heard r (Told sensor now) n) (tail_heard r (Told sensor now) n)
told_followed r sensor now n route known taken opens is train =
    let u : Table = told r.table sensor now in
    let lt : n < length r.table.routes = slice_get_within r.table.routes n route is in
    let kept : wanted_at (wanted_behind u (word sensor now)) n
    ≡ (wanted_at u.wanted n && not (is_passed r (Told sensor now) n)) =
    at-places (λ i. wanted_at u.wanted i && not (has_passed u.routes u.sensors u.trains (word sensor now) i)) false
    (length r.table.routes) n lt
    ∙ ap (λ (b : Bool). wanted_at u.wanted n && not b) (passed_is r sensor now n route known taken is train) in
    at-places (train_behind u.routes u.sensors (wanted_behind u (word sensor now)) u.trains (word sensor now)) None
    (length r.table.routes) n lt
    ∙ ap (λ (b : Bool). if b then train_told u.routes u.sensors u.trains (word sensor now) n else None) kept
    ∙ ap (λ (x : Option Train). if wanted_at u.wanted n && not (is_passed r (Told sensor now) n) then x else None)
    (train_is r sensor now n route known taken is train)
    ∙ kept_train (wanted_at u.wanted n) (is_vacant now && (r.occupied sensor && is_freed_by r.table.routes n sensor))
    (are_all_passed r.table.routes n (tail_heard r (Told sensor now) n)) (r.let_go n) (head_heard r (Told sensor now) n)
    (tail_heard r (Told sensor now) n)
    (λ go. wanted_is r sensor now n known taken lt
    (opens n (some_of (r.let_go n) (r.head n) (r.tail n) (train_at r.table.trains n) train go)))

-- ---- once any event came

given_train : (here let_go : Bool) (head tail : ℕ) → here ≡ true → train_of (not here && let_go) head tail ≡ None
given_train true let_go head tail e = refl
given_train false let_go head tail e = absurd (cc)

other_train : (here let_go : Bool) (head tail : ℕ) → here ≡ false
    → train_of (not here && let_go) head tail ≡ train_of let_go head tail
other_train true let_go head tail e = absurd (cc)
other_train false let_go head tail e = refl

-- a route is given back, and no other is
back_followed : (trains : List (Option Train)) (m n : ℕ) (let_go : Bool) (head tail : ℕ) → (n ≡ m) ⊎ (n ≢ m)
    → train_at trains n ≡ train_of let_go head tail
    → train_at (slice_set trains m None) n ≡ train_of (not (n == m) && let_go) head tail
back_followed trains m n let_go head tail (inl same) train =
    ap (λ (i : ℕ). train_at (slice_set trains m None) i) same ∙ at-set_off trains m None
    ∙ sym (given_train (n == m) let_go head tail (eq-eqb n m same))
back_followed trains m n let_go head tail (inr differ) train = at-set_else trains m n None None differ ∙ train
    ∙ sym (other_train (n == m) let_go head tail (ne_eqb n m differ))

refused_followed : (t : Table) (x : Option ℕ) (n : ℕ) (let_go : Bool) (head tail : ℕ)
    → train_at t.trains n ≡ train_of let_go head tail
    → train_at (option_map_or (answered t false) x t).trains n
    ≡ train_of (not (option_map_or (λ m. n == m) x false) && let_go) head tail
refused_followed t None n let_go head tail train = train
refused_followed t (Some m) n let_go head tail train = back_followed t.trains m n let_go head tail (cases_eq n m) train

accepted_trains : (t : Table) (x : Option ℕ) → (option_map_or (answered t true) x t).trains ≡ t.trains
accepted_trains t None = refl
accepted_trains t (Some m) = refl

pub heard_followed : (r : Run) (event : Event) (n : ℕ) (route : Route)
    → AllKnown r.table.routes r.table.sensors r.occupied → IsKnownRightly is_taken r.table.sensors r.occupied
    → AllOpen r.table → slice_get r.table.routes n ≡ Some route
    → train_at r.table.trains n ≡ train_of (r.let_go n) (r.head n) (r.tail n)
    → train_at (heard r.table event).trains n
    ≡ train_of (let_go_heard r event n) (head_heard r event n) (tail_heard r event n)
heard_followed r (Ask m) n route known taken opens is train = train
heard_followed r (Give m) n route known taken opens is train =
    back_followed r.table.trains m n (r.let_go n) (r.head n) (r.tail n) (cases_eq n m) train
heard_followed r (Told sensor now) n route known taken opens is train =
    told_followed r sensor now n route known taken opens is train
heard_followed r (Reply true) n route known taken opens is train =
    ap (λ (l : List (Option Train)). train_at l n) (accepted_trains r.table r.table.waiting) ∙ train
heard_followed r (Reply false) n route known taken opens is train =
    refused_followed r.table r.table.waiting n (r.let_go n) (r.head n) (r.tail n) train
heard_followed r Second n route known taken opens is train = train
heard_followed r Lost n route known taken opens is train = at-replicate (length r.table.routes) n None
