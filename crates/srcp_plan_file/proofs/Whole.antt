-- What is read of a plan keeps to what every plan keeps to.
use Rattle.std.proofs.Common.{◌≡◌, ◌≢◌, ℕ, ◌≤◌, Bool, true, false, not, ◌&&◌, ◌||◌, List, [], ◌∷◌, ◌++◌, Option, Some, None, Ok, Err}
use Rattle.std.proofs.Common.{length, refl, arith}
use Rattle.std.specs.Prelude.{◌==◌, if◌then◌else◌, is_some, nat_lt, IfOk, IfSome, pos, negsuc}
use Rattle.std.specs.Option.{option_map_or}
use Rattle.std.specs.List.{All, AllPairs, list_any}
use Rattle.std.proofs.lemmas.List.Elements.{All-nil, All-cons, All-append, All-push}
use Rattle.std.proofs.lemmas.List.Concat.{flat_map-cons}
use Rattle.std.proofs.lemmas.List.Quantifiers.{all_pairs_push}
use Rattle.toml.specs.Data.{Data, string, integer, float, boolean, datetime, array, table, Members}
use Rattle.srcp_grammar.specs.Layout.{is_within}
use Rattle.srcp_layout_file.specs.Gives.{◌>>=◌}
use Rattle.srcp_info.specs.Limits.{greatest_bus, greatest_ga, greatest_fb}
use Rattle.srcp_layout_file.specs.Member.{array_at, array_in, document, if_given, number_at, ranged, required, value_at}
use Rattle.srcp_routes.specs.Conflicts.{has_accessory, is_same}
use Rattle.srcp_routes.specs.declared.route.Device.{Device}
use Rattle.srcp_routes.specs.declared.route.Setting.{Setting}
use Rattle.srcp_routes.specs.declared.route.Signal.{Signal}
use Rattle.srcp_plan_file.specs.Devices.{OrFault, is_sensor, is_turnout, other_bus, device_of, turnout_of, sensor_of}
use Rattle.srcp_plan_file.specs.Devices.{signal_with, signal_of}
use Rattle.srcp_plan_file.specs.Document.{delay_at, drawn_in, new_turnout, pieces_at, turnout_in, turnouts_in, array_if}
use Rattle.srcp_plan_file.specs.Document.{sensor_in, sensors_in, sensors_at, new_signal, signal_at, frees_at, route_numbered}
use Rattle.srcp_plan_file.specs.Document.{drawn_turnout, drawn_turnouts, found_turnouts, given_or_found, only_way, text_at, turnouts_at}
use Rattle.srcp_plan_file.specs.Document.{turnouts_between, turnouts_or_found, ways_named}
use Rattle.srcp_plan_file.specs.Document.{is_numbered, new_number, apart_from, apart_from_all, route_of, route_in, routes_in}
use Rattle.srcp_plan_file.specs.Document.{plan_in, plan_of}
use Rattle.srcp_plan_file.specs.Behind.{behind, found_blocks, found_sections, past_turnouts, sensor_here, sensors_on}
use Rattle.srcp_plan_file.specs.Faults.{plan_key}
use Rattle.srcp_plan_file.specs.Ways.{kind_at}
use Rattle.srcp_plan_file.specs.declared.element.Kind.{Kind}
use Rattle.srcp_plan_file.specs.declared.element.Kind.TheVariants as kind
use Rattle.srcp_plan_file.specs.Keys.{only_known, plan_keys, route_keys}
use Rattle.srcp_plan_file.specs.Plan.{Drawn, PlannedRoute, IsBeside, IsAccessory, IsSensor, IsTurnout, IsSignal, AreOther, IsRoute}
use Rattle.srcp_plan_file.specs.Plan.{AreApart, IsPlan, default_delay, last_port, longest_delay, mixes, crosses}
use Rattle.srcp_plan_file.specs.declared.plan.Field.{Field}
use Rattle.srcp_plan_file.specs.declared.plan.Field.TheVariants as field
use Rattle.srcp_plan_file.specs.declared.plan.PlanFault.{PlanFault}
use Rattle.srcp_plan_file.specs.declared.plan.PlanFault.TheVariants as fault

-- what comes after a reading, by what that reading keeps to
after : {A B : Type 0} (P : A → Type 0) (Q : B → Type 0) (m : OrFault A) (f : A → OrFault B) → IfOk m P → ((x : A) → P x → IfOk (f x) Q)
    → IfOk (m >>= f) Q
after P Q (Ok x) f h g = g x h
after P Q (Err e) f h g = tt

-- a reading keeps to what follows from what it keeps to
weaker : {A : Type 0} {P Q : A → Type 0} (m : OrFault A) → ((x : A) → P x → Q x) → IfOk m P → IfOk m Q
weaker (Ok x) f h = f x h
weaker (Err e) f h = tt

-- a reading of which nothing is asked
any : {A : Type 0} (m : OrFault A) → IfOk m (λ x. Unit)
any (Ok x) = tt
any (Err e) = tt

-- ---- numbers

abbrev IsFrom : (low high n : ℕ) → Type 0
IsFrom low high n = (low ≤ n) × (n ≤ high)

is_from : (low high n : ℕ) → is_within low high n ≡ true → IsFrom low high n
is_from low high n e = (grind arith, grind arith)

ranged_if : (low high n : ℕ) (b : PlanFault) (w : Bool) → is_within low high n ≡ w
    → IfOk (ranged low high b (integer (pos n))) (IsFrom low high)
ranged_if low high n b true e = rw e (is_from low high n e)
ranged_if low high n b false e = rw e tt

is_ranged : (low high : ℕ) (b : PlanFault) (d : Data) → IfOk (ranged low high b d) (IsFrom low high)
is_ranged low high b (string s) = tt
is_ranged low high b (integer (pos n)) = ranged_if low high n b (is_within low high n) refl
is_ranged low high b (integer (negsuc n)) = tt
is_ranged low high b (float x) = tt
is_ranged low high b (boolean x) = tt
is_ranged low high b (datetime x) = tt
is_ranged low high b (array x) = tt
is_ranged low high b (table x) = tt

is_number : (low high : ℕ) (f : Field) (members : Members) → IfOk (number_at low high (plan_key f) members) (IsFrom low high)
is_number low high f members =
    after (λ d. Unit) (IsFrom low high) (required (plan_key f) members) (ranged low high _) (any _) (λ d h. is_ranged low high _ d)

-- ---- devices

abbrev IsOther : (own n : ℕ) → Type 0
IsOther own n = IsFrom 1 greatest_bus n × (n ≢ own)

differs : (own n : ℕ) → (n == own) ≡ false → n ≢ own
differs own n e = grind arith

other_if : (own n : ℕ) (b : PlanFault) (w : Bool) → (n == own) ≡ w → IsFrom 1 greatest_bus n → IfOk (other_bus own b n) (IsOther own)
other_if own n b true e h = rw e tt
other_if own n b false e h = rw e (h, differs own n e)

is_device : (own greatest : ℕ) (b : PlanFault) (bus address : Data) → IfOk (device_of own greatest b bus address) (IsBeside own greatest)
is_device own greatest b bus address =
    after (IsOther own) (IsBeside own greatest) (ranged 1 greatest_bus b bus >>= other_bus own b) _
    (after (IsFrom 1 greatest_bus) (IsOther own) (ranged 1 greatest_bus b bus) (other_bus own b) (is_ranged 1 greatest_bus b bus)
    (λ n h. other_if own n b (n == own) refl h))
    (λ n h. after (IsFrom 1 greatest) (IsBeside own greatest) (ranged 1 greatest b address) _ (is_ranged 1 greatest b address)
    (λ place k. record { bus = h.0; other = h.1; address = k }))

turnout_holds : (own : ℕ) (b : PlanFault) (values : List Data) → IfOk (turnout_of own b values) (IsTurnout own)
turnout_holds own b [] = tt
turnout_holds own b (bus ∷ []) = tt
turnout_holds own b (bus ∷ address ∷ []) = tt
turnout_holds own b (bus ∷ address ∷ port ∷ []) =
    after (IsAccessory own) (IsTurnout own) (device_of own greatest_ga b bus address) _ (is_device own greatest_ga b bus address)
    (λ device h. after (IsFrom 0 last_port) (IsTurnout own) (ranged 0 last_port b port) _ (is_ranged 0 last_port b port)
    (λ n k. record { device = h; port = k.1 }))
turnout_holds own b (bus ∷ address ∷ port ∷ more ∷ others) = tt

both : (a b : Bool) → (a && b) ≡ true → (a ≡ true) × (b ≡ true)
both true b e = (refl, e)
both false b e = absurd (cc)

is_other : (own n : ℕ) → not (n == own) ≡ true → n ≢ own
is_other own n e = grind arith

-- a turnout of the drawing that is within the limits
is_within_own : (own : ℕ) (turnout : Setting) → is_turnout own turnout ≡ true → IsTurnout own turnout
is_within_own own turnout e =
    let a : (not (turnout.device.bus == own) ≡ true)
    × ((is_within 1 greatest_bus turnout.device.bus
    && (is_within 1 greatest_ga turnout.device.address && is_within 0 last_port turnout.port)) ≡ true) = both _ _ e in
    let b : (is_within 1 greatest_bus turnout.device.bus ≡ true)
    × ((is_within 1 greatest_ga turnout.device.address && is_within 0 last_port turnout.port) ≡ true) = both _ _ a.1 in
    let c : (is_within 1 greatest_ga turnout.device.address ≡ true) × (is_within 0 last_port turnout.port ≡ true) = both _ _ b.1 in
    record {
      device = record {
        bus = is_from 1 greatest_bus turnout.device.bus b.0;
        other = is_other own turnout.device.bus a.0;
        address = is_from 1 greatest_ga turnout.device.address c.0;
      };
      port = (is_from 0 last_port turnout.port c.1).1;
    }

is_beside_own : (own : ℕ) (sensor : Device) → is_sensor own sensor ≡ true → IsSensor own sensor
is_beside_own own sensor e =
    let a : (not (sensor.bus == own) ≡ true)
    × ((is_within 1 greatest_bus sensor.bus && is_within 1 greatest_fb sensor.address) ≡ true) = both _ _ e in
    let b : (is_within 1 greatest_bus sensor.bus ≡ true) × (is_within 1 greatest_fb sensor.address ≡ true) = both _ _ a.1 in
    record {
      bus = is_from 1 greatest_bus sensor.bus b.0;
      other = is_other own sensor.bus a.0;
      address = is_from 1 greatest_fb sensor.address b.1;
    }

sensor_holds : (own : ℕ) (b : PlanFault) (values : List Data) → IfOk (sensor_of own b values) (IsSensor own)
sensor_holds own b [] = tt
sensor_holds own b (bus ∷ []) = tt
sensor_holds own b (bus ∷ address ∷ []) = is_device own greatest_fb b bus address
sensor_holds own b (bus ∷ address ∷ more ∷ others) = tt

signal_if : (own : ℕ) (b : PlanFault) (device : Device) (go stop : ℕ) (w : Bool) → (go == stop) ≡ w → IsAccessory own device
    → IsFrom 0 last_port go → IsFrom 0 last_port stop → IfOk (signal_with b device go stop) (IsSignal own)
signal_if own b device go stop true e h k m = rw e tt
signal_if own b device go stop false e h k m = rw e (record { device = h; go = k.1; stop = m.1; differ = differs stop go e })

is_signal : (own : ℕ) (b : PlanFault) (values : List Data) → IfOk (signal_of own b values) (IsSignal own)
is_signal own b [] = tt
is_signal own b (bus ∷ []) = tt
is_signal own b (bus ∷ address ∷ []) = tt
is_signal own b (bus ∷ address ∷ go ∷ []) = tt
is_signal own b (bus ∷ address ∷ go ∷ stop ∷ []) =
    after (IsAccessory own) (IsSignal own) (device_of own greatest_ga b bus address) _ (is_device own greatest_ga b bus address)
    (λ device h. after (IsFrom 0 last_port) (IsSignal own) (ranged 0 last_port b go) _ (is_ranged 0 last_port b go)
    (λ n k. after (IsFrom 0 last_port) (IsSignal own) (ranged 0 last_port b stop) _ (is_ranged 0 last_port b stop)
    (λ m j. signal_if own b device n m (n == m) refl h k j)))
is_signal own b (bus ∷ address ∷ go ∷ stop ∷ more ∷ others) = tt

-- ---- tests of lists

or_false : (a b : Bool) → (a || b) ≡ false → (a ≡ false) × (b ≡ false)
or_false true b e = (e, absurd (cc))
or_false false b e = (refl, e)

-- no element passes a test that none passes
none_pass : {X : Type 0} (p : X → Bool) (xs : List X) → list_any p xs ≡ false → All (λ x. p x ≡ false) xs
none_pass p [] e = All-nil (λ x. p x ≡ false)
none_pass p (x ∷ xs) e =
    let both = or_false (p x) (list_any p xs) e in
    All-cons (λ x. p x ≡ false) x xs both.0 (none_pass p xs both.1)

-- what each of two facts says of each element
both_hold : {X : Type 0} (P Q R : X → Type 0) (xs : List X) → ((x : X) → P x → Q x → R x) → All P xs → All Q xs → All R xs
both_hold P Q R xs f p q = λ k d lt. f _ (p k d lt) (q k d lt)

-- ---- the keys of a route

module _ (own number : ℕ) where
  abbrev AreTurnouts : List Setting → Type 0
  AreTurnouts turnouts = All (IsTurnout own) turnouts × AllPairs AreOther turnouts

  -- a turnout that is none of those before it
  abbrev IsNext : List Setting → Setting → Type 0
  IsNext before turnout = IsTurnout own turnout × All (λ other. AreOther other turnout) before

  new_if : (before : List Setting) (turnout : Setting) (w : Bool) → has_accessory before turnout.device ≡ w → IsTurnout own turnout
      → IfOk (new_turnout number before turnout) (IsNext before)
  new_if before turnout true e h = rw e tt
  new_if before turnout false e h =
      rw e (h, none_pass (λ (other : Setting). is_same other.device turnout.device) before e)

  is_next : (before : List Setting) (value : Data) → IfOk (turnout_in own number before value) (IsNext before)
  is_next before value =
      after (IsTurnout own) (IsNext before)
      (array_in (fault.Beyond number field.Turnouts) value >>= turnout_of own (fault.Beyond number field.Turnouts)) _
      (after (λ d. Unit) (IsTurnout own) (array_in (fault.Beyond number field.Turnouts) value) _ (any _)
      (λ values h. turnout_holds own (fault.Beyond number field.Turnouts) values))
      (λ turnout h. new_if before turnout (has_accessory before turnout.device) refl h)

  are_turnouts : (before : List Setting) (values : List Data) → AreTurnouts before → IfOk (turnouts_in own number before values) AreTurnouts
  are_turnouts before [] h = h
  are_turnouts before (value ∷ values) h =
      after (IsNext before) AreTurnouts (turnout_in own number before value) _ (is_next before value)
      (λ turnout n. are_turnouts (before ++ turnout ∷ []) values
      (All-push (IsTurnout own) before turnout h.0 n.0, all_pairs_push AreOther before turnout h.1 n.1))

  given : {A : Type 0} (P : A → Type 0) (otherwise : A) (read : Data → OrFault A) (value : Option Data) → P otherwise
      → ((d : Data) → IfOk (read d) P) → IfOk (if_given otherwise read value) P
  given P otherwise read None h g = h
  given P otherwise read (Some d) h g = g d

  no_pairs : AllPairs AreOther []
  no_pairs = λ i j d lt below. absurd (omega arith)

  none : AreTurnouts []
  none = (All-nil (IsTurnout own), no_pairs)

  drawn_if : (before : List Setting) (turnout : Setting) (w : Bool) → is_turnout own turnout ≡ w
      → IfOk (drawn_turnout own number before turnout) (IsNext before)
  drawn_if before turnout true e = rw e (new_if before turnout (has_accessory before turnout.device) refl (is_within_own own turnout e))
  drawn_if before turnout false e = rw e tt

  are_drawn : (before turnouts : List Setting) → AreTurnouts before → IfOk (drawn_turnouts own number before turnouts) AreTurnouts
  are_drawn before [] h = h
  are_drawn before (turnout ∷ turnouts) h =
      after (IsNext before) AreTurnouts (drawn_turnout own number before turnout) _ (drawn_if before turnout (is_turnout own turnout) refl)
      (λ next n. are_drawn (before ++ next ∷ []) turnouts
      (All-push (IsTurnout own) before next h.0 n.0, all_pairs_push AreOther before next h.1 n.1))

  are_between : (drawn : Drawn) (from to : Option (List ℕ)) → IfOk (turnouts_between own number drawn from to) AreTurnouts
  are_between drawn None to = none
  are_between drawn (Some from) None = none
  are_between drawn (Some from) (Some to) =
      after (λ t. Unit) AreTurnouts (only_way number (ways_named drawn from to)) _ (any _) (λ turnouts h. are_drawn [] turnouts none)

  are_found : (drawn : Drawn) (members : Members) (w : Bool) → (length drawn.pieces == 0) ≡ w
      → IfOk (found_turnouts own number drawn members) AreTurnouts
  are_found drawn keys true e = rw e none
  are_found drawn keys false e = rw e (are_between drawn (text_at field.From keys) (text_at field.To keys))

  turnouts_hold : (drawn : Drawn) (members : Members) (given : Option Data)
      → IfOk (turnouts_or_found own number drawn members given) AreTurnouts
  turnouts_hold drawn keys None = are_found drawn keys (length drawn.pieces == 0) refl
  turnouts_hold drawn keys (Some value) =
      after (λ v. Unit) AreTurnouts (array_in (fault.Beyond number field.Turnouts) value) _ (any _)
      (λ values h. are_turnouts [] values none)

  is_sensor_in : (f : Field) (value : Data) → IfOk (sensor_in own number f value) (IsSensor own)
  is_sensor_in f value =
      after (λ v. Unit) (IsSensor own) (array_in (fault.Beyond number f) value) _ (any _)
      (λ values h. sensor_holds own (fault.Beyond number f) values)

  are_sensors : (f : Field) (before : List Device) (values : List Data) → All (IsSensor own) before
      → IfOk (sensors_in own number f before values) (All (IsSensor own))
  are_sensors f before [] h = h
  are_sensors f before (value ∷ values) h =
      after (IsSensor own) (All (IsSensor own)) (sensor_in own number f value) _ (is_sensor_in f value)
      (λ sensor n. are_sensors f (before ++ sensor ∷ []) values (All-push (IsSensor own) before sensor h n))

  sensors_hold : (f : Field) (members : Members) → IfOk (sensors_at own number f members) (All (IsSensor own))
  sensors_hold f members =
      after (λ v. Unit) (All (IsSensor own)) (array_if number f members) _ (any _)
      (λ values h. are_sensors f [] values (All-nil (IsSensor own)))

  -- a signal within the limits that is none of the turnouts
  abbrev IsSignalBeside : List Setting → Option Signal → Type 0
  IsSignalBeside turnouts signal =
      IfSome signal (IsSignal own)
      × (option_map_or (λ (s : Signal). has_accessory turnouts s.device) signal false ≡ false)

  signal_new : (turnouts : List Setting) (signal : Signal) (w : Bool) → has_accessory turnouts signal.device ≡ w → IsSignal own signal
      → IfOk (new_signal number turnouts signal) (IsSignalBeside turnouts)
  signal_new turnouts signal true e h = rw e tt
  signal_new turnouts signal false e h = rw e (h, e)

  signal_holds : (turnouts : List Setting) (members : Members) → IfOk (signal_at own number turnouts members) (IsSignalBeside turnouts)
  signal_holds turnouts members =
      given (IsSignalBeside turnouts) None _ (value_at (plan_key field.Signal) members) (tt, refl)
      (λ d. after (IsSignal own) (IsSignalBeside turnouts)
      (array_in (fault.Beyond number field.Signal) d >>= signal_of own (fault.Beyond number field.Signal)) _
      (after (λ v. Unit) (IsSignal own) (array_in (fault.Beyond number field.Signal) d) _ (any _)
      (λ values h. is_signal own (fault.Beyond number field.Signal) values))
      (λ signal h. signal_new turnouts signal (has_accessory turnouts signal.device) refl h))

  frees_hold : (members : Members) → IfOk (frees_at own number members) (λ frees. IfSome frees (IsSensor own))
  frees_hold members =
      given (λ frees. IfSome frees (IsSensor own)) None _ (value_at (plan_key field.Frees) members) tt
      (λ d. after (IsSensor own) (λ frees. IfSome frees (IsSensor own)) (sensor_in own number field.Frees d) _
      (is_sensor_in field.Frees d) (λ sensor h. h))

  delay_holds : (members : Members) → IfOk (delay_at number members) (IsFrom 1 longest_delay)
  delay_holds members = given (IsFrom 1 longest_delay) default_delay _ (value_at (plan_key field.Delay) members)
      (omega arith, omega arith) (λ d. is_ranged 1 longest_delay (fault.Beyond number field.Delay) d)

  here_if : (device : Device) (w : Bool) → is_sensor own device ≡ w → All (IsSensor own) (if w then device ∷ [] else [])
  here_if device true e = All-cons (IsSensor own) device [] (is_beside_own own device e) (All-nil (IsSensor own))
  here_if device false e = All-nil (IsSensor own)

  here_hold : (k : Kind) → All (IsSensor own) (sensor_here own k)
  here_hold kind.Track = All-nil (IsSensor own)
  here_hold kind.Crossing = All-nil (IsSensor own)
  here_hold kind.Button = All-nil (IsSensor own)
  here_hold (kind.Signal device) = All-nil (IsSensor own)
  here_hold (kind.Sensor device) = here_if device (is_sensor own device) refl
  here_hold (kind.Turnout device branch) = All-nil (IsSensor own)
  here_hold kind.Beside = All-nil (IsSensor own)

  -- the sensors of a way
  on_hold : (kinds : List Kind) (pieces : List ℕ) → All (IsSensor own) (sensors_on own kinds pieces)
  on_hold kinds [] = All-nil (IsSensor own)
  on_hold kinds (n ∷ pieces) = rw (flat_map-cons (λ (n : ℕ). sensor_here own (kind_at kinds n)) n pieces)
      (All-append (IsSensor own) (sensor_here own (kind_at kinds n)) (sensors_on own kinds pieces) (here_hold (kind_at kinds n))
      (on_hold kinds pieces))

  blocks_hold : (kinds : List Kind) (signal : Option Signal) (pieces : List ℕ) → All (IsSensor own) (found_blocks own kinds signal pieces)
  blocks_hold kinds None pieces = All-nil (IsSensor own)
  blocks_hold kinds (Some signal) pieces = on_hold kinds (behind kinds signal.device pieces)

  either_hold : (w : Bool) (xs ys : List Device) → All (IsSensor own) xs → All (IsSensor own) ys
      → All (IsSensor own) (if w then xs else ys)
  either_hold true xs ys h k = h
  either_hold false xs ys h k = k

  sections_hold : (kinds : List Kind) (signal : Option Signal) (pieces : List ℕ)
      → All (IsSensor own) (found_sections own kinds signal pieces)
  sections_hold kinds signal pieces = either_hold (nat_lt (length (sensors_on own kinds (past_turnouts kinds pieces))) 2) []
      (found_blocks own kinds signal pieces) (All-nil (IsSensor own)) (blocks_hold kinds signal pieces)

  found_hold : (f : Field) (members : Members) (xs ys : List Device) → All (IsSensor own) xs → All (IsSensor own) ys
      → All (IsSensor own) (given_or_found f members xs ys)
  found_hold f members xs ys h k =
      either_hold (is_some (value_at (plan_key field.Turnouts) members) || is_some (value_at (plan_key f) members)) xs ys h k

  -- a route within the limits of this number
  abbrev IsNumbered : PlannedRoute → Type 0
  IsNumbered route = IsRoute own route × (route.number ≡ number)

  numbered : (drawn : Drawn) (members : Members) → IsFrom 1 greatest_ga number
      → IfOk (route_numbered own number drawn members) IsNumbered
  numbered drawn members n =
      after AreTurnouts IsNumbered (turnouts_at own number drawn members) _
      (turnouts_hold drawn members (value_at (plan_key field.Turnouts) members))
      (λ turnouts t. after (All (IsSensor own)) IsNumbered (sensors_at own number field.Blocks members) _
      (sensors_hold field.Blocks members)
      (λ blocks b. after (IsSignalBeside turnouts) IsNumbered (signal_at own number turnouts members) _ (signal_holds turnouts members)
      (λ signal s. after (λ frees. IfSome frees (IsSensor own)) IsNumbered (frees_at own number members) _ (frees_hold members)
      (λ frees f. after (All (IsSensor own)) IsNumbered (sensors_at own number field.Sections members) _
      (sensors_hold field.Sections members)
      (λ sections c. after (All (IsSensor own)) IsNumbered (sensors_at own number field.Approach members) _
      (sensors_hold field.Approach members)
      (λ approach a. after (IsFrom 1 longest_delay) IsNumbered (delay_at number members) _ (delay_holds members)
      (λ delay l. after (λ pieces. Unit) IsNumbered (pieces_at drawn number turnouts members) _ (any _)
      (λ pieces p. (
        record {
          number = n;
          turnouts = t.0;
          blocks = found_hold field.Blocks members blocks (found_blocks own drawn.kinds signal pieces) b
              (blocks_hold drawn.kinds signal pieces);
          signal = s.0;
          frees = f;
          sections = found_hold field.Sections members sections (found_sections own drawn.kinds signal pieces) c
              (sections_hold drawn.kinds signal pieces);
          approach = a;
          delay = l;
          turnouts_once = t.1;
          signal_once = s.1;
        },
        refl,
      )))))))))

-- ---- routes beside those before them

-- a number that no route before has
abbrev IsNewNumber : List PlannedRoute → ℕ → Type 0
IsNewNumber before number = IsFrom 1 greatest_ga number × All (λ other. is_numbered number other ≡ false) before

new_number_if : (before : List PlannedRoute) (number : ℕ) (w : Bool) → list_any (is_numbered number) before ≡ w
    → IsFrom 1 greatest_ga number → IfOk (new_number before number) (IsNewNumber before)
new_number_if before number true e h = rw e tt
new_number_if before number false e h = rw e (h, none_pass (is_numbered number) before e)

-- two routes that do not use one accessory in two ways
abbrev AreUnmixed : PlannedRoute → PlannedRoute → Type 0
AreUnmixed other route = (mixes other route ≡ false) × (crosses other route ≡ false)

apart_step : (P : Unit {0} → Type 0) (w v : Bool) (m c : PlanFault) → (w ≡ false → v ≡ false → P tt)
    → IfOk (if w then Err m else (if v then Err c else Ok tt)) P
apart_step P true v m c f = tt
apart_step P false true m c f = tt
apart_step P false false m c f = f refl refl

apart_if : (other route : PlannedRoute) → IfOk (apart_from other route) (λ u. AreUnmixed other route)
apart_if other route =
    apart_step (λ u. AreUnmixed other route) (mixes other route) (crosses other route) (fault.Mixed other.number route.number)
    (fault.Crossed other.number route.number) (λ e f. (e, f))

are_apart : (before : List PlannedRoute) (route : PlannedRoute)
    → IfOk (apart_from_all before route) (λ u. All (λ other. AreUnmixed other route) before)
are_apart [] route = All-nil (λ other. AreUnmixed other route)
are_apart (other ∷ others) route =
    after (λ u. AreUnmixed other route) (λ u. All (λ other. AreUnmixed other route) (other ∷ others)) (apart_from other route) _
    (apart_if other route)
    (λ u h. weaker (apart_from_all others route) (λ u k. All-cons (λ other. AreUnmixed other route) other others h k)
    (are_apart others route))

-- a route that may stand behind those before it
abbrev IsNextRoute : (own : ℕ) → List PlannedRoute → PlannedRoute → Type 0
IsNextRoute own before route = IsRoute own route × All (λ other. AreApart other route) before

joined : (number : ℕ) (other route : PlannedRoute) → route.number ≡ number → (other.number == number) ≡ false → AreUnmixed other route
    → AreApart other route
joined number other route e f u = record { numbers = rw e (differs number other.number f); unmixed = u.0; uncrossed = u.1 }

is_next_route : (own : ℕ) (drawn : Drawn) (before : List PlannedRoute) (members : Members)
    → IfOk (route_of own drawn before members) (IsNextRoute own before)
is_next_route own drawn before members =
    after (IsNewNumber before) (IsNextRoute own before) (number_at 1 greatest_ga (plan_key field.Number) members >>= new_number before) _
    (after (IsFrom 1 greatest_ga) (IsNewNumber before) (number_at 1 greatest_ga (plan_key field.Number) members) _
    (is_number 1 greatest_ga field.Number members)
    (λ n h. new_number_if before n (list_any (is_numbered n) before) refl h))
    (λ n h. after (λ u. Unit) (IsNextRoute own before) (only_known route_keys (fault.UnknownIn n) members) _ (any _)
    (λ u o. after (IsNumbered own n) (IsNextRoute own before) (route_numbered own n drawn members) _ (numbered own n drawn members h.0)
    (λ route r. after (λ u. All (λ other. AreUnmixed other route) before) (IsNextRoute own before) (apart_from_all before route) _
    (are_apart before route)
    (λ u k. (r.0, λ i d lt. joined n _ route r.1 (h.1 i d lt) (k i d lt))))))

is_route_in : (own : ℕ) (drawn : Drawn) (before : List PlannedRoute) (value : Data)
    → IfOk (route_in own drawn before value) (IsNextRoute own before)
is_route_in own drawn before (string s) = tt
is_route_in own drawn before (integer n) = tt
is_route_in own drawn before (float x) = tt
is_route_in own drawn before (boolean x) = tt
is_route_in own drawn before (datetime x) = tt
is_route_in own drawn before (array x) = tt
is_route_in own drawn before (table members) = is_next_route own drawn before members

abbrev AreRoutes : (own : ℕ) → List PlannedRoute → Type 0
AreRoutes own routes = All (IsRoute own) routes × AllPairs AreApart routes

are_routes : (own : ℕ) (drawn : Drawn) (before : List PlannedRoute) (values : List Data) → AreRoutes own before
    → IfOk (routes_in own drawn before values) (AreRoutes own)
are_routes own drawn before [] h = h
are_routes own drawn before (value ∷ values) h =
    after (IsNextRoute own before) (AreRoutes own) (route_in own drawn before value) _ (is_route_in own drawn before value)
    (λ route n. are_routes own drawn (before ++ route ∷ []) values
    (All-push (IsRoute own) before route h.0 n.0, all_pairs_push AreApart before route h.1 n.1))

-- ---- documents

none_apart : AllPairs AreApart []
none_apart = λ i j d lt below. absurd (omega arith)

is_plan_in : (members : Members) → IfOk (plan_in members) IsPlan
is_plan_in members = after (λ u. Unit) IsPlan (only_known plan_keys fault.Unknown members) _ (any _)
    (λ u o. after (IsFrom 1 greatest_bus) IsPlan (number_at 1 greatest_bus (plan_key field.Bus) members) _
    (is_number 1 greatest_bus field.Bus members)
    (λ bus b. after (AreRoutes bus) IsPlan (array_at (plan_key field.Route) members >>= routes_in bus (drawn_in members) []) _
    (after (λ v. Unit) (AreRoutes bus) (array_at (plan_key field.Route) members) _ (any _)
    (λ values k. are_routes bus (drawn_in members) [] values (All-nil (IsRoute bus), none_apart)))
    (λ routes r. record { bus = b; each = r.0; apart = r.1 })))

pub is_plan_of : (bytes : List ℕ) → IfOk (plan_of bytes) IsPlan
is_plan_of bytes = after (λ m. Unit) IsPlan (document fault.NotToml bytes) plan_in (any _) (λ members h. is_plan_in members)
