-- Each command read by the grammar is a command of the layout.
use Rattle.std.proofs.Common.{rules}
use Rattle.std.specs.Prelude.{◌≡◌, ℕ, ◌+◌, ◌-◌, ◌<◌, ◌≤◌, Bool, true, false, cond, ◌&&◌, ◌||◌, ◌==◌, nat_le, nat_lt, length}
use Rattle.std.specs.Prelude.{List, [], ◌∷◌, Option, Some, None, Result, Ok, Err, IfOk, IfSome, IsTrue}
use Rattle.std.proofs.Common.{refl, ap, ◌∙◌, arith, eqb-true}
use Rattle.std.specs.List.{AllByRecursion}
use Rattle.std.specs.Option.{ok_or, option_and_then}
use Rattle.std.proofs.lemmas.Bool.{ltb-false}
use Rattle.srcp_info.specs.declared.key.Group.{Group}
use Rattle.srcp_info.specs.declared.key.Group.TheVariants as group
use Rattle.srcp_info.specs.declared.value.Letter.{Letter}
use Rattle.srcp_info.specs.declared.change.Code.{Code}
use Rattle.srcp_info.specs.declared.change.Code.TheVariants.{C412, C418}
use Rattle.srcp_info.specs.Limits.{emergency_stop, greatest_bus, greatest_speed, greatest_id, fewest_ports, most_ports}
use Rattle.srcp_info.specs.Limits.{most_functions, most_milliseconds}
use Rattle.srcp_info.specs.WellFormed.{is_text, IsSpeed}
use Rattle.srcp_text.specs.Words.{number_of, is_numeral, words_of}
use Rattle.std.specs.Str.Parse.{digits_value}
use Rattle.srcp_grammar.specs.declared.layout.Bus.{Bus}
use Rattle.srcp_grammar.specs.declared.command.Operation.{Operation}
use Rattle.srcp_grammar.specs.declared.command.Operation.TheVariants.{Get, Set, Check, Init, Term}
use Rattle.srcp_grammar.specs.declared.command.CommandGroup.{CommandGroup}
use Rattle.srcp_grammar.specs.declared.command.CommandGroup.TheVariants.{Session, Power, Gl, Ga, Fb, Lock}
use Rattle.srcp_grammar.specs.declared.command.DeviceGroup.{DeviceGroup}
use Rattle.srcp_grammar.specs.declared.command.DeviceGroup.TheVariants as devices
use Rattle.srcp_grammar.specs.declared.command.Target.{Target}
use Rattle.srcp_grammar.specs.declared.command.NewGl.{NewGl}
use Rattle.srcp_grammar.specs.declared.command.Drive.{Drive}
use Rattle.srcp_grammar.specs.declared.command.Command.{Command}
use Rattle.srcp_grammar.specs.declared.command.Command.TheVariants.{GetSession, GetPower, SetPower, CheckPower, GetGl, SetGl}
use Rattle.srcp_grammar.specs.declared.command.Command.TheVariants.{CheckGl, InitGl, TermGl, SetGa, CheckGa, InitGa, TermGa, GetFb}
use Rattle.srcp_grammar.specs.declared.command.Command.TheVariants.{SetFb, CheckFb, GetLock, SetLock, CheckLock, TermLock}
use Rattle.srcp_grammar.specs.Layout.{IsBus, IsLayout, IsKeyOf, bus_at, has_group, address_max, is_within, rows_if, rows_on}
use Rattle.srcp_grammar.specs.Layout.{row_count}
use Rattle.srcp_grammar.specs.Devices.{key_at, device_in, lock_on}
use Rattle.srcp_grammar.specs.Command.{IsCommandOf, IsDrive, IsLock, IsPowerSwitch, IsSensor, IsSwitch, IsTimedLock}
use Rattle.srcp_grammar.specs.Grammar.{◌>>=◌, number_in, bits_of, text_of, time_of}
use Rattle.srcp_grammar.specs.Grammar.{alone, one_number, term_session, powered, driven, init_gl}
use Rattle.srcp_grammar.specs.Grammar.{get_ga, switched, init_ga, sensed, named_lock, timed_lock, asked, directed, parsed, reads}
use Rattle.srcp_grammar.proofs.FindLaws.{found_holds}
use Rattle.srcp_info.proofs.ListingLaws.{find_passes}

-- ---- one word after another

module _ {A B : Type 0} (Q : B → Type 0) where
  -- what was read so far is as it was shown to be
  pub read : (R : A → Type 0) (m : Result A Code) (f : A → Result B Code) → IfOk m R → ((x : A) → R x → IfOk (f x) Q) → IfOk (m >>= f) Q
  read R (Ok x) f r h = h x r
  read R (Err code) f r h = tt

  pub read_any : (m : Result A Code) (f : A → Result B Code) → ((x : A) → IfOk (f x) Q) → IfOk (m >>= f) Q
  read_any (Ok x) f h = h x
  read_any (Err code) f h = tt

module _ {A : Type 0} (Q : A → Type 0) where
  if_ok : (b : Bool) (code : Code) (r : Result A Code) → (b ≡ false → IfOk r Q) → IfOk (cond b (Err code) r) Q
  if_ok true code r h = tt
  if_ok false code r h = h refl

  pub then_ok : (b : Bool) (code : Code) (r : Result A Code) → (b ≡ true → IfOk r Q) → IfOk (cond b r (Err code)) Q
  then_ok true code r h = h refl
  then_ok false code r h = tt

-- ---- single words

number_of_max : (max : ℕ) (word : List ℕ) (b : Bool) → (is_numeral word && nat_le (digits_value 10 word) max) ≡ b
    → IfOk (ok_or (cond b (Some (digits_value 10 word)) None) C412) (λ n. n ≤ max)
number_of_max max word b e = grind arith

pub number_in_range : (least most : ℕ) (word : List ℕ) → IfOk (number_in least most word) (λ n. (least ≤ n) × (n ≤ most))
number_in_range least most word = grind arith

pub text_read : (words : List (List ℕ)) → IfOk (text_of words) (λ t. IsTrue (is_text t))
text_read words = grind arith

pub bits_length : (words : List (List ℕ)) → IfOk (bits_of words) (λ bits. length bits ≡ length words)
bits_length [] = grind arith
bits_length (word ∷ words) = grind (arith, bits_length words)

time_tail : (word : List ℕ) (b : Bool)
    → IfOk (cond b (Ok None) (number_in 0 most_milliseconds word >>= (λ n. Ok (Some n)))) (λ t. IfSome t (λ n. n ≤ most_milliseconds))
time_tail word b = grind arith

pub time_range : (word : List ℕ) → IfOk (time_of word) (λ t. IfSome t (λ n. n ≤ most_milliseconds))
time_range word = time_tail word _

-- ---- what the bus has

module _ (buses : List Bus) (layout : IsLayout buses) (bus : Bus) (found : bus_at buses bus.number ≡ Some bus) where
  abbrev Fits : Result Command Code → Type 0
  Fits r = IfOk r (IsCommandOf buses)

  -- a device of the bus is one of the layout
  counted : (g : Group) (address : ℕ) → row_count buses (record { bus = bus.number; group = g; address = address }) ≡ rows_on bus g address
  counted g address = grind arith

  many : (most n count : ℕ) → 1 ≤ n → n ≤ most → rows_if (is_within 1 most n) count ≡ count
  many most n count low high = grind arith

  gl_rows : (address : ℕ) → 1 ≤ address → address ≤ bus.gl_max → row_count buses (device_in devices.Gl bus.number address) ≡ 2
  gl_rows address low high = grind arith

  ga_rows : (address : ℕ) → 1 ≤ address → address ≤ bus.ga_max
      → row_count buses (device_in devices.Ga bus.number address) ≡ 1 + bus.ga_ports
  ga_rows address low high = grind arith

  fb_rows : (port : ℕ) → 1 ≤ port → port ≤ bus.fb_ports
      → row_count buses (record { bus = bus.number; group = group.Fb; address = port }) ≡ 1
  fb_rows port low high = grind arith

  lock_rows : (g : DeviceGroup) (address : ℕ) → 1 ≤ address → address ≤ address_max bus g
      → row_count buses (lock_on g bus.number address) ≡ 1
  lock_rows g address low high = grind arith

  power_rows : bus.power ≡ true → row_count buses (record { bus = bus.number; group = group.Power; address = 0 }) ≡ 1
  power_rows on = counted group.Power 0 ∙ ap (λ b. rows_if (b && 0 == 0) 1) on

  -- an accessory of the bus has from two to eight ports
  abbrev HasPorts : Bus → Type 0
  HasPorts b = 0 < b.ga_max → (fewest_ports ≤ b.ga_ports) × (b.ga_ports ≤ most_ports)

  each_ports : (bs : List Bus) → AllByRecursion IsBus bs → AllByRecursion HasPorts bs
  each_ports [] h = tt
  each_ports (b ∷ bs) h = (h.0.ga_ports, each_ports bs h.1)

  ports : HasPorts bus
  ports = grind (arith, found_holds, each_ports)

  -- ---- the words of each pair

  alone_fits : (command : Command) (words : List (List ℕ)) → IsCommandOf buses command → Fits (alone command words)
  alone_fits command [] h = h
  alone_fits command (w ∷ ws) h = tt

  one_number_fits : (least most : ℕ) (make : ℕ → Command) (words : List (List ℕ))
      → ((n : ℕ) → least ≤ n → n ≤ most → IsCommandOf buses (make n)) → Fits (one_number least most make words)
  one_number_fits least most make words h = grind arith

  term_session_fits : (words : List (List ℕ)) → Fits (term_session words)
  term_session_fits words = grind arith

  powered_fits : (words : List (List ℕ)) → has_group bus Power ≡ true → IfOk (powered bus words) (IsPowerSwitch buses)
  powered_fits words on_bus = grind arith

  -- V in mode 2 is kept as 0
  kept_within : (mode v vmax : ℕ) → mode ≤ emergency_stop → v ≤ greatest_speed → vmax ≤ greatest_speed
      → (nat_le v vmax || vmax == 0) ≡ true → (b : Bool) → (mode == emergency_stop) ≡ b
      → IsSpeed mode (cond b 0 v) vmax
  kept_within mode v vmax m x y e b t = grind arith

  abbrev drive : (address mode v vmax : ℕ) (functions : List Bool) → Drive
  drive address mode v vmax functions =
      record { bus = bus.number; address = address; mode = mode; v = v; vmax = vmax; functions = functions }

  abbrev with_top : List (List ℕ) → (address mode v vmax : ℕ) → Result Drive Code
  with_top fs address mode v vmax =
      cond (nat_le v vmax || vmax == 0) (bits_of fs >>= (λ functions. Ok (drive address mode v vmax functions))) (Err C412)

  drive_fits : (fs : List (List ℕ)) → nat_lt most_functions (length fs) ≡ false → (address : ℕ) → 1 ≤ address → address ≤ bus.gl_max
      → (mode : ℕ) → mode ≤ emergency_stop → (v : ℕ) → v ≤ greatest_speed → (vmax : ℕ) → vmax ≤ greatest_speed
      → IfOk (with_top fs address mode v vmax) (IsDrive buses)
  drive_fits fs few address low high mode m v s vmax x =
      let short = ltb-false most_functions (length fs) few in
      let two = gl_rows address low high in
      then_ok (IsDrive buses) (nat_le v vmax || vmax == 0) C412
      (bits_of fs >>= (λ functions. Ok (drive address mode v vmax functions))) (λ e.
      read (IsDrive buses) (λ bits. length bits ≡ length fs) (bits_of fs) (λ functions. Ok (drive address mode v vmax functions))
      (bits_length fs) (λ functions n.
      (omega (arith, two), (refl, refl, kept_within mode v vmax m s x e (mode == emergency_stop) refl, omega (arith, n, short)))))

  number_read : (least most : ℕ) (word : List ℕ) (f : ℕ → Result Drive Code)
      → ((n : ℕ) → least ≤ n → n ≤ most → IfOk (f n) (IsDrive buses)) → IfOk (number_in least most word >>= f) (IsDrive buses)
  number_read least most word f h =
      read (IsDrive buses) (λ n. (least ≤ n) × (n ≤ most)) (number_in least most word) f (number_in_range least most word)
      (λ n r. h n r.0 r.1)

  driven_fits : (words : List (List ℕ)) → IfOk (driven bus words) (IsDrive buses)
  driven_fits [] = tt
  driven_fits (a ∷ []) = tt
  driven_fits (a ∷ m ∷ []) = tt
  driven_fits (a ∷ m ∷ v ∷ []) = tt
  driven_fits (a ∷ m ∷ v ∷ x ∷ fs) =
      let from_v : ℕ → ℕ → Result Drive Code =
      λ address mode. number_in 0 greatest_speed v >>= (λ speed. number_in 0 greatest_speed x >>= with_top fs address mode speed) in
      if_ok (IsDrive buses) (nat_lt most_functions (length fs)) C418
      (number_in 1 bus.gl_max a >>= (λ address. number_in 0 2 m >>= from_v address))
      (λ few. number_read 1 bus.gl_max a (λ address. number_in 0 2 m >>= from_v address) (λ address low high.
      number_read 0 2 m (from_v address) (λ mode l2 h2.
      number_read 0 greatest_speed v (λ speed. number_in 0 greatest_speed x >>= with_top fs address mode speed) (λ speed l3 h3.
      number_read 0 greatest_speed x (with_top fs address mode speed)
      (λ top l4 h4. drive_fits fs few address low high mode h2 speed h3 top h4)))))

  abbrev new_gl : (address : ℕ) → Letter → (version steps functions : ℕ) → NewGl
  new_gl address letter version steps functions =
      record { bus = bus.number; address = address; letter = letter; version = version; steps = steps; functions = functions }

  init_gl_fits : (words : List (List ℕ)) → IfOk (init_gl bus words) (λ gl. IsCommandOf buses (InitGl gl))
  init_gl_fits words = search (rules, then_ok, read, number_in_range, gl_rows, read_any)

  -- a port that the bus has, of an address that it has
  port_place : (address port : ℕ) → 1 ≤ address → address ≤ bus.ga_max → port ≤ bus.ga_ports - 1
      → IsKeyOf buses (key_at (device_in devices.Ga bus.number address) (1 + port)) × (1 + port ≤ most_ports)
  port_place address port low high h = grind (arith, ga_rows, ports)

  get_ga_fits : (words : List (List ℕ)) → Fits (get_ga bus words)
  get_ga_fits words = grind (arith, read, number_in_range, port_place)

  switched_fits : (words : List (List ℕ)) → IfOk (switched bus words) (IsSwitch buses)
  switched_fits words = search (rules, read, number_in_range, read_any, time_range, port_place)

  init_ga_fits : (words : List (List ℕ)) → IfOk (init_ga bus words) (λ ga. IsCommandOf buses (InitGa ga))
  init_ga_fits words = search (rules, read, number_in_range, read_any, ga_rows, ports)

  sensed_fits : (words : List (List ℕ)) → IfOk (sensed bus words) (IsSensor buses)
  sensed_fits words = grind arith

  abbrev target : DeviceGroup → (address : ℕ) → Target
  target group address = record { bus = bus.number; group = group; address = address }

  named_lock_fits : (words : List (List ℕ)) → IfOk (named_lock bus words) (IsLock buses)
  named_lock_fits words = grind arith

  timed_lock_fits : (words : List (List ℕ)) → IfOk (timed_lock bus words) (IsTimedLock buses)
  timed_lock_fits words = grind arith

  -- ---- the pairs

  -- a command is made of what was read
  made : {A : Type 0} (make : A → Command) (r : Result A Code) → IfOk r (λ x. IsCommandOf buses (make x)) → Fits (r >>= (λ x. Ok (make x)))
  made make (Ok x) h = h
  made make (Err code) h = tt

  asked_fits : (operation : Operation) (g : CommandGroup) (words : List (List ℕ)) → has_group bus g ≡ true
      → Fits (asked bus operation g words)
  asked_fits Get Session words on = one_number_fits 0 greatest_id GetSession words (λ n low high. omega arith)
  asked_fits Term Session words on = term_session_fits words
  asked_fits Get Power words on = alone_fits (GetPower bus.number) words (let one = power_rows on in omega (arith, one))
  asked_fits Set Power words on = made SetPower (powered bus words) (powered_fits words on)
  asked_fits Check Power words on = made CheckPower (powered bus words) (powered_fits words on)
  asked_fits Init Power words on = let one = power_rows on in omega (arith, one)
  asked_fits Get Gl words on =
      one_number_fits 1 bus.gl_max (GetGl bus.number) words (λ a low high. let two = gl_rows a low high in omega (arith, two))
  asked_fits Set Gl words on = made SetGl (driven bus words) (driven_fits words)
  asked_fits Check Gl words on = made CheckGl (driven bus words) (driven_fits words)
  asked_fits Init Gl words on = made InitGl (init_gl bus words) (init_gl_fits words)
  asked_fits Term Gl words on =
      one_number_fits 1 bus.gl_max (TermGl bus.number) words (λ a low high. let two = gl_rows a low high in omega (arith, two))
  asked_fits Get Ga words on = get_ga_fits words
  asked_fits Set Ga words on = made SetGa (switched bus words) (switched_fits words)
  asked_fits Check Ga words on = made CheckGa (switched bus words) (switched_fits words)
  asked_fits Init Ga words on = made InitGa (init_ga bus words) (init_ga_fits words)
  asked_fits Term Ga words on =
      one_number_fits 1 bus.ga_max (TermGa bus.number) words (λ a low high. let rows = ga_rows a low high in omega (arith, rows))
  asked_fits Get Fb words on =
      one_number_fits 1 bus.fb_ports (GetFb bus.number) words (λ p low high. let one = fb_rows p low high in omega (arith, one))
  asked_fits Set Fb words on = made SetFb (sensed bus words) (sensed_fits words)
  asked_fits Check Fb words on = made CheckFb (sensed bus words) (sensed_fits words)
  asked_fits Init Fb words on = tt
  asked_fits Get Lock words on = made GetLock (named_lock bus words) (named_lock_fits words)
  asked_fits Set Lock words on = made SetLock (timed_lock bus words) (timed_lock_fits words)
  asked_fits Check Lock words on = made CheckLock (timed_lock bus words) (timed_lock_fits words)
  asked_fits Term Lock words on = made TermLock (named_lock bus words) (named_lock_fits words)
  asked_fits operation g words on = tt

-- ---- the whole line

module _ (buses : List Bus) (layout : IsLayout buses) where
  -- a bus that was found by its number
  bus_step : (number : ℕ) (o : Option Bus) → bus_at buses number ≡ o → IfOk (ok_or o C412) (λ bus. bus_at buses bus.number ≡ Some bus)
  bus_step number o e = grind (arith, eqb-true, find_passes)

  bus_found : (o : Option ℕ) → IfOk (ok_or (option_and_then (bus_at buses) o) C412) (λ bus. bus_at buses bus.number ≡ Some bus)
  bus_found o = grind (arith, bus_step)

  directed_fits : (operation : Operation) (words : List (List ℕ)) → IfOk (directed buses operation words) (IsCommandOf buses)
  directed_fits operation [] = tt
  directed_fits operation (n ∷ []) = tt
  directed_fits operation (n ∷ w ∷ ws) = search (read, read_any, then_ok, bus_found (number_of greatest_bus n), asked_fits)

  parsed_fits : (words : List (List ℕ)) → IfOk (parsed buses words) (IsCommandOf buses)
  parsed_fits words = grind (arith, read_any, directed_fits)

  -- a line that reads as a command reads as one of the layout
  pub reads_fits : (line : List ℕ) → IfOk (reads buses line) (IsCommandOf buses)
  reads_fits line = parsed_fits (words_of line)
