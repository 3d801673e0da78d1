-- What the lines that a box is sent tell it.
use Rattle.std.specs.Prelude.{◌≡◌, ℕ, Bool, true, false, ◌&&◌, ◌||◌, ◌==◌, List, [], ◌∷◌, Option, Some, None, codes}
use Rattle.std.specs.Option.{option_map, option_or}
use Rattle.std.specs.Prelude.{if◌then◌else◌, nat_lt, option_and_then, position}
use Rattle.std.specs.Str.{bytes_eq}
use Rattle.srcp_text.specs.Words.{number_of, words_of}
use Rattle.srcp_info.specs.Limits.{greatest_bus}
use Rattle.srcp_info.specs.Read.{Reads}
use Rattle.srcp_info.specs.declared.change.Change.{Change}
use Rattle.srcp_info.specs.declared.change.Change.TheVariants.{Put, Gone}
use Rattle.srcp_info.specs.declared.key.Key.{Key}
use Rattle.srcp_info.specs.declared.value.Value.{Value}
use Rattle.srcp_info.specs.declared.value.Value.TheVariants.{GaPort, Fb}
use Rattle.srcp_routes.specs.declared.interlocking.Event.{Event}
use Rattle.srcp_routes.specs.declared.interlocking.Event.TheVariants.{Ask, Give, Told, Second, Reply, Lost}
use Rattle.srcp_routes.specs.declared.route.Device.{Device}
use Rattle.srcp_routes.specs.declared.route.Occupancy.{Occupancy}
use Rattle.srcp_routes.specs.declared.route.Occupancy.TheVariants as occupancy

-- ---- replies of the command session

-- `OK GO` and an id: a command session has begun
abbrev pub is_go : List (List ℕ) → Bool
is_go (ok ∷ go ∷ id ∷ []) = bytes_eq go (codes "GO")
is_go other = false

-- a code from 400 to 599
abbrev pub is_refusal : List ℕ → Bool
is_refusal (c ∷ code) = (c == 52) || (c == 53)
is_refusal [] = false

-- what follows the stamp of a reply: 200 accepts an order or begins a session, and a code from 400 on refuses an order
abbrev pub coded_event : (code : List ℕ) → (more : List (List ℕ)) → Option Event
coded_event code more =
    if bytes_eq code (codes "200") then Some (if is_go more then Lost else Reply true)
    else (if is_refusal code then Some (Reply false) else None)

-- what a line tells as a reply, by its words
abbrev pub reply_event : List (List ℕ) → Option Event
reply_event (stamp ∷ code ∷ more) = coded_event code more
reply_event other = None

-- ---- sensors that are not known any more

-- the greatest number of a bus or an address that is read
abbrev pub greatest_read : ℕ
greatest_read = 4294967295

-- the sensor that the words of a bus and of an address name
abbrev pub sensor_numbered : (bus address : ℕ) → Option Device
sensor_numbered bus address = if nat_lt greatest_bus bus then None else Some (record { bus = bus; address = address })

abbrev pub named_sensor : (bus address : List ℕ) → Option Device
named_sensor bus address = option_and_then (λ number. option_and_then (sensor_numbered number)
    (number_of greatest_read address)) (number_of greatest_read bus)

-- `102 INFO`, a bus, `FB` and an address
abbrev pub unknown_event : List (List ℕ) → Option Event
unknown_event (stamp ∷ code ∷ info ∷ bus ∷ group ∷ address ∷ []) =
    if bytes_eq code (codes "102") && bytes_eq group (codes "FB")
    then option_map (λ sensor. Told sensor occupancy.Unknown) (named_sensor bus address) else None
unknown_event other = None

-- ---- time

-- `100 INFO`, a bus and `TIME`: a second has passed
abbrev pub second_event : List (List ℕ) → Option Event
second_event (stamp ∷ code ∷ info ∷ bus ∷ group ∷ []) =
    if bytes_eq code (codes "100") && bytes_eq group (codes "TIME") then Some Second else None
second_event other = None

-- what a line tells by its words
abbrev pub words_event : List (List ℕ) → Option Event
words_event words = option_or (reply_event words) (option_or (unknown_event words) (second_event words))

-- ---- changes that a panel is told of

-- port 1 asks for the route at a place, and port 0 gives it back; the row of a port stands one above its number
abbrev pub port_event : (port : ℕ) → (n : ℕ) → Option Event
port_event port n = if port == 2 then Some (Ask n) else (if port == 1 then Some (Give n) else None)

-- the place of the route with this number
abbrev pub place_of : List ℕ → (number : ℕ) → Option ℕ
place_of numbers number = position (λ other. other == number) numbers

-- what a sensor is known to be that is on or off
abbrev pub occupancy_of : Bool → Occupancy
occupancy_of on = if on then occupancy.Occupied else occupancy.Free

module _ (own : ℕ) (numbers : List ℕ) where
  -- what a row tells: a port that is 1 of an accessory of the routes' own bus, and every sensor
  abbrev pub row_event : Key → Value → Option Event
  row_event key (GaPort on) =
      if on && (key.bus == own) then option_and_then (port_event key.port) (place_of numbers key.address) else None
  row_event key (Fb on) =
      Some (Told (record { bus = key.bus; address = key.address }) (occupancy_of on))
  row_event key other = None

  abbrev pub change_event : Change → Option Event
  change_event (Put shown) = row_event shown.key shown.value
  change_event (Gone stamp device) = None

  -- a line tells of what its change tells, if it is that of a change
  pub record HearsChange (text : List ℕ) (event : Option Event) : Type 0 where
    pub change : Option Change
    pub reads : Reads text change
    pub same : event ≡ option_and_then change_event change

  -- a line tells of what it does by its words, or else of what its change tells
  abbrev pub HearsBy : (by_words : Option Event) → (text : List ℕ) → (event : Option Event) → Type 0
  HearsBy (Some told) text event = event ≡ Some told
  HearsBy None text event = HearsChange text event

  -- a line tells a box of this event, or of none
  abbrev pub Hears : (text : List ℕ) → (event : Option Event) → Type 0
  Hears text event = HearsBy (words_event (words_of text)) text event
