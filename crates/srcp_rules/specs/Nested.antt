-- How a keeper lays out rows: a record for each bus, with the devices that come and go by address.
use Rattle.std.specs.Prelude.{◌≡◌, ℕ, ◌<◌, false, IsTrue, List, ◌∷◌, length, map, flat_map, Option}
use Rattle.std.specs.List.{AllByRecursion}
use Rattle.std.specs.List.Sorted.{IsStrictlySortedBy}
use Rattle.std.specs.Map.{keys_of, lookup}
use Rattle.std.specs.Option.{option_to_list}
use Rattle.std.specs.Ordering.{nat_cmp}
use Rattle.std.specs.BTreeMap.{is_at}
use Rattle.srcp_info.specs.declared.key.Key.{Key}
use Rattle.srcp_info.specs.declared.key.Group.{Group}
use Rattle.srcp_info.specs.declared.key.Group.TheVariants.{Session, Power, Gl, Ga, Fb, LockGl, LockGa}
use Rattle.srcp_info.specs.declared.key.Device.{Device}
use Rattle.srcp_info.specs.WellFormed.{can_go}
use Rattle.srcp_grammar.specs.declared.layout.Bus.{Bus}
use Rattle.srcp_grammar.specs.Layout.{IsLayout, row_count, server}
use Rattle.srcp_rules.specs.State.{State, IsRising, is_there}
use Rattle.srcp_rules.specs.declared.nested.bus_rows.BusRows.{BusRows}
use Rattle.srcp_info.specs.declared.key.TheConstants.{GROUPS}

-- ---- entries by number

-- the rows of all entries, in turn
abbrev pub listed : {X : Type 0} → (X → State) → List (ℕ × X) → State
listed rows entries = flat_map (λ e. rows e.1) entries

-- the numbers of the entries rise
abbrev pub AreSorted : {X : Type 0} → List (ℕ × X) → Type 0
AreSorted entries = IsStrictlySortedBy nat_cmp (keys_of entries)

-- the entry at the number
abbrev pub entry_at : {X : Type 0} → ℕ → List (ℕ × X) → Option X
entry_at number entries = lookup (is_at (nat_cmp number)) entries

-- ---- devices that come and go

-- the rows of devices by address
abbrev pub device_rows : List (ℕ × State) → State
device_rows devices = listed (λ rows. rows) devices

module _ (bus : ℕ) where
  -- the key is of the group of the bus
  abbrev pub IsIn : Group → Key → Type 0
  IsIn group key = (key.bus ≡ bus) × (key.group ≡ group)

  -- these are rows of the device at the address in the group of the bus, by rising port
  pub record AreOfDevice (group : Group) (address : ℕ) (rows : State) : Type 0 where
    pub rising : IsRising rows
    pub each : AllByRecursion (λ row. IsIn group row.shown.key × (row.shown.key.address ≡ address)) rows
    pub some : 0 < length rows

  -- these are devices of the group of the bus, by address
  pub record AreDevices (group : Group) (devices : List (ℕ × State)) : Type 0 where
    pub each : AllByRecursion (λ e. AreOfDevice group e.0 e.1) devices
    pub sorted : AreSorted devices

  -- these are rows of the group of the bus, by rising key
  pub record AreOfGroup (group : Group) (rows : State) : Type 0 where
    pub rising : IsRising rows
    pub each : AllByRecursion (λ row. IsIn group row.shown.key) rows

  -- these are rows of the bus, each in the row's group
  pub record AreRowsOfBus (rows : BusRows) : Type 0 where
    pub sessions : AreOfGroup Session rows.sessions.items
    pub power : AreOfGroup Power (option_to_list rows.power)
    pub locomotives : AreDevices Gl rows.locomotives
    pub accessories : AreDevices Ga rows.accessories
    pub feedback : AreOfGroup Fb rows.feedback.items
    pub locomotive_locks : AreDevices LockGl rows.locomotive_locks
    pub accessory_locks : AreDevices LockGa rows.accessory_locks

-- ---- the rows of a bus, group by group in the order of a listing

-- the rows of a group of a bus
abbrev pub group_rows : BusRows → Group → State
group_rows rows Session = rows.sessions.items
group_rows rows Power = option_to_list rows.power
group_rows rows Gl = device_rows rows.locomotives
group_rows rows Ga = device_rows rows.accessories
group_rows rows Fb = rows.feedback.items
group_rows rows LockGl = device_rows rows.locomotive_locks
group_rows rows LockGa = device_rows rows.accessory_locks

-- the rows of a bus, group by group in the order of a listing
abbrev pub bus_rows : BusRows → State
bus_rows rows = flat_map (group_rows rows) GROUPS

-- ---- the rows of all buses

-- these are the rows of the server's own bus and of each bus of the layout
pub record AreRowsOfLayout (buses : List Bus) (rows : List (ℕ × BusRows)) : Type 0 where
  pub laid_out : IsLayout buses
  pub each : AllByRecursion (λ e. AreRowsOfBus e.0 e.1) rows
  pub sorted : AreSorted rows
  pub numbers : keys_of rows ≡ map (λ bus. bus.number) (server ∷ buses)
  -- the power and the feedback ports of the layout are there
  pub stays : (device : Device) → can_go device.group ≡ false → 0 < row_count buses device
      → IsTrue (is_there device (listed bus_rows rows))
