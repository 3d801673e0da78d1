-- Which commands a layout has: the layout has the device, and the words are in range.
use Rattle.std.specs.Prelude.{◌≡◌, ℕ, ◌+◌, ◌≤◌, ◌<◌, ◌==◌, ⊤, List, IfSome, if◌then◌else◌}
use Rattle.srcp_info.specs.declared.key.Device.{Device}
use Rattle.srcp_info.specs.declared.value.Value.{Value}
use Rattle.srcp_info.specs.declared.value.Value.TheVariants.{Power, GlInit, GlState, GaPort}
use Rattle.srcp_info.specs.Limits.{emergency_stop, greatest_id, most_milliseconds, most_ports, most_seconds}
use Rattle.srcp_info.specs.WellFormed.{IsValueAt}
use Rattle.srcp_grammar.specs.declared.layout.Bus.{Bus}
use Rattle.srcp_grammar.specs.declared.command.DeviceGroup.TheVariants.{Gl, Ga}
use Rattle.srcp_grammar.specs.declared.command.Drive.{Drive}
use Rattle.srcp_grammar.specs.declared.command.Switch.{Switch}
use Rattle.srcp_grammar.specs.declared.command.PowerSwitch.{PowerSwitch}
use Rattle.srcp_grammar.specs.declared.command.Sensor.{Sensor}
use Rattle.srcp_grammar.specs.declared.command.Target.{Target}
use Rattle.srcp_grammar.specs.declared.command.TimedLock.{TimedLock}
use Rattle.srcp_grammar.specs.declared.command.Command.{Command}
use Rattle.srcp_grammar.specs.declared.command.Command.TheVariants.{GetSession, TermSession, GetPower, SetPower}
use Rattle.srcp_grammar.specs.declared.command.Command.TheVariants.{CheckPower, InitPower, GetGl, SetGl, CheckGl}
use Rattle.srcp_grammar.specs.declared.command.Command.TheVariants.{InitGl, TermGl, GetGa, SetGa, CheckGa, InitGa}
use Rattle.srcp_grammar.specs.declared.command.Command.TheVariants.{TermGa, GetFb, SetFb, CheckFb, InitFb, GetLock}
use Rattle.srcp_grammar.specs.declared.command.Command.TheVariants.{SetLock, CheckLock, TermLock}
use Rattle.srcp_grammar.specs.Layout.{row_count}
use Rattle.srcp_grammar.specs.Devices.{power_device, fb_device, device_in, lock_at}

-- V as the registry keeps V: 0 in an emergency stop
abbrev pub kept_speed : (mode v : ℕ) → ℕ
kept_speed mode v = if mode == emergency_stop then 0 else v

module _ (buses : List Bus) where
  -- the layout has the row at the device's port, and this row may have the value
  abbrev pub IsSetting : Device → (port : ℕ) → Value → Type 0
  IsSetting device port shows = (port < row_count buses device) × IsValueAt device.group port shows

  -- the settings of a locomotive
  abbrev pub IsDrive : Drive → Type 0
  IsDrive drive =
      IsSetting (device_in Gl drive.bus drive.address) 1
      (GlState drive.mode (kept_speed drive.mode drive.v) drive.vmax drive.functions)

  -- the settings of an accessory's port
  abbrev pub IsSwitch : Switch → Type 0
  IsSwitch switch =
      IsSetting (device_in Ga switch.bus switch.address) (1 + switch.port) (GaPort switch.on)
      × IfSome switch.time (λ t. t ≤ most_milliseconds)

  -- the settings of a power
  abbrev pub IsPowerSwitch : PowerSwitch → Type 0
  IsPowerSwitch power = IsSetting (power_device power.bus) 0 (Power power.on power.text)

  -- a sensor of the layout
  abbrev pub IsSensor : Sensor → Type 0
  IsSensor sensor = 0 < row_count buses (fb_device sensor.bus sensor.port)

  -- the lock of a device of the layout
  abbrev pub IsLock : Target → Type 0
  IsLock target = 0 < row_count buses (lock_at target)

  -- the settings of a lock
  abbrev pub IsTimedLock : TimedLock → Type 0
  IsTimedLock lock = IsLock lock.target × (lock.seconds ≤ most_seconds)

  -- a command of the layout, as each command read of a line is: the layout has the device, and the words are in range.
  -- A new accessory has the ports of the bus's accessories, and INIT of sensors has no condition
  abbrev pub IsCommandOf : Command → Type 0
  IsCommandOf (GetSession session) = session ≤ greatest_id
  IsCommandOf (TermSession session) = IfSome session (λ n. n ≤ greatest_id)
  IsCommandOf (GetPower bus) = 0 < row_count buses (power_device bus)
  IsCommandOf (SetPower power) = IsPowerSwitch power
  IsCommandOf (CheckPower power) = IsPowerSwitch power
  IsCommandOf (InitPower bus) = 0 < row_count buses (power_device bus)
  IsCommandOf (GetGl bus address) = 1 < row_count buses (device_in Gl bus address)
  IsCommandOf (SetGl drive) = IsDrive drive
  IsCommandOf (CheckGl drive) = IsDrive drive
  IsCommandOf (InitGl gl) =
      IsSetting (device_in Gl gl.bus gl.address) 0 (GlInit gl.letter gl.version gl.steps gl.functions)
  IsCommandOf (TermGl bus address) = 0 < row_count buses (device_in Gl bus address)
  IsCommandOf (GetGa bus address port) = 1 + port < row_count buses (device_in Ga bus address)
  IsCommandOf (SetGa switch) = IsSwitch switch
  IsCommandOf (CheckGa switch) = IsSwitch switch
  IsCommandOf (InitGa ga) =
      (row_count buses (device_in Ga ga.bus ga.address) ≡ 1 + ga.ports) × (ga.ports ≤ most_ports)
  IsCommandOf (TermGa bus address) = 0 < row_count buses (device_in Ga bus address)
  IsCommandOf (GetFb bus port) = 0 < row_count buses (fb_device bus port)
  IsCommandOf (SetFb sensor) = IsSensor sensor
  IsCommandOf (CheckFb sensor) = IsSensor sensor
  IsCommandOf (InitFb bus) = ⊤
  IsCommandOf (GetLock target) = IsLock target
  IsCommandOf (SetLock lock) = IsTimedLock lock
  IsCommandOf (CheckLock lock) = IsTimedLock lock
  IsCommandOf (TermLock target) = IsLock target
