-- The devices of commands, their locks, and the keys of their rows.
use Rattle.std.specs.Prelude.{ℕ}
use Rattle.srcp_info.specs.declared.key.Group.{Group}
use Rattle.srcp_info.specs.declared.key.Group.TheVariants.{Session, Power, Gl, Ga, Fb, LockGl, LockGa}
use Rattle.srcp_info.specs.declared.key.Key.{Key}
use Rattle.srcp_info.specs.declared.key.Device.{Device}
use Rattle.srcp_grammar.specs.declared.command.DeviceGroup.{DeviceGroup}
use Rattle.srcp_grammar.specs.declared.command.DeviceGroup.TheVariants as devices
use Rattle.srcp_grammar.specs.declared.command.Target.{Target}

-- the key of a device's row
abbrev pub key_at : Device → (port : ℕ) → Key
key_at device port = record { bus = device.bus; group = device.group; address = device.address; port = port }

-- the device of a session
abbrev pub session_device : (session : ℕ) → Device
session_device session = record { bus = 0; group = Session; address = session }

-- the power of a bus
abbrev pub power_device : (bus : ℕ) → Device
power_device bus = record { bus = bus; group = Power; address = 0 }

-- a feedback port of a bus
abbrev pub fb_device : (bus port : ℕ) → Device
fb_device bus port = record { bus = bus; group = Fb; address = port }

-- the group of devices with locks
abbrev pub device_group : DeviceGroup → Group
device_group devices.Gl = Gl
device_group devices.Ga = Ga

-- the group of their locks
abbrev pub lock_group : DeviceGroup → Group
lock_group devices.Gl = LockGl
lock_group devices.Ga = LockGa

-- a locomotive or an accessory
abbrev pub device_in : DeviceGroup → (bus address : ℕ) → Device
device_in group bus address = record { bus = bus; group = device_group group; address = address }

-- the lock of a locomotive or an accessory, which is a device too
abbrev pub lock_on : DeviceGroup → (bus address : ℕ) → Device
lock_on group bus address = record { bus = bus; group = lock_group group; address = address }

-- the locomotive or the accessory of a target
abbrev pub device_at : Target → Device
device_at target = device_in target.group target.bus target.address

-- and the lock of the target
abbrev pub lock_at : Target → Device
lock_at target = lock_on target.group target.bus target.address
