-- The lines in which a box sends its orders, and the commands that they mean.
use Rattle.std.specs.Prelude.{ℕ, true, List, [], ◌∷◌, Some, codes, decimal}
use Rattle.srcp_info.specs.Line.{bit_word, spaced}
use Rattle.srcp_grammar.specs.declared.command.Command.{Command}
use Rattle.srcp_grammar.specs.declared.command.Command.TheVariants.{SetFb, SetGa, SetLock, TermLock}
use Rattle.srcp_grammar.specs.declared.command.DeviceGroup.TheVariants.{Ga}
use Rattle.srcp_grammar.specs.declared.command.Target.{Target}
use Rattle.srcp_routes.specs.declared.route.Device.{Device}
use Rattle.srcp_routes.specs.declared.route.Order.{Order}
use Rattle.srcp_routes.specs.declared.route.Order.TheVariants as order
use Rattle.srcp_routes.specs.declared.route.Setting.{Setting}

-- the milliseconds after which a port that a box sets falls back
abbrev pub pulse : ℕ
pulse = 250

-- the bytes of the words before the numbers of an order, at most
abbrev pub longest_words : ℕ
longest_words = 64

-- and those of the words and the numbers
abbrev pub longest_begun : ℕ
longest_begun = 80

-- a port of an accessory is set to 1, and falls back to 0
abbrev pub set_words : Setting → List (List ℕ)
set_words setting =
    codes "SET" ∷ decimal setting.device.bus ∷ codes "GA" ∷ decimal setting.device.address ∷ decimal setting.port
    ∷ codes "1" ∷ decimal pulse ∷ []

abbrev pub set_line : Setting → List ℕ
set_line setting = spaced (set_words setting)

-- the words of an order of a box whose routes have a bus of their own
abbrev pub order_words : (own : ℕ) → Order → List (List ℕ)
order_words own (order.Lock device) =
    codes "SET" ∷ decimal device.bus ∷ codes "LOCK" ∷ codes "GA" ∷ decimal device.address ∷ codes "0" ∷ []
order_words own (order.Throw setting) = set_words setting
order_words own (order.Show setting) = set_words setting
order_words own (order.Stop setting) = set_words setting
order_words own (order.Report number on) =
    codes "SET" ∷ decimal own ∷ codes "FB" ∷ decimal number ∷ bit_word on ∷ []
order_words own (order.Unlock device) =
    codes "TERM" ∷ decimal device.bus ∷ codes "LOCK" ∷ codes "GA" ∷ decimal device.address ∷ []

abbrev pub order_line : (own : ℕ) → Order → List ℕ
order_line own sent = spaced (order_words own sent)

-- the accessory, as commands name it
abbrev pub accessory : Device → Target
accessory device = record { bus = device.bus; group = Ga; address = device.address }

abbrev pub set_command : Setting → Command
set_command setting = SetGa (record {
  bus = setting.device.bus;
  address = setting.device.address;
  port = setting.port;
  on = true;
  time = Some pulse;
})

-- the command that an order means
abbrev pub command_of : (own : ℕ) → Order → Command
command_of own (order.Lock device) = SetLock (record { target = accessory device; seconds = 0 })
command_of own (order.Throw setting) = set_command setting
command_of own (order.Show setting) = set_command setting
command_of own (order.Stop setting) = set_command setting
command_of own (order.Report number is_set) = SetFb (record { bus = own; port = number; on = is_set })
command_of own (order.Unlock device) = TermLock (accessory device)
