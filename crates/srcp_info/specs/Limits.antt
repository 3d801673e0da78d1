-- The limits of rows, lines, pieces and panels, each a number here and a name elsewhere.
use Rattle.std.specs.Prelude.{ℕ}

-- the greatest number of a bus; the least is 1, since bus 0 is the server itself
abbrev pub greatest_bus : ℕ
greatest_bus = 250

-- the greatest address of a locomotive
abbrev pub greatest_gl : ℕ
greatest_gl = 10239

-- the greatest address of an accessory
abbrev pub greatest_ga : ℕ
greatest_ga = 2044

-- the greatest number of a sensor
abbrev pub greatest_fb : ℕ
greatest_fb = 4096

-- the fewest ports of an accessory
abbrev pub fewest_ports : ℕ
fewest_ports = 2

-- the most ports of an accessory
abbrev pub most_ports : ℕ
most_ports = 8

-- the greatest version of a decoder's protocol
abbrev pub greatest_version : ℕ
greatest_version = 255

-- the most speed steps of a decoder
abbrev pub most_steps : ℕ
most_steps = 1000

-- the most functions of a locomotive
abbrev pub most_functions : ℕ
most_functions = 29

-- the mode of an emergency stop, the greatest mode of a locomotive
abbrev pub emergency_stop : ℕ
emergency_stop = 2

-- the greatest V and the greatest Vmax of a command
abbrev pub greatest_speed : ℕ
greatest_speed = 65535

-- the most seconds for which a lock is set
abbrev pub most_seconds : ℕ
most_seconds = 86400

-- the most milliseconds for which a port of an accessory is set
abbrev pub most_milliseconds : ℕ
most_milliseconds = 60000

-- the greatest id of a session
abbrev pub greatest_id : ℕ
greatest_id = 4294967295

-- the most bytes of the text of a power row
abbrev pub longest_text : ℕ
longest_text = 80

-- the most bytes of a line, LF included
abbrev pub longest_line : ℕ
longest_line = 126

-- the most bytes of the line of a reply without a row, LF included
abbrev pub longest_short_reply : ℕ
longest_short_reply = 64

-- the most bytes of a piece, which a single call hands to a connection
abbrev pub most_in_piece : ℕ
most_in_piece = 256

-- the most waiting changes of a panel
abbrev pub most_waiting : ℕ
most_waiting = 256

-- the greatest number of 64 bits: the last moment, and the end of a count
abbrev pub greatest_u64 : ℕ
greatest_u64 = 18446744073709551615
