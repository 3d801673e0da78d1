-- The limits of what stations say and are told, each a number here and a name elsewhere.
use Rattle.std.specs.Prelude.{ℕ}

-- the greatest address of a locomotive
abbrev pub greatest_cab : ℕ
greatest_cab = 10239

-- the greatest step of a speed
abbrev pub greatest_step : ℕ
greatest_step = 126

-- the greatest number of a function of a locomotive
abbrev pub greatest_function : ℕ
greatest_function = 28

-- the greatest address of a turnout
abbrev pub greatest_turnout : ℕ
greatest_turnout = 2044

-- the greatest number of a sensor, or of a slot, that a station says
abbrev pub greatest_number : ℕ
greatest_number = 99999

-- the greatest count of slots that a station says
abbrev pub greatest_count : ℕ
greatest_count = 9999

-- the bit of the code of a speed that is on if a locomotive drives forward
abbrev pub forward_bit : ℕ
forward_bit = 128

-- the letter of the first track
abbrev pub first_letter : ℕ
first_letter = 65

-- the greatest value of a CV
abbrev pub greatest_value : ℕ
greatest_value = 255

-- the greatest number of a CV of a decoder
abbrev pub greatest_cv : ℕ
greatest_cv = 1024

-- the most tracks that have a letter
abbrev pub most_tracks : ℕ
most_tracks = 8

-- how many values a byte has
abbrev pub byte_values : ℕ
byte_values = 256

-- the bytes of a dataset before its data
abbrev pub head_length : ℕ
head_length = 4

-- the header of a command of the X-BUS
abbrev pub xbus_header : ℕ
xbus_header = 64

-- the bytes of such a command, at most
abbrev pub most_in_command : ℕ
most_in_command = 8

-- the bytes of a command, at most
abbrev pub longest_tell : ℕ
longest_tell = 16

-- the bytes of a word of a line, at most
abbrev pub longest_word : ℕ
longest_word = 11
