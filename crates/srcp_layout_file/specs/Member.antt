-- Values of a TOML document: that each is there, of its type and within its limits.
use Rattle.std.specs.Prelude.{ℕ, List, [], ◌∷◌, Option, Some, None, Result, Ok, Err, ok_or, pos, if◌then◌else◌}
use Rattle.std.specs.Str.{is_utf8}
use Rattle.toml.specs.Parse.{parse_document}
use Rattle.toml.specs.Data.{Data, integer, array, Items, no_items, item, Members, get_member}
use Rattle.srcp_grammar.specs.Layout.{is_within}
use Rattle.srcp_layout_file.specs.Gives.{◌>>=◌}

-- a key by its name, with the fault of a document without it, and that of a value beyond what it may be
pub record Named (E : Type 0) : Type 0 where
  pub name : List ℕ
  pub missing : E
  pub beyond : E

-- the document that the bytes write, if they write one
abbrev pub document : {E : Type 0} → (not_toml : E) → List ℕ → Result Members E
document not_toml bytes = if is_utf8 bytes then ok_or (parse_document bytes) not_toml else Err not_toml

-- ---- values

-- an integer from low to high
abbrev pub ranged : {E : Type 0} → (low high : ℕ) → (beyond : E) → Data → Result ℕ E
ranged low high beyond (integer (pos n)) = if is_within low high n then Ok n else Err beyond
ranged low high beyond other = Err beyond

-- the values of an array in their order
abbrev pub list_of : Items → List Data
list_of no_items = []
list_of (item value values) = value ∷ list_of values

-- the values of an array
abbrev pub array_in : {E : Type 0} → (beyond : E) → Data → Result (List Data) E
array_in beyond (array values) = Ok (list_of values)
array_in beyond other = Err beyond

-- what is read of a value, if there is one
abbrev pub if_given : {A E : Type 0} → (otherwise : A) → (read : Data → Result A E) → Option Data → Result A E
if_given otherwise read None = Ok otherwise
if_given otherwise read (Some value) = read value

-- ---- keys

-- the value at the key
abbrev pub value_at : {E : Type 0} → Named E → Members → Option Data
value_at key members = get_member key.name members

-- the value at the key, which must be there
abbrev pub required : {E : Type 0} → Named E → Members → Result Data E
required key members = ok_or (value_at key members) key.missing

-- the values of the array at the key, which must be there
abbrev pub array_at : {E : Type 0} → Named E → Members → Result (List Data) E
array_at key members = required key members >>= array_in key.beyond

-- the integer at the key, which must be there
abbrev pub number_at : {E : Type 0} → (low high : ℕ) → Named E → Members → Result ℕ E
number_at low high key members = required key members >>= ranged low high key.beyond

-- the integer at the key, or the default if it is not given
abbrev pub given_or : {E : Type 0} → (default low high : ℕ) → Named E → Members → Result ℕ E
given_or default low high key members = if_given default (ranged low high key.beyond) (value_at key members)
