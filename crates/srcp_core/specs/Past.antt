-- To be believed: what has happened to a core, and what its calls add.
use Rattle.std.specs.Prelude.{ℕ, zero, suc, ◌+◌, ◌==◌, Bool, true, false, if◌then◌else◌, List, [], ◌∷◌, ◌++◌, Option}
use Rattle.std.specs.Prelude.{◌≡◌, Some, None, Result, MatchResult}
use Rattle.std.specs.Option.{option_map_or}
use Rattle.srcp_grammar.specs.declared.layout.Bus.{Bus}
use Rattle.srcp_core.specs.Course.{World, course, denied_over, fault, start}
use Rattle.srcp_core.specs.Agrees.{lent}
use Rattle.srcp_core.specs.Recording.{without_key}
use Rattle.srcp_core.specs.declared.record.CoreFault.{CoreFault}
use Rattle.srcp_core.specs.declared.record.CoreFault.TheVariants.{Full}
use Rattle.srcp_core.specs.Under.{Event, Bytes, Room, Shut, denied_by}

-- all that has happened to a core
pub record Past : Type 0 where
  pub buses : List Bus  -- the layout
  pub events : List Event  -- each with what memory answered
  pub keys : List (Option ℕ)  -- the key of each connection, by its number, while it is open

-- what it came to
abbrev pub course_of : Past → World
course_of past = course past.buses past.events

-- the number of the connection that has the key, counted on from that one, 0 if none has
abbrev pub number_from : ℕ → ℕ → List (Option ℕ) → ℕ
number_from n key [] = 0
number_from n key (one ∷ keys) =
    if option_map_or (λ k. k == key) one false then n else number_from (suc n) key keys

-- the same, counted from 1
abbrev pub number_in : ℕ → List (Option ℕ) → ℕ
number_in key keys = number_from 1 key keys

-- the same of a core
abbrev pub number : ℕ → Past → ℕ
number key past = number_in key past.keys

-- nothing has happened
abbrev pub no_past : List Bus → Past
no_past buses = record { buses = buses; events = []; keys = [] }

-- one event more
abbrev pub happened : Event → Past → Past
happened event past = record past { events = past.events ++ event ∷ [] }

-- the newest connection has the key
abbrev pub keyed : ℕ → Past → Past
keyed key past = record past { keys = past.keys ++ Some key ∷ [] }

-- what memory answered if no connection is opened: it is not asked if the most are open
abbrev pub answer_at : CoreFault → Bool
answer_at Full = true
answer_at other = false

-- why an event is refused, if it is
abbrev pub refusal : Past → Event → Option CoreFault
refusal past event = fault past.buses (course_of past) event

-- the answer to a call is that of the event
abbrev pub Says : {T : Type 0} → Past → Event → Result T CoreFault → Type 0
Says past event result = MatchResult result (λ _. refusal past event ≡ None) (λ cause. refusal past event ≡ Some cause)

-- how many allocations were refused
abbrev pub denied : Past → ℕ
denied past = denied_over past.buses 0 start past.events

-- a piece came in; memory answered its lines in some way, and each refusal was counted
pub record Receives (key : ℕ) (piece : List ℕ) (old new : Past) : Type 0 where
  pub grants : List Bool
  pub is : new ≡ happened (Bytes (number key old) (record { bytes = piece; grants = grants })) old
  pub counted : denied new ≡ denied_by (denied old) grants

-- the bytes that the connection lends
abbrev pub lent_at : ℕ → Past → List ℕ
lent_at key past = lent past.buses (course_of past) (number key past)

-- a connection was hung up
abbrev pub hung_up : ℕ → Past → Past
hung_up key past = record (happened (Shut (number key past)) past) { keys = without_key (number key past) past.keys }

-- there was room for that many bytes, if for any
abbrev pub room_for : ℕ → ℕ → Past → Past
room_for key count past = if count == 0 then past else happened (Room (number key past) count) past
