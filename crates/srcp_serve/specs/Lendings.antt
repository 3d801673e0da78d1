-- To be believed: what a lending changes of the course of any events.
use Rattle.std.specs.Prelude.{◌≡◌, ℕ, zero, suc, ◌==◌, Bool, false, if◌then◌else◌, List, [], ◌∷◌}
use Rattle.srcp_grammar.specs.Layout.{IsLayout}
use Rattle.srcp_grammar.specs.declared.layout.Bus.{Bus}
use Rattle.srcp_core.specs.Course.{World, course}
use Rattle.srcp_core.specs.Under.{Event, Room}

-- the event lends the bytes of a write: room for no bytes, right before room for some of the same connection
abbrev pub is_lending : Event → List Event → Bool
is_lending (Room n zero) (Room m (suc bytes) ∷ events) = n == m
is_lending event events = false

-- the events without the lendings of writes: each write that took bytes is one room
abbrev pub without_lendings : List Event → List Event
without_lendings [] = []
without_lendings (event ∷ events) =
    if is_lending event events then without_lendings events else event ∷ without_lendings events

-- the world without the number of its events, and without those that were refused
abbrev pub without_numbers : World → World
without_numbers w = record w { refused = []; events = 0 }

-- over any layout, the course is that of the events without lendings, but for these numbers
abbrev pub LendingsTellNothing : List Bus → Type 0
LendingsTellNothing buses = IsLayout buses → (events : List Event)
    → without_numbers (course buses events) ≡ without_numbers (course buses (without_lendings events))
