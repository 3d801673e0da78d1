-- To be believed: that a door makes no panel overrun, by the log of its system alone.
use Rattle.std.specs.Prelude.{◌≡◌, ℕ, List, [], map}
use Rattle.srcp_grammar.specs.Layout.{IsLayout}
use Rattle.srcp_grammar.specs.declared.layout.Bus.{Bus}
use Rattle.srcp_core.specs.Connection.{Connection}
use Rattle.srcp_core.specs.Course.{course}
use Rattle.srcp_core.specs.Waits.{IsOverrun}
use Rattle.srcp_serve.specs.Given.{Call, door_call}
use Rattle.srcp_serve.specs.Pacing.{FitsReserve, OfEachTurnAfter}
use Rattle.srcp_serve.specs.Serving.{IsServed, empty_stand, events_of, turns}
use Rattle.srcp_peers.specs.Steps.{Step, calls}

-- if some turns ask these calls, and moments and ends of sessions fit the reserve in each, no panel ever overran
abbrev pub PanelsAreKept : List Step → Type 0
PanelsAreKept log = (buses : List Bus) → IsLayout buses → (count : ℕ) (trace : List Call) → IsServed buses count trace
    → map door_call trace ≡ calls log → OfEachTurnAfter buses (FitsReserve buses) [] empty_stand (turns trace)
    → (number : ℕ) (later : Connection) → IsOverrun buses (course buses (events_of buses trace)) number later → ⊥
