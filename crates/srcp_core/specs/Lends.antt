-- To be believed: what an open connection accepts and lends, in the course of any events.
use Rattle.std.specs.Prelude.{◌≡◌, ℕ, ◌<◌, ◌≤◌, true, List, [], ◌∷◌, ◌++◌, length, None, IsSome, is_none}
use Rattle.srcp_info.specs.Limits.{most_in_piece}
use Rattle.srcp_grammar.specs.Layout.{IsLayout}
use Rattle.srcp_grammar.specs.declared.layout.Bus.{Bus}
use Rattle.srcp_core.specs.Agrees.{lent}
use Rattle.srcp_core.specs.Agrees.{lends_none as lends_none_in}
use Rattle.srcp_core.specs.Connection.{is_nil}
use Rattle.srcp_core.specs.Course.{course, fault, open_connection}
use Rattle.srcp_core.specs.Laws.{without_events}
use Rattle.srcp_core.specs.Under.{Event, Bytes, Room, Shut, Piece, giving}

module _ (buses : List Bus) where
  -- the connection of that number is open after the events
  abbrev pub IsOpenAfter : List Event → ℕ → Type 0
  IsOpenAfter events n = IsSome (open_connection (course buses events) n)

  -- a connection that accepts a piece of no bytes accepts each; an open one can be hung up; a room for no bytes leaves
  -- nothing to be lent exactly if it overran, or its replies are taken and its session is settled; and that room with
  -- one for some bytes behind it is one room, in all but the number of events
  pub record AcceptsAndLends : Type 0 where
    pub takes : (events : List Event) (n : ℕ) (piece : Piece)
        → is_none (fault buses (course buses events) (Bytes n (giving []))) ≡ true → length piece.bytes ≤ most_in_piece
        → fault buses (course buses events) (Bytes n piece) ≡ None
    pub shuts : (events : List Event) (n : ℕ) → IsOpenAfter events n → fault buses (course buses events) (Shut n) ≡ None
    pub lends_none : IsLayout buses → (events : List Event) (n : ℕ) → IsOpenAfter events n
        → is_nil (lent buses (course buses (events ++ Room n 0 ∷ [])) n) ≡ lends_none_in buses (course buses events) n
    pub lent_and_sent : IsLayout buses → (events : List Event) (n count : ℕ) → IsOpenAfter events n → 0 < count
        → without_events (course buses (events ++ Room n 0 ∷ Room n count ∷ []))
        ≡ without_events (course buses (events ++ Room n count ∷ []))
