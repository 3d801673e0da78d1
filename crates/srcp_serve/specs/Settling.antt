-- To be believed: how soon an information session has nothing more to get, if its peer takes all that it is handed.
use Rattle.std.specs.Prelude.{◌≡◌, ℕ, ◌+◌, ◌*◌, ◌≤◌, if◌then◌else◌, true, false, fold, List, [], ◌++◌, length}
use Rattle.std.specs.Prelude.{slice_get, Some}
use Rattle.std.specs.List.{list_any, AllByRecursion}
use Rattle.srcp_door.specs.Limits.{most_writes}
use Rattle.srcp_grammar.specs.Layout.{IsLayout}
use Rattle.srcp_grammar.specs.declared.layout.Bus.{Bus}
use Rattle.srcp_core.specs.Connection.{Connection, is_nil, is_settled, owed, unsent, waiting}
use Rattle.srcp_core.specs.Course.{World, course, history, numbered, rows}
use Rattle.srcp_core.specs.Under.{Event}
use Rattle.srcp_core.specs.Waits.{IsPanel}
use Rattle.srcp_serve.specs.Given.{Call}
use Rattle.srcp_serve.specs.Pacing.{brought_in}
use Rattle.srcp_serve.specs.Serving.{Client, IsFair, IsServed, OfEachTurn, OfEachVisit, PeersDiffer, begun}
use Rattle.srcp_serve.specs.Serving.{empty_stand, events_of, falls_short, loses, clients, turned, turns, visit}
use Rattle.srcp_serve.specs.Serving.{visit_events}

-- the peer took all that it was handed in its visit of the turn, and was not lost
pub record TakesAll (calls : List Call) (client : Client) : Type 0 where
  pub keeps : list_any loses (visit calls client) ≡ false
  pub whole : list_any falls_short (visit calls client) ≡ false

module _ (buses : List Bus) where
  -- ---- the changes that wait

  -- no change waits for the session right after a visit in which the peer took all
  abbrev pub TakesWaits : List Event → List Call → Client → Type 0
  TakesWaits events calls client = (conn later : Connection) → IsPanel buses (course buses events) client.conn conn
      → TakesAll calls client
      → numbered client.conn (course buses (events ++ visit_events calls client)).connections ≡ Some later
      → waiting later (history buses (course buses (events ++ visit_events calls client))) ≡ []

  -- in each visit of each turn, over any layout
  abbrev pub WaitsAreGoneAfterAVisit : Type 0
  WaitsAreGoneAfterAVisit = IsLayout buses → (count : ℕ) (trace : List Call) → IsServed buses count trace
      → PeersDiffer buses trace
      → AllByRecursion IsFair trace
      → OfEachTurn buses (λ stand calls. OfEachVisit buses TakesWaits (begun buses stand calls).events calls
      (clients (begun buses stand calls).slots)) empty_stand (turns trace)

  -- ---- all that is owed

  -- how many writes are left: one for each line that the session is owed, and one more if bytes of others are unsent
  abbrev pub writes_left : World → Connection → ℕ
  writes_left w conn = length (owed conn (history buses w) (rows buses w)) + (if is_nil (unsent conn) then 0 else 1)

  -- over any layout, the session of a peer that has a slot is settled after turns without a change, in each of which
  -- its peer took all, if the most writes of a visit times their number is at least what was left
  abbrev pub SettlesSoon : Type 0
  SettlesSoon = IsLayout buses → (count : ℕ) (trace : List Call) → IsServed buses count trace → PeersDiffer buses trace
      → AllByRecursion IsFair trace → (before after : List (List Call)) → turns trace ≡ before ++ after
      → let now = fold (turned buses) empty_stand before in
      let w = course buses (events_of buses trace) in
      (slot : ℕ) (client : Client) → slice_get now.slots slot ≡ Some (Some client)
      → (conn : Connection) → IsPanel buses (course buses now.events) client.conn conn
      → OfEachTurn buses (λ stand calls. (brought_in buses stand calls ≡ 0) × TakesAll calls client) now after
      → writes_left (course buses now.events) conn ≤ most_writes * length after
      → (later : Connection) → numbered client.conn w.connections ≡ Some later
      → is_settled later (history buses w) (rows buses w) ≡ true
