-- To be believed: an information session is told what a panel is told over the history of the registry.
use Rattle.std.specs.Prelude.{◌≡◌, ℕ, true, List, map, drop, length}
use Rattle.srcp_info.specs.Client.{IsRisingBy}
use Rattle.srcp_grammar.specs.Layout.{IsLayout}
use Rattle.srcp_grammar.specs.declared.layout.Bus.{Bus}
use Rattle.srcp_feed.specs.History.{Given, Happening, after, steps_of}
use Rattle.srcp_core.specs.Connection.{Connection, cursor_at, heard, is_open, untold}
use Rattle.srcp_core.specs.Course.{World, course, history, rows}
use Rattle.srcp_core.specs.Laws.{IsSession, rows_at}
use Rattle.srcp_core.specs.Under.{Event}
use Rattle.srcp_core.specs.declared.record.Item.{Item}

module _ (buses : List Bus) where
  -- the items, each with the rows of the registry as they were then
  abbrev pub given_in : World → List Item → List Given
  given_in w items = map (λ item. record { rows = rows_at buses w item.steps; what = item.what }) items

  -- over the steps from the session's beginning until it was shut, a panel that is given a line at certain times is
  -- given what the session was; while the session is open, both are still to be given the same of the same rows
  pub record IsPanel (w : World) (conn : Connection) : Type 0 where
    pub happenings : List Happening
    pub steps : steps_of happenings ≡ drop conn.go_step (heard conn.shut (history buses w))
    pub order : IsRisingBy (λ row. row.key) (rows_at buses w conn.go_step)
    pub given : (after (rows_at buses w conn.go_step) happenings).given ≡ given_in w conn.items
    pub now : is_open conn ≡ true → after (rows_at buses w conn.go_step) happenings ≡ record {
      rows = rows buses w;
      feed = record { cursor = cursor_at conn (length w.steps); queue = untold conn (history buses w) };
      given = given_in w conn.items;
    }

  -- so it is with every information session after every list of events
  abbrev pub SessionsArePanels : Type 0
  SessionsArePanels = IsLayout buses → (events : List Event) (number : ℕ) (conn : Connection)
      → IsSession buses events number conn → IsPanel (course buses events) conn
