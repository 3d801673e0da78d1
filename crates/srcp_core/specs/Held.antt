-- The model of the code: what is seen of a core: the registry, and a slot for each
-- connection. The key of a connection is the index of its slot.
use Rattle.std.specs.Prelude.{◌≡◌, ℕ, ◌<◌, ◌≤◌, Bool, true, false, List, Option, Some, None, is_some, count_by}
use Rattle.std.specs.Prelude.{slice_index_or}
use Rattle.srcp_core.specs.Limits.{most_connections}
use Rattle.srcp_info.specs.WellFormed.{IsMoment}
use Rattle.srcp_info.specs.declared.value.Mode.{Mode}
use Rattle.srcp_text.specs.Reading.{Reading}
use Rattle.srcp_grammar.specs.declared.layout.Bus.{Bus}
use Rattle.srcp_grammar.specs.Devices.{session_device}
use Rattle.srcp_rules.specs.State.{State, IsWhole, is_there}
use Rattle.srcp_core.specs.declared.connection.Panel.{Panel}

-- what is held of a connection
pub record Place : Type 0 where
  pub reader : Reading  -- what is known of the line that has begun
  pub mode : Mode  -- the mode that it chose last
  pub session : ℕ  -- its session's id, 0 before it begins
  pub ended : Bool  -- whether the session ended by its own command
  pub unsent : List ℕ  -- the bytes that are to be sent
  pub panel : Panel  -- what it is told of changes

-- what is held of them all
pub record Held : Type 0 where
  pub buses : List Bus
  pub rows : State
  pub moment : ℕ  -- the last moment
  pub last_id : ℕ  -- the session id that was given last
  pub places : List (Option Place)
  pub denied : ℕ  -- how many allocations were refused

-- the slot of that key
abbrev pub place_at : List (Option Place) → ℕ → Option Place
place_at places key = slice_index_or places key None

-- the slot of that key in the core
abbrev pub at : Held → ℕ → Option Place
at held key = place_at held.places key

-- how many connections are open
abbrev pub open_count : Held → ℕ
open_count held = count_by is_some held.places

-- the session of a slot began and did not end
pub record IsLive (place : Place) : Type 0 where
  pub began : 0 < place.session
  pub not_ended : place.ended ≡ false

-- the sessions of the slots: each has an id of its own, and its row until it ends; a later id has none
pub record AreSessions (last_id : ℕ) (rows : State) (places : List (Option Place)) : Type 0 where
  pub ids : (key : ℕ) (place : Place) → place_at places key ≡ Some place → place.session ≤ last_id
  pub apart : (m n : ℕ) (p q : Place) → place_at places m ≡ Some p → place_at places n ≡ Some q → 0 < p.session
      → p.session ≡ q.session → m ≡ n
  pub there : (key : ℕ) (place : Place) → place_at places key ≡ Some place → IsLive place
      → is_there (session_device place.session) rows ≡ true
  pub later : (id : ℕ) → last_id < id → is_there (session_device id) rows ≡ false

-- what holds of every core
pub record IsSound (held : Held) : Type 0 where
  pub moment : IsMoment held.moment
  pub few : open_count held ≤ most_connections
  pub whole : IsWhole held.buses held.rows
  pub sessions : AreSessions held.last_id held.rows held.places

-- the connection of that key has that session, which goes on
pub record IsSessionAt (session key : ℕ) (held : Held) : Type 0 where
  pub place : Place
  pub here : at held key ≡ Some place
  pub own : place.session ≡ session
  pub live : IsLive place
