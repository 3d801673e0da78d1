-- The model of the code: what a core holds, and the course that it stands for.
use Rattle.std.specs.Prelude.{◌≡◌, ℕ, Bool, true, false, ◌&&◌, if◌then◌else◌, List, [], length, filter, nat_lt, Option}
use Rattle.std.specs.Prelude.{Some, None}
use Rattle.srcp_info.specs.Limits.{most_waiting}
use Rattle.srcp_info.specs.declared.change.Change.{Change}
use Rattle.srcp_info.specs.declared.change.Cursor.{Cursor}
use Rattle.srcp_grammar.specs.declared.layout.Bus.{Bus}
use Rattle.srcp_text.specs.Reading.{Reading, StandsAt}
use Rattle.srcp_core.specs.Connection.{Connection, History, cursor_at, untold, unsent, is_open}
use Rattle.srcp_core.specs.Course.{World, numbered, state, history}
use Rattle.srcp_core.specs.Held.{Place, Held, place_at, open_count}
use Rattle.srcp_core.specs.Recording.{key_of}
use Rattle.srcp_core.specs.declared.connection.Panel.{Panel}
use Rattle.srcp_core.specs.declared.connection.Panel.TheVariants.{Absent, Listening, Overran}

-- what an information session is told of changes, by the cursor and the queue of its
-- feed: none if more wait than may
abbrev pub panel_at : (info : Bool) → Cursor → List Change → Panel
panel_at false _ _ = Absent
panel_at true cursor queue =
    if nat_lt most_waiting (length queue) then Overran else Listening (record { cursor = cursor; queue = queue })

-- what is held of a connection of a course with that history; if more changes wait than may, the unsent bytes are
-- dropped
abbrev pub place_of : Reading → History → Connection → Place
place_of reader history conn =
    let queue = untold conn history in
    record {
      reader = reader;
      mode = conn.mode;
      session = conn.session;
      ended = conn.ended;
      unsent = if conn.info && nat_lt most_waiting (length queue) then [] else unsent conn;
      panel = panel_at conn.info (cursor_at conn (length history)) queue;
    }

-- the connection of that number has a slot, and its reader has read these bytes
pub record IsAt (keys : List (Option ℕ)) (places : List (Option Place)) (history : History) (n : ℕ) (conn : Connection)
    (bytes : List ℕ) : Type 0 where
  pub key : ℕ
  pub reader : Reading
  pub named : key_of n keys ≡ Some key
  pub place : place_at places key ≡ Some (place_of reader history conn)
  pub reads : StandsAt bytes reader

-- the slot is that of a number
pub record IsOwned (keys : List (Option ℕ)) (key : ℕ) : Type 0 where
  pub number : ℕ
  pub named : key_of number keys ≡ Some key

module _ (buses : List Bus) where
  -- the keys of the connections by their numbers, and the core, stand for that course, if of the bytes that were
  -- accepted of a number these were read
  pub record StandsBy (read : ℕ → List ℕ → List ℕ) (keys : List (Option ℕ)) (held : Held) (w : World) : Type 0 where
    pub layout : held.buses ≡ buses
    pub rows : held.rows ≡ state buses w
    pub moment : held.moment ≡ w.moment
    pub last_id : held.last_id ≡ w.last_id
    pub count : open_count held ≡ length (filter is_open w.connections)
    pub long : length keys ≡ length w.connections
    pub opens : (n : ℕ) (conn : Connection) → numbered n w.connections ≡ Some conn → is_open conn ≡ true
        → IsAt keys held.places (history buses w) n conn (read n conn.fed)
    pub closed : (n : ℕ) (conn : Connection) → numbered n w.connections ≡ Some conn → is_open conn ≡ false
        → key_of n keys ≡ None
    pub apart : (m n key : ℕ) → key_of m keys ≡ Some key → key_of n keys ≡ Some key → m ≡ n
    pub owned : (key : ℕ) (place : Place) → place_at held.places key ≡ Some place → IsOwned keys key

  -- all bytes were read
  abbrev pub StandsFor : List (Option ℕ) → Held → World → Type 0
  StandsFor keys held w = StandsBy (λ n fed. fed) keys held w
