-- What a server asks of its door, turn by turn, and which events the answers make.
-- A turn tells the door what to expect, asks for the time, accepts one peer, and visits each peer that has a slot.
-- A peer is handed exactly what the course of these events leaves unsent of its connection. So each peer took what the
-- course says that it was sent: that is SentIsTaken, which `laws::sent_is_taken` ensures. A peer is read only if its
-- connection accepts bytes. So each connection was fed what the door handed out of its peer: FedIsHanded, which
-- `laws::fed_is_handed` ensures.
use Rattle.std.specs.Prelude.{⊤, ◌≡◌, ℕ, ◌+◌, Bool, true, false, not, ◌&&◌, ◌||◌, ◌==◌, nat_lt, if◌then◌else◌, List, []}
use Rattle.std.specs.Prelude.{◌∷◌, ◌++◌, map, take, length, filter, filter_map, flat_map, fold, count_by, replicate}
use Rattle.std.specs.Prelude.{Option, Some, None, is_none, option_map, Ok, Err}
use Rattle.std.specs.List.{list_any, AllByRecursion}
use Rattle.srcp_core.specs.Limits.{most_connections}
use Rattle.srcp_door.specs.Limits.{most_writes}
use Rattle.srcp_info.specs.Limits.{most_in_piece}
use Rattle.srcp_grammar.specs.declared.layout.Bus.{Bus}
use Rattle.srcp_core.specs.Agrees.{closes, lent as lent_in}
use Rattle.srcp_core.specs.Connection.{Connection, sent}
use Rattle.srcp_core.specs.Course.{course, fault}
use Rattle.srcp_core.specs.Under.{Event, Piece, Open, Bytes, Room, At, Shut, giving}
use Rattle.srcp_core.specs.Waits.{due_next, slack}
use Rattle.srcp_serve.specs.Given.{Accepted, Call, door_call, ExpectCall, NowCall, AcceptCall, ReadCall, WriteCall}
use Rattle.srcp_serve.specs.Given.{CloseCall}
use Rattle.srcp_door.specs.Calls as door
use Rattle.srcp_door.specs.declared.door.Got.TheVariants as got

-- ---- calls and their answers

-- the time that the door answered, if it did
abbrev pub moment_of : Call → Option ℕ
moment_of (NowCall (Ok moment)) = Some moment
moment_of other = None

-- the peer that the door accepted, if it accepted one
abbrev pub accept_of : Call → Option Accepted
accept_of (AcceptCall (Ok peer) granted) = option_map (λ peer. record { peer = peer; granted = granted }) peer
accept_of other = None

-- the bytes that were read, if some were
abbrev pub piece_of : Call → Option Piece
piece_of (ReadCall peer (Ok (got.Bytes count)) buffer grants) =
    Some (record { bytes = take count buffer; grants = grants })
piece_of other = None

-- how many bytes a write took: none if it failed
abbrev pub count_of : Call → Option ℕ
count_of (WriteCall peer bytes (Ok count)) = Some count
count_of (WriteCall peer bytes (Err failed)) = Some 0
count_of other = None

-- the call tells the door what to expect
abbrev pub is_expect : Call → Bool
is_expect call = door.is_expect (door_call call)

-- the call is a write
abbrev pub is_write : Call → Bool
is_write (WriteCall peer bytes answer) = true
is_write other = false

-- the read found the end of the input, or failed
abbrev pub loses_reading : Call → Bool
loses_reading (ReadCall peer (Ok got.Ended) buffer grants) = true
loses_reading (ReadCall peer (Err failed) buffer grants) = true
loses_reading other = false

-- the peer is lost by this call: by such a read, or by a write that failed
abbrev pub loses : Call → Bool
loses (WriteCall peer bytes (Err failed)) = true
loses other = loses_reading other

-- the write took fewer bytes than it was handed
abbrev pub falls_short : Call → Bool
falls_short (WriteCall peer bytes (Ok count)) = nat_lt count (length bytes)
falls_short other = false

-- what a call asks
pub data Question : Type 0 where
  Expects : (due slack : Option ℕ) → Question
  Moments : Question
  Accepts : Question
  Reads : (peer : ℕ) (most : ℕ) → Question
  Writes : (peer : ℕ) (bytes : List ℕ) → Question
  Closes : (peer : ℕ) → Question

-- a call without its answer
abbrev pub question : Call → Question
question (ExpectCall due slack) = Expects due slack
question (NowCall answer) = Moments
question (AcceptCall answer granted) = Accepts
question (ReadCall peer answer buffer grants) = Reads peer (length buffer)
question (WriteCall peer bytes answer) = Writes peer bytes
question (CloseCall peer answer) = Closes peer

-- the question is about that peer
abbrev pub asks_of : ℕ → Question → Bool
asks_of peer (Reads who most) = who == peer
asks_of peer (Writes who bytes) = who == peer
asks_of peer (Closes who) = who == peer
asks_of peer other = false

-- the call is about that peer
abbrev pub is_about : ℕ → Call → Bool
is_about peer call = asks_of peer (question call)

-- the call closes a peer
abbrev pub is_close : Call → Bool
is_close (CloseCall peer answer) = true
is_close other = false

-- the answer is one that the door may give
abbrev pub IsFair : Call → Type 0
IsFair call = door.IsFair (door_call call)

-- the bytes that a peer took in a call
abbrev pub taken_in : ℕ → Call → List ℕ
taken_in peer (WriteCall who bytes (Ok count)) = if who == peer then take count bytes else []
taken_in peer other = []

-- and in all these calls
abbrev pub taken : ℕ → List Call → List ℕ
taken peer trace = flat_map (taken_in peer) trace

-- the bytes of a peer that the door handed out in a call
abbrev pub handed_out_in : ℕ → Call → List ℕ
handed_out_in peer (ReadCall who (Ok (got.Bytes count)) buffer grants) =
    if who == peer then take count buffer else []
handed_out_in peer other = []

-- and in all these calls
abbrev pub handed_out : ℕ → List Call → List ℕ
handed_out peer trace = flat_map (handed_out_in peer) trace

-- ---- peers and slots

-- a peer that has a connection, and the number of that connection
pub record Client : Type 0 where
  pub peer : ℕ
  pub conn : ℕ

-- who has which slot
abbrev pub Slots : Type 0
Slots = List (Option Client)

-- the state of a server
pub record Stand : Type 0 where
  pub events : List Event  -- the events so far
  pub connected : List ℕ  -- the peers that got a connection: the first has connection 1, the next 2, and so on
  pub slots : Slots

-- the state before the first turn: no event, no connection, all slots free
abbrev pub empty_stand : Stand
empty_stand = record { events = []; connected = []; slots = replicate most_connections None }

-- those that have a slot, in the order of the slots
abbrev pub clients : Slots → List Client
clients slots = filter_map (λ slot. slot) slots

-- a peer that is connected takes the first free slot
abbrev pub with_client : Client → Slots → Slots
with_client client [] = []
with_client client (None ∷ slots) = Some client ∷ slots
with_client client (Some other ∷ slots) = Some other ∷ with_client client slots

-- the calls of a turn about a peer that has a slot: its visit
abbrev pub visit : List Call → Client → List Call
visit calls client = filter (is_about client.peer) calls

-- a slot is free after a visit that closes its peer
abbrev pub kept : List Call → Option Client → Option Client
kept calls None = None
kept calls (Some client) = if list_any is_close (visit calls client) then None else Some client

-- ---- what a visit makes happen

-- at last the connection lent no bytes: the peer was not lost, took all, and was written to less often than it may be
abbrev pub lent_none_last : List Call → Bool
lent_none_last calls =
    not (list_any loses calls) && (not (list_any falls_short calls) && nat_lt (count_by is_write calls) most_writes)

-- the room of a write: none as its bytes are lent, and then what the peer took, if any
abbrev pub rooms_of : ℕ → List ℕ
rooms_of count = 0 ∷ (if count == 0 then [] else count ∷ [])

-- the room that the visit made: that of each write, and none if at last no bytes were lent
abbrev pub rooms : List Call → List ℕ
rooms calls = flat_map rooms_of (filter_map count_of calls) ++ (if lent_none_last calls then 0 ∷ [] else [])

-- the events of the read, and then those of the writes
abbrev pub exchange : ℕ → List Call → List Event
exchange conn calls = map (Bytes conn) (filter_map piece_of calls) ++ map (Room conn) (rooms calls)

-- the events of the whole visit; if the peer is closed, its connection is shut
abbrev pub visit_events : List Call → Client → List Event
visit_events calls client = exchange client.conn (visit calls client)
    ++ (if list_any is_close (visit calls client) then Shut client.conn ∷ [] else [])

-- ---- turns

-- the calls of each turn; a turn begins with the call that tells the door what to expect
abbrev pub turns : List Call → List (List Call)
turns calls = door.parts is_expect calls

-- these bytes and then the others; nothing if there are no bytes
abbrev pub unless_nil : List ℕ → List (List ℕ) → List (List ℕ)
unless_nil [] more = []
unless_nil (byte ∷ bytes) more = (byte ∷ bytes) ∷ more

module _ (buses : List Bus) where
  -- ---- what the turns make happen

  -- the core accepts a connection
  abbrev pub connects : List Event → Bool → Bool
  connects events granted = is_none (fault buses (course buses events) (Open granted))

  -- the state after a peer was connected: it has the next connection and the first free slot
  abbrev pub with_connection : Stand → Accepted → Stand
  with_connection stand accept = record {
    events = stand.events ++ Open accept.granted ∷ [];
    connected = stand.connected ++ accept.peer ∷ [];
    slots = with_client (record { peer = accept.peer; conn = length stand.connected + 1 }) stand.slots;
  }

  -- the state after a peer was accepted, whether it was connected or not
  abbrev pub with_accept : Stand → Accepted → Stand
  with_accept stand accept =
      if connects stand.events accept.granted then with_connection stand accept else record stand {
        events = stand.events ++ Open accept.granted ∷ [];
      }

  -- the state after an accept
  abbrev pub after_accept : Stand → Call → Stand
  after_accept stand call = fold with_accept stand (filter_map accept_of (call ∷ []))

  -- the state after a moment
  abbrev pub with_moment : Stand → ℕ → Stand
  with_moment stand moment = record stand { events = stand.events ++ At moment ∷ [] }

  -- the state after the moment of a turn
  abbrev pub timed : Stand → List Call → Stand
  timed stand calls = fold with_moment stand (filter_map moment_of calls)

  -- and then after its accept
  abbrev pub begun : Stand → List Call → Stand
  begun stand calls = fold with_accept (timed stand calls) (filter_map accept_of calls)

  -- the state after the visits of a turn
  abbrev pub visited : Stand → List Call → Stand
  visited stand calls = record stand {
    events = stand.events ++ flat_map (visit_events calls) (clients stand.slots);
    slots = map (kept calls) stand.slots;
  }

  -- the state after a turn
  abbrev pub turned : Stand → List Call → Stand
  turned stand calls = visited (begun stand calls) calls

  -- the state after all calls
  abbrev pub stand_after : List Call → Stand
  stand_after trace = fold turned empty_stand (turns trace)

  -- the events that all calls make
  abbrev pub events_of : List Call → List Event
  events_of trace = (stand_after trace).events

  -- ---- what is asked, by what was answered before

  -- the bytes that the connection lends: what is unsent after a room of 0, and nothing if it overran
  abbrev pub lent : ℕ → List Event → List ℕ
  lent conn events = lent_in buses (course buses (events ++ Room conn 0 ∷ [])) conn

  -- the connection accepts bytes
  abbrev pub is_ready : ℕ → List Event → Bool
  is_ready conn events = is_none (fault buses (course buses events) (Bytes conn (giving [])))

  -- the connection is to be closed: it overran, or it ended and all its replies are taken
  abbrev pub is_closing : ℕ → List Event → Bool
  is_closing conn events = closes buses (course buses events) conn

  -- the bytes of each write, by how many the writes before took: what is lent, as long as all of it is taken
  abbrev pub handed : ℕ → List Event → List ℕ → List (List ℕ)
  handed conn events [] = unless_nil (lent conn events) []
  handed conn events (count ∷ counts) = unless_nil (lent conn events)
      (if count == length (lent conn events)
      then handed conn (events ++ map (Room conn) (rooms_of count)) counts else [])

  -- a visit begins with one read of a piece, if the connection accepts bytes
  abbrev pub reads_of : List Event → Client → List Question
  reads_of events client = if is_ready client.conn events then Reads client.peer most_in_piece ∷ [] else []

  -- then it writes, as often as it may; not at all if the read lost the peer
  abbrev pub writes_of : List Event → List Call → Client → List Question
  writes_of events calls client = if list_any loses_reading calls then [] else map (Writes client.peer)
      (take most_writes
      (handed client.conn (events ++ map (Bytes client.conn) (filter_map piece_of calls)) (filter_map count_of calls)))

  -- then it closes the peer, if that is lost or its connection is to be closed
  abbrev pub closes_of : List Event → List Call → Client → List Question
  closes_of events calls client =
      if list_any loses calls || is_closing client.conn (events ++ exchange client.conn calls)
      then Closes client.peer ∷ []
      else []

  -- what the whole visit asks
  abbrev pub visit_asks : List Event → List Call → Client → List Question
  visit_asks events calls client =
      reads_of events client ++ writes_of events calls client ++ closes_of events calls client

  -- what the visits of a turn ask, one after another
  abbrev pub visits_ask : List Event → List Call → List Client → List Question
  visits_ask events calls [] = []
  visits_ask events calls (client ∷ more) =
      visit_asks events (visit calls client) client ++ visits_ask (events ++ visit_events calls client) calls more

  -- a peer that was accepted and is not connected is closed
  abbrev pub refuses : List Event → Accepted → List Question
  refuses events accept = if connects events accept.granted then [] else Closes accept.peer ∷ []

  -- what the door is told: when the next row falls due, and how many more changes each information session can take
  abbrev pub expects : List Event → Question
  expects events = Expects (due_next buses (course buses events)) (slack buses (course buses events))

  -- what a turn asks
  abbrev pub turn_asks : Stand → List Call → List Question
  turn_asks stand calls = expects stand.events ∷ Moments ∷ Accepts
      ∷ (flat_map (refuses (timed stand calls).events) (filter_map accept_of calls)
      ++ visits_ask (begun stand calls).events calls (clients (begun stand calls).slots))

  -- what the turns ask, one after another
  abbrev pub turns_ask : Stand → List (List Call) → List Question
  turns_ask stand [] = []
  turns_ask stand (calls ∷ more) = turn_asks stand calls ++ turns_ask (turned stand calls) more

  -- the law holds of each turn, by the state before it
  abbrev pub OfEachTurn : (Stand → List Call → Type 0) → Stand → List (List Call) → Type 0
  OfEachTurn Law stand [] = ⊤
  OfEachTurn Law stand (calls ∷ more) = Law stand calls × OfEachTurn Law (turned stand calls) more

  -- the law holds of each visit of a turn, by the events before it
  abbrev pub OfEachVisit : (List Event → List Call → Client → Type 0) → List Event → List Call → List Client → Type 0
  OfEachVisit Law events calls [] = ⊤
  OfEachVisit Law events calls (client ∷ more) = Law events calls client
      × OfEachVisit Law (events ++ visit_events calls client) calls more

  -- the calls are exactly those that this many turns ask
  pub record IsServed (count : ℕ) (trace : List Call) : Type 0 where
    pub turns_are : length (turns trace) ≡ count
    pub asked : map question trace ≡ turns_ask empty_stand (turns trace)

  -- ---- what the peers took, and what was handed out of them

  -- the door accepted no peer twice
  abbrev pub PeersDiffer : List Call → Type 0
  PeersDiffer trace = door.PeersDiffer [] (map door_call trace)

  -- each connection has exactly what the calls carried for its peer
  abbrev pub HasWhatIsCarried : (Connection → List ℕ) → (ℕ → List Call → List ℕ) → List Call → Type 0
  HasWhatIsCarried bytes carried trace = map bytes (course buses (events_of trace)).connections
      ≡ map (λ peer. carried peer trace) (stand_after trace).connected

  -- each connection was sent exactly what its peer took
  abbrev pub SendsWhatIsTaken : List Call → Type 0
  SendsWhatIsTaken = HasWhatIsCarried sent taken

  -- each connection was fed exactly what the door handed out of its peer
  abbrev pub FeedsWhatIsHanded : List Call → Type 0
  FeedsWhatIsHanded = HasWhatIsCarried (λ conn. conn.fed) handed_out

  -- the law holds of every list of calls that is served
  abbrev pub OfEachServed : (List Call → Type 0) → Type 0
  OfEachServed Law = (count : ℕ) (trace : List Call) → IsServed count trace → PeersDiffer trace
      → AllByRecursion IsFair trace → Law trace

  -- so it is with what is sent
  abbrev pub SentIsTaken : Type 0
  SentIsTaken = OfEachServed SendsWhatIsTaken

  -- and with what is fed
  abbrev pub FedIsHanded : Type 0
  FedIsHanded = OfEachServed FeedsWhatIsHanded
