-- The model of the code: what a core's calls make of the course that it stands for,
-- by the equations that they promise and no more.
use Rattle.std.specs.Prelude.{◌≡◌, ℕ, ◌<◌, ◌≤◌, true, false, List, [], ◌∷◌, ◌++◌, map, length, Option, Some, None}
use Rattle.std.specs.Prelude.{◌+◌, is_none, is_some, count_by, IsSome}
use Rattle.srcp_info.specs.Limits.{most_in_piece}
use Rattle.srcp_info.specs.declared.limits.TheConstants.{LONGEST_LINE}
use Rattle.srcp_grammar.specs.declared.layout.Bus.{Bus}
use Rattle.srcp_core.specs.Agrees.{OfCourse, AtKey, OfConnection, replies_taken}
use Rattle.srcp_core.specs.Agrees.{closes as closes_in, lent as lent_in, lends_none as lends_none_in}
use Rattle.srcp_core.specs.Connection.{is_nil, is_last}
use Rattle.srcp_core.specs.Course.{course, fault}
use Rattle.srcp_core.specs.Held.{Held, at, open_count}
use Rattle.srcp_core.specs.Recording.{key_of, without_key}
use Rattle.srcp_core.specs.Laws.{AllMoments}
use Rattle.srcp_core.specs.Machine.{IsAdmitted, IsNotAdmitted, IsReceived, opening_held, bytes_fault, advanced, hung_up}
use Rattle.srcp_core.specs.Machine.{let_out, unsent_at, changed_at, without_sent, finish_at, slack_at}
use Rattle.srcp_index.specs.Earliest.{IsEarliestDue}
use Rattle.srcp_core.specs.Waits.{least, due_next}
use Rattle.srcp_core.specs.Waits.{slack as slack_in_course}
use Rattle.srcp_core.specs.Run.{LeadsTo, LeadsAt, LeadsOn}
use Rattle.srcp_core.specs.Stands.{StandsFor}
use Rattle.srcp_core.specs.Under.{Event, Open, Bytes, Room, At, Shut, Piece}
use Rattle.srcp_core.specs.declared.record.CoreFault.{CoreFault}

-- a new core stands for no events; if it stands for the course of any events, it stands after a call for these and the
-- call's event, under what memory answered
pub record CallsLead : Type 0 where
  pub first : (buses : List Bus) (held : Held) → held ≡ opening_held buses 0 0
      → StandsFor buses [] held (course buses [])
  pub moment : (moment : ℕ) (old new : Held) → new ≡ advanced moment old → LeadsTo (At moment) old new
  pub opened : (key : ℕ) (old new : Held) → IsAdmitted key old new
      → OfCourse old (λ buses events keys.
      StandsFor buses (keys ++ Some key ∷ []) new (course buses (events ++ Open true ∷ [])))
  pub not_opened : (cause : CoreFault) (old new : Held) → IsNotAdmitted cause old new → LeadsTo (Open false) old new
  pub accepted : (key : ℕ) (piece : List ℕ) (old new : Held) → bytes_fault key piece old ≡ None
      → IsReceived key piece old new
      → LeadsOn key piece old new
  pub refused : (key : ℕ) (piece : List ℕ) (old new : Held) (cause : CoreFault) → bytes_fault key piece old ≡ Some cause
      → new ≡ old → LeadsOn key piece old new
  pub lent : (key : ℕ) (held : Held) → LeadsAt key (λ n. Room n 0) held (let_out key held)
  pub sent : (key count : ℕ) (old new : Held) → count ≤ length (unsent_at key old)
      → new ≡ changed_at key (without_sent count) old
      → 0 < count → LeadsAt key (λ n. Room n count) old new
  -- if no bytes were sent, nothing changes
  pub none_sent : (key count : ℕ) (old new : Held) → new ≡ changed_at key (without_sent count) old → count ≡ 0
      → new ≡ old
  -- of bytes that were just lent, lending and sending are one event, for no bytes too
  pub lent_and_sent : (key count : ℕ) (old new held : Held) → count ≤ length (unsent_at key old)
      → new ≡ changed_at key (without_sent count) old → old ≡ let_out key held
      → LeadsAt key (λ n. Room n count) held new
  pub shut : (key : ℕ) (old new : Held) → new ≡ hung_up key old
      → AtKey key old (λ buses events keys n.
      StandsFor buses (without_key n keys) new (course buses (events ++ Shut n ∷ [])))

-- what is held says what the course says
pub record CallsAgree : Type 0 where
  pub accepts : (key : ℕ) (old new : Held) → IsAdmitted key old new
      → OfCourse old (λ buses events _. fault buses (course buses events) (Open true) ≡ None)
  pub refuses : (cause : CoreFault) (old new : Held) → IsNotAdmitted cause old new
      → OfCourse old (λ buses events _. fault buses (course buses events) (Open false) ≡ Some cause)
  -- the key of a connection that was opened is that of the newest number
  pub named : (key : ℕ) (held : Held) (buses : List Bus) (events : List Event) (keys : List (Option ℕ))
      → StandsFor buses keys held (course buses events)
      → key_of (length (course buses events).connections + 1) (keys ++ Some key ∷ []) ≡ Some key
  -- as many numbers have keys as connections are open
  pub counted : (held : Held) (buses : List Bus) (events : List Event) (keys : List (Option ℕ))
      → StandsFor buses keys held (course buses events) → count_by is_some keys ≡ open_count held
  pub there : (key : ℕ) (held : Held) → OfConnection key held (λ _ _ _. IsSome (at held key))
  pub bytes : (key : ℕ) (piece : Piece) (held : Held)
      → OfConnection key held
      (λ buses events n. bytes_fault key piece.bytes held ≡ fault buses (course buses events) (Bytes n piece))
  pub takes : (key : ℕ) (held : Held) → is_none (bytes_fault key [] held) ≡ true
      → OfConnection key held (λ buses events n.
      (piece : Piece) → length piece.bytes ≤ most_in_piece → fault buses (course buses events) (Bytes n piece) ≡ None)
  pub closes : (key : ℕ) (held : Held)
      → OfConnection key held (λ buses events n. is_last (finish_at key held) ≡ closes_in buses (course buses events) n)
  pub lends : (key : ℕ) (held : Held)
      → OfConnection key held
      (λ buses events n. unsent_at key (let_out key held) ≡ lent_in buses (course buses (events ++ Room n 0 ∷ [])) n)
  pub lends_none : (key : ℕ) (held : Held)
      → OfConnection key held
      (λ buses events n. is_nil (unsent_at key (let_out key held)) ≡ lends_none_in buses (course buses events) n)
  -- once all replies are taken, one line at most
  pub lends_line : (key : ℕ) (held : Held)
      → OfConnection key held
      (λ buses events n. AllMoments events → replies_taken buses (course buses events) n ≡ true
      → length (unsent_at key (let_out key held)) ≤ LONGEST_LINE)
  pub shuts : (key : ℕ) (held : Held)
      → OfConnection key held (λ buses events n. fault buses (course buses events) (Shut n) ≡ None)
  -- how many more changes may come upon each information session, and when something falls due next
  pub slack : (held : Held)
      → OfCourse held (λ buses events _. least (map slack_at held.places) ≡ slack_in_course buses (course buses events))
  pub due : (first : Option ℕ) (held : Held) → IsEarliestDue first held.rows
      → OfCourse held (λ buses events _. first ≡ due_next buses (course buses events))

-- what was refused stays counted, and a call that opens no connection and reads no piece counts nothing more
pub record CallsCount : Type 0 where
  pub moment : (moment : ℕ) (old new : Held) → new ≡ advanced moment old → new.denied ≡ old.denied
  pub opened : (key : ℕ) (old new : Held) → IsAdmitted key old new → new.denied ≡ old.denied
  pub not_opened : (cause : CoreFault) (old new : Held) → IsNotAdmitted cause old new → new.denied ≡ 0 → old.denied ≡ 0
  -- of a piece, by the answers to its lines
  pub bytes : (key : ℕ) (piece : List ℕ) (old new : Held) → LeadsOn key piece old new → new.denied ≡ 0 → old.denied ≡ 0
  pub lent : (key : ℕ) (held : Held) → (let_out key held).denied ≡ held.denied
  pub sent : (key count : ℕ) (old new : Held) → new ≡ changed_at key (without_sent count) old → new.denied ≡ old.denied
  pub shut : (key : ℕ) (old new : Held) → new ≡ hung_up key old → new.denied ≡ old.denied
