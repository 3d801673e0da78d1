-- What the answers of a core's calls say of the course that it stands for.
use Rattle.srcp_core.proofs.Names.{◌≡◌, ℕ, suc, ◌+◌, Bool, true, false, List, [], ◌∷◌, ◌++◌, length, refl, sym, ◌∙◌, arith}
use Rattle.srcp_core.proofs.Names.{le-ltb, filter, Option, Some, None, is_none, is_some, count_by, slice_get, slice_index_or}
use Rattle.srcp_core.proofs.Names.{if◌then◌else◌, Bus, IsLayout, Event, Open, Bytes, Room, Shut, Piece, OfCourse}
use Rattle.srcp_core.proofs.Names.{OfConnection, lent, Connection, is_open, overran, unsent, World, course, fault, history}
use Rattle.srcp_core.proofs.Names.{Place, Held, at, IsAdmitted, IsNotAdmitted, bytes_fault, bytes_fault_from, finish_at, cases_Bool, ⊎_elim}
use Rattle.srcp_core.proofs.Names.{unsent_at, let_out, key_of, StandsFor, place_of, CoreFault, Full, open_count, ◌≤◌}
use Rattle.std.specs.Prelude.{IsSome}
use Rattle.srcp_core.specs.Agrees.{closes}
use Rattle.srcp_core.specs.Connection.{is_last}
use Rattle.srcp_core.specs.Course.{fault_of}
use Rattle.srcp_core.specs.declared.record.CoreFault.TheVariants.{Memory as MemoryFault}
use Rattle.srcp_core.proofs.Agreement.EventsAgree.{over_is, fault_same, full_fault, free_fault}
use Rattle.srcp_core.proofs.Agreement.CallsFollowTheCourse.{out_stands}
use Rattle.srcp_core.proofs.Agreement.RecordIsOfTheCourse.{finish_is}
use Rattle.srcp_core.proofs.Agreement.NumbersAndKeys.{key_push_last, opens_cons}
use Rattle.srcp_core.proofs.Agreement.PlacesChange.{is_over_place, place_unsent, place_given_up}
use Rattle.srcp_core.proofs.CourseLaws.SessionsOfACourse.{at_number, opening_in_order}
use Rattle.srcp_core.proofs.Agreement.StandsAfterAChange.{Fine, Found, found_at}
use Rattle.srcp_core.proofs.Invariants.EveryPlaceIsTold.{count_by_cons}
use Rattle.srcp_core.proofs.Agreement.RunsAnEvent.{fine_course}

-- ---- a connection is opened

pub accepts_agrees : (key : ℕ) (old new : Held) → IsAdmitted key old new
    → OfCourse old (λ buses events _. fault buses (course buses events) (Open true) ≡ None)
accepts_agrees key old new a buses events keys layout s = free_fault buses keys old _ s a.few true

pub refuses_agrees : (cause : CoreFault) (old new : Held) → IsNotAdmitted cause old new
    → OfCourse old (λ buses events _. fault buses (course buses events) (Open false) ≡ Some cause)
refuses_agrees Full old new is buses events keys layout s = full_fault buses keys old _ s is.0 false
refuses_agrees MemoryFault old new is buses events keys layout s = free_fault buses keys old _ s is.0 false
refuses_agrees other old new is buses events keys layout s = absurd is

pub names_newest : (key : ℕ) (held : Held) (buses : List Bus) (events : List Event) (keys : List (Option ℕ))
    → StandsFor buses keys held (course buses events)
    → key_of (length (course buses events).connections + 1) (keys ++ Some key ∷ []) ≡ Some key
names_newest key held buses events keys s =
    let last : length (course buses events).connections + 1 ≡ suc (length keys) = omega (arith, s.long) in
    cc (key_push_last keys _)

-- keys and connections side by side
count_keys : (keys : List (Option ℕ)) (conns : List Connection) → length keys ≡ length conns
    → ((k : ℕ) (conn : Connection) → slice_get conns k ≡ Some conn → is_some (slice_index_or keys k None) ≡ is_open conn)
    → count_by is_some keys ≡ length (filter is_open conns)
count_keys [] [] l law = refl
count_keys [] (conn ∷ conns) l law = absurd (omega (arith, l))
count_keys (key ∷ keys) [] l law = absurd (omega (arith, l))
count_keys (key ∷ keys) (conn ∷ conns) l law =
    let less : length keys ≡ length conns = omega (arith, l) in
    let more = count_keys keys conns less (λ k other e. law (suc k) other e) in
    cc (count_by_cons is_some key keys, law 0 conn refl, opens_cons conn conns)

pub counts_open : (held : Held) (buses : List Bus) (events : List Event) (keys : List (Option ℕ))
    → StandsFor buses keys held (course buses events) → count_by is_some keys ≡ open_count held
counts_open held buses events keys s =
    count_keys keys (course buses events).connections s.long (λ k conn e.
    ⊎_elim (λ o. cc (s.opens (suc k) conn e o).named) (λ o. cc (s.closed (suc k) conn e o)) (cases_Bool (is_open conn)))
    ∙ sym s.count

-- ---- a connection that has a key

module _ (buses : List Bus) (layout : IsLayout buses) (events : List Event) (keys : List (Option ℕ)) (n key : ℕ)
    (named : key_of n keys ≡ Some key) (held : Held) (s : StandsFor buses keys held (course buses events)) where
  abbrev w : World
  w = course buses events

  its : Found buses (λ n fed. fed) held w n key
  its = found_at buses (λ n fed. fed) keys held w n key s named

  its_over : overran its.conn (history buses w) ≡ is_over_place (history buses w) its.conn
  its_over =
      over_is buses _ its.conn its.shut
      (at_number (Fine buses (history buses w)) n w.connections its.conn (fine_course buses layout events) its.there)

  abbrev its_place : Place
  its_place = place_of its.reader (history buses w) its.conn

  unsent_is : overran its.conn (history buses w) ≡ false → its_place.unsent ≡ unsent its.conn
  unsent_is still = place_unsent its.reader (history buses w) its.conn (sym its_over ∙ still)

  pub lent_is : unsent_at key held ≡ lent buses w n
  lent_is =
      cc (its.place, by _ refl, its.opened)
    where
      by : (t : Bool) → overran its.conn (history buses w) ≡ t → its_place.unsent ≡ (if t then [] else unsent its.conn)
      by true e = place_given_up its.reader (history buses w) its.conn (sym its_over ∙ e)
      by false e = unsent_is e

-- ---- what is held of a connection

pub there_agrees : (key : ℕ) (held : Held) → OfConnection key held (λ buses events n. IsSome (at held key))
there_agrees key held buses events keys n layout named s =
    rw (found_at buses (λ n fed. fed) keys held (course buses events) n key s named).place refl

pub bytes_agree : (key : ℕ) (piece : Piece) (held : Held)
    → OfConnection key held (λ buses events n. bytes_fault key piece.bytes held ≡ fault buses (course buses events) (Bytes n piece))
bytes_agree key piece held buses events keys n layout named s =
    fault_same buses (opening_in_order buses layout) (λ n fed. fed) keys held _ n key _ (fine_course buses layout events) s named

-- where a piece of no bytes is accepted, so is any of at most 256
pub takes_agrees : (key : ℕ) (held : Held) → is_none (bytes_fault key [] held) ≡ true
    → OfConnection key held (λ buses events n.
    (piece : Piece) → length piece.bytes ≤ 256 → fault buses (course buses events) (Bytes n piece) ≡ None)
takes_agrees key held accepts buses events keys n layout named s piece few =
    sym (bytes_agree key piece held buses events keys n layout named s) ∙ from _ accepts
  where
    from : (o : Option Place) → is_none (bytes_fault_from [] o) ≡ true → bytes_fault_from piece.bytes o ≡ None
    from None e = cc
    from (Some p) e = by _ _ e
      where
        by : (over : Bool) (left : List ℕ) → is_none (fault_of over left []) ≡ true → fault_of over left piece.bytes ≡ None
        by true left e = cc
        by false (_ ∷ _) e = cc
        by false [] e = cc (le-ltb 256 _ few)

pub closes_agrees : (key : ℕ) (held : Held)
    → OfConnection key held (λ buses events n. is_last (finish_at key held) ≡ closes buses (course buses events) n)
closes_agrees key held buses events keys n layout named s =
    let its = found_at buses (λ n fed. fed) keys held (course buses events) n key s named in
    cc (finish_is buses layout keys held events s n key its.reader its.conn its.there its.up its.place, its.opened)

pub lends_agrees : (key : ℕ) (held : Held)
    → OfConnection key held (λ buses events n. unsent_at key (let_out key held) ≡ lent buses (course buses (events ++ Room n 0 ∷ [])) n)
lends_agrees key held buses events keys n layout named s =
    lent_is buses layout (events ++ Room n 0 ∷ []) keys n key named (let_out key held)
    (out_stands key held buses events keys n layout named s)

pub shuts_agrees : (key : ℕ) (held : Held)
    → OfConnection key held (λ buses events n. fault buses (course buses events) (Shut n) ≡ None)
shuts_agrees key held buses events keys n layout named s =
    cc (found_at buses (λ n fed. fed) keys held (course buses events) n key s named).opened
