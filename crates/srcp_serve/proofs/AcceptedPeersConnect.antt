-- A peer that is accepted gets a connection and the first free slot, or is closed.
use Rattle.srcp_serve.proofs.Names.{◌≡◌, ◌∙◌, ℕ, ◌+◌, ◌<◌, Bool, true, false, List, [], ◌∷◌, ◌++◌, length, if◌then◌else◌, Some, None}
use Rattle.srcp_serve.proofs.Names.{refl, ap, sym, arith, length-append, filter, slice_set, is_none, is_some, count_by, not, position}
use Rattle.srcp_serve.proofs.Names.{nat_lt, Bus, is_open, World, fault, Past, answer_at, course_of, denied, happened, keyed, number}
use Rattle.srcp_serve.proofs.Names.{number_in, refusal, Open, denied_by, CoreFault, Full, MemoryFault, Trace, Accepted, CloseCall, Client}
use Rattle.srcp_serve.proofs.Names.{Stand, ClosesQuestion, connects, with_connection, Connects, Owns, Own}
use Rattle.srcp_serve.specs.Visits.{Closes}
use Rattle.srcp_serve.proofs.SlotsAreTakenAndFreed.{few_slots, differ_connected, free_is, new_apart, none_free, owns_pushed}
use Rattle.srcp_serve.proofs.SlotsAreTakenAndFreed.{owns_connected}
use Rattle.srcp_serve.proofs.NumbersOfKeys.{number_fresh}
use Rattle.srcp_serve.proofs.CallsAreAdded.{adds_none, denied_more}

module _ (buses : List Bus) where
  -- if memory is what is refused, there are not too many
  few_open : (w : World) → fault buses w (Open false) ≡ Some MemoryFault → not (nat_lt (length (filter is_open w.connections)) 64) ≡ false
  few_open w e = grind arith

-- what is counted if no connection is opened
counts_refused : (cause : CoreFault) (old : Past) → refusal old (Open (answer_at cause)) ≡ Some cause
    → denied (happened (Open (answer_at cause)) old) ≡ denied_by (denied old) (answer_at cause ∷ [])
counts_refused Full old e = denied_more (Open true) old
counts_refused MemoryFault old e = denied_more (Open false) old ∙ simp (few_open old.buses (course_of old) e)
counts_refused other old e = grind arith

pub connects_refused : (peer : ℕ) (old mid : Past) (cause : CoreFault) (trace_old trace_new : Trace) (owns : Owns)
    → Closes peer trace_old trace_new → mid ≡ happened (Open (answer_at cause)) old → refusal old (Open (answer_at cause)) ≡ Some cause
    → Connects old trace_old owns mid trace_new owns peer false
connects_refused peer old mid cause trace_old trace_new owns closes goes refuses buses stand trace in_state is new =
    let granted = answer_at cause in
    let accept : Accepted = record { peer = peer; granted = granted } in
    let shut : connects buses stand.events granted ≡ false = rw (← in_state.layout, ← in_state.events, refuses) refl in
    let after : Stand = record { events = stand.events ++ Open granted ∷ []; connected = stand.connected; slots = stand.slots } in
    let w = ap (λ b. if b then with_connection buses stand accept else after) shut in
    let c = closes trace is in (
      granted,
      record {
        early = CloseCall peer c.2.0 ∷ [];
        adds = rw c.2.1 at c.1;
        counted = rw goes (counts_refused cause old refuses);
        asked = sym (ap (λ b. (if b then [] else ClosesQuestion peer ∷ []) ++ []) shut);
        in_state = rw (w, goes) (record {
          layout = in_state.layout;
          events = ap (λ es. es ++ Open granted ∷ []) in_state.events;
          owns_are = in_state.owns_are;
          differ = in_state.differ;
          long = in_state.long;
        });
        opened = rw w (omega arith);
      },
    )

pub connects_done : (peer key free : ℕ) (old mid : Past) (trace_old : Trace) (owns : Owns)
    → mid ≡ keyed key (happened (Open true) old) → refusal old (Open true) ≡ None → number key old ≡ 0
    → position is_none owns ≡ Some free
    → Connects old trace_old owns mid trace_old (slice_set owns free (Some (record { peer = peer; key = key }))) peer true
connects_done peer key free old mid trace_old owns goes accepts fresh slot buses stand trace in_state is new =
    let own : Own = record { peer = peer; key = key } in
    let accept : Accepted = record { peer = peer; granted = true } in
    let client : Client = record { peer = peer; conn = length stand.connected + 1 } in
    let pushed = old.keys ++ Some key ∷ [] in
    let connects_is : connects buses stand.events true ≡ true = rw (← in_state.layout, ← in_state.events, accepts) refl in
    let after : Stand = record { events = stand.events ++ Open true ∷ []; connected = stand.connected; slots = stand.slots } in
    let w = ap (λ b. if b then with_connection buses stand accept else after) connects_is in
    let conn = ap (λ n. n + 1) (sym in_state.long) in
    let named : number_in key pushed ≡ client.conn = number_fresh key old.keys fresh ∙ sym conn in
    let sitting =
    owns_connected pushed own client owns stand.slots (refl, named, omega arith) (owns_pushed old.keys key owns stand.slots
    in_state.owns_are) in (
      true,
      record {
        early = [];
        adds = adds_none is;
        counted = rw goes (denied_more (Open true) old);
        asked = sym (ap (λ b. (if b then [] else ClosesQuestion peer ∷ []) ++ []) connects_is);
        in_state = rw (w, goes) (record {
          layout = in_state.layout;
          events = ap (λ es. es ++ Open true ∷ []) in_state.events;
          owns_are = rw (free_is owns free slot) sitting;
          differ = differ_connected client stand.slots (new_apart old.keys client owns stand.slots in_state.owns_are conn new)
              in_state.differ;
          long = cc (length-append old.keys (Some key ∷ []), length-append stand.connected (peer ∷ []), in_state.long);
        });
        opened = simp (w, length-append);
      },
    )

-- a slot is free if the core has room for a connection
pub connects_without_slot : (peer : ℕ) (opens : Bool) (old new : Past) (trace_old trace_new : Trace) (owns : Owns)
    → count_by is_some old.keys < 64 → length owns ≡ 64
    → position is_none owns ≡ None → Connects old trace_old owns new trace_new owns peer opens
connects_without_slot peer opens old new trace_old trace_new owns below long none buses stand trace in_state is fresh =
    let taken = none_free old.keys owns stand.slots in_state.owns_are none in
    let few = few_slots old.keys owns stand.slots in_state.owns_are in_state.differ in
    absurd (omega (arith, taken, few, below, long))
