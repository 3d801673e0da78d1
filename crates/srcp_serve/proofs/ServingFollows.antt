-- Turn after turn, serving follows the course.
use Rattle.srcp_serve.proofs.Names.{◌≡◌, ◌∙◌, ℕ, zero, suc, ◌+◌, ◌≤◌, Bool, List, [], ◌++◌, map, replicate, length, None, refl, ap, sym}
use Rattle.srcp_serve.proofs.Names.{subst, arith, append-nil, append_cancel_left, map-append, length-map, filter_map-append, same_Some}
use Rattle.srcp_serve.proofs.Names.{filter_map, AllZip, Bus, course, sent, Past, DoorCall, peer_of, Trace, Call, door_call}
use Rattle.srcp_serve.proofs.Names.{CountsRefusals, IsServed, stand_after, events_of, taken as taken_of, Begins, IsInState, one_if}
use Rattle.srcp_serve.proofs.Names.{MakesTurn, ClientsDiffer, IsSlotOf, ServesCourse, Owns, IsTurn, Asks, AreTurns}
use Rattle.std.specs.List.{IsDistinct}
use Rattle.srcp_serve.specs.Serving.{PeersDiffer}
use Rattle.srcp_serve.proofs.CallsByTurnAndPeer.{served-more}
use Rattle.srcp_serve.proofs.CallsAreAdded.{adds_then, refusals_then, same_calls}
use Rattle.srcp_serve.proofs.TurnsCarryStreams.{fed_handed, sent_taken}
use Rattle.srcp_serve.proofs.DoorIsCalled.{fair_turns}
use Rattle.srcp_serve.proofs.TurnsFollow.{fair_given, known_turned, peers_prefix}
use Rattle.srcp_serve.proofs.SlotsAreTakenAndFreed.{AreOf}

-- the calls are those of this many turns, and the core and the slots are as the answers say
pub record IsServing (buses : List Bus) (count opens : ℕ) (trace : List DoorCall) (old past : Past) (owns : Owns) : Type 0 where
  pub calls : List Call
  pub are : map door_call calls ≡ trace
  pub counted : CountsRefusals old calls past
  pub served : IsServed buses count calls
  pub known : AreOf (filter_map peer_of trace) (stand_after buses calls).slots
  pub in_state : IsInState buses (stand_after buses calls) past owns
  pub opened : length (stand_after buses calls).connected ≡ opens

-- `count` turns were made, and `opens` peers got a connection
abbrev pub ServesSoFar : (count opens : ℕ) (old : Past) (trace_old : Trace) (new : Past) (trace_new : Trace) (owns : Owns) → Type 0
ServesSoFar count opens old trace_old new trace_new owns =
    Begins (λ buses calls. IsServing buses count opens calls old new owns) old trace_old trace_new

-- nobody has a slot
none_first : (n : ℕ) → AllZip (IsSlotOf []) (replicate n None) (replicate n None) × AreOf [] (replicate n None)
    × ClientsDiffer (replicate n None)
unfolding IsDistinct
none_first zero = (tt, tt, tt)
none_first (suc n) = let h = none_first n in ((tt, h.0), h.1, h.2)

pub serves_first : (old : Past) (trace_old : Trace) → ServesSoFar 0 0 old trace_old old trace_old (replicate 64 None)
serves_first old trace_old buses before calls begins was is differ =
    let none = append_cancel_left before [] calls (append-nil before ∙ same_Some before (before ++ calls) (sym was ∙ is)) in
    subst (λ (c : List DoorCall). IsServing buses 0 0 c old old (replicate 64 None)) none (record {
      calls = [];
      are = refl;
      counted = refl;
      served = record { turns_are = refl; asked = refl };
      known = (none_first 64).1;
      in_state = rw begins (record {
        layout = refl;
        events = refl;
        owns_are = (none_first 64).0;
        differ = (none_first 64).2;
        long = refl;
      });
      opened = refl;
    })

pub serves_on : (count opened : ℕ) (opens : Bool) (old mid new : Past) (trace_old trace_mid trace_new : Trace)
    (owns owns_new : Owns)
    → ServesSoFar count opened old trace_old mid trace_mid owns → Asks (AreTurns count) trace_old trace_mid
    → Asks IsTurn trace_mid trace_new
    → MakesTurn mid trace_mid owns new trace_new owns_new opens
    → ServesSoFar (count + 1) (opened + one_if opens) old trace_old new trace_new owns_new
serves_on count opened opens old mid new trace_old trace_mid trace_new owns owns_new so asks_before asks turn buses before calls begins
    was is differ =
    let trace = before ++ calls in
    let later = asks trace is in
    let w = later.1 in
    let earlier = asks_before w.before w.was in
    let first = earlier.0 in
    let mid_is : w.before ≡ before ++ first = cc (same_Some earlier.1.before before (sym earlier.1.was ∙ was)) in
    let whole = same_calls {trace = trace} (record { before = before; was = was; is = refl }) (adds_then w.was earlier.1 w) in
    let differ_all = rw whole at differ in
    let s = so buses before first begins was (cc) (peers_prefix [] first later.0 differ_all) in
    let peers = filter_map peer_of first in
    let stood = stand_after buses s.calls in
    let x = turn buses stood trace s.in_state is peers later.0 w (rw filter_map-append at differ_all) s.known in
    let more = served-more buses count s.calls x.calls s.served x.asked in
    let same = same_calls w x.made.adds in
    let known =
    rw (ap (λ c. peers ++ filter_map peer_of c) (sym same) ∙ sym (filter_map-append peer_of first later.0)
    ∙ ap (filter_map peer_of) (sym whole)) at (known_turned buses peers stood x.calls s.known) in
    record {
      calls = s.calls ++ x.calls;
      are = cc (map-append door_call s.calls x.calls);
      counted = refusals_then old mid new s.calls x.calls s.counted x.made.counted;
      served = more.0;
      known = rw more.1 known;
      in_state = rw more.1 x.in_state;
      opened = cc;
    }

pub serves_all : (count turns opened : ℕ) (old now : Past) (trace_old trace_now : Trace) (owns : Owns)
    → count ≡ turns → Asks (AreTurns turns) trace_old trace_now → ServesSoFar count opened old trace_old now trace_now owns
    → ServesCourse turns opened old trace_old now trace_now
serves_all count turns opened old now _ _ owns e asks so buses before calls begins was is differ =
    let s = so buses before calls begins was is differ in
    let a = asks _ is in
    let same = same_calls a.1 (record { before = before; was = was; is = refl }) ∙ sym s.are in
    let served = rw e at s.served in
    let differ_given : PeersDiffer buses s.calls = rw s.are differ in
    let fair = fair_given s.calls (rw same at (fair_turns a.0 a.2)) in
    let taken = sent_taken buses turns s.calls served differ_given fair in
    let connections = (course buses (events_of buses s.calls)).connections in
    let connected = (stand_after buses s.calls).connected in
    let many : length connections ≡ length connected =
    sym (length-map connections sent) ∙ ap length taken ∙ length-map connected (λ peer. taken_of peer s.calls) in
    record {
      calls = s.calls;
      are = s.are;
      counted = s.counted;
      course = record {
        served = served;
        layout = s.in_state.layout;
        events = s.in_state.events;
        opened = sym s.opened ∙ sym many;
        taken = taken;
        fed = fed_handed buses turns s.calls served differ_given fair;
      };
    }

-- no more were connected than there were turns
pub fewer : (opens : Bool) (opened count after : ℕ) → opened ≤ count → after ≡ opened + one_if opens → after ≤ count + 1
fewer opens opened count after h e = grind arith
