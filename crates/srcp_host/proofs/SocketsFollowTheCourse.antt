-- The sockets follow the course.
use Rattle.std.proofs.Common.{◌≡◌, ◌∙◌, ℕ, ◌<◌, List, [], ◌∷◌, ◌++◌, length, take, refl, ap, sym, subst, arith, get_or, ◌==◌, if◌then◌else◌}
use Rattle.std.proofs.Common.{Ok, Some}
use Rattle.std.specs.Prelude.{map, flat_map, slice_index_or}
use Rattle.std.specs.Io.{StartsWith}
use Rattle.std.proofs.lemmas.List.{get_or_default, length-map}
use Rattle.std.proofs.Math.ListN.{get_or-map}
use Rattle.srcp_core.specs.Connection.{Connection, sent}
use Rattle.srcp_core.specs.Course.{course}
use Rattle.srcp_core.specs.Past.{Past}
use Rattle.srcp_log.specs.Names.{IsNamed}
use Rattle.srcp_serve.specs.Given.{Call, door_call, ReadCall, WriteCall}
use Rattle.srcp_serve.specs.Serving.{events_of, handed_out, stand_after, taken as given_taken}
use Rattle.srcp_serve.specs.Slots.{IsOfGiven, ServesCourse}
use Rattle.srcp_peers.specs.Accounts.{account}
use Rattle.srcp_log.specs.Doors.{AreSound}
use Rattle.srcp_host.specs.Follows.{Follows}
use Rattle.srcp_peers.specs.Streams.{handed, handed_in, taken, taken_in, took}
use Rattle.srcp_peers.specs.Steps.{Step, calls}
use Rattle.srcp_door.specs.declared.door.Got.TheVariants as got
use Rattle.srcp_peers.proofs.AccountsHoldStreams.{gave_is, handed_is, taken_is, took_is}

-- what a peer took by the calls with what memory answered is what it took by the calls
pub taken_trace : (peer : ℕ) (trace : List Call) → given_taken peer trace ≡ flat_map (taken_in peer) (map door_call trace)
taken_trace peer [] = refl
taken_trace peer (WriteCall who bytes (Ok count) ∷ trace) = ap (λ xs. (if who == peer then take count bytes else []) ++ xs)
    (taken_trace peer trace)
taken_trace peer (other ∷ trace) = taken_trace peer trace

-- and so it is with what was handed out of it
handed_trace : (peer : ℕ) (trace : List Call) → handed_out peer trace ≡ flat_map (handed_in peer) (map door_call trace)
handed_trace peer [] = refl
handed_trace peer (ReadCall who (Ok (got.Bytes count)) buffer grants ∷ trace) =
    ap (λ xs. (if who == peer then take count buffer else []) ++ xs) (handed_trace peer trace)
handed_trace peer (other ∷ trace) = handed_trace peer trace

-- the elements of two lists that are mapped to one
pub at_index : {X Y : Type 0} (f : X → List ℕ) (g : Y → List ℕ) (xs : List X) (ys : List Y) → map f xs ≡ map g ys
    → (k : ℕ) (x : X) (y : Y) → k < length xs → f (slice_index_or xs k x) ≡ g (slice_index_or ys k y)
at_index f g xs ys same k x y within =
    let long : length xs ≡ length ys = sym (length-map xs f) ∙ ap length same ∙ length-map ys g in
    sym (get_or-map f xs k x) ∙ ap (λ zs. get_or zs k (f x)) same
    ∙ get_or_default (map g ys) k (f x) (g y) (omega (arith, within, long, length-map ys g)) ∙ get_or-map g ys k y

pub follows : (count opens last : ℕ) (old : Past) (log_old : List Step) (new : Past) (log : List Step)
    → ServesCourse count opens old (Some (calls log_old)) new (Some (calls log)) → AreSound log → IsNamed log last
    → Follows count opens old log_old new log
follows count opens last old log_old new log serves sound named buses begins none =
    let given : IsOfGiven buses count opens (calls log) old new =
    serves buses [] (calls log) begins (ap (λ l. Some (calls l)) none) refl named.differ in
    record {
      given = given;
      sockets = λ k conn other within.
          let peer = slice_index_or (stand_after buses given.calls).connected k other in
          let here : sent (slice_index_or (course buses (events_of buses given.calls)).connections k conn) ≡ given_taken peer given.calls =
          at_index sent (λ p. given_taken p given.calls) (course buses (events_of buses given.calls)).connections
          (stand_after buses given.calls).connected given.course.taken k conn other within in
          let all : sent (slice_index_or (course buses (events_of buses given.calls)).connections k conn) ≡ taken peer log =
          here ∙ taken_trace peer given.calls ∙ ap (flat_map (taken_in peer)) given.are in
          subst (λ (xs : List ℕ). StartsWith xs (took peer log)) (taken_is peer log ∙ sym all)
          (subst (λ (xs : List ℕ). StartsWith (account peer log).sent.written xs) (took_is peer log) (sound peer).took);
      fed = λ k conn other within.
          let peer = slice_index_or (stand_after buses given.calls).connected k other in
          let here : (slice_index_or (course buses (events_of buses given.calls)).connections k conn).fed ≡ handed_out peer given.calls =
          at_index (λ (c : Connection). c.fed) (λ p. handed_out p given.calls) (course buses (events_of buses given.calls)).connections
          (stand_after buses given.calls).connected given.course.fed k conn other within in
          let all : (slice_index_or (course buses (events_of buses given.calls)).connections k conn).fed ≡ handed peer log =
          here ∙ handed_trace peer given.calls ∙ ap (flat_map (handed_in peer)) given.are in
          subst (λ (xs : List ℕ). StartsWith xs (slice_index_or (course buses (events_of buses given.calls)).connections k conn).fed)
          (gave_is peer log)
          (subst (λ (xs : List ℕ). StartsWith (account peer log).received.gave xs) (handed_is peer log ∙ sym all)
          (sound peer).handed);
    }
