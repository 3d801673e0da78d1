-- The door counts its services, and each peer has the number of its last one.
use Rattle.std.proofs.Common.{◌≡◌, ◌∙◌, ℕ, ◌+◌, ◌<◌, ◌≤◌, Bool, true, false, cond, List, [], ◌∷◌, ◌++◌, length, refl, ap, sym, subst}
use Rattle.std.proofs.Common.{arith, ⊎_elim, ◌==◌, Option, Some, None, Ok, Err}
use Rattle.std.specs.Prelude.{◌≢◌, ◌⊎◌, All, Result, if◌then◌else◌, min, slice_index_or, take}
use Rattle.std.proofs.lemmas.Bool.{cases_Bool}
use Rattle.std.proofs.lemmas.Bool.Decides.{nat_tests}
use Rattle.std.proofs.lemmas.List.{length-take}
use Rattle.std.proofs.lemmas.List.Elements.{filter_map-append}
use Rattle.std.proofs.lemmas.List.Sums.{fold-append}
use Rattle.srcp_door.specs.Calls.{Call, AcceptCall, ReadCall}
use Rattle.srcp_door.specs.declared.door.DoorFault.{DoorFault}
use Rattle.srcp_door.specs.declared.door.DoorFault.TheVariants as fault
use Rattle.srcp_door.specs.declared.door.Got.{Got}
use Rattle.srcp_door.specs.declared.door.Got.TheVariants as got
use Rattle.srcp_peers.specs.declared.peer.Peer.{Peer}
use Rattle.srcp_peers.specs.AllPeers.{AreWithin}
use Rattle.srcp_peers.specs.Peers.{KeepsShare}
use Rattle.srcp_peers.specs.Steps.{Answers, Step, call_of, calls}
use Rattle.srcp_peers.specs.Turns.{got_bytes}
use Rattle.srcp_log.specs.Services.{AfterRead, AreCounted, IsOrdered, Services, last_service, made_after, made_by}
use Rattle.srcp_log.specs.Services.{hands_bytes, one_more_service}
use Rattle.srcp_log.specs.Services.{served, served_in, serves, services}
use Rattle.srcp_log.specs.Work.{AreFrom, IsFrom, last_after}

abbrev pub Comes : (old : List Step) → Call → (new : List Step) → Type 0
Comes old call new = (came : List Step) × (new ≡ old ++ (came ++ Answers call ∷ [])) × (calls came ≡ [])

pub comes_calls : (old new : List Step) (call : Call) → Comes old call new → calls new ≡ calls old ++ call ∷ []
comes_calls old new call (came, is, none) =
    ap calls is ∙ filter_map-append call_of old (came ++ Answers call ∷ [])
    ∙ ap (λ cs. calls old ++ cs) (filter_map-append call_of came (Answers call ∷ []) ∙ ap (λ cs. cs ++ call ∷ []) none)

-- what a call leaves of the services
pub services_next : (socket : ℕ) (old new : List Step) (call : Call) → calls new ≡ calls old ++ call ∷ []
    → services socket (calls new) ≡ served socket (services socket (calls old)) (serves call)
services_next socket old new call is = ap (services socket) is
    ∙ fold-append (λ s c. served socket s (serves c)) (record { count = 0; last = 0 }) (calls old) (call ∷ [])

-- ---- the count

made_next : (socket made : ℕ) (s : Services) (who : Option ℕ) → made ≡ min s.count 18446744073709551615
    → made_by who made ≡ min (served socket s who).count 18446744073709551615
made_next socket made s None is = is
made_next socket made s (Some peer) is = ap one_more_service is ∙ omega arith

-- ---- the last one

same_number : (a b : ℕ) → a ≡ b → (a == b) ≡ true
same_number a b is = grind (arith, nat_tests)

other_number : (a b : ℕ) → (a == b) ≡ false → a ≢ b
other_number a b differ same = absurd (grind (arith, nat_tests))

last_next : (socket made now last : ℕ) (s : Services) (who : Option ℕ) → made ≡ min s.count 18446744073709551615
    → now ≡ made_by who made → (who ≡ Some socket → last ≡ now)
    → (who ≢ Some socket → last ≡ min s.last 18446744073709551615)
    → last ≡ min (served socket s who).last 18446744073709551615
last_next socket made now last s None is counts own other = other (λ e. cc)
last_next socket made now last s (Some peer) is counts own other = ⊎_elim
    (λ (same : (peer == socket) ≡ true).
    let e : peer ≡ socket = grind (arith, nat_tests) in
    own (ap Some e) ∙ counts ∙ made_next socket made s (Some peer) is
    ∙ ap (λ (b : Bool). min (cond b (s.count + 1) s.last) 18446744073709551615) (sym same))
    (λ (differ : (peer == socket) ≡ false).
    other (λ e. other_number peer socket differ cc)
    ∙ ap (λ (b : Bool). min (cond b (s.count + 1) s.last) 18446744073709551615) (sym differ))
    (cases_Bool (peer == socket))

pub counted_goes : (old new : List Step) (call : Call) (made now : ℕ) (peers later : List Peer) → calls new ≡ calls old ++ call ∷ []
    → now ≡ made_after call made → All (IsOrdered call now peers) later → AreCounted old made peers → AreCounted new now later
counted_goes old new call made now peers later is counts ordered h = record {
  count = λ socket. counts ∙ made_next socket made (services socket (calls old)) (serves call) (h.count socket)
      ∙ ap (λ (s : Services). min s.count 18446744073709551615) (sym (services_next socket old new call is));
  last = λ k d lt.
      let p : Peer = slice_index_or later k d in
      let one : IsOrdered call now peers p = ordered k d lt in
      last_next p.number made now p.served (services p.number (calls old)) (serves call) (h.count p.number) counts one.0
      (λ differ.
      let from : IsFrom (λ was q. q.served ≡ was.served) peers p = one.1 differ in
      from.4.1 ∙ subst (λ (q : Peer). q.served ≡ min (last_service q.number old) 18446744073709551615) from.3 (h.last from.0 from.1 from.2)
      ∙ ap (λ (n : ℕ). min (last_service n old) 18446744073709551615) (sym from.4.0))
      ∙ ap (λ (s : Services). min s.last 18446744073709551615) (sym (services_next p.number old new call is));
}

-- ---- what the calls leave of the peers

abbrev pub KeepsServed : (was p : Peer) → Type 0
KeepsServed was p = p.served ≡ was.served

pub unserved : (call : Call) (made : ℕ) (peers later : List Peer) → serves call ≡ None → AreFrom KeepsServed peers later
    → All (IsOrdered call made peers) later
unserved call made peers later none from k d lt = ((λ e. absurd (by e)), λ differ. from k d lt)
  where
    by : serves call ≡ Some (slice_index_or later k d).number → ⊥
    by e = cc

keeps_served : (peers : List Peer) (p : Peer) → IsFrom KeepsShare peers p → IsFrom KeepsServed peers p
keeps_served peers p from = (from.0, from.1, from.2, from.3, (from.4.0, from.4.1.1))

pub unserved_all : (call : Call) (made : ℕ) (peers later : List Peer) → serves call ≡ None → AreFrom KeepsShare peers later
    → All (IsOrdered call made peers) later
unserved_all call made peers later none from =
    unserved call made peers later none (λ k d lt. keeps_served peers (slice_index_or later k d) (from k d lt))

-- who came has the number above those before
pub ordered_came : (answer : Result (Option ℕ) DoorFault) (made last above : ℕ) (peers later : List Peer)
    → ((number : ℕ) → answer ≡ Ok (Some number) → number ≡ last + 1) → above ≡ last_after last answer → AreWithin above later
    → ((number : ℕ) → answer ≡ Ok (Some number) → All (λ peer. peer.number ≡ number → peer.served ≡ made) later)
    → All (λ peer. peer.number ≤ last → IsFrom KeepsShare peers peer) later → All (IsOrdered (AcceptCall answer) made peers) later
ordered_came (Ok (Some n)) made last above peers later next is within came from k d lt =
    let p : Peer = slice_index_or later k d in
    let one : n ≡ last + 1 = next n refl in
    let low : p.number ≤ above = (within k d lt).1 in (
      λ e. came n refl k d lt (let same : n ≡ p.number = cc in sym same),
      λ differ. keeps_served peers p (from k d lt (below n p.number last above is one low differ)),
    )
  where
    below : (n number last above : ℕ) → above ≡ n → n ≡ last + 1 → number ≤ above → (Some n ≢ Some number) → number ≤ last
    below n number last above is one low differ = ⊎_elim
        (λ (same : (n == number) ≡ true). absurd (differ (ap Some (let e : n ≡ number = grind (arith, nat_tests) in e))))
        (λ (other : (n == number) ≡ false). let ne = other_number n number other in grind (arith, nat_tests))
        (cases_Bool (n == number))
ordered_came (Ok None) made last above peers later next is within came from k d lt =
    unserved_all (AcceptCall (Ok None)) made peers later refl (λ j e low. from j e low (omega (arith, is, (within j e low).1))) k d lt
ordered_came (Err lost) made last above peers later next is within came from k d lt =
    unserved_all (AcceptCall (Err lost)) made peers later refl (λ j e low. from j e low (omega (arith, is, (within j e low).1))) k d lt

pub ordered_read : (who : ℕ) (answer : Result Got DoorFault) (buffer : List ℕ) (made : ℕ) (peers later : List Peer)
    → AreFrom (AfterRead who (got_bytes answer buffer) made) peers later
    → All (IsOrdered (ReadCall who answer buffer) made peers) later
ordered_read who answer buffer made peers later from k d lt = by (length (got_bytes answer buffer) == 0) (was.number == who) refl refl
  where
    p : Peer
    p = slice_index_or later k d

    was : Peer
    was = (from k d lt).1

    number : p.number ≡ was.number
    number = (from k d lt).4.0

    none_some : (n : ℕ) → None ≡ Some n → ⊥
    none_some n e = cc

    here : p.served ≡ was.served → IsFrom KeepsServed peers p
    here kept = ((from k d lt).0, was, (from k d lt).2, (from k d lt).3, (number, kept))

    cases : (none same : Bool) → (was.number == who) ≡ same → p.served ≡ cond same (cond none was.served made) was.served
        → (cond {A = Option ℕ} none None (Some who) ≡ Some p.number → p.served ≡ made)
        × (cond {A = Option ℕ} none None (Some who) ≢ Some p.number → IsFrom KeepsServed peers p)
    cases true true one kept = ((λ e. absurd (none_some p.number e)), λ differ. here kept)
    cases true false one kept = ((λ e. absurd (none_some p.number e)), λ differ. here kept)
    cases false true one kept =
        let e : was.number ≡ who = grind (arith, nat_tests) in
        ((λ is. kept), λ differ. absurd (differ (ap Some (sym (number ∙ e)))))
    cases false false one kept = (
      λ is. absurd (other_number was.number who one (let e : who ≡ p.number = cc in sym (e ∙ number))),
      λ differ. here kept,
    )

    by : (none same : Bool) → (length (got_bytes answer buffer) == 0) ≡ none → (was.number == who) ≡ same
        → IsOrdered (ReadCall who answer buffer) made peers p
    by none same is one =
        let kept : p.served ≡ cond same (cond none was.served made) was.served = (from k d lt).4.1.1
        ∙ ap (λ (b : Bool). cond b (cond (length (got_bytes answer buffer) == 0) was.served made) was.served) one
        ∙ ap (λ (b : Bool). cond same (cond b was.served made) was.served) is in
        subst (λ (s : Option ℕ). (s ≡ Some p.number → p.served ≡ made) × (s ≢ Some p.number → IsFrom KeepsServed peers p))
        (ap (λ (b : Bool). cond {A = Option ℕ} b None (Some who)) (sym is)) (cases none same one kept)

-- ---- a read

pub nothing_handed : (answer : Result Got DoorFault) (buffer : List ℕ) → (answer ≡ Ok got.Nothing) ⊎ (answer ≡ Err fault.Read)
    → got_bytes answer buffer ≡ []
nothing_handed answer buffer h = ⊎_elim
    (λ (none : answer ≡ Ok got.Nothing). ap (λ a. got_bytes a buffer) none)
    (λ (lost : answer ≡ Err fault.Read). ap (λ a. got_bytes a buffer) lost) h

pub other_in : (who : ℕ) (bytes : List ℕ) (made : ℕ) (p : Peer) → p.number ≢ who → p.served ≡ served_in who bytes made p
other_in who bytes made p differ = ⊎_elim
    (λ (same : (p.number == who) ≡ true). absurd (differ (let e : p.number ≡ who = grind (arith, nat_tests) in e)))
    (λ (other : (p.number == who) ≡ false).
    ap (λ (b : Bool). cond b (cond (length bytes == 0) p.served made) p.served) (sym other))
    (cases_Bool (p.number == who))

pub none_in : (who : ℕ) (bytes : List ℕ) (made : ℕ) (p : Peer) → bytes ≡ [] → p.served ≡ served_in who bytes made p
none_in who bytes made p none = by (p.number == who)
    ∙ ap (λ (xs : List ℕ). cond (p.number == who) (cond (length xs == 0) p.served made) p.served) (sym none)
  where
    by : (b : Bool) → p.served ≡ cond b p.served p.served
    by true = refl
    by false = refl

pub after_bytes : (who before service after : ℕ) (answer : Result Got DoorFault) (buffer : List ℕ) (p : Peer) (now : ℕ)
    → p.number ≡ who → after ≡ (if hands_bytes answer then service else before)
    → now ≡ cond (length (got_bytes answer buffer) == 0) p.served service → now ≡ served_in who (got_bytes answer buffer) after p
after_bytes who before service after answer buffer p now same is served =
    served ∙ by answer is
    ∙ ap (λ (b : Bool). cond b (cond (length (got_bytes answer buffer) == 0) p.served after) p.served) (sym (same_number p.number who same))
  where
    by : (a : Result Got DoorFault) → after ≡ (if hands_bytes a then service else before)
        → cond (length (got_bytes a buffer) == 0) p.served service ≡ cond (length (got_bytes a buffer) == 0) p.served after
    by (Ok (got.Bytes count)) e = ap (λ n. cond (length (take count buffer) == 0) p.served n) (sym e)
    by (Ok got.Nothing) e = refl
    by (Ok got.Ended) e = refl
    by (Err fault) e = refl

pub made_of : (who before service after : ℕ) (answer : Result Got DoorFault) (buffer : List ℕ)
    → after ≡ (if hands_bytes answer then service else before) → service ≡ one_more_service before
    → ((n : ℕ) → answer ≡ Ok (got.Bytes n) → (0 < n) × (n ≤ length buffer))
    → after ≡ made_after (ReadCall who answer buffer) before
made_of who before service after (Ok (got.Bytes n)) buffer is one count =
    let h = count n refl in
    let some : (length (take n buffer) == 0) ≡ false = not_zero (length (take n buffer)) (within n buffer h.0 h.1) in
    is ∙ one ∙ ap (λ (b : Bool). made_by (cond {A = Option ℕ} b None (Some who)) before) (sym some)
  where
    within : (n : ℕ) (buffer : List ℕ) → 0 < n → n ≤ length buffer → 0 < length (take n buffer)
    within n buffer low high = omega (arith, low, high, length-take n buffer)

    not_zero : (n : ℕ) → 0 < n → (n == 0) ≡ false
    not_zero n low = grind (arith, nat_tests)
made_of who before service after (Ok got.Nothing) buffer is one count = is
made_of who before service after (Ok got.Ended) buffer is one count = is
made_of who before service after (Err fault) buffer is one count = is

pub made_none : (who before : ℕ) (answer : Result Got DoorFault) (buffer : List ℕ) → got_bytes answer buffer ≡ []
    → made_after (ReadCall who answer buffer) before ≡ before
made_none who before answer buffer none =
    ap (λ (xs : List ℕ). made_by (cond {A = Option ℕ} (length xs == 0) None (Some who)) before) none
