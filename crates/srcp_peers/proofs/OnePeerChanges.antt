-- All peers of a door, when a step changes one of them.
use Rattle.std.proofs.Common.{◌≡◌, ◌∙◌, ℕ, ◌<◌, ◌≤◌, ◌+◌, List, length, refl, ap, sym, subst, arith, ⊎_elim, get_or, set, get_or-set_other}
use Rattle.std.proofs.Common.{get_or-set_same, ◌==◌, Option, [], ◌∷◌, ◌++◌}
use Rattle.std.specs.Prelude.{◌≢◌, All, false, true, fold, slice_index_or, take, ◌&&◌}
use Rattle.std.proofs.lemmas.Bool.{cases_eq}
use Rattle.std.proofs.lemmas.List.{get_or_default, length-set}
use Rattle.srcp_peers.specs.declared.peer.Peer.{Peer}
use Rattle.srcp_peers.specs.declared.system.Ready.{Ready}
use Rattle.srcp_peers.specs.Steps.{Clocks, SaysNothing, Step, Waits}
use Rattle.srcp_peers.specs.Times.{KeepsTimes}
use Rattle.srcp_peers.specs.Accounts.{Account, is_short_wait}
use Rattle.srcp_peers.specs.Peers.{Agrees, CallsForOne, IsKept, Spares, IsRead, after_wake, is_resting}
use Rattle.srcp_peers.specs.AllPeers.{AreApart, AreKept, AreThose, AreWithin, IsAbsent}
use Rattle.srcp_peers.proofs.CallsAreOfTheDoor.{keeps_then, says_then}
use Rattle.srcp_peers.proofs.PeersStayKept.{alien, all_number, kept_after, kept_waited, skips}
use Rattle.srcp_peers.proofs.PeersLingerByAccount.{clocked_agrees}

-- a peer of which no step says anything stays what its account says
pub kept_spared : (old new : List Step) (p : Peer) → Spares p.number old new → IsKept old p → IsKept new p
kept_spared old new p spares kept = subst (λ (a : Account). Agrees a p) (sym spares) kept

-- all peers, after a step that changed one of them and says nothing of the others
pub set_kept : (old new : List Step) (peers : List Peer) (i : ℕ) (p q : Peer) → i < length peers
    → AreApart peers → AreKept old peers → IsKept new q
    → ((other : ℕ) → other ≢ (get_or peers i p).number → Spares other old new) → AreKept new (set peers i q)
set_kept old new peers i p q within apart kept after spares k d lt =
    let low : k < length peers = omega (arith, lt, length-set peers i q) in
    ⊎_elim
    (λ (e : k ≡ i). subst (IsKept new) (sym (ap (λ n. get_or (set peers i q) n d) e ∙ get_or-set_same peers i q d within)) after)
    (λ (ne : k ≡ i → ⊥).
    let differ : (get_or peers k d).number ≢ (get_or peers i p).number = λ (same : (get_or peers k d).number ≡ (get_or peers i p).number).
    apart k i d low within ne (same ∙ ap (λ (x : Peer). x.number) (get_or_default peers i p d within)) in
    subst (IsKept new) (sym (get_or-set_other peers i k q d ne))
    (kept_spared old new (get_or peers k d) (spares (get_or peers k d).number differ) (kept k d low)))
    (cases_eq k i)

-- the numbers stay if the one keeps its number
set_numbers : (peers : List Peer) (i : ℕ) (p q : Peer) → i < length peers → q.number ≡ (get_or peers i p).number
    → (n : ℕ) (d : Peer) → (get_or (set peers i q) n d).number ≡ (get_or peers n d).number
set_numbers peers i p q within same n d = ⊎_elim
    (λ (e : n ≡ i). ap (λ (x : Peer). x.number) (ap (λ m. get_or (set peers i q) m d) e ∙ get_or-set_same peers i q d within) ∙ same
    ∙ ap (λ (x : Peer). x.number) (get_or_default peers i p d within ∙ ap (λ m. get_or peers m d) (sym e)))
    (λ (ne : n ≡ i → ⊥). ap (λ (x : Peer). x.number) (get_or-set_other peers i n q d ne))
    (cases_eq n i)

-- the sockets stay apart if the one keeps its number
pub set_apart : (peers : List Peer) (i : ℕ) (p q : Peer) → i < length peers → q.number ≡ (get_or peers i p).number
    → AreApart peers → AreApart (set peers i q)
set_apart peers i p q within same apart j k d lj lk differ e =
    apart j k d (omega (arith, lj, length-set peers i q)) (omega (arith, lk, length-set peers i q)) differ
    (sym (set_numbers peers i p q within same j d) ∙ e ∙ set_numbers peers i p q within same k d)

-- the same peers, if one keeps its number
pub set_those : (first peers : List Peer) (i : ℕ) (p q : Peer) → i < length peers → length peers ≡ length first
    → q.number ≡ (get_or peers i p).number → AreThose first peers → AreThose first (set peers i q)
set_those first peers i p q within long same those k d lt = set_numbers peers i p q within same k d ∙ those k d lt

-- who has none of these sockets has none of them later
pub absent_there : (other : ℕ) (first peers : List Peer) (i : ℕ) (p : Peer) → i < length peers → length peers ≡ length first
    → AreThose first peers → IsAbsent other first → other ≢ (get_or peers i p).number
absent_there other first peers i p within long those absent e =
    let low : i < length first = omega (arith, long) in
    absent i p low (sym (those i p low) ∙ sym e)

pub absent_before : (other : ℕ) (first peers : List Peer) → length peers ≡ length first → AreThose first peers → IsAbsent other peers
    → IsAbsent other first
absent_before other first peers long those absent k d lt e =
    let low : k < length peers = omega (arith, lt, long) in
    absent k d low (those k d lt ∙ e)

pub apart_later : (first peers : List Peer) → length peers ≡ length first → AreThose first peers → AreApart first → AreApart peers
apart_later first peers long those apart j k d lj lk differ e =
    let lj' : j < length first = omega (arith, lj, long) in
    let lk' : k < length first = omega (arith, lk, long) in
    apart j k d lj' lk' differ (sym (those j d lj') ∙ e ∙ those k d lk')

pub within_later : (last : ℕ) (first peers : List Peer) → length peers ≡ length first → AreThose first peers → AreWithin last first
    → AreWithin last peers
within_later last first peers long those within k d lt =
    let low : k < length first = omega (arith, lt, long) in
    let w = within k d low in
    (subst (λ (n : ℕ). 0 < n) (sym (those k d low)) w.0, subst (λ (n : ℕ). n ≤ last) (sym (those k d low)) w.1)

-- all peers after a clock was read
pub clocked_all : (old new : List Step) (peers : List Peer) (answer : Option ℕ) → new ≡ old ++ Clocks answer ∷ []
    → AreKept old peers → AreKept new peers
clocked_all old new peers answer tells kept k d lt =
    let p : Peer = slice_index_or peers k d in
    kept_after old new (Clocks answer) p p tells refl (λ a h. clocked_agrees a p answer h) (kept k d lt)

-- what holds between each that was gone through and what it was
pub set_each : (Holds : Peer → Peer → Type 0) (first peers : List Peer) (i : ℕ) (p q : Peer) → i < length peers
    → Holds (get_or peers i p) q → ((k : ℕ) (d : Peer) → i ≤ k → slice_index_or peers k d ≡ slice_index_or first k d)
    → ((k : ℕ) (d : Peer) → k < i → Holds (slice_index_or first k d) (slice_index_or peers k d))
    → (k : ℕ) (d : Peer) → k < i + 1 → Holds (slice_index_or first k d) (slice_index_or (set peers i q) k d)
set_each Holds first peers i p q within holds rest below k d lt = ⊎_elim
    (λ (e : k ≡ i). subst (Holds (slice_index_or first k d))
    (sym (ap (λ n. get_or (set peers i q) n d) e ∙ get_or-set_same peers i q d within))
    (subst (λ (x : Peer). Holds x q)
    (get_or_default peers i p d within ∙ rest i d (omega arith) ∙ ap (λ n. get_or first n d) (sym e)) holds))
    (λ (ne : k ≡ i → ⊥). subst (Holds (slice_index_or first k d)) (sym (get_or-set_other peers i k q d ne))
    (below k d (omega (arith, lt, ne))))
    (cases_eq k i)

pub set_rest : (first peers : List Peer) (i : ℕ) (q : Peer)
    → ((k : ℕ) (d : Peer) → i ≤ k → slice_index_or peers k d ≡ slice_index_or first k d)
    → (k : ℕ) (d : Peer) → i + 1 ≤ k → slice_index_or (set peers i q) k d ≡ slice_index_or first k d
set_rest first peers i q rest k d late = get_or-set_other peers i k q d (λ e. omega (arith, late, e)) ∙ rest k d (omega (arith, late))

-- a socket that was found ready says nothing of the others
woken_other : (p : Peer) (ready : Ready) → p.number ≢ ready.socket → after_wake p ready ≡ p
woken_other p ready differ = skips (ready.socket == p.number) _ p (alien ready.socket p.number differ)

pub woken_set : (peers : List Peer) (i : ℕ) (p q : Peer) (ready : Ready) → i < length peers
    → (get_or peers i p).number ≡ ready.socket → q ≡ after_wake (get_or peers i p) ready → AreApart peers
    → (k : ℕ) (d : Peer) → k < length peers → slice_index_or (set peers i q) k d ≡ after_wake (slice_index_or peers k d) ready
woken_set peers i p q ready within there woken apart k d lt = ⊎_elim
    (λ (e : k ≡ i). ap (λ n. get_or (set peers i q) n d) e ∙ get_or-set_same peers i q d within ∙ woken
    ∙ ap (λ (x : Peer). after_wake x ready) (get_or_default peers i p d within ∙ ap (λ n. get_or peers n d) (sym e)))
    (λ (ne : k ≡ i → ⊥). get_or-set_other peers i k q d ne ∙ sym (woken_other (get_or peers k d) ready
    (λ same. apart k i d lt within ne (same ∙ sym there ∙ ap (λ (x : Peer). x.number) (get_or_default peers i p d within)))))
    (cases_eq k i)

-- the sockets stay apart after some were found ready
pub woken_apart : (before after : List Peer) (ready : List Ready) → length after ≡ length before
    → ((k : ℕ) (d : Peer) → k < length before → slice_index_or after k d ≡ fold after_wake (slice_index_or before k d) ready)
    → AreApart before → AreApart after
woken_apart before after ready long woken apart = apart_later before after long
    (λ k d lt. ap (λ (x : Peer). x.number) (woken k d lt) ∙ all_number (slice_index_or before k d) ready) apart

-- all peers after a wait, which is long only if all rest
pub waited_all : (old new : List Step) (peers later : List Peer) (most : Option ℕ) (count : ℕ) (ready : List Ready)
    → (is_short_wait most ≡ false → All (λ peer. is_resting peer ≡ true) peers) → new ≡ old ++ Waits most count ready ∷ []
    → length later ≡ length peers
    → ((k : ℕ) (d : Peer) → k < length peers → slice_index_or later k d ≡ fold after_wake (slice_index_or peers k d) (take count ready))
    → AreKept old peers → AreKept new later
waited_all old new peers later most count ready rest tells long woken kept k d lt =
    let low : k < length peers = omega (arith, long) in
    subst (IsKept new) (sym (woken k d low))
    (kept_waited old new (slice_index_or peers k d) most count ready (λ e. rest e k d low) tells (kept k d low))

-- ---- all peers are read

-- one more is, and the others stay so
pub set_read : (old new : List Step) (peers : List Peer) (i : ℕ) (p q : Peer) → i < length peers → AreApart peers
    → q.number ≡ (get_or peers i p).number → ((other : ℕ) → other ≢ (get_or peers i p).number → Spares other old new)
    → IsRead new (get_or peers i p).number → ((k : ℕ) (d : Peer) → k < i → IsRead old (get_or peers k d).number)
    → (k : ℕ) (d : Peer) → k < i + 1 → IsRead new (get_or (set peers i q) k d).number
set_read old new peers i p q within apart same others here below k d lt = ⊎_elim
    (λ (e : k ≡ i). subst (IsRead new) (sym (ap (λ n. (get_or (set peers i q) n d).number) e
    ∙ ap (λ (x : Peer). x.number) (get_or-set_same peers i q d within) ∙ same)) here)
    (λ (ne : k ≡ i → ⊥).
    let low : k < i = omega (arith, lt, ne) in
    let differ : (get_or peers k d).number ≢ (get_or peers i p).number = λ (e : (get_or peers k d).number ≡ (get_or peers i p).number).
    apart k i d (omega (arith, low, within)) within ne (e ∙ ap (λ (x : Peer). x.number) (get_or_default peers i p d within)) in
    subst (IsRead new) (sym (ap (λ (x : Peer). x.number) (get_or-set_other peers i k q d ne)))
    (subst (λ (a : Account). (a.watched && a.unread) ≡ false) (sym (others (get_or peers k d).number differ)) (below k d low)))
    (cases_eq k i)

-- ---- calls of the system for one peer

-- and more for it
pub calls_then : {m n : ℕ} {p q r : Peer} {old mid new : List Step} → CallsForOne m p q old mid → CallsForOne n q r mid new
    → CallsForOne (m + n) p r old new
calls_then {m} {n} {p} {q} {r} {old} {mid} {new} first next = record {
  kept = next.kept;
  others = λ other differ. next.others other (λ e. differ (e ∙ first.number)) ∙ first.others other differ;
  calls = says_then old mid new first.calls next.calls;
  most = omega (arith, first.most, next.most);
  times = keeps_then old mid new first.times next.times;
  number = next.number ∙ first.number;
}

-- peers are gone through, by calls for one after the other
pub record CallsForEach (first peers : List Peer) (old new : List Step) : Type 0 where
  pub kept : AreKept new peers
  pub apart : AreApart peers
  pub those : AreThose first peers
  pub others : (other : ℕ) → IsAbsent other first → Spares other old new
  pub calls : SaysNothing old new
  pub times : KeepsTimes old new

pub calls_next : (first peers : List Peer) (i : ℕ) (p q : Peer) {count : ℕ} {old mid new : List Step} → i < length peers
    → length peers ≡ length first → CallsForEach first peers old mid → CallsForOne count (get_or peers i p) q mid new
    → CallsForEach first (set peers i q) old new
calls_next first peers i p q {old} {mid} {new} within long was one = record {
  kept = set_kept mid new peers i p q within was.apart was.kept one.kept one.others;
  apart = set_apart peers i p q within one.number was.apart;
  those = set_those first peers i p q within long one.number was.those;
  others = λ other absent.
      one.others other (absent_there other first peers i p within long was.those absent) ∙ was.others other absent;
  calls = says_then old mid new was.calls one.calls;
  times = keeps_then old mid new was.times one.times;
}
