-- Each peer was one of those before, by its number.
use Rattle.std.proofs.Common.{◌≡◌, ◌∙◌, ℕ, ◌<◌, ◌≤◌, Bool, List, [], ◌∷◌, ◌++◌, length, refl, ap, sym, subst, arith, ⊎_elim}
use Rattle.std.proofs.Common.{◌==◌, get_or, set, get_or-set_other, get_or-set_same, if◌then◌else◌, true, false}
use Rattle.std.specs.Prelude.{◌≢◌, ◌||◌, All, cond, fold, slice_index_or}
use Rattle.std.specs.List.{remove}
use Rattle.std.proofs.lemmas.Bool.{cases_eq}
use Rattle.std.proofs.lemmas.List.{get_or_default, length-set}
use Rattle.std.proofs.lemmas.List.Elements.{All-push}
use Rattle.srcp_door.specs.declared.pacing.Share.{Share}
use Rattle.srcp_peers.specs.declared.peer.Peer.{Peer}
use Rattle.srcp_peers.specs.declared.system.Ready.{Ready}
use Rattle.srcp_peers.specs.AllPeers.{AreApart, AreShared, AreThose}
use Rattle.srcp_peers.specs.Peers.{IsShared, KeepsRest, KeepsShare, after_wake, is_here, woken_input, woken_output}
use Rattle.srcp_peers.proofs.PeersStayKept.{all_number}
use Rattle.srcp_log.specs.Work.{AreFrom, IsFrom}
use Rattle.srcp_log.proofs.SocketsLingerAndClose.{leaves_one}

-- ---- from list to list

there : (Holds : Peer → Peer → Type 0) (old : List Peer) (j : ℕ) (d p : Peer) → j < length old
    → p.number ≡ (slice_index_or old j d).number → Holds (slice_index_or old j d) p → IsFrom Holds old p
there Holds old j d p low same holds =
    (j, slice_index_or old j d, low, sym (get_or_default old j d (slice_index_or old j d) low), (same, holds))

pub from_each : (Holds : Peer → Peer → Type 0) (old new : List Peer) → length new ≡ length old → AreThose old new
    → ((k : ℕ) (d : Peer) → k < length old → Holds (slice_index_or old k d) (slice_index_or new k d)) → AreFrom Holds old new
from_each Holds old new long those each k d lt =
    let low : k < length old = omega (arith, lt, long) in
    there Holds old k d (slice_index_or new k d) low (those k d low) (each k d low)

pub from_same : (Holds : Peer → Peer → Type 0) → ((p : Peer) → Holds p p) → (peers : List Peer) → AreFrom Holds peers peers
from_same Holds stays peers = from_each Holds peers peers refl (λ k d lt. refl) (λ k d lt. stays (slice_index_or peers k d))

-- who is from one that is from a list is from that list
pub since : (Holds Later Both : Peer → Peer → Type 0) → ((a b c : Peer) → Holds a b → Later b c → Both a c)
    → (old mid : List Peer) (p : Peer) → AreFrom Holds old mid → IsFrom Later mid p → IsFrom Both old p
since Holds Later Both both old mid p from late =
    let early : IsFrom Holds old late.1 = subst (IsFrom Holds old) late.3 (from late.0 late.1 late.2) in
    (early.0, early.1, early.2, early.3, (late.4.0 ∙ early.4.0, both early.1 late.1 p early.4.1 late.4.1))

pub from_then : (Holds Later Both : Peer → Peer → Type 0) → ((a b c : Peer) → Holds a b → Later b c → Both a c)
    → (old mid new : List Peer) → AreFrom Holds old mid → AreFrom Later mid new → AreFrom Both old new
from_then Holds Later Both both old mid new from late k d lt =
    since Holds Later Both both old mid (slice_index_or new k d) from (late k d lt)

pub from_weaker : (Holds Weaker : Peer → Peer → Type 0) → ((a b : Peer) → Holds a b → Weaker a b) → (old new : List Peer)
    → AreFrom Holds old new → AreFrom Weaker old new
from_weaker Holds Weaker weaker old new from k d lt =
    let f = from k d lt in
    (f.0, f.1, f.2, f.3, (f.4.0, weaker f.1 (slice_index_or new k d) f.4.1))

-- ---- one of them changes, one is gone, one came

pub from_set : (Holds : Peer → Peer → Type 0) → ((p : Peer) → Holds p p) → (peers : List Peer) (i : ℕ) (p q : Peer)
    → i < length peers → p ≡ get_or peers i p → q.number ≡ p.number → Holds p q → AreFrom Holds peers (set peers i q)
from_set Holds stays peers i p q within at same holds k d lt =
    let low : k < length peers = omega (arith, lt, length-set peers i q) in
    ⊎_elim
    (λ (e : k ≡ i). subst (IsFrom Holds peers) (sym (ap (λ n. get_or (set peers i q) n d) e ∙ get_or-set_same peers i q d within))
    (i, p, within, sym at, (same, holds)))
    (λ (ne : k ≡ i → ⊥). subst (IsFrom Holds peers) (sym (get_or-set_other peers i k q d ne))
    (there Holds peers k d (get_or peers k d) low refl (stays (get_or peers k d))))
    (cases_eq k i)

-- the others are kept so if they have another number
pub from_set_of : (Holds : Peer → Peer → Type 0) (peers : List Peer) (i : ℕ) (p q : Peer) → i < length peers → p ≡ get_or peers i p
    → q.number ≡ p.number → AreApart peers → ((other : Peer) → other.number ≢ p.number → Holds other other) → Holds p q
    → AreFrom Holds peers (set peers i q)
from_set_of Holds peers i p q within at same apart stays holds k d lt =
    let low : k < length peers = omega (arith, lt, length-set peers i q) in
    ⊎_elim
    (λ (e : k ≡ i). subst (IsFrom Holds peers) (sym (ap (λ n. get_or (set peers i q) n d) e ∙ get_or-set_same peers i q d within))
    (i, p, within, sym at, (same, holds)))
    (λ (ne : k ≡ i → ⊥). subst (IsFrom Holds peers) (sym (get_or-set_other peers i k q d ne))
    (there Holds peers k p (get_or peers k d) low (ap (λ (x : Peer). x.number) (get_or_default peers k d p low))
    (subst (λ (x : Peer). Holds x (get_or peers k d)) (get_or_default peers k d p low)
    (stays (get_or peers k d) (λ e. apart k i p low within ne
    (sym (ap (λ (x : Peer). x.number) (get_or_default peers k d p low)) ∙ e ∙ ap (λ (x : Peer). x.number) at))))))
    (cases_eq k i)

pub from_removed : (Holds : Peer → Peer → Type 0) → ((p : Peer) → Holds p p) → (peers : List Peer) (i : ℕ) (p : Peer)
    → i < length peers → get_or peers i p ≡ p → AreApart peers → AreFrom Holds peers (remove peers i)
from_removed Holds stays peers i p within at apart k d lt =
    let leaves = leaves_one p.number peers i within
    (λ e. ap (λ (x : Peer). x.number) (get_or_default peers i e p within ∙ at)) apart in
    let f = leaves.from k d lt in
    subst (IsFrom Holds peers) (sym f.2)
    (there Holds peers f.0 d (slice_index_or peers f.0 d) f.1 refl (stays (slice_index_or peers f.0 d)))

-- each that has a number up to the last is from those
pub from_pushed : (Holds : Peer → Peer → Type 0) → ((p : Peer) → Holds p p) → (peers items : List Peer) (p : Peer) (last : ℕ)
    → items ≡ peers ++ p ∷ [] → last < p.number → All (λ q. q.number ≤ last → IsFrom Holds peers q) items
from_pushed Holds stays peers items p last pushed above k d lt =
    let New : Peer → Type 0 = λ q. q.number ≤ last → IsFrom Holds peers q in
    let each : (j : ℕ) (e : Peer) → j < length peers → New (slice_index_or peers j e) =
    λ j e low below. there Holds peers j e (slice_index_or peers j e) low refl (stays (slice_index_or peers j e)) in
    subst (λ (qs : List Peer). k < length qs → New (slice_index_or qs k d)) (sym pushed)
    (All-push New peers p each (λ below. absurd (omega (arith, above, below))) k d) lt

-- ---- what is kept

pub share_stays : (p : Peer) → KeepsShare p p
share_stays p = (refl, refl)

pub rest_stays : (p : Peer) → KeepsRest p p
rest_stays p = ((refl, refl), refl, refl, λ here. (refl, refl, refl))

pub share_then : (a b c : Peer) → KeepsShare a b → KeepsShare b c → KeepsShare a c
share_then a b c one two = (two.0 ∙ one.0, two.1 ∙ one.1)

pub rest_then : (a b c : Peer) → KeepsRest a b → KeepsRest b c → KeepsRest a c
rest_then a b c one two = (
  share_then a b c one.0 two.0,
  two.1 ∙ one.1,
  two.2 ∙ one.2,
  λ here.
      let first = one.3 here in
      let second = two.3 (ap is_here first.0 ∙ here) in
      (second.0 ∙ first.0, second.1 ∙ first.1, second.2 ∙ first.2),
)

pub rest_shares : (a b : Peer) → KeepsRest a b → KeepsShare a b
rest_shares a b h = h.0

shared_then : (anew : Bool) (a b c : Peer) → KeepsShare a b → IsShared anew b c → IsShared anew a c
shared_then anew a b c stays h = (h.0 ∙ ap (λ (s : Share). cond {A = ℕ} anew 256 s.rest) stays.0, h.1 ∙ stays.1)

-- what a turn keeps until the visits begin, and what these make of the shares
pub all_shared : (anew : Bool) (old gone looked new : List Peer) → AreFrom KeepsRest old gone
    → AreFrom KeepsShare gone looked → length new ≡ length looked → AreThose looked new → AreShared anew looked new
    → AreFrom (IsShared anew) old new
all_shared anew old gone looked new left kept long those shared =
    from_then KeepsShare (IsShared anew) (IsShared anew) (shared_then anew) old looked new
    (from_then KeepsRest KeepsShare KeepsShare (λ a b c rest share. share_then a b c (rest_shares a b rest) share) old gone looked left
    kept)
    (from_each (IsShared anew) looked new long those shared)

-- a socket was found ready
woken_one : (p : Peer) (one : Ready) → KeepsShare p (after_wake p one)
woken_one p one = by (one.socket == p.number)
  where
    by : (b : Bool) → KeepsShare p (if b then record p {
      input = woken_input p.input one.readable (one.closed || one.urgent);
      output = woken_output p.output one.writable;
    } else p)
    by true = (refl, refl)
    by false = (refl, refl)

woken_all : (p : Peer) (ready : List Ready) → KeepsShare p (fold after_wake p ready)
woken_all p [] = (refl, refl)
woken_all p (one ∷ more) =
    share_then p (after_wake p one) (fold after_wake p (one ∷ more)) (woken_one p one) (woken_all (after_wake p one) more)

pub woken_from : (before after : List Peer) (ready : List Ready) → length after ≡ length before
    → ((k : ℕ) (d : Peer) → k < length before → slice_index_or after k d ≡ fold after_wake (slice_index_or before k d) ready)
    → AreFrom KeepsShare before after
woken_from before after ready long woken = from_each KeepsShare before after long
    (λ k d lt. ap (λ (p : Peer). p.number) (woken k d lt) ∙ all_number (slice_index_or before k d) ready)
    (λ k d lt. subst (KeepsShare (slice_index_or before k d)) (sym (woken k d lt)) (woken_all (slice_index_or before k d) ready))
