-- Which peers are offered what is queued for them.
use Rattle.std.proofs.Common.{◌≡◌, ◌∙◌, ℕ, ◌<◌, ◌≤◌, ◌+◌, List, [], ◌∷◌, ◌++◌, length, ap, sym, subst, arith, ⊎_elim, get_or}
use Rattle.std.proofs.Common.{append_assoc, refl, true}
use Rattle.std.specs.Prelude.{◌≢◌, slice_index_or}
use Rattle.std.proofs.lemmas.Bool.{cases_eq}
use Rattle.std.proofs.lemmas.List.{get_or_default}
use Rattle.srcp_peers.specs.declared.peer.Peer.{Peer}
use Rattle.srcp_peers.specs.declared.readiness.Flush.{Flush}
use Rattle.srcp_peers.specs.declared.readiness.Flush.TheVariants as flush
use Rattle.srcp_peers.specs.declared.readiness.Output.TheVariants as output
use Rattle.srcp_peers.specs.declared.stay.Stay.{Stay}
use Rattle.srcp_peers.specs.declared.stay.Stay.TheVariants as stay
use Rattle.srcp_peers.specs.Accounts.{account}
use Rattle.srcp_peers.specs.AllPeers.{AreOffered}
use Rattle.srcp_peers.specs.Peers.{IsFlushed, IsKept, IsOffered, Offers, OffersDue, StaysAs, flush_of, is_due, tries_again}
use Rattle.srcp_peers.specs.Peers.{woken_output}
use Rattle.srcp_peers.specs.Steps.{SaysNothing, Step, Writes}

-- the one step that came is the write
pub offered_now : (p q : Peer) (old new : List Step) → Offers p q old new → IsOffered p.number p.outgoing old new
offered_now p q old new offers = ([], offers.0, [], offers.1)

-- steps came behind it
offered_more : (socket : ℕ) (bytes : List ℕ) (old mid came new : List Step) → IsOffered socket bytes old mid
    → new ≡ mid ++ came → IsOffered socket bytes old new
offered_more socket bytes old mid came new o tells =
    let write = Writes socket bytes o.1 in (
      o.0,
      o.1,
      o.2 ++ came,
      tells ∙ ap (λ (l : List Step). l ++ came) o.3 ∙ append_assoc old (o.0 ++ write ∷ o.2) came
          ∙ ap (λ (l : List Step). old ++ l) (append_assoc o.0 (write ∷ o.2) came),
    )

pub offered_then : (socket : ℕ) (bytes : List ℕ) (old mid new : List Step) → IsOffered socket bytes old mid
    → SaysNothing mid new → IsOffered socket bytes old new
offered_then socket bytes old mid new o s = offered_more socket bytes old mid s.0 new o s.1

-- steps came before it
pub offered_after : (socket : ℕ) (bytes : List ℕ) (old mid new : List Step) → SaysNothing old mid
    → IsOffered socket bytes mid new → IsOffered socket bytes old new
offered_after socket bytes old mid new s o =
    let rest = o.0 ++ Writes socket bytes o.1 ∷ o.2 in (
      s.0 ++ o.0,
      o.1,
      o.2,
      o.3 ∙ ap (λ (l : List Step). l ++ rest) s.1 ∙ append_assoc old s.0 rest
          ∙ ap (λ (l : List Step). old ++ l) (sym (append_assoc s.0 o.0 (Writes socket bytes o.1 ∷ o.2))),
    )

-- by the write of a flush
pub flushed_now : (what : Flush) (p q : Peer) (old new : List Step)
    → (woken_output p.output (tries_again what) ≡ output.Open → p.outgoing ≢ [] → is_due what p ≡ true
    → Offers (record p { output = output.Open }) q old new) → IsFlushed what p → IsOffered p.number p.outgoing old new
flushed_now what p q old new offers due = offered_now (record p { output = output.Open }) q old new (offers due.0 due.1 due.2)

-- ---- what is due, by how a peer stays

pub due_here : (what : Flush) (p : Peer) (old new : List Step) → p.stay ≡ stay.Here
    → (IsFlushed what p → IsOffered p.number p.outgoing old new) → OffersDue what p old new
due_here what p old new here offers due = offers (subst (λ (s : Stay). IsFlushed (flush_of what s) p) here due)

pub due_all : (p : Peer) (old new : List Step) → (IsFlushed flush.All p → IsOffered p.number p.outgoing old new)
    → OffersDue flush.All p old new
due_all p old new offers due = offers (subst (λ (f : Flush). IsFlushed f p) (same p.stay) due)
  where
    same : (s : Stay) → flush_of flush.All s ≡ flush.All
    same stay.Here = refl
    same (stay.Draining since) = refl
    same (stay.Shut since) = refl

-- nothing is queued for a peer that is shut down
pub shut_offered : (p : Peer) (since : ℕ) (old new : List Step) → p.stay ≡ stay.Shut since → IsKept old p
    → SaysNothing old new → OffersDue flush.All p old new
shut_offered p since old new shut kept says due =
    let a = account p.number old in
    let stays : StaysAs a.watched a.lingering p.outgoing (stay.Shut since) =
    subst (StaysAs a.watched a.lingering p.outgoing) shut kept.stays in
    absurd (due.1 stays.4)

-- one more peer of all was offered what is queued for it
pub set_offered : (first old new : List Step) (what : Flush) (before peers : List Peer) (i : ℕ) (p : Peer)
    → i < length peers → ((k : ℕ) (d : Peer) → i ≤ k → slice_index_or peers k d ≡ slice_index_or before k d)
    → SaysNothing first old → SaysNothing old new → OffersDue what (get_or peers i p) old new
    → ((k : ℕ) (d : Peer) → k < i → OffersDue what (slice_index_or before k d) first old)
    → (k : ℕ) (d : Peer) → k < i + 1 → OffersDue what (slice_index_or before k d) first new
set_offered first old new what before peers i p within rest earlier now here below k d lt = ⊎_elim
    (λ (e : k ≡ i). subst (λ (x : Peer). OffersDue what x first new)
    (get_or_default peers i p d within ∙ rest i d (omega arith) ∙ ap (λ n. get_or before n d) (sym e))
    (λ due. offered_after (get_or peers i p).number (get_or peers i p).outgoing first old new earlier (here due)))
    (λ (ne : k ≡ i → ⊥) due. offered_then (slice_index_or before k d).number (slice_index_or before k d).outgoing first old new
    (below k d (omega (arith, lt, ne)) due) now)
    (cases_eq k i)

-- and steps came behind that
pub all_offered_more : (what : Flush) (peers : List Peer) (old mid came new : List Step) → AreOffered what peers old mid
    → new ≡ mid ++ came → AreOffered what peers old new
all_offered_more what peers old mid came new offered tells k d lt due =
    let p = slice_index_or peers k d in
    offered_more p.number p.outgoing old mid came new (offered k d lt due) tells

pub all_offered_then : (what : Flush) (peers : List Peer) (old mid new : List Step) → AreOffered what peers old mid
    → SaysNothing mid new → AreOffered what peers old new
all_offered_then what peers old mid new offered says = all_offered_more what peers old mid says.0 new offered says.1

-- they were by the first of several turns
pub offered_first : (turns : ℕ) (what : Flush) (before peers : List Peer) (first old new : List Step)
    → (turns ≡ 0 → (peers ≡ before) × (old ≡ first)) → (0 < turns → AreOffered what before first old) → SaysNothing old new
    → AreOffered what peers old new → AreOffered what before first new
offered_first turns what before peers first old new same earlier says here = ⊎_elim
    (λ (e : turns ≡ 0). subst (λ (ps : List Peer). AreOffered what ps first new) (same e).0
    (subst (λ (log : List Step). AreOffered what peers log new) (same e).1 here))
    (λ (ne : turns ≡ 0 → ⊥). all_offered_then what before first old new (earlier (omega (arith, ne))) says)
    (cases_eq turns 0)
