-- A peer is the one of its number.
use Rattle.std.proofs.Common.{◌≡◌, ◌∙◌, ◌<◌, ℕ, List, length, ap, sym, ⊎_elim, get_or, set, get_or-set_same}
use Rattle.std.specs.Prelude.{slice_index_or}
use Rattle.std.proofs.lemmas.Bool.{cases_eq}
use Rattle.std.proofs.lemmas.List.{get_or_default}
use Rattle.srcp_peers.specs.AllPeers.{AreApart}
use Rattle.srcp_peers.specs.declared.peer.Peer.{Peer}

-- a peer of the list that has the number of another is that one
pub the_one : (peers : List Peer) (i k : ℕ) (x d : Peer) → x ≡ slice_index_or peers i x → i < length peers → AreApart peers
    → k < length peers → (slice_index_or peers k d).number ≡ (slice_index_or peers i d).number → x ≡ slice_index_or peers k d
the_one peers i k x d is within apart lt same = ⊎_elim
    (λ (e : k ≡ i). is ∙ get_or_default peers i x d within ∙ ap (λ n. slice_index_or peers n d) (sym e))
    (λ (ne : k ≡ i → ⊥). absurd (apart k i d lt within ne same))
    (cases_eq k i)

-- and is what that became
pub the_changed : (peers : List Peer) (i k : ℕ) (q d : Peer) → i < length peers → AreApart peers → k < length peers
    → (slice_index_or peers k d).number ≡ (slice_index_or peers i d).number → slice_index_or (set peers i q) k d ≡ q
the_changed peers i k q d within apart lt same = ⊎_elim
    (λ (e : k ≡ i). ap (λ n. get_or (set peers i q) n d) e ∙ get_or-set_same peers i q d within)
    (λ (ne : k ≡ i → ⊥). absurd (apart k i d lt within ne same))
    (cases_eq k i)
