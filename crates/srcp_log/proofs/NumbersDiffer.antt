-- The numbers of the peers differ.
use Rattle.std.proofs.Common.{◌≡◌, ◌∙◌, ℕ, suc, ◌+◌, ◌<◌, ◌≤◌, false, List, [], ◌∷◌, ◌++◌, length, refl, ap, sym, subst}
use Rattle.std.proofs.Common.{arith, ⊎_elim, ◌==◌, Some, Ok, append-nil}
use Rattle.std.specs.Prelude.{filter_map, slice_index}
use Rattle.std.specs.List.{AllByRecursion, IsDistinct}
use Rattle.std.proofs.lemmas.Bool.{cases_lt}
use Rattle.std.proofs.lemmas.Bool.Decides.{nat_tests}
use Rattle.std.proofs.lemmas.List.{length-append, get_or_push, get_or_append_left}
use Rattle.std.proofs.lemmas.List.Elements.{filter_map-append}
use Rattle.srcp_peers.specs.declared.system.IoFailure.{IoFailure}
use Rattle.srcp_peers.specs.declared.system.IoFailure.TheVariants.{WouldBlock, Interrupted, Fatal}
use Rattle.srcp_door.specs.Calls.{AcceptCall, Call, peer_of}
use Rattle.srcp_log.specs.Names.{IsNamed, Named}
use Rattle.srcp_peers.specs.Steps.{SaysNothing, SaysOne, Step, calls}
use Rattle.srcp_peers.proofs.CallsAreOfTheDoor.{calls_stay}
use Rattle.srcp_peers.specs.Times.{failed_accept}

unequal_push : (x n : ℕ) (xs : List ℕ) → x < n → AllByRecursion (λ y. (x == y) ≡ false) xs → AllByRecursion (λ y. (x == y) ≡ false)
    (xs ++ n ∷ [])
unequal_push x n [] below h = (grind (arith, nat_tests), tt)
unequal_push x n (y ∷ ys) below h = (h.0, unequal_push x n ys below h.1)

differ_push : (xs : List ℕ) (n : ℕ) → ((k : ℕ) → k < length xs → slice_index xs k < n) → IsDistinct (λ a b. a == b) xs
    → IsDistinct (λ a b. a == b) (xs ++ n ∷ [])
unfolding IsDistinct
differ_push [] n below h = (tt, tt)
differ_push (x ∷ xs) n below h =
    (unequal_push x n xs (below 0 (omega arith)) h.0, differ_push xs n (λ k lt. below (suc k) (omega (arith, lt))) h.1)

named_push : (xs : List ℕ) (last n : ℕ) → n ≡ last + 1 → Named xs last → Named (xs ++ n ∷ []) n
named_push xs last n next h = record {
  differ = differ_push xs n (λ k lt. let w = h.within k lt in omega (arith, w, next)) h.differ;
  within = λ k lt. ⊎_elim
      (λ (low : k < length xs).
      let e : slice_index (xs ++ n ∷ []) k ≡ slice_index xs k = get_or_append_left xs (n ∷ []) 0 k low in
      let w = h.within k low in omega (arith, e, w, next))
      (λ (high : length xs ≤ k).
      let e : slice_index (xs ++ n ∷ []) k ≡ n = get_or_push xs n 0 k (omega (arith, lt, high, length-append xs (n ∷ []))) in omega
      (arith, e))
      (cases_lt k (length xs));
  count = (let as_many = h.count in omega (arith, as_many, next, length-append xs (n ∷ [])));
}

pub named_silent : (old new : List Step) (last : ℕ) → SaysNothing old new → IsNamed old last → IsNamed new last
named_silent old new last says named =
    subst (λ (xs : List ℕ). Named xs last) (ap (filter_map peer_of) (sym (calls_stay old new says))) named

more_of : (old new : List Step) (call : Call) → SaysOne old call new
    → filter_map peer_of (calls new) ≡ filter_map peer_of (calls old) ++ filter_map peer_of (call ∷ [])
more_of old new call says = ap (filter_map peer_of) says ∙ filter_map-append peer_of (calls old) (call ∷ [])

pub named_call : (old new : List Step) (last : ℕ) (call : Call) → SaysOne old call new → filter_map peer_of (call ∷ []) ≡ []
    → IsNamed old last → IsNamed new last
named_call old new last call says none named =
    subst (λ (xs : List ℕ). Named xs last) (sym (more_of old new call says
    ∙ ap (λ xs. filter_map peer_of (calls old) ++ xs) none ∙ append-nil (filter_map peer_of (calls old)))) named

-- one came
pub named_come : (old new : List Step) (last n : ℕ) → n ≡ last + 1 → SaysOne old (AcceptCall (Ok (Some n))) new → IsNamed old last
    → IsNamed new n
named_come old new last n next says named =
    subst (λ (xs : List ℕ). Named xs n) (sym (more_of old new (AcceptCall (Ok (Some n))) says))
    (named_push (filter_map peer_of (calls old)) last n next named)

-- nobody came
pub nobody_named : (said : IoFailure) → filter_map peer_of (AcceptCall (failed_accept said) ∷ []) ≡ []
nobody_named WouldBlock = refl
nobody_named Interrupted = refl
nobody_named Fatal = refl

pub named_first : (log : List Step) → log ≡ [] → IsNamed log 0
unfolding IsDistinct
named_first log none = subst (λ (l : List Step). IsNamed l 0) (sym none)
    (record { differ = tt; within = λ k lt. absurd (omega (arith, lt)); count = refl })
