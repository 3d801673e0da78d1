use Rattle.std.specs.Prelude.{◌≡◌, ◌≢◌, ◌<◌, ◌≤◌, ℕ, All, IfNone, IfSome, List, Result, Ok, Err, length, slice_index_or}
use Rattle.std.specs.List.Sorted.{IsBinarySearchResult, IsNonDecreasingBy, IsSearchInRange}
use Rattle.std.specs.Ordering.{nat_cmp, ordering_index}
use Rattle.std.specs.Result.{result_ok}
use Rattle.std.proofs.Common.{rules, arith, sym}
use Rattle.std.proofs.lemmas.Bool.Decides.{nat_tests}
use Rattle.std.proofs.lemmas.Cmp.{ranked}
use Rattle.std.proofs.lemmas.List.Sorted.{answers_always}
use Rattle.srcp_sockets.specs.declared.mio_system.Socket.{Socket}
use Rattle.srcp_sockets.proofs.mio_system.MioSystem.index_of.Goals as goal

module _ (l : List Socket) (n : ℕ) where
  -- if the numbers rise, so do their comparisons with n, as a binary search asks
  compared_rise : IsNonDecreasingBy (λ socket. socket.number) l
      → IsNonDecreasingBy (λ socket. ordering_index (nat_cmp socket.number n)) l
  compared_rise rise i j d le lt = let up = rise i j d le lt in grind (arith, nat_tests)

  -- a binary search by number ends at a socket with the number, or at the gap for it
  searched : (r : Result ℕ ℕ) → IsSearchInRange r (length l) → IsBinarySearchResult (λ socket. nat_cmp socket.number n) l r
      → record {
        found : IfSome (result_ok r) (λ i. (i < length l) × ((d : Socket) → (slice_index_or l i d).number ≡ n));
        absent : IsNonDecreasingBy (λ socket. socket.number) l → IfNone (result_ok r) (All (λ socket. socket.number ≢ n) l);
      }
  searched (Ok at) bound equal = record { found = (bound, λ d. ranked _ n _ (sym (equal d))); absent = λ rise. tt }
  searched (Err at) bound parted = record { found = tt; absent = apart }
    where
      apart : IsNonDecreasingBy (λ socket. socket.number) l → All (λ socket. socket.number ≢ n) l
      apart rise k d lt same =
          let ends = parted (compared_rise rise) in
          let below : k < at → (slice_index_or l k d).number < n = λ less. ranked _ n _ (sym (ends.0 k d (omega arith) less)) in
          let above : at ≤ k → n < (slice_index_or l k d).number = λ le. ranked _ n _ (sym (ends.1 k d le lt)) in
          grind (arith, below, above)

-- what the search of the sockets answers
pub returns : goal.returns
returns g c =
    let facts = c.binary_search_by_key.ensures in
    let by_key = facts.position (λ socket. socket.number) (answers_always _ _ _ (λ f a r g called. search rules)) in
    rw (c.ok.ensures.value, ← c.deref.ensures.value)
    (searched c.deref.result.now c.args.number c.binary_search_by_key.result facts.bound by_key)
