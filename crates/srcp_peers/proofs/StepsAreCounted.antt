-- How many steps came of a kind.
use Rattle.std.proofs.Common.{◌≡◌, ◌∙◌, ℕ, suc, ◌+◌, ◌*◌, ◌/◌, ◌<◌, ◌≤◌, ◌==◌, Bool, List, [], ◌∷◌, ◌++◌, true, false, ap, arith}
use Rattle.std.proofs.Common.{filter, get_or, le_trans, length, not, sym, take}
use Rattle.std.specs.Prelude.{cond, count_by, max}
use Rattle.std.specs.List.{sum_by}
use Rattle.std.proofs.Math.Nat.{mul-div-le, mul-le-mul_right, suc-mul}
use Rattle.std.proofs.Math.Seq.{take-suc}
use Rattle.std.proofs.lemmas.List.{length-append}
use Rattle.std.proofs.lemmas.Bool.Decides.{nat_tests}
use Rattle.std.proofs.lemmas.List.Sums.{sum_by-append, sum_by-cons, sum_by-take-le}
use Rattle.srcp_peers.specs.declared.peer.Peer.{Peer}
use Rattle.srcp_peers.specs.Steps.{GrowsBy, Reads, Step}
use Rattle.srcp_peers.specs.Peers.{Asks, Makes, calls_in, is_here, is_read_of, reads_each}

-- one more
pub makes_more : (is_such : Step → Bool) (count : ℕ) (first old new : List Step) (step : Step)
    → Makes is_such count first old → new ≡ old ++ step ∷ [] → is_such step ≡ true → Makes is_such (count + 1) first new
makes_more is_such count first old new step made is such =
    let one : count_by is_such (step ∷ []) ≡ 1 = ap (λ (b : Bool). 0 + cond {A = ℕ} b 1 0) such ∙ omega arith in
    ap (count_by is_such) is ∙ sum_by-append (λ x. cond (is_such x) 1 0) old (step ∷ []) ∙ omega (arith, made, one)

same_number : (socket : ℕ) → (socket == socket) ≡ true
same_number socket = grind (arith, nat_tests)

pub asked_more : (p q : Peer) (count : ℕ) (first old new : List Step) → Makes (is_read_of p.number) count first old
    → Asks p q old new → Makes (is_read_of p.number) (count + 1) first new
asked_more p q count first old new made asks = makes_more (is_read_of p.number) count first old new
    (Reads p.number asks.0 asks.1) made asks.2 (same_number p.number)

-- ---- how many steps came at most

pub grows_step : (old new : List Step) (step : Step) → new ≡ old ++ step ∷ [] → GrowsBy 1 old new
grows_step old new step is = omega (arith, ap length is, length-append old (step ∷ []))

-- one peer more
pub grows_peer : (cost : Peer → ℕ) (peers : List Peer) (k : ℕ) (p d : Peer) (first old new : List Step) → k < length peers
    → p ≡ get_or peers k d → GrowsBy (sum_by cost (take k peers)) first old → GrowsBy (cost p) old new
    → GrowsBy (sum_by cost (take (k + 1) peers)) first new
grows_peer cost peers k p d first old new lt is grown grows =
    let next : k + 1 ≡ suc k = omega arith in
    let same : take (suc k) peers ≡ take k peers ++ p ∷ [] =
    take-suc peers k d lt ∙ ap (λ (q : Peer). take k peers ++ q ∷ []) (sym is) in
    let sum : sum_by cost (take (k + 1) peers) ≡ sum_by cost (take k peers) + sum_by cost (p ∷ []) =
    ap (λ n. sum_by cost (take n peers)) next ∙ ap (sum_by cost) same ∙ sum_by-append cost (take k peers) (p ∷ []) in
    let one : sum_by cost (p ∷ []) ≡ cost p + 0 = sum_by-cons cost p [] in
    omega (arith, sum, one, grown, grows)

abbrev lingering : List Peer → ℕ
lingering peers = length (filter (λ (p : Peer). not (is_here p.stay)) peers)

-- two for each, and the reads of those that linger
flush_sum : (q : ℕ) (peers : List Peer) → sum_by (calls_in (max q 1)) peers ≤ 2 * length peers + lingering peers * q
flush_sum q [] = omega arith
flush_sum q (p ∷ peers) = by (is_here p.stay) (sum_by-cons (calls_in (max q 1)) p peers) (flush_sum q peers)
  where
    longer : (n l rest all : ℕ) → all ≡ max 2 (max q 1) + rest → rest ≤ 2 * l + n * q → all ≤ 2 * suc l + suc n * q
    longer n l rest all cost more = omega (arith, cost, more, suc-mul n q)

    by : (b : Bool) → sum_by (calls_in (max q 1)) (p ∷ peers) ≡ cond b 1 (max 2 (max q 1)) + sum_by (calls_in (max q 1)) peers
        → sum_by (calls_in (max q 1)) peers ≤ 2 * length peers + lingering peers * q
        → sum_by (calls_in (max q 1)) (p ∷ peers)
        ≤ 2 * suc (length peers) + length (cond (not b) (p ∷ filter (λ (x : Peer). not (is_here x.stay)) peers)
        (filter (λ (x : Peer). not (is_here x.stay)) peers)) * q
    by true cost more = omega (arith, cost, more)
    by false cost more = longer (lingering peers) (length peers) (sum_by (calls_in (max q 1)) peers)
        (sum_by (calls_in (max q 1)) (p ∷ peers)) cost more

pub grows_flush : (peers : List Peer) (k : ℕ) (old new : List Step)
    → GrowsBy (sum_by (calls_in (reads_each peers)) (take k peers)) old new → GrowsBy (2 * length peers + 64) old new
grows_flush peers k old new grows =
    let n = lingering peers in
    let q = 64 / max n 1 in
    let sum = flush_sum q peers in
    let some = sum_by-take-le (calls_in (reads_each peers)) peers k in
    let some_or_one : n ≤ max n 1 = omega arith in
    let shared : n * q ≤ 64 = le_trans (mul-le-mul_right q some_or_one) (mul-div-le 64 (max n 1)) in
    omega (arith, sum, some, shared, grows)
