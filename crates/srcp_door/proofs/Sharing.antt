-- What goes of a peer's piece, by what goes of its share.
use Rattle.std.proofs.Common.{◌≡◌, ℕ, ◌≤◌, List, length, take, sym, subst, arith}
use Rattle.std.proofs.lemmas.List.{take_all}
use Rattle.srcp_door.specs.Pacing.{IsLongest, weight_of}
use Rattle.srcp_door.specs.declared.pacing.LineBoundary.{LineBoundary}

-- what goes of a share that is the whole piece is what goes of the piece
pub alone : (line : LineBoundary) (most rest n : ℕ) (piece : List ℕ) → length piece ≤ rest → IsLongest line most (take rest piece) n
    → IsLongest line (weight_of line (take n (take rest piece))) piece n
alone line most rest n piece short own =
    let all : take rest piece ≡ piece = take_all rest piece short in
    subst (λ (bytes : List ℕ). IsLongest line (weight_of line (take n bytes)) piece n) (sym all)
    (upto (subst (λ (bytes : List ℕ). IsLongest line most bytes n) all own))
  where
    upto : IsLongest line most piece n → IsLongest line (weight_of line (take n piece)) piece n
    upto h = record {
      within = h.within;
      few = omega arith;
      longest = λ k within more. let heavy = h.longest k within more in omega (arith, heavy, h.few);
      whole = h.whole;
      begun = h.begun;
    }
