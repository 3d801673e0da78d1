-- The numbers that the door gave its peers.
use Rattle.std.specs.Prelude.{◌≡◌, ℕ, ◌<◌, ◌≤◌, ◌==◌, List, length, filter_map, slice_index}
use Rattle.std.specs.List.{IsDistinct}
use Rattle.std.proofs.Props.{props}
use Rattle.std.proofs.lemmas.Map.Keys.{IsDistinct-prop}
use Rattle.srcp_door.specs.Calls.{peer_of}
use Rattle.srcp_peers.specs.Steps.{Step, calls}

-- no number was given twice, none is above the last, and as many were given as that
pub record Named (numbers : List ℕ) (last : ℕ) : Type 0 where
  pub differ : IsDistinct (λ a b. a == b) numbers
  pub within : (k : ℕ) → k < length numbers → slice_index numbers k ≤ last
  pub count : length numbers ≡ last

abbrev pub IsNamed : List Step → ℕ → Type 0
IsNamed log last = Named (filter_map peer_of (calls log)) last

pub IsNamed-prop : (log : List Step) (last : ℕ) → IsProp (IsNamed log last)
IsNamed-prop log last = hlevel (props, IsDistinct-prop)
