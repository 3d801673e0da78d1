use Rattle.std.proofs.Common.{◌≡◌, drop}
use Rattle.srcp_stations.specs.Dataset.{joined}
use Rattle.srcp_stations.proofs.dataset.check.Given as goal

-- what is left is joined to the sum so far
abbrev pub invariant-loop-byte : goal.invariant-loop-byte
invariant-loop-byte l = joined l.sum (drop l.byte-index l.bytes) ≡ joined 0 l.bytes
