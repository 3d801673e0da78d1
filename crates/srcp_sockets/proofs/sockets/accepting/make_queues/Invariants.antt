use Rattle.std.proofs.Common.{◌≡◌, ◌≤◌, length}
use Rattle.std.specs.Prelude.{vec_capacity}
use Rattle.srcp_log.specs.Limits.{most_peers}
use Rattle.srcp_sockets.proofs.sockets.accepting.make_queues.Given as goal

abbrev pub invariant-loop : goal.invariant-loop
invariant-loop l = record {
  made : length l.all.items ≡ l.counter;
  capacity : most_peers ≤ vec_capacity l.all;
}
