use Rattle.std.proofs.Common.{◌≤◌, length}
use Rattle.srcp_sockets_tests.proofs.network.Network.take_edges.Given as goal

abbrev pub invariant-loop-socket : goal.invariant-loop-socket
invariant-loop-socket l = l.count ≤ length l.ready
