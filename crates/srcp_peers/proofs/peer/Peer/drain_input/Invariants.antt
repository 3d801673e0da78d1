use Rattle.std.proofs.Common.{◌≡◌, false}
use Rattle.srcp_peers.specs.Peers.{CallsForOne, KeepsRest, Makes, is_here, is_read_of}
use Rattle.srcp_peers.proofs.peer.Peer.drain_input.Given as goal

abbrev pub invariant-loop : goal.invariant-loop
invariant-loop g l = record {
  alone : CallsForOne l.counter l.fn.self l.self l.fn.system.log.steps l.system.log.steps;
  gone : is_here l.self.stay ≡ false;
  made : Makes (is_read_of l.fn.self.number) l.counter l.fn.system.log.steps l.system.log.steps;
  stay : l.self.stay ≡ l.fn.self.stay;
  keeps : KeepsRest l.fn.self l.self;
}
