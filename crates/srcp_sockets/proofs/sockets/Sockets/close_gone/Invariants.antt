use Rattle.std.proofs.Common.{◌≡◌, ◌≤◌, ℕ, Bool, length}
use Rattle.srcp_peers.specs.Peers.{KeepsRest, Makes}
use Rattle.srcp_peers.specs.Steps.{GrowsBy, SaysNothing}
use Rattle.srcp_peers.specs.Times.{KeepsTimes}
use Rattle.srcp_log.specs.Waits.{AreFlushed}
use Rattle.srcp_log.specs.Work.{AreFrom, is_close}
use Rattle.srcp_sockets.proofs.sockets.Sockets.close_gone.Given as goal

abbrev pub invariant-loop : goal.invariant-loop
invariant-loop g l = record {
  calls : SaysNothing l.fn.self.system.log.steps l.self.system.log.steps;
  last : l.self.last ≡ l.fn.self.last;
  times : KeepsTimes l.fn.self.system.log.steps l.self.system.log.steps;
  turn : l.self.turn ≡ l.fn.self.turn;
  services : l.self.services ≡ l.fn.self.services;
  limit : l.self.most ≡ l.fn.self.most;
  heard : l.self.listening ≡ l.fn.self.listening;
  made : Makes is_close l.counter l.fn.self.system.log.steps l.self.system.log.steps;
  most : (n : ℕ) → l.counter ≤ n → GrowsBy n l.fn.self.system.log.steps l.self.system.log.steps;
  left : AreFrom KeepsRest l.fn.self.peers.items l.self.peers.items;
  as_few : length l.self.peers.items ≤ length l.fn.self.peers.items;
  out : (all : Bool) → AreFlushed all l.fn.self.system.log.steps → AreFlushed all l.self.system.log.steps;
}
