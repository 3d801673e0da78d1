use Rattle.std.specs.Prelude.{◌≡◌, ◌<◌, length}
use Rattle.srcp_peers.specs.declared.readiness.Flush.TheVariants as flush
use Rattle.srcp_peers.specs.AllPeers.{AreApart, AreKept, AreOffered}
use Rattle.srcp_peers.specs.Steps.{SaysNothing}
use Rattle.srcp_log.specs.Delivery.{HasLooked, HasWaited}
use Rattle.srcp_log.specs.Doors.{AreStanding}
use Rattle.srcp_log.specs.Limits.{most_ready}
use Rattle.srcp_sockets.proofs.delivering.deliver.Given as goal

abbrev pub invariant-loop-look : goal.invariant-loop-look
invariant-loop-look g l = record {
  kept : AreKept l.system.log.steps l.peers;
  apart : AreApart l.peers;
  standing : AreStanding l.fn.system.log.steps l.fn.peers → AreStanding l.system.log.steps l.peers;
  calls : SaysNothing l.fn.system.log.steps l.system.log.steps;
  first : l._look ≡ 0 → (l.peers ≡ l.fn.peers) × (l.system.log.steps ≡ l.fn.system.log.steps);
  offered : 0 < l._look → AreOffered flush.All l.fn.peers l.fn.system.log.steps l.system.log.steps;
  ready : length l.ready ≡ most_ready;
  looked : HasLooked l.fn.system.log.steps l.system.log.steps;
  waited : HasWaited l._look l.fn.system.log.steps l.system.log.steps;
}
