use Rattle.srcp_serve.proofs.Names.{◌≡◌, ◌≤◌, length, AreFreeFrom, AreAboutPeers}
use Rattle.srcp_serve.specs.Tally.{CallsDoor}
use Rattle.srcp_serve.proofs.SlotsFollow.{VisitsSoFar}
use Rattle.srcp_serve.proofs.serving.Server.visit_slots.Given as goal

abbrev pub invariant-loop-slot : goal.invariant-loop-slot
invariant-loop-slot g l = record {
  long : length l.self.slots ≡ 64;
  free : AreFreeFrom l.end l.self.slots;
  most : l.end ≤ 64;
  calls : CallsDoor g.D.Door.faults g.D.Door.trace g.D.Door.limit AreAboutPeers l.fn.self l.self;
  course : VisitsSoFar l.slot l.fn.core (g.D.Door.trace l.fn.self.door.now) l.fn.self.slots l.core
      (g.D.Door.trace l.self.door.now) l.self.slots;
}
