use Rattle.srcp_serve.proofs.Names.{◌≡◌, AreAboutPeers}
use Rattle.srcp_serve.specs.Tally.{CallsDoor}
use Rattle.srcp_serve.proofs.WritesFollow.{TakesSoFar}
use Rattle.srcp_serve.proofs.serving.Server.write_out.Given as goal

abbrev pub invariant-loop : goal.invariant-loop
invariant-loop g l = record {
  slots : l.self.slots ≡ l.fn.self.slots;
  calls : CallsDoor g.D.Door.faults g.D.Door.trace g.D.Door.limit AreAboutPeers l.fn.self l.self;
  course : TakesSoFar l.client.peer l.client.key l.fn.core (g.D.Door.trace l.fn.self.door.now) l.core
      (g.D.Door.trace l.self.door.now) l.counter;
}
