use Rattle.srcp_serve.proofs.Names.{◌≡◌, ◌≤◌, AreTurns, Asks}
use Rattle.srcp_serve.specs.Tally.{CountsFaults}
use Rattle.srcp_serve.proofs.ServingFollows.{ServesSoFar}
use Rattle.srcp_serve.proofs.serving.serve.Given as goal

abbrev pub invariant-loop : goal.invariant-loop
invariant-loop g l =
    let trace = g.D.Door.trace l.server.door.now in
    record {
      same_door : l.server.door.ghost_name ≡ l.initial.server.door.ghost_name;
      faults : CountsFaults 0 (g.D.Door.faults l.fn.door) l.server.tally.faults (g.D.Door.faults l.server.door.now);
      course : ServesSoFar l.counter l.opened l.fn.core (g.D.Door.trace l.fn.door) l.core trace l.server.slots;
      few : l.opened ≤ l.counter;
      trace : Asks (AreTurns l.counter) (g.D.Door.trace l.fn.door) trace;
      limit : g.D.Door.limit l.server.door.now ≡ g.D.Door.limit l.fn.door;
    }
