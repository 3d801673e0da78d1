use Rattle.srcp_serve.proofs.Names.{◌≡◌, ◌∙◌, arith, refl, Failed, Less}
use Rattle.srcp_serve.proofs.WritesFollow.{ends_full, takes_first, takes_last, takes_on}
use Rattle.srcp_serve.proofs.DoorIsCalled.{calls_none, calls_on}
use Rattle.srcp_serve.proofs.serving.Server.write_out.Goals as goal

pub loop-init : goal.loop-init
loop-init g c = record {
  slots = refl;
  calls = calls_none _ _ _ _ c.requires;
  course = takes_first _ _ _ _;
}

pub loop-preserved : goal.loop-preserved
loop-preserved g c = record {
  slots = c.write_once.ensures.slots ∙ c.loop.invariant.slots;
  calls = calls_on _ _ _ _ _ _ c.loop.invariant.calls c.write_once.ensures.calls;
  course =
      takes_on c.args.client.peer c.args.client.key c.args.core.now c.loop.core c.write_once.new.core
      (g.D.Door.trace c.args.self.now.door.now)
      (g.D.Door.trace c.loop.self.door.now)
      (g.D.Door.trace c.write_once.new.self.door.now) c.loop.counter c.loop.invariant.course
      c.write_once.ensures.calls.asks c.in-All.ensures.course;
}

pub returns-in-Less-clause-calls : goal.returns-in-Less-clause-calls
returns-in-Less-clause-calls g c = calls_on _ _ _ _ _ _ c.loop.invariant.calls c.write_once.ensures.calls

pub returns-in-Less-clause-course : goal.returns-in-Less-clause-course
returns-in-Less-clause-course g c =
    takes_last _ _ _ c.loop.core _ _ (g.D.Door.trace c.loop.self.door.now) _ c.loop.counter c.loop.invariant.course
    c.write_once.ensures.calls.asks c.loop-test.true Less tt
    c.in-Less.ensures.course

pub returns-in-Failed-clause-calls : goal.returns-in-Failed-clause-calls
returns-in-Failed-clause-calls g c = calls_on _ _ _ _ _ _ c.loop.invariant.calls c.write_once.ensures.calls

pub returns-in-Failed-clause-course : goal.returns-in-Failed-clause-course
returns-in-Failed-clause-course g c =
    takes_last _ _ _ c.loop.core _ _ (g.D.Door.trace c.loop.self.door.now) _ c.loop.counter c.loop.invariant.course
    c.write_once.ensures.calls.asks c.loop-test.true Failed tt
    c.in-Failed.ensures.course

pub returns-clause-course : goal.returns-clause-course
returns-clause-course g c =
    let most : c.loop.counter ≡ 300 = omega (arith, c.loop-test.false, c.loop.auto.counter-end) in
    ends_full _ _ _ _ _
    _ _ most c.loop.invariant.course
