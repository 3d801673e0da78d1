use Rattle.srcp_serve.proofs.Names.{◌≡◌, ◌∙◌, arith, refl, ℕ, Option, Past, Trace, ServesCourse, AreTurns, Asks}
use Rattle.std.proofs.Common.{rules}
use Rattle.srcp_serve.proofs.ServingFollows.{fewer, serves_all, serves_first, serves_on}
use Rattle.srcp_serve.proofs.DoorIsCalled.{counts_then, none_failed, asks_then, one_more_turn, turns_none}
use Rattle.srcp_serve.proofs.serving.serve.Goals as goal

pub loop-init : goal.loop-init
loop-init g c =
    let n = c.new-server.ensures in
    let trace = g.D.Door.trace _ in
    record {
      same_door = refl;
      faults = rw (n.faults, n.door) (none_failed 0 _ _ (omega arith) refl);
      course = rw (n.door, n.slots) (serves_first _ trace);
      few = omega arith;
      trace = rw n.door (turns_none trace);
      limit = rw n.door refl;
    }

pub loop-preserved : goal.loop-preserved
loop-preserved g c = record {
  same_door = c.turn-opens.ensures.calls.same_door ∙ c.loop.invariant.same_door;
  faults = counts_then _ _ _ _ _ _ c.loop.invariant.faults c.turn-opens.ensures.calls.counted;
  few = fewer c.turn-opens.result c.loop.opened c.loop.counter c.one_more_if-opened.result c.loop.invariant.few
      c.one_more_if-opened.ensures;
  course =
      rw c.one_more_if-opened.ensures
      (serves_on c.loop.counter c.loop.opened c.turn-opens.result c.args.core.now c.loop.core c.turn-opens.new.core (g.D.Door.trace
      c.args.door.now) (g.D.Door.trace c.loop.server.door.now)
      (g.D.Door.trace c.turn-opens.new.self.door.now) c.loop.server.slots c.turn-opens.new.self.slots
      c.loop.invariant.course c.loop.invariant.trace c.turn-opens.ensures.calls.asks c.turn-opens.ensures.course);
  trace = asks_then one_more_turn _ _ _ c.loop.invariant.trace c.turn-opens.ensures.calls.asks;
  limit = c.turn-opens.ensures.calls.same_limit ∙ c.loop.invariant.limit;
}

-- what is told to one value is told to the same value under another name
same_trace : {D : Type 0} (trace_of : D → Trace) (turns : ℕ) (old : Trace) {x y : D} → y ≡ x
    → Asks (AreTurns turns) old (trace_of x) → Asks (AreTurns turns) old (trace_of y)
same_trace trace_of turns old e h = rw e h

same_served : {D : Type 0} (trace_of : D → Trace) (turns opened : ℕ) (core new : Past) (old : Trace)
    {x y : D} → y ≡ x → ServesCourse turns opened core old new (trace_of x) → ServesCourse turns opened core old new (trace_of y)
same_served trace_of turns opened core new old e s = rw e s

same_limit : {D : Type 0} (limit_of : D → Option ℕ) (old : Option ℕ) {x y : D} → y ≡ x → limit_of x ≡ old → limit_of y ≡ old
same_limit limit_of old e h = rw e h

pub returns-clause-limit : goal.returns-clause-limit
returns-clause-limit g c = same_limit g.D.Door.limit _ {x = c.loop.server.door.now} (search rules) c.loop.invariant.limit

pub returns-clause-trace : goal.returns-clause-trace
returns-clause-trace g c =
    let all : c.loop.counter ≡ c.args.turns = omega (arith, c.loop-test.false, c.loop.auto.counter-end) in
    same_trace g.D.Door.trace _ (g.D.Door.trace _) {x = c.loop.server.door.now} (search rules)
    (rw all at c.loop.invariant.trace)

pub returns-clause-course : goal.returns-clause-course
returns-clause-course g c =
    let all : c.loop.counter ≡ c.args.turns = omega (arith, c.loop-test.false, c.loop.auto.counter-end) in
    same_served g.D.Door.trace _ _ _ _ (g.D.Door.trace _) {x = c.loop.server.door.now} (search rules)
    (serves_all _ _ _ _ _ (g.D.Door.trace _) (g.D.Door.trace _) c.loop.server.slots all
    (rw all at c.loop.invariant.trace) c.loop.invariant.course)
