use Rattle.std.proofs.Common.{◌≡◌, ◌∙◌, arith}
use Rattle.srcp_serve.proofs.SlotsFollow.{length_kept, slots_rest, still_free, slots_first, slots_on}
use Rattle.srcp_serve.proofs.DoorIsCalled.{calls_none, calls_on}
use Rattle.srcp_serve.proofs.serving.Server.visit_slots.Goals as goal

pub loop-slot-init : goal.loop-slot-init
loop-slot-init g c = record {
  long = c.end-end.ensures.all;
  free = c.end-end.ensures.free;
  most = c.end-end.ensures.most;
  calls = calls_none _ _ _ _ c.requires;
  course = slots_first _ _ _;
}

pub loop-slot-preserved : goal.loop-slot-preserved
loop-slot-preserved g c = record {
  long = length_kept c.loop-slot.slot c.loop-slot.self.slots c.visit_slot.new.self.slots c.visit_slot.ensures.slots
      ∙ c.loop-slot.invariant.long;
  free = still_free c.end-end.result c.loop-slot.slot c.loop-slot.self.slots c.visit_slot.new.self.slots c.visit_slot.ensures.slots
      c.loop-slot.invariant.free;
  most = c.loop-slot.invariant.most;
  calls = calls_on _ _ _ _ _ _ c.loop-slot.invariant.calls c.visit_slot.ensures.calls;
  course = slots_on c.loop-slot.slot c.args.core.now c.loop-slot.core c.visit_slot.new.core (g.D.Door.trace c.args.self.now.door.now)
      (g.D.Door.trace c.loop-slot.self.door.now)
      (g.D.Door.trace c.visit_slot.new.self.door.now) c.args.self.now.slots c.loop-slot.self.slots
      c.visit_slot.new.self.slots
      c.loop-slot.invariant.long (omega (arith, c.loop-slot-test.true, c.loop-slot.invariant.most)) c.visit_slot.ensures.course
      c.loop-slot.invariant.course c.visit_slot.ensures.calls.asks;
}

pub returns-clause-course : goal.returns-clause-course
returns-clause-course g c =
    let i = c.loop-slot.invariant in
    let last : c.loop-slot.slot ≡ c.end-end.result = omega (arith, c.loop-slot-test.false, c.loop-slot.auto.slot-end) in
    slots_rest c.args.core.now c.loop-slot.core (g.D.Door.trace c.args.self.now.door.now)
    (g.D.Door.trace c.loop-slot.self.door.now) c.args.self.now.slots
    c.loop-slot.self.slots i.long c.loop-slot.slot (omega (arith, last, i.most))
    (rw last i.free) i.course
