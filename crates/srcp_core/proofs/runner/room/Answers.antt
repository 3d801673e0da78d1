use Rattle.srcp_core.proofs.Names.{◌≡◌, ℕ, ◌-◌, ◌⊎◌, inl, inr, refl, ◌∙◌, arith, taking, taken_at, count_at}
use Rattle.std.proofs.Common.{None}
use Rattle.srcp_core.specs.declared.event.Event.TheVariants.{Room}
use Rattle.srcp_core.proofs.Agreement.OutlinesAreKept.{keeps_same, keeps_then}
use Rattle.srcp_core.proofs.Agreement.RunsAnEvent.{told_as, gives_first, gives_as, room_happens, absent_happens}
use Rattle.srcp_core.proofs.runner.room.Goals as goal
use Rattle.srcp_core.proofs.runner.room.Goals.{then-left-eq0-via-then-left-eq0, then-left-eq0-via-else-left-eq0+then-count-eq0}

pub returns-in_default : goal.returns-in_default
returns-in_default g c =
    keeps_same _
    (λ r e.
    absent_happens (Room c.args.conn c.args.bytes) c.args.conn r _ (λ buses w e. cc)
    (cc (c.key.ensures, c.in_default.is)))

pub loop-count-init : goal.loop-count-init
loop-count-init g c = record {
  gives = keeps_same _
      (λ r e.
      gives_first _ _ _ r _
      (cc (c.key.ensures, c.in-Some.is)));
  denied = refl;
}

first_ends : (left count now : ℕ) → count ≡ now → left - count ≡ 0 → (left - now ≡ 0) ⊎ (now ≡ 0)
first_ends left count now e h = inl (omega (arith, e, h))

second_ends : (left count now : ℕ) → count ≡ now → count ≡ 0 → (left - now ≡ 0) ⊎ (now ≡ 0)
second_ends left count now e h = inr (omega (arith, e, h))

pub returns-then-left-eq0 : goal.returns-then-left-eq0
returns-then-left-eq0 g c =
    let now = count_at c.in-Some.key c.loop-count.left c.loop-count.core in
    keeps_then c.args.recorder.now c.loop-count.recorder c.take.new.recorder
    (λ r s t e gives is.
    told_as (Room c.args.conn c.args.bytes) None r c.args.core.now (taking c.args.conn c.in-Some.key c.loop-count.left c.loop-count.core
    s) t (taken_at c.in-Some.key c.loop-count.left c.loop-count.core) c.take.new.core
    is c.in_ok-count.ensures.core
    (room_happens c.args.conn c.in-Some.key c.args.bytes r c.args.core.now c.loop-count.left s c.loop-count.core
    (elim c.then-left-eq0.branch [
      | then-left-eq0-via-then-left-eq0 w ↦ first_ends c.loop-count.left c.in_ok-count.count now c.in_ok-count.ensures.count
          w.if-left-eq0.true
      | then-left-eq0-via-else-left-eq0+then-count-eq0 w ↦ second_ends c.loop-count.left c.in_ok-count.count now
          c.in_ok-count.ensures.count w.if-count-eq0.true
    ])
    c.loop-count.invariant.denied gives))
    c.loop-count.invariant.gives c.in_ok-count.ensures.recorder

pub loop-count-preserved : goal.loop-count-preserved
loop-count-preserved g c = record {
  gives = keeps_then c.args.recorder.now c.loop-count.recorder c.take.new.recorder
      (λ r s t e gives is.
      gives_as c.args.conn c.in-Some.key c.args.bytes r c.args.core.now c.loop-count.left s c.loop-count.core c.in_ok-count.count t
      c.take.new.core
      c.in_ok-count.ensures.count is c.in_ok-count.ensures.core c.if-left-eq0.false c.if-count-eq0.false gives)
      c.loop-count.invariant.gives c.in_ok-count.ensures.recorder;
  denied = c.in_ok-count.ensures.denied ∙ c.loop-count.invariant.denied;
}
