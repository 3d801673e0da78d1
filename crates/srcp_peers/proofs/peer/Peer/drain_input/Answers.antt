use Rattle.std.proofs.Common.{◌∙◌, [], ap, sym, true≢false}
use Rattle.srcp_peers.specs.Peers.{is_here}
use Rattle.srcp_peers.proofs.OnePeerChanges.{calls_then}
use Rattle.srcp_peers.proofs.StepsAreCounted.{asked_more}
use Rattle.srcp_peers.proofs.peer.Peer.drain_input.Goals as goal

pub loop-preserved : goal.loop-preserved
loop-preserved g c =
    let first = c.args.system.now.log.steps in
    let old = c.loop.system.log.steps in
    let new = c.skip.new.system.log.steps in
    let was = c.loop.invariant in
    let each = c.skip.ensures in
    record {
      alone = calls_then was.alone each.alone;
      gone = ap is_here each.stay ∙ was.gone;
      made = rw (← was.alone.number) (asked_more (record c.loop.self { incoming = [] }) c.skip.new.self c.loop.counter first old new
          (rw was.alone.number was.made) (each.asked (sym c.is_ready.ensures ∙ c.if-not-is_ready.false)));
      stay = each.stay ∙ was.stay;
      keeps = (
        (each.keeps.0.0 ∙ was.keeps.0.0, each.keeps.0.1 ∙ was.keeps.0.1),
        each.keeps.1 ∙ was.keeps.1,
        each.keeps.2 ∙ was.keeps.2,
        λ here. absurd (true≢false (sym here ∙ c.requires.gone)),
      );
    }
