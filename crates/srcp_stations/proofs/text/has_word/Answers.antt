use Rattle.std.proofs.Common.{arith}
use Rattle.std.proofs.lemmas.List.{drop_all}
use Rattle.std.proofs.lemmas.Grind.{common_steps}
use Rattle.srcp_stations.proofs.TextLaws.{has_at}
use Rattle.srcp_stations.proofs.text.has_word.Goals as goal

pub returns-then-starts_with : goal.returns-then-starts_with
returns-then-starts_with c =
    let at = has_at c.args.word.now c.args.text.now c.loop-at.at c.loop-at-test.true in
    grind (arith, common_steps, at, c.loop-at.invariant)

pub loop-at-preserved : goal.loop-at-preserved
loop-at-preserved c =
    let at = has_at c.args.word.now c.args.text.now c.loop-at.at c.loop-at-test.true in
    grind (arith, common_steps, at, c.loop-at.invariant)

pub returns : goal.returns
returns c = grind (arith, drop_all, c.loop-at.invariant)
