use Rattle.srcp_rules.proofs.Names.{sym, ap, subst, ◌∙◌, flat_map, IsRising, opening_on}
use Rattle.std.proofs.Common.{lit<}
use Rattle.std.proofs.lemmas.List.{take_all}
use Rattle.srcp_rules.proofs.OpeningLaws.{opening_whole}
use Rattle.srcp_rules.proofs.flat.opening_rows.Goals as goal

pub returns-clause-rising : goal.returns-clause-rising
returns-clause-rising c =
    let layout = c.buses-bus-items.ensures.laid_out in
    let whole = opening_whole c.args.layout.now layout 0 (lit< tt) in
    subst IsRising
    (sym
    (c.loop-bus.invariant
    ∙ ap (flat_map (opening_on 0))
    (take_all c.loop-bus.bus-index c.buses-bus-items.result.now c.loop-bus-test.false ∙ c.buses-bus-items.ensures.all)))
    whole.rising
