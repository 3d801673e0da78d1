use Rattle.srcp_rules.proofs.Names.{◌<◌, ◌∷◌, map, sym, ap, subst, ◌∙◌, Bus, IsLayout, row_count, server, is_there}
use Rattle.srcp_rules.proofs.NestedLaws.{stays-opening}
use Rattle.srcp_rules.proofs.nested.NestedRows.empty.Goals as goal

pub invariant_of-result : goal.invariant_of-result
invariant_of-result c =
    let layout = c.args.layout.now in
    let same = c.in_ok-buses.ensures.items ∙ c.buses.ensures.all in
    let by_number = c.in_ok-by_number.ensures in
    record {
      laid_out = subst IsLayout (sym same) c.buses.ensures.laid_out;
      each = by_number.each;
      sorted = by_number.sorted;
      numbers = by_number.numbers ∙ ap (λ buses. map (λ (bus : Bus). bus.number) (server ∷ buses)) (sym same);
      stays = λ device never count.
          let here = subst (λ buses. 0 < row_count buses device) same count in
          ap (is_there device) by_number.rows ∙ stays-opening layout c.buses.ensures.laid_out device never here;
    }
