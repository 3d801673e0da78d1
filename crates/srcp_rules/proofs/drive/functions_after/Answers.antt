use Rattle.std.proofs.Common.{Bool, List, ◌++◌, [], ◌∷◌, length, get_or, false, ◌≤◌, ◌<◌, sym, ap, ◌∙◌, append_assoc, arith}
use Rattle.std.specs.List.{between}
use Rattle.std.proofs.lemmas.List.Edits.{between_more}
use Rattle.srcp_rules.proofs.drive.functions_after.Goals as goal

pub loop-index-preserved : goal.loop-index-preserved
loop-index-preserved c =
    let given = c.args.given.now in
    let before = c.args.before.now in
    let index = c.loop-index.index in
    let low : length given ≤ index = omega arith in
    let high : index < length before = omega arith in
    let on = get_or before index false in
    c.push.ensures ∙ (λ i. c.loop-index.invariant i ++ get_or (c.as_slice.ensures i) index false ∷ [])
    ∙ append_assoc given (between (length given) index before) (on ∷ [])
    ∙ ap (λ (bits : List Bool). given ++ bits) (sym (between_more before (length given) index false low high))
