use Rattle.srcp_rules.proofs.Names
use Names.{ℕ, List, ◌+◌, ◌++◌, [], ◌∷◌, map, false, sym, ap, ◌∙◌, append_assoc, arith, range_with_len, Device, Row, fb_device, first_row}
use Names.value
use Rattle.std.proofs.lemmas.List.FromFn.{map-range_with_len_more}
use Rattle.srcp_rules.proofs.first_rows.push_ports.Goals as goal

pub loop-below-preserved : goal.loop-below-preserved
loop-below-preserved c =
    let row = λ (port : ℕ). first_row 0 (fb_device c.args.bus port) (value.Fb false) in
    let old = c.args.rows.now.items in
    let below = c.loop-below.below in
    c.in_ok-extend_from_slice.ensures.items
    ∙ (λ i. c.loop-below.rows.items
    ++ (c.first_row-row.ensures ∙ ap (λ (device : Device). first_row 0 device (value.Fb false)) c.fb_device.ensures) i ∷ [])
    ∙ ap (λ (rows : List Row). rows ++ row (below + 1) ∷ []) c.loop-below.invariant
    ∙ append_assoc old (map row (range_with_len 1 below)) (row (below + 1) ∷ [])
    ∙ ap (λ (rows : List Row). old ++ rows) (sym (map-range_with_len_more row 1 below (below + 1) (omega arith)))
