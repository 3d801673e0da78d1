use Rattle.srcp_rules.proofs.Names.{List, [], ◌∷◌, ◌++◌, Option, None, if◌then◌else◌, ap, ◌∙◌, box_value, State, numbered}
use Rattle.std.proofs.Common.{Box, Global}
use Rattle.srcp_rules.proofs.NumberedLaws.{numbered-append_none}
use Rattle.srcp_rules.proofs.nested.devices.grow.Goals as goal

pub loop-slots-preserved : goal.loop-slots-preserved
loop-slots-preserved g c =
    let slots : List (Option (Box State Global)) = c.loop-slots.slots.items in
    ap (numbered box_value 0)
    (c.push.ensures.items ∙ ap (λ b. if b then slots ++ None ∷ [] else slots) c.if-is_err.ensures.negation)
    ∙ numbered-append_none box_value 0 slots ∙ c.loop-slots.invariant
