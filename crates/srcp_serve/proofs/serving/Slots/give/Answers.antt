use Rattle.std.proofs.Common.{◌∙◌, arith}
use Rattle.std.proofs.Math.ListN.{length-set}
use Rattle.srcp_serve.proofs.SlotsFollow.{free_behind}
use Rattle.srcp_serve.proofs.serving.Slots.give.Goals as goal

pub invariant_of-self : goal.invariant_of-self
invariant_of-self c =
    let i = c.self.invariant in (
      length-set _ _ _ ∙ i.0,
      omega (arith, c.max-self-inside.ensures, c.requires, i.1),
      free_behind c.self.inside.end _ _ _ _ c.max-self-inside.ensures i.2,
    )
