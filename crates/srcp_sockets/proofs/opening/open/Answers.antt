use Rattle.std.proofs.Common.{◌∙◌, ap, sym}
use Rattle.srcp_peers.specs.Turns.{first_turn}
use Rattle.srcp_sockets.proofs.opening.open.Goals as goal

pub returns-in-Ok-clause-moments : goal.returns-in-Ok-clause-moments
returns-in-Ok-clause-moments g c = c.in-Ok.ensures.turn ∙ ap (λ system. first_turn system.wall system.start) (sym c.in-Ok.ensures.system)
