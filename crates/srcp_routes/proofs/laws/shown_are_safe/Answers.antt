-- The law is proved of the definitions.
use Rattle.srcp_routes.proofs.Shown.{shown_are_kept, shown_stand, shows_are_free}
use Rattle.srcp_routes.proofs.laws.shown_are_safe.Goals as goal

pub returns : goal.returns
returns c = record { stand = shown_stand; free = shows_are_free; kept = shown_are_kept }
