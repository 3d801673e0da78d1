-- The law is proved of the definitions.
use Rattle.srcp_routes.proofs.Heads.{entered_are_dark, falls_behind}
use Rattle.srcp_routes.proofs.laws.falls_behind.Goals as goal

pub returns : goal.returns
returns c = record { next = falls_behind; dark = entered_are_dark }
