use Rattle.srcp_rules.specs.Effect.{effect}
use Rattle.srcp_rules.proofs.SessionLaws.{session_row-updated_all, effect_elsewhere}
use Rattle.srcp_rules.proofs.laws.commands_keep_sessions.Goals as goal

pub returns : goal.returns
returns c =
    λ state session moment command id.
    session_row-updated_all (effect state session moment command).updates state id (effect_elsewhere state session moment command)
