use Rattle.srcp_host.proofs.SettledPanelsHold.{settled_panels_hold}
use Rattle.srcp_host.proofs.laws.settled_panels_hold_the_registry.Goals as goal

pub returns : goal.returns
returns c = settled_panels_hold
