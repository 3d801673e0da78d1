use Rattle.srcp_host.proofs.PacedLogsKeepPanels.{panels_kept}
use Rattle.srcp_host.proofs.laws.panels_are_kept.Goals as goal

pub returns : goal.returns
returns g c =
    let door = c.args.door.now in
    panels_kept _ _ door.sockets.system.log.steps door.sockets.timed.paced door.sockets.named.differ door.fair.fair
