use Rattle.std.specs.Prelude.{◌||◌}
use Rattle.srcp_peers.specs.Accounts.{account, is_owed}
use Rattle.srcp_peers.specs.Steps.{Waits}
use Rattle.srcp_log.specs.Waits.{is_written}
use Rattle.srcp_log.proofs.WaitsAreFlushed.{if_owed}
use Rattle.srcp_sockets.proofs.laws.queued_is_offered.Goals as goal

pub returns : goal.returns
returns g c before after most count ready is due socket kept owed =
    let done = (c.args.door.now.sockets.done before after (Waits most count ready) is).0 in
    let sent = (account socket before).sent in
    if_owed (is_owed sent) ((sent.full || sent.lost) || is_written socket before) ((done.flushed socket).offered due kept) owed
