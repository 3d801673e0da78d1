use Rattle.srcp_door.specs.Calls.{ReadCall}
use Rattle.srcp_peers.specs.Steps.{Answers}
use Rattle.srcp_sockets.proofs.laws.ends_are_told.Goals as goal

pub returns : goal.returns
returns g c before after socket answer buffer is leaving early ends =
    (c.args.door.now.sockets.done before after (Answers (ReadCall socket answer buffer)) is early).ended ends leaving
