use Rattle.srcp_door.specs.Calls.{ReadCall}
use Rattle.srcp_peers.specs.Steps.{Answers}
use Rattle.srcp_sockets.proofs.laws.input_is_handed_out.Goals as goal

pub returns : goal.returns
returns g c before after socket answer buffer is watched held early =
    let done = c.args.door.now.sockets.done before after (Answers (ReadCall socket answer buffer)) is early in
    (done.held watched held, done.handed watched held)
