use Rattle.srcp_sockets.proofs.laws.accepts_are_true.Goals as goal

pub returns : goal.returns
returns g c = c.args.door.now.sockets.timed.honest
