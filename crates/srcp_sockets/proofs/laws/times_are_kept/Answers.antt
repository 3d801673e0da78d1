use Rattle.srcp_sockets.proofs.laws.times_are_kept.Goals as goal

pub returns : goal.returns
returns g c = c.args.door.now.sockets.timed.kept
