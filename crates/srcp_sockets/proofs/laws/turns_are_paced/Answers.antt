use Rattle.srcp_sockets.proofs.laws.turns_are_paced.Goals as goal

pub returns : goal.returns
returns g c = c.args.door.now.sockets.timed.paced
