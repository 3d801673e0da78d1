use Rattle.srcp_sockets.proofs.laws.lines_are_handed_out.Goals as goal

pub returns : goal.returns
returns g c = c.args.door.now.shares.filled
