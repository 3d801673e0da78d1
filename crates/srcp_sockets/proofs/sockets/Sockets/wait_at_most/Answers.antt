use Rattle.srcp_log.proofs.WorkIsDone.{done_limited}
use Rattle.srcp_sockets.proofs.sockets.Sockets.wait_at_most.Goals as goal

pub invariant_of-self-clause-done : goal.invariant_of-self-clause-done
invariant_of-self-clause-done g c = done_limited c.args.self.now.most c.args.milliseconds c.args.self.now.turn.timekeeper.wall
    c.args.self.now.turn.timekeeper.start c.args.self.now.system.log.steps c.args.self.now.done
