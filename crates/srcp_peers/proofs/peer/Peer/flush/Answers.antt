use Rattle.std.proofs.Common.{Err, Ok, arith, rules}
use Rattle.std.proofs.lemmas.Grind.{common_steps}
use Rattle.srcp_peers.proofs.PeersStayKept.{kept_write}
use Rattle.srcp_peers.proofs.peer.Peer.flush.Goals as goal

pub returns-in-Ok-clause-alone : goal.returns-in-Ok-clause-alone
returns-in-Ok-clause-alone g c =
    let kept = kept_write c.args.system.now.log.steps c.write.new.self.log.steps c.args.self.now (Ok c.in-Ok.count) (search rules)
    (search rules) c.requires in
    rw (c.drop_front.ensures, c.after-self.ensures, c.len-all.ensures.count)
    (grind (arith, common_steps, kept))

pub returns-in-Err-clause-alone : goal.returns-in-Err-clause-alone
returns-in-Err-clause-alone g c =
    let kept = kept_write c.args.system.now.log.steps c.write.new.self.log.steps c.args.self.now (Err c.in-Err.fault) (search rules)
    (search rules) c.requires in
    rw (c.after_failure-self.ensures, c.failure_of.ensures)
    (grind (arith, common_steps, kept))
