use Rattle.srcp_door.specs.Calls.{NowCall}
use Rattle.srcp_peers.specs.Steps.{Answers, Waits}
use Rattle.srcp_sockets.proofs.laws.turns_wait.Goals as goal

pub returns-clause-clock : goal.returns-clause-clock
returns-clause-clock g c before after answer is = (c.args.door.now.sockets.done before after (Answers (NowCall answer)) is).clock

pub returns-clause-waits : goal.returns-clause-waits
returns-clause-waits g c before after answer is = (c.args.door.now.sockets.done before after (Answers (NowCall answer)) is).may.waits

pub returns-clause-ticked : goal.returns-clause-ticked
returns-clause-ticked g c before after answer is = (c.args.door.now.sockets.done before after (Answers (NowCall answer)) is).may.ticked

pub returns-clause-hears : goal.returns-clause-hears
returns-clause-hears g c before after most count ready is = (c.args.door.now.sockets.done before after (Waits most count ready) is).2
