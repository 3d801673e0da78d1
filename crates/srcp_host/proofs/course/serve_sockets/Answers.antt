use Rattle.srcp_host.proofs.SocketsFollowTheCourse.{follows}
use Rattle.srcp_host.proofs.course.serve_sockets.Goals as goal

pub returns-clause-course : goal.returns-clause-course
returns-clause-course g c = follows c.args.turns c.serve.result.opened c.serve.new.door.sockets.last c.args.core.now
    c.args.door.now.sockets.system.log.steps c.serve.new.core
    c.serve.new.door.sockets.system.log.steps c.serve.ensures.course c.serve.new.door.sockets.stands.sound
    c.serve.new.door.sockets.named
