use Rattle.srcp_host.proofs.ServedHere.{opens, refused_here, served_here}
use Rattle.srcp_host.proofs.machine.serve_here.Goals as goal

pub returns-clause-served : goal.returns-clause-served
returns-clause-served g c = served_here c.serve_file.result c.args.file.now c.args.turns (record { rt = c.args.rt })
    c.serve_file.new.opener (λ hosted. hosted.served) (λ hosted. hosted.door.sockets.system.system)
    (λ hosted. hosted.door.sockets.system.log.steps) c.serve_file.ensures.served

pub returns-clause-refused : goal.returns-clause-refused
returns-clause-refused g c = refused_here opens c.serve_file.result c.args.file.now (record { rt = c.args.rt })
    c.serve_file.new.opener c.serve_file.ensures.refused
