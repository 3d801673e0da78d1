use Rattle.std.proofs.Common.{subst, sym, rules}
use Rattle.srcp_peers.specs.Steps.{Reads}
use Rattle.srcp_peers.proofs.CallsAreSmall.{first_are}
use Rattle.srcp_peers.proofs.log.Logged.read.Goals as goal

pub returns-clause-log : goal.returns-clause-log
returns-clause-log g c =
    let first = first_are 4096 c.min-space.result c.read-answer.new.buffer c.args.buffer.now c.min-space.ensures (search rules) in
    cc (first, c.note.ensures)

pub returns-clause-made : goal.returns-clause-made
returns-clause-made g c =
    let first = first_are 4096 c.min-space.result c.read-answer.new.buffer c.args.buffer.now c.min-space.ensures (search rules) in
    subst (λ bytes. g.S.System.Made c.args.self.now.system (Reads c.args.socket bytes c.read-answer.result) c.read-answer.new.self)
    (sym first) c.read-answer.ensures.made
