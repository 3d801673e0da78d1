use Rattle.srcp_core.proofs.Names.{ap, LineRecord}
use Rattle.srcp_core.proofs.Invariants.RepliesStayUnsent.{goes_granted}
use Rattle.srcp_core.proofs.server_core.Core.go.Goals as goal

pub returns-in-Ok-clause-core : goal.returns-in-Ok-clause-core
returns-in-Ok-clause-core g c =
    rw (ap (λ (line : LineRecord). line.granted) c.of.ensures)
    (goes_granted c.args.self.now c.args.conn c.args.mode _ c.begin.new.self _
    c.if-self-ge-GREATEST_ID.false
    (cc c.self.view_is)
    c.in-Ok.ensures.ok c.reply-in-Ok.ensures)
