use Rattle.srcp_core.proofs.Agreement.OutlinesAreKept.{promised_whole}
use Rattle.srcp_core.proofs.runner.run.Goals as goal

pub returns-clause-promised : goal.returns-clause-promised
returns-clause-promised g c = promised_whole c.args.layout.now c.args.events.now c.carry_out.result c.carry_out.ensures.record
    c.carry_out.ensures.moments c.carry_out.ensures.laid_out
