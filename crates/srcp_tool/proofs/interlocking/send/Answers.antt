use Rattle.srcp_tool.proofs.Movings.{sends_failed}
use Rattle.srcp_tool.proofs.interlocking.send.Goals as goal

pub returns-in_err-write_whole : goal.returns-in_err-write_whole
returns-in_err-write_whole g c =
    sends_failed c.args.line.now c.in_err-write_whole.field-0.0 _ _ _ c.from_residual.ensures.1 c.in_err-write_whole.ensures
