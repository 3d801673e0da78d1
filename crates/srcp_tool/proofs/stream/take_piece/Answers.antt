use Rattle.std.proofs.Common.{rules}
use Rattle.srcp_tool.proofs.stream.take_piece.Goals as goal

pub returns-in-Err-NotInfo-clause-taken : goal.returns-in-Err-NotInfo-clause-taken
returns-in-Err-NotInfo-clause-taken c = search rules
