use Rattle.std.proofs.Common.{rules}
use Rattle.srcp_layout_file.proofs.document.read_document.Goals as goal

pub returns-in_err-array_at : goal.returns-in_err-array_at
returns-in_err-array_at c = search rules

pub returns-in_err-layout : goal.returns-in_err-layout
returns-in_err-layout c = search rules
