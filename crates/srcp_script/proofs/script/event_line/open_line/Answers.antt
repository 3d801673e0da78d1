use Rattle.std.proofs.Common.{sym}
use Rattle.srcp_script.proofs.Cuts.{open_more}
use Rattle.srcp_script.proofs.script.event_line.open_line.Goals as goal

pub returns-in-Some : goal.returns-in-Some
returns-in-Some c = rw c.in-Some.is (sym (open_more c.in-Some.field-0.now))
