use Rattle.std.proofs.Common.{rules}
use Rattle.srcp_script.proofs.Cuts.{bytes_text}
use Rattle.srcp_script.proofs.script.event_line.bytes_line.Goals as goal

pub returns-in_err-bytes : goal.returns-in_err-bytes
returns-in_err-bytes c = search (rules, bytes_text)
