use Rattle.srcp_text.proofs.ScanLaws.{first_place}
use Rattle.srcp_script.proofs.cut.find_byte.Goals as goal

pub returns-else-byte-eq32 : goal.returns-else-byte-eq32
returns-else-byte-eq32 c = first_place c.args.byte c.args.text.now c.memchr.result c.memchr.ensures
