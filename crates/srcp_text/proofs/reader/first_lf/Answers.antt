use Rattle.srcp_text.proofs.ScanLaws.{first_place}
use Rattle.srcp_text.proofs.reader.first_lf.Goals as goal

pub returns : goal.returns
returns c = first_place 10 c.args.bytes.now c.memchr.result c.memchr.ensures
