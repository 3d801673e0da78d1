use Rattle.std.proofs.Common.{rules, append-nil}
use Rattle.srcp_layout_file.proofs.print.count_words.Goals as goal

pub returns : goal.returns
returns c = simp append-nil (search rules)
