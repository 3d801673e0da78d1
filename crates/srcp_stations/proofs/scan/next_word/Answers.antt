use Rattle.std.proofs.Common.{refl, arith}
use Rattle.srcp_text.proofs.CutLaws.{cut_join}
use Rattle.srcp_stations.specs.Read.{is_space}
use Rattle.srcp_stations.proofs.scan.next_word.Goals as goal

pub returns : goal.returns
returns c = λ word others free is. let cut = cut_join is_space 32 refl word others free in grind arith
