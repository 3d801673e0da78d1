use Rattle.std.proofs.Common.{[], ◌∷◌}
use Rattle.srcp_stations.specs.declared.said.Said.TheVariants.{Cv}
use Rattle.srcp_stations.specs.Said.{value_word}
use Rattle.srcp_stations.proofs.ReadLaws.{small_cv}
use Rattle.srcp_stations.proofs.read.cv_in.Goals as goal

pub returns : goal.returns
returns c = λ cv value ok is.
    let number = c.next_number-cv.ensures cv (value_word value ∷ []) (small_cv c.args.is_checked cv value ok) is in
    let said = c.value_in.ensures c.args.is_checked cv value ok number.1 in
    λ i. Cv c.args.is_checked (number.0 i) (said i)
