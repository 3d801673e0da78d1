use Rattle.std.proofs.Common.{◌≡◌, ◌∷◌, [], ◌∙◌, refl, rules, sym}
use lib.Chars.{codes}
use Rattle.srcp_stations.specs.declared.said.CvValue.TheVariants.{Nobody, CannotMeasure, NoTrack}
use Rattle.srcp_stations.proofs.ReadLaws.{any_cv, value_below}
use Rattle.srcp_stations.proofs.read.value_in.Goals as goal

pub returns-then-eq : goal.returns-then-eq
returns-then-eq c = λ checked cv value ok is.
    let word : c.args.word.now ≡ codes "-1" = search rules in
    value_below checked cv value Nobody (49 ∷ []) ok (any_cv checked cv value ok) (sym is ∙ word) refl

pub returns-then-eq-2 : goal.returns-then-eq-2
returns-then-eq-2 c = λ checked cv value ok is.
    let word : c.args.word.now ≡ codes "-2" = search rules in
    value_below checked cv value CannotMeasure (50 ∷ []) ok (any_cv checked cv value ok) (sym is ∙ word) refl

pub returns-then-eq-3 : goal.returns-then-eq-3
returns-then-eq-3 c = λ checked cv value ok is.
    let word : c.args.word.now ≡ codes "-3" = search rules in
    value_below checked cv value NoTrack (51 ∷ []) ok (any_cv checked cv value ok) (sym is ∙ word) refl
