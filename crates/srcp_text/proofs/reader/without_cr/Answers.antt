use Rattle.std.proofs.Common.{ap, sym, ◌∙◌, ◌++◌, ◌∷◌, []}
use Rattle.srcp_text.specs.Marks.{without_cr}
use Rattle.srcp_text.proofs.ReadingLaws.{without_cr_cr, without_cr_other}
use Rattle.srcp_text.proofs.reader.without_cr.Goals as goal

pub returns-then-last-eq13 : goal.returns-then-last-eq13
returns-then-last-eq13 c =
    let front = c.in-Some.front.now in
    sym (ap without_cr (c.in-Some.ensures.cases.0 ∙ ap (λ x. front ++ x ∷ []) c.if-last-eq13.true) ∙ without_cr_cr front)

pub returns-else-last-eq13 : goal.returns-else-last-eq13
returns-else-last-eq13 c =
    let text = c.in-Some.ensures.cases.0 in
    text ∙ sym (ap without_cr text ∙ without_cr_other c.in-Some.front.now c.in-Some.last.now c.if-last-eq13.false)
