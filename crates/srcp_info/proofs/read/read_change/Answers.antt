use Rattle.std.proofs.Common.{rules, ◌∙◌, sym, subst}
use Rattle.std.specs.Cmp.Lexicographic.{same_text, other_text}
use Rattle.srcp_info.specs.declared.change.Change.{Change}
use Rattle.srcp_info.specs.Read.{IsLineOf}
use Rattle.srcp_info.proofs.TellsLaws.{without_lf, is_line, text_of_line}
use Rattle.srcp_info.proofs.read.read_change.Goals as goal

pub returns-then-eq : goal.returns-then-eq
returns-then-eq c =
    let words =
    without_lf c.change_of-change.result c.write_change.new.buffer.items c.as_slice.result.now c.write_change.ensures.line
    (c.as_slice.ensures.value ∙ c.pop.ensures.rest) in
    is_line c.args.line.now c.as_slice.result.now c.change_of-change.result (c.is_well_formed.ensures.0 (search rules)) words
    (same_text c.as_slice.result.now c.args.line.now (sym c.if-eq.true ∙ c.eq.ensures))

pub returns-else-eq : goal.returns-else-eq
returns-else-eq c = λ change is.
    let same = c.change_of-change.ensures change is in
    let words =
    without_lf c.change_of-change.result c.write_change.new.buffer.items c.as_slice.result.now c.write_change.ensures.line
    (c.as_slice.ensures.value ∙ c.pop.ensures.rest) in
    let here = text_of_line c.args.line.now c.change_of-change.result (subst (λ (d : Change). IsLineOf c.args.line.now d) (sym same) is) in
    other_text c.as_slice.result.now c.args.line.now (sym c.if-eq.false ∙ c.eq.ensures) (words ∙ sym here)
