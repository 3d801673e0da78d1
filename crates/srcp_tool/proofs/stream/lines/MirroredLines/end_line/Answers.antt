use Rattle.std.proofs.Common.{List, ℕ, subst, refl}
use Rattle.srcp_info.specs.Read.{IsLineOf}
use Rattle.srcp_tool.proofs.Mirrorings.{taken_ended, taken_refused, none_long}
use Rattle.srcp_tool.proofs.stream.lines.MirroredLines.end_line.Goals as goal

pub returns-in-None-clause-refused : goal.returns-in-None-clause-refused
returns-in-None-clause-refused c =
    λ e input taken. taken_refused _ input taken (none_long taken.text (c.in-None.ensures taken.text taken.begun))

pub returns-clause-taken : goal.returns-clause-taken
returns-clause-taken c = λ input taken.
    let change = c.in_ok-apply-in-Some.ensures.ok.0 in
    let is =
    subst (λ (text : List ℕ). IsLineOf text change) (c.in-Some.ensures taken.text taken.begun) c.in_ok-apply-in-Some.ensures.ok.1 in
    taken_ended c.args.self.now _ input taken change is c.in_ok-apply-in-Some.ensures.ok.2 refl c.new-self.ensures
