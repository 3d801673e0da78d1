use Rattle.std.specs.Prelude.{◌≡◌, Result, IfOk}
use Rattle.std.proofs.Common.{sym, subst, ◌∙◌}
use Rattle.srcp_info.specs.declared.change.Code.{Code}
use Rattle.srcp_grammar.specs.declared.command.Command.{Command}
use Rattle.srcp_grammar.specs.Command.{IsCommandOf}
use Rattle.srcp_grammar.specs.Grammar.{parsed, reads}
use Rattle.srcp_grammar.proofs.GrammarLaws.{reads_fits}
use Rattle.srcp_grammar.proofs.parse.parse_command.Goals as goal

pub returns-clause-fits : goal.returns-clause-fits
returns-clause-fits c =
    let layout = c.args.layout.now in
    let read : c.parse_words.result ≡ reads layout c.args.line.now =
    c.parse_words.ensures ∙ (λ i. parsed (c.buses.ensures.all i) (c.words.ensures.words i)) in
    subst (λ (r : Result Command Code). IfOk r (IsCommandOf layout)) (sym read) (reads_fits layout c.buses.ensures.laid_out c.args.line.now)
