use Rattle.std.proofs.Common.{List, sym, subst}
use Rattle.srcp_grammar.specs.declared.layout.Bus.{Bus}
use Rattle.srcp_grammar.specs.Command.{IsCommandOf}
use Rattle.srcp_rules_tests.proofs.told.push_line.Goals as goal

pub obey-obeyed-requires-clause-command : goal.obey-obeyed-requires-clause-command
obey-obeyed-requires-clause-command g c =
    subst (λ (buses : List Bus). IsCommandOf buses c.in-Ok.command) (sym c.requires.same) c.in-Ok.ensures.fits
