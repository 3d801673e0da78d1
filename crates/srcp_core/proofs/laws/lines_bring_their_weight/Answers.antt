-- The laws are proved of the definitions.
use Rattle.srcp_core.proofs.CourseLaws.LinesBringTheirWeight.{lines_bring, light_lines}
use Rattle.srcp_core.proofs.laws.lines_bring_their_weight.Goals as goal

pub returns-clause-bring : goal.returns-clause-bring
returns-clause-bring c = λ buses layout. lines_bring buses layout

pub returns-clause-close_none : goal.returns-clause-close_none
returns-clause-close_none c = λ buses layout. light_lines buses layout
