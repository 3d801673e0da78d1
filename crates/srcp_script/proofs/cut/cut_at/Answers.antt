use Rattle.std.proofs.Common.{sym}
use Rattle.srcp_script.proofs.Cuts.{cut_none, cut_some, clear_none, clear_some, whole_some}
use Rattle.srcp_script.proofs.cut.cut_at.Goals as goal

pub returns-in-Some-clause-parts : goal.returns-in-Some-clause-parts
returns-in-Some-clause-parts c = cut_some c.args.byte c.args.text.now _ (sym c.in-Some.ensures)

pub returns-in-None-clause-parts : goal.returns-in-None-clause-parts
returns-in-None-clause-parts c = cut_none c.args.byte c.args.text.now (sym c.in-None.ensures)

pub returns-in-Some-clause-whole : goal.returns-in-Some-clause-whole
returns-in-Some-clause-whole c = whole_some c.args.byte c.args.text.now _ (sym c.in-Some.ensures)

pub returns-in-Some-clause-clear : goal.returns-in-Some-clause-clear
returns-in-Some-clause-clear c = clear_some c.args.byte c.args.text.now _ (sym c.in-Some.ensures)

pub returns-in-None-clause-clear : goal.returns-in-None-clause-clear
returns-in-None-clause-clear c = clear_none c.args.byte c.args.text.now (sym c.in-None.ensures)
