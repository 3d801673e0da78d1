use Rattle.srcp_core.proofs.Names.{[], ◌∷◌, stepped}
use Rattle.srcp_core.specs.declared.record.Step.TheVariants.{Moment}
use Rattle.srcp_core.proofs.Agreement.OutlinesAreKept.{keeps_changed}
use Rattle.srcp_core.proofs.Agreement.RunsAnEvent.{at_happens}
use Rattle.srcp_core.proofs.runner.advance.Goals as goal

pub returns-clause-course : goal.returns-clause-course
returns-clause-course g c =
    keeps_changed (stepped (Moment c.moment.result ∷ [])) c.args.recorder.now c.step.new.self
    (λ r e. at_happens c.args.moment r c.args.core.now c.advance.new.self c.moment.result c.advance.ensures c.moment.ensures)
    c.in_ok-step.ensures
