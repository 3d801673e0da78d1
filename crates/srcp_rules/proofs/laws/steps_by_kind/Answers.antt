-- The laws of each kind of step, from the three laws of steps and the law of openings alone.
use Rattle.srcp_rules.specs.Laws.{AreOfStep, BeginningsCanBeTold, OpeningsAreWhole, StepsAddNoRow, StepsCanBeTold, StepsKeepWhole}
use Rattle.srcp_rules.specs.Steps.{Step, Obeyed, Began, Moment, Ended, IsStepOf, IsTimely, updates_of}
use Rattle.srcp_rules.proofs.Names
use Names.{arith, true, List, [], Bus, State}
use Rattle.srcp_rules.proofs.EachStepLaws.{step_whole, step_adds, step_told}
use Rattle.srcp_rules.proofs.OpeningLaws.{opening_whole}
use Rattle.srcp_rules.proofs.laws.steps_by_kind.Goals as goal

of_step : StepsKeepWhole → StepsAddNoRow → StepsCanBeTold → (buses : List Bus) (state : State) (step : Step)
    → AreOfStep buses state (updates_of state step) (IsStepOf buses step) (IsTimely state step)
of_step keep add tell buses state step =
    record { whole = keep buses state step; adds = add buses state step; told = tell buses state step }

-- the layout without buses has no rows, and each session may begin on it
of_none : StepsCanBeTold → OpeningsAreWhole → BeginningsCanBeTold
of_none tell opens session moment mode now low high =
    let whole = opens [] moment (record { each = tt; rising = λ k h. omega (arith, h) }) now in
    (tell [] [] (Began session moment mode) whole (low, high) now).0

pub returns : goal.returns
returns c = let by = of_step step_whole step_adds step_told in record {
  commands = λ buses state session moment command. by buses state (Obeyed session moment (record { command = command; granted = true }));
  moments = λ buses state moment. by buses state (Moment moment);
  ends = λ buses state session moment. by buses state (Ended session moment);
  beginnings = λ buses state session moment mode. by buses state (Began session moment mode);
  told = of_none step_told (λ buses moment layout now. opening_whole buses layout moment now);
}
