-- The laws are proved of the definitions.
use Rattle.srcp_core.proofs.CourseLaws.LockedIsLeftAlone.{is_left_alone, locks_begin, locks_last, steps_fall}
use Rattle.srcp_core.proofs.laws.locked_is_left_alone.Goals as goal

pub returns : goal.returns
returns c = record { begins = locks_begin; lasts = locks_last; step = steps_fall; steps = is_left_alone }
