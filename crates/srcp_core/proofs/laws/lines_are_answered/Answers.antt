-- The laws are proved of the definitions.
use Rattle.srcp_core.proofs.CourseLaws.AnswersByRequest.{answers_by_connection, answers_held, answers_in_course}
use Rattle.srcp_core.proofs.CourseLaws.AnswersByRequest.{steps_of_answers, wants_by_request}
use Rattle.srcp_core.proofs.laws.lines_are_answered.Goals as goal

pub returns : goal.returns
returns c = record {
  course = answers_in_course;
  held = λ key held granted. answers_held held granted key;
  steps = steps_of_answers;
  connection = answers_by_connection;
  memory = wants_by_request;
}
