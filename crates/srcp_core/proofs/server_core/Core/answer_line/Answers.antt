use Rattle.srcp_core.proofs.Invariants.LinesAreFound.{line_asks, line_fits, line_is_answered}
use Rattle.srcp_core.proofs.server_core.Core.answer_line.Goals as goal

pub answer-requires-clause-request : goal.answer-requires-clause-request
answer-requires-clause-request g c =
    line_asks _ c.args.piece.now c.args.start c.in_ok-stop.stop _ c.args.self.now _
    c.in_ok-stop.ensures.found

pub answer-requires-clause-fits : goal.answer-requires-clause-fits
answer-requires-clause-fits g c =
    line_fits c.args.conn c.args.piece.now c.args.start c.in_ok-stop.stop c.next_line.new.request c.args.self.now c.next_line.new.self
    c.in_ok-stop.ensures.found c.requires.few c.requires.fits

pub returns-clause-line : goal.returns-clause-line
returns-clause-line g c =
    line_is_answered c.args.conn c.args.piece.now c.args.start c.in_ok-stop.stop c.next_line.new.request c.args.self.now
    c.next_line.new.self c.in_ok-stop.ensures.found
    c.answer.result c.answer.new.self c.answer.ensures.core c.answer.ensures.steps c.answer.ensures.counted c.in_ok-stop.ensures.sound
    c.requires.fits
