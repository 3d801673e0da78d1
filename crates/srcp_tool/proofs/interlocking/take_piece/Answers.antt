use Rattle.std.proofs.Common.{List, ℕ, [], drop, arith, subst}
use Rattle.std.specs.Prelude.{slice_range, unwrap_or}
use Rattle.srcp_interlock.specs.Boxes.{TakesIn}
use Rattle.srcp_tool.proofs.Movings.{appends_none, moves_line, moves_more, moves_too_long, takes_failed, takes_front}
use Rattle.srcp_tool.proofs.Movings.{takes_more, takes_next, takes_none}
use Rattle.srcp_tool.proofs.interlocking.take_piece.Goals as goal

pub loop-stop-init : goal.loop-stop-init
loop-stop-init g c = record { within = omega arith; taken = takes_none c.args.lines.now c.args.signal_box.now _ }

pub returns-in-More : goal.returns-in-More
returns-in-More g c =
    let at = c.loop-stop in
    takes_more c.args.lines.now at.lines c.feed.new.self c.args.signal_box.now at.signal_box c.args.piece.now at.start _ _
    at.invariant.taken
    (moves_more at.lines c.feed.new.self at.signal_box (drop at.start c.args.piece.now) c.in-More.ensures.stands c.in-More.ensures.marks)

pub loop-stop-preserved-in-TooLong : goal.loop-stop-preserved-in-TooLong
loop-stop-preserved-in-TooLong g c =
    let at = c.loop-stop in
    let stop = c.in-TooLong.stop in
    let bytes = slice_range c.args.piece.now at.start stop in record {
      within = c.in-TooLong.ensures.within.1;
      taken =
          takes_next c.args.lines.now at.lines c.feed.new.self c.args.signal_box.now at.signal_box at.signal_box c.args.piece.now
          at.start stop [] _ _ _ (omega (arith, c.in-TooLong.ensures.within)) at.invariant.taken
          (moves_too_long at.lines c.feed.new.self at.signal_box bytes c.in-TooLong.ensures.stands c.in-TooLong.ensures.marks)
          (appends_none _);
    }

pub returns-in_err-answer-in-Line : goal.returns-in_err-answer-in-Line
returns-in_err-answer-in-Line g c =
    let at = c.loop-stop in
    let stop = c.in-Line.stop in
    let bytes = slice_range c.args.piece.now at.start stop in
    let said = c.in_err-answer-in-Line.ensures in
    let takes = subst (λ (line : List ℕ). TakesIn at.signal_box line c.answer.new.signal_box said.sent) c.line.ensures said.takes in
    takes_failed c.args.lines.now _ c.args.signal_box.now _ c.args.piece.now c.in_err-answer-in-Line.field-0.0 _ _ _
    c.from_residual.ensures.1 said.sends.0
    (takes_front c.args.lines.now at.lines c.feed.new.self c.args.signal_box.now at.signal_box c.answer.new.signal_box c.args.piece.now
    at.start stop (unwrap_or said.sent []) _ _ _ (omega (arith, c.in-Line.ensures.within)) at.invariant.taken
    (moves_line at.lines c.feed.new.self at.signal_box bytes c.in-Line.ensures.stands c.feed.new.self.line c.answer.new.signal_box said.sent
    c.in-Line.ensures.marks takes)
    said.sends.1)

pub loop-stop-preserved : goal.loop-stop-preserved
loop-stop-preserved g c =
    let at = c.loop-stop in
    let stop = c.in-Line.stop in
    let bytes = slice_range c.args.piece.now at.start stop in
    let said = c.in_ok-answer-in-Line.ensures in
    let is = λ (line : List ℕ). TakesIn at.signal_box line c.answer.new.signal_box said.sent in
    let takes = subst is c.line.ensures said.takes in record {
      within = c.in-Line.ensures.within.1;
      taken =
          takes_next c.args.lines.now at.lines c.feed.new.self c.args.signal_box.now at.signal_box c.answer.new.signal_box c.args.piece.now
          at.start stop (unwrap_or said.sent []) _ _ _ (omega (arith, c.in-Line.ensures.within)) at.invariant.taken
          (moves_line at.lines c.feed.new.self at.signal_box bytes c.in-Line.ensures.stands c.feed.new.self.line c.answer.new.signal_box
          said.sent c.in-Line.ensures.marks takes)
          said.sends;
    }
