use Rattle.srcp_core.proofs.Names.{sym, ◌∙◌, steps_in}
use Rattle.srcp_core.proofs.Agreement.OutlinesAreKept.{keeps_as, keeps_same, keeps_then}
use Rattle.srcp_core.proofs.Agreement.RunsBytes.{bytes_refused, bytes_fit, reads_first, reads_more, bytes_happens}
use Rattle.srcp_core.proofs.runner.bytes.Goals as goal
use Rattle.srcp_core.proofs.Agreement.RunsAnEvent.{absent_happens}
use Rattle.srcp_core.specs.declared.event.Event.TheVariants.{Bytes}

pub returns-in_default : goal.returns-in_default
returns-in_default g c =
    keeps_same _
    (λ r e.
    absent_happens (Bytes c.args.conn c.args.piece.now) c.args.conn r _ (λ buses w e. cc)
    (cc (c.key.ensures, c.in_default.is)))

pub returns-in-Some-bytes_fault : goal.returns-in-Some-bytes_fault
returns-in-Some-bytes_fault g c =
    keeps_same _
    (λ r e. bytes_refused _ _ _ r _ _ (cc (c.key.ensures, c.in-Some.is))
    (sym c.bytes_fault.ensures ∙ c.in-Some-bytes_fault.is))

pub loop-stop-init : goal.loop-stop-init
loop-stop-init g c =
    let free = sym c.bytes_fault.ensures ∙ c.in_default-bytes_fault.is in
    let fit = bytes_fit _ _ _ free in
    record {
      few = fit.0;
      fits = fit.1;
      reads = keeps_same _
          (λ r e.
          reads_first _ _ _ r _
          (cc (c.key.ensures, c.in-Some.is)) free);
    }

pub loop-stop-preserved : goal.loop-stop-preserved
loop-stop-preserved g c =
    let line = c.in-Some-answer_line.ensures.line in
    record {
      few = c.loop-stop.invariant.few;
      fits = line.fits;
      reads = keeps_then c.args.recorder.now c.loop-stop.recorder c.answered.new.self
          (λ r s t e reads is.
          rw is
          (reads_more c.args.conn c.in-Some.key c.args.piece.now r c.args.core.now c.loop-stop.start c.in-Some-answer_line.stop
          c.in-Some-answer_line.line.granted (steps_in c.in-Some-answer_line.line) s c.loop-stop.core c.answer_line.new.self
          line.onward line.is line.steps line.counted reads))
          c.loop-stop.invariant.reads c.in_ok-answered.ensures;
    }

pub returns : goal.returns
returns g c =
    keeps_as c.args.recorder.now c.loop-stop.recorder
    (λ r s reads. bytes_happens c.args.conn c.in-Some.key c.args.piece.now r c.args.core.now c.loop-stop.start s c.loop-stop.core
    c.answer_line.new.self c.in_default-answer_line.ensures.none reads)
    c.loop-stop.invariant.reads
