use Rattle.srcp_serve.proofs.Names.{Ok, Err, ap, arith, refl, [], ReadCall, loses_reading, piece_of, Got}
use Rattle.srcp_serve.proofs.ReadsFollow.{read_not, read_other, read_bytes}
use Rattle.srcp_serve.proofs.serving.Server.read_in.Goals as goal

pub returns-then-not-ready-clause-course : goal.returns-then-not-ready-clause-course
returns-then-not-ready-clause-course g c = read_not _ _ _ _ _ c.ready.ensures c.if-not-ready.true

pub returns-in-Ok-Bytes-clause-course : goal.returns-in-Ok-Bytes-clause-course
returns-in-Ok-Bytes-clause-course g c =
    read_bytes _ _ _ _ _ c.ready.ensures c.in-Ok-Bytes.count c.read.new.buf _ _ _ _ c.if-not-ready.false (omega (arith, c.read.auto.buf))
    (rw c.in-Ok-Bytes.field-0-is at c.in-Ok-Bytes.ensures.trace) c.receive.ensures.says c.receive.ensures.happened c.is_ok.ensures.value

pub returns-in-Ok-Nothing-clause-course : goal.returns-in-Ok-Nothing-clause-course
returns-in-Ok-Nothing-clause-course g c =
    read_other _ _ _ _ _ c.ready.ensures (Ok c.in-Ok-Nothing.field-0) c.read.new.buf _ c.if-not-ready.false (omega (arith, c.read.auto.buf))
    c.in-Ok-Nothing.ensures.trace _
    (ap (λ (x : Got). piece_of (ReadCall c.args.client.peer (Ok x) c.read.new.buf [])) c.in-Ok-Nothing.field-0-is)
    (ap (λ (x : Got). loses_reading (ReadCall c.args.client.peer (Ok x) c.read.new.buf [])) c.in-Ok-Nothing.field-0-is)

pub returns-in-Ok-Ended-clause-course : goal.returns-in-Ok-Ended-clause-course
returns-in-Ok-Ended-clause-course g c =
    read_other _ _ _ _ _ c.ready.ensures (Ok c.in-Ok-Ended.field-0) c.read.new.buf _ c.if-not-ready.false (omega (arith, c.read.auto.buf))
    c.in-Ok-Ended.ensures.trace _
    (ap (λ (x : Got). piece_of (ReadCall c.args.client.peer (Ok x) c.read.new.buf [])) c.in-Ok-Ended.field-0-is)
    (ap (λ (x : Got). loses_reading (ReadCall c.args.client.peer (Ok x) c.read.new.buf [])) c.in-Ok-Ended.field-0-is)

pub returns-in-Err-clause-course : goal.returns-in-Err-clause-course
returns-in-Err-clause-course g c =
    read_other _ _ _ _ _ c.ready.ensures (Err c.in-Err.field-0) c.read.new.buf _ c.if-not-ready.false (omega (arith, c.read.auto.buf))
    c.in-Err.ensures.trace _ refl refl
