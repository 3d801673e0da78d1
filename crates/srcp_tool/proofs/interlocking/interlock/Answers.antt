use Rattle.std.proofs.Common.{◌≡◌, ◌-◌, ◌^◌, [], ◌++◌, ap, take, length, length-append, length-take-le, arith}
use Rattle.std.proofs.KnownBytes.{Consumes-trans}
use Rattle.srcp_interlock.specs.Boxes.{box_of}
use Rattle.srcp_text.specs.Reading.{nothing_read}
use Rattle.srcp_tool.proofs.Movings.{answers_all, answers_front, answers_part, consumes_none, reading_failed, takes_both, takes_none}
use Rattle.srcp_tool.proofs.Movings.{writing_failed}
use Rattle.srcp_tool.proofs.interlocking.interlock.Goals as goal

pub loop-init : goal.loop-init
loop-init g c =
    rw (c.new-lines.ensures, c.in_ok-signal_box.ensures)
    ([], consumes_none _, omega arith, takes_none nothing_read (box_of c.args.own c.args.routes.items) _)

pub returns-in_err-count : goal.returns-in_err-count
returns-in_err-count g c =
    let sofar = c.loop.invariant in
    reading_failed c.args.own c.args.routes.items c.in_err-count.field-0.0 _ _ _ _ c.from_residual-in_err-count.ensures.1
    c.in_err-count.ensures.input
    (answers_front c.args.own c.args.routes.items c.loop.lines c.loop.signal_box _ _ sofar.0 sofar.1 0 _ _ (omega arith) sofar.3)

pub returns-then-count-eq0 : goal.returns-then-count-eq0
returns-then-count-eq0 g c =
    let sofar = c.loop.invariant in
    let count = c.in_ok-count.count in
    let bytes = take count c.read_piece.new.piece in
    let none : bytes ≡ [] = ap (λ n. take n c.read_piece.new.piece) c.if-count-eq0.true in
    let end = c.in_ok-count.ensures.end c.if-count-eq0.true (omega arith) in
    answers_all c.args.own c.args.routes.items c.loop.lines c.loop.signal_box _ _ sofar.0 sofar.1 _ bytes _ _ c.in_ok-count.ensures.bytes
    none end sofar.3

pub returns-in_err-take_piece : goal.returns-in_err-take_piece
returns-in_err-take_piece g c =
    let sofar = c.loop.invariant in
    let bytes = take c.in_ok-count.count c.read_piece.new.piece in
    writing_failed c.args.own c.args.routes.items c.in_err-take_piece.field-0.0 _ _ _ _ c.from_residual-in_err-take_piece.ensures.1
    c.in_err-take_piece.ensures.0
    (answers_part c.args.own c.args.routes.items c.loop.lines c.loop.signal_box _ _ sofar.0 sofar.1 _ bytes _ _ _
    c.in_ok-count.ensures.bytes sofar.3 c.in_err-take_piece.ensures.1)

pub loop-preserved : goal.loop-preserved
loop-preserved g c =
    let sofar = c.loop.invariant in
    let count = c.in_ok-count.count in
    let bytes = take count c.read_piece.new.piece in
    let many : length bytes ≡ count = length-take-le count c.read_piece.new.piece c.in_ok-count.ensures.within in (
      sofar.0 ++ bytes,
      Consumes-trans _ _ _ sofar.0 bytes sofar.1 c.in_ok-count.ensures.bytes,
      omega (arith, sofar.2, many, length-append sofar.0 bytes),
      takes_both nothing_read c.loop.lines c.take_piece.new.lines (box_of c.args.own c.args.routes.items) c.loop.signal_box
          c.take_piece.new.signal_box sofar.0 bytes _ _ _ sofar.3 c.in_ok-take_piece.ensures,
    )

pub returns : goal.returns
returns g c =
    let sofar = c.loop.invariant in
    answers_front c.args.own c.args.routes.items c.loop.lines c.loop.signal_box _ _ sofar.0 sofar.1 (2 ^ 64 - 1) _ _
    (omega (arith, sofar.2)) sofar.3
