use Rattle.std.proofs.Common.{rules, ◌≡◌, ◌++◌, take, length, length-append, length-take-le, arith}
use Rattle.std.proofs.KnownBytes.{Consumes-trans}
use Rattle.srcp_tool.proofs.stream.read_lines.Goals as goal

pub loop-preserved : goal.loop-preserved
loop-preserved g c =
    let sofar = c.loop.invariant in
    let count = c.in_ok-count.count in
    let bytes = take count c.read_piece.new.piece in
    let many : length (take count c.read_piece.new.piece) ≡ count =
    length-take-le count c.read_piece.new.piece c.in_ok-count.ensures.within in (
      sofar.0 ++ bytes,
      Consumes-trans _ _ _ sofar.0 bytes sofar.1 c.in_ok-count.ensures.bytes,
      omega (arith, sofar.2, many, length-append sofar.0 bytes),
      omega arith,
      omega arith,
      omega (arith, sofar.5, many, c.in_ok-refused.ensures.count),
      c.in_ok-refused.ensures.taken sofar.0 sofar.6,
    )

pub returns-in-None-clause-holds : goal.returns-in-None-clause-holds
returns-in-None-clause-holds g c = search rules
