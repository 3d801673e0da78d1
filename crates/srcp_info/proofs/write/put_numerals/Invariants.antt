use Rattle.std.proofs.Common.{◌≡◌, ◌++◌, map, drop}
use Rattle.std.specs.Fmt.{decimal}
use Rattle.srcp_info.specs.Line.{after_spaces}
use Rattle.srcp_info.proofs.write.put_numerals.Given as goal

abbrev pub invariant-loop-number : goal.invariant-loop-number
invariant-loop-number g l =
    l.buffer.items ++ after_spaces (map decimal (drop l.number-index l.numbers))
    ≡ l.initial.buffer.items ++ after_spaces (map decimal l.numbers)
