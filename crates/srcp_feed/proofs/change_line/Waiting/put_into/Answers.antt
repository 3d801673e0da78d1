use Rattle.std.proofs.Common.{arith}
use Rattle.arrayvec.proofs.ArrayVecLemmas.{items-with_items}
use Rattle.srcp_info.proofs.LineLaws.{length-line-le}
use Rattle.srcp_feed.proofs.change_line.Waiting.put_into.Goals as goal

pub returns-then-len-line-clause-most : goal.returns-then-len-line-clause-most
returns-then-len-line-clause-most c =
    grind (arith, length-line-le, items-with_items, c.copy_from_slice.ensures, c.len.ensures, c.self.invariant)

pub returns-else-len-line-clause-most : goal.returns-else-len-line-clause-most
returns-else-len-line-clause-most c =
    grind (arith, length-line-le, c.unwrap.ensures, c.try_extend_from_slice.ensures, c.new.ensures, c.self.invariant)
