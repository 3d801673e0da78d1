use Rattle.std.proofs.Common.{arith, ◌∙◌, sym}
use Rattle.std.proofs.lemmas.List.{append-nil}
use Rattle.srcp_info.proofs.ScanLaws.{bits_none, bits_step}
use Rattle.srcp_info.proofs.scan.functions_of.Goals as goal

pub loop-functions-preserved : goal.loop-functions-preserved
loop-functions-preserved c = λ functions few is.
    let so_far = c.loop-functions.invariant functions few is in
    bits_step functions c.loop-functions.functions c.push.new.self so_far.0 c.next_bit-on.result.0 c.loop-functions.rest.now
    c.next_bit-on.result.1.now so_far.1 so_far.2
    (sym c.is_empty.ensures ∙ c.loop-functions-test.true) c.push.ensures c.next_bit-on.ensures

pub returns-after-loop-functions : goal.returns-after-loop-functions
returns-after-loop-functions c = λ functions few is.
    let so_far = c.loop-functions.invariant functions few is in
    let none = bits_none so_far.0 c.loop-functions.rest.now so_far.2 (sym c.is_empty.ensures ∙ c.loop-functions-test.false) in
    grind (arith, so_far.1, none, append-nil)
