use Rattle.std.proofs.Common.{decimal, arith}
use Rattle.srcp_script.proofs.Prints.{length_behind, number_most}
use Rattle.srcp_script.proofs.print.put_count.Goals as goal

pub push-requires : goal.push-requires
push-requires c =
    let most =
    length_behind c.args.line.now.items (decimal c.args.number) _ 20 c.put_number.ensures (number_most c.args.number (omega arith)) in
    omega (arith, most, c.requires)

pub returns-clause-most : goal.returns-clause-most
returns-clause-most c =
    let most =
    length_behind c.args.line.now.items (decimal c.args.number) _ 20 c.put_number.ensures (number_most c.args.number (omega arith)) in
    omega (arith, most, c.push.ensures.len)
