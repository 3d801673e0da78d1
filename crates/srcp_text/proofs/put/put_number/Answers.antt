use Rattle.std.proofs.Common.{arith, rules}
use Rattle.std.proofs.lemmas.Grind.{common_steps}
use Rattle.std.proofs.lemmas.Fmt.{decimal_digit}
use Rattle.srcp_text.proofs.NumberLaws.{decimal_two}
use Rattle.srcp_text.proofs.put.put_number.Goals as goal

pub push-requires : goal.push-requires
push-requires g c = let room = rw (decimal_digit c.args.number (omega arith)) at c.requires in search rules

pub push-requires-then-number-lt100 : goal.push-requires-then-number-lt100
push-requires-then-number-lt100 g c =
    let room = rw (decimal_two c.args.number (omega arith) (omega arith)) at c.requires in search rules

pub push-requires-then-number-lt100-2 : goal.push-requires-then-number-lt100-2
push-requires-then-number-lt100-2 g c =
    let room = rw (decimal_two c.args.number (omega arith) (omega arith)) at c.requires in
    let len = c.push-then-number-lt100.ensures.len in search rules

pub returns-then-number-lt10 : goal.returns-then-number-lt10
returns-then-number-lt10 g c = rw (decimal_digit c.args.number (omega arith)) (search rules)

pub returns-then-number-lt100 : goal.returns-then-number-lt100
returns-then-number-lt100 g c = rw (decimal_two c.args.number (omega arith) (omega arith)) (grind (arith, common_steps))
