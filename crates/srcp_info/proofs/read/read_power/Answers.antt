use Rattle.std.proofs.Common.{arith, ◌∙◌}
use Rattle.srcp_info.proofs.TellsLaws.{power_text}
use Rattle.srcp_info.proofs.read.read_power.Goals as goal

pub returns : goal.returns
returns c = λ on shown short is.
    let words = power_text on shown c.args.text.now is in
    let one = c.next_switch-on.ensures on words.0 words.1 in
    let same = one.1 ∙ words.2 in
    grind (arith, one.0, same)
