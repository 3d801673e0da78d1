use Rattle.std.proofs.Common.{rules}
use Rattle.std.specs.Prelude.{IfSome}
use Rattle.srcp_tool.specs.Output.{Mirrors, RefusesInput, StopsFor}
use Rattle.srcp_tool.proofs.Writings.{writes_text}
use Rattle.srcp_tool.proofs.stream.mirror.Goals as goal

pub returns : goal.returns
returns g c =
    let input = g.R.Read.remaining c.args.reader.now in
    let prints : IfSome input (λ bytes. Mirrors bytes c.as_slice.result.now) = rw c.as_slice.ensures.value (search rules) in
    writes_text (λ text. IfSome input (λ bytes. Mirrors bytes text)) (StopsFor (λ fault. IfSome input (λ bytes. RefusesInput bytes fault)))
    c.as_slice.result.now c.write_whole.result _ _ prints c.write_whole.ensures
