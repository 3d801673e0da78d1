use Rattle.std.proofs.Common.{rules}
use Rattle.srcp_tool.specs.Output.{PrintsPlan, RefusesFor, RefusesPlan}
use Rattle.srcp_tool.proofs.Writings.{writes_text}
use Rattle.srcp_tool.proofs.checking.check_plan.Goals as goal

pub returns-in_err-text : goal.returns-in_err-text
returns-in_err-text g c = search rules

pub returns : goal.returns
returns g c =
    let prints : PrintsPlan c.args.bytes.now c.as_slice.result.now = rw c.as_slice.ensures.value c.in_ok-text.ensures.text in
    writes_text (PrintsPlan c.args.bytes.now) (RefusesFor (RefusesPlan c.args.bytes.now)) c.as_slice.result.now c.write_whole.result _ _
    prints c.write_whole.ensures
