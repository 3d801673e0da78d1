use Rattle.std.proofs.Common.{◌≡◌, Ok, Err, rules}
use Rattle.srcp_tool.specs.Output.{RefusesFor, check_output}
use Rattle.srcp_tool.proofs.Writings.{writes_text}
use Rattle.srcp_tool.proofs.checking.check.Goals as goal

pub returns-in_err-text : goal.returns-in_err-text
returns-in_err-text g c = search rules

pub returns : goal.returns
returns g c =
    let prints : check_output c.args.bytes.now ≡ Ok c.as_slice.result.now = rw c.as_slice.ensures.value c.in_ok-text.ensures.text in
    writes_text (λ text. check_output c.args.bytes.now ≡ Ok text) (RefusesFor (λ fault. check_output c.args.bytes.now ≡ Err fault))
    c.as_slice.result.now c.write_whole.result _ _ prints c.write_whole.ensures
