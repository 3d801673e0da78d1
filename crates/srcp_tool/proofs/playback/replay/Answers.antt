use Rattle.std.proofs.Common.{◌≡◌, ℕ, List, Result, Ok, Err, rules}
use Rattle.std.specs.Prelude.{IfSome}
use Rattle.srcp_script.specs.Output.{printed}
use Rattle.srcp_tool.specs.Output.{StopsFor, replayed}
use Rattle.srcp_tool.specs.declared.fault.ToolFault.{ToolFault}
use Rattle.srcp_tool.proofs.Writings.{writes_that}
use Rattle.srcp_tool.proofs.playback.replay.Goals as goal

pub returns : goal.returns
returns g c =
    let gives : Result (List ℕ) ToolFault → Type 0 =
    λ output. IfSome (g.R.Read.remaining c.args.reader.now) (λ bytes. replayed c.args.layout.now bytes ≡ output) in
    let text : List ℕ = printed c.in_ok-outline.outline in
    let prints : gives (Ok text) = search rules in
    writes_that (λ text. gives (Ok text)) (StopsFor (λ fault. gives (Err fault))) text c.write_record.result _ _ prints tt
    c.write_record.ensures
