use Rattle.std.proofs.Common.{◌≡◌, refl}
use Rattle.std.specs.List.{flat_map, enumerate_from}
use Rattle.srcp_script.specs.Output.{connection_lines, printed, printed_end}
use Rattle.srcp_tool.specs.Output.{RefusesFor}
use Rattle.srcp_tool.proofs.Writings.{writes_text, written_behind}
use Rattle.srcp_tool.proofs.playback.write_record.Goals as goal

pub returns : goal.returns
returns g c =
    let lines = flat_map connection_lines (enumerate_from 1 c.args.run.now.connections) in
    let front = rw c.as_slice.ensures at c.in_ok-write_connections.ensures in
    let end = rw (c.as_slice-2.ensures.value, c.in_ok-end.ensures) at c.write_whole.ensures in
    writes_text (λ text. text ≡ printed c.args.run.now) (RefusesFor (λ fault. ⊥)) (printed c.args.run.now) c.write_whole.result _ _ refl
    (written_behind lines (printed_end c.args.run.now) c.write_whole.result _ _ _ front end)
