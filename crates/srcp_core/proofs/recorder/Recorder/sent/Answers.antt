use Rattle.srcp_core.proofs.Names.{ap, ◌∙◌}
use Rattle.std.proofs.Common.{Result, Ok, Err}
use Rattle.std.specs.Prelude.{OnOk}
use Rattle.srcp_core.specs.Recording.{with_sent}
use Rattle.srcp_core.proofs.Agreement.OutlinesAreKept.{becomes, took_kept}
use Rattle.srcp_core.proofs.recorder.Recorder.sent.Goals as goal

on_ok : {E P Q : Type 0} (result : Result Unit E) → (P → Q) → OnOk result P → OnOk result Q
on_ok (Ok done) f h = f h
on_ok (Err fault) f h = tt

pub returns : goal.returns
returns g c =
    let r = c.self.inside in
    on_ok c.take.result
    (λ e. becomes (with_sent c.args.conn c.args.bytes.now) c.args.self.now _ (took_kept c.args.conn c.args.bytes.now)
    (ap (λ tolds. record { keys = r.keys.items; steps = r.steps.items; connections = tolds; refused = r.refused.items }) e
    ∙ ap (with_sent c.args.conn c.args.bytes.now) c.self.view_is))
    c.take.ensures
