use Rattle.srcp_core.proofs.Names.{ap, shut}
use Rattle.srcp_core.proofs.Agreement.OutlinesAreKept.{becomes, shut_kept}
use Rattle.srcp_core.proofs.recorder.Recorder.shut.Goals as goal

pub returns : goal.returns
returns g c = becomes _ _ _ (shut_kept c.args.conn) (cc (
  ap (shut c.args.conn) c.self.view_is,
  c.free.ensures,
  c.set_finish.ensures,
))
