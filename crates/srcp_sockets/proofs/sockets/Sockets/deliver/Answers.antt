use Rattle.std.proofs.Common.{List, ℕ, subst, sym}
use Rattle.srcp_peers.specs.declared.peer.Peer.{Peer}
use Rattle.srcp_peers.specs.declared.readiness.Flush.TheVariants as flush
use Rattle.srcp_peers.specs.AllPeers.{AreOffered}
use Rattle.srcp_log.specs.Delivery.{HasEnded}
use Rattle.srcp_log.specs.Doors.{Stands}
use Rattle.srcp_sockets.proofs.sockets.Sockets.deliver.Goals as goal

pub returns-clause-offered : goal.returns-clause-offered
returns-clause-offered g c =
    let old = c.args.self.system.log.steps in
    let new = c.deliver.new.system.log.steps in
    subst (λ (ps : List Peer). AreOffered flush.All ps old new) c.as_mut_slice.ensures.value c.deliver.ensures.offered

pub returns-clause-ended : goal.returns-clause-ended
returns-clause-ended g c =
    let self = c.args.self in
    let old = self.system.log.steps in
    subst (λ (until : ℕ). HasEnded until old c.deliver.new.system.log.steps) c.saturating_add-until.ensures
    (c.deliver.ensures.all (
      self.listening,
      self.last,
      subst (λ (ps : List Peer). Stands old ps self.listening self.last) (sym c.as_mut_slice.ensures.value) self.stands,
    ))
