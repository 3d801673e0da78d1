use Rattle.srcp_door.specs.Calls.{ExpectCall}
use Rattle.srcp_log.proofs.AnswersAreBounded.{answered_once}
use Rattle.srcp_log.proofs.ServicesAreCounted.{unserved_all}
use Rattle.srcp_log.proofs.SharesAreWhole.{comes_once, shares_called}
use Rattle.srcp_log.proofs.PeersAreFrom.{from_same, share_stays}
use Rattle.srcp_log.specs.Work.{AreFrom}
use Rattle.srcp_peers.specs.Peers.{KeepsShare}
use Rattle.std.proofs.Common.{ap, refl, subst, sym}
use Rattle.srcp_sockets.proofs.door.SocketDoorDoor.expect.Goals as goal

pub invariant_of-self-clause-fair : goal.invariant_of-self-clause-fair
invariant_of-self-clause-fair g c = answered_once c.args.self.now.sockets.system.log.steps c.expect.new.self.system.log.steps
    (ExpectCall c.args.due c.args.slack) c.expect.ensures.log tt c.args.self.now.fair

pub invariant_of-self-clause-shares : goal.invariant_of-self-clause-shares
invariant_of-self-clause-shares g c =
    let was = c.args.self.now.sockets in
    let new = c.expect.new.self in
    let now = c.expect.ensures in
    let call = ExpectCall c.args.due c.args.slack in
    let from : AreFrom KeepsShare was.peers.items new.peers.items =
    subst (AreFrom KeepsShare was.peers.items) (sym (ap (λ peers. peers.items) now.keeps.4))
    (from_same KeepsShare share_stays was.peers.items) in
    shares_called was.system.log.steps new.system.log.steps call was.turn new.turn was.services new.services was.peers.items
    new.peers.items (comes_once was.system.log.steps new.system.log.steps call now.log) refl (ap (λ turn. turn.timekeeper) now.turn)
    now.keeps.0 (unserved_all call new.services was.peers.items new.peers.items refl from) (λ k d lt free. from k d lt)
    c.args.self.now.shares
