use Rattle.std.proofs.Common.{◌≡◌, ◌<◌, List, length, subst, true}
use Rattle.std.specs.Prelude.{slice_index_or}
use Rattle.srcp_peers.specs.declared.peer.Peer.{Peer}
use Rattle.srcp_peers.specs.Peers.{KeepsRest, KeepsShare, is_closable}
use Rattle.srcp_log.proofs.AcceptsKeepSockets.{stands_later}
use Rattle.srcp_log.proofs.PeersAreFrom.{from_same, from_weaker, rest_shares, share_stays}
use Rattle.srcp_sockets.proofs.sockets.Sockets.free_place.Goals as goal

pub close_at-requires : goal.close_at-requires
close_at-requires g c =
    let index = c.in-Some.index in
    let clock = c.args.self.now.turn.clock in
    record {
      within = subst (λ (ps : List Peer). index < length ps) c.as_slice.ensures.value c.in-Some.ensures.closable.0;
      closable = λ d. subst (λ (ps : List Peer). is_closable clock (slice_index_or ps index d) ≡ true) c.as_slice.ensures.value
          (c.in-Some.ensures.closable.1 clock d);
    }

pub invariant_of-self-clause-stands : goal.invariant_of-self-clause-stands
invariant_of-self-clause-stands g c =
    let self = c.args.self.now in
    stands_later self.system.log.steps self.peers.items self.listening self.last c.requires self.stands

pub returns-in-Some-clause-shares : goal.returns-in-Some-clause-shares
returns-in-Some-clause-shares g c = from_weaker KeepsRest KeepsShare rest_shares c.args.self.now.peers.items
    c.close_at.new.self.peers.items c.close_at.ensures.left

pub returns-in-None-clause-shares : goal.returns-in-None-clause-shares
returns-in-None-clause-shares g c = from_same KeepsShare share_stays c.args.self.now.peers.items
