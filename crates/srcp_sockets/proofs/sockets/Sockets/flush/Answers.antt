use Rattle.std.proofs.Common.{◌∙◌, List, rules, subst, sym, arith}
use Rattle.std.proofs.lemmas.List.{with_items_is}
use Rattle.srcp_peers.specs.declared.peer.Peer.{Peer}
use Rattle.srcp_peers.specs.AllPeers.{AreOffered}
use Rattle.srcp_log.specs.Doors.{Stands}
use Rattle.srcp_log.proofs.AcceptsAreAsked.{asked_silent}
use Rattle.srcp_log.proofs.WorkIsDone.{done_silent}
use Rattle.srcp_log.proofs.WaitsAreFlushed.{all_flushed}
use Rattle.srcp_log.proofs.NumbersDiffer.{named_silent}
use Rattle.srcp_log.proofs.SocketsStayStanding.{stands_turned}
use Rattle.srcp_log.proofs.TimesGoOn.{timed_kept}
use Rattle.srcp_log.specs.Endings.{AreAsFar}
use Rattle.srcp_log.proofs.EndsAreTold.{far_goes, flushed_of, slackens_silent}
use Rattle.std.proofs.Common.{◌+◌, ◌*◌, length}
use Rattle.srcp_peers.specs.Steps.{GrowsBy}
use Rattle.srcp_log.proofs.SocketsStayStanding.{as_many}
use Rattle.srcp_peers.specs.Peers.{KeepsRest}
use Rattle.srcp_log.specs.Work.{AreFrom}
use Rattle.srcp_log.proofs.PeersAreFrom.{from_each}
use Rattle.srcp_sockets.proofs.sockets.Sockets.flush.Goals as goal

pub invariant_of-self : goal.invariant_of-self
invariant_of-self g c =
    let old = c.args.self.now.system.log.steps in
    let new = c.flush.new.system.log.steps in
    let listening = c.args.self.now.listening in
    let last = c.args.self.now.last in
    record {
      stands = subst (λ (ps : List Peer). Stands new ps listening last)
          (sym (with_items_is c.args.self.now.peers c.flush.new.peers (c.flush.auto.peers ∙ search rules)))
          (stands_turned old new c.as_mut_slice.result.now c.flush.new.peers listening last
          c.flush.auto.peers c.flush.ensures.kept c.flush.ensures.those c.flush.ensures.others
          (subst (λ (ps : List Peer). Stands old ps listening last) (sym c.as_mut_slice.ensures.value) c.args.self.now.stands));
      named = named_silent old new last c.flush.ensures.calls c.args.self.now.named;
      timed = timed_kept old new c.args.self.now.turn c.flush.ensures.times c.args.self.now.timed;
      asked = asked_silent old new c.flush.ensures.calls c.args.self.now.asked;
      done = done_silent c.args.self.now.most c.args.self.now.turn.timekeeper.wall c.args.self.now.turn.timekeeper.start old new
          c.flush.ensures.calls c.flush.ensures.times c.args.self.now.done;
      ending = subst (AreAsFar new)
          (sym (with_items_is c.args.self.now.peers c.flush.new.peers (c.flush.auto.peers ∙ search rules)))
          (far_goes old new c.as_mut_slice.result.now c.flush.new.peers (slackens_silent old new c.flush.ensures.calls)
          (flushed_of c.as_mut_slice.result.now c.flush.new.peers c.flush.auto.peers c.flush.ensures.those c.flush.ensures.shut
          c.flush.ensures.keeps)
          (subst (AreAsFar old) (sym c.as_mut_slice.ensures.value) c.args.self.now.ending));
      places = (
        omega (
          arith,
          c.args.self.now.places.0,
          as_many c.as_mut_slice.result.now c.flush.new.peers c.args.self.now.peers.items _
              (with_items_is c.args.self.now.peers c.flush.new.peers (c.flush.auto.peers ∙ search rules)) c.flush.auto.peers
              c.as_mut_slice.ensures.value,
        ),
        c.args.self.now.places.1,
        c.args.self.now.places.2,
      );
    }

pub returns-clause-offered : goal.returns-clause-offered
returns-clause-offered g c =
    let old = c.args.self.now.system.log.steps in
    let new = c.flush.new.system.log.steps in
    subst (λ (ps : List Peer). AreOffered c.args.what ps old new) c.as_mut_slice.ensures.value c.flush.ensures.offered

pub returns-clause-out : goal.returns-clause-out
returns-clause-out g c =
    let self = c.args.self.now in
    let old = self.system.log.steps in
    let new = c.flush.new.system.log.steps in
    let before = c.as_mut_slice.result.now in
    let after = c.flush.new.peers in
    let now = c.flush.ensures in
    let stood : Stands old before self.listening self.last =
    subst (λ (ps : List Peer). Stands old ps self.listening self.last) (sym c.as_mut_slice.ensures.value) self.stands in
    all_flushed c.args.what old new before after self.listening self.last self.turn.timekeeper.wall self.turn.timekeeper.start stood
    (stands_turned old new before after self.listening self.last c.flush.auto.peers now.kept now.those now.others stood)
    c.flush.auto.peers now.offered now.shut now.others now.calls now.times self.timed.heard

pub returns-clause-most : goal.returns-clause-most
returns-clause-most g c =
    subst (λ (ps : List Peer). GrowsBy (2 * length ps + 64) c.args.self.now.system.log.steps c.flush.new.system.log.steps)
    c.as_mut_slice.ensures.value c.flush.ensures.most

pub returns-clause-as_many : goal.returns-clause-as_many
returns-clause-as_many g c = as_many c.as_mut_slice.result.now c.flush.new.peers c.args.self.now.peers.items _
    (with_items_is c.args.self.now.peers c.flush.new.peers (c.flush.auto.peers ∙ search rules)) c.flush.auto.peers
    c.as_mut_slice.ensures.value

pub returns-clause-left : goal.returns-clause-left
returns-clause-left g c =
    let before = c.as_mut_slice.result.now in
    let after = c.flush.new.peers in
    subst (AreFrom KeepsRest c.args.self.now.peers.items)
    (sym (with_items_is c.args.self.now.peers after (c.flush.auto.peers ∙ search rules)))
    (subst (λ (ps : List Peer). AreFrom KeepsRest ps after) c.as_mut_slice.ensures.value
    (from_each KeepsRest before after c.flush.auto.peers c.flush.ensures.those c.flush.ensures.keeps))
