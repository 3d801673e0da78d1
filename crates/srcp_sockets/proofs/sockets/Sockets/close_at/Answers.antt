use Rattle.std.proofs.Common.{List, refl, rules, sym, subst}
use Rattle.srcp_peers.specs.declared.peer.Peer.{Peer}
use Rattle.srcp_log.specs.Doors.{Stands}
use Rattle.srcp_log.specs.Work.{is_close}
use Rattle.srcp_peers.specs.Steps.{Closes}
use Rattle.srcp_log.proofs.AcceptsAreAsked.{asked_step}
use Rattle.srcp_log.proofs.WorkIsDone.{done_step}
use Rattle.srcp_log.proofs.WaitsAreFlushed.{flushed_close}
use Rattle.srcp_log.proofs.AccountsReadTheClock.{clock_is}
use Rattle.srcp_peers.proofs.StepsAreCounted.{makes_more}
use Rattle.srcp_peers.proofs.CallsAreOfTheDoor.{says_step, keeps_step}
use Rattle.srcp_log.proofs.NumbersDiffer.{named_silent}
use Rattle.srcp_log.proofs.SocketsLingerAndClose.{stands_closed_at}
use Rattle.srcp_log.proofs.TimesGoOn.{timed_kept}
use Rattle.std.specs.List.{remove}
use Rattle.srcp_log.specs.Endings.{AreAsFar}
use Rattle.srcp_log.proofs.EndsAreTold.{far_goes, removed_of, slackens_step}
use Rattle.srcp_peers.proofs.StepsAreCounted.{grows_step}
use Rattle.std.proofs.lemmas.List.Edits.{length-remove}
use Rattle.std.proofs.Common.{ap, arith, length}
use Rattle.srcp_peers.specs.Peers.{KeepsRest}
use Rattle.srcp_log.specs.Work.{AreFrom}
use Rattle.srcp_log.proofs.PeersAreFrom.{from_removed, rest_stays}
use Rattle.srcp_sockets.proofs.sockets.Sockets.close_at.Goals as goal

pub invariant_of-self : goal.invariant_of-self
invariant_of-self g c =
    let old = c.args.self.now.system.log.steps in
    let new = c.close.new.self.log.steps in
    let self = c.args.self.now in
    let peer = c.index.result.now in
    record {
      stands = subst (λ (ps : List Peer). Stands new ps self.listening self.last) (sym c.remove-peer.ensures.items)
          (stands_closed_at old new self.peers.items c.args.index peer self.listening self.last self.turn.clock c.requires.within
          (sym c.index.ensures) (c.requires.closable peer)
          (clock_is old self.turn peer.number self.timed) c.close.ensures.log self.stands);
      named = named_silent old new self.last (says_step old new (Closes peer.number) c.close.ensures.log refl) self.named;
      timed = timed_kept old new self.turn (keeps_step old new (Closes peer.number) c.close.ensures.log (λ t. refl)) self.timed;
      asked = asked_step old new (Closes peer.number) c.close.ensures.log refl self.asked;
      done = done_step self.most self.turn.timekeeper.wall self.turn.timekeeper.start old new (Closes peer.number) c.close.ensures.log tt
          self.done;
      ending = subst (AreAsFar new) (sym c.remove-peer.ensures.items)
          (far_goes old new self.peers.items (remove self.peers.items c.args.index)
          (slackens_step old new (Closes peer.number) c.close.ensures.log (λ s x. refl))
          (removed_of self.peers.items c.args.index peer c.requires.within (sym c.index.ensures) self.stands.apart) self.ending);
      places = search rules;
    }

pub returns-clause-calls : goal.returns-clause-calls
returns-clause-calls g c =
    let old = c.args.self.now.system.log.steps in
    let new = c.close.new.self.log.steps in
    says_step old new (Closes c.index.result.now.number) c.close.ensures.log refl

pub returns-clause-times : goal.returns-clause-times
returns-clause-times g c =
    let old = c.args.self.now.system.log.steps in
    let new = c.close.new.self.log.steps in
    keeps_step old new (Closes c.index.result.now.number) c.close.ensures.log (λ t. refl)

pub returns-clause-closed : goal.returns-clause-closed
returns-clause-closed g c =
    let old = c.args.self.now.system.log.steps in
    let new = c.close.new.self.log.steps in
    makes_more is_close 0 old old new (Closes c.index.result.now.number) (omega arith) c.close.ensures.log refl

pub returns-clause-one : goal.returns-clause-one
returns-clause-one g c = (c.index.result.now.number, c.close.ensures.log)

pub returns-clause-out : goal.returns-clause-out
returns-clause-out g c all flushed =
    flushed_close all c.args.self.now.system.log.steps c.close.new.self.log.steps c.index.result.now.number
    c.close.ensures.log flushed

pub returns-clause-most : goal.returns-clause-most
returns-clause-most g c = grows_step c.args.self.now.system.log.steps c.close.new.self.log.steps
    (Closes c.index.result.now.number) c.close.ensures.log

pub returns-clause-as_few : goal.returns-clause-as_few
returns-clause-as_few g c =
    let items = c.args.self.now.peers.items in
    omega (arith, length-remove items c.args.index c.requires.within, ap length c.remove-peer.ensures.items)

pub returns-clause-left : goal.returns-clause-left
returns-clause-left g c =
    let self = c.args.self.now in
    subst (AreFrom KeepsRest self.peers.items) (sym c.remove-peer.ensures.items)
    (from_removed KeepsRest rest_stays self.peers.items c.args.index c.index.result.now c.requires.within (sym c.index.ensures)
    self.stands.apart)
