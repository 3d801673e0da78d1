use Rattle.std.proofs.Common.{◌∙◌, ap, refl, sym, Ok, Err, rules}
use Rattle.srcp_peers.specs.declared.peer.Peer.{Peer}
use Rattle.srcp_door.specs.declared.door.DoorFault.TheVariants.{Close}
use Rattle.srcp_door.specs.Calls.{CloseCall}
use Rattle.srcp_log.proofs.AcceptsAreAsked.{asked_step}
use Rattle.srcp_log.proofs.WorkIsDone.{done_step, done_turn}
use Rattle.srcp_log.proofs.AccountsReadTheClock.{clock_is}
use Rattle.srcp_peers.specs.Steps.{Answers}
use Rattle.srcp_peers.specs.Turns.{after_call}
use Rattle.srcp_peers.proofs.CallsAreOfTheDoor.{says_call}
use Rattle.srcp_log.proofs.NumbersDiffer.{named_call}
use Rattle.srcp_log.proofs.SocketsLingerAndClose.{stands_left, stands_missing}
use Rattle.srcp_log.proofs.TimesGoOn.{timed_close}
use Rattle.srcp_log.proofs.EndsAreTold.{far_left, far_same, slackens_step}
use Rattle.srcp_peers.specs.Peers.{KeepsShare}
use Rattle.srcp_log.proofs.PeersAreFrom.{from_same, from_set, share_stays}
use Rattle.srcp_sockets.proofs.sockets.Sockets.close.Goals as goal

pub returns-in_default-clause-trace : goal.returns-in_default-clause-trace
returns-in_default-clause-trace g c = says_call c.args.self.now.system.log.steps c.answer.new.self.log.steps
    (CloseCall c.args.number (Err Close)) c.answer.ensures.log

pub invariant_of-self : goal.invariant_of-self
invariant_of-self g c =
    let old = c.args.self.now.system.log.steps in
    let new = c.answer.new.self.log.steps in
    let call = CloseCall c.args.number (Err Close) in
    record {
      stands = stands_missing old new c.args.self.now.peers.items c.args.self.now.listening c.args.self.now.last c.args.number (Err Close)
          c.in_default.ensures.none c.answer.ensures.log c.args.self.now.stands;
      named = named_call old new c.args.self.now.last call (says_call old new call c.answer.ensures.log) refl c.args.self.now.named;
      timed = timed_close old new c.args.self.now.turn c.note_close.new.self c.args.number (Err Close)
          (λ peer. c.note_close.ensures peer (Err Close))
          c.answer.ensures.log c.args.self.now.timed;
      asked = asked_step old new (Answers call) c.answer.ensures.log refl c.args.self.now.asked;
      done = done_turn c.args.self.now.most new c.args.self.now.turn c.note_close.new.self (after_call c.args.self.now.turn call)
          (c.note_close.ensures c.args.number (Err Close)) refl refl
          (done_step c.args.self.now.most c.args.self.now.turn.timekeeper.wall c.args.self.now.turn.timekeeper.start old new
          (Answers call) c.answer.ensures.log
          tt c.args.self.now.done);
      ending = far_same old new c.args.self.now.peers.items (Answers call) c.answer.ensures.log (λ s x. refl) c.args.self.now.ending;
      places = c.args.self.now.places;
    }

pub invariant_of-self-2 : goal.invariant_of-self-2
invariant_of-self-2 g c =
    let old = c.args.self.now.system.log.steps in
    let new = c.answer-2.new.self.log.steps in
    let call = CloseCall c.args.number (Ok tt) in
    let x = c.index_mut.result.now in
    let at = c.index_mut.ensures.value in
    let there = c.in-Some.ensures.found in
    record {
      stands = stands_left old new c.args.self.now.peers.items c.in-Some.index x c.linger.new.self c.args.self.now.listening
          c.args.self.now.last c.args.number c.args.self.now.turn.clock (Ok tt) there.0 (sym at)
          (ap (λ (p : Peer). p.number) at ∙ (there.1 x).0) (ap (λ (p : Peer). p.stay) at ∙ (there.1 x).1) c.linger.ensures
          (clock_is old c.args.self.now.turn c.args.number c.args.self.now.timed) c.answer-2.ensures.log c.args.self.now.stands;
      named = named_call old new c.args.self.now.last call (says_call old new call c.answer-2.ensures.log) refl c.args.self.now.named;
      timed = timed_close old new c.args.self.now.turn c.note_close-2.new.self c.args.number (Ok tt)
          (λ peer. c.note_close-2.ensures peer (Ok tt))
          c.answer-2.ensures.log c.args.self.now.timed;
      asked = asked_step old new (Answers call) c.answer-2.ensures.log refl c.args.self.now.asked;
      done = done_turn c.args.self.now.most new c.args.self.now.turn c.note_close-2.new.self (after_call c.args.self.now.turn call)
          (c.note_close-2.ensures c.args.number (Ok tt)) refl refl
          (done_step c.args.self.now.most c.args.self.now.turn.timekeeper.wall c.args.self.now.turn.timekeeper.start old new
          (Answers call) c.answer-2.ensures.log
          tt c.args.self.now.done);
      ending = far_left old new c.args.self.now.peers.items c.in-Some.index x c.linger.new.self c.args.self.now.turn.clock there.0
          c.linger.ensures (slackens_step old new (Answers call) c.answer-2.ensures.log (λ s x. refl)) c.args.self.now.ending;
      places = search rules;
    }

pub returns-clause-trace : goal.returns-clause-trace
returns-clause-trace g c = says_call c.args.self.now.system.log.steps c.answer-2.new.self.log.steps
    (CloseCall c.args.number (Ok tt)) c.answer-2.ensures.log

pub returns-clause-shares : goal.returns-clause-shares
returns-clause-shares g c = from_set KeepsShare share_stays c.args.self.now.peers.items c.in-Some.index c.index_mut.result.now
    c.linger.new.self c.in-Some.ensures.found.0 c.index_mut.ensures.value (ap (λ (p : Peer). p.number) c.linger.ensures)
    (ap (λ (p : Peer). p.share) c.linger.ensures, ap (λ (p : Peer). p.served) c.linger.ensures)

pub returns-in_default-clause-shares : goal.returns-in_default-clause-shares
returns-in_default-clause-shares g c = from_same KeepsShare share_stays c.args.self.now.peers.items

pub returns-clause-turn : goal.returns-clause-turn
returns-clause-turn g c = c.note_close-2.ensures c.args.number (Ok tt)

pub returns-in_default-clause-turn : goal.returns-in_default-clause-turn
returns-in_default-clause-turn g c = c.note_close.ensures c.args.number (Err Close)
