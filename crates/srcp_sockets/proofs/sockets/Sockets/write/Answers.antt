use Rattle.std.proofs.Common.{◌++◌, ◌∷◌, [], ◌≡◌, ◌∙◌, ℕ, ap, refl, subst, sym, true≢false, Ok, Err, rules}
use Rattle.srcp_peers.specs.declared.peer.Peer.{Peer}
use Rattle.srcp_door.specs.declared.door.DoorFault.TheVariants.{Write}
use Rattle.srcp_door.specs.Calls.{WriteCall}
use Rattle.srcp_peers.specs.Peers.{KeepsShare, enqueued, is_here}
use Rattle.srcp_peers.specs.Steps.{Answers, SaysOne}
use Rattle.srcp_peers.specs.Turns.{after_call}
use Rattle.srcp_peers.proofs.CallsAreOfTheDoor.{says_call}
use Rattle.srcp_log.proofs.AcceptsAreAsked.{asked_step}
use Rattle.srcp_log.proofs.WorkIsDone.{done_step, done_turn}
use Rattle.srcp_log.proofs.NumbersDiffer.{named_call}
use Rattle.srcp_log.proofs.SocketsLingerAndClose.{stands_unwritten}
use Rattle.srcp_log.proofs.SocketsStayStanding.{stands_one}
use Rattle.srcp_log.proofs.TimesGoOn.{timed_write}
use Rattle.srcp_log.proofs.EndsAreTold.{far_same, far_wrote}
use Rattle.srcp_log.proofs.NumbersNamePeers.{the_one}
use Rattle.srcp_log.proofs.PeersAreFrom.{from_same, from_set, share_stays}
use Rattle.srcp_sockets.proofs.sockets.Sockets.write.Goals as goal

pub returns-in_default-clause-trace : goal.returns-in_default-clause-trace
returns-in_default-clause-trace g c = says_call c.args.self.now.system.log.steps c.answer.new.self.log.steps
    (WriteCall c.args.number c.args.bytes.now (Err Write)) c.answer.ensures.log

pub invariant_of-self-2 : goal.invariant_of-self-2
invariant_of-self-2 g c =
    let x = c.index_mut.result.now in
    let e = ap (λ (p : Peer). p.number) c.index_mut.ensures.value in
    record {
      stands = stands_one c.args.self.now.system.log.steps c.write-count.new.system.log.steps c.args.self.now.peers.items
          c.in-Some.index
          x c.write-count.new.self c.args.self.now.listening c.args.self.now.last c.in-Some.ensures.found.0 c.write-count.ensures.kept
          (c.write-count.ensures.number ∙ e) (λ other differ. c.write-count.ensures.others other (λ same. differ (same ∙ e)))
          c.args.self.now.stands;
      named = named_call c.args.self.now.system.log.steps c.write-count.new.system.log.steps c.args.self.now.last
          (WriteCall x.number c.args.bytes.now (Ok c.write-count.result))
          (says_call c.args.self.now.system.log.steps c.write-count.new.system.log.steps
          (WriteCall x.number c.args.bytes.now (Ok c.write-count.result)) c.write-count.ensures.log) refl c.args.self.now.named;
      timed = timed_write c.args.self.now.system.log.steps c.write-count.new.system.log.steps c.args.self.now.turn
          c.note_write-2.new.self
          x.number c.args.bytes.now (Ok c.write-count.result) c.note_write-2.ensures c.write-count.ensures.log c.args.self.now.timed;
      asked = asked_step c.args.self.now.system.log.steps c.write-count.new.system.log.steps
          (Answers (WriteCall x.number c.args.bytes.now (Ok c.write-count.result))) c.write-count.ensures.log refl c.args.self.now.asked;
      done = done_turn c.args.self.now.most c.write-count.new.system.log.steps c.args.self.now.turn c.note_write-2.new.self
          (after_call c.args.self.now.turn (WriteCall x.number c.args.bytes.now (Ok c.write-count.result)))
          (c.note_write-2.ensures x.number c.args.bytes.now) refl refl
          (done_step c.args.self.now.most c.args.self.now.turn.timekeeper.wall c.args.self.now.turn.timekeeper.start
          c.args.self.now.system.log.steps c.write-count.new.system.log.steps
          (Answers (WriteCall x.number c.args.bytes.now (Ok c.write-count.result)))
          c.write-count.ensures.log tt c.args.self.now.done);
      ending = far_wrote c.args.self.now.system.log.steps c.write-count.new.system.log.steps c.args.self.now.peers.items
          c.in-Some.index x c.write-count.new.self c.args.bytes.now c.write-count.result c.in-Some.ensures.found.0
          c.index_mut.ensures.value c.args.self.now.stands.apart c.write-count.ensures.number
          (ap (λ (p : Peer). p.stay) c.write-count.ensures.same) (ap (λ (p : Peer). p.ending) c.write-count.ensures.same)
          c.write-count.ensures.log c.args.self.now.ending;
      places = search rules;
    }

pub returns-clause-trace : goal.returns-clause-trace
returns-clause-trace g c =
    let x = c.index_mut.result.now in
    let e = ap (λ (p : Peer). p.number) c.index_mut.ensures.value ∙ (c.in-Some.ensures.found.1 x).0 in
    subst (λ (n : ℕ). SaysOne c.args.self.now.system.log.steps (WriteCall n c.args.bytes.now (Ok c.write-count.result))
    c.write-count.new.system.log.steps) e
    (says_call c.args.self.now.system.log.steps c.write-count.new.system.log.steps
    (WriteCall x.number c.args.bytes.now (Ok c.write-count.result)) c.write-count.ensures.log)

pub invariant_of-self-clause-named : goal.invariant_of-self-clause-named
invariant_of-self-clause-named g c = named_call c.args.self.now.system.log.steps
    c.answer.new.self.log.steps c.args.self.now.last (WriteCall c.args.number c.args.bytes.now (Err Write))
    (says_call c.args.self.now.system.log.steps c.answer.new.self.log.steps
    (WriteCall c.args.number c.args.bytes.now (Err Write)) c.answer.ensures.log) refl c.args.self.now.named

pub invariant_of-self-clause-timed : goal.invariant_of-self-clause-timed
invariant_of-self-clause-timed g c = timed_write c.args.self.now.system.log.steps
    c.answer.new.self.log.steps c.args.self.now.turn
    c.note_write.new.self c.args.number c.args.bytes.now (Err Write)
    c.note_write.ensures c.answer.ensures.log c.args.self.now.timed

pub invariant_of-self-clause-stands : goal.invariant_of-self-clause-stands
invariant_of-self-clause-stands g c = stands_unwritten c.args.self.now.system.log.steps c.answer.new.self.log.steps
    c.args.self.now.peers.items c.args.self.now.listening c.args.self.now.last c.args.number c.args.bytes.now Write
    c.in_default.ensures.none c.answer.ensures.log c.args.self.now.stands

pub invariant_of-self-clause-asked : goal.invariant_of-self-clause-asked
invariant_of-self-clause-asked g c = asked_step c.args.self.now.system.log.steps c.answer.new.self.log.steps
    (Answers (WriteCall c.args.number c.args.bytes.now (Err Write))) c.answer.ensures.log refl c.args.self.now.asked

pub invariant_of-self-clause-ending : goal.invariant_of-self-clause-ending
invariant_of-self-clause-ending g c = far_same c.args.self.now.system.log.steps c.answer.new.self.log.steps
    c.args.self.now.peers.items (Answers (WriteCall c.args.number c.args.bytes.now (Err Write))) c.answer.ensures.log (λ s x. refl)
    c.args.self.now.ending

pub invariant_of-self-clause-done : goal.invariant_of-self-clause-done
invariant_of-self-clause-done g c =
    let turn = c.args.self.now.turn in
    let call = WriteCall c.args.number c.args.bytes.now (Err Write) in
    done_turn c.args.self.now.most c.answer.new.self.log.steps turn c.note_write.new.self (after_call turn call)
    (c.note_write.ensures c.args.number c.args.bytes.now) refl refl
    (done_step c.args.self.now.most turn.timekeeper.wall turn.timekeeper.start c.args.self.now.system.log.steps
    c.answer.new.self.log.steps (Answers call) c.answer.ensures.log tt c.args.self.now.done)

pub returns-clause-log : goal.returns-clause-log
returns-clause-log g c =
    let x = c.index_mut.result.now in
    let e = ap (λ (p : Peer). p.number) c.index_mut.ensures.value ∙ (c.in-Some.ensures.found.1 x).0 in
    subst (λ (n : ℕ). c.write-count.new.system.log.steps
    ≡ c.args.self.now.system.log.steps ++ Answers (WriteCall n c.args.bytes.now (Ok c.write-count.result)) ∷ []) e c.write-count.ensures.log

pub returns-clause-exact : goal.returns-clause-exact
returns-clause-exact g c k d lt there =
    let peers = c.args.self.now.peers.items in
    let found = c.in-Some.ensures.found in
    let is = the_one peers c.in-Some.index k c.index_mut.result.now d c.index_mut.ensures.value found.0
    c.args.self.now.stands.apart lt (there.0 ∙ sym (found.1 d).0) in
    ap Ok (c.write-count.ensures.exact ∙ ap (λ (p : Peer). enqueued p c.args.bytes.now) is)

pub returns-in_default-clause-exact : goal.returns-in_default-clause-exact
returns-in_default-clause-exact g c k d lt there =
    absurd (true≢false (sym (ap is_here there.1) ∙ c.in_default.ensures.none k d lt there.0))

pub returns-clause-shares : goal.returns-clause-shares
returns-clause-shares g c = from_set KeepsShare share_stays c.args.self.now.peers.items c.in-Some.index c.index_mut.result.now
    c.write-count.new.self c.in-Some.ensures.found.0 c.index_mut.ensures.value c.write-count.ensures.number
    (ap (λ (p : Peer). p.share) c.write-count.ensures.same, ap (λ (p : Peer). p.served) c.write-count.ensures.same)

pub returns-in_default-clause-shares : goal.returns-in_default-clause-shares
returns-in_default-clause-shares g c = from_same KeepsShare share_stays c.args.self.now.peers.items

pub returns-clause-turn : goal.returns-clause-turn
returns-clause-turn g c = c.note_write-2.ensures c.args.number c.args.bytes.now

pub returns-in_default-clause-turn : goal.returns-in_default-clause-turn
returns-in_default-clause-turn g c = c.note_write.ensures c.args.number c.args.bytes.now
