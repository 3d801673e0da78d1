use Rattle.std.specs.declared.io.ErrorKind.{ErrorKind}
use Rattle.std.specs.Prelude.{Result, filter_map}
use Rattle.std.proofs.Common.{◌≡◌, ◌∙◌, ℕ, ◌∷◌, ◌++◌, [], ap, le_trans, refl, rules, sym, subst, arith, true, Ok, Err, Some}
use Rattle.std.proofs.Common.{length, length-append}
use Rattle.srcp_door.specs.Calls.{AcceptCall, peer_of}
use Rattle.srcp_peers.specs.declared.system.IoFailure.{IoFailure}
use Rattle.srcp_peers.specs.declared.system.IoFailure.TheVariants.{WouldBlock, Interrupted, Fatal}
use Rattle.srcp_peers.specs.declared.turn.Listening.{Listening}
use Rattle.srcp_log.specs.Doors.{Stands}
use Rattle.srcp_log.specs.Work.{last_after}
use Rattle.srcp_peers.specs.Listeners.{listening_after_failure}
use Rattle.srcp_peers.specs.Steps.{Accepts, Answers}
use Rattle.srcp_peers.specs.Times.{is_as_heard, failed_accept}
use Rattle.srcp_peers.specs.Turns.{after_call}
use Rattle.srcp_peers.proofs.PeersStayKept.{own}
use Rattle.srcp_peers.proofs.CallsAreOfTheDoor.{says_call, says_step}
use Rattle.srcp_log.proofs.AcceptsAreAsked.{asked_accept, asked_step, was_asked}
use Rattle.srcp_log.proofs.WorkIsDone.{done_step, done_turn, tells_two}
use Rattle.srcp_log.proofs.NumbersDiffer.{named_call, named_come, named_silent, nobody_named}
use Rattle.srcp_log.proofs.AcceptsKeepSockets.{stands_came, stands_refused}
use Rattle.srcp_log.proofs.SocketsStayStanding.{stands_answered}
use Rattle.srcp_log.proofs.TimesGoOn.{timed_asked}
use Rattle.srcp_log.proofs.EndsAreTold.{far_pushed, far_same}
use Rattle.srcp_peers.specs.Peers.{KeepsShare}
use Rattle.srcp_peers.specs.declared.peer.Peer.{Peer}
use Rattle.srcp_log.proofs.PeersAreFrom.{from_pushed, from_same, share_stays}
use Rattle.std.specs.Prelude.{◌<◌, List, slice_index_or}
use Rattle.std.proofs.lemmas.List.Elements.{All-push}
use Rattle.srcp_log.specs.Services.{made_after}
use Rattle.srcp_sockets.proofs.sockets.Sockets.accept_next.Goals as goal

pub invariant_of-self : goal.invariant_of-self
invariant_of-self g c =
    let old = c.args.self.now.system.log.steps in
    let mid = c.accept.new.self.log.steps in
    let new = c.answer.new.self.log.steps in
    let self = c.args.self.now in
    let number = c.args.number in
    let said : Result Unit ErrorKind = Ok c.in-Ok.field-0 in
    let call = AcceptCall (Ok (Some number)) in
    let pushed : c.push.new.self.items ≡ self.peers.items ++ c.new.result ∷ [] = search rules in
    record {
      stands = stands_answered mid new c.push.new.self.items self.listening number call (λ s a. refl) c.answer.ensures.log
          (stands_came old mid self.peers.items c.push.new.self.items c.new.result self.listening c.saturating_add-service.result
          self.last number
          c.in-Ok.field-0 c.requires.next pushed c.new.ensures c.in-Ok.ensures.log self.stands);
      named = named_come mid new self.last number c.requires.next (says_call mid new call c.answer.ensures.log)
          (named_silent old mid self.last (says_step old mid (Accepts number said) c.in-Ok.ensures.log refl) self.named);
      timed = timed_asked old mid new self.turn c.note_accept.new.self number said (Ok (Some number)) c.note_accept.ensures
          (own number)
          c.in-Ok.ensures.log c.answer.ensures.log self.timed;
      asked = asked_accept mid new (Ok (Some number)) c.answer.ensures.log tt
          (asked_step old mid (Accepts number said) c.in-Ok.ensures.log refl self.asked);
      done = done_turn self.most new self.turn c.note_accept.new.self (after_call self.turn call) c.note_accept.ensures refl refl
          (done_step self.most self.turn.timekeeper.wall self.turn.timekeeper.start mid new (Answers call) c.answer.ensures.log tt
          (done_step self.most self.turn.timekeeper.wall self.turn.timekeeper.start old mid (Accepts number said) c.in-Ok.ensures.log tt
          self.done));
      ending = far_same mid new c.push.new.self.items (Answers call) c.answer.ensures.log (λ s x. refl)
          (far_pushed old mid self.peers.items c.push.new.self.items c.new.result c.saturating_add-service.result number
          c.in-Ok.field-0 pushed
          c.new.ensures c.in-Ok.ensures.log self.ending);
      places = (
        grind (arith, self.places.0, c.pop.ensures.cases, ap length pushed, length-append self.peers.items (c.new.result ∷ [])),
        le_trans self.places.1 c.push.ensures.capacity,
        search rules,
      );
    }

-- what is answered is what the system said
answered_so : (said : IoFailure) → is_as_heard (Some (failed_accept said)) (failed_accept said) ≡ true
answered_so WouldBlock = refl
answered_so Interrupted = refl
answered_so Fatal = refl

pub invariant_of-self-in-Err : goal.invariant_of-self-in-Err
invariant_of-self-in-Err g c =
    let old = c.args.self.now.system.log.steps in
    let mid = c.accept.new.self.log.steps in
    let new = c.answer-in-Err.new.self.log.steps in
    let self = c.args.self.now in
    let number = c.args.number in
    let said : Result Unit ErrorKind = Err c.in-Err.fault in
    let answer = c.nobody-answer.result in
    let call = AcceptCall answer in
    let is : answer ≡ failed_accept c.failure_of-said.result = c.nobody-answer.ensures.answer in
    record {
      stands = stands_answered mid new self.peers.items c.after_failure-self.result self.last call (λ s a. refl) c.answer-in-Err.ensures.log
          (subst (λ (l : Listening). Stands mid self.peers.items l self.last)
          (sym (c.after_failure-self.ensures ∙ ap listening_after_failure c.failure_of-said.ensures))
          (stands_refused old mid self.peers.items self.listening self.last number c.in-Err.fault c.requires.loud
          c.in-Err.ensures.log self.stands));
      named = named_call mid new self.last call (says_call mid new call c.answer-in-Err.ensures.log)
          (ap (λ a. filter_map peer_of (AcceptCall a ∷ [])) is ∙ nobody_named c.failure_of-said.result)
          (named_silent old mid self.last (says_step old mid (Accepts number said) c.in-Err.ensures.log refl) self.named);
      timed = timed_asked old mid new self.turn c.note_accept-in-Err.new.self number said answer c.note_accept-in-Err.ensures
          (ap (λ a. is_as_heard (Some a) answer) (ap failed_accept (sym c.failure_of-said.ensures))
          ∙ ap (is_as_heard (Some (failed_accept c.failure_of-said.result))) is ∙ answered_so c.failure_of-said.result)
          c.in-Err.ensures.log c.answer-in-Err.ensures.log self.timed;
      asked = asked_accept mid new answer c.answer-in-Err.ensures.log (was_asked old mid number said answer c.in-Err.ensures.log)
          (asked_step old mid (Accepts number said) c.in-Err.ensures.log refl self.asked);
      done = done_turn self.most new self.turn c.note_accept-in-Err.new.self (after_call self.turn call)
          c.note_accept-in-Err.ensures refl refl
          (done_step self.most self.turn.timekeeper.wall self.turn.timekeeper.start mid new (Answers call) c.answer-in-Err.ensures.log
          tt
          (done_step self.most self.turn.timekeeper.wall self.turn.timekeeper.start old mid (Accepts number said) c.in-Err.ensures.log tt
          self.done));
      ending = far_same mid new self.peers.items (Answers call) c.answer-in-Err.ensures.log (λ s x. refl)
          (far_same old mid self.peers.items (Accepts number said) c.in-Err.ensures.log (λ s x. refl) self.ending);
      places = self.places;
    }

pub returns-in-Ok-clause-exact : goal.returns-in-Ok-clause-exact
returns-in-Ok-clause-exact g c =
    let old = c.args.self.now.system.log.steps in
    let mid = c.accept.new.self.log.steps in
    let new = c.answer.new.self.log.steps in
    let said : Result Unit ErrorKind = Ok c.in-Ok.field-0 in (
      said,
      refl,
      refl,
      tells_two old mid new (Accepts c.args.number said) (Answers (AcceptCall (Ok (Some c.args.number)))) c.in-Ok.ensures.log
          c.answer.ensures.log,
    )

pub returns-in-Err-clause-exact : goal.returns-in-Err-clause-exact
returns-in-Err-clause-exact g c =
    let old = c.args.self.now.system.log.steps in
    let mid = c.accept.new.self.log.steps in
    let new = c.answer-in-Err.new.self.log.steps in
    let said : Result Unit ErrorKind = Err c.in-Err.fault in (
      said,
      c.nobody-answer.ensures.answer ∙ ap failed_accept c.failure_of-said.ensures,
      c.after_failure-self.ensures ∙ ap listening_after_failure c.failure_of-said.ensures,
      tells_two old mid new (Accepts c.args.number said) (Answers (AcceptCall c.nobody-answer.result)) c.in-Err.ensures.log
          c.answer-in-Err.ensures.log,
    )

-- nobody came
last_of_nobody : (last : ℕ) (said : IoFailure) → last ≡ last_after last (failed_accept said)
last_of_nobody last WouldBlock = refl
last_of_nobody last Interrupted = refl
last_of_nobody last Fatal = refl

pub returns-in-Err-clause-last : goal.returns-in-Err-clause-last
returns-in-Err-clause-last g c =
    let last = c.args.self.now.last in
    last_of_nobody last c.failure_of-said.result ∙ sym (ap (last_after last) c.nobody-answer.ensures.answer)

pub returns-in-Ok-clause-shares : goal.returns-in-Ok-clause-shares
returns-in-Ok-clause-shares g c =
    let self = c.args.self.now in
    let number : c.new.result.number ≡ c.args.number = ap (λ (p : Peer). p.number) c.new.ensures in
    from_pushed KeepsShare share_stays self.peers.items c.push.new.self.items c.new.result self.last (search rules)
    (omega (arith, number, c.requires.next))

pub returns-in-Err-clause-shares : goal.returns-in-Err-clause-shares
returns-in-Err-clause-shares g c k d lt below = from_same KeepsShare share_stays c.args.self.now.peers.items k d lt

-- who came has the number of the last service, and each before has another number
pub returns-in-Ok-clause-came : goal.returns-in-Ok-clause-came
returns-in-Ok-clause-came g c n is k d lt =
    let self = c.args.self.now in
    let served : c.new.result.served ≡ c.saturating_add-service.result = ap (λ (p : Peer). p.served) c.new.ensures in
    let same : n ≡ c.args.number = cc in
    let Came : Peer → Type 0 = λ p. p.number ≡ n → p.served ≡ c.saturating_add-service.result in
    let each : (j : ℕ) (e : Peer) → j < length self.peers.items → Came (slice_index_or self.peers.items j e) =
    λ j e low one. absurd (omega (arith, one, same, c.requires.next, (self.stands.within j e low).1)) in
    let pushed : c.push.new.self.items ≡ self.peers.items ++ c.new.result ∷ [] = search rules in
    subst (λ (qs : List Peer). k < length qs → Came (slice_index_or qs k d)) (sym pushed)
    (All-push Came self.peers.items c.new.result each (λ one. served) k d) lt

pub returns-in-Err-clause-came : goal.returns-in-Err-clause-came
returns-in-Err-clause-came g c n is = absurd (none c.failure_of-said.result (sym is ∙ c.nobody-answer.ensures.answer))
  where
    none : (said : IoFailure) → Ok (Some n) ≡ failed_accept said → ⊥
    none WouldBlock e = cc
    none Interrupted e = cc
    none Fatal e = cc

made_nobody : (made : ℕ) (said : IoFailure) → made ≡ made_after (AcceptCall (failed_accept said)) made
made_nobody made WouldBlock = refl
made_nobody made Interrupted = refl
made_nobody made Fatal = refl

pub returns-in-Err-clause-services : goal.returns-in-Err-clause-services
returns-in-Err-clause-services g c = made_nobody c.args.self.now.services c.failure_of-said.result
    ∙ sym (ap (λ a. made_after (AcceptCall a) c.args.self.now.services) c.nobody-answer.ensures.answer)
