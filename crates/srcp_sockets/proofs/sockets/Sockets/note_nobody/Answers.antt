use Rattle.std.proofs.Common.{◌≡◌, ap, refl, ⊎_elim, true, None, [], ◌∷◌}
use Rattle.std.specs.Prelude.{filter_map}
use Rattle.srcp_door.specs.Calls.{AcceptCall, peer_of}
use Rattle.srcp_peers.specs.Steps.{Answers}
use Rattle.srcp_peers.specs.Times.{is_as_heard}
use Rattle.srcp_peers.specs.Turns.{after_call}
use Rattle.srcp_peers.proofs.CallsAreOfTheDoor.{says_call}
use Rattle.srcp_log.proofs.AcceptsAreAsked.{asked_accept}
use Rattle.srcp_log.proofs.WorkIsDone.{done_step, done_turn}
use Rattle.srcp_log.proofs.NumbersDiffer.{named_call}
use Rattle.srcp_log.proofs.SocketsStayStanding.{stands_answered}
use Rattle.srcp_log.proofs.TimesGoOn.{timed_unasked}
use Rattle.srcp_log.proofs.EndsAreTold.{far_same}
use Rattle.srcp_sockets.proofs.sockets.Sockets.note_nobody.Goals as goal

pub invariant_of-self : goal.invariant_of-self
invariant_of-self g c =
    let old = c.args.self.now.system.log.steps in
    let new = c.answer.new.self.log.steps in
    let answer = c.args.answer in
    let self = c.args.self.now in
    let none : filter_map peer_of (AcceptCall answer ∷ []) ≡ [] = ⊎_elim
    (λ e. ap (λ a. filter_map peer_of (AcceptCall a ∷ [])) e) (λ e. ap (λ a. filter_map peer_of (AcceptCall a ∷ [])) e) c.requires.nobody in
    let as_heard : is_as_heard None answer ≡ true = ⊎_elim
    (λ e. ap (is_as_heard None) e) (λ e. ap (is_as_heard None) e) c.requires.nobody in
    record {
      stands =
          stands_answered old new self.peers.items self.listening self.last (AcceptCall answer) (λ s a. refl) c.answer.ensures.log
          self.stands;
      named =
          named_call old new self.last (AcceptCall answer) (says_call old new (AcceptCall answer) c.answer.ensures.log) none self.named;
      timed = timed_unasked old new self.turn c.note_accept.new.self answer c.note_accept.ensures as_heard
          c.answer.ensures.log self.timed;
      asked = asked_accept old new answer c.answer.ensures.log c.requires.excused self.asked;
      done = done_turn self.most new self.turn c.note_accept.new.self (after_call self.turn (AcceptCall answer))
          c.note_accept.ensures refl refl
          (done_step self.most self.turn.timekeeper.wall self.turn.timekeeper.start old new (Answers (AcceptCall answer))
          c.answer.ensures.log tt self.done);
      ending = far_same old new self.peers.items (Answers (AcceptCall answer)) c.answer.ensures.log (λ s x. refl) self.ending;
      places = self.places;
    }
