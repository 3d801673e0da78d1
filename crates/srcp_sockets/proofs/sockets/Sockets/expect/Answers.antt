use Rattle.std.proofs.Common.{refl}
use Rattle.srcp_door.specs.Calls.{ExpectCall}
use Rattle.srcp_peers.specs.Steps.{Answers}
use Rattle.srcp_peers.specs.Turns.{after_call}
use Rattle.srcp_peers.proofs.CallsAreOfTheDoor.{says_call}
use Rattle.srcp_log.proofs.AcceptsAreAsked.{asked_step}
use Rattle.srcp_log.proofs.WorkIsDone.{done_step, done_turn}
use Rattle.srcp_log.proofs.NumbersDiffer.{named_call}
use Rattle.srcp_log.proofs.SocketsStayStanding.{stands_step}
use Rattle.srcp_log.proofs.TimesGoOn.{timed_expect}
use Rattle.srcp_log.proofs.EndsAreTold.{far_same}
use Rattle.srcp_sockets.proofs.sockets.Sockets.expect.Goals as goal

pub invariant_of-self : goal.invariant_of-self
invariant_of-self g c =
    let old = c.args.self.now.system.log.steps in
    let new = c.answer.new.self.log.steps in
    let call = ExpectCall c.args.due c.args.slack in
    record {
      stands = stands_step old new c.args.self.now.peers.items c.args.self.now.listening c.args.self.now.last (Answers call)
          (λ s a. refl) c.answer.ensures.log
          c.args.self.now.stands;
      named = named_call old new c.args.self.now.last call (says_call old new call c.answer.ensures.log) refl c.args.self.now.named;
      timed = timed_expect old new c.args.self.now.turn c.expect.new.self c.args.due c.args.slack c.expect.ensures c.answer.ensures.log
          c.args.self.now.timed;
      asked = asked_step old new (Answers call) c.answer.ensures.log refl c.args.self.now.asked;
      done = done_turn c.args.self.now.most new c.args.self.now.turn c.expect.new.self (after_call c.args.self.now.turn call)
          c.expect.ensures refl refl
          (done_step c.args.self.now.most c.args.self.now.turn.timekeeper.wall c.args.self.now.turn.timekeeper.start old new
          (Answers call) c.answer.ensures.log tt c.args.self.now.done);
      ending = far_same old new c.args.self.now.peers.items (Answers call) c.answer.ensures.log (λ s x. refl) c.args.self.now.ending;
      places = c.args.self.now.places;
    }

pub returns-clause-trace : goal.returns-clause-trace
returns-clause-trace g c = says_call c.args.self.now.system.log.steps c.answer.new.self.log.steps
    (ExpectCall c.args.due c.args.slack) c.answer.ensures.log

pub returns-clause-keeps : goal.returns-clause-keeps
returns-clause-keeps g c = (refl, refl, refl, refl, refl)
