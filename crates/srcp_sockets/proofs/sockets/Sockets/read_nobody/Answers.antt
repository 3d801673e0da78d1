use Rattle.std.proofs.Common.{ap, refl}
use Rattle.srcp_door.specs.Calls.{ReadCall}
use Rattle.srcp_peers.specs.Steps.{Answers}
use Rattle.srcp_peers.specs.Turns.{after_read}
use Rattle.srcp_door.specs.declared.pacing.LineBoundary.TheVariants.{At}
use Rattle.srcp_peers.proofs.CallsAreOfTheDoor.{says_call}
use Rattle.srcp_log.proofs.AcceptsAreAsked.{asked_step}
use Rattle.srcp_log.proofs.WorkIsDone.{done_step, done_turn}
use Rattle.srcp_log.proofs.NumbersDiffer.{named_call}
use Rattle.srcp_log.proofs.ReadsAnswerInTime.{missing_done}
use Rattle.srcp_log.proofs.SocketsLingerAndClose.{stands_missed, unwatched_is}
use Rattle.srcp_log.proofs.TimesGoOn.{read_time, timed_missed}
use Rattle.srcp_log.proofs.EndsAreTold.{far_same}
use Rattle.srcp_sockets.proofs.sockets.Sockets.read_nobody.Goals as goal

pub invariant_of-self : goal.invariant_of-self
invariant_of-self g c =
    let old = c.args.self.now.system.log.steps in
    let new = c.answer.new.self.log.steps in
    let answer = c.report_fault-answer.result in
    let call = ReadCall c.args.number answer c.args.buffer.now in
    let self = c.args.self.now in
    let wall = self.turn.timekeeper.wall in
    let start = self.turn.timekeeper.start in
    record {
      stands = stands_missed old new c.args.self.now.peers.items c.args.self.now.listening c.args.self.now.last c.args.number answer
          c.args.buffer.now c.report_fault-answer.ensures.reported c.requires c.answer.ensures.log c.args.self.now.stands;
      named = named_call old new c.args.self.now.last call (says_call old new call c.answer.ensures.log) refl c.args.self.now.named;
      timed = timed_missed old new c.args.self.now.turn c.report_fault-answer.new.self c.args.number answer c.args.buffer.now
          c.report_fault-answer.ensures.reported c.report_fault-answer.ensures.new c.report_fault-answer.ensures.ends c.answer.ensures.log
          c.args.self.now.timed;
      asked = asked_step old new (Answers call) c.answer.ensures.log refl c.args.self.now.asked;
      done = done_turn self.most new self.turn c.report_fault-answer.new.self (after_read self.turn At answer c.args.buffer.now)
          (c.report_fault-answer.ensures.new At c.args.buffer.now)
          (ap (λ m. m.wall) (read_time self.turn At answer c.args.buffer.now))
          (ap (λ m. m.start) (read_time self.turn At answer c.args.buffer.now))
          (done_step self.most wall start old new (Answers call) c.answer.ensures.log
          (λ early. missing_done wall start old self.turn c.args.number answer c.args.buffer.now self.timed
          (unwatched_is old self.peers.items self.listening self.last c.args.number c.requires self.stands)
          c.report_fault-answer.ensures.exact)
          self.done);
      ending = far_same old new c.args.self.now.peers.items (Answers call) c.answer.ensures.log (λ s x. refl) c.args.self.now.ending;
      places = c.args.self.now.places;
    }

pub returns-clause-trace : goal.returns-clause-trace
returns-clause-trace g c = says_call c.args.self.now.system.log.steps c.answer.new.self.log.steps
    (ReadCall c.args.number c.report_fault-answer.result c.args.buffer.now) c.answer.ensures.log

pub returns-clause-turn : goal.returns-clause-turn
returns-clause-turn g c line = c.report_fault-answer.ensures.new line c.args.buffer.now
