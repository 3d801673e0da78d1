use Rattle.std.proofs.Common.{◌≡◌, ℕ, List, Err, None, Ok, Option, Some, true, false, ap, refl}
use Rattle.std.specs.Prelude.{Result}
use Rattle.srcp_door.specs.declared.door.DoorFault.{DoorFault}
use Rattle.srcp_door.specs.declared.door.DoorFault.TheVariants.{Now}
use Rattle.srcp_peers.specs.declared.turn.Turn.{Turn}
use Rattle.srcp_peers.specs.Turns.{begun, moment_at, reported_at}
use Rattle.srcp_log.specs.Duties.{AreDone, is_shown}
use Rattle.srcp_log.specs.Work.{moment_of}
use Rattle.srcp_door.specs.Calls.{NowCall}
use Rattle.srcp_peers.specs.Steps.{Answers, Clocks, Step}
use Rattle.srcp_peers.proofs.CallsAreOfTheDoor.{says_after, says_call, says_step}
use Rattle.srcp_log.proofs.AcceptsAreAsked.{asked_step}
use Rattle.srcp_log.proofs.WorkIsDone.{done_step, done_turn, moment_done, tells_two}
use Rattle.srcp_log.proofs.NumbersDiffer.{named_call, named_silent}
use Rattle.srcp_log.proofs.SocketsLingerAndClose.{stands_clocked}
use Rattle.srcp_log.proofs.NoMomentWhileUnread.{read_clocked, stands_now}
use Rattle.srcp_log.proofs.TimesGoOn.{timed_moment}
use Rattle.srcp_log.proofs.EndsAreTold.{far_told}
use Rattle.srcp_sockets.proofs.sockets.Sockets.now.Goals as goal

-- the moment that follows of what the clock showed
moment_is : (turn : Turn) (answer : Result ℕ DoorFault) (shown : Option ℕ) → (shown ≡ None → answer ≡ Err Now)
    → ((time : ℕ) → shown ≡ Some time → answer ≡ Ok (moment_at turn time)) → answer ≡ moment_of turn shown
moment_is turn answer None none some = none refl
moment_is turn answer (Some time) none some = some time refl

moment_shown : (turn : Turn) (answer : Result ℕ DoorFault) (shown : Option ℕ) → answer ≡ moment_of turn shown
    → is_shown (Some shown) answer ≡ true
moment_shown turn answer None e = ap (is_shown (Some None)) e
moment_shown turn answer (Some time) e = ap (is_shown (Some (Some time))) e

-- the turn went on, by the moment
done_moment : (limit : Option ℕ) (log : List Step) (before after : Turn) (shown : Option ℕ) (answer : Result ℕ DoorFault)
    → (shown ≡ None → (answer ≡ Err Now) × (after ≡ begun before false))
    → ((time : ℕ) → shown ≡ Some time → (answer ≡ Ok (moment_at before time)) × (after ≡ reported_at before time (moment_at before time)))
    → AreDone limit before.timekeeper.wall before.timekeeper.start log → AreDone limit after.timekeeper.wall after.timekeeper.start log
done_moment limit log before after None answer none some done =
    done_turn limit log before after (begun before false) (none refl).1 refl refl done
done_moment limit log before after (Some time) answer none some done =
    done_turn limit log before after (reported_at before time (moment_at before time)) (some time refl).1 refl refl done

pub invariant_of-self : goal.invariant_of-self
invariant_of-self g c =
    let old = c.args.self.now.system.log.steps in
    let mid = c.clock-shown.new.self.log.steps in
    let new = c.answer.new.self.log.steps in
    let answer = c.report_moment-answer.result in
    let turn = c.args.self.now.turn in
    record {
      stands = stands_now mid new c.args.self.now.peers.items c.args.self.now.listening c.args.self.now.last answer
          (read_clocked old mid c.clock-shown.result c.clock-shown.ensures.log c.requires.read) c.answer.ensures.log
          (stands_clocked old mid c.args.self.now.peers.items c.args.self.now.listening c.args.self.now.last c.clock-shown.result
          c.clock-shown.ensures.log c.args.self.now.stands);
      named = named_call mid new c.args.self.now.last (NowCall answer) (says_call mid new (NowCall answer) c.answer.ensures.log) refl
          (named_silent old mid c.args.self.now.last (says_step old mid (Clocks c.clock-shown.result) c.clock-shown.ensures.log refl)
          c.args.self.now.named);
      timed = timed_moment old mid new c.args.self.now.turn c.report_moment-answer.new.self c.clock-shown.result answer
          c.report_moment-answer.ensures.none c.report_moment-answer.ensures.some c.clock-shown.ensures.log
          c.answer.ensures.log c.args.self.now.timed;
      asked = asked_step mid new (Answers (NowCall answer)) c.answer.ensures.log refl
          (asked_step old mid (Clocks c.clock-shown.result) c.clock-shown.ensures.log refl c.args.self.now.asked);
      done = done_moment c.args.self.now.most new turn c.report_moment-answer.new.self c.clock-shown.result answer
          c.report_moment-answer.ensures.none c.report_moment-answer.ensures.some
          (done_step c.args.self.now.most turn.timekeeper.wall turn.timekeeper.start mid new (Answers (NowCall answer)) c.answer.ensures.log
          (moment_done c.args.self.now.most turn old mid c.clock-shown.result answer c.clock-shown.ensures.log
          (moment_shown turn answer c.clock-shown.result
          (moment_is turn answer c.clock-shown.result (λ e. (c.report_moment-answer.ensures.none e).0)
          (λ time e. (c.report_moment-answer.ensures.some time e).0)))
          c.args.self.now.timed c.requires.may)
          (done_step c.args.self.now.most turn.timekeeper.wall turn.timekeeper.start old mid (Clocks c.clock-shown.result)
          c.clock-shown.ensures.log tt c.args.self.now.done));
      ending = far_told old mid new c.args.self.now.peers.items c.clock-shown.result answer c.clock-shown.ensures.log c.answer.ensures.log
          c.requires.visited;
      places = c.args.self.now.places;
    }

pub returns-clause-trace : goal.returns-clause-trace
returns-clause-trace g c =
    let old = c.args.self.now.system.log.steps in
    let mid = c.clock-shown.new.self.log.steps in
    let new = c.answer.new.self.log.steps in
    let answer = c.report_moment-answer.result in
    says_after old mid new (NowCall answer) (says_step old mid (Clocks c.clock-shown.result) c.clock-shown.ensures.log refl)
    (says_call mid new (NowCall answer) c.answer.ensures.log)

pub returns-clause-clock : goal.returns-clause-clock
returns-clause-clock g c =
    let old = c.args.self.now.system.log.steps in
    let mid = c.clock-shown.new.self.log.steps in
    let new = c.answer.new.self.log.steps in
    let answer = c.report_moment-answer.result in
    let shown = c.clock-shown.result in (
      shown,
      moment_is c.args.self.now.turn answer shown (λ e. (c.report_moment-answer.ensures.none e).0)
          (λ time e. (c.report_moment-answer.ensures.some time e).0),
      tells_two old mid new (Clocks shown) (Answers (NowCall answer)) c.clock-shown.ensures.log c.answer.ensures.log,
    )

same_clocks : (before after : Turn) (shown : Option ℕ) (answer : Result ℕ DoorFault)
    → (shown ≡ None → (answer ≡ Err Now) × (after ≡ begun before false))
    → ((time : ℕ) → shown ≡ Some time → (answer ≡ Ok (moment_at before time)) × (after ≡ reported_at before time (moment_at before time)))
    → (after.timekeeper.wall ≡ before.timekeeper.wall) × (after.timekeeper.start ≡ before.timekeeper.start)
same_clocks before after None answer none some =
    let is = (none refl).1 in
    (ap (λ (t : Turn). t.timekeeper.wall) is, ap (λ (t : Turn). t.timekeeper.start) is)
same_clocks before after (Some time) answer none some =
    let is = (some time refl).1 in
    (ap (λ (t : Turn). t.timekeeper.wall) is, ap (λ (t : Turn). t.timekeeper.start) is)

pub returns-clause-clocks : goal.returns-clause-clocks
returns-clause-clocks g c = same_clocks c.args.self.now.turn c.report_moment-answer.new.self c.clock-shown.result
    c.report_moment-answer.result c.report_moment-answer.ensures.none c.report_moment-answer.ensures.some
