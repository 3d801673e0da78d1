use Rattle.srcp_door.specs.Calls.{ReadCall}
use Rattle.srcp_door.proofs.CallsAreFair.{fair_read}
use Rattle.srcp_log.proofs.AnswersAreBounded.{answered_once}
use Rattle.std.proofs.Common.{length}
use Rattle.srcp_log.proofs.FirstReadsFillThePace.{read_filled}
use Rattle.srcp_log.proofs.SharesAreWhole.{late_filled, shares_read}
use Rattle.srcp_log.proofs.PeersAreFrom.{from_same}
use Rattle.srcp_log.specs.Work.{AreFrom}
use Rattle.std.proofs.Common.{◌≡◌, ◌∙◌, [], ap, inl, refl, rules, subst, sym}
use Rattle.srcp_log.proofs.ServicesAreCounted.{made_none, none_in, nothing_handed}
use Rattle.srcp_log.proofs.TurnsAreTaken.{late_in_turn, read_in_turn}
use Rattle.srcp_log.specs.Services.{AfterRead}
use Rattle.srcp_peers.specs.Turns.{got_bytes}
use Rattle.srcp_sockets.proofs.door.SocketDoorDoor.read.Goals as goal

pub invariant_of-self-2-clause-fair : goal.invariant_of-self-2-clause-fair
invariant_of-self-2-clause-fair g c =
    let answer = c.read-answer.result in
    answered_once c.args.self.now.sockets.system.log.steps c.read-answer.new.self.system.log.steps
    (ReadCall c.args.peer answer c.read-answer.new.buffer) c.read-answer.ensures.log
    (fair_read c.args.peer answer (length c.args.buf.now) c.read-answer.new.buffer c.read-answer.ensures.count c.read-answer.auto.buffer)
    c.args.self.now.fair

pub invariant_of-self-clause-fair : goal.invariant_of-self-clause-fair
invariant_of-self-clause-fair g c =
    let answer = c.hold_back.result in
    answered_once c.args.self.now.sockets.system.log.steps c.hold_back.new.self.system.log.steps
    (ReadCall c.args.peer answer c.args.buf.now) c.hold_back.ensures.log (rw c.hold_back.ensures.nothing tt) c.args.self.now.fair

pub returns-then-is_err-clause-answered : goal.returns-then-is_err-clause-answered
returns-then-is_err-clause-answered g c early = rw c.failed.ensures.sockets c.read-answer.ensures.answered

pub invariant_of-self-2-clause-shares : goal.invariant_of-self-2-clause-shares
invariant_of-self-2-clause-shares g c =
    let was = c.args.self.now.sockets in
    let new = c.read-answer.new.self in
    let now = c.read-answer.ensures in
    let answer = c.read-answer.result in
    let buffer = c.read-answer.new.buffer in
    shares_read was.system.log.steps new.system.log.steps was.turn new.turn was.services new.services was.peers.items
    new.peers.items c.args.peer answer buffer now.log now.clocks now.services now.shares
    (read_filled was.system.log.steps was.turn was.peers.items new.peers.items was.listening was.last c.args.peer
    (length c.args.buf.now) answer buffer was.stands was.timed c.args.self.now.shares.whole
    c.read-answer.auto.buffer now.answered)
    (read_in_turn was.system.log.steps was.turn was.services was.peers.items new.peers.items was.listening was.last c.args.peer
    (length c.args.buf.now) answer buffer was.stands was.timed c.args.self.now.shares.counted now.missing now.answered)
    c.args.self.now.shares

pub invariant_of-self-clause-shares : goal.invariant_of-self-clause-shares
invariant_of-self-clause-shares g c =
    let was = c.args.self.now.sockets in
    let new = c.hold_back.new.self in
    let now = c.hold_back.ensures in
    let answer = c.hold_back.result in
    let nothing : got_bytes answer c.args.buf.now ≡ [] = nothing_handed answer c.args.buf.now (inl now.nothing) in
    let After = AfterRead c.args.peer (got_bytes answer c.args.buf.now) new.services in
    shares_read was.system.log.steps new.system.log.steps was.turn new.turn was.services new.services was.peers.items
    new.peers.items c.args.peer answer c.args.buf.now now.log (ap (λ turn. turn.timekeeper) now.keeps.5)
    (now.keeps.0 ∙ sym (made_none c.args.peer was.services answer c.args.buf.now nothing))
    (subst (AreFrom After was.peers.items) (sym (ap (λ peers. peers.items) now.keeps.4))
    (from_same After (λ p. ((λ differ. (refl, refl)), none_in c.args.peer (got_bytes answer c.args.buf.now) new.services p nothing))
    was.peers.items))
    (late_filled was.system.log.steps was.turn c.args.peer answer c.args.buf.now was.timed (search rules))
    (late_in_turn was.system.log.steps was.turn.timekeeper.wall was.turn.timekeeper.start c.args.peer answer c.args.buf.now nothing)
    c.args.self.now.shares
