use Rattle.std.proofs.Common.{◌++◌, ◌∷◌, [], ◌≡◌, ◌∙◌, ℕ, length, ap, refl, rules, sym, subst, true≢false}
use Rattle.std.specs.Prelude.{◌==◌, ◌≢◌, cond, slice_index_or}
use Rattle.srcp_door.specs.Pacing.{share_after}
use Rattle.srcp_peers.specs.Reports.{IsAnswered}
use Rattle.srcp_peers.specs.Turns.{after_read, got_bytes}
use Rattle.srcp_peers.specs.declared.peer.Peer.{Peer}
use Rattle.srcp_door.specs.Calls.{ReadCall}
use Rattle.srcp_peers.specs.Peers.{IsKept, is_here}
use Rattle.srcp_peers.specs.Steps.{Answers, SaysOne}
use Rattle.srcp_peers.proofs.CallsAreOfTheDoor.{says_call}
use Rattle.srcp_log.proofs.AcceptsAreAsked.{asked_step}
use Rattle.srcp_log.proofs.WorkIsDone.{done_step, done_turn}
use Rattle.srcp_log.proofs.ReadsAnswerInTime.{read_done}
use Rattle.srcp_log.proofs.NumbersDiffer.{named_call}
use Rattle.srcp_log.proofs.SocketsStayStanding.{stands_one}
use Rattle.srcp_log.proofs.TimesGoOn.{line_kept, read_time, timed_read}
use Rattle.std.proofs.Common.{Bool, set, true}
use Rattle.srcp_peers.specs.declared.stay.Stay.TheVariants as stay
use Rattle.srcp_log.specs.Endings.{ending_of, is_as_far}
use Rattle.srcp_log.specs.Work.{AreFrom, goes_behind}
use Rattle.srcp_log.proofs.EndsAreTold.{far_goes, set_one, slackens_step}
use Rattle.srcp_log.proofs.NumbersNamePeers.{the_changed, the_one}
use Rattle.srcp_log.proofs.PeersAreFrom.{from_same, from_set_of}
use Rattle.srcp_log.proofs.ServicesAreCounted.{after_bytes, made_none, made_of, none_in, nothing_handed, other_in}
use Rattle.srcp_log.specs.Services.{AfterRead}
use Rattle.srcp_peers.specs.declared.turn.Turn.{Turn}
use Rattle.srcp_door.specs.declared.pacing.LineBoundary.TheVariants.{At}
use Rattle.srcp_sockets.proofs.sockets.Sockets.read.Goals as goal

pub invariant_of-self : goal.invariant_of-self
invariant_of-self g c =
    let old = c.args.self.now.system.log.steps in
    let new = c.read-got.new.system.log.steps in
    let x = c.index_mut.result.now in
    let is = c.index_mut.ensures.value in
    let e = ap (λ (p : Peer). p.number) is in
    let within = c.in-Some.ensures.found.0 in
    let answer = c.read-got.result in
    let buffer = c.read-got.new.buffer in
    let turn = c.args.self.now.turn in
    let here : x.stay ≡ stay.Here = ap (λ (p : Peer). p.stay) is ∙ (c.in-Some.ensures.found.1 x).1 in
    record {
      stands = stands_one old new c.args.self.now.peers.items c.in-Some.index
          x c.read-got.new.self c.args.self.now.listening c.args.self.now.last within c.read-got.ensures.kept
          (c.read-got.ensures.number ∙ e) (λ other differ. c.read-got.ensures.others other (λ same. differ (same ∙ e)))
          c.args.self.now.stands;
      named = named_call old new c.args.self.now.last (ReadCall x.number answer buffer)
          (says_call old new (ReadCall x.number answer buffer) c.read-got.ensures.log) refl c.args.self.now.named;
      timed = timed_read old new c.args.self.now.turn c.read-got.new.turn x.share.line x.number answer buffer
          c.read-got.ensures.turn
          (λ wall start. line_kept old wall start x (subst (IsKept old) (sym is) (c.args.self.now.stands.kept c.in-Some.index x within)))
          (record {
            prompt = λ late. absurd (true≢false (sym late ∙ c.requires));
            light = c.read-got.ensures.fits;
            single = c.read-got.ensures.ends;
          }) c.read-got.ensures.log c.args.self.now.timed;
      asked = asked_step old new (Answers (ReadCall x.number answer buffer)) c.read-got.ensures.log refl c.args.self.now.asked;
      done = done_turn c.args.self.now.most new turn c.read-got.new.turn (after_read turn x.share.line answer buffer)
          c.read-got.ensures.turn
          (ap (λ m. m.wall) (read_time turn x.share.line answer buffer)) (ap (λ m. m.start) (read_time turn x.share.line answer buffer))
          (done_step c.args.self.now.most turn.timekeeper.wall turn.timekeeper.start old new (Answers (ReadCall x.number answer buffer))
          c.read-got.ensures.log
          (λ early. read_done turn.timekeeper.wall turn.timekeeper.start old turn _ x answer
          buffer (length c.args.buffer.now) c.args.self.now.timed
          (subst (IsKept old) (sym is) (c.args.self.now.stands.kept c.in-Some.index x within))
          here (subst (λ (p : Peer). is_as_far (ending_of p.number old) p.ending ≡ true) (sym is)
          (c.args.self.now.ending c.in-Some.index x within (c.in-Some.ensures.found.1 x).1))
          c.read-got.auto.buffer c.read-got.ensures.answered)
          c.args.self.now.done);
      ending = far_goes old new c.args.self.now.peers.items (set c.args.self.now.peers.items c.in-Some.index c.read-got.new.self)
          (slackens_step old new (Answers (ReadCall x.number answer buffer)) c.read-got.ensures.log (λ s e. refl))
          (set_one c.args.self.now.peers.items c.in-Some.index x c.read-got.new.self within
          (λ here. (
            ap (λ (p : Peer). p.stay) (sym is) ∙ sym (ap (λ (p : Peer). p.stay) c.read-got.ensures.same) ∙ here,
            c.read-got.ensures.number ∙ e,
            ap (λ (p : Peer). p.ending) c.read-got.ensures.same ∙ ap (λ (p : Peer). p.ending) is,
          )))
          c.args.self.now.ending;
      places = search rules;
    }

pub returns-clause-trace : goal.returns-clause-trace
returns-clause-trace g c =
    let x = c.index_mut.result.now in
    let e = ap (λ (p : Peer). p.number) c.index_mut.ensures.value ∙ (c.in-Some.ensures.found.1 x).0 in
    subst (λ (n : ℕ). SaysOne c.args.self.now.system.log.steps (ReadCall n c.read-got.result c.read-got.new.buffer)
    c.read-got.new.system.log.steps) e
    (says_call c.args.self.now.system.log.steps c.read-got.new.system.log.steps
    (ReadCall x.number c.read-got.result c.read-got.new.buffer) c.read-got.ensures.log)

pub returns-clause-answered : goal.returns-clause-answered
returns-clause-answered g c k d lt there =
    let self = c.args.self.now in
    let x = c.index_mut.result.now in
    let found = c.in-Some.ensures.found in
    let got = c.read-got in
    let is = the_one self.peers.items c.in-Some.index k x d c.index_mut.ensures.value found.0 self.stands.apart lt
    (there.0 ∙ sym (found.1 d).0) in
    let seen = the_one self.peers.items c.in-Some.index k c.index.result.now d c.index.ensures found.0 self.stands.apart lt
    (there.0 ∙ sym (found.1 d).0) in
    let now = the_changed self.peers.items c.in-Some.index k got.new.self d found.0 self.stands.apart lt
    (there.0 ∙ sym (found.1 d).0) in
    let space = length c.args.buffer.now in
    let bytes = got_bytes got.result got.new.buffer in
    let behind = c.goes_behind-waits.ensures ∙ ap (goes_behind self.turn self.peers.items) seen in (
      subst (λ (w : Bool). IsAnswered self.turn w (slice_index_or self.peers.items k d) space got.result bytes) behind
          (subst (λ (p : Peer). IsAnswered self.turn c.goes_behind-waits.result p space got.result bytes)
          is got.ensures.answered),
      ap (λ (p : Peer). p.share) now ∙ got.ensures.share ∙ ap (λ (p : Peer). share_after self.turn.pace p.share bytes) is,
    )

pub returns-clause-log : goal.returns-clause-log
returns-clause-log g c =
    let x = c.index_mut.result.now in
    let e = ap (λ (p : Peer). p.number) c.index_mut.ensures.value ∙ (c.in-Some.ensures.found.1 x).0 in
    subst (λ (n : ℕ). c.read-got.new.system.log.steps
    ≡ c.args.self.now.system.log.steps ++ Answers (ReadCall n c.read-got.result c.read-got.new.buffer) ∷ [])
    e c.read-got.ensures.log

pub returns-clause-shares : goal.returns-clause-shares
returns-clause-shares g c =
    let self = c.args.self.now in
    let x = c.index_mut.result.now in
    let got = c.read-got in
    let number : x.number ≡ c.args.number = ap (λ (p : Peer). p.number) c.index_mut.ensures.value ∙ (c.in-Some.ensures.found.1 x).0 in
    let bytes = got_bytes got.result got.new.buffer in
    let After = AfterRead c.args.number bytes c.after_read-self.result in
    from_set_of After self.peers.items c.in-Some.index x got.new.self c.in-Some.ensures.found.0 c.index_mut.ensures.value
    got.ensures.number self.stands.apart
    (λ p differ. ((λ other. (refl, refl)), other_in c.args.number bytes c.after_read-self.result p (λ e. differ (e ∙ sym number)))) (
      (λ differ. absurd (differ (got.ensures.number ∙ number))),
      after_bytes c.args.number self.services c.saturating_add-service.result c.after_read-self.result got.result got.new.buffer x
          got.new.self.served number (search (rules, c.after_read-self.ensures)) got.ensures.served,
    )

pub returns-in_default-clause-shares : goal.returns-in_default-clause-shares
returns-in_default-clause-shares g c =
    let self = c.args.self.now in
    let bytes = got_bytes c.read_nobody.result c.args.buffer.now in
    let After = AfterRead c.args.number bytes c.read_nobody.new.self.services in
    subst (AreFrom After self.peers.items) (sym (ap (λ peers. peers.items) c.read_nobody.ensures.keeps.4))
    (from_same After (λ p. (
      (λ differ. (refl, refl)),
      none_in c.args.number bytes c.read_nobody.new.self.services p (nothing_handed c.read_nobody.result c.args.buffer.now
          c.read_nobody.ensures.nothing),
    )) self.peers.items)

pub returns-in_default-clause-missing : goal.returns-in_default-clause-missing
returns-in_default-clause-missing g c missing =
    nothing_handed c.read_nobody.result c.args.buffer.now c.read_nobody.ensures.nothing

pub returns-clause-missing : goal.returns-clause-missing
returns-clause-missing g c missing =
    let found = c.in-Some.ensures.found in
    let x = c.index_mut.result.now in
    absurd (true≢false (sym (ap is_here (found.1 x).1) ∙ missing c.in-Some.index x found.0 (found.1 x).0))

pub returns-clause-services : goal.returns-clause-services
returns-clause-services g c = made_of c.args.number c.args.self.now.services c.saturating_add-service.result c.after_read-self.result
    c.read-got.result c.read-got.new.buffer (search (rules, c.after_read-self.ensures)) (search rules) c.read-got.ensures.count

pub returns-in_default-clause-services : goal.returns-in_default-clause-services
returns-in_default-clause-services g c = c.read_nobody.ensures.keeps.0
    ∙ sym (made_none c.args.number c.args.self.now.services c.read_nobody.result c.args.buffer.now
    (nothing_handed c.read_nobody.result c.args.buffer.now c.read_nobody.ensures.nothing))

pub returns-clause-clocks : goal.returns-clause-clocks
returns-clause-clocks g c =
    let turn = c.args.self.now.turn in
    let line = c.index_mut.result.now.share.line in
    ap (λ (t : Turn). t.timekeeper) c.read-got.ensures.turn ∙ read_time turn line c.read-got.result c.read-got.new.buffer

pub returns-in_default-clause-clocks : goal.returns-in_default-clause-clocks
returns-in_default-clause-clocks g c =
    ap (λ (t : Turn). t.timekeeper) (c.read_nobody.ensures.turn At)
    ∙ read_time c.args.self.now.turn At c.read_nobody.result c.args.buffer.now
