use Rattle.std.proofs.Common.{◌≡◌, ◌∙◌, ◌+◌, ◌≤◌, ℕ, Bool, List, [], ◌∷◌, ◌++◌}
use Rattle.std.proofs.Common.{Option, ap, arith, inl, inr, not, refl, rules, subst, sym, true, false}
use Rattle.std.proofs.Common.{true≢false, None, Ok}
use Rattle.std.specs.Prelude.{Result, cond, count_by}
use Rattle.std.proofs.lemmas.List.Sums.{sum_by-append}
use Rattle.srcp_door.specs.Calls.{AcceptCall}
use Rattle.srcp_door.specs.declared.door.DoorFault.{DoorFault}
use Rattle.srcp_peers.specs.declared.peer.Peer.{Peer}
use Rattle.srcp_peers.specs.declared.turn.Listening.{Listening}
use Rattle.srcp_peers.specs.Peers.{KeepsShare, Makes}
use Rattle.srcp_peers.specs.Steps.{Accepts, Answers, Step}
use Rattle.srcp_peers.proofs.PeersRestByAccount.{and_left, and_right}
use Rattle.srcp_log.specs.Doors.{is_quiet}
use Rattle.srcp_log.specs.Work.{IsAccepting, is_close, is_crowded, may_accept}
use Rattle.srcp_log.proofs.AnswersAreBounded.{answered_after}
use Rattle.std.specs.Prelude.{All, slice_index_or}
use Rattle.srcp_log.specs.Work.{AreFrom, IsFrom}
use Rattle.srcp_log.proofs.PeersAreFrom.{share_then, since}
use Rattle.srcp_peers.specs.Turns.{after_call}
use Rattle.srcp_peers.specs.Times.{accept_answer, failed_accept}
use Rattle.srcp_peers.specs.Steps.{failure_of}
use Rattle.srcp_peers.specs.declared.turn.Turn.{Turn}
use Rattle.srcp_peers.specs.declared.system.IoFailure.TheVariants.{WouldBlock, Interrupted, Fatal}
use Rattle.srcp_peers.specs.declared.system.IoFailure.{IoFailure}
use Rattle.std.specs.declared.io.ErrorKind.{ErrorKind}
use Rattle.std.proofs.Common.{Err, Some}
use Rattle.srcp_log.specs.Services.{made_after}
use Rattle.srcp_sockets.proofs.sockets.Sockets.accept.Goals as goal

pub returns-clause-answers : goal.returns-clause-answers
returns-clause-answers g c =
    let came = c.accept_next.ensures.exact in
    let step = Accepts c.in-Some.number came.0 in
    let same = (c.may_accept.ensures.same c.if-not-may_accept.false).2 in (
      step ∷ [],
      came.3 ∙ ap (λ (log : List Step). log ++ step ∷ Answers (AcceptCall c.accept_next.result) ∷ []) same,
      refl,
      omega arith,
    )

pub returns-then-not-may_accept-clause-answers : goal.returns-then-not-may_accept-clause-answers
returns-then-not-may_accept-clause-answers g c = answered_after c.args.self.now.system.log.steps
    c.may_accept.new.self.system.log.steps c.note_nobody.new.self.system.log.steps (AcceptCall c.note_nobody.result)
    c.may_accept.ensures.calls c.may_accept.ensures.few c.note_nobody.ensures.log

pub returns-in_default-clause-answers : goal.returns-in_default-clause-answers
returns-in_default-clause-answers g c = answered_after c.args.self.now.system.log.steps
    c.may_accept.new.self.system.log.steps c.note_nobody-in_default.new.self.system.log.steps
    (AcceptCall c.note_nobody-in_default.result) c.may_accept.ensures.calls c.may_accept.ensures.few c.note_nobody-in_default.ensures.log

pub note_nobody-requires : goal.note_nobody-requires
note_nobody-requires g c = record { nobody = inl refl; excused = c.may_accept.ensures.excused (search rules) }

-- there is a place for one that may be accepted
has_place : (heard : Listening) (peers : List Peer) → may_accept heard peers ≡ true
    → is_crowded peers ≡ true → ⊥
has_place heard peers may crowded =
    true≢false (sym (and_right (not (is_quiet heard)) (not (is_crowded peers)) may) ∙ ap not crowded)

-- and one may be pending
is_loud : (heard : Listening) (peers : List Peer) → may_accept heard peers ≡ true → is_quiet heard ≡ false
is_loud heard peers may = by (is_quiet heard) (and_left (not (is_quiet heard)) (not (is_crowded peers)) may)
  where
    by : (b : Bool) → not b ≡ true → b ≡ false
    by true e = absurd (true≢false (sym e))
    by false e = refl

loud_after : (heard before : Listening) (peers : List Peer) → heard ≡ before → may_accept before peers ≡ true
    → is_quiet heard ≡ false
loud_after heard before peers same may = ap is_quiet same ∙ is_loud before peers may

pub accept_next-requires-clause-loud : goal.accept_next-requires-clause-loud
accept_next-requires-clause-loud g c =
    let self = c.args.self.now in
    loud_after c.may_accept.new.self.listening self.listening self.peers.items
    (c.may_accept.ensures.same c.if-not-may_accept.false).0 (sym c.may_accept.ensures.is ∙ c.if-not-may_accept.false)

-- an accept behind what changed nothing
accepting_since : (number one : ℕ) (answer : Result (Option ℕ) DoorFault) (first before after : Listening)
    (start old new : List Step) → number ≡ one → before ≡ first → old ≡ start
    → IsAccepting number answer before after old new → IsAccepting one answer first after start new
accepting_since number one answer first before after start old new n b o h =
    subst (λ (k : ℕ). IsAccepting k answer first after start new) n
    (subst (λ (l : Listening). IsAccepting number answer l after start new) b
    (subst (λ (t : List Step). IsAccepting number answer before after t new) o h))

pub returns-clause-asks : goal.returns-clause-asks
returns-clause-asks g c may =
    let self = c.args.self.now in
    let mid = c.may_accept.new.self in
    let same = c.may_accept.ensures.same c.if-not-may_accept.false in
    let next : c.in-Some.number ≡ mid.last + 1 = search rules in
    inr (accepting_since c.in-Some.number (self.last + 1) c.accept_next.result self.listening mid.listening
    c.accept_next.new.self.listening self.system.log.steps mid.system.log.steps
    c.accept_next.new.self.system.log.steps (next ∙ ap (λ n. n + 1) same.1) same.0 same.2 c.accept_next.ensures.exact)

-- as many as before an answer
makes_still : (is_such : Step → Bool) (count : ℕ) (first old new : List Step) (step : Step)
    → Makes is_such count first old → new ≡ old ++ step ∷ [] → is_such step ≡ false → Makes is_such count first new
makes_still is_such count first old new step made tells such =
    let none : count_by is_such (step ∷ []) ≡ 0 = ap (λ (b : Bool). 0 + cond {A = ℕ} b 1 0) such in
    ap (count_by is_such) tells ∙ sum_by-append (λ x. cond (is_such x) 1 0) old (step ∷ []) ∙ omega (arith, made, none)

pub returns-then-not-may_accept-clause-makes : goal.returns-then-not-may_accept-clause-makes
returns-then-not-may_accept-clause-makes g c quiet crowded =
    let made = c.may_accept.ensures.makes quiet crowded in
    let mid = c.may_accept.new.self.system.log.steps in
    let new = c.note_nobody.new.self.system.log.steps in
    record {
      none = λ e. c.note_nobody.ensures.listening ∙ made.none e;
      one = λ index e. (
        c.note_nobody.ensures.listening ∙ (made.one index e).0,
        makes_still is_close 1 c.args.self.now.system.log.steps mid new (Answers (AcceptCall c.note_nobody.result))
            (made.one index e).1 c.note_nobody.ensures.log refl,
      );
    }

pub returns-then-not-may_accept-clause-quiet : goal.returns-then-not-may_accept-clause-quiet
returns-then-not-may_accept-clause-quiet g c quiet =
    let same = c.may_accept.ensures.quiet quiet in
    let new = c.note_nobody.new.self.system.log.steps in (
      c.note_nobody.ensures.listening ∙ same.0,
      subst (λ (t : List Step). new ≡ t ++ Answers (AcceptCall (Ok None)) ∷ []) same.1
          (subst (λ (a : Result (Option ℕ) DoorFault). new ≡ c.may_accept.new.self.system.log.steps ++ Answers (AcceptCall a) ∷ [])
          c.note_nobody.ensures.same c.note_nobody.ensures.log),
    )

pub returns-clause-makes : goal.returns-clause-makes
returns-clause-makes g c quiet crowded =
    let self = c.args.self.now in
    absurd (has_place self.listening self.peers.items
    (sym c.may_accept.ensures.is ∙ c.if-not-may_accept.false) crowded)

pub returns-clause-quiet : goal.returns-clause-quiet
returns-clause-quiet g c quiet =
    let self = c.args.self.now in
    absurd (true≢false (sym quiet ∙ is_loud self.listening self.peers.items
    (sym c.may_accept.ensures.is ∙ c.if-not-may_accept.false)))

pub returns-in_default-clause-makes : goal.returns-in_default-clause-makes
returns-in_default-clause-makes g c quiet crowded =
    let self = c.args.self.now in
    absurd (has_place self.listening self.peers.items
    (sym c.may_accept.ensures.is ∙ c.if-not-may_accept.false) crowded)

pub returns-in_default-clause-quiet : goal.returns-in_default-clause-quiet
returns-in_default-clause-quiet g c quiet =
    let self = c.args.self.now in
    absurd (true≢false (sym quiet ∙ is_loud self.listening self.peers.items
    (sym c.may_accept.ensures.is ∙ c.if-not-may_accept.false)))

-- nobody came behind that
nobody_new : (last : ℕ) (old mid new : List Peer) → new ≡ mid → AreFrom KeepsShare old mid
    → All (λ peer. peer.number ≤ last → IsFrom KeepsShare old peer) new
nobody_new last old mid new same from = subst (All (λ peer. peer.number ≤ last → IsFrom KeepsShare old peer)) (sym same)
    (λ k d lt below. from k d lt)

pub returns-then-not-may_accept-clause-shares : goal.returns-then-not-may_accept-clause-shares
returns-then-not-may_accept-clause-shares g c = nobody_new c.args.self.now.last c.args.self.now.peers.items
    c.may_accept.new.self.peers.items c.note_nobody.new.self.peers.items (ap (λ peers. peers.items) c.note_nobody.ensures.keeps.2)
    c.may_accept.ensures.shares

pub returns-in_default-clause-shares : goal.returns-in_default-clause-shares
returns-in_default-clause-shares g c = nobody_new c.args.self.now.last c.args.self.now.peers.items
    c.may_accept.new.self.peers.items c.note_nobody-in_default.new.self.peers.items
    (ap (λ peers. peers.items) c.note_nobody-in_default.ensures.keeps.2)
    c.may_accept.ensures.shares

pub returns-clause-shares : goal.returns-clause-shares
returns-clause-shares g c k d lt below = since KeepsShare KeepsShare KeepsShare share_then c.args.self.now.peers.items
    c.may_accept.new.self.peers.items (slice_index_or c.accept_next.new.self.peers.items k d) c.may_accept.ensures.shares
    (c.accept_next.ensures.shares k d lt (omega (arith, below, c.may_accept.ensures.last)))

-- the number that is answered is the one that the system was asked with
number_of : (number n : ℕ) (said : Result Unit ErrorKind) → Ok (Some n) ≡ accept_answer number said → n ≡ number
number_of number n (Ok done) e = cc
number_of number n (Err fault) e = by (failure_of fault) e
  where
    by : (failure : IoFailure) → Ok (Some n) ≡ failed_accept failure → n ≡ number
    by WouldBlock f = cc
    by Interrupted f = cc
    by Fatal f = cc

pub returns-clause-next : goal.returns-clause-next
returns-clause-next g c n is =
    let said = c.accept_next.ensures.exact in
    let same = (c.may_accept.ensures.same c.if-not-may_accept.false).1 in
    let next : c.in-Some.number ≡ c.may_accept.new.self.last + 1 = search rules in
    number_of c.in-Some.number n said.0 (sym is ∙ said.1) ∙ next ∙ ap (λ l. l + 1) same

pub returns-then-not-may_accept-clause-next : goal.returns-then-not-may_accept-clause-next
returns-then-not-may_accept-clause-next g c n is = let none = c.note_nobody.ensures.same in cc

pub returns-in_default-clause-next : goal.returns-in_default-clause-next
returns-in_default-clause-next g c n is = let none = c.note_nobody-in_default.ensures.same in cc

pub returns-clause-turn : goal.returns-clause-turn
returns-clause-turn g c = c.accept_next.ensures.turn
    ∙ ap (λ (t : Turn). after_call t (AcceptCall c.accept_next.result)) c.may_accept.ensures.keeps.2

pub returns-then-not-may_accept-clause-turn : goal.returns-then-not-may_accept-clause-turn
returns-then-not-may_accept-clause-turn g c = c.note_nobody.ensures.turn
    ∙ ap (λ (t : Turn). after_call t (AcceptCall c.note_nobody.result)) c.may_accept.ensures.keeps.2

pub returns-in_default-clause-turn : goal.returns-in_default-clause-turn
returns-in_default-clause-turn g c = c.note_nobody-in_default.ensures.turn
    ∙ ap (λ (t : Turn). after_call t (AcceptCall c.note_nobody-in_default.result)) c.may_accept.ensures.keeps.2

pub returns-clause-services : goal.returns-clause-services
returns-clause-services g c = c.accept_next.ensures.services
    ∙ ap (made_after (AcceptCall c.accept_next.result)) c.may_accept.ensures.keeps.0

pub returns-then-not-may_accept-clause-services : goal.returns-then-not-may_accept-clause-services
returns-then-not-may_accept-clause-services g c = c.note_nobody.ensures.keeps.0 ∙ c.may_accept.ensures.keeps.0
    ∙ sym (ap (λ a. made_after (AcceptCall a) c.args.self.now.services) c.note_nobody.ensures.same)

pub returns-in_default-clause-services : goal.returns-in_default-clause-services
returns-in_default-clause-services g c = c.note_nobody-in_default.ensures.keeps.0 ∙ c.may_accept.ensures.keeps.0
    ∙ sym (ap (λ a. made_after (AcceptCall a) c.args.self.now.services) c.note_nobody-in_default.ensures.same)

pub returns-then-not-may_accept-clause-came : goal.returns-then-not-may_accept-clause-came
returns-then-not-may_accept-clause-came g c n is = let none = c.note_nobody.ensures.same in absurd (cc)

pub returns-in_default-clause-came : goal.returns-in_default-clause-came
returns-in_default-clause-came g c n is = let none = c.note_nobody-in_default.ensures.same in absurd (cc)
