-- A peer lingers, and its socket is closed.
use Rattle.std.proofs.Common.{◌≡◌, ◌∙◌, ℕ, ◌<◌, ◌≤◌, ◌+◌, ◌-◌, Bool, true, false, not, List, [], ◌∷◌, ◌++◌, length}
use Rattle.std.proofs.Common.{refl, ap, sym, subst, arith, ⊎_elim}
use Rattle.std.proofs.Common.{get_or, set, ◌==◌, if◌then◌else◌, Option, Ok, Err, ◌⊎◌, true≢false}
use Rattle.std.specs.Prelude.{⊤, ◌≢◌, ◌&&◌, ◌||◌, nat_lt, slice_index_or, Result}
use Rattle.std.proofs.lemmas.Bool.{cases_eq, cases_lt}
use Rattle.std.proofs.lemmas.List.{get_or_default}
use Rattle.std.proofs.lemmas.List.Edits.{length-remove, get_or-remove_below, get_or-remove_above}
use Rattle.std.specs.List.{remove}
use Rattle.srcp_door.specs.declared.door.DoorFault.{DoorFault}
use Rattle.std.proofs.lemmas.Bool.Decides.{nat_tests}
use Rattle.srcp_peers.specs.declared.peer.Peer.{Peer}
use Rattle.srcp_peers.specs.declared.stay.Stay.TheVariants as stay
use Rattle.srcp_peers.specs.declared.turn.Listening.{Listening}
use Rattle.srcp_peers.specs.Steps.{Clocks, Closes, Step, Answers}
use Rattle.srcp_door.specs.Calls.{Call, CloseCall, ReadCall, WriteCall}
use Rattle.srcp_door.specs.declared.door.Got.{Got}
use Rattle.srcp_door.specs.declared.door.Got.TheVariants as got
use Rattle.srcp_peers.specs.Accounts.{Account, account, account_step, closed, left_by_core, may_close, may_fail, answered_step}
use Rattle.srcp_peers.specs.Peers.{Agrees, IsKept, is_closable}
use Rattle.srcp_peers.specs.AllPeers.{AreApart, IsAbsent}
use Rattle.srcp_log.specs.Doors.{Closed, Fresh, Hears, IsMissing, IsThere, Sound, Stands}
use Rattle.srcp_peers.proofs.PeersLingerByAccount.{gone_agrees, gone_unwatched, left_agrees, may_close_then}
use Rattle.srcp_peers.proofs.PeersStayKept.{account_more, alien, kept_after, own, picks, skips, spares_after}
use Rattle.srcp_peers.proofs.OnePeerChanges.{clocked_all, kept_spared}
use Rattle.srcp_log.proofs.SocketsStayStanding.{find, nobody, stands_one, stands_answered}

-- ---- a step that every account goes on with

-- what a step makes of each account
pub record Goes (Holds : ℕ → Account → Type 0) (step : Step) (l : Listening) : Type 0 where
  pub sound : (socket : ℕ) (a : Account) → Holds socket a → Sound a → Sound (account_step socket a step)
  pub fresh : (socket : ℕ) (a : Account) → Fresh a → Fresh (account_step socket a step)
  pub closed : (socket : ℕ) (a : Account) → Closed a → Closed (account_step socket a step)
  pub heard : (a : Account) → Hears a l → Hears (account_step 0 a step) l

pub stands_goes : (Holds : ℕ → Account → Type 0) (old new : List Step) (peers : List Peer) (l : Listening) (last : ℕ) (step : Step)
    → Goes Holds step l → ((socket : ℕ) → Holds socket (account socket old))
    → ((k : ℕ) (d : Peer) → k < length peers → IsKept new (slice_index_or peers k d)) → new ≡ old ++ step ∷ []
    → Stands old peers l last → Stands new peers l last
stands_goes Holds old new peers l last step goes holds kept tells stands = record {
  kept = kept;
  apart = stands.apart;
  within = stands.within;
  sound = λ socket. subst Sound (sym (more socket)) (goes.sound socket (account socket old) (holds socket) (stands.sound socket));
  fresh = λ socket above. subst Fresh (sym (more socket)) (goes.fresh socket (account socket old) (stands.fresh socket above));
  closed = λ socket absent. subst Closed (sym (more socket)) (goes.closed socket (account socket old) (stands.closed socket absent));
  heard = subst (λ (a : Account). Hears a l) (sym (more 0)) (goes.heard (account 0 old) stands.heard);
}
  where
    more : (socket : ℕ) → account socket new ≡ account_step socket (account socket old) step
    more socket = ap (account socket) tells ∙ account_more socket old step

-- a clock was read
clock_goes : (answer : Option ℕ) (l : Listening) → Goes (λ socket a. ⊤) (Clocks answer) l
clock_goes answer l = record {
  sound = λ socket a holds h. record {
    took = h.took;
    handed = h.handed;
    honest = h.honest;
    rested = h.rested;
    rightly = h.rightly;
    served = h.served;
  };
  fresh = λ socket a h. record { written = h.written; took = h.took; gave = h.gave; handed = h.handed };
  closed = λ socket a h. record { watched = h.watched; kept = h.kept };
  heard = λ a h. record {
    fresh = record { written = h.fresh.written; took = h.fresh.took; gave = h.fresh.gave; handed = h.fresh.handed };
    lost = h.lost;
    cut = h.cut;
    ended = h.ended;
    failed = h.failed;
    heard = h.heard;
  };
}

pub stands_clocked : (old new : List Step) (peers : List Peer) (l : Listening) (last : ℕ) (answer : Option ℕ)
    → new ≡ old ++ Clocks answer ∷ [] → Stands old peers l last → Stands new peers l last
stands_clocked old new peers l last answer tells stands =
    stands_goes (λ socket a. ⊤) old new peers l last (Clocks answer) (clock_goes answer l)
    (λ socket. tt) (clocked_all old new peers answer tells stands.kept) tells stands

-- ---- one that the core closes

left_goes : (number : ℕ) (answer : Result Unit DoorFault) (l : Listening) → Goes (λ socket a. ⊤) (Answers (CloseCall number answer)) l
left_goes number answer l = record {
  sound = λ socket a holds h. sound (number == socket) a h;
  fresh = λ socket a h. fresh (number == socket) a h;
  closed = λ socket a h. shut (number == socket) a h;
  heard = λ a h. heard (number == 0) a h;
}
  where
    sound : (b : Bool) (a : Account) → Sound a → Sound (if b then left_by_core a else a)
    sound true a h = record {
      took = h.took;
      handed = h.handed;
      honest = h.honest;
      rested = h.rested;
      rightly = h.rightly;
      served = h.served;
    }
    sound false a h = h

    fresh : (b : Bool) (a : Account) → Fresh a → Fresh (if b then left_by_core a else a)
    fresh true a h = record { written = h.written; took = h.took; gave = h.gave; handed = h.handed }
    fresh false a h = h

    shut : (b : Bool) (a : Account) → Closed a → Closed (if b then left_by_core a else a)
    shut true a h = record { watched = refl; kept = h.kept }
    shut false a h = h

    heard : (b : Bool) (a : Account) → Hears a l → Hears (if b then left_by_core a else a) l
    heard true a h = record {
      fresh = record { written = h.fresh.written; took = h.fresh.took; gave = h.fresh.gave; handed = h.fresh.handed };
      lost = h.lost;
      cut = h.cut;
      ended = h.ended;
      failed = h.failed;
      heard = h.heard;
    }
    heard false a h = h

-- nobody was there to be closed
pub stands_missing : (old new : List Step) (peers : List Peer) (l : Listening) (last number : ℕ) (answer : Result Unit DoorFault)
    → IsMissing number peers → new ≡ old ++ Answers (CloseCall number answer) ∷ [] → Stands old peers l last → Stands new peers l last
stands_missing old new peers l last number answer missing tells stands =
    stands_goes (λ socket a. ⊤) old new peers l last (Answers (CloseCall number answer)) (left_goes number answer l) (λ socket. tt)
    (λ k d lt. kept_after old new (Answers (CloseCall number answer)) (slice_index_or peers k d) (slice_index_or peers k d) tells refl
    (λ a h. by k d lt a (number == (slice_index_or peers k d).number) (λ e. grind (arith, nat_tests)) h) (stands.kept k d lt)) tells stands
  where
    by : (k : ℕ) (d : Peer) → k < length peers → (a : Account) (b : Bool) → (b ≡ true → (slice_index_or peers k d).number ≡ number)
        → Agrees a (slice_index_or peers k d) → Agrees (if b then left_by_core a else a) (slice_index_or peers k d)
    by k d lt a true same h = gone_agrees a (slice_index_or peers k d) (missing k d lt (same refl)) h
    by k d lt a false same h = h

-- ---- a call that failed, since nobody was there

abbrev judged : (Account → Bool) → Bool → Account → Account
judged may b a = if b then record a { honest = a.honest && may a } else a

judged_sound : (may : Account → Bool) (b : Bool) (a : Account) → (b ≡ true → may a ≡ true) → Sound a → Sound (judged may b a)
judged_sound may true a right h = record {
  took = h.took;
  handed = h.handed;
  honest = ap (λ x. x && may a) h.honest ∙ right refl;
  rested = h.rested;
  rightly = h.rightly;
  served = h.served;
}
judged_sound may false a right h = h

judged_fresh : (may : Account → Bool) (b : Bool) (a : Account) → Fresh a → Fresh (judged may b a)
judged_fresh may true a h = record { written = h.written; took = h.took; gave = h.gave; handed = h.handed }
judged_fresh may false a h = h

judged_closed : (may : Account → Bool) (b : Bool) (a : Account) → Closed a → Closed (judged may b a)
judged_closed may true a h = record { watched = h.watched; kept = h.kept }
judged_closed may false a h = h

judged_hears : (may : Account → Bool) (b : Bool) (a : Account) (l : Listening) → Hears a l → Hears (judged may b a) l
judged_hears may true a l h = record {
  fresh = record { written = h.fresh.written; took = h.fresh.took; gave = h.fresh.gave; handed = h.fresh.handed };
  lost = h.lost;
  cut = h.cut;
  ended = h.ended;
  failed = h.failed;
  heard = h.heard;
}
judged_hears may false a l h = h

judged_agrees : (may : Account → Bool) (b : Bool) (a : Account) (p : Peer) → (b ≡ true → may a ≡ true) → Agrees a p
    → Agrees (judged may b a) p
judged_agrees may true a p right h = record {
  reads = h.reads;
  writes = h.writes;
  stays = h.stays;
  rightly = h.rightly;
  unread = h.unread;
  served = h.served;
  cut = h.cut;
  line = h.line;
  honest = ap (λ x. x && may a) h.honest ∙ right refl;
  rested = h.rested;
}
judged_agrees may false a p right h = h

same_number : (n m : ℕ) → (n == m) ≡ true → n ≡ m
same_number n m e = grind (arith, nat_tests)

-- nobody with that number is there by its account
pub unwatched_is : (log : List Step) (peers : List Peer) (l : Listening) (last number : ℕ)
    → IsMissing number peers → Stands log peers l last → (account number log).watched ≡ false
unwatched_is log peers l last number missing stands = ⊎_elim
    (λ (there : IsThere number peers).
    let p : Peer = slice_index_or peers there.index nobody in
    let h : Agrees (account p.number log) p = stands.kept there.index nobody there.within in
    subst (λ (n : ℕ). (account n log).watched ≡ false) (there.same nobody)
    (gone_unwatched (account p.number log) p.outgoing p.stay (missing there.index nobody there.within (there.same nobody)) h.stays))
    (λ (absent : IsAbsent number peers). (stands.closed number absent).watched)
    (find number peers)

pub stands_judged : (old new : List Step) (peers : List Peer) (l : Listening) (last number : ℕ) (call : Call)
    (may : Account → Bool) → ((socket : ℕ) (a : Account) → account_step socket a (Answers call) ≡ judged may (number == socket) a)
    → ((a : Account) → a.watched ≡ false → may a ≡ true) → IsMissing number peers → new ≡ old ++ Answers call ∷ []
    → Stands old peers l last → Stands new peers l last
stands_judged old new peers l last number call may is right missing tells stands =
    stands_goes (λ socket a. (number == socket) ≡ true → may a ≡ true) old new peers l last (Answers call) goes
    (λ socket e. right (account socket old) (subst (λ (n : ℕ). (account n old).watched ≡ false) (same_number number socket e)
    (unwatched_is old peers l last number missing stands)))
    (λ k d lt. kept_after old new (Answers call) (slice_index_or peers k d) (slice_index_or peers k d) tells refl
    (λ a h. one k d lt a h) (stands.kept k d lt)) tells stands
  where
    goes : Goes (λ socket a. (number == socket) ≡ true → may a ≡ true) (Answers call) l
    goes = record {
      sound = λ socket a holds h. subst Sound (sym (is socket a)) (judged_sound may (number == socket) a holds h);
      fresh = λ socket a h. subst Fresh (sym (is socket a)) (judged_fresh may (number == socket) a h);
      closed = λ socket a h. subst Closed (sym (is socket a)) (judged_closed may (number == socket) a h);
      heard = λ a h. subst (λ (x : Account). Hears x l) (sym (is 0 a)) (judged_hears may (number == 0) a l h);
    }

    one : (k : ℕ) (d : Peer) → k < length peers → (a : Account) → Agrees a (slice_index_or peers k d)
        → Agrees (account_step (slice_index_or peers k d).number a (Answers call)) (slice_index_or peers k d)
    one k d lt a h =
        let p : Peer = slice_index_or peers k d in
        subst (λ (x : Account). Agrees x p) (sym (is p.number a))
        (judged_agrees may (number == p.number) a p
        (λ e. right a (gone_unwatched a p.outgoing p.stay (missing k d lt (sym (same_number number p.number e))) h.stays)) h)

-- a read of a peer that is not there
pub stands_missed : (old new : List Step) (peers : List Peer) (l : Listening) (last number : ℕ) (answer : Result Got DoorFault)
    (buffer : List ℕ) → (answer ≡ Ok got.Nothing ⊎ answer ≡ Err DoorFault.Read) → IsMissing number peers
    → new ≡ old ++ Answers (ReadCall number answer buffer) ∷ [] → Stands old peers l last → Stands new peers l last
stands_missed old new peers l last number answer buffer reported missing tells stands = ⊎_elim
    (λ e. stands_answered old new peers l last (ReadCall number answer buffer)
    (λ socket a. ap (λ x. answered_step socket a (ReadCall number x buffer)) e) tells stands)
    (λ e. stands_judged old new peers l last number (ReadCall number answer buffer) may_fail
    (λ socket a. ap (λ x. answered_step socket a (ReadCall number x buffer)) e)
    (λ a w. ap (λ x. not x || (a.received.failed || a.sent.lost)) w) missing tells stands)
    reported

-- a write to a peer that is not there
pub stands_unwritten : (old new : List Step) (peers : List Peer) (l : Listening) (last number : ℕ) (bytes : List ℕ)
    (fault : DoorFault) → IsMissing number peers → new ≡ old ++ Answers (WriteCall number bytes (Err fault)) ∷ []
    → Stands old peers l last → Stands new peers l last
stands_unwritten old new peers l last number bytes fault missing tells stands =
    stands_judged old new peers l last number (WriteCall number bytes (Err fault)) (λ a. not a.watched) (λ socket a. refl)
    (λ a w. ap not w) missing tells stands

-- one that was there was closed by the core
pub stands_left : (old new : List Step) (peers : List Peer) (i : ℕ) (p q : Peer) (l : Listening) (last number since : ℕ)
    (answer : Result Unit DoorFault) → i < length peers → get_or peers i p ≡ p → p.number ≡ number → p.stay ≡ stay.Here
    → q ≡ record p { stay = stay.Draining since } → (account number old).lingering.clock ≡ since
    → new ≡ old ++ Answers (CloseCall number answer) ∷ [] → Stands old peers l last → Stands new (set peers i q) l last
stands_left old new peers i p q l last number since answer within at same here is clock tells stands =
    let there : (get_or peers i p).number ≡ number = ap (λ (x : Peer). x.number) at ∙ same in
    stands_one old new peers i p q l last within kept (ap (λ (x : Peer). x.number) is ∙ same ∙ sym there)
    (λ other differ. spares_after other old new (Answers (CloseCall number answer)) tells
    (λ a. skips (number == other) _ a (alien number other (λ e. differ (e ∙ sym there))))) stands
  where
    before : IsKept old p
    before = subst (IsKept old) at (stands.kept i p within)

    kept : IsKept new q
    kept =
        let a : Account = account p.number old in
        let after : Agrees (left_by_core a) (record p { stay = stay.Draining since }) =
        left_agrees a p since here (ap (λ n. (account n old).lingering.clock) same ∙ clock) before in
        let own_is : account number new ≡ left_by_core (account number old) =
        ap (account number) tells ∙ account_more number old (Answers (CloseCall number answer))
        ∙ picks (number == number) (left_by_core (account number old)) (account number old) (own number) in
        subst (λ (x : Peer). Agrees (account x.number new) x) (sym is)
        (subst (λ (x : Account). Agrees x (record p { stay = stay.Draining since }))
        (sym (ap (λ n. account n new) same ∙ own_is ∙ ap (λ n. left_by_core (account n old)) (sym same))) after)

-- ---- one that is closed

close_sound : (b : Bool) (a : Account) → (b ≡ true → may_close a ≡ true) → Sound a → Sound (if b then closed a else a)
close_sound true a may h = record {
  took = h.took;
  handed = h.handed;
  honest = h.honest;
  rested = h.rested;
  rightly = ap (λ r. r && may_close a) h.rightly ∙ may refl;
  served = h.served;
}
close_sound false a may h = h

close_fresh : (b : Bool) (a : Account) → Fresh a → Fresh (if b then closed a else a)
close_fresh true a h = record { written = h.written; took = h.took; gave = h.gave; handed = h.handed }
close_fresh false a h = h

close_hears : (b : Bool) (a : Account) (l : Listening) → Hears a l → Hears (if b then closed a else a) l
close_hears true a l h = record {
  fresh = record { written = h.fresh.written; took = h.fresh.took; gave = h.fresh.gave; handed = h.fresh.handed };
  lost = h.lost;
  cut = h.cut;
  ended = h.ended;
  failed = h.failed;
  heard = h.heard;
}
close_hears false a l h = h

close_closed : (b : Bool) (a : Account) → (b ≡ true → a.watched ≡ false) → (b ≡ false → Closed a) → Closed (if b then closed a else a)
close_closed true a gone h = record { watched = gone refl; kept = refl }
close_closed false a gone h = h refl

-- the peers without the one of that number
pub record Leaves (number : ℕ) (before after : List Peer) : Type 0 where
  pub from : (k : ℕ) (d : Peer) → k < length after → (j : ℕ) × (j < length before) × (slice_index_or after k d ≡ slice_index_or before j d)
  pub absent : IsAbsent number after
  pub apart : AreApart after
  pub others : (other : ℕ) → other ≢ number → IsAbsent other after → IsAbsent other before

-- it may be closed
abbrev pub IsClosable : Account → Type 0
IsClosable a = (may_close a ≡ true) × (a.watched ≡ false)

pub stands_closed : (old new : List Step) (before after : List Peer) (l : Listening) (last number : ℕ)
    → new ≡ old ++ Closes number ∷ [] → Leaves number before after → IsClosable (account number old) → Stands old before l last
    → Stands new after l last
stands_closed old new before after l last number tells leaves closable stands = record {
  kept = λ k d lt.
      let f = leaves.from k d lt in
      let is_kept : IsKept old (slice_index_or after k d) = subst (IsKept old) (sym f.2) (stands.kept f.0 d f.1) in
      kept_spared old new (slice_index_or after k d)
      (spares_after (slice_index_or after k d).number old new (Closes number) tells
      (λ a. skips (number == (slice_index_or after k d).number) _ a
      (alien number (slice_index_or after k d).number (leaves.absent k d lt)))) is_kept;
  apart = leaves.apart;
  within = λ k d lt.
      let f = leaves.from k d lt in
      subst (λ (p : Peer). (0 < p.number) × (p.number ≤ last)) (sym f.2) (stands.within f.0 d f.1);
  sound = λ socket. subst Sound (sym (more socket))
      (close_sound (number == socket) (account socket old) (λ e. (right socket e).0) (stands.sound socket));
  fresh = λ socket above. subst Fresh (sym (more socket))
      (close_fresh (number == socket) (account socket old) (stands.fresh socket above));
  closed = λ socket absent. subst Closed (sym (more socket))
      (close_closed (number == socket) (account socket old) (λ e. (right socket e).1) (λ alien_is.
      stands.closed socket (leaves.others socket (differ_by socket alien_is) absent)));
  heard = subst (λ (a : Account). Hears a l) (sym (more 0)) (close_hears (number == 0) (account 0 old) l stands.heard);
}
  where
    more : (socket : ℕ) → account socket new ≡ (if number == socket then closed (account socket old) else account socket old)
    more socket = ap (account socket) tells ∙ account_more socket old (Closes number)

    differ_by : (socket : ℕ) → (number == socket) ≡ false → socket ≢ number
    differ_by socket f e = true≢false (sym (own number) ∙ ap (λ n. number == n) (sym e) ∙ f)

    right : (socket : ℕ) → (number == socket) ≡ true → IsClosable (account socket old)
    right socket e = subst (λ (n : ℕ). IsClosable (account n old)) (grind (arith, nat_tests)) closable

-- one peer was taken out
pub leaves_one : (number : ℕ) (peers : List Peer) (i : ℕ) → i < length peers → ((d : Peer) → (slice_index_or peers i d).number ≡ number)
    → AreApart peers → Leaves number peers (remove peers i)
leaves_one number peers i within same apart = record {
  from = λ k d lt. (received k, came_in k lt, came_is k d lt);
  absent = λ k d lt e. apart (received k) i d (came_in k lt) within (came_not k)
      (ap (λ (p : Peer). p.number) (sym (came_is k d lt)) ∙ e ∙ sym (same d));
  apart = λ j k d lj lk differ e. apart (received j) (received k) d (came_in j lj) (came_in k lk) (came_differ j k differ)
      (ap (λ (p : Peer). p.number) (sym (came_is j d lj)) ∙ e ∙ ap (λ (p : Peer). p.number) (came_is k d lk));
  others = λ other differ absent k d lt e. ⊎_elim
      (λ (low : k < i). absent k d (omega (arith, low, within, length-remove peers i within))
      (ap (λ (p : Peer). p.number) (get_or-remove_below peers i d k low within) ∙ e))
      (λ (high : i ≤ k). ⊎_elim
      (λ (here : k ≡ i). differ (sym e ∙ ap (λ n. (slice_index_or peers n d).number) here ∙ same d))
      (λ (not_here : k ≡ i → ⊥).
      let back : (k - 1) + 1 ≡ k = omega (arith, high, not_here) in
      absent (k - 1) d (omega (arith, high, not_here, lt, length-remove peers i within))
      (ap (λ (p : Peer). p.number) (get_or-remove_above peers i d (k - 1) (omega (arith, high, not_here)) within)
      ∙ ap (λ n. (slice_index_or peers n d).number) back ∙ e))
      (cases_eq k i))
      (cases_lt k i);
}
  where
    received : ℕ → ℕ
    received k = if nat_lt k i then k else k + 1

    came_low : (k : ℕ) → k < i → received k ≡ k
    came_low k low = grind (arith, nat_tests)

    came_high : (k : ℕ) → i ≤ k → received k ≡ k + 1
    came_high k high = grind (arith, nat_tests)

    came_in : (k : ℕ) → k < length (remove peers i) → received k < length peers
    came_in k lt = ⊎_elim
        (λ (low : k < i). omega (arith, lt, came_low k low, length-remove peers i within))
        (λ (high : i ≤ k). omega (arith, lt, came_high k high, length-remove peers i within))
        (cases_lt k i)

    came_is : (k : ℕ) (d : Peer) → k < length (remove peers i) → slice_index_or (remove peers i) k d ≡ slice_index_or peers (received k) d
    came_is k d lt = ⊎_elim
        (λ (low : k < i). get_or-remove_below peers i d k low within ∙ ap (λ n. slice_index_or peers n d) (sym (came_low k low)))
        (λ (high : i ≤ k). get_or-remove_above peers i d k high within ∙ ap (λ n. slice_index_or peers n d) (sym (came_high k high)))
        (cases_lt k i)

    came_not : (k : ℕ) → received k ≢ i
    came_not k e = ⊎_elim
        (λ (low : k < i). omega (arith, low, e, came_low k low))
        (λ (high : i ≤ k). omega (arith, high, e, came_high k high))
        (cases_lt k i)

    came_differ : (j k : ℕ) → j ≢ k → received j ≢ received k
    came_differ j k differ e = ⊎_elim
        (λ (jl : j < i). ⊎_elim
        (λ (kl : k < i). differ (omega (arith, e, came_low j jl, came_low k kl)))
        (λ (kh : i ≤ k). omega (arith, e, jl, kh, came_low j jl, came_high k kh))
        (cases_lt k i))
        (λ (jh : i ≤ j). ⊎_elim
        (λ (kl : k < i). omega (arith, e, kl, jh, came_high j jh, came_low k kl))
        (λ (kh : i ≤ k). differ (omega (arith, e, came_high j jh, came_high k kh)))
        (cases_lt k i))
        (cases_lt j i)

-- the peer at an index was closed, if it may be at that time of the monotonic clock
pub stands_closed_at : (old new : List Step) (peers : List Peer) (i : ℕ) (p : Peer) (l : Listening) (last clock : ℕ)
    → i < length peers → get_or peers i p ≡ p → is_closable clock (get_or peers i p) ≡ true
    → (account p.number old).lingering.clock ≡ clock → new ≡ old ++ Closes p.number ∷ []
    → Stands old peers l last → Stands new (remove peers i) l last
stands_closed_at old new peers i p l last clock within at closable shown tells stands =
    stands_closed old new peers (remove peers i) l last p.number tells (leaves_one p.number peers i within same stands.apart)
    (may_close_then (account p.number old) p clock shown (subst (λ (x : Peer). is_closable clock x ≡ true) at closable)
    (subst (IsKept old) at (stands.kept i p within))) stands
  where
    same : (d : Peer) → (slice_index_or peers i d).number ≡ p.number
    same d = ap (λ (x : Peer). x.number) (get_or_default peers i d p within ∙ at)
