-- A peer that is unread by its account is read in the next visit.
use Rattle.std.proofs.Common.{◌≡◌, ◌∙◌, ℕ, ◌+◌, Bool, true, false, not, List, ◌++◌, length, ap, sym, arith, length-append}
use Rattle.std.proofs.Common.{true≢false}
use Rattle.std.specs.Prelude.{◌&&◌, nat_lt}
use Rattle.std.proofs.lemmas.Bool.Decides.{nat_tests}
use Rattle.srcp_peers.specs.declared.peer.Peer.{Peer}
use Rattle.srcp_peers.specs.declared.readiness.Input.{Input}
use Rattle.srcp_peers.specs.declared.readiness.Input.TheVariants as input
use Rattle.srcp_peers.specs.declared.stay.Stay.{Stay}
use Rattle.srcp_peers.specs.declared.stay.Stay.TheVariants as stay
use Rattle.srcp_peers.specs.Accounts.{Account, Lingering, Received, is_wanted, noted}
use Rattle.srcp_peers.specs.Peers.{Agrees, ComesAs, ReadsAs, StaysAs, is_wanting, may_have, woken_input}
use Rattle.srcp_peers.proofs.PeersRestByAccount.{and_left, and_right}

pub both : (a b : Bool) → a ≡ true → b ≡ true → (a && b) ≡ true
both a b e f = ap (λ x. x && b) e ∙ f

fewer : (all prefix back : ℕ) → all ≡ prefix + back → nat_lt all 256 ≡ true → nat_lt back 256 ≡ true
fewer all prefix back is e = grind (arith, nat_tests)

-- some of what is held is handed out
pub wants_less : (state : Input) (all prefix back : List ℕ) → all ≡ prefix ++ back → is_wanting state all ≡ true
    → is_wanting state back ≡ true
wants_less state all prefix back is e = both (may_have state) (nat_lt (length back) 256)
    (and_left (may_have state) (nat_lt (length all) 256) e)
    (fewer (length all) (length prefix) (length back) (ap length is ∙ length-append prefix back)
    (and_right (may_have state) (nat_lt (length all) 256) e))

-- its socket was found ready
pub wants_woken : (state : Input) (incoming : List ℕ) (readable closed : Bool) → is_wanting state incoming ≡ true
    → is_wanting (woken_input state readable closed) incoming ≡ true
wants_woken input.Ready incoming readable true e = e
wants_woken input.Ready incoming readable false e = e
wants_woken input.Emptying incoming readable closed e = e
wants_woken input.Quiet incoming readable closed e = absurd (true≢false (sym e))
wants_woken input.Ended incoming readable closed e = absurd (true≢false (sym e))
wants_woken input.Failed incoming readable closed e = absurd (true≢false (sym e))

-- a wait is over
shorter : (prefix all n : ℕ) → all ≡ prefix + n → nat_lt all (prefix + 256) ≡ nat_lt n 256
shorter prefix all n is = grind (arith, nat_tests)

held_less : (received : Received) (incoming : List ℕ) → received.gave ≡ received.handed ++ incoming → is_wanted received ≡ true
    → nat_lt (length incoming) 256 ≡ true
held_less received incoming is e =
    sym (shorter (length received.handed) (length received.gave) (length incoming)
    (ap length is ∙ length-append received.handed incoming))
    ∙ and_right (not received.quiet && (not received.ended && not received.failed))
    (nat_lt (length received.gave) (length received.handed + 256)) e

-- a read might find something
might : (received : Received) → is_wanted received ≡ true → (not received.quiet && (not received.ended && not received.failed)) ≡ true
might received e = and_left (not received.quiet && (not received.ended && not received.failed))
    (nat_lt (length received.gave) (length received.handed + 256)) e

not_true : (b : Bool) → b ≡ true → not b ≡ true → false ≡ true
not_true b e f = sym (ap not e) ∙ f

wanted_here : (received : Received) (incoming : List ℕ) (state : Input) → ReadsAs received incoming state → is_wanted received ≡ true
    → is_wanting state incoming ≡ true
wanted_here received incoming input.Ready h e = held_less received incoming h.0 e
wanted_here received incoming input.Emptying h e = held_less received incoming h.0 e
wanted_here received incoming input.Quiet h e = absurd (true≢false (sym (not_true received.quiet h.1.3
    (and_left (not received.quiet) (not received.ended && not received.failed) (might received e)))))
wanted_here received incoming input.Ended h e = absurd (true≢false (sym (not_true received.ended h.1.1
    (and_left (not received.ended) (not received.failed)
    (and_right (not received.quiet) (not received.ended && not received.failed) (might received e))))))
wanted_here received incoming input.Failed h e = absurd (true≢false (sym (not_true received.failed h.1.0
    (and_right (not received.ended) (not received.failed)
    (and_right (not received.quiet) (not received.ended && not received.failed) (might received e))))))

wanted_as : (watched : Bool) (lingering : Lingering) (received : Received) (incoming outgoing : List ℕ) (state : Input) (here : Stay)
    → ComesAs received incoming state here → StaysAs watched lingering outgoing here → (watched && is_wanted received) ≡ true
    → is_wanting state incoming ≡ true
wanted_as watched lingering received incoming outgoing state stay.Here h s e =
    wanted_here received incoming state h (and_right watched (is_wanted received) e)
wanted_as watched lingering received incoming outgoing state (stay.Draining since) h s e =
    absurd (true≢false (sym (and_left watched (is_wanted received) e) ∙ s.0))
wanted_as watched lingering received incoming outgoing state (stay.Shut since) h s e =
    absurd (true≢false (sym (and_left watched (is_wanted received) e) ∙ s.0))

pub noted_agrees : (a : Account) (p : Peer) → Agrees a p → Agrees (noted a) p
noted_agrees a p h =
    assumption (wanted_as a.watched a.lingering a.received p.incoming p.outgoing p.input p.stay h.reads h.stays)
