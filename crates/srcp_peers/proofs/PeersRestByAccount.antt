-- A peer that rests is at rest by its account.
use Rattle.std.proofs.Common.{◌≡◌, ◌∙◌, ℕ, ◌+◌, Bool, true, false, not, List, ◌++◌, length, refl, ap, sym}
use Rattle.std.proofs.Common.{arith, length-append, ◌==◌, true≢false}
use Rattle.std.specs.Prelude.{cond, ◌&&◌, ◌||◌, nat_lt}
use Rattle.std.proofs.lemmas.Bool.Decides.{nat_tests}
use Rattle.srcp_peers.specs.declared.readiness.Input.{Input}
use Rattle.srcp_peers.specs.declared.readiness.Input.TheVariants as input
use Rattle.srcp_peers.specs.declared.readiness.Output.{Output}
use Rattle.srcp_peers.specs.declared.readiness.Output.TheVariants as output
use Rattle.srcp_peers.specs.declared.peer.Peer.{Peer}
use Rattle.srcp_peers.specs.Accounts.{Account, Sent, Received, is_at_rest, is_full, is_held, is_owed, has_nothing}
use Rattle.srcp_peers.specs.declared.stay.Stay.{Stay}
use Rattle.srcp_peers.specs.declared.stay.Stay.TheVariants as stay
use Rattle.srcp_peers.specs.Peers.{Agrees, ComesAs, FindsAs, ReadsAs, WritesAs, has_rest, is_here, is_resting, rests_reading, rests_writing}

-- more is longer if it is not nothing
longer : (prefix all n : ℕ) → all ≡ prefix + n → nat_lt prefix all ≡ not (n == 0)
longer prefix all n is = grind (arith, nat_tests)

as_long : (prefix all n most : ℕ) → all ≡ prefix + n → (prefix + most == all) ≡ (n == most)
as_long prefix all n most is = grind (arith, nat_tests)

pub owed_is : (sent : Sent) (outgoing : List ℕ) → sent.written ≡ sent.took ++ outgoing → is_owed sent ≡ not (length outgoing == 0)
owed_is sent outgoing is = longer (length sent.took) (length sent.written) (length outgoing)
    (ap length is ∙ length-append sent.took outgoing)

brimful_is : (sent : Sent) (outgoing : List ℕ) → sent.written ≡ sent.took ++ outgoing → is_full sent ≡ (length outgoing == 40960)
brimful_is sent outgoing is = as_long (length sent.took) (length sent.written) (length outgoing) 40960
    (ap length is ∙ length-append sent.took outgoing)

pub held_is : (received : Received) (incoming : List ℕ) → received.gave ≡ received.handed ++ incoming → is_held received ≡ not
    (length incoming == 0)
held_is received incoming is = longer (length received.handed) (length received.gave) (length incoming)
    (ap length is ∙ length-append received.handed incoming)

pub and_left : (a b : Bool) → (a && b) ≡ true → a ≡ true
and_left true b h = refl
and_left false b h = absurd (true≢false (sym h))

pub and_right : (a b : Bool) → (a && b) ≡ true → b ≡ true
and_right true b h = h
and_right false b h = absurd (true≢false (sym h))

-- ---- what is to be handed out or reported of it

silent_so : (held none rest is : Bool) → held ≡ not none → rest ≡ is → (not held && rest) ≡ (none && is)
silent_so held true rest is h e = rw (h, e) refl
silent_so held false rest is h e = rw h refl

none_comes : (quiet ended failed owed : Bool) → quiet ≡ false → ended ≡ false
    → ((quiet && (not ended && not failed)) || (ended && owed)) ≡ false
none_comes quiet ended failed owed q e = rw (q, e) refl

all_came : (quiet ended failed owed : Bool) → quiet ≡ true → ended ≡ false → failed ≡ false
    → ((quiet && (not ended && not failed)) || (ended && owed)) ≡ true
all_came quiet ended failed owed q e f = rw (q, e, f) refl

is_owing : (quiet ended failed owed : Bool) → ended ≡ true → ((quiet && (not ended && not failed)) || (ended && owed)) ≡ owed
is_owing true ended failed owed e = rw e refl
is_owing false ended failed owed e = rw e refl

has_failed : (quiet ended failed owed : Bool) → ended ≡ false → failed ≡ true
    → ((quiet && (not ended && not failed)) || (ended && owed)) ≡ false
has_failed true ended failed owed e f = rw (e, f) refl
has_failed false ended failed owed e f = rw e refl

silent_is : (received : Received) (incoming outgoing : List ℕ) (state : Input) (owed : Bool) → owed ≡ not (length outgoing == 0)
    → ReadsAs received incoming state → has_nothing received owed ≡ ((length incoming == 0) && rests_reading outgoing state)
silent_is received incoming outgoing state owed o h = silent_so (is_held received) (length incoming == 0)
    ((received.quiet && (not received.ended && not received.failed)) || (received.ended && owed)) (rests_reading outgoing state)
    (held_is received incoming h.0) (by state h.1)
  where
    by : (s : Input) → FindsAs received s
        → ((received.quiet && (not received.ended && not received.failed)) || (received.ended && owed)) ≡ rests_reading outgoing s
    by input.Ready f = none_comes received.quiet received.ended received.failed owed f.3 f.1
    by input.Emptying f = none_comes received.quiet received.ended received.failed owed f.3 f.1
    by input.Quiet f = all_came received.quiet received.ended received.failed owed f.3 f.1 f.0
    by input.Ended f = is_owing received.quiet received.ended received.failed owed f.1 ∙ o
    by input.Failed f = has_failed received.quiet received.ended received.failed owed f.1 f.0

-- ---- it rests

is_open : (lost owed full none x y : Bool) → lost ≡ false → full ≡ false → owed ≡ not none → x ≡ y
    → (not lost && ((not owed || full) && x)) ≡ (none && y)
is_open lost owed full true x y l f o e = rw (l, f, o, e) refl
is_open lost owed full false x y l f o e = rw (l, f, o) refl

is_stuck : (lost owed full x y : Bool) → lost ≡ false → full ≡ true → x ≡ y → (not lost && ((not owed || full) && x)) ≡ y
is_stuck lost true full x y l f e = rw (l, f, e) refl
is_stuck lost false full x y l f e = rw (l, e) refl

rests_as : (sent : Sent) (received : Received) (outgoing incoming : List ℕ) (reading : Input) (writing : Output) (cut : Bool)
    → WritesAs sent outgoing writing → ReadsAs received incoming reading → sent.cut ≡ cut
    → is_at_rest sent received
    ≡ (rests_writing outgoing writing
    && cond cut (length outgoing == 40960) ((length incoming == 0) && rests_reading outgoing reading))
rests_as sent received outgoing incoming reading writing is_cut w h c = by writing w
  where
    either : sent.written ≡ sent.took ++ outgoing → (b : Bool) → sent.cut ≡ b
        → cond sent.cut (is_full sent) (has_nothing received (is_owed sent))
        ≡ cond b (length outgoing == 40960) ((length incoming == 0) && rests_reading outgoing reading)
    either is true c = ap (λ b. cond b (is_full sent) (has_nothing received (is_owed sent))) c ∙ brimful_is sent outgoing is
    either is false c = ap (λ b. cond b (is_full sent) (has_nothing received (is_owed sent))) c
        ∙ silent_is received incoming outgoing reading (is_owed sent) (owed_is sent outgoing is) h

    by : (o : Output) → WritesAs sent outgoing o → is_at_rest sent received
        ≡ (rests_writing outgoing o && cond is_cut (length outgoing == 40960) ((length incoming == 0) && rests_reading outgoing reading))
    by output.Open w = is_open sent.lost (is_owed sent) sent.full (length outgoing == 0) _ _ w.1 w.2 (owed_is sent outgoing w.0)
        (either w.0 is_cut c)
    by output.Full w = is_stuck sent.lost (is_owed sent) sent.full _ _ w.1 w.2 (either w.0 is_cut c)
    by output.Lost w = ap (λ l. not l && ((not (is_owed sent) || sent.full)
        && cond sent.cut (is_full sent) (has_nothing received (is_owed sent)))) w.1

-- a peer that is there rests exactly if it is at rest by its account
pub rest_is : (a : Account) (p : Peer) → Agrees a p → is_here p.stay ≡ true → is_at_rest a.sent a.received ≡ has_rest p
rest_is a p h here = by p.stay h.reads here
  where
    by : (s : Stay) → ComesAs a.received p.incoming p.input s → is_here s ≡ true → is_at_rest a.sent a.received ≡ has_rest p
    by stay.Here reads e = rests_as a.sent a.received p.outgoing p.incoming p.input p.output p.backpressured h.writes reads h.cut
    by (stay.Draining since) reads e = absurd (true≢false (sym e))
    by (stay.Shut since) reads e = absurd (true≢false (sym e))

pub resting : (a : Account) (p : Peer) → Agrees a p → is_resting p ≡ true → is_at_rest a.sent a.received ≡ true
resting a p h r = rest_is a p h (and_left (is_here p.stay) (has_rest p) r) ∙ and_right (is_here p.stay) (has_rest p) r
