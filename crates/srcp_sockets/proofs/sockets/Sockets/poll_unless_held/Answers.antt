use Rattle.std.proofs.Common.{◌≡◌, ◌∙◌, ap, subst, sym, true, true≢false, Bool}
use Rattle.std.specs.Prelude.{◌&&◌, cond}
use Rattle.srcp_peers.specs.Waiting.{longest_wait}
use Rattle.srcp_peers.proofs.CallsAreOfTheDoor.{says_none}
use Rattle.srcp_log.specs.Delivery.{HasWaited}
use Rattle.srcp_log.proofs.EndsAreDelivered.{waited_more, waited_none}
use Rattle.std.proofs.Common.{arith}
use Rattle.srcp_peers.specs.Peers.{KeepsShare}
use Rattle.srcp_peers.specs.declared.turn.Turn.{Turn}
use Rattle.srcp_log.proofs.PeersAreFrom.{from_same, share_stays}
use Rattle.srcp_sockets.proofs.sockets.Sockets.poll_unless_held.Goals as goal

pub returns-then-held-clause-calls : goal.returns-then-held-clause-calls
returns-then-held-clause-calls g c = says_none c.args.self.now.system.log.steps

pub returns-then-held-clause-waits : goal.returns-then-held-clause-waits
returns-then-held-clause-waits g c =
    let old = c.args.self.now.system.log.steps in
    subst (λ (held : Bool). HasWaited (cond held 0 1) old old) (sym c.if-held.true) (waited_none old)

pub returns-clause-waits : goal.returns-clause-waits
returns-clause-waits g c =
    let old = c.args.self.now.system.log.steps in
    let new = c.wait.new.self.system.log.steps in
    let self = c.args.self.now in
    let w = c.wait.ensures.waits in
    subst (λ (held : Bool). HasWaited (cond held 0 1) old new) (sym c.if-held.false)
    (waited_more 0 old old new (longest_wait self.peers.items self.listening self.turn self.most) w.0 w.1 w.2 (waited_none old))

pub returns-then-held-clause-looked : goal.returns-then-held-clause-looked
returns-then-held-clause-looked g c none = absurd (true≢false (sym c.if-held.true ∙ none))

pub returns-then-held-clause-heard : goal.returns-then-held-clause-heard
returns-then-held-clause-heard g c none = absurd (true≢false (sym c.if-held.true ∙ none))

pub returns-clause-heard : goal.returns-clause-heard
returns-clause-heard g c none = c.wait.ensures.waits

pub returns-clause-rests : goal.returns-clause-rests
returns-clause-rests g c held = absurd (true≢false (sym held ∙ c.if-held.false))

pub returns-then-held-clause-most : goal.returns-then-held-clause-most
returns-then-held-clause-most g c = omega arith

pub returns-then-held-clause-shares : goal.returns-then-held-clause-shares
returns-then-held-clause-shares g c = from_same KeepsShare share_stays c.args.self.now.peers.items

turn_stays : (turn : Turn) (held : Bool) → held ≡ true → turn ≡ record turn { busy = held && turn.busy }
turn_stays turn held e = ap (λ (h : Bool). record turn { busy = h && turn.busy }) (sym e)

pub returns-then-held-clause-turn : goal.returns-then-held-clause-turn
returns-then-held-clause-turn g c = turn_stays c.args.self.now.turn c.args.held c.if-held.true

pub returns-clause-turn : goal.returns-clause-turn
returns-clause-turn g c = c.wait.ensures.turn
    ∙ ap (λ (h : Bool). record c.args.self.now.turn { busy = h && c.args.self.now.turn.busy }) (sym c.if-held.false)
