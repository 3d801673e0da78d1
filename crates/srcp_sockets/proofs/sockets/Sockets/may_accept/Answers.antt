use Rattle.std.proofs.Common.{◌++◌, ◌∷◌, [], ◌≡◌, ℕ, ap, arith, length, ⊎_elim, subst, sym, true}
use Rattle.srcp_peers.specs.Steps.{Closes}
use Rattle.srcp_log.specs.Asked.{IsExcused}
use Rattle.srcp_log.specs.Work.{is_crowded}
use Rattle.srcp_peers.proofs.StepsAreCounted.{grows_step}
use Rattle.srcp_log.proofs.AcceptsAreAsked.{may_closed, may_crowded}
use Rattle.srcp_peers.specs.Peers.{KeepsShare}
use Rattle.srcp_log.proofs.PeersAreFrom.{from_same, share_stays}
use Rattle.srcp_sockets.proofs.sockets.Sockets.may_accept.Goals as goal

pub returns-then-is_crowded-clause-excused : goal.returns-then-is_crowded-clause-excused
returns-then-is_crowded-clause-excused g c refused =
    let self = c.args.self.now in
    let old = self.system.log.steps in
    let new = c.free_place.new.self.system.log.steps in
    let crowded : is_crowded self.peers.items ≡ true = sym c.if-is_crowded.ensures.is in
    ⊎_elim
    (λ (same : new ≡ old).
    subst IsExcused (sym same) (may_crowded old self.peers.items self.listening self.last self.stands crowded))
    (λ (one : (who : ℕ) × (new ≡ old ++ Closes who ∷ [])).
    may_closed old new self.peers.items self.listening self.last one.0 self.stands crowded one.1)
    c.free_place.ensures.closes

pub returns-then-is_crowded-clause-few : goal.returns-then-is_crowded-clause-few
returns-then-is_crowded-clause-few g c =
    let old = c.args.self.now.system.log.steps in
    let new = c.free_place.new.self.system.log.steps in
    ⊎_elim
    (λ (same : new ≡ old). omega (arith, ap length same))
    (λ (one : (who : ℕ) × (new ≡ old ++ Closes who ∷ [])). grows_step old new (Closes one.0) one.1)
    c.free_place.ensures.closes

pub returns-then-is_quiet-clause-shares : goal.returns-then-is_quiet-clause-shares
returns-then-is_quiet-clause-shares g c = from_same KeepsShare share_stays c.args.self.now.peers.items

pub returns-clause-shares : goal.returns-clause-shares
returns-clause-shares g c = from_same KeepsShare share_stays c.args.self.now.peers.items
