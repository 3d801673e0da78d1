use Rattle.std.proofs.Common.{◌≡◌, ◌∙◌, ◌⊎◌, ◌++◌, List, inl, inr, ap, sym, true}
use Rattle.std.specs.Prelude.{ℕ, slice_index_or}
use Rattle.srcp_peers.specs.declared.readiness.Output.{Output}
use Rattle.srcp_peers.specs.declared.readiness.Output.TheVariants as output
use Rattle.srcp_peers.specs.Accounts.{Sent, account}
use Rattle.srcp_peers.specs.Peers.{WritesAs}
use Rattle.srcp_peers.specs.Streams.{taken, took}
use Rattle.srcp_peers.proofs.AccountsHoldStreams.{taken_is, took_is}
use Rattle.srcp_sockets.proofs.laws.untaken_is_held.Goals as goal

held_as : (sent : Sent) (outgoing written took_all : List ℕ) (state : Output) → sent.written ≡ written → sent.took ≡ took_all
    → WritesAs sent outgoing state → (sent.lost ≡ true) ⊎ (written ≡ took_all ++ outgoing)
held_as sent outgoing written took_all output.Open w t h = inr (sym w ∙ h.0 ∙ ap (λ xs. xs ++ outgoing) t)
held_as sent outgoing written took_all output.Full w t h = inr (sym w ∙ h.0 ∙ ap (λ xs. xs ++ outgoing) t)
held_as sent outgoing written took_all output.Lost w t h = inl h.1

pub returns : goal.returns
returns g c k d lt =
    let log = c.args.door.now.sockets.system.log.steps in
    let peer = slice_index_or c.args.door.now.sockets.peers.items k d in
    held_as (account peer.number log).sent peer.outgoing (taken peer.number log) (took peer.number log) peer.output
    (taken_is peer.number log) (took_is peer.number log) (c.args.door.now.sockets.stands.kept k d lt).writes
