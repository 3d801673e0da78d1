use Rattle.srcp_peers.specs.Accounts.{account}
use Rattle.std.proofs.Common.{◌∙◌, ⊎_elim, ap, sym, true≢false}
use Rattle.srcp_peers.specs.AllPeers.{IsAbsent}
use Rattle.srcp_log.specs.Doors.{IsThere}
use Rattle.srcp_log.proofs.EachStepWasMadeSo.{might_close, might_shut}
use Rattle.srcp_log.proofs.SocketsStayStanding.{find}
use Rattle.srcp_sockets.proofs.laws.closed_rightly.Goals as goal

pub returns-clause-shut : goal.returns-clause-shut
returns-clause-shut g c before after socket is = might_shut socket before after
    (ap (λ log. (account socket log).lingering.rightly) (sym is) ∙ (c.args.door.now.sockets.stands.sound socket).rightly)

pub returns-clause-closed : goal.returns-clause-closed
returns-clause-closed g c before after socket is = might_close socket before after
    (ap (λ log. (account socket log).lingering.rightly) (sym is) ∙ (c.args.door.now.sockets.stands.sound socket).rightly)

pub returns-clause-kept : goal.returns-clause-kept
returns-clause-kept g c socket kept = ⊎_elim
    (λ (there : IsThere socket c.args.door.now.sockets.peers.items). there)
    (λ (absent : IsAbsent socket c.args.door.now.sockets.peers.items).
    absurd (true≢false (sym kept ∙ (c.args.door.now.sockets.stands.closed socket absent).kept)))
    (find socket c.args.door.now.sockets.peers.items)
