use Rattle.std.proofs.Common.{List, subst}
use Rattle.std.specs.Prelude.{ℕ}
use Rattle.std.specs.Io.{StartsWith}
use Rattle.srcp_peers.specs.Accounts.{account}
use Rattle.srcp_peers.specs.Streams.{handed, took}
use Rattle.srcp_peers.proofs.AccountsHoldStreams.{gave_is, handed_is, taken_is, took_is}
use Rattle.srcp_sockets.proofs.laws.sockets_follow.Goals as goal

pub returns-clause-took : goal.returns-clause-took
returns-clause-took g c socket =
    let log = c.args.door.now.sockets.system.log.steps in
    subst (λ (xs : List ℕ). StartsWith xs (took socket log)) (taken_is socket log)
    (subst (λ (xs : List ℕ). StartsWith (account socket log).sent.written xs) (took_is socket log)
    (c.args.door.now.sockets.stands.sound socket).took)

pub returns-clause-handed : goal.returns-clause-handed
returns-clause-handed g c socket =
    let log = c.args.door.now.sockets.system.log.steps in
    subst (λ (xs : List ℕ). StartsWith xs (handed socket log)) (gave_is socket log)
    (subst (λ (xs : List ℕ). StartsWith (account socket log).received.gave xs) (handed_is socket log)
    (c.args.door.now.sockets.stands.sound socket).handed)
