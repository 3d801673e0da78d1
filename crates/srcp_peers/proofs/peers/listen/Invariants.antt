use Rattle.std.proofs.Common.{◌≡◌, take}
use Rattle.std.specs.Prelude.{fold}
use Rattle.srcp_peers.specs.Listeners.{woken_listening}
use Rattle.srcp_peers.proofs.peers.listen.Given as goal

abbrev pub invariant-loop-one : goal.invariant-loop-one
invariant-loop-one l = fold woken_listening l.fn.listening (take l.one-index l.ready) ≡ l.heard
