-- Whether a pending connection may be accepted.
use Rattle.std.specs.Prelude.{◌==◌, ◌&&◌, ◌||◌, if◌then◌else◌}
use Rattle.srcp_peers.specs.declared.turn.Listening.{Listening}
use Rattle.srcp_peers.specs.declared.turn.Listening.TheVariants as listening
use Rattle.srcp_peers.specs.declared.system.Ready.{Ready}
use Rattle.srcp_peers.specs.declared.system.IoFailure.{IoFailure}
use Rattle.srcp_peers.specs.declared.system.IoFailure.TheVariants.{WouldBlock, Interrupted, Fatal}

-- after a socket was found ready
abbrev pub woken_listening : Listening → Ready → Listening
woken_listening before ready = if (ready.socket == 0) && (ready.readable || (ready.closed || ready.urgent))
    then listening.Ready else before

-- after an accept that failed
abbrev pub listening_after_failure : IoFailure → Listening
listening_after_failure WouldBlock = listening.Quiet
listening_after_failure Interrupted = listening.Ready
listening_after_failure Fatal = listening.BackingOff
