use Rattle.std.proofs.Common.{◌≡◌, length}
use Rattle.srcp_script.proofs.Escapes.{behind}
use Rattle.srcp_script.specs.Script.{unescaped}
use Rattle.srcp_script.proofs.script.escape.unescape.Given as goal

abbrev pub invariant-loop-bytes : goal.invariant-loop-bytes
invariant-loop-bytes l = unescaped l.text ≡ behind l.bytes.items (unescaped l.rest)

abbrev pub decreases-loop-bytes : goal.decreases-loop-bytes
decreases-loop-bytes l = length l.rest
