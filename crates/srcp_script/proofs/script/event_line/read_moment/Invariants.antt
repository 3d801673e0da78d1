use Rattle.std.proofs.Common.{◌≡◌, length}
use Rattle.srcp_text.specs.Words.{number_of}
use Rattle.srcp_info.specs.Limits.{greatest_u64}
use Rattle.srcp_script.proofs.script.event_line.read_moment.Given as goal

abbrev pub invariant-loop-digits : goal.invariant-loop-digits
invariant-loop-digits l = number_of greatest_u64 l.part ≡ number_of greatest_u64 l.digits

abbrev pub decreases-loop-digits : goal.decreases-loop-digits
decreases-loop-digits l = length l.digits
