use Rattle.std.proofs.Common.{◌≡◌, ℕ, ◌<◌, ◌≤◌, ◌-◌, false, length, get_or}
use Rattle.srcp_text.specs.Words.{is_blank}
use Rattle.srcp_text.proofs.word.word_len.Given as goal

abbrev pub decreases-loop-len : goal.decreases-loop-len
decreases-loop-len l = length l.text - l.len

abbrev pub invariant-loop-len : goal.invariant-loop-len
invariant-loop-len l = record {
  within : l.len ≤ length l.text;
  filled : (k : ℕ) → k < l.len → is_blank (get_or l.text k 0) ≡ false;
}
