use Rattle.std.proofs.Common.{◌≡◌, drop}
use Rattle.srcp_stations.specs.Text.{has_word}
use Rattle.srcp_stations.proofs.text.has_word.Given as goal

-- the word stands nowhere before
abbrev pub invariant-loop-at : goal.invariant-loop-at
invariant-loop-at l = has_word l.word l.text ≡ has_word l.word (drop l.at l.text)
