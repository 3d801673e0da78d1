use Rattle.std.proofs.Common.{◌≡◌, ◌-◌, ◌≤◌, ◌++◌, Bool, List, length, map}
use Rattle.std.specs.List.{join_with_byte}
use Rattle.srcp_info.specs.Line.{bit_word}
use Rattle.srcp_info.proofs.scan.functions_of.Given as goal

-- what was read so far, and what is left, are the functions
abbrev pub invariant-loop-functions : goal.invariant-loop-functions
invariant-loop-functions l =
    (functions : List Bool) → length functions ≤ 29 → l.text ≡ join_with_byte 32 (map bit_word functions)
    → (left : List Bool) × (functions ≡ l.functions ++ left) × (l.rest ≡ join_with_byte 32 (map bit_word left))

abbrev pub decreases-loop-functions : goal.decreases-loop-functions
decreases-loop-functions l = 29 - length l.functions
