-- Functions, read word by word.
use Rattle.std.specs.Prelude.{◌≡◌, ◌+◌, ◌≤◌, ℕ, Bool, List, ◌++◌, Result, Ok, length}
use Rattle.srcp_info.specs.declared.change.Code.{Code}
use Rattle.srcp_info.specs.Limits.{most_functions}
use Rattle.srcp_grammar.specs.Grammar.{◌>>=◌, bits_of}

-- the bits read before, with those of the words
abbrev pub and_bits : List Bool → List (List ℕ) → Result (List Bool) Code
and_bits bits words = do
  others ← bits_of words
  Ok (bits ++ others)

-- these bits are read of the words, and these words are left
pub record IsReadUpTo (words : List (List ℕ)) (bits : List Bool) (left : List (List ℕ)) : Type 0 where
  pub few : length bits ≤ most_functions
  pub counted : length words ≡ length bits + length left
  pub read : bits_of words ≡ and_bits bits left
