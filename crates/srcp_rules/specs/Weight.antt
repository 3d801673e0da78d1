-- The weight of a line, and the changes that the line brings.
use Rattle.std.specs.Prelude.{◌≡◌, ℕ, ◌≤◌, true, codes, List, ◌∷◌, length, Ok}
use Rattle.srcp_text.specs.Words.{words_of, is_keyword}
use Rattle.srcp_grammar.specs.declared.layout.Bus.{Bus}
use Rattle.srcp_grammar.specs.declared.command.Command.{Command}
use Rattle.srcp_grammar.specs.Layout.{IsLayout}
use Rattle.srcp_grammar.specs.Grammar.{reads}
use Rattle.srcp_grammar.specs.Weight.{most_changes, weight}
use Rattle.srcp_rules.specs.State.{State}
use Rattle.srcp_rules.specs.Effect.{effect}

-- a line with a command brings at most as many changes as the line weighs
abbrev pub LinesWeighEnough : Type 0
LinesWeighEnough = (buses : List Bus) (state : State) (session moment : ℕ) (line : List ℕ) (command : Command)
    → IsLayout buses → reads buses line ≡ Ok command
    → length (effect state session moment command).updates ≤ weight line

-- no line weighs more than the most changes of a command
abbrev pub WeightsAreSmall : Type 0
WeightsAreSmall = (line : List ℕ) → weight line ≤ most_changes

-- a line whose first word is GO weighs 1
abbrev pub GoesWeighOne : Type 0
GoesWeighOne = (line word : List ℕ) (words : List (List ℕ))
    → words_of line ≡ word ∷ words → is_keyword (codes "GO") word ≡ true → weight line ≡ 1
