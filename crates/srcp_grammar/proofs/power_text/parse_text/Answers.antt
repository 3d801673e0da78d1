use Rattle.std.proofs.Common.{ℕ, List, ◌++◌, sym, ap, ◌∙◌}
use Rattle.std.specs.List.{join_with_byte}
use Rattle.srcp_grammar.proofs.WordTextLaws.{spaced, join-spaced}
use Rattle.srcp_grammar.proofs.power_text.parse_text.Goals as goal

pub loop-word-init : goal.loop-word-init
loop-word-init c =
    let first = c.in-Some.first.now in
    let left = c.next.new.self in
    ap (join_with_byte 32) c.in-Some.ensures.steps ∙ join-spaced first left
    ∙ ap (λ (text : List ℕ). text ++ spaced left) (sym (c.push_word.ensures ∙ ap (λ (before : List ℕ). before ++ first) c.new-text.ensures))
