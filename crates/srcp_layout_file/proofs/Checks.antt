-- What a configuration says, printed word by word.
use Rattle.std.proofs.Common.{◌≡◌, ◌∙◌, List, ℕ, ◌∷◌, ◌++◌, ap, sym, append_assoc}
use Rattle.std.specs.Prelude.{codes, decimal}
use Rattle.std.specs.List.{join_with_byte}
use Rattle.std.proofs.lemmas.Grind.{flat_map-append}
use Rattle.srcp_info.specs.Line.{after_spaces, spaced}
use Rattle.srcp_info.proofs.LineLaws.{join-cons}
use Rattle.srcp_grammar.specs.declared.layout.Bus.{Bus}
use Rattle.srcp_layout_file.specs.Output.{bus_line, group_words, port_words, power_words}

-- words after others
after_spaces-append : (ws vs : List (List ℕ)) → after_spaces (ws ++ vs) ≡ after_spaces ws ++ after_spaces vs
after_spaces-append ws vs = flat_map-append (λ v. 32 ∷ v) ws vs

after_spaces-five : (a b c d e : List (List ℕ))
    → after_spaces (a ++ b ++ c ++ d ++ e) ≡ after_spaces a ++ after_spaces b ++ after_spaces c ++ after_spaces d ++ after_spaces e
after_spaces-five a b c d e =
    after_spaces-append (a ++ b ++ c ++ d) e
    ∙ ap (λ front. front ++ after_spaces e) (after_spaces-append (a ++ b ++ c) d
    ∙ ap (λ front. front ++ after_spaces d) (after_spaces-append (a ++ b) c
    ∙ ap (λ front. front ++ after_spaces c) (after_spaces-append a b)))

regrouped : (t x a b c d e f : List ℕ) → t ++ ((x ++ (a ++ b ++ c ++ d ++ e)) ++ f) ≡ t ++ x ++ a ++ b ++ c ++ d ++ e ++ f
regrouped t x a b c d e f = simp append_assoc

-- a line of a word, a number, and words in five parts, behind a text
spaced-parts : (text word number : List ℕ) (a b c d e : List (List ℕ)) → text ++ spaced (word ∷ number ∷ (a ++ b ++ c ++ d ++ e))
    ≡ text ++ (word ++ (32 ∷ number)) ++ after_spaces a ++ after_spaces b ++ after_spaces c ++ after_spaces d ++ after_spaces e
    ++ codes "\n"
spaced-parts text word number a b c d e =
    let all : List (List ℕ) = a ++ b ++ c ++ d ++ e in
    let words : join_with_byte 32 (word ∷ number ∷ all) ≡ (word ++ (32 ∷ number)) ++ after_spaces all =
    join-cons word (number ∷ all) ∙ sym (append_assoc word (32 ∷ number) (after_spaces all)) in
    ap (λ line. text ++ (line ++ codes "\n")) (words ∙ ap (λ more. (word ++ (32 ∷ number)) ++ more) (after_spaces-five a b c d e))
    ∙ regrouped text (word ++ (32 ∷ number)) (after_spaces a) (after_spaces b) (after_spaces c) (after_spaces d) (after_spaces e)
    (codes "\n")

-- the line of a bus behind a text, group by group
pub bus_line-parts : (text : List ℕ) (bus : Bus) → text ++ bus_line bus
    ≡ text ++ (codes "bus " ++ decimal bus.number) ++ after_spaces (power_words bus.power)
    ++ after_spaces (group_words (codes "GL") bus.gl_max)
    ++ after_spaces (group_words (codes "GA") bus.ga_max) ++ after_spaces (port_words bus)
    ++ after_spaces (group_words (codes "FB") bus.fb_ports) ++ codes "\n"
bus_line-parts text bus =
    spaced-parts text (codes "bus") (decimal bus.number) (power_words bus.power) (group_words (codes "GL") bus.gl_max)
    (group_words (codes "GA") bus.ga_max) (port_words bus) (group_words (codes "FB") bus.fb_ports)
