-- A CR at the end of a line makes it no lighter.
use Rattle.std.proofs.Common.{◌≡◌, ◌⊎◌, ℕ, ◌≤◌, Bool, true, false, List, [], ◌∷◌, ◌++◌, refl, ap, sym, subst, arith, inl, inr, ◌==◌}
use Rattle.std.proofs.Common.{codes, if◌then◌else◌}
use Rattle.std.proofs.Math.Bool.{and-false}
use Rattle.std.proofs.Math.Nat.{le_refl}
use Rattle.std.specs.Prelude.{not, ◌&&◌, ◌||◌, filter}
use Rattle.std.specs.List.{slice_split, onto_first, list_any}
use Rattle.std.specs.Char.{to_ascii_lowercase}
use Rattle.std.proofs.lemmas.Bool.{cases_Bool}
use Rattle.std.proofs.lemmas.Bool.Decides.{nat_tests}
use Rattle.srcp_text.specs.Marks.{without_cr}
use Rattle.srcp_text.specs.Words.{is_blank, is_empty, is_keyword, words_of}
use Rattle.srcp_grammar.specs.Weight.{names_session, weight, weight_of}
use Rattle.srcp_rules.proofs.WeightLaws.{weights_small}

-- the last of these texts ends in a CR more
abbrev on_last : List (List ℕ) → List (List ℕ)
on_last [] = []
on_last (text ∷ []) = (text ++ 13 ∷ []) ∷ []
on_last (text ∷ next ∷ texts) = text ∷ on_last (next ∷ texts)

-- the words with a CR at the end: it is a word of its own, or ends the last one
record EndsInReturn (words later : List (List ℕ)) : Type 0 where
  is : (later ≡ words ++ (13 ∷ []) ∷ [])
      ⊎ ((word : List ℕ) × (more : List (List ℕ)) × (words ≡ word ∷ more) × (later ≡ on_last (word ∷ more)))

-- ---- the words

split_return : (line : List ℕ) → (part : List ℕ) × (parts : List (List ℕ)) × (slice_split is_blank line ≡ part ∷ parts)
    × (slice_split is_blank (line ++ 13 ∷ []) ≡ on_last (part ∷ parts))
split_return [] = ([], [], refl, refl)
split_return (byte ∷ line) =
    let more = split_return line in
    elim (cases_Bool (is_blank byte)) [
      | inl t ↦ rw (t, more.2, more.3) ([], more.0 ∷ more.1, refl, refl)
      | inr f ↦ rw (f, more.2, more.3) (byte ∷ more.0, more.1, refl, onto more.0 more.1 byte)
    ]
  where
    onto : (part : List ℕ) (parts : List (List ℕ)) (byte : ℕ) → onto_first byte (on_last (part ∷ parts)) ≡ on_last ((byte ∷ part) ∷ parts)
    onto part [] byte = refl
    onto part (next ∷ parts) byte = refl

-- the parts that are no empty text
abbrev filled : List (List ℕ) → List (List ℕ)
filled parts = filter (λ part. not (is_empty part)) parts

filled_more : (byte : ℕ) (part : List ℕ) (parts : List (List ℕ)) → filled ((byte ∷ part) ∷ parts) ≡ (byte ∷ part) ∷ filled parts
filled_more byte part parts = grind (arith, nat_tests)

ends_more : (text : List ℕ) (words later : List (List ℕ)) → EndsInReturn words later → EndsInReturn (text ∷ words) (text ∷ later)
ends_more text words later ends = by ends.is
  where
    by : (later ≡ words ++ (13 ∷ []) ∷ [])
        ⊎ ((word : List ℕ) × (more : List (List ℕ)) × (words ≡ word ∷ more) × (later ≡ on_last (word ∷ more)))
        → EndsInReturn (text ∷ words) (text ∷ later)
    by (inl e) = record { is = inl (ap (λ ws. text ∷ ws) e) }
    by (inr e) = rw (e.2, e.3) (record { is = inr (text, e.0 ∷ e.1, refl, refl) })

filled_return : (part : List ℕ) (parts : List (List ℕ)) → EndsInReturn (filled (part ∷ parts)) (filled (on_last (part ∷ parts)))
filled_return [] [] = record { is = inl refl }
filled_return (byte ∷ part) [] =
    rw (filled_more byte part [], filled_more byte (part ++ 13 ∷ []) []) (record { is = inr (byte ∷ part, [], refl, refl) })
filled_return [] (next ∷ parts) = filled_return next parts
filled_return (byte ∷ part) (next ∷ parts) =
    rw (filled_more byte part (next ∷ parts), filled_more byte part (on_last (next ∷ parts)))
    (ends_more (byte ∷ part) (filled (next ∷ parts)) (filled (on_last (next ∷ parts))) (filled_return next parts))

words_return : (line : List ℕ) → EndsInReturn (words_of line) (words_of (line ++ 13 ∷ []))
words_return line =
    let s = split_return line in
    rw (s.2, s.3) (filled_return s.0 s.1)

-- ---- their weight

-- no letter of the keyword is a CR, so no word that ends in one is the keyword
abbrev has_return : List ℕ → Bool
has_return keyword = list_any (λ byte. to_ascii_lowercase byte == 13) keyword

neither : (a b : Bool) → (a || b) ≡ false → (a ≡ false) × (b ≡ false)
neither false false e = (refl, refl)
neither false true e = cc
neither true b e = cc

no_keyword : (keyword word : List ℕ) → has_return keyword ≡ false → is_keyword keyword (word ++ 13 ∷ []) ≡ false
no_keyword [] [] e = refl
no_keyword [] (byte ∷ word) e = refl
no_keyword (letter ∷ keyword) [] e =
    let first = (neither (to_ascii_lowercase letter == 13) (has_return keyword) e).0 in grind (arith, first)
no_keyword (letter ∷ keyword) (byte ∷ word) e =
    let rest = (neither (to_ascii_lowercase letter == 13) (has_return keyword) e).1 in
    grind (arith, no_keyword keyword word rest)

-- the weight of a first word that ends in a CR
heavy : (word : List ℕ) (words : List (List ℕ)) → weight_of ((word ++ 13 ∷ []) ∷ words) ≡ 11
heavy word words =
    rw (
      no_keyword (codes "TERM") word refl,
      no_keyword (codes "GET") word refl,
      no_keyword (codes "SET") word refl,
      no_keyword (codes "CHECK") word refl,
      no_keyword (codes "GO") word refl,
    ) refl

no_session : (bus group : List ℕ) (words : List (List ℕ)) → names_session (bus ∷ (group ++ 13 ∷ []) ∷ words) ≡ false
no_session bus group words = rw (no_keyword (codes "SESSION") group refl) (and-false _)

-- with words behind the first that name no session a line is no lighter
unnamed : (word : List ℕ) (words later : List (List ℕ)) → names_session later ≡ false → weight_of (word ∷ words) ≤ weight_of (word ∷ later)
unnamed word words later e = rw (e, and-false _) (lighter (is_keyword (codes "TERM") word && names_session words) _)
  where
    lighter : (b : Bool) (n : ℕ) → (if b then 0 else n) ≤ n
    lighter true n = omega arith
    lighter false n = omega arith

last_weighs : (word : List ℕ) (words : List (List ℕ)) → weight_of (word ∷ words) ≤ 11
    → weight_of (word ∷ words) ≤ weight_of (on_last (word ∷ words))
last_weighs word [] small = rw (heavy word []) small
last_weighs word (bus ∷ []) small = unnamed word (bus ∷ []) ((bus ++ 13 ∷ []) ∷ []) refl
last_weighs word (bus ∷ group ∷ []) small = unnamed word (bus ∷ group ∷ []) (bus ∷ (group ++ 13 ∷ []) ∷ []) (no_session bus group [])
last_weighs word (bus ∷ group ∷ more ∷ words) small = le_refl _

one_more_weighs : (words : List (List ℕ)) → weight_of words ≤ weight_of (words ++ (13 ∷ []) ∷ [])
one_more_weighs [] = omega arith
one_more_weighs (word ∷ []) = unnamed word [] ((13 ∷ []) ∷ []) refl
one_more_weighs (word ∷ bus ∷ []) = unnamed word (bus ∷ []) (bus ∷ (13 ∷ []) ∷ []) (no_session bus [] [])
one_more_weighs (word ∷ bus ∷ group ∷ words) = le_refl _

ends_weigh : (words later : List (List ℕ)) → weight_of words ≤ 11 → EndsInReturn words later → weight_of words ≤ weight_of later
ends_weigh words later small ends = by ends.is
  where
    by : (later ≡ words ++ (13 ∷ []) ∷ [])
        ⊎ ((word : List ℕ) × (more : List (List ℕ)) × (words ≡ word ∷ more) × (later ≡ on_last (word ∷ more)))
        → weight_of words ≤ weight_of later
    by (inl e) = rw e (one_more_weighs words)
    by (inr e) = rw (e.2, e.3) (last_weighs e.0 e.1 (rw e.2 at small))

-- a line is itself without a CR at its end, or that with one
cut_return : (line : List ℕ) → (line ≡ without_cr line) ⊎ (line ≡ without_cr line ++ 13 ∷ [])
cut_return [] = inl refl
cut_return (byte ∷ []) = by (cases_Bool (byte == 13))
  where
    by : ((byte == 13) ≡ true) ⊎ ((byte == 13) ≡ false)
        → (byte ∷ [] ≡ without_cr (byte ∷ [])) ⊎ (byte ∷ [] ≡ without_cr (byte ∷ []) ++ 13 ∷ [])
    by (inl e) = let same : byte ≡ 13 = grind (arith, nat_tests) in inr (rw e (ap (λ b. b ∷ []) same))
    by (inr e) = inl (rw e refl)
cut_return (byte ∷ next ∷ line) = by (cut_return (next ∷ line))
  where
    by : (next ∷ line ≡ without_cr (next ∷ line)) ⊎ (next ∷ line ≡ without_cr (next ∷ line) ++ 13 ∷ [])
        → (byte ∷ next ∷ line ≡ without_cr (byte ∷ next ∷ line)) ⊎ (byte ∷ next ∷ line ≡ without_cr (byte ∷ next ∷ line) ++ 13 ∷ [])
    by (inl e) = inl (ap (λ bytes. byte ∷ bytes) e)
    by (inr e) = inr (ap (λ bytes. byte ∷ bytes) e)

pub cut_weighs : (line : List ℕ) → weight (without_cr line) ≤ weight line
cut_weighs line = by (cut_return line)
  where
    by : (line ≡ without_cr line) ⊎ (line ≡ without_cr line ++ 13 ∷ []) → weight (without_cr line) ≤ weight line
    by (inl e) = subst (λ other. weight (without_cr line) ≤ weight other) (sym e) (le_refl _)
    by (inr e) = subst (λ other. weight (without_cr line) ≤ weight other) (sym e)
        (ends_weigh (words_of (without_cr line)) (words_of (without_cr line ++ 13 ∷ [])) (weights_small (without_cr line))
        (words_return (without_cr line)))
