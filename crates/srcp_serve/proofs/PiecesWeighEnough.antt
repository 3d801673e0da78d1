-- The lines of a piece weigh no more than the door weighs the piece.
use Rattle.std.proofs.Common.{◌≡◌, ◌∙◌, ℕ, ◌+◌, ◌≤◌, Bool, true, false, List, [], ◌∷◌, ◌++◌, length, drop, refl, ap, sym, subst, arith}
use Rattle.std.proofs.Common.{◌==◌, append-nil, append_assoc, cond}
use Rattle.std.specs.Prelude.{⊤, fold, nat_lt}
use Rattle.std.specs.List.{list_any, sum_by}
use Rattle.std.proofs.lemmas.Bool.{cond_both}
use Rattle.std.proofs.lemmas.Bool.Decides.{nat_tests}
use Rattle.std.proofs.lemmas.List.Sums.{fold-append, sum_by-cons}
use Rattle.std.proofs.lemmas.List.Folds.{list_any-append}
use Rattle.std.proofs.Math.Seq.{drop-append_seam}
use Rattle.srcp_text.specs.Marks.{Line as LineMark, TooLong, is_lf, mark_of, marks, rest, without_cr}
use Rattle.srcp_text.proofs.MarkLaws.{marks-append, marks_line, marks_none, rest_line, rest_none, rest_within}
use Rattle.srcp_grammar.specs.Weight.{weight}
use Rattle.srcp_rules.proofs.WeightLaws.{weights_small}
use Rattle.srcp_core.specs.Waits.{weight_of_mark}
use Rattle.srcp_door.specs.Pacing.{Seen, line_after, line_weight, seen_after, seen_of, weight_of, with_text}
use Rattle.srcp_door.specs.declared.pacing.LineBoundary.{LineBoundary}
use Rattle.srcp_door.specs.declared.pacing.LineBoundary.TheVariants.{At, Inside}
use Rattle.srcp_serve.proofs.CarriageReturns.{cut_weighs}

-- ---- what the door has seen

-- the door saw these bytes of a line that has not ended: all of them, or it knows that some came before
abbrev SeesOf : LineBoundary → (text bytes : List ℕ) → Type 0
SeesOf At text bytes = text ≡ bytes
SeesOf Inside text bytes = ⊤

sees_more : (line : LineBoundary) (text bytes : List ℕ) (byte : ℕ) → SeesOf line text bytes
    → SeesOf line (text ++ byte ∷ []) (bytes ++ byte ∷ [])
sees_more At text bytes byte e = ap (λ xs. xs ++ byte ∷ []) e
sees_more Inside text bytes byte e = tt

-- a line weighs no more than the door says
mark_weighs : (line : LineBoundary) (text bytes : List ℕ) → SeesOf line text bytes → weight_of_mark (mark_of bytes) ≤ line_weight line text
mark_weighs line text bytes e =
    cond_both (nat_lt 1000 (length bytes)) TooLong (LineMark (without_cr bytes)) (λ mark. weight_of_mark mark ≤ line_weight line text)
    (λ _. omega arith) (λ _. by line e)
  where
    by : (line : LineBoundary) → SeesOf line text bytes → weight (without_cr bytes) ≤ line_weight line text
    by At e = subst (λ seen. weight (without_cr bytes) ≤ weight seen) (sym e) (cut_weighs bytes)
    by Inside e = weights_small (without_cr bytes)

-- how much the lines weigh that end in these bytes
abbrev weigh : List ℕ → ℕ
weigh bytes = sum_by weight_of_mark (marks bytes)

-- how much the door says after a piece
abbrev said : Seen → (piece : List ℕ) → ℕ
said seen piece = (fold seen_after seen piece).weight

-- so it is with the lines that end in a piece, if no line ends in the bytes before
lines_weigh : (piece : List ℕ) (line : LineBoundary) (text bytes : List ℕ) (before : ℕ) → list_any is_lf bytes ≡ false
    → SeesOf line text bytes
    → before + weigh (bytes ++ piece) ≤ said (record { line = line; text = text; weight = before }) piece
lines_weigh [] line text bytes before none sees =
    rw (append-nil, marks_none bytes none) (omega arith)
lines_weigh (byte ∷ piece) line text bytes before none sees =
    by (byte == 10) refl
    (lines_weigh piece At [] [] (before + line_weight line text) refl refl)
    (λ no_end. lines_weigh piece line (text ++ byte ∷ []) (bytes ++ byte ∷ []) before no_end (sees_more line text bytes byte sees))
  where
    by : (ends : Bool) → (byte == 10) ≡ ends
        → before + line_weight line text + weigh piece
        ≤ said (record { line = At; text = []; weight = before + line_weight line text }) piece
        → (list_any is_lf (bytes ++ byte ∷ []) ≡ false
        → before + weigh ((bytes ++ byte ∷ []) ++ piece) ≤ said (record { line = line; text = text ++ byte ∷ []; weight = before }) piece)
        → before + weigh (bytes ++ byte ∷ piece) ≤ said (seen_after (record { line = line; text = text; weight = before }) byte) piece
    by true e next more =
        let same : byte ≡ 10 = grind (arith, nat_tests) in
        let this = mark_weighs line text bytes sees in
        rw (e, same, marks_line bytes piece none, sum_by-cons weight_of_mark (mark_of bytes) (marks piece)) (omega (arith, this, next))
    by false e next more =
        let no_end : list_any is_lf (bytes ++ byte ∷ []) ≡ false = grind (arith, list_any-append) in
        rw e (rw (append_assoc bytes (byte ∷ []) piece) at (more no_end))

-- ---- what the door knows of the bytes before

-- it sees what has begun in them
sees_rest : (bytes text : List ℕ) (before : ℕ) → list_any is_lf text ≡ false
    → (let seen = fold seen_after (record { line = At; text = text; weight = before }) bytes in
    (seen.line ≡ At) × (seen.text ≡ rest (text ++ bytes)))
sees_rest [] text before none = (refl, sym (ap rest (append-nil text) ∙ rest_none text none))
sees_rest (byte ∷ bytes) text before none =
    by (byte == 10) refl (sees_rest bytes [] (before + weight text) refl) (λ no_end. sees_rest bytes (text ++ byte ∷ []) before no_end)
  where
    by : (ends : Bool) → (byte == 10) ≡ ends
        → (let seen = fold seen_after (record { line = At; text = []; weight = before + weight text }) bytes in
        (seen.line ≡ At) × (seen.text ≡ rest bytes))
        → (list_any is_lf (text ++ byte ∷ []) ≡ false
        → (let seen = fold seen_after (record { line = At; text = text ++ byte ∷ []; weight = before }) bytes in
        (seen.line ≡ At) × (seen.text ≡ rest ((text ++ byte ∷ []) ++ bytes))))
        → (let seen = fold seen_after (seen_after (record { line = At; text = text; weight = before }) byte) bytes in
        (seen.line ≡ At) × (seen.text ≡ rest (text ++ byte ∷ bytes)))
    by true e next more =
        let same : byte ≡ 10 = grind (arith, nat_tests) in
        rw (e, same, rest_line text bytes none) next
    by false e next more =
        let no_end : list_any is_lf (text ++ byte ∷ []) ≡ false = grind (arith, list_any-append) in
        rw e (rw (append_assoc text (byte ∷ []) bytes) at (more no_end))

line_is : (bytes : List ℕ) → line_after At bytes ≡ with_text At (rest bytes)
line_is bytes = let s = sees_rest bytes [] 0 refl in rw (s.0, s.1) refl

sees_nothing : (bytes : List ℕ) → SeesOf (with_text At bytes) [] bytes
sees_nothing [] = refl
sees_nothing (byte ∷ bytes) = tt

-- the lines that end in a piece weigh no more than the door says of it
pub piece_weighs : (fed piece : List ℕ)
    → sum_by weight_of_mark (drop (length (marks fed)) (marks (fed ++ piece))) ≤ weight_of (line_after At fed) piece
piece_weighs fed piece =
    let new : drop (length (marks fed)) (marks (fed ++ piece)) ≡ marks (rest fed ++ piece) =
    ap (drop (length (marks fed))) (marks-append fed piece) ∙ drop-append_seam (marks fed) (marks (rest fed ++ piece)) in
    let all = lines_weigh piece (with_text At (rest fed)) [] (rest fed) 0 (rest_within fed) (sees_nothing (rest fed)) in
    rw (new, line_is fed) (omega (arith, all))

-- ---- the line after two pieces

begun_after : (line : LineBoundary) (text : List ℕ) (byte : ℕ) → with_text line (text ++ byte ∷ []) ≡ Inside
begun_after line [] byte = refl
begun_after line (first ∷ text) byte = refl

-- it is the same for all that is seen so
abbrev line_in : Seen → LineBoundary
line_in seen = with_text seen.line seen.text

same_line : (bytes : List ℕ) (one other : Seen) → line_in one ≡ line_in other
    → line_in (fold seen_after one bytes) ≡ line_in (fold seen_after other bytes)
same_line [] one other e = e
same_line (byte ∷ bytes) one other e =
    same_line bytes (seen_after one byte) (seen_after other byte) (by (byte == 10))
  where
    by : (ends : Bool) → line_in (cond ends (record { line = At; text = []; weight = one.weight + line_weight one.line one.text })
        (record { line = one.line; text = one.text ++ byte ∷ []; weight = one.weight }))
        ≡ line_in (cond ends (record { line = At; text = []; weight = other.weight + line_weight other.line other.text })
        (record { line = other.line; text = other.text ++ byte ∷ []; weight = other.weight }))
    by true = refl
    by false = begun_after one.line one.text byte ∙ sym (begun_after other.line other.text byte)

pub lines_go_on : (line : LineBoundary) (first second : List ℕ)
    → line_after (line_after line first) second ≡ line_after line (first ++ second)
lines_go_on line first second =
    same_line second (record { line = line_after line first; text = []; weight = 0 }) (seen_of line first) refl
    ∙ sym (ap line_in (fold-append seen_after (record { line = line; text = []; weight = 0 }) first second))
