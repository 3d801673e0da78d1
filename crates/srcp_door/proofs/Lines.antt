-- What bytes in which no line ends leave of a line, and what is seen of bytes line by line.
use Rattle.std.proofs.Common.{◌≡◌, ℕ, zero, suc, ◌+◌, ◌-◌, ◌<◌, ◌≤◌, ◌==◌, true, false, cond, List, [], ◌∷◌, length}
use Rattle.std.proofs.Common.{take, drop, slice_index, fold, add-one, take-add, length-drop, refl, arith}
use Rattle.std.proofs.Common.{◌++◌, append-nil, append_assoc, subst, sym, ap, ◌∙◌, ⊎_elim}
use Rattle.std.proofs.lemmas.Bool.{cases_Bool, cases_lt}
use Rattle.std.proofs.Math.Seq.{take-length}
use Rattle.std.proofs.lemmas.List.{take_rest}
use Rattle.std.proofs.lemmas.List.Sums.{sum_by-append, sum_by-cons, count_by_more_no, count_by_more_yes, fold-append, fold_more}
use Rattle.memchr.specs.Find.{Passes, is_byte, Nowhere, NoneBefore}
use Rattle.srcp_door.specs.Pacing.{Seen, lines, line_weight, seen_after, seen_of, weight_of}
use Rattle.srcp_door.specs.declared.pacing.LineBoundary.{LineBoundary}
use Rattle.srcp_door.specs.declared.pacing.LineBoundary.TheVariants.{At}

no_end : (x : ℕ) (xs : List ℕ) → lines (x ∷ xs) ≡ 0 → ((x == 10) ≡ false) × (lines xs ≡ 0)
no_end x xs none =
    let sum = sum_by-cons (λ (byte : ℕ). cond (byte == 10) 1 0) x xs in
    ⊎_elim
    (λ (yes : (x == 10) ≡ true). let one : cond {A = ℕ} (x == 10) 1 0 ≡ 1 = rw yes refl in absurd (omega arith))
    (λ (no : (x == 10) ≡ false). (no, omega arith))
    (cases_Bool (x == 10))

-- bytes in which no line ends are added to the text
pub fold_text : (seen : Seen) (bytes : List ℕ) → lines bytes ≡ 0
    → fold seen_after seen bytes ≡ record { line = seen.line; text = seen.text ++ bytes; weight = seen.weight }
fold_text seen [] none = ap (λ text. record { line = seen.line; text = text; weight = seen.weight }) (sym (append-nil seen.text))
fold_text seen (x ∷ xs) none =
    let parts = no_end x xs none in
    let longer : Seen = record { line = seen.line; text = seen.text ++ x ∷ []; weight = seen.weight } in
    let next : seen_after seen x ≡ longer = rw parts.0 refl in
    ap (λ s. fold seen_after s xs) next
    ∙ fold_text longer xs parts.1
    ∙ ap (λ text. record { line = seen.line; text = text; weight = seen.weight }) (append_assoc seen.text (x ∷ []) xs)

-- no line weighs less than nothing
weight_grows : (seen : Seen) (bytes : List ℕ) → seen.weight ≤ (fold seen_after seen bytes).weight
weight_grows seen [] = omega arith
weight_grows seen (x ∷ xs) =
    let later = weight_grows (seen_after seen x) xs in
    let one : seen.weight ≤ (seen_after seen x).weight = ⊎_elim
    (λ (yes : (x == 10) ≡ true). rw yes (omega arith))
    (λ (no : (x == 10) ≡ false). rw no (omega arith))
    (cases_Bool (x == 10)) in
    omega (arith, one, later)

-- no line ends before the first index at which there is a line end
lines_before : (bytes : List ℕ) (n : ℕ) → n ≤ length bytes → Nowhere (Passes (is_byte 10) bytes) 0 n → lines (take n bytes) ≡ 0
lines_before bytes zero within none = refl
lines_before bytes (suc n) within none =
    let before = lines_before bytes n (omega arith) (λ k low below. none k low (omega arith)) in
    rw (← add-one n) (⊎_elim
    (λ yes. absurd (none n (omega arith) (omega arith) yes))
    (λ no. count_by_more_no (is_byte 10) bytes n 0 (omega arith) no ∙ before)
    (cases_Bool (is_byte 10 (slice_index bytes n))))

-- `&bytes[i..]`
abbrev rest : List ℕ → ℕ → List ℕ
rest bytes i = take (length bytes - i) (drop i bytes)

-- no line ends in `&bytes[i..j]` if a search of `&bytes[i..]` finds no line end before
pub lines-part : (bytes : List ℕ) (i j : ℕ) → j ≤ length bytes
    → Nowhere (Passes (is_byte 10) (rest bytes i)) 0 (j - i) → lines (take (j - i) (drop i bytes)) ≡ 0
lines-part bytes i j within none =
    let found = subst (λ hay. Nowhere (Passes (is_byte 10) hay) 0 (j - i)) (take_rest bytes i) none in
    lines_before (drop i bytes) (j - i) (omega (arith, length-drop i bytes)) found

-- a line end that is found in `&bytes[i..]` lies within the bytes
pub found-end : (bytes : List ℕ) (i n : ℕ)
    → NoneBefore (Passes (is_byte 10) (rest bytes i)) 0 (length (rest bytes i)) n → i + n < length bytes
found-end bytes i n found = let high = rw (take_rest bytes i, length-drop i bytes) at found.high in omega arith

-- what is seen of a prefix, by what is seen of a shorter one and of the part behind it
pub seen_of_part : (line : LineBoundary) (bytes : List ℕ) (i j : ℕ) → i ≤ j
    → fold seen_after (seen_of line (take i bytes)) (take (j - i) (drop i bytes)) ≡ seen_of line (take j bytes)
seen_of_part line bytes i j le =
    let parts : i + (j - i) ≡ j = omega arith in
    let split = fold-append seen_after (record { line = line; text = []; weight = 0 }) (take i bytes) (take (j - i) (drop i bytes)) in
    sym (rw take-add split) ∙ ap (λ n. seen_of line (take n bytes)) parts

-- what is seen of a prefix, by what is seen of the one that lacks its line end
pub seen_of-end : (line : LineBoundary) (bytes : List ℕ) (i : ℕ) → i < length bytes → slice_index bytes i ≡ 10
    → seen_of line (take (i + 1) bytes) ≡ seen_after (seen_of line (take i bytes)) 10
seen_of-end line bytes i within here =
    fold_more seen_after (record { line = line; text = []; weight = 0 }) bytes i 0 within
    ∙ ap (seen_after (seen_of line (take i bytes))) here

-- a prefix has the lines of a shorter one if a search finds no line end behind that
pub lines_of_part : (bytes : List ℕ) (i j : ℕ) → i ≤ j → j ≤ length bytes
    → Nowhere (Passes (is_byte 10) (rest bytes i)) 0 (j - i) → lines (take i bytes) ≡ lines (take j bytes)
lines_of_part bytes i j le within nowhere =
    let none = lines-part bytes i j within nowhere in
    let parts : i + (j - i) ≡ j = omega arith in
    let sum = sum_by-append (λ (byte : ℕ). cond (byte == 10) 1 0) (take i bytes) (take (j - i) (drop i bytes)) in
    let split : lines (take (i + (j - i)) bytes) ≡ lines (take i bytes) + lines (take (j - i) (drop i bytes)) = rw take-add sum in
    let same = ap (λ n. lines (take n bytes)) parts in
    omega (arith, split, same, none)

-- a prefix has one line more than the one that lacks its line end
pub lines_of-end : (bytes : List ℕ) (i : ℕ) → i < length bytes → slice_index bytes i ≡ 10
    → lines (take (i + 1) bytes) ≡ lines (take i bytes) + 1
lines_of-end bytes i within here = count_by_more_yes (λ byte. byte == 10) bytes i 0 within (ap (λ byte. byte == 10) here)

-- a longer prefix has no fewer lines
lines_upto : (bytes : List ℕ) (i j : ℕ) → i ≤ j → lines (take i bytes) ≤ lines (take j bytes)
lines_upto bytes i j le =
    let parts : i + (j - i) ≡ j = omega arith in
    let sum = sum_by-append (λ (byte : ℕ). cond (byte == 10) 1 0) (take i bytes) (take (j - i) (drop i bytes)) in
    let split : lines (take (i + (j - i)) bytes) ≡ lines (take i bytes) + lines (take (j - i) (drop i bytes)) = rw take-add sum in
    let same = ap (λ n. lines (take n bytes)) parts in
    omega (arith, split, same)

-- nor do they weigh less
weight_upto : (line : LineBoundary) (bytes : List ℕ) (i j : ℕ) → i ≤ j → weight_of line (take i bytes) ≤ weight_of line (take j bytes)
weight_upto line bytes i j le =
    let grows = weight_grows (seen_of line (take i bytes)) (take (j - i) (drop i bytes)) in
    subst (λ (s : Seen). weight_of line (take i bytes) ≤ s.weight) (seen_of_part line bytes i j le) grows

-- what is seen of whole lines, by what is seen of those before the last
pub ends_line : (line now : LineBoundary) (bytes : List ℕ) (i j weight : ℕ) → i ≤ j → j < length bytes → slice_index bytes j ≡ 10
    → Nowhere (Passes (is_byte 10) (rest bytes i)) 0 (j - i)
    → record { line = now; text = []; weight = weight } ≡ seen_of line (take i bytes)
    → record { line = At; text = []; weight = weight + line_weight now (take (j - i) (drop i bytes)) }
    ≡ seen_of line (take (j + 1) bytes)
ends_line line now bytes i j weight le within here nowhere is =
    let text = take (j - i) (drop i bytes) in
    let before : Seen = record { line = now; text = []; weight = weight } in
    let begun : Seen = record { line = now; text = text; weight = weight } in
    let upto : seen_of line (take j bytes) ≡ begun =
    sym (seen_of_part line bytes i j le) ∙ ap (λ s. fold seen_after s text) (sym is)
    ∙ fold_text before text (lines-part bytes i j (omega arith) nowhere) in
    sym (seen_of-end line bytes j within here ∙ ap (λ s. seen_after s 10) upto)

-- each prefix with a line more weighs as much as the one that ends at the next LF
pub longest_at : (line : LineBoundary) (bytes : List ℕ) (i j most : ℕ) → lines (take i bytes) ≡ lines (take j bytes)
    → most < weight_of line (take (j + 1) bytes) → (n : ℕ) → n ≤ length bytes → lines (take i bytes) < lines (take n bytes)
    → most < weight_of line (take n bytes)
longest_at line bytes i j most same heavy n within more = ⊎_elim
    (λ (late : j < n). let upto = weight_upto line bytes (j + 1) n (omega (arith, late)) in omega (arith, upto, heavy))
    (λ (early : n ≤ j). let few = lines_upto bytes n j early in absurd (omega (arith, few, same, more)))
    (cases_lt j n)

-- bytes in which no line ends weigh nothing
pub weight_none : (line : LineBoundary) (bytes : List ℕ) → lines bytes ≡ 0 → weight_of line bytes ≡ 0
weight_none line bytes none = ap (λ (s : Seen). s.weight) (fold_text (record { line = line; text = []; weight = 0 }) bytes none)

-- a prefix has no more lines than the whole
pub lines_within : (bytes : List ℕ) (i : ℕ) → i ≤ length bytes → lines (take i bytes) ≤ lines bytes
lines_within bytes i within =
    subst (λ (all : List ℕ). lines (take i bytes) ≤ lines all) (take-length bytes) (lines_upto bytes i (length bytes) within)

-- it has fewer if an LF is behind it
pub lines_behind : (bytes : List ℕ) (i j : ℕ) → j < length bytes → slice_index bytes j ≡ 10 → lines (take i bytes) ≡ lines (take j bytes)
    → lines (take i bytes) < lines bytes
lines_behind bytes i j within here same =
    let one = lines_of-end bytes j within here in
    let all = lines_within bytes (j + 1) (omega (arith, within)) in
    omega (arith, one, all, same)

-- prefixes in which as many lines end weigh the same
pub weight_same : (line : LineBoundary) (bytes : List ℕ) (i j : ℕ) → i ≤ j → lines (take i bytes) ≡ lines (take j bytes)
    → weight_of line (take i bytes) ≡ weight_of line (take j bytes)
weight_same line bytes i j le same =
    let part = take (j - i) (drop i bytes) in
    let parts : i + (j - i) ≡ j = omega arith in
    let sum = sum_by-append (λ (byte : ℕ). cond (byte == 10) 1 0) (take i bytes) part in
    let split : lines (take (i + (j - i)) bytes) ≡ lines (take i bytes) + lines part = rw take-add sum in
    let upto = ap (λ n. lines (take n bytes)) parts in
    let none : lines part ≡ 0 = omega (arith, split, same, upto) in
    sym (ap (λ (s : Seen). s.weight) (fold_text (seen_of line (take i bytes)) part none))
    ∙ ap (λ (s : Seen). s.weight) (seen_of_part line bytes i j le)

-- one in which no more lines end weighs no more
pub weight_by_lines : (line : LineBoundary) (bytes : List ℕ) (i j : ℕ) → lines (take i bytes) ≤ lines (take j bytes)
    → weight_of line (take i bytes) ≤ weight_of line (take j bytes)
weight_by_lines line bytes i j few = ⊎_elim
    (λ (late : j < i).
    let upto = lines_upto bytes j i (omega (arith, late)) in
    let same = weight_same line bytes j i (omega (arith, late)) (omega (arith, upto, few)) in
    omega (arith, same))
    (λ (early : i ≤ j). weight_upto line bytes i j early)
    (cases_lt j i)
