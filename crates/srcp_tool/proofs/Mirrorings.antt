-- Lines of a stream applied one after another.
use Rattle.std.proofs.Common.{◌≡◌, ℕ, ◌+◌, ◌<◌, false, List, [], ◌∷◌, ◌++◌, length, refl, sym, ap, ◌∙◌, subst, arith, append-nil}
use Rattle.std.proofs.Common.{append_assoc, length-append}
use Rattle.std.specs.Prelude.{codes}
use Rattle.std.specs.List.{flat_map, list_any}
use Rattle.std.proofs.lemmas.List.{length_push}
use Rattle.std.proofs.lemmas.List.Folds.{list_any-append}
use Rattle.std.proofs.lemmas.List.Sums.{fold-append}
use Rattle.std.proofs.lemmas.List.Concat.{flat_map-append}
use Rattle.srcp_text.specs.Marks.{is_lf}
use Rattle.srcp_info.specs.Client.{client, changed, HoldsLines}
use Rattle.srcp_info.specs.Line.{line}
use Rattle.srcp_info.specs.Read.{IsLineOf}
use Rattle.srcp_info.specs.WellFormed.{IsWellFormed}
use Rattle.srcp_info.specs.declared.change.Change.{Change}
use Rattle.srcp_info.proofs.ClientLaws.{all_append}
use Rattle.srcp_info.proofs.LineLaws.{length-line-le}
use Rattle.srcp_info.specs.Limits.{longest_line}
use Rattle.srcp_tool.specs.Mirroring.{HasTaken, IsBegun}
use Rattle.srcp_tool.specs.Output.{RefusesLine}
use Rattle.srcp_tool.specs.declared.stream.lines.MirroredLines.{MirroredLines}

free-append : (xs ys : List ℕ) → list_any is_lf xs ≡ false → list_any is_lf ys ≡ false → list_any is_lf (xs ++ ys) ≡ false
free-append xs ys e h = rw (list_any-append is_lf xs ys, e, h) refl

-- more bytes of the line that has begun
pub holds_more : (input more text : List ℕ) (changes : List Change) → HoldsLines input changes text → list_any is_lf more ≡ false
    → HoldsLines (input ++ more) changes (text ++ more)
holds_more input more text changes holds free = record {
  each = holds.each;
  whole = ap (λ xs. xs ++ more) holds.whole ∙ append_assoc (flat_map line changes) text more;
  no_more = free-append text more holds.no_more free;
}

-- its LF, if it is the line of a change
pub holds_ended : (input text : List ℕ) (changes : List Change) (change : Change) → HoldsLines input changes text → IsLineOf text change
    → HoldsLines (input ++ 10 ∷ []) (changes ++ change ∷ []) []
holds_ended input text changes change holds is = record {
  each = all_append IsWellFormed changes (change ∷ []) holds.each (is.well_formed, tt);
  whole =
      ap (λ xs. xs ++ 10 ∷ []) holds.whole ∙ append_assoc (flat_map line changes) text (10 ∷ [])
      ∙ ap (λ xs. flat_map line changes ++ xs) (sym is.same ∙ sym (append-nil (line change)))
      ∙ sym (flat_map-append line changes (change ∷ []))
      ∙ sym (append-nil (flat_map line (changes ++ change ∷ [])));
  no_more = refl;
}

pub client_ended : (changes : List Change) (change : Change) → client (changes ++ change ∷ []) ≡ changed change (client changes)
client_ended changes change = fold-append _ [] changes (change ∷ [])

-- its LF, if it is that of no change
pub refuses_ended : (input text : List ℕ) (changes : List Change) → HoldsLines input changes text
    → ((change : Change) → IsLineOf text change → ⊥) → RefusesLine (input ++ 10 ∷ []) (length changes + 1)
refuses_ended input text changes holds none = record {
  changes = changes;
  text = text;
  behind = [];
  each = holds.each;
  whole = ap (λ xs. xs ++ 10 ∷ []) holds.whole ∙ sym (append-nil ((flat_map line changes ++ text) ++ 10 ∷ []));
  one_line = holds.no_more;
  no_change = none;
  place = refl;
}

-- what is refused stays refused, whatever follows
pub refuses_more : (input more : List ℕ) (n : ℕ) → RefusesLine input n → RefusesLine (input ++ more) n
refuses_more input more n refuses = record {
  changes = refuses.changes;
  text = refuses.text;
  behind = refuses.behind ++ more;
  each = refuses.each;
  whole =
      ap (λ xs. xs ++ more) refuses.whole ∙ append_assoc ((flat_map line refuses.changes ++ refuses.text) ++ 10 ∷ []) refuses.behind more;
  one_line = refuses.one_line;
  no_change = refuses.no_change;
  place = refuses.place;
}

-- a line of a change is short
pub none_long : (text : List ℕ) → longest_line < length text → (change : Change) → IsLineOf text change → ⊥
none_long text long change is =
    let short = length-line-le change is.well_formed in
    let same = ap length is.same ∙ length-append text (codes "\n") in
    absurd (omega arith)

-- ---- by what was taken

-- more bytes of the line that has begun
pub taken_more : (old new : MirroredLines) (input more : List ℕ) → HasTaken old input → new.mirror ≡ old.mirror → new.count ≡ old.count
    → ((front : List ℕ) → IsBegun old.begun front → IsBegun new.begun (front ++ more)) → list_any is_lf more ≡ false
    → HasTaken new (input ++ more)
taken_more old new input more taken rows count adds free = record {
  changes = taken.changes;
  text = taken.text ++ more;
  holds = holds_more input more taken.text taken.changes taken.holds free;
  rows = rows ∙ taken.rows;
  count = count ∙ taken.count;
  begun = adds taken.text taken.begun;
}

-- its LF, if it is the line of a change
pub taken_ended : (old new : MirroredLines) (input : List ℕ) (taken : HasTaken old input) (change : Change) → IsLineOf taken.text change
    → new.mirror ≡ changed change old.mirror → new.count ≡ old.count + 1 → IsBegun new.begun [] → HasTaken new (input ++ 10 ∷ [])
taken_ended old new input taken change is rows count begun = record {
  changes = taken.changes ++ change ∷ [];
  text = [];
  holds = holds_ended input taken.text taken.changes change taken.holds is;
  rows = rows ∙ ap (changed change) taken.rows ∙ sym (client_ended taken.changes change);
  count = count ∙ ap (λ n. n + 1) taken.count ∙ sym (length_push taken.changes change);
  begun = begun;
}

-- its LF, if it is that of no change
pub taken_refused : (old : MirroredLines) (input : List ℕ) (taken : HasTaken old input)
    → ((change : Change) → IsLineOf taken.text change → ⊥) → RefusesLine (input ++ 10 ∷ []) (old.count + 1)
taken_refused old input taken none = rw taken.count (refuses_ended input taken.text taken.changes taken.holds none)

-- ---- a piece, line by line

-- a line and its LF go from what is left of a piece to what was taken of it
pub moved_on : (piece done left line behind : List ℕ) → piece ≡ done ++ left → left ≡ line ++ 10 ∷ behind
    → piece ≡ ((done ++ line) ++ 10 ∷ []) ++ behind
moved_on piece done left line behind whole cut =
    whole ∙ ap (λ xs. done ++ xs) cut ∙ sym (append_assoc done line (10 ∷ behind)) ∙ sym (append_assoc (done ++ line) (10 ∷ []) behind)

regroup : (input done line : List ℕ) → ((input ++ done) ++ line) ++ 10 ∷ [] ≡ input ++ ((done ++ line) ++ 10 ∷ [])
regroup input done line = simp append_assoc

pub taken_line : (old mid new : MirroredLines) (input done line : List ℕ) → HasTaken old (input ++ done) → mid.mirror ≡ old.mirror
    → mid.count ≡ old.count → ((front : List ℕ) → IsBegun old.begun front → IsBegun mid.begun (front ++ line)) → list_any is_lf line ≡ false
    → ((sofar : List ℕ) → HasTaken mid sofar → HasTaken new (sofar ++ 10 ∷ [])) → HasTaken new (input ++ ((done ++ line) ++ 10 ∷ []))
taken_line old mid new input done line taken rows count adds free ends =
    subst (λ (all : List ℕ). HasTaken new all) (regroup input done line)
    (ends _ (taken_more old mid (input ++ done) line taken rows count adds free))

pub refused_line : (old mid : MirroredLines) (n : ℕ) (input piece done left line behind : List ℕ) → HasTaken old (input ++ done)
    → mid.mirror ≡ old.mirror → mid.count ≡ old.count → ((front : List ℕ) → IsBegun old.begun front → IsBegun mid.begun (front ++ line))
    → list_any is_lf line ≡ false → ((sofar : List ℕ) → HasTaken mid sofar → RefusesLine (sofar ++ 10 ∷ []) n) → piece ≡ done ++ left
    → left ≡ line ++ 10 ∷ behind → RefusesLine (input ++ piece) n
refused_line old mid n input piece done left line behind taken rows count adds free refuses whole cut =
    let here =
    subst (λ (all : List ℕ). RefusesLine all n) (regroup input done line)
    (refuses _ (taken_more old mid (input ++ done) line taken rows count adds free)) in
    subst (λ (all : List ℕ). RefusesLine all n)
    (append_assoc input ((done ++ line) ++ 10 ∷ []) behind
    ∙ ap (λ xs. input ++ xs) (sym (moved_on piece done left line behind whole cut)))
    (refuses_more (input ++ ((done ++ line) ++ 10 ∷ [])) behind n here)

pub taken_rest : (old new : MirroredLines) (input piece done left line : List ℕ) → HasTaken old (input ++ done) → new.mirror ≡ old.mirror
    → new.count ≡ old.count → ((front : List ℕ) → IsBegun old.begun front → IsBegun new.begun (front ++ line)) → list_any is_lf line ≡ false
    → piece ≡ done ++ left → left ≡ line ++ [] → HasTaken new (input ++ piece)
taken_rest old new input piece done left line taken rows count adds free whole cut =
    let all : (input ++ done) ++ line ≡ input ++ piece =
    append_assoc input done line ∙ ap (λ xs. input ++ xs) (ap (λ xs. done ++ xs) (sym (cut ∙ append-nil line)) ∙ sym whole) in
    subst (λ (sofar : List ℕ). HasTaken new sofar) all (taken_more old new (input ++ done) line taken rows count adds free)
