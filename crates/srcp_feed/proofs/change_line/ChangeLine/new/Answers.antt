use Rattle.std.proofs.Common.{◌≡◌, ℕ, ◌-◌, List, [], ◌∷◌, ◌++◌, take, length, ap, ◌∙◌, arith, length-append}
use Rattle.std.proofs.Math.Seq.{take-append_seam}
use Rattle.std.specs.List.{join_with_byte}
use Rattle.srcp_info.specs.Line.{line, change_words}
use Rattle.srcp_info.specs.WellFormed.{IsWellFormed}
use Rattle.srcp_info.specs.declared.change.Change.{Change}
use Rattle.srcp_info.proofs.ReadLaws.{change_again}
use Rattle.srcp_feed.specs.Waiting.{told_by}
use Rattle.srcp_feed.proofs.change_line.ChangeLine.new.Goals as goal

-- without its LF
text_is : (xs : List ℕ) → take (length (xs ++ 10 ∷ []) - 1) (xs ++ 10 ∷ []) ≡ xs
text_is xs =
    let many : length (xs ++ 10 ∷ []) - 1 ≡ length xs = omega (arith, length-append xs (10 ∷ [])) in
    ap (λ n. take n (xs ++ 10 ∷ [])) many ∙ take-append_seam xs (10 ∷ [])

-- the line of a change tells it
line_tells : (text : List ℕ) (change : Change) → IsWellFormed change → text ≡ line change → told_by text ≡ change
line_tells text change h e = rw (e, text_is (join_with_byte 32 (change_words change))) (change_again change h)

pub invariant_of-result : goal.invariant_of-result
invariant_of-result c =
    let text : take c.len-len.result c.slot_of-bytes.result ≡ line c.args.change.now =
    rw c.len-len.ensures.value (c.slot_of-bytes.ensures ∙ c.write_change.ensures.line) in
    rw (line_tells _ _ c.requires text) (text, c.requires, c.len-len.ensures.fits)

pub invariant_of-result-2 : goal.invariant_of-result-2
invariant_of-result-2 c =
    let text : take c.len-len.result c.slot_of-bytes.result ≡ line c.args.change.now =
    rw c.len-len.ensures.value (c.slot_of-bytes.ensures ∙ c.write_change.ensures.line) in
    line_tells _ _ c.requires text
