-- The words of the server's replies, and what they tell.
use Rattle.std.proofs.Common.{◌≡◌, ◌∙◌, ℕ, ◌≤◌, true, false, List, [], ◌∷◌, ◌++◌, Option, Some, refl, ap, arith, sym}
use Rattle.std.specs.Prelude.{codes, flat_map, decimal}
use Rattle.std.specs.List.{join_with_byte}
use Rattle.std.proofs.lemmas.List.{same_from_push}
use Rattle.srcp_text.specs.Stamp.{stamp}
use Rattle.srcp_text.specs.Words.{words_of}
use Rattle.srcp_text.proofs.StampLaws.{decimal_word, stamp_word}
use Rattle.srcp_text.proofs.WordLaws.{words_of_joined, words_of_word}
use Rattle.srcp_info.specs.Limits.{greatest_u64}
use Rattle.srcp_info.specs.WellFormed.{IsMoment}
use Rattle.srcp_info.specs.Line.{code_text, reply_line, spaced}
use Rattle.srcp_info.specs.declared.change.Code.{Code}
use Rattle.srcp_info.specs.declared.change.Code.TheVariants.{C400, C401, C402, C410, C412, C414, C415, C416, C418, C419}
use Rattle.srcp_info.specs.declared.change.Code.TheVariants.{C420, C421, C422, C423, C500}
use Rattle.srcp_info.specs.declared.change.Reply.TheVariants as reply
use Rattle.srcp_drive.specs.Hearing.{Hears, reply_heard}
use Rattle.srcp_drive.specs.Laws.{RepliesAreHeard}
use Rattle.srcp_drive.specs.declared.hearing.Heard.{Heard}
use Rattle.srcp_drive.specs.declared.hearing.Heard.TheVariants as tells

-- the words of a line that begins with a stamp are the stamp, and those of the texts behind it
stamped : (moment : ℕ) (texts : List (List ℕ)) (text : List ℕ) → IsMoment moment → spaced (stamp moment ∷ texts) ≡ text ++ codes "\n"
    → words_of text ≡ stamp moment ∷ flat_map words_of texts
stamped moment texts text h e =
    let same : join_with_byte 32 (stamp moment ∷ texts) ≡ text = (same_from_push _ _ _ _ e).0 in
    ap words_of (sym same) ∙ words_of_joined (stamp moment ∷ texts)
    ∙ ap (λ first. first ++ flat_map words_of texts) (words_of_word (stamp moment) (stamp_word moment h))

accepted_heard : (moment : ℕ) (text : List ℕ) (heard : Option Heard) → IsMoment moment
    → reply_line moment reply.Accepted ≡ text ++ codes "\n" → Hears (codes "reply " ++ text) heard → heard ≡ Some (tells.Replied true)
accepted_heard moment text heard h e is = is ∙ rw (stamped moment (codes "200 OK" ∷ []) text h e) refl

go_heard : (moment id : ℕ) (text : List ℕ) (heard : Option Heard) → IsMoment moment → id ≤ greatest_u64
    → reply_line moment (reply.Go id) ≡ text ++ codes "\n" → Hears (codes "reply " ++ text) heard → heard ≡ Some tells.Joined
go_heard moment id text heard h i e is =
    is
    ∙ rw (
      stamped moment (codes "200 OK GO" ∷ decimal id ∷ []) text h e,
      words_of_word (decimal id) (decimal_word id (omega (arith, i))),
    )
    refl

-- the words of a refusal behind any stamp
refusal : (first : List ℕ) (code : Code) → reply_heard (first ∷ flat_map words_of (code_text code ∷ [])) ≡ Some (tells.Replied false)
refusal first C400 = refl
refusal first C401 = refl
refusal first C402 = refl
refusal first C410 = refl
refusal first C412 = refl
refusal first C414 = refl
refusal first C415 = refl
refusal first C416 = refl
refusal first C418 = refl
refusal first C419 = refl
refusal first C420 = refl
refusal first C421 = refl
refusal first C422 = refl
refusal first C423 = refl
refusal first C500 = refl

refused_heard : (moment : ℕ) (code : Code) (text : List ℕ) (heard : Option Heard) → IsMoment moment
    → reply_line moment (reply.Refused code) ≡ text ++ codes "\n" → Hears (codes "reply " ++ text) heard
    → heard ≡ Some (tells.Replied false)
refused_heard moment code text heard h e is = is ∙ rw (stamped moment (code_text code ∷ []) text h e) (refusal (stamp moment) code)

pub replies_are_heard : RepliesAreHeard
replies_are_heard = record { accepted = accepted_heard; go = go_heard; refused = refused_heard }
