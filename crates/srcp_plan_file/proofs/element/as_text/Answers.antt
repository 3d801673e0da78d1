-- Bytes are text exactly if they pass the test.
use Rattle.std.proofs.Common.{◌≡◌, ℕ, Bool, true, false, List, Some, refl, ap}
use Rattle.std.specs.Str.{IsUtf8, is_utf8}
use Rattle.std.proofs.lemmas.Str.{IsUtf8-from_is_utf8, is_utf8-from_IsUtf8}
use Rattle.srcp_plan_file.specs.Elements.{text_of}
use Rattle.srcp_plan_file.proofs.element.as_text.Goals as goal

no_text : (bytes : List ℕ) (b : Bool) → is_utf8 bytes ≡ b → ¬ (IsUtf8 bytes) → b ≡ false
no_text bytes true is h = absurd (h (IsUtf8-from_is_utf8 bytes is))
no_text bytes false is h = refl

pub returns-in-Ok : goal.returns-in-Ok
unfolding text_of
returns-in-Ok c =
    let is : is_utf8 c.args.name.now ≡ true = is_utf8-from_IsUtf8 c.args.name.now c.in-Ok.ensures.cases.1 in
    rw is (ap Some c.in-Ok.ensures.cases.0)

pub returns-in-Err : goal.returns-in-Err
unfolding text_of
returns-in-Err c =
    let is : is_utf8 c.args.name.now ≡ false =
    no_text c.args.name.now (is_utf8 c.args.name.now) refl c.in-Err.ensures.cases.0 in
    rw is refl
