use Rattle.std.proofs.Common.{◌≡◌, true, false, IsUtf8, Err, refl, rules}
use Rattle.std.proofs.lemmas.Str.{IsUtf8-from_is_utf8, is_utf8-from_IsUtf8}
use Rattle.std.specs.Str.{is_utf8}
use Rattle.srcp_layout_file.specs.Member.{document}
use Rattle.srcp_layout_file.proofs.member.read_members.Goals as goal

pub returns-in-Ok : goal.returns-in-Ok
returns-in-Ok g c =
    let ok = c.in-Ok.ensures.ok in
    rw (is_utf8-from_IsUtf8 c.args.bytes.now ok.0, ok.1) refl

pub returns-in-Err-2 : goal.returns-in-Err-2
returns-in-Err-2 g c other_fault =
    let text = c.args.bytes.now in
    let not_toml = c.args.not_toml in
    let other = λ (e : IsUtf8 text). c.in-Err.ensures.refused (search rules) e in
    elim (is_utf8 text) as (λ b. is_utf8 text ≡ b → document not_toml text ≡ Err not_toml) [
      | true ↦ λ h. rw (h, other (IsUtf8-from_is_utf8 text h))
      | false ↦ λ h. rw h
    ] refl
