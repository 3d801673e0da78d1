use Rattle.std.proofs.Common.{rules, ◌≡◌, ◌∙◌, ◌++◌, ◌∷◌, [], ap, sym}
use Rattle.std.specs.Option.{option_copied}
use Rattle.srcp_script.specs.Script.{unescaped, after, parts_behind}
use Rattle.srcp_script.proofs.Escapes.{behind, behind_after, unescaped_escape}
use Rattle.srcp_script.proofs.script.escape.unescape.Goals as goal

pub loop-bytes-preserved : goal.loop-bytes-preserved
loop-bytes-preserved c =
    let had = c.loop-bytes.bytes.items in
    let plain = c.cut_at.result.0.now in
    let escape = c.in-Some.escape.now in
    let byte = c.in_ok-byte.byte in
    let cut = c.cut_at.ensures.parts ∙ ap (λ more. plain ∷ parts_behind 92 (option_copied more)) c.in-Some.is in
    let first : unescaped (92 ∷ escape) ≡ after byte (unescaped c.in_ok-byte.behind.now) = search rules in
    let items : c.push.new.self.items ≡ had ++ plain ++ byte ∷ [] = search rules in
    c.loop-bytes.invariant ∙ unescaped_escape c.loop-bytes.rest.now plain escape had cut ∙ ap (behind (had ++ plain)) first
    ∙ behind_after (had ++ plain) byte (unescaped c.in_ok-byte.behind.now)
    ∙ ap (λ bytes. behind bytes (unescaped c.in_ok-byte.behind.now)) (sym items)
