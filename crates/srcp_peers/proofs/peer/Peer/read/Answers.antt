use Rattle.std.proofs.Common.{◌≡◌, ◌∙◌, ◌++◌, ◌∷◌, [], Ok, rules, ap}
use Rattle.std.specs.Prelude.{OnErr}
use Rattle.std.proofs.lemmas.List.{nil_from_length}
use Rattle.srcp_door.specs.Calls.{ReadCall}
use Rattle.srcp_door.specs.declared.door.Got.TheVariants as got
use Rattle.srcp_door.specs.Pacing.{line_after}
use Rattle.srcp_peers.specs.Peers.{MayEnd, MayFail}
use Rattle.srcp_peers.specs.Steps.{Answers}
use Rattle.srcp_peers.specs.Turns.{got_bytes}
use Rattle.srcp_peers.proofs.PeersStayKept.{kept_got}
use Rattle.srcp_peers.proofs.peer.Peer.read.Goals.{then-is_empty, else-is_empty}
use Rattle.srcp_peers.proofs.peer.Peer.read.Goals as goal

pub returns-clause-kept : goal.returns-clause-kept
returns-clause-kept g c =
    let p = c.args.self.now in
    let q = c.if-is_empty.self in
    let answer = c.if-is_empty.got in
    let buffer = c.if-is_empty.buffer in
    let log = c.args.system.now.log.steps in
    let number : q.number ≡ p.number = search rules in
    let bytes : p.incoming ≡ got_bytes answer buffer ++ q.incoming =
    elim c.if-is_empty.branch [ then-is_empty w ↦ search rules | else-is_empty w ↦ search rules ] in
    let line : q.share.line ≡ line_after p.share.line (got_bytes answer buffer) =
    elim c.if-is_empty.branch [ then-is_empty w ↦ search rules | else-is_empty w ↦ search rules ] in
    let ended : answer ≡ Ok got.Ended → MayEnd p = elim c.if-is_empty.branch [
      | then-is_empty w ↦ λ e. w.reported_end-got.ensures.ended (search rules) (nil_from_length p.incoming (search rules))
      | else-is_empty w ↦ search rules
    ] in
    let failed : OnErr answer (MayFail p) =
    elim c.if-is_empty.branch [ then-is_empty w ↦ search rules | else-is_empty w ↦ search rules ] in
    kept_got log c.answer.new.self.log.steps p q answer buffer c.requires.here (search rules) bytes line ended failed
    (c.answer.ensures.log ∙ ap (λ n. log ++ Answers (ReadCall n answer buffer) ∷ []) number) c.requires.kept
