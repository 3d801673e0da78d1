use Rattle.std.proofs.Common.{◌≡◌, ◌++◌, ℕ, drop, length, rules, subst, sym, take}
use Rattle.std.proofs.lemmas.List.{take_min}
use Rattle.srcp_door.specs.Pacing.{Allows}
use Rattle.srcp_peers.specs.Reports.{piece_of}
use Rattle.srcp_peers.specs.Turns.{own_pace}
use Rattle.srcp_peers.proofs.peer.Peer.deliver_input.Goals as goal

pub returns-clause-allows : goal.returns-clause-allows
returns-clause-allows c =
    let turn = c.args.turn.now in
    let p = c.args.self.now in
    let count = c.allow-count.result in
    let piece = piece_of p (length c.args.buffer.now) in
    let h = c.allow-count.ensures.allows in
    let long : length (take count (c.copy_from_slice.new.self ++ drop count c.args.buffer.now)) ≡ count = search rules in
    subst (λ (n : ℕ). Allows (own_pace c.args.waits turn.pace) p.share piece n) (sym long)
    (search (rules, h, take_min))
