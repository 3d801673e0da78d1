use Rattle.std.proofs.Common.{◌≡◌, ◌-◌, length, ap, sym, drop, ◌∙◌, arith}
use Rattle.srcp_peers.proofs.RangesGrowAndShrink.{begins_later, range_length}
use Rattle.srcp_peers.proofs.queue.Queue.drop_front.Goals as goal

pub returns-else-self : goal.returns-else-self
returns-else-self g c =
    let bytes = c.self.inside.buffer.items in
    let start = c.self.inside.start in
    let end = c.self.inside.end in
    let long : length c.args.self.now ≡ end - start = sym (ap length c.self.view_is)
    ∙ range_length bytes start end (omega arith) (omega arith) in
    begins_later bytes start end c.args.count (omega (arith, long)) ∙ ap (drop c.args.count) c.self.view_is
