use Rattle.std.proofs.Common.{rules, ◌≡◌, ◌++◌, ◌-◌, ◌+◌, ap, sym, ◌∙◌, take, drop, length, arith}
use Rattle.std.specs.Prelude.{slice_range}
use Rattle.std.proofs.lemmas.List.{append-nil, with_items_is}
use borrow.Rule.Slice.PartMut.{put_mid, same_len_mid}
use Rattle.srcp_peers.proofs.RangesGrowAndShrink.{range_length, read_behind}
use Rattle.srcp_peers.proofs.queue.Queue.read_from.Goals as goal
use Rattle.srcp_peers.specs.declared.queue.TheConstants.{MOST_INCOMING}

pub returns-in-Ok : goal.returns-in-Ok
returns-in-Ok g c =
    let held = c.self.inside.end - c.self.inside.start in
    let bytes = c.deref_mut.result.now in
    let filled = c.read.new.buffer in
    let came = take MOST_INCOMING filled in
    let sized : length filled ≡ length (take (length bytes - held) (drop held bytes)) = search rules in
    let all : length bytes ≡ g.row.MOST = search rules in
    let own : length c.args.self.now ≡ held = sym (ap length c.self.view_is)
    ∙ range_length c.self.inside.buffer.items c.self.inside.start c.self.inside.end (omega arith) (omega arith) in
    let puts = read_behind bytes filled held MOST_INCOMING c.in-Ok.count (omega arith) sized (search rules) in
    let moved = ap (λ b. slice_range b 0 held) c.deref_mut.ensures.value ∙ c.move_to_front.ensures.moved ∙ c.self.view_is in
    let long = same_len_mid held (length bytes - held) bytes filled sized in
    let is = ap (λ b. slice_range b 0 (held + c.in-Ok.count)) (with_items_is c.move_to_front.new.buffer _ (long ∙ search rules))
    ∙ puts.1 ∙ ap (λ b. b ++ take c.in-Ok.count came) moved in
    (came, omega (arith, own, all, puts.0), c.in-Ok.ensures.log, (omega (arith, puts.0, c.in-Ok.ensures.count), is))

pub returns-in-Err : goal.returns-in-Err
returns-in-Err g c =
    let held = c.self.inside.end - c.self.inside.start in
    let bytes = c.deref_mut.result.now in
    let filled = c.read.new.buffer in
    let sized : length filled ≡ length (take (length bytes - held) (drop held bytes)) = search rules in
    let all : length bytes ≡ g.row.MOST = search rules in
    let own : length c.args.self.now ≡ held = sym (ap length c.self.view_is)
    ∙ range_length c.self.inside.buffer.items c.self.inside.start c.self.inside.end (omega arith) (omega arith) in
    let puts = read_behind bytes filled held MOST_INCOMING 0 (omega arith) sized (omega arith) in
    let moved = ap (λ b. slice_range b 0 held) c.deref_mut.ensures.value ∙ c.move_to_front.ensures.moved ∙ c.self.view_is in
    let long = same_len_mid held (length bytes - held) bytes filled sized in
    let end : held ≡ held + 0 = omega arith in
    let is = ap (λ b. slice_range b 0 held) (with_items_is c.move_to_front.new.buffer _ (long ∙ search rules))
    ∙ ap (slice_range (put_mid held (length bytes - held) bytes filled) 0) end ∙ puts.1 ∙ append-nil _ ∙ moved in
    (take MOST_INCOMING filled, omega (arith, own, all, puts.0), c.in-Err.ensures.log, is)
