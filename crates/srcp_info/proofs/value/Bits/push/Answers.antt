use Rattle.std.proofs.Common.{false}
use Rattle.srcp_info.proofs.PaddedLaws.{room_after, rest_after}
use Rattle.srcp_info.proofs.value.Bits.push.Goals as goal

pub invariant_of-self : goal.invariant_of-self
invariant_of-self c =
    let inside = c.self.inside in
    let h = c.self.invariant in
    let room = room_after 29 inside.len c.args.on inside.bits _ h.0 h.1 c.self.view_is c.requires in
    (room.0, room.1, rest_after 29 inside.len false c.args.on inside.bits h.2)
