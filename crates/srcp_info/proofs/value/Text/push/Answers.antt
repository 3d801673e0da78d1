use Rattle.srcp_info.proofs.PaddedLaws.{room_after, rest_after}
use Rattle.srcp_info.proofs.value.Text.push.Goals as goal

pub invariant_of-self : goal.invariant_of-self
invariant_of-self c =
    let inside = c.self.inside in
    let h = c.self.invariant in
    let room = room_after 80 inside.len c.args.byte inside.bytes _ h.0 h.1 c.self.view_is c.requires in
    (room.0, room.1, rest_after 80 inside.len 0 c.args.byte inside.bytes h.2)
