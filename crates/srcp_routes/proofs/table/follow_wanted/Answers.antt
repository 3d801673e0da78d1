-- A step of the loop writes one train more.
use Rattle.std.proofs.Common.{◌≡◌, ◌<◌, ◌∙◌, length, arith}
use Rattle.srcp_routes.specs.Plan.{train_behind}
use Rattle.srcp_routes.proofs.Loops.{follow_more, written_all}
use Rattle.srcp_routes.proofs.table.follow_wanted.Goals as goal

pub loop-n-preserved : goal.loop-n-preserved
loop-n-preserved c =
    let lt : c.loop-n.n < length c.args.trains.now = omega arith in
    rw c.train_behind-train.ensures
    (follow_more c.args.routes.now c.args.sensors.now c.args.wanted.now c.args.told c.args.trains.now c.loop-n.trains
    c.loop-n.n lt c.loop-n.invariant)

pub returns : goal.returns
returns c =
    let all : c.loop-n.n ≡ length c.args.trains.now = omega arith in
    c.loop-n.invariant ∙ written_all (train_behind c.args.routes.now c.args.sensors.now c.args.wanted.now
    c.args.trains.now c.args.told) c.args.trains.now c.loop-n.n all
