use Rattle.std.proofs.Common.{arith, ◌-◌}
use Rattle.srcp_stations.proofs.TextLaws.{found, none_open}
use Rattle.srcp_stations.proofs.text.message_in.Goals as goal

pub returns-then-bytes-start-eq60 : goal.returns-then-bytes-start-eq60
returns-then-bytes-start-eq60 c =
    found c.args.bytes.now c.loop-start.start (c.loop-start.start - 1) (omega (arith, c.loop-start-test.true))
    c.loop-start.invariant.within c.if-bytes-start-eq60.true c.loop-start.invariant.none

pub returns : goal.returns
returns c = grind (arith, none_open c.args.bytes.now)
