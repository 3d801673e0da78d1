use Rattle.std.proofs.Common.{◌≡◌, ◌++◌, drop}
use Rattle.srcp_plan_file.specs.Output.{shared_blocks}
use Rattle.srcp_plan_file.proofs.print.shared.add_blocks.Given as goal

abbrev pub invariant-loop-block : goal.invariant-loop-block
invariant-loop-block l =
    l.fn.devices.items ++ shared_blocks l.other l.route.blocks.items
    ≡ l.devices.items ++ shared_blocks l.other (drop l.block-index l.route.blocks.items)
