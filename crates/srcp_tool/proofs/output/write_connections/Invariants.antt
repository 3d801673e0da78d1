use Rattle.std.proofs.Common.{◌+◌, drop}
use Rattle.std.specs.List.{flat_map, enumerate_from}
use Rattle.srcp_script.specs.Output.{connection_lines}
use Rattle.srcp_tool.proofs.Writings.{HasWritten}
use Rattle.srcp_tool.proofs.output.write_connections.Given as goal

abbrev pub invariant-loop-index : goal.invariant-loop-index
invariant-loop-index g l =
    HasWritten (flat_map connection_lines (enumerate_from 1 l.connections))
    (flat_map connection_lines (enumerate_from (l.index + 1) (drop l.index l.connections)))
    (g.W.Write.contents l.fn.writer) (g.W.Write.contents l.writer)
