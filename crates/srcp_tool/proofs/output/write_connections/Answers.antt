use Rattle.std.proofs.Common.{◌+◌, ◌<◌, length, drop, arith}
use Rattle.std.specs.List.{flat_map, enumerate_from}
use Rattle.srcp_script.specs.Output.{connection_lines}
use Rattle.srcp_tool.proofs.Writings.{connections_next, failed, fails_next, written_next}
use Rattle.srcp_tool.proofs.output.write_connections.Goals as goal

pub returns-in_err-write_connection : goal.returns-in_err-write_connection
returns-in_err-write_connection g c =
    let connections = c.args.connections.now in
    let index = c.loop-index.index in
    let connection = c.index-connections-index.result in
    let fault = c.in_err-write_connection.field-0.0 in
    let within : index < length connections = omega arith in
    let next = connections_next connections index connection within c.index-connections-index.is in
    failed (flat_map connection_lines (enumerate_from 1 connections)) fault _ _ _ c.from_residual.ensures.1
    (fails_next _ _ (connection_lines (index + 1, connection))
    (flat_map connection_lines (enumerate_from (index + 1 + 1) (drop (index + 1) connections)))
    fault _ _ _ c.loop-index.invariant next c.in_err-write_connection.ensures)

pub loop-index-preserved : goal.loop-index-preserved
loop-index-preserved g c =
    let connections = c.args.connections.now in
    let index = c.loop-index.index in
    let connection = c.index-connections-index.result in
    let within : index < length connections = omega arith in
    let next = connections_next connections index connection within c.index-connections-index.is in
    written_next _ _ (connection_lines (index + 1, connection))
    (flat_map connection_lines (enumerate_from (index + 1 + 1) (drop (index + 1) connections)))
    _ _ _ c.loop-index.invariant next c.in_ok-write_connection.ensures
