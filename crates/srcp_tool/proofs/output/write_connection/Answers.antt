use Rattle.std.proofs.Common.{◌++◌, Err}
use Rattle.srcp_script.specs.Output.{connection_line, ended}
use Rattle.srcp_tool.specs.Output.{WritesText}
use Rattle.srcp_tool.proofs.Writings.{failed, front_of_more, written_behind}
use Rattle.srcp_tool.proofs.output.write_connection.Goals as goal

pub returns-in_err-write_whole : goal.returns-in_err-write_whole
returns-in_err-write_whole g c =
    let line = connection_line c.args.number c.args.conn.now in
    let text = line ++ ended c.args.conn.now.sent in
    let fault = c.in_err-write_whole.field-0.0 in
    failed text fault _ _ _ c.from_residual.ensures.1
    (front_of_more line (ended c.args.conn.now.sent) fault _ _
    (rw (← c.connection_line-line.ensures, ← c.deref.ensures.0) c.in_err-write_whole.ensures))

pub returns-in_err-write_whole-2 : goal.returns-in_err-write_whole-2
returns-in_err-write_whole-2 g c =
    let line = connection_line c.args.number c.args.conn.now in
    let sent = c.args.conn.now.sent in
    let end = c.line_end-end.result.now in
    let fault = c.in_err-write_whole-2.field-0.0 in
    let whole = rw c.as_slice-sent.ensures at c.line_end-end.ensures in
    let front = rw (c.deref.ensures.0, c.connection_line-line.ensures) at c.in_ok-write_whole.ensures in
    let failure = rw c.as_slice-sent.ensures at c.in_err-write_whole-2.ensures in
    let behind : WritesText (ended sent) (Err fault) _ _ = rw (← whole) (front_of_more sent end fault _ _ failure) in
    failed (line ++ ended sent) fault _ _ _ c.from_residual-in_err-write_whole-2.ensures.1
    (written_behind line (ended sent) (Err fault) _ _ _ front behind)

pub returns : goal.returns
returns g c =
    let line = connection_line c.args.number c.args.conn.now in
    let sent = c.args.conn.now.sent in
    let end = c.line_end-end.result.now in
    let whole = rw c.as_slice-sent.ensures at c.line_end-end.ensures in
    let front = rw (c.deref.ensures.0, c.connection_line-line.ensures) at c.in_ok-write_whole.ensures in
    let next = rw c.as_slice-sent.ensures at c.in_ok-write_whole-2.ensures in
    let behind : WritesText (ended sent) c.write_whole-3.result _ _ =
    rw (← whole) (written_behind sent end _ _ _ _ next c.write_whole-3.ensures) in
    written_behind line (ended sent) _ _ _ _ front behind
