use Rattle.srcp_rules.proofs.NewRowLaws.{gl_rows}
use Rattle.srcp_rules.proofs.new_device.init_gl.Goals as goal

pub init_device-requires-clause-fresh : goal.init_device-requires-clause-fresh
init_device-requires-clause-fresh g c =
    let fresh =
    gl_rows (g.R.Rows.buses c.args.rows.now)
    (g.R.Rows.state
    c.args.rows.now) c.args.sender.session c.args.sender.moment c.args.sender.fits c.args.decoder.now c.requires.may in
    rw (c.gl_rows-fresh.ensures, c.device_at.ensures, c.gl-target.ensures) fresh
