use Rattle.srcp_rules.proofs.Names
use Names.{first_key, length, refl, [], ◌∷◌, ltb-false, device_in, functions_of, is_there}
use Names.devices
use Rattle.srcp_rules.specs.Effect.{gl_put, gl_refusals}
use Rattle.srcp_rules.proofs.ObeyLaws.{gl_row, is_not, none_applies, refused_done}
use Rattle.srcp_rules.proofs.drive.set_gl.Goals as goal

pub returns-in-Err-clause-took : goal.returns-in-Err-clause-took
returns-in-Err-clause-took g c =
    let state = g.R.Rows.state c.args.rows.now in
    rw (← refused_done (gl_refusals state c.args.sender.session c.args.drive.now) (gl_put state c.args.sender.moment c.args.drive.now ∷ [])
    c.in-Err.code c.in-Err.ensures.refusal) (record { told = c.refuse.ensures; rows = refl })

-- the locomotive is there, and no more functions are given than it has
pub replace_row-requires : goal.replace_row-requires
replace_row-requires g c =
    let buses = g.R.Rows.buses c.args.rows.now in
    let state = g.R.Rows.state c.args.rows.now in
    let drive = c.args.drive.now in
    let device = device_in devices.Gl drive.bus drive.address in
    let before = functions_of drive.bus drive.address state in
    let none = none_applies (gl_refusals state c.args.sender.session drive) c.in-Ok.ensures.refusal in
    record {
      blank = c.requires.blank;
      there =
          rw (c.key_at-key.ensures, c.device_at.ensures, c.gl.ensures)
          (c.requires.may.whole.complete (first_key device) (is_not (is_there device state) none.0) 1 c.requires.may.of.0);
      fits =
          rw (
            c.key_at-key.ensures,
            c.device_at.ensures,
            c.gl.ensures,
            c.kept_speed.ensures,
            c.functions_after.ensures,
            c.in-Ok.ensures.before,
          )
          (gl_row buses state c.args.sender.session c.args.sender.moment c.args.sender.fits drive c.requires.may
          (ltb-false (length before) (length drive.functions) none.1.0));
    }
