use Rattle.srcp_rules.proofs.Names
use Names.{first_key, [], ◌∷◌, ◌+◌, refl, refusals, device_in, is_there, put_of}
use Names.devices
use Rattle.srcp_rules.specs.Effect.{row_of_port}
use Rattle.srcp_rules.proofs.ObeyLaws.{ga_row, is_not, none_applies, refused_done}
use Rattle.srcp_rules.proofs.drive.set_ga.Goals as goal

pub replace_row-requires : goal.replace_row-requires
replace_row-requires g c =
    let buses = g.R.Rows.buses c.args.rows.now in
    let state = g.R.Rows.state c.args.rows.now in
    let switch = c.args.switch.now in
    let device = device_in devices.Ga switch.bus switch.address in
    let none =
    none_applies (refusals state c.args.sender.session devices.Ga switch.bus switch.address)
    (rw (c.ga-target.ensures) at c.in_default.ensures) in
    record {
      blank = c.requires.blank;
      there =
          rw (c.key_at-key.ensures, c.device_at.ensures, c.ga-target.ensures)
          (c.requires.may.whole.complete (first_key device) (is_not (is_there device state) none.0) (1 + switch.port)
          c.requires.may.of.0.0);
      fits =
          rw (c.key_at-key.ensures, c.device_at.ensures, c.ga-target.ensures, c.port_end-due.ensures)
          (ga_row buses state c.args.sender.session c.args.sender.moment c.args.sender.fits switch c.requires.may);
    }

pub returns-in-Some-clause-took : goal.returns-in-Some-clause-took
returns-in-Some-clause-took g c =
    let state = g.R.Rows.state c.args.rows.now in
    let refused = refusals state c.args.sender.session devices.Ga c.args.switch.now.bus c.args.switch.now.address in
    rw (← refused_done refused (put_of (row_of_port c.args.sender.moment c.args.switch.now) ∷ []) c.in-Some.code
    (rw (c.ga-target.ensures) at c.in-Some.ensures)) (record { told = c.refuse.ensures; rows = refl })
