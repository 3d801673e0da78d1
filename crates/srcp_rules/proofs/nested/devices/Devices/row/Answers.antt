use Rattle.srcp_rules.proofs.Names.{option_copied, sym, ap, ◌∙◌}
use Rattle.srcp_rules.proofs.DeviceLaws.{found_device, row_at-device, row_at-no_device}
use Rattle.srcp_rules.proofs.nested.devices.Devices.row.Goals as goal

pub row-requires : goal.row-requires
row-requires g c =
    let key = c.args.key.now in
    (c.requires.fits, found_device key.bus key.group c.args.self.now c.requires.devices key.address _ (sym c.in_ok-device.ensures))

pub returns : goal.returns
returns g c =
    let key = c.args.key.now in
    c.row.ensures ∙ row_at-device key.bus key.group c.args.self.now c.requires.devices key _ c.in_ok-device.ensures

pub returns-in_err-device : goal.returns-in_err-device
returns-in_err-device g c =
    let key = c.args.key.now in
    ap option_copied c.from_residual.ensures
    ∙ row_at-no_device key.bus key.group c.args.self.now c.requires.devices key c.in_err-device.ensures
