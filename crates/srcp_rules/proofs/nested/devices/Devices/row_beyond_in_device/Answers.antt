use Rattle.std.proofs.Common.{sym}
use Rattle.srcp_rules.proofs.DeviceLaws.{found_device}
use Rattle.srcp_rules.proofs.nested.devices.Devices.row_beyond_in_device.Goals as goal

pub row_after-requires : goal.row_after-requires
row_after-requires g c =
    let last = c.args.last.now in
    (c.requires.fits, found_device last.bus last.group c.args.self.now c.requires.devices last.address _ (sym c.in_ok-device.ensures))
