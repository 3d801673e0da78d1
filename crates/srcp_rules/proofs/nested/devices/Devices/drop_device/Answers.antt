use Rattle.srcp_rules.proofs.Names.{None, box_value, refl, ap, ◌∙◌, entry_at, device_rows}
use Rattle.srcp_rules.proofs.NumberedLaws.{entry_at-past}
use Rattle.srcp_rules.proofs.DeviceLaws.{devices-absent, drops_here, gone, slot-devices, slot-rows}
use Rattle.srcp_rules.proofs.nested.devices.Devices.drop_device.Goals as goal

pub returns : goal.returns
returns g c =
    let device = c.args.device in
    let es = c.args.self.now in
    let slots = c.self.inside.slots.items in
    let within = c.in-Some.ensures.item.3.0 in
    record {
      rows =
          slot-rows device.bus device.group es c.requires box_value slots c.self.view_is device.address None within
          (drops_here device.bus device.group es c.requires device)
          (gone device.bus device.group es c.requires device (refl, refl) (entry_at device.address es) refl);
      devices = slot-devices device.bus device.group es c.requires box_value slots c.self.view_is device.address None within tt;
    }

-- past the last slot there is no device
pub returns-in_default-clause-rows : goal.returns-in_default-clause-rows
returns-in_default-clause-rows g c =
    let device = c.args.device in
    ap device_rows c.self.view_is
    ∙ devices-absent device.bus device.group c.args.self.now c.requires device
    (entry_at-past box_value device.address c.self.inside.slots.items c.self.view_is c.in_default.ensures.item.3)
