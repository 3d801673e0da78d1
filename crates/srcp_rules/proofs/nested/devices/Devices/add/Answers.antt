use Rattle.srcp_rules.proofs.Names.{Some, box_value, refl, sym, subst, ◌∙◌, IsIn, AreOfDevice}
use Rattle.srcp_rules.proofs.DeviceLaws.{address_of, new_rows, slot-devices, slot-rows}
use Rattle.srcp_rules.proofs.TaggedLaws.{puts}
use Rattle.srcp_rules.proofs.nested.devices.Devices.add.Goals as goal

pub returns : goal.returns
returns g c =
    let key = c.args.first.now.shown.key in
    let added = c.args.added.now in
    let slots = c.grow.new.slots.items in
    let es = c.args.self.now in
    let view = c.in_ok-grow.ensures.same ∙ c.self.view_is in
    let is = c.in-Ok.ensures.ok ∙ c.of.ensures in
    record {
      ok =
          slot-rows key.bus key.group es c.requires.devices box_value slots view key.address (Some c.in-Ok.device)
          c.in_ok-grow.ensures.there (puts address_of (IsIn key.bus key.group) key.address added c.requires.device.each)
          (is ∙ new_rows key.bus key.group es c.requires.devices key (refl, refl) c.requires.free added c.requires.device);
      err = tt;
      devices =
          slot-devices key.bus key.group es c.requires.devices box_value slots view key.address (Some c.in-Ok.device)
          c.in_ok-grow.ensures.there (subst (AreOfDevice key.bus key.group key.address) (sym is) c.requires.device);
    }
