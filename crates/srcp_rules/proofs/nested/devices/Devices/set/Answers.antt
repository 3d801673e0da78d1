use Rattle.srcp_rules.proofs.Names
use Names.{Some, None, [], ◌∷◌, is_some, box_value, ◌≡◌, refl, sym, ap, subst, ◌∙◌, true≢false, put_row, option_map_or, IsIn, AreOfDevice}
use Names.{entry_at}
use Rattle.std.specs.Box.{with_value}
use Rattle.srcp_rules.proofs.NumberedLaws.{entry_at-past, entry_at-slot}
use Rattle.srcp_rules.proofs.DeviceLaws.{address_of, device-put_row, found_device, row_at-device, row_at-no_device, slot-devices, slot-rows}
use Rattle.srcp_rules.proofs.DeviceLaws.{whole}
use Rattle.srcp_rules.proofs.TaggedLaws.{puts}
use Rattle.srcp_rules.proofs.nested.devices.Devices.set.Goals as goal

pub set-requires : goal.set-requires
set-requires g c =
    let key = c.args.row.now.shown.key in
    let found : Some c.deref_mut.result.now ≡ entry_at key.address c.args.self.now =
    ap Some c.deref_mut.ensures.value
    ∙ entry_at-slot box_value key.address c.self.inside.slots.items c.self.view_is
    (sym c.in-Some-slot.is ∙ c.in-Some.ensures.item.3.1 None) in (
      c.requires.fits,
      (
        (found_device key.bus key.group c.args.self.now c.requires.devices key.address _ (sym found)).rising,
        ap is_some (row_at-device key.bus key.group c.args.self.now c.requires.devices key _ found) ∙ c.requires.there,
      ),
    )

pub returns : goal.returns
returns g c =
    let row = c.args.row.now in
    let key = row.shown.key in
    let es = c.args.self.now in
    let slots = c.self.inside.slots.items in
    let after = Some (with_value c.in-Some-slot.device c.set.new.self) in
    let within = c.in-Some.ensures.item.3.0 in
    let found : Some c.deref_mut.result.now ≡ entry_at key.address es =
    ap Some c.deref_mut.ensures.value
    ∙ entry_at-slot box_value key.address slots c.self.view_is (sym c.in-Some-slot.is ∙ c.in-Some.ensures.item.3.1 None) in
    record {
      rows =
          slot-rows key.bus key.group es c.requires.devices box_value slots c.self.view_is key.address after within
          (puts address_of (IsIn key.bus key.group) key.address (row ∷ []) (((refl, refl), refl), tt))
          (c.set.ensures ∙ ap (λ o. put_row row (option_map_or whole o [])) found);
      devices =
          slot-devices key.bus key.group es c.requires.devices box_value slots c.self.view_is key.address after within
          (subst (AreOfDevice key.bus key.group key.address) (sym c.set.ensures)
          (device-put_row key.bus key.group key.address row c.deref_mut.result.now (refl, refl) refl
          (found_device key.bus key.group es c.requires.devices key.address _ (sym found))));
    }

-- the row is there, and so is its device
pub returns-in_default-clause-rows : goal.returns-in_default-clause-rows
returns-in_default-clause-rows g c =
    let key = c.args.row.now.shown.key in
    absurd (true≢false
    (sym c.requires.there
    ∙ sym (ap is_some
    (row_at-no_device key.bus key.group c.args.self.now c.requires.devices key
    (entry_at-past box_value key.address c.self.inside.slots.items c.self.view_is c.in_default.ensures.item.3)))))

pub returns-in_default-slot-clause-rows : goal.returns-in_default-slot-clause-rows
returns-in_default-slot-clause-rows g c =
    let key = c.args.row.now.shown.key in
    absurd (true≢false
    (sym c.requires.there
    ∙ sym (ap is_some
    (row_at-no_device key.bus key.group c.args.self.now c.requires.devices key
    (entry_at-slot box_value key.address c.self.inside.slots.items c.self.view_is
    (sym c.in_default-slot.is ∙ c.in-Some.ensures.item.3.1 None))))))
