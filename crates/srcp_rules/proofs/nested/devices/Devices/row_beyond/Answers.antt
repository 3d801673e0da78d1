use Rattle.srcp_rules.proofs.Names
use Names.{option_copied, slice_get, box_value, ◌≡◌, ℕ, ◌+◌, List, Option, drop, sym, ap, subst, ◌∙◌, arith, AllByRecursion}
use Names.{Key, numbered, State, AreOfDevice}
use Rattle.std.proofs.Common.{Box, Global}
use Rattle.srcp_rules.specs.Nested.{AreDevices}
use Rattle.srcp_rules.proofs.NumberedLaws.{each-from_place}
use Rattle.srcp_rules.proofs.DeviceLaws.{first_device, no_first_device, row_after-slots}
use Rattle.srcp_rules.proofs.nested.devices.Devices.row_beyond.Goals as goal

module _ (last : Key) {es : List (ℕ × State)} (slots : List (Option (Box State Global)))
    (are : AreDevices last.bus last.group es) (view : numbered box_value 0 slots ≡ es) where
  each : AllByRecursion (λ e. AreOfDevice last.bus last.group e.0 e.1)
      (numbered box_value (last.address + 1) (drop (last.address + 1) slots))
  each = each-from_place box_value (λ e. AreOfDevice last.bus last.group e.0 e.1) (last.address + 1) 0 (last.address + 1)
      (omega arith) slots (subst (AreDevices last.bus last.group) (sym view) are).each

pub returns-in-Some : goal.returns-in-Some
returns-in-Some g c =
    row_after-slots box_value c.args.last.now c.self.inside.slots.items c.self.view_is c.requires.devices c.in-Some.ensures

pub returns : goal.returns
returns g c =
    let last = c.args.last.now in
    let slots = c.self.inside.slots.items in
    c.first.ensures.value
    ∙ ap (λ (rows : State). slice_get rows 0) c.as_slice.ensures
    ∙ first_device last.bus last.group _ (each last slots c.requires.devices c.self.view_is) _
    (rw (c.deref.ensures.value) at c.in_ok-first_device.ensures)
    ∙ row_after-slots box_value last slots c.self.view_is c.requires.devices c.in_default.ensures

pub returns-in_err-first_device : goal.returns-in_err-first_device
returns-in_err-first_device g c =
    let last = c.args.last.now in
    let slots = c.self.inside.slots.items in
    ap option_copied c.from_residual.ensures
    ∙ no_first_device _
    (rw (c.deref.ensures.value) at c.in_err-first_device.ensures)
    ∙ row_after-slots box_value last slots c.self.view_is c.requires.devices c.in_default.ensures
