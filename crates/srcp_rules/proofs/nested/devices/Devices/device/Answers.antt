use Rattle.srcp_rules.proofs.Names.{option_copied, slice_index_or, box_value, Some, None, sym, ap, ◌∙◌}
use Rattle.srcp_rules.proofs.NumberedLaws.{entry_at-past, entry_at-slot}
use Rattle.srcp_rules.proofs.nested.devices.Devices.device.Goals as goal

pub returns-in-Some : goal.returns-in-Some
returns-in-Some g c =
    ap Some c.deref-in-Some.ensures
    ∙ entry_at-slot box_value c.args.address c.self.inside.slots.items c.self.view_is
    (sym c.in-Some.is ∙ c.in_ok-device.ensures.lookup.3.1 None
    ∙ ap (λ slots. slice_index_or slots c.args.address None) c.deref.ensures.value)

pub returns-in-None : goal.returns-in-None
returns-in-None g c =
    entry_at-slot box_value c.args.address c.self.inside.slots.items c.self.view_is
    (sym c.in-None.is ∙ c.in_ok-device.ensures.lookup.3.1 None
    ∙ ap (λ slots. slice_index_or slots c.args.address None) c.deref.ensures.value)

pub returns-in_err-device : goal.returns-in_err-device
returns-in_err-device g c =
    ap option_copied c.from_residual.ensures
    ∙ entry_at-past box_value c.args.address c.self.inside.slots.items c.self.view_is
    (rw c.deref.ensures.value at c.in_err-device.ensures.lookup.3)
