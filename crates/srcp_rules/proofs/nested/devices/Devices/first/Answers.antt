use Rattle.srcp_rules.proofs.Names.{option_copied, slice_get, box_value, ℕ, ap, ◌∙◌, option_map, numbered, State}
use Rattle.srcp_rules.proofs.DeviceLaws.{first_device, no_first_device}
use Rattle.srcp_rules.proofs.nested.devices.Devices.first.Goals as goal

pub returns : goal.returns
returns g c =
    let of = c.requires.devices in
    c.first.ensures.value
    ∙ ap (λ (rows : State). slice_get rows 0) c.as_slice.ensures
    ∙ first_device of.0 of.1 c.args.self.now of.2.each _
    (c.in_ok-first_device.ensures
    ∙ ap (λ slots. option_map (λ (e : ℕ × State). e.1) (slice_get (numbered box_value 0 slots) 0)) c.deref.ensures.value
    ∙ ap (λ es. option_map (λ (e : ℕ × State). e.1) (slice_get es 0)) c.self.view_is)

pub returns-in_err-first_device : goal.returns-in_err-first_device
returns-in_err-first_device g c =
    ap option_copied c.from_residual.ensures
    ∙ no_first_device c.args.self.now
    (c.in_err-first_device.ensures
    ∙ ap (λ slots. option_map (λ (e : ℕ × State). e.1) (slice_get (numbered box_value 0 slots) 0)) c.deref.ensures.value
    ∙ ap (λ es. option_map (λ (e : ℕ × State). e.1) (slice_get es 0)) c.self.view_is)
