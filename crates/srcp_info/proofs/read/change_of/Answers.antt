use Rattle.std.proofs.Common.{◌∙◌, ap, sym, inl, inr, []}
use Rattle.srcp_info.specs.declared.scan.InfoKind.TheVariants.{Term}
use Rattle.srcp_info.specs.declared.change.Change.TheVariants.{Put, Gone}
use Rattle.srcp_info.specs.Read.{kind_code}
use Rattle.srcp_info.proofs.TellsLaws.{kind_of_value, value_kind, value_not_term, by_change, device_fits, text_of_line, text_of_row}
use Rattle.srcp_info.proofs.read.change_of.Goals as goal

pub returns-in-Term : goal.returns-in-Term
returns-in-Term c = by_change _
    (λ shown is.
    let key = shown.key in
    let fits = device_fits key.group key.bus key.address is.well_formed.address in
    let words = text_of_row c.args.line.now shown is in
    let head = c.next_head.ensures shown.stamp (kind_of_value shown.value) key.bus key.group _ is.well_formed.moment fits.0 words in
    absurd (value_not_term shown.value (sym (ap (λ h. h.kind) head.0) ∙ c.in-Term.is)))
    (λ moment device is.
    let fits = device_fits device.group device.bus device.address is.well_formed.1 in
    let words = text_of_line c.args.line.now (Gone moment device) is in
    let head = c.next_head.ensures moment Term device.bus device.group _ is.well_formed.0 fits.0 words in
    let address = c.next_number-address.ensures device.address [] fits.1 head.1 in
    λ i. Gone (head.0 i).moment (record { bus = (head.0 i).bus; group = (head.0 i).group; address = address.0 i }))

pub returns-in-State : goal.returns-in-State
returns-in-State c = by_change _
    (λ shown is.
    let key = shown.key in
    let fits = device_fits key.group key.bus key.address is.well_formed.address in
    let words = text_of_row c.args.line.now shown is in
    let head = c.next_head.ensures shown.stamp (kind_of_value shown.value) key.bus key.group _ is.well_formed.moment fits.0 words in
    let told =
    c.read_value-tail.ensures shown is.well_formed (sym (ap (λ h. h.group) head.0))
    (value_kind shown.value ∙ ap kind_code (sym (ap (λ h. h.kind) head.0))) head.1 in
    λ i.
    Put (record {
      key = record { bus = (head.0 i).bus; group = (head.0 i).group; address = (told i).address; port = (told i).port };
      stamp = (head.0 i).moment;
      value = (told i).value;
    }))
    (λ moment device is.
    let fits = device_fits device.group device.bus device.address is.well_formed.1 in
    let words = text_of_line c.args.line.now (Gone moment device) is in
    let kind = ap (λ h. h.kind) (c.next_head.ensures moment Term device.bus device.group _ is.well_formed.0 fits.0 words).0 in
    absurd (elim c.in-State.is [ inl e ↦ cc | inr e ↦ cc ]))
