use Rattle.std.proofs.Common.{◌≡◌, ◌+◌, refl, ◌∙◌, ap, not, length, None}
use Rattle.std.specs.BTreeMap.{insert_entry, is_at}
use Rattle.std.specs.List.{AllByRecursion, filter}
use Rattle.std.specs.List.Sorted.{IsStrictlySortedBy}
use Rattle.std.specs.Map.{keys_of, values_of, lookup}
use Rattle.srcp_info.specs.declared.key.Device.{Device}
use Rattle.srcp_info.specs.declared.change.Shown.{Shown}
use Rattle.srcp_info.specs.declared.change.Change.{Change}
use Rattle.srcp_info.specs.declared.change.Change.TheVariants.{Put, Gone}
use Rattle.srcp_info.specs.Key.{owns}
use Rattle.srcp_info.specs.Client.{AreAtKeys, changed, put}
use Rattle.srcp_info.specs.WellFormed.{IsWellFormed, IsWellFormedShown}
use Rattle.srcp_info.proofs.KeyLaws.{derived_key}
use Rattle.srcp_info.proofs.ClientLaws.{all_filter, well_formed_changed}
use Rattle.srcp_info.proofs.MirrorLaws.{Entries, same_order, at_keys-insert, length-insert, rising_values, values-filter, values-insert}
use Rattle.srcp_info.proofs.mirror.Mirror.apply.Goals as goal

abbrev AreRows : Entries → Type 0
AreRows entries = AreAtKeys entries × AllByRecursion IsWellFormedShown (values_of entries)

-- rows that are changed as a client changes them can be told
rows_after : (change : Change) (old new : Entries) → IsWellFormed change → AreAtKeys new
    → values_of new ≡ changed change (values_of old) → AreRows old → AreRows new
rows_after change old new told at_keys now h =
    (at_keys, rw now (well_formed_changed change (values_of old) told h.1))

-- the row is put as a client puts it
row_put : (shown : Shown) (old new : Entries) → IsStrictlySortedBy derived_key (keys_of old)
    → new ≡ insert_entry derived_key old shown.key shown → AreAtKeys old
    → AreAtKeys new × (values_of new ≡ put shown (values_of old))
row_put shown old new ordered is h =
    let now = rw same_order at is in
    (rw now (at_keys-insert shown old h), rw now (values-insert shown old h (rising_values old h (rw same_order at ordered))))

-- a row whose key is not there is one more
one_more : (shown : Shown) (old : Entries) → IsStrictlySortedBy derived_key (keys_of old) → AreAtKeys old
    → lookup (is_at (derived_key shown.key)) old ≡ None → length (put shown (values_of old)) ≡ length (values_of old) + 1
one_more shown old ordered h none =
    rw (← (row_put shown old _ ordered refl h).1, same_order) (length-insert shown.key shown old (rw same_order at none))

-- the device's rows are taken out as a client takes them out
device_gone : (device : Device) (old new : Entries) → new ≡ filter (λ e. not (owns device e.0)) old → AreAtKeys old
    → AreAtKeys new × (values_of new ≡ filter (λ row. not (owns device row.key)) (values_of old))
device_gone device old new is h =
    (rw is (all_filter (λ e. e.0 ≡ e.1.key) (λ e. not (owns device e.0)) old h), rw is (values-filter (λ k. not (owns device k)) old h))

pub returns-in_default-clause-memory : goal.returns-in_default-clause-memory
returns-in_default-clause-memory c same =
    let more = one_more c.in-Some-Put.shown _ c.insert.ensures.was_ordered c.self.invariant.0 c.in_default.ensures.absent in
    (c.in-Some-Put.shown, rw c.in-Some-Put.field-0-is at c.in-Some-Put.ensures, rw (← c.self.view_is) more)

pub invariant_of-self-in-Some-Put : goal.invariant_of-self-in-Some-Put
invariant_of-self-in-Some-Put c =
    let shown = c.in-Some-Put.shown in
    let now = row_put shown _ _ c.insert.ensures.was_ordered c.in-Ok.ensures.entries c.self.invariant.0 in
    let told = rw c.in-Some-Put.field-0-is at c.in-Some-Put.ensures in
    rows_after (Put shown) _ _ told.well_formed now.0 now.1 c.self.invariant

pub returns-in-Ok-clause-ok : goal.returns-in-Ok-clause-ok
returns-in-Ok-clause-ok c =
    let shown = c.in-Some-Put.shown in
    let now = row_put shown _ _ c.insert.ensures.was_ordered c.in-Ok.ensures.entries c.self.invariant.0 in
    (Put shown, rw c.in-Some-Put.field-0-is at c.in-Some-Put.ensures, now.1 ∙ ap (put shown) c.self.view_is)

pub invariant_of-self-in-Some-Gone : goal.invariant_of-self-in-Some-Gone
invariant_of-self-in-Some-Gone c =
    let gone = Gone c.in-Some-Gone.field-0-0 c.in-Some-Gone.device in
    let now = device_gone c.in-Some-Gone.device _ _ c.drop_device.ensures c.self.invariant.0 in
    let told = rw c.in-Some-Gone.field-0-is at c.in-Some-Gone.ensures in
    rows_after gone _ _ told.well_formed now.0 now.1 c.self.invariant

pub returns-in-Some-Gone-clause-ok : goal.returns-in-Some-Gone-clause-ok
returns-in-Some-Gone-clause-ok c =
    let gone = Gone c.in-Some-Gone.field-0-0 c.in-Some-Gone.device in
    let now = device_gone c.in-Some-Gone.device _ _ c.drop_device.ensures c.self.invariant.0 in
    (gone, rw c.in-Some-Gone.field-0-is at c.in-Some-Gone.ensures, now.1 ∙ ap (changed gone) c.self.view_is)
