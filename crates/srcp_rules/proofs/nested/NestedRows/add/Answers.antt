use Rattle.srcp_rules.proofs.Names
use Names.{◌≡◌, List, [], Some, is_some, slice_get, sym, ap, subst, ◌∙◌, true≢false, AllByRecursion, Device, Row, device_of, Bus, key_at}
use Names.{State, AreNewRowsOf, Kept, put_rows, weaken}
use Rattle.srcp_rules.proofs.NewDeviceLaws.{IsNew, is_new}
use Rattle.srcp_rules.proofs.NestedLaws.{Stays, changed-bus, comes, found_bus, has_record, layout-set, puts_bus, row_at-bus, stays-put_rows}
use Rattle.std.proofs.lemmas.Result.{on_err_weaker, on_ok_weaker}
use Rattle.srcp_rules.proofs.PutRowsLaws.{added_or}
use Rattle.srcp_rules.proofs.nested.NestedRows.add.Goals as goal

-- the rows are all of a device that is new to what the record keeps
newly : {was kept : Kept} {device : Device} {first : Row} {added : State} → was ≡ kept → Some first ≡ slice_get added 0
    → AreNewRowsOf kept.buses kept.state device added → IsNew was.buses was.state first added
newly {was} {kept} {device} {first} {added} is e h =
    is_new was.buses was.state device first added e (subst (λ (k : Kept). AreNewRowsOf k.buses k.state device added) (sym is) h)

-- and of its bus
on_bus : {buses : List Bus} {state : State} {first : Row} {added : State} → IsNew buses state first added
    → AllByRecursion (λ row. row.shown.key.bus ≡ first.shown.key.bus) added
on_bus {first} {added} new = weaken added new.device.each (λ row t. t.0.0)

pub add-requires : goal.add-requires
add-requires c =
    let device = device_of c.in-Some.first.now.shown.key in
    let found = c.in-Some-get_mut.ensures.value in
    let new = newly c.self.view_is c.in-Some.ensures.value c.requires.1 in
    record {
      bus = found_bus c.self.invariant found;
      comes = comes c.self.invariant device new.count (new.free 0);
      device = new.device;
      few = new.few;
      free = λ port. ap is_some (row_at-bus c.self.invariant (key_at device port) found) ∙ new.free port;
    }

-- a bus of the layout has its record
pub unreachable-requires : goal.unreachable-requires
unreachable-requires c =
    let first = c.in-Some.first.now in
    let new = newly c.self.view_is c.in-Some.ensures.value c.requires.1 in
    true≢false (sym (has_record c.self.invariant (device_of first.shown.key) new.count) ∙ sym (ap is_some c.in-None.ensures.value))

pub invariant_of-self : goal.invariant_of-self
invariant_of-self c =
    let added = c.args.added.now in
    let new = newly c.self.view_is c.in-Some.ensures.value c.requires.1 in
    let after = c.add.new.self in
    let held = c.get_mut.follows.holds after in
    let found = c.in-Some-get_mut.ensures.value in
    layout-set c.self.invariant _ after found held.0 held.4 c.add.ensures.bus
    (added_or (Stays c.self.invariant) added _ _ c.add.result
    (on_ok_weaker c.add.result (λ rows. changed-bus c.self.invariant _ after found held.0 held.4 (puts_bus _ added (on_bus new)) rows)
    c.add.ensures.ok)
    (on_err_weaker c.add.result (λ rows. changed-bus c.self.invariant _ after found held.0 held.4 (puts_bus _ [] tt) rows)
    c.add.ensures.err)
    (stays-put_rows c.self.invariant added) c.self.invariant.stays)

pub returns-clause-ok : goal.returns-clause-ok
returns-clause-ok c =
    let added = c.args.added.now in
    let new = newly c.self.view_is c.in-Some.ensures.value c.requires.1 in
    let held = c.get_mut.follows.holds c.add.new.self in
    on_ok_weaker c.add.result
    (λ rows. changed-bus c.self.invariant _ c.add.new.self c.in-Some-get_mut.ensures.value held.0 held.4
    (puts_bus _ added (on_bus new)) rows
    ∙ ap (λ (kept : Kept). put_rows added kept.state) c.self.view_is) c.add.ensures.ok

pub returns-clause-err : goal.returns-clause-err
returns-clause-err c =
    let held = c.get_mut.follows.holds c.add.new.self in
    on_err_weaker c.add.result
    (λ rows. changed-bus c.self.invariant _ c.add.new.self c.in-Some-get_mut.ensures.value held.0 held.4 (puts_bus _ [] tt) rows
    ∙ ap (λ (kept : Kept). kept.state) c.self.view_is) c.add.ensures.err
