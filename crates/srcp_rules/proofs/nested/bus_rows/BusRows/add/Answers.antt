use Rattle.srcp_rules.proofs.Names
use Names.{◌≡◌, ℕ, ◌≤◌, false, List, length, Result, OnOk, refl, sym, ◌∙◌, arith, AllByRecursion, Group, Key, device_of, key_at, State}
use Names.{has_row, most_rows, put_rows, AreOfDevice, AreRowsOfBus, IsIn, bus_rows, weaken}
use Names.group
use Rattle.srcp_rules.specs.declared.nested.bus_rows.BusRows.{BusRows}
use Rattle.srcp_rules.specs.Nested.{AreDevices, AreOfGroup, group_rows}
use Rattle.std.proofs.lemmas.Result.{on_ok_weaker}
use Rattle.srcp_rules.proofs.PutRowsLaws.{added_or}
use Rattle.srcp_rules.proofs.BusRowsLaws.{WithGroup, has_row-group, of_group-put_rows, put_rows-group, with_sessions}
use Rattle.srcp_rules.proofs.nested.bus_rows.BusRows.add.Goals as goal

module _ (key : Key) (added : State) {rows : BusRows} (are : AreRowsOfBus key.bus rows) {g : Group} (is : key.group ≡ g) where
  abbrev AreFree : State → Type 0
  AreFree state = (port : ℕ) → has_row (key_at (device_of key) port) state ≡ false

  -- what the devices of the group ask for
  asked : {ds : List (ℕ × State)} → AreDevices key.bus g ds → length added ≤ most_rows key.group → AreFree (bus_rows rows)
      → AreDevices key.bus key.group ds × ((length added ≤ most_rows g) × AreFree (group_rows rows g))
  asked h few free = (rw is h, (rw is at few, λ port. sym (has_row-group are (key_at (device_of key) port) is) ∙ free port))

  here : AreOfDevice key.bus key.group key.address added → AllByRecursion (λ row. IsIn key.bus g row.shown.key) added
  here device = weaken added device.each (λ row t. (t.0.0, t.0.1 ∙ is))

  -- if they have it, so has the bus
  has : {T E : Type 0} (after : BusRows) → AreOfDevice key.bus key.group key.address added → WithGroup are g after
      → (r : Result T E) → OnOk r (group_rows after g ≡ put_rows added (group_rows rows g))
      → OnOk r (bus_rows after ≡ put_rows added (bus_rows rows))
  has after device with_group r h = on_ok_weaker r (λ rows. put_rows-group are g added after (here device) with_group rows) h

pub add-requires : goal.add-requires
add-requires c =
    let bus = c.requires.bus in
    let a = asked c.args.first.now.shown.key c.args.added.now bus c.in-Gl.is bus.locomotives c.requires.few c.requires.free in
    (omega arith, (a.0, (c.requires.device, (a.1.0, (omega arith, a.1.1)))))

pub add-requires-in-Ga : goal.add-requires-in-Ga
add-requires-in-Ga c =
    let bus = c.requires.bus in
    let a = asked c.args.first.now.shown.key c.args.added.now bus c.in-Ga.is bus.accessories c.requires.few c.requires.free in
    (omega arith, (a.0, (c.requires.device, (a.1.0, (omega arith, a.1.1)))))

pub add-requires-in-LockGl : goal.add-requires-in-LockGl
add-requires-in-LockGl c =
    let bus = c.requires.bus in
    let a = asked c.args.first.now.shown.key c.args.added.now bus c.in-LockGl.is bus.locomotive_locks c.requires.few c.requires.free in
    (omega arith, (a.0, (c.requires.device, (a.1.0, (omega arith, a.1.1)))))

pub add-requires-in-LockGa : goal.add-requires-in-LockGa
add-requires-in-LockGa c =
    let bus = c.requires.bus in
    let a = asked c.args.first.now.shown.key c.args.added.now bus c.in-LockGa.is bus.accessory_locks c.requires.few c.requires.free in
    (omega arith, (a.0, (c.requires.device, (a.1.0, (omega arith, a.1.1)))))

pub returns-in-Session-clause-ok : goal.returns-in-Session-clause-ok
returns-in-Session-clause-ok c =
    has c.args.first.now.shown.key c.args.added.now c.requires.bus c.in-Session.is
    (record c.args.self.now { sessions = c.add_all.new.rows }) c.requires.device refl _ c.add_all.ensures.ok

pub returns-in-Session-clause-bus : goal.returns-in-Session-clause-bus
returns-in-Session-clause-bus c =
    let key = c.args.first.now.shown.key in
    let added = c.args.added.now in
    let sessions = c.requires.bus.sessions in
    with_sessions c.requires.bus c.add_all.new.rows
    (added_or (AreOfGroup key.bus group.Session) added _ _ c.add_all.result c.add_all.ensures.ok c.add_all.ensures.err
    (of_group-put_rows key.bus group.Session added c.args.self.now.sessions.items
    (here key added c.requires.bus c.in-Session.is c.requires.device) sessions) sessions)

pub returns-in-Gl-clause-ok : goal.returns-in-Gl-clause-ok
returns-in-Gl-clause-ok c =
    has c.args.first.now.shown.key c.args.added.now c.requires.bus c.in-Gl.is
    (record c.args.self.now { locomotives = c.add.new.self }) c.requires.device refl _ c.add.ensures.ok

pub returns-in-Ga-clause-ok : goal.returns-in-Ga-clause-ok
returns-in-Ga-clause-ok c =
    has c.args.first.now.shown.key c.args.added.now c.requires.bus c.in-Ga.is
    (record c.args.self.now { accessories = c.add-in-Ga.new.self }) c.requires.device refl _ c.add-in-Ga.ensures.ok

pub returns-in-LockGl-clause-ok : goal.returns-in-LockGl-clause-ok
returns-in-LockGl-clause-ok c =
    has c.args.first.now.shown.key c.args.added.now c.requires.bus c.in-LockGl.is
    (record c.args.self.now { locomotive_locks = c.add-in-LockGl.new.self }) c.requires.device refl _ c.add-in-LockGl.ensures.ok

pub returns-in-LockGa-clause-ok : goal.returns-in-LockGa-clause-ok
returns-in-LockGa-clause-ok c =
    has c.args.first.now.shown.key c.args.added.now c.requires.bus c.in-LockGa.is
    (record c.args.self.now { accessory_locks = c.add-in-LockGa.new.self }) c.requires.device refl _ c.add-in-LockGa.ensures.ok
