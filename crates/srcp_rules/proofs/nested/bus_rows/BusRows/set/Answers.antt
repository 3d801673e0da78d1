use Rattle.std.specs.Prelude.{◌≡◌, ℕ, true, List, [], ◌∷◌}
use Rattle.std.proofs.Common.{refl, Some, sym, subst, ◌∙◌, arith}
use Rattle.srcp_info.specs.declared.key.Group.{Group}
use Rattle.srcp_info.specs.declared.key.Group.TheVariants as group
use Rattle.srcp_info.specs.declared.key.Key.{Key}
use Rattle.srcp_rules.specs.declared.nested.bus_rows.BusRows.{BusRows}
use Rattle.srcp_rules.specs.State.{State, has_row}
use Rattle.srcp_rules.specs.Nested.{AreDevices, AreOfGroup, AreRowsOfBus, bus_rows, group_rows}
use Rattle.srcp_rules.proofs.BusRowsLaws.{has_row-group, of_group-put_rows, put_row-option_to_list, put_rows-group, with_sessions}
use Rattle.srcp_rules.proofs.nested.bus_rows.BusRows.set.Goals as goal

-- what the devices of the group ask for
asked : (key : Key) {rows : BusRows} → AreRowsOfBus key.bus rows → {g : Group} → key.group ≡ g → {ds : List (ℕ × State)}
    → AreDevices key.bus g ds → has_row key (bus_rows rows) ≡ true
    → AreDevices key.bus key.group ds × (has_row key (group_rows rows g) ≡ true)
asked key are is {ds} h there = (subst (λ (g : Group). AreDevices key.bus g ds) (sym is) h, sym (has_row-group are key is) ∙ there)

pub set-requires : goal.set-requires
set-requires c =
    let a = asked c.args.row.now.shown.key c.requires.bus c.in-Gl.is c.requires.bus.locomotives c.requires.there in
    (omega arith, (a.0, (a.1, omega arith)))

pub set-requires-in-Ga : goal.set-requires-in-Ga
set-requires-in-Ga c =
    let a = asked c.args.row.now.shown.key c.requires.bus c.in-Ga.is c.requires.bus.accessories c.requires.there in
    (omega arith, (a.0, (a.1, omega arith)))

pub set-requires-in-LockGl : goal.set-requires-in-LockGl
set-requires-in-LockGl c =
    let a = asked c.args.row.now.shown.key c.requires.bus c.in-LockGl.is c.requires.bus.locomotive_locks c.requires.there in
    (omega arith, (a.0, (a.1, omega arith)))

pub set-requires-in-LockGa : goal.set-requires-in-LockGa
set-requires-in-LockGa c =
    let a = asked c.args.row.now.shown.key c.requires.bus c.in-LockGa.is c.requires.bus.accessory_locks c.requires.there in
    (omega arith, (a.0, (a.1, omega arith)))

pub set_in-requires-clause-there : goal.set_in-requires-clause-there
set_in-requires-clause-there c = sym (has_row-group c.requires.bus c.args.row.now.shown.key c.in-Session.is) ∙ c.requires.there

pub set_in-requires-in-Fb-clause-there : goal.set_in-requires-in-Fb-clause-there
set_in-requires-in-Fb-clause-there c = sym (has_row-group c.requires.bus c.args.row.now.shown.key c.in-Fb.is) ∙ c.requires.there

pub returns-in-Power-clause-rows : goal.returns-in-Power-clause-rows
returns-in-Power-clause-rows c =
    let row = c.args.row.now in
    let rows = c.args.self.now in
    let there = sym (has_row-group c.requires.bus row.shown.key c.in-Power.is) ∙ c.requires.there in
    put_rows-group c.requires.bus group.Power (row ∷ []) (record rows { power = Some row }) ((refl, c.in-Power.is), tt) refl
    (put_row-option_to_list rows.power row there)

pub returns-in-Session : goal.returns-in-Session
returns-in-Session c =
    let row = c.args.row.now in
    let bus = row.shown.key.bus in
    let after : BusRows = record c.args.self.now { sessions = c.set_in.new.rows } in
    record {
      rows = put_rows-group c.requires.bus group.Session (row ∷ []) after ((refl, c.in-Session.is), tt) refl c.set_in.ensures;
      bus =
          with_sessions c.requires.bus c.set_in.new.rows
          (subst (AreOfGroup bus group.Session) (sym c.set_in.ensures)
          (of_group-put_rows bus group.Session (row ∷ []) c.args.self.now.sessions.items ((refl, c.in-Session.is), tt)
          c.requires.bus.sessions));
    }

pub returns-in-Gl-clause-rows : goal.returns-in-Gl-clause-rows
returns-in-Gl-clause-rows c =
    put_rows-group c.requires.bus group.Gl (c.args.row.now ∷ [])
    (record c.args.self.now { locomotives = c.set.new.self }) ((refl, c.in-Gl.is), tt) refl c.set.ensures.rows

pub returns-in-Ga-clause-rows : goal.returns-in-Ga-clause-rows
returns-in-Ga-clause-rows c =
    put_rows-group c.requires.bus group.Ga (c.args.row.now ∷ [])
    (record c.args.self.now { accessories = c.set-in-Ga.new.self }) ((refl, c.in-Ga.is), tt) refl c.set-in-Ga.ensures.rows

pub returns-in-LockGl-clause-rows : goal.returns-in-LockGl-clause-rows
returns-in-LockGl-clause-rows c =
    put_rows-group c.requires.bus group.LockGl (c.args.row.now ∷ [])
    (record c.args.self.now { locomotive_locks = c.set-in-LockGl.new.self }) ((refl, c.in-LockGl.is), tt) refl c.set-in-LockGl.ensures.rows

pub returns-in-LockGa-clause-rows : goal.returns-in-LockGa-clause-rows
returns-in-LockGa-clause-rows c =
    put_rows-group c.requires.bus group.LockGa (c.args.row.now ∷ [])
    (record c.args.self.now { accessory_locks = c.set-in-LockGa.new.self }) ((refl, c.in-LockGa.is), tt) refl c.set-in-LockGa.ensures.rows

pub returns-in-Fb-clause-rows : goal.returns-in-Fb-clause-rows
returns-in-Fb-clause-rows c =
    put_rows-group c.requires.bus group.Fb (c.args.row.now ∷ [])
    (record c.args.self.now { feedback = c.set_in-in-Fb.new.rows }) ((refl, c.in-Fb.is), tt) refl c.set_in-in-Fb.ensures

pub returns-in-Fb-clause-bus : goal.returns-in-Fb-clause-bus
returns-in-Fb-clause-bus c =
    let row = c.args.row.now in
    let bus = row.shown.key.bus in
    let are = c.requires.bus in
    record {
      sessions = are.sessions;
      power = are.power;
      locomotives = are.locomotives;
      accessories = are.accessories;
      feedback =
          subst (AreOfGroup bus group.Fb) (sym c.set_in-in-Fb.ensures)
          (of_group-put_rows bus group.Fb (row ∷ []) c.args.self.now.feedback.items ((refl, c.in-Fb.is), tt) are.feedback);
      locomotive_locks = are.locomotive_locks;
      accessory_locks = are.accessory_locks;
    }
