use Rattle.std.proofs.Common.{◌≡◌, ℕ, ◌<◌, ◌+◌, List, ◌∷◌, drop, drop-cons, slice_index_or, add-one, sym, ap, ◌∙◌}
use Rattle.std.proofs.lemmas.List.{drop_all}
use Rattle.std.specs.List.{flat_map}
use Rattle.srcp_info.specs.declared.key.Group.{Group}
use Rattle.srcp_info.specs.declared.key.Group.TheVariants as group
use Rattle.srcp_rules.specs.State.{row_after}
use Rattle.srcp_info.specs.declared.key.TheConstants.{GROUPS}
use Rattle.srcp_rules.specs.Nested.{group_rows}
use Rattle.srcp_rules.proofs.ListedLaws.{first_has, first_has_none}
use Rattle.srcp_rules.proofs.nested.bus_rows.BusRows.row_after.Goals as goal

-- the groups from a place on
more : (i : ℕ) → i < 7 → drop i GROUPS ≡ slice_index_or GROUPS i group.Session ∷ drop (i + 1) GROUPS
more i h = rw add-one (drop-cons GROUPS i group.Session h)

pub returns-in-Some : goal.returns-in-Some
returns-in-Some c =
    let i = c.loop-group.group-index in
    first_has (group_rows c.args.self.now) c.args.cursor (drop i GROUPS) (drop (i + 1) GROUPS) _
    (more i c.loop-group-test.true) c.in-Some.row.now c.in-Some.ensures
    ∙ sym c.loop-group.invariant

pub loop-group-preserved : goal.loop-group-preserved
loop-group-preserved c =
    let i = c.loop-group.group-index in
    c.loop-group.invariant
    ∙ first_has_none (group_rows c.args.self.now) c.args.cursor (drop i GROUPS) (drop (i + 1) GROUPS) _
    (more i c.loop-group-test.true) c.in_default.ensures

pub returns : goal.returns
returns c =
    sym (c.loop-group.invariant
    ∙ ap (λ (groups : List Group). row_after c.args.cursor (flat_map (group_rows c.args.self.now) groups))
    (drop_all c.loop-group.group-index GROUPS c.loop-group-test.false))
