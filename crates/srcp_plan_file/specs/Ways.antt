-- The way of a route over a drawing: from an element to another, over turnouts that are put to their ports.
use Rattle.std.specs.Prelude.{ℕ, zero, suc, ◌==◌, Bool, true, false, not, ◌&&◌, ◌||◌, List, [], ◌∷◌, ◌++◌}
use Rattle.std.specs.Prelude.{Option, Some, None}
use Rattle.std.specs.Prelude.{if◌then◌else◌, length, map, nat_lt, option_and_then, option_map, slice_get, unwrap_or}
use Rattle.std.specs.List.{count_by, find, list_any}
use Rattle.std.specs.Option.{option_or}
use Rattle.srcp_routes.specs.Conflicts.{is_same}
use Rattle.srcp_routes.specs.declared.route.Device.{Device}
use Rattle.srcp_routes.specs.declared.route.Setting.{Setting}
use Rattle.srcp_plan_file.specs.Joins.{back_of, is_opposite, is_up}
use Rattle.srcp_plan_file.specs.declared.element.Kind.{Kind}
use Rattle.srcp_plan_file.specs.declared.element.Kind.TheVariants as kind
use Rattle.srcp_plan_file.specs.declared.join.Join.{Join}

-- what a piece is
abbrev pub kind_at : List Kind → ℕ → Kind
kind_at kinds n = unwrap_or (slice_get kinds n) kind.Beside

-- these turnouts put this one to the port of its branch, if it is among them
abbrev pub branches : List Setting → Device → (branch : ℕ) → Option Bool
branches turnouts device branch = option_map (λ (turnout : Setting). turnout.port == branch)
    (find (λ (turnout : Setting). is_same turnout.device device) turnouts)

-- the first join by which a train may leave a piece
abbrev pub first_join : List Join → ℕ → Option Join
first_join joins n = find (λ (join : Join). join.from == n) joins

-- a train may leave a piece by two joins or more
abbrev pub has_fork : List Join → ℕ → Bool
has_fork joins n = nat_lt 1 (count_by (λ (join : Join). join.from == n) joins)

-- the join by which a train leaves a piece, if there is only one
abbrev pub only_join : List Join → ℕ → Option Join
only_join joins n = if has_fork joins n then None else first_join joins n

-- a join leads on straight from the one by which a train came
abbrev pub goes_straight : (came join : Join) → Bool
goes_straight came join = (join.from == came.to) && is_opposite came.enters join.leaves

-- a join leads to where a train goes on, straight
abbrev pub comes_straight : (goes join : Join) → Bool
comes_straight goes join = (join.to == goes.from) && is_opposite join.enters goes.leaves

-- any of these joins leads on straight from the one by which a train came
abbrev pub leads_straight : List Join → (came : Join) → Bool
leads_straight joins came = list_any (goes_straight came) joins

-- any of these joins leads to where a train goes on, straight
abbrev pub meets_straight : List Join → (goes : Join) → Bool
meets_straight joins goes = list_any (comes_straight goes) joins

-- the way from one join to the other leads straight over a turnout; of two tracks that both branch off, the upper one
-- counts as straight
abbrev pub is_straight : List Join → (came goes : Join) → Bool
is_straight joins came goes = is_opposite came.enters goes.leaves
    || (if has_fork joins came.to then is_up goes.leaves && not (leads_straight joins came)
    else is_up came.enters && not (meets_straight joins goes))

-- a turnout that leads to its branch, or straight, leads from one join to the other
abbrev pub leads : List Join → (to_branch : Bool) → (came goes : Join) → Bool
leads joins true came goes = (goes.from == came.to) && not (is_straight joins came goes)
leads joins false came goes = (goes.from == came.to) && is_straight joins came goes

-- what a train does at a piece of this kind, to which it came by a join
abbrev pub next_at : List Join → List Setting → Join → Kind → Option Join
next_at joins turnouts came kind.Track = only_join joins came.to
next_at joins turnouts came kind.Button = only_join joins came.to
next_at joins turnouts came (kind.Signal device) = only_join joins came.to
next_at joins turnouts came (kind.Sensor device) = only_join joins came.to
next_at joins turnouts came kind.Crossing = find (goes_straight came) joins
next_at joins turnouts came (kind.Turnout device branch) =
    option_and_then (λ to_branch. find (leads joins to_branch came) joins) (branches turnouts device branch)
next_at joins turnouts came kind.Beside = None

-- the join over which a train goes on that came by a join
abbrev pub next : List Join → List Kind → List Setting → Join → Option Join
next joins kinds turnouts came = next_at joins turnouts came (kind_at kinds came.to)

-- the pieces so far, and those that follow up to the goal, which is at most this number of joins away
abbrev pub walk : List Join → List Kind → List Setting → (goal : ℕ) → (most : ℕ) → List ℕ → Join → Option (List ℕ)
walk joins kinds turnouts goal zero before came = None
walk joins kinds turnouts goal (suc most) before came =
    if came.to == goal then Some (before ++ came.to ∷ [])
    else option_and_then (walk joins kinds turnouts goal most (before ++ came.to ∷ [])) (next joins kinds turnouts came)

-- the pieces of the way from a piece to another over these joins, without the first
abbrev pub way_over : List Join → List Kind → List Setting → (begin goal : ℕ) → Option (List ℕ)
way_over joins kinds turnouts begin goal =
    option_and_then (walk joins kinds turnouts goal (length joins) []) (first_join joins begin)

-- the same to the right, else to the left
abbrev pub way : List Join → List Kind → List Setting → (begin goal : ℕ) → Option (List ℕ)
way joins kinds turnouts begin goal = option_or (way_over joins kinds turnouts begin goal)
    (way_over (map back_of joins) kinds turnouts begin goal)
