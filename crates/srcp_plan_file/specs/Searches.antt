-- The turnouts of a route of which the plan names the ends alone: those of the ways from one end to the other.
use Rattle.std.specs.Prelude.{ℕ, zero, suc, ◌==◌, List, [], ◌∷◌, ◌++◌, if◌then◌else◌, length, map}
use Rattle.std.specs.Prelude.{option_map, option_to_list}
use Rattle.std.specs.List.{flat_map}
use Rattle.srcp_routes.specs.Conflicts.{has_accessory}
use Rattle.srcp_routes.specs.declared.route.Device.{Device}
use Rattle.srcp_routes.specs.declared.route.Setting.{Setting}
use Rattle.srcp_plan_file.specs.Joins.{back_of}
use Rattle.srcp_plan_file.specs.Ways.{first_join, kind_at, next}
use Rattle.srcp_plan_file.specs.declared.element.Kind.{Kind}
use Rattle.srcp_plan_file.specs.declared.element.Kind.TheVariants as kind
use Rattle.srcp_plan_file.specs.declared.join.Join.{Join}
use Rattle.srcp_plan_file.specs.declared.search.Walk.{Walk}

-- how far a way has come: the join by which a train has come, and the turnouts so far, each put as the way needs it
pub record Walked : Type 0 where
  pub came : Join
  pub turnouts : List Setting

abbrev pub walked : Walk → Walked
walked walk = record { came = walk.came; turnouts = walk.turnouts.items }

-- the port of a turnout that leads straight on
abbrev pub other_port : (branch : ℕ) → ℕ
other_port branch = if branch == 0 then 1 else 0

-- these turnouts, and this one put to a port
abbrev pub and_put : List Setting → Device → (port : ℕ) → List Setting
and_put turnouts device port = turnouts ++ record { device = device; port = port } ∷ []

-- the way that goes on over these turnouts, if it does
abbrev pub onward : List Join → List Kind → Join → List Setting → List Walked
onward joins kinds came turnouts = option_to_list
    (option_map (λ (join : Join). record { came = join; turnouts = turnouts }) (next joins kinds turnouts came))

-- how a way goes on from a piece of this kind: over a turnout to both sides, unless it has put that one before, and
-- past no button
abbrev pub onwards_at : List Join → List Kind → Walked → Kind → List Walked
onwards_at joins kinds walk kind.Button = []
onwards_at joins kinds walk (kind.Turnout device branch) =
    if has_accessory walk.turnouts device then onward joins kinds walk.came walk.turnouts
    else onward joins kinds walk.came (and_put walk.turnouts device (other_port branch))
    ++ onward joins kinds walk.came (and_put walk.turnouts device branch)
onwards_at joins kinds walk other = onward joins kinds walk.came walk.turnouts

-- how a way goes on that has not come to its goal
abbrev pub onwards : List Join → List Kind → (goal : ℕ) → Walked → List Walked
onwards joins kinds goal walk =
    if walk.came.to == goal then [] else onwards_at joins kinds walk (kind_at kinds walk.came.to)

-- a way, if it has come to the goal
abbrev pub arrived_at : (goal : ℕ) → Walked → List Walked
arrived_at goal walk = if walk.came.to == goal then walk ∷ [] else []

-- those of these ways that have come to the goal
abbrev pub arrived : (goal : ℕ) → List Walked → List Walked
arrived goal walks = flat_map (arrived_at goal) walks

-- the ways that come to the goal by less than this number of joins more
abbrev pub ways_from : List Join → List Kind → (goal : ℕ) → (most : ℕ) → List Walked → List Walked
ways_from joins kinds goal zero walks = []
ways_from joins kinds goal (suc most) walks =
    arrived goal walks ++ ways_from joins kinds goal most (flat_map (onwards joins kinds goal) walks)

-- the way that leaves a piece, if there is one
abbrev pub begun : List Join → (begin : ℕ) → List Walked
begun joins begin =
    option_to_list (option_map (λ (join : Join). record { came = join; turnouts = [] }) (first_join joins begin))

-- the ways from a piece to another over these joins
abbrev pub ways_over : List Join → List Kind → (begin goal : ℕ) → List Walked
ways_over joins kinds begin goal = ways_from joins kinds goal (length joins) (begun joins begin)

-- the same to the right and to the left
abbrev pub ways_between : List Join → List Kind → (begin goal : ℕ) → List Walked
ways_between joins kinds begin goal =
    ways_over joins kinds begin goal ++ ways_over (map back_of joins) kinds begin goal
