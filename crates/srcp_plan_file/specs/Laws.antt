-- What holds of every two routes of a plan that is printed, and of every way that is found.
use Rattle.std.specs.Prelude.{◌≡◌, ℕ, ◌≤◌, true, List, [], ◌∷◌, Option, Some, length, map, nat_lt, is_some, option_map}
use Rattle.std.specs.List.{All, Any, find}
use Rattle.srcp_routes.specs.Conflicts.{conflicts, has_accessory, is_same}
use Rattle.srcp_routes.specs.declared.route.Device.{Device}
use Rattle.srcp_routes.specs.declared.route.Route.{Route}
use Rattle.srcp_plan_file.specs.Output.{shared_devices}
use Rattle.srcp_routes.specs.declared.route.Setting.{Setting}
use Rattle.srcp_plan_file.specs.Searches.{Walked, ways_over}
use Rattle.srcp_plan_file.specs.Ways.{first_join, kind_at, next, way_over}
use Rattle.srcp_plan_file.specs.declared.drawing.Piece.{Piece}
use Rattle.srcp_plan_file.specs.declared.element.Kind.{Kind}
use Rattle.srcp_plan_file.specs.declared.element.Kind.TheVariants as kind
use Rattle.srcp_plan_file.specs.declared.join.Join.{Join}

-- two routes share something exactly if they conflict
abbrev pub SharedConflict : Type 0
SharedConflict = (drawn : List Piece) (route other : Route)
    → conflicts route other ≡ nat_lt 0 (length (shared_devices drawn route other))

-- the last of these joins
abbrev pub last_of : Join → List Join → Join
last_of first [] = first
last_of first (join ∷ others) = last_of join others

module _ (joins : List Join) (kinds : List Kind) (turnouts : List Setting) where
  -- over each of these joins a train goes on that came by the one before: at a turnout, as the turnout is put
  abbrev pub Passes : Join → List Join → Type 0
  Passes came [] = Unit
  Passes came (join ∷ others) = (next joins kinds turnouts came ≡ Some join) × Passes join others

  -- these pieces are those of a way: it leaves its begin, passes from join to join, and enters its goal at last
  pub record IsWay (begin goal : ℕ) (pieces : List ℕ) : Type 0 where
    pub first : Join
    pub others : List Join
    pub begins : first_join joins begin ≡ Some first
    pub passes : Passes first others
    pub are : map (λ (join : Join). join.to) (first ∷ others) ≡ pieces
    pub ends : (last_of first others).to ≡ goal

-- each way that is found is one
abbrev pub WaysLead : Type 0
WaysLead = (joins : List Join) (kinds : List Kind) (turnouts : List Setting) (begin goal : ℕ) (pieces : List ℕ)
    → way_over joins kinds turnouts begin goal ≡ Some pieces → IsWay joins kinds turnouts begin goal pieces

-- over the turnouts of each way that is found there is a way from the begin to the goal
abbrev pub FoundLead : Type 0
FoundLead = (joins : List Join) (kinds : List Kind) (begin goal : ℕ)
    → All (λ (walk : Walked). is_some (way_over joins kinds walk.turnouts begin goal) ≡ true)
    (ways_over joins kinds begin goal)

-- the port to which these turnouts put this one, if it is among them
abbrev pub port_of : List Setting → Device → Option ℕ
port_of turnouts device = option_map (λ (turnout : Setting). turnout.port)
    (find (λ (turnout : Setting). is_same turnout.device device) turnouts)

-- the first of these lists puts each turnout of the second as the second does
abbrev pub PutsAlike : List Setting → List Setting → Type 0
PutsAlike all some =
    (device : Device) → has_accessory some device ≡ true → port_of some device ≡ port_of all device

-- a drawing in which the track ends at each button
abbrev pub closed : Kind → Kind
closed kind.Button = kind.Beside
closed other = other

-- each turnout of the drawing leads to its branch by port 0 or by port 1
abbrev pub HaveTwoPorts : List Kind → Type 0
HaveTwoPorts kinds =
    (n : ℕ) (device : Device) (branch : ℕ) → kind_at kinds n ≡ kind.Turnout device branch → branch ≤ 1

-- whoever leads a way past no button, by turnouts at port 0 or 1, has put those of a way that is found as it puts them
abbrev pub FoundAreAll : Type 0
FoundAreAll = (joins : List Join) (kinds : List Kind) (turnouts : List Setting) (begin goal : ℕ) (pieces : List ℕ)
    → HaveTwoPorts kinds → All (λ (turnout : Setting). turnout.port ≤ 1) turnouts
    → way_over joins (map closed kinds) turnouts begin goal ≡ Some pieces
    → Any (λ (walk : Walked). PutsAlike turnouts walk.turnouts) (ways_over joins kinds begin goal)
