-- The keys that a plan and its routes may have.
use Rattle.std.specs.Prelude.{ℕ, ◌+◌, Bool, List, [], ◌∷◌, Ok, Err, if◌then◌else◌, is_some, nat_lt}
use Rattle.std.specs.List.{count_by}
use Rattle.toml.specs.Data.{Members, no_members, member}
use Rattle.srcp_layout_file.specs.Member.{value_at}
use Rattle.srcp_plan_file.specs.Devices.{OrFault}
use Rattle.srcp_plan_file.specs.Faults.{plan_key}
use Rattle.srcp_plan_file.specs.declared.plan.Field.{Field}
use Rattle.srcp_plan_file.specs.declared.plan.Field.TheVariants as field
use Rattle.srcp_plan_file.specs.declared.plan.PlanFault.{PlanFault}

-- what the routes, the drawing, and the page read of a plan
abbrev pub plan_keys : List Field
plan_keys = field.Bus ∷ field.Route ∷ field.Plan ∷ field.Legend ∷ field.Names ∷ field.Functions ∷ []

-- what they read of a route
abbrev pub route_keys : List Field
route_keys =
    field.Number ∷ field.Name ∷ field.From ∷ field.To ∷ field.Turnouts ∷ field.Blocks ∷ field.Signal ∷ field.Frees
    ∷ field.Sections ∷ field.Approach ∷ field.Delay ∷ []

-- how many keys there are
abbrev pub key_count : Members → ℕ
key_count no_members = 0
key_count (member key value members) = key_count members + 1

-- how many of these keys are there
abbrev pub known_count : List Field → Members → ℕ
known_count keys members = count_by (λ key. is_some (value_at (plan_key key) members)) keys

-- a key is there that is none of these
abbrev pub has_unknown : List Field → Members → Bool
has_unknown keys members = nat_lt (known_count keys members) (key_count members)

-- no key is there but these
abbrev pub only_known : List Field → PlanFault → Members → OrFault (Unit {0})
only_known keys wrong members = if has_unknown keys members then Err wrong else Ok tt
