-- The texts of the faults of a plan.
use Rattle.std.specs.Prelude.{List, ℕ, ◌++◌, codes, decimal}
use Rattle.srcp_layout_file.specs.Member.{Named}
use Rattle.srcp_plan_file.specs.declared.plan.Field.{Field}
use Rattle.srcp_plan_file.specs.declared.plan.Field.TheVariants as field
use Rattle.srcp_plan_file.specs.declared.plan.PlanFault.{PlanFault}
use Rattle.srcp_plan_file.specs.declared.plan.PlanFault.TheVariants as fault

-- the key as a plan writes it
abbrev pub field_key : Field → List ℕ
field_key field.Bus = codes "bus"
field_key field.Route = codes "route"
field_key field.Number = codes "number"
field_key field.Turnouts = codes "turnouts"
field_key field.Blocks = codes "blocks"
field_key field.Signal = codes "signal"
field_key field.Frees = codes "frees"
field_key field.Sections = codes "sections"
field_key field.Approach = codes "approach"
field_key field.Delay = codes "delay"
field_key field.Plan = codes "plan"
field_key field.Legend = codes "legend"
field_key field.From = codes "from"
field_key field.To = codes "to"
field_key field.Turnout = codes "turnout"
field_key field.Sensor = codes "sensor"
field_key field.Button = codes "button"
field_key field.Names = codes "names"
field_key field.Functions = codes "functions"
field_key field.Name = codes "name"

-- the key with the faults of its value
abbrev pub plan_key : Field → Named PlanFault
plan_key of = record { name = field_key of; missing = fault.Missing of; beyond = fault.OutOfRange of }

-- the text of a fault
abbrev pub plan_text : PlanFault → List ℕ
plan_text fault.NotToml = codes "plan: not TOML"
plan_text (fault.Missing of) = codes "plan: " ++ field_key of ++ codes " missing"
plan_text (fault.OutOfRange of) = codes "plan: " ++ field_key of ++ codes " out of range"
plan_text fault.Unknown = codes "plan: a key that is none of a plan"
plan_text (fault.UnknownIn number) =
    codes "plan: route " ++ decimal number ++ codes ": a key that is none of a route"
plan_text (fault.Twice number) = codes "plan: route " ++ decimal number ++ codes " twice"
plan_text (fault.Beyond number of) =
    codes "plan: route " ++ decimal number ++ codes ": " ++ field_key of ++ codes " out of range"
plan_text (fault.Repeated number) = codes "plan: route " ++ decimal number ++ codes ": an accessory twice"
plan_text (fault.NoTrack number) = codes "plan: route " ++ decimal number ++ codes ": no track leads to its end"
plan_text (fault.Several number) = codes "plan: route " ++ decimal number ++ codes ": several tracks lead to its end"
plan_text (fault.NoWay number) =
    codes "plan: route " ++ decimal number ++ codes ": no track leads over its turnouts"
plan_text (fault.Mixed number other) =
    codes "plan: routes " ++ decimal number ++ codes " and " ++ decimal other
    ++ codes ": a signal of one is a turnout of the other"
plan_text (fault.Crossed number other) =
    codes "plan: routes " ++ decimal number ++ codes " and " ++ decimal other
    ++ codes ": a port is go for one and stop for the other"
plan_text fault.Memory = codes "out of memory"
