-- What the program tells of a fault, and the status with which it ends.
use Rattle.std.specs.Prelude.{ℕ, List, ◌++◌, codes, decimal}
use Rattle.srcp_layout_file.specs.Faults.{config_text}
use Rattle.srcp_layout_file.specs.declared.config.ConfigFault.{ConfigFault}
use Rattle.srcp_layout_file.specs.declared.config.ConfigFault.TheVariants as config
use Rattle.srcp_plan_file.specs.Faults.{plan_text}
use Rattle.srcp_plan_file.specs.declared.plan.PlanFault.{PlanFault}
use Rattle.srcp_plan_file.specs.declared.plan.PlanFault.TheVariants as plan
use Rattle.srcp_script.specs.Faults.{script_text}
use Rattle.srcp_script.specs.declared.script.Cause.{Cause}
use Rattle.srcp_script.specs.declared.script.Cause.TheVariants as cause
use Rattle.srcp_tool.specs.declared.fault.ToolFault.{ToolFault}
use Rattle.srcp_tool.specs.declared.fault.ToolFault.TheVariants as fault

-- the text of a fault
abbrev pub fault_text : ToolFault → List ℕ
fault_text fault.Input = codes "cannot read the input"
fault_text fault.Output = codes "cannot write"
fault_text fault.TooLarge = codes "input too large"
fault_text (fault.Script at) = script_text at.line at.cause
fault_text (fault.Line line) = codes "mirror line " ++ decimal line ++ codes ": not an information line"
fault_text fault.Memory = codes "out of memory"
fault_text (fault.Config what) = config_text what
fault_text fault.Unreadable = codes "cannot read the configuration"
fault_text fault.Listen = codes "cannot listen"
fault_text (fault.Plan what) = plan_text what

-- why the program stops at a fault of a script: want of memory is a fault of its own, whatever the line
abbrev pub stops_at : (line : ℕ) → Cause → ToolFault
stops_at line cause.Memory = fault.Memory
stops_at line what = fault.Script (record { line = line; cause = what })

-- the same at a fault of a configuration
abbrev pub stops_for : ConfigFault → ToolFault
stops_for config.Memory = fault.Memory
stops_for what = fault.Config what

-- the same at a fault of a plan
abbrev pub stops_by : PlanFault → ToolFault
stops_by plan.Memory = fault.Memory
stops_by what = fault.Plan what

-- the status of a configuration: 1 if memory was refused, 2 if what was handed in is refused
abbrev pub config_status : ConfigFault → ℕ
config_status config.Memory = 1
config_status other = 2

-- the same of a plan
abbrev pub plan_status : PlanFault → ℕ
plan_status plan.Memory = 1
plan_status other = 2

-- the same of a script
abbrev pub script_status : Cause → ℕ
script_status cause.Memory = 1
script_status other = 2

-- the status: 1 if input or output failed or memory was refused, 2 if what was handed in is refused
abbrev pub fault_status : ToolFault → ℕ
fault_status fault.Input = 1
fault_status fault.Output = 1
fault_status fault.TooLarge = 2
fault_status (fault.Script at) = script_status at.cause
fault_status (fault.Line line) = 2
fault_status fault.Memory = 1
fault_status (fault.Config what) = config_status what
fault_status fault.Unreadable = 1
fault_status fault.Listen = 1
fault_status (fault.Plan what) = plan_status what
