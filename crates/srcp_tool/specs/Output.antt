-- What the program writes.
use Rattle.std.specs.Prelude.{◌≡◌, ℕ, ◌+◌, ◌<◌, ◌≤◌, false, nat_lt, if◌then◌else◌, List, [], ◌++◌, map, take, flat_map}
use Rattle.std.specs.Prelude.{length, Option, Result, Ok, Err, codes, ⊤}
use Rattle.std.specs.Io.KnownBytes.{Appends}
use Rattle.std.specs.List.{list_any, AllByRecursion}
use Rattle.srcp_text.specs.Marks.{is_lf}
use Rattle.srcp_info.specs.Client.{client, listing, HoldsLines}
use Rattle.srcp_info.specs.Line.{line}
use Rattle.srcp_info.specs.Read.{IsLineOf}
use Rattle.srcp_info.specs.WellFormed.{IsWellFormed}
use Rattle.srcp_info.specs.declared.change.Change.{Change}
use Rattle.srcp_info.specs.declared.change.Shown.{Shown}
use Rattle.srcp_grammar.specs.declared.layout.Bus.{Bus}
use Rattle.srcp_core.specs.Connection.{recorded}
use Rattle.srcp_core.specs.Course.{course, history, state}
use Rattle.srcp_core.specs.Under.{all_under, recorded_step}
use Rattle.srcp_core.specs.declared.event.Event.{Event}
use Rattle.srcp_core.specs.declared.record.Record.{Record}
use Rattle.srcp_layout_file.specs.Document.{config_of}
use Rattle.srcp_layout_file.specs.Output.{checked}
use Rattle.srcp_plan_file.specs.Document.{plan_of}
use Rattle.srcp_plan_file.specs.Output.{printed as printed_plan}
use Rattle.srcp_plan_file.specs.Plan.{planned}
use Rattle.srcp_plan_file.specs.declared.plan.Plan.{Plan}
use Rattle.srcp_script.specs.Output.{printed}
use Rattle.srcp_script.specs.Script.{script}
use Rattle.srcp_layout_file.specs.declared.config.Config.{Config}
use Rattle.srcp_layout_file.specs.declared.config.ConfigFault.{ConfigFault}
use Rattle.srcp_tool.specs.declared.fault.ToolFault.{ToolFault}
use Rattle.srcp_tool.specs.declared.fault.ToolFault.TheVariants.{Input, Output, TooLarge, Script, Line, Memory}
use Rattle.srcp_tool.specs.declared.fault.ToolFault.TheVariants.{Config as ConfigIs, Plan as PlanIs, Unreadable}
use Rattle.srcp_script.specs.declared.script.ScriptFault.{ScriptFault}

-- ---- replay: what a run gave

-- what a run of these events gives if memory gives all
abbrev pub run_of : List Bus → List Event → Record
run_of buses events = let w = course buses (all_under [] events) in record {
  steps = map recorded_step w.steps;
  connections = map (recorded (history buses w)) w.connections;
  refused = w.refused;
  rows = state buses w;
  denied = 0;
}

-- the bytes that may be read of the standard input
abbrev pub input_limit : ℕ
input_limit = 16777216

-- what is printed for these events, or why the script is refused
abbrev pub printed_or : List Bus → Result (List Event) ScriptFault → Result (List ℕ) ToolFault
printed_or buses (Ok events) = Ok (printed (run_of buses events))
printed_or buses (Err wrong) = Err (Script wrong)

-- what `replay` prints for a script, or why it refuses it
abbrev pub replayed : List Bus → (input : List ℕ) → Result (List ℕ) ToolFault
replayed buses input = if nat_lt input_limit (length input) then Err TooLarge else printed_or buses (script input)

-- ---- mirror: the rows that lines tell of

-- a client of the whole lines of the input holds these rows
pub record ClientHolds (input : List ℕ) (rows : List Shown) : Type 0 where
  pub changes : List Change
  pub begun : List ℕ
  pub holds : HoldsLines input changes begun
  pub same : rows ≡ client changes

-- `mirror` prints the rows of a client of the whole lines, if the input is within its limit
pub record Mirrors (input output : List ℕ) : Type 0 where
  pub within : length input ≤ input_limit
  pub rows : List Shown
  pub held : ClientHolds input rows
  pub shows : output ≡ listing rows

-- line n is the first that no change has
pub record RefusesLine (input : List ℕ) (n : ℕ) : Type 0 where
  pub changes : List Change
  pub text : List ℕ
  pub behind : List ℕ
  pub each : AllByRecursion IsWellFormed changes
  pub whole : input ≡ flat_map line changes ++ text ++ codes "\n" ++ behind
  pub one_line : list_any is_lf text ≡ false
  pub no_change : (change : Change) → IsLineOf text change → ⊥
  pub place : n ≡ length changes + 1

-- why `mirror` prints nothing; a line is the cause only of an input within its limit
abbrev pub RefusesInput : List ℕ → ToolFault → Type 0
RefusesInput input (Line n) = (length input ≤ input_limit) × RefusesLine input n
RefusesInput input TooLarge = input_limit < length input
RefusesInput input other = ⊥

-- ---- check: what a configuration says

-- the bytes that a configuration may have
abbrev pub config_limit : ℕ
config_limit = 1048576

-- what is printed for a configuration, or why it is refused
abbrev pub checked_or : Result Config ConfigFault → Result (List ℕ) ToolFault
checked_or (Ok config) = Ok (checked config)
checked_or (Err wrong) = Err (ConfigIs wrong)

-- what `check` prints for the bytes of a configuration, or why it refuses them
abbrev pub check_output : List ℕ → Result (List ℕ) ToolFault
check_output bytes = checked_or (config_of bytes)

-- ---- check: which routes of a plan conflict

-- the text is what is printed for the plan that these bytes say
pub record PrintsPlan (bytes text : List ℕ) : Type 0 where
  pub plan : Plan
  pub says : plan_of bytes ≡ Ok (planned plan)
  pub prints : text ≡ printed_plan plan

-- why a plan is refused
abbrev pub RefusesPlan : List ℕ → ToolFault → Type 0
RefusesPlan bytes (PlanIs wrong) = plan_of bytes ≡ Err wrong
RefusesPlan bytes other = ⊥

-- ---- the writing

-- why an input can't be had
abbrev pub IsInputFault : ToolFault → Type 0
IsInputFault Input = ⊤
IsInputFault TooLarge = ⊤
IsInputFault Memory = ⊤
IsInputFault other = ⊥

-- why a configuration can't be had
abbrev pub IsConfigFault : ToolFault → Type 0
IsConfigFault Unreadable = ⊤
IsConfigFault TooLarge = ⊤
IsConfigFault Memory = ⊤
IsConfigFault other = ⊥

-- why nothing can be printed: the input is refused or can't be read, or memory is refused
abbrev pub StopsFor : (Refuses : ToolFault → Type 0) → ToolFault → Type 0
StopsFor Refuses Input = ⊤
StopsFor Refuses Memory = ⊤
StopsFor Refuses Output = ⊥
StopsFor Refuses other = Refuses other

-- why no text can be had of bytes that are there: they are refused, or memory is; no device has a part in it
abbrev pub RefusesFor : (Refuses : ToolFault → Type 0) → ToolFault → Type 0
RefusesFor Refuses Input = ⊥
RefusesFor Refuses Output = ⊥
RefusesFor Refuses Memory = ⊤
RefusesFor Refuses other = Refuses other

-- known bytes gain a prefix of the text at their end, and not all of it
pub record AppendsPrefix (old new : Option (List ℕ)) (text : List ℕ) : Type 0 where
  pub count : ℕ
  pub within : count < length text
  pub appends : Appends old new (take count text)

-- a text is written whole, or a prefix of it if the writing fails
abbrev pub WritesText : (text : List ℕ) → Result Unit ToolFault → (old new : Option (List ℕ)) → Type 0
WritesText text (Ok done) old new = Appends old new text
WritesText text (Err fault) old new = (fault ≡ Output) × AppendsPrefix old new text

-- the text that is to be printed is written whole, or a prefix of it if the writing fails; nothing is written if it
-- stops for another reason
abbrev pub Writes : (Prints : List ℕ → Type 0) (Stops : ToolFault → Type 0) → Result Unit ToolFault
    → (old new : Option (List ℕ)) → Type 0
Writes Prints Stops (Ok done) old new = (text : List ℕ) × Prints text × Appends old new text
Writes Prints Stops (Err Output) old new = (text : List ℕ) × Prints text × AppendsPrefix old new text
Writes Prints Stops (Err other) old new = Stops other × (new ≡ old)
