-- What the program's words ask it to do.
use Rattle.std.specs.Prelude.{ℕ, Bool, true, false, List, Option, Some, None, option_and_then, option_map, unwrap_or}
use Rattle.std.specs.Prelude.{if◌then◌else◌, codes, [], ◌∷◌}
use Rattle.std.specs.Str.{bytes_eq}
use Rattle.std.specs.Str.Parse.{without_leading_plus}
use Rattle.clap.specs.Faults.{fault_of}
use Rattle.clap.specs.Kinds.{Kinds, or_else}
use Rattle.clap.specs.Simple.{on_top}
use Rattle.clap.specs.Words.{App, Row, Rule, Text, first_of, one_of, new_app, new_rule, subcommand_of, with_rule}
use Rattle.clap.specs.Words.{with_subcommand}
use Rattle.clap.specs.declared.builder.value_parser.ValueParser.TheVariants.{Unsigned}
use Rattle.clap.specs.declared.error.kind.ErrorKind.TheVariants as kind
use Rattle.srcp_text.specs.Words.{number_of}
use Rattle.srcp_info.specs.Limits.{greatest_u64}
use Rattle.srcp_tool.specs.declared.tool.Tool.{Tool}
use Rattle.srcp_tool.specs.declared.tool.Tool.TheVariants as tool

-- ---- the command

-- the option of this name, which takes a file, and which some subcommands need
abbrev pub file_rule : (name : Text) → (required : Bool) → Rule
file_rule name needed = record (new_rule name) { long = Some name; value_names = 1; required = needed }

-- `--turns N`
abbrev pub turns_rule : Rule
turns_rule = record (new_rule (codes "turns")) {
  long = Some (codes "turns");
  value_names = 1;
  parser = Some (Unsigned 0 greatest_u64);
}

-- `replay`, which takes a configuration if one is given
abbrev pub replay_app : App
replay_app = with_rule (new_app (codes "replay")) (file_rule (codes "config") false)

-- `mirror`, which takes nothing
abbrev pub mirror_app : App
mirror_app = new_app (codes "mirror")

-- `interlock`, which needs a plan
abbrev pub interlock_app : App
interlock_app = with_rule (new_app (codes "interlock")) (file_rule (codes "plan") true)

-- `check`, which takes a configuration or a plan
abbrev pub check_app : App
check_app =
    with_rule (with_rule (new_app (codes "check")) (file_rule (codes "config") false)) (file_rule (codes "plan") false)

-- `serve`, which needs a configuration and takes a number of turns
abbrev pub serve_app : App
serve_app = with_rule (with_rule (new_app (codes "serve")) (file_rule (codes "config") true)) turns_rule

-- the command by itself, which has a version
abbrev pub server_app : App
server_app = on_top (λ shape. record shape { has_version = true }) (new_app (codes "srcp_server"))

-- the command with the three subcommands that work on standard input
abbrev pub over_lines_app : App
over_lines_app =
    with_subcommand (with_subcommand (with_subcommand server_app replay_app.top) mirror_app.top) interlock_app.top

-- the command with its five subcommands
abbrev pub program_app : App
program_app = with_subcommand (with_subcommand over_lines_app check_app.top) serve_app.top

-- ---- what its matches mean

-- a tool, with the texts that its references point to
pub data Task : Type 0 where
  Replay : (config : Option Text) → Task
  Mirror : Task
  Interlock : (plan : Text) → Task
  Check : (config : Text) → Task
  CheckPlan : (plan : Text) → Task
  Serve : (config : Text) (turns : ℕ) → Task

-- the task that a tool is
abbrev pub task_of : Tool → Task
task_of (tool.Replay config) = Replay (option_map (λ s. s.now) config)
task_of tool.Mirror = Mirror
task_of (tool.Interlock plan) = Interlock plan.now
task_of (tool.Check config) = Check config.now
task_of (tool.CheckPlan plan) = CheckPlan plan.now
task_of (tool.Serve config turns) = Serve config.now turns

-- the file that was given for each of the two
abbrev pub config_in : List Row → Option Text
config_in rows = first_of (codes "config") rows

abbrev pub plan_in : List Row → Option Text
plan_in rows = first_of (codes "plan") rows

-- one file is checked: that of a configuration, or that of a plan
abbrev pub checked : (config plan : Option Text) → Option Task
checked (Some config) None = Some (Check config)
checked None (Some plan) = Some (CheckPlan plan)
checked None None = None
checked (Some config) (Some plan) = None

-- a number of turns, with or without a plus before it
abbrev pub turns_of : Text → Option ℕ
turns_of text = number_of greatest_u64 (without_leading_plus text)

-- the number of turns that was given, or as many as there can be; a text that is no such number is refused
abbrev pub turns_in : List Row → ℕ
turns_in rows = unwrap_or (option_and_then turns_of (one_of (codes "turns") rows)) greatest_u64

-- the task of the subcommand of that name, by what was given to it
abbrev pub subtask : Text → List Row → Option Task
subtask name rows =
    if bytes_eq name (codes "mirror") then Some Mirror
    else (if bytes_eq name (codes "interlock") then Some (Interlock (unwrap_or (plan_in rows) (codes "")))
    else (if bytes_eq name (codes "check") then checked (config_in rows) (plan_in rows)
    else (if bytes_eq name (codes "serve") then Some (Serve (unwrap_or (config_in rows) (codes "")) (turns_in rows))
    else Some (Replay (config_in rows)))))

-- to replay over the built-in layout if there is no subcommand
abbrev pub task_in : Option (Text × List Row) → Option Task
task_in None = Some (Replay None)
task_in (Some found) = subtask found.0 found.1

-- what the words ask, the program's name first
abbrev pub task : List Text → Option Task
task words = task_in (subcommand_of program_app words)

-- the kind of error if they ask for a check, and not of one file
abbrev pub unasked : Option Task → Kinds
unasked (Some task) = []
unasked None = kind.MissingRequiredArgument ∷ []

-- the kinds of error for which the words are refused: that of `clap`, and else that
abbrev pub refusal_of : List Text → Kinds
refusal_of words = or_else (fault_of program_app words) (unasked (task words))
