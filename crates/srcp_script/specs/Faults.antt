-- The texts of the faults of a script.
use Rattle.std.specs.Prelude.{List, ℕ, ◌++◌, codes, decimal}
use Rattle.srcp_script.specs.declared.script.Cause.{Cause}
use Rattle.srcp_script.specs.declared.script.Cause.TheVariants as cause

-- the text of a fault in a line of a script
abbrev pub script_text : (line : ℕ) → Cause → List ℕ
script_text line cause.Word = codes "script line " ++ decimal line ++ codes ": unknown event"
script_text line cause.Number = codes "script line " ++ decimal line ++ codes ": wrong number"
script_text line cause.Escape = codes "script line " ++ decimal line ++ codes ": wrong escape"
script_text line cause.Memory = codes "out of memory"
