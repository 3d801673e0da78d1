-- Worked lines, computed by the definitions.
use Rattle.std.proofs.Common.{◌≡◌, true, [], ◌∷◌, ◌++◌, Ok, codes, refl}
use Rattle.std.specs.Prelude.{None, Some}
use Rattle.std.specs.Fmt.{digits}
use Rattle.clap.specs.Walk.{walked}
use Rattle.srcp_grammar.specs.declared.layout.Bus.{Bus}
use Rattle.srcp_tool.specs.Arguments.{task, Replay, Check, Serve}
use Rattle.srcp_tool.specs.Output.{replayed}
use Rattle.srcp_tool.specs.Faults.{fault_text}
use Rattle.srcp_layout_file.specs.declared.config.ConfigFault.TheVariants as config
use Rattle.srcp_layout_file.specs.declared.config.Field.TheVariants as field
use Rattle.srcp_tool.specs.declared.fault.ToolFault.TheVariants as fault
use Rattle.srcp_script.specs.declared.script.Cause.TheVariants as cause

-- ---- faults

tells_of_a_port : fault_text (fault.Config (config.OutOfRange field.GaPorts)) ≡ codes "config: ga_ports out of range"
tells_of_a_port = refl

tells_of_a_script : fault_text (fault.Script (record { line = 1; cause = cause.Number })) ≡ codes "script line 1: wrong number"
unfolding digits
tells_of_a_script = refl

tells_of_a_line : fault_text (fault.Line 1) ≡ codes "mirror line 1: not an information line"
unfolding digits
tells_of_a_line = refl

-- ---- words

no_words : task (codes "srcp_server" ∷ []) ≡ Some (Replay None)
no_words = refl

checks_a_file : task (codes "srcp_server" ∷ codes "check" ∷ codes "--config" ∷ codes "f" ∷ []) ≡ Some (Check (codes "f"))
unfolding walked
checks_a_file = refl

serves_for_three_turns : task (codes "srcp_server" ∷ codes "serve" ∷ codes "--turns" ∷ codes "3" ∷ codes "--config=f" ∷ [])
    ≡ Some (Serve (codes "f") 3)
unfolding walked
serves_for_three_turns = refl

-- ---- the stored run

-- bus 1 with power alone
abbrev power_alone : Bus
power_alone = record { number = 1; power = true; gl_max = 0; ga_max = 0; ga_ports = 2; fb_ports = 0 }

stored_output : replayed (power_alone ∷ []) (codes "open\nroom 1 1000\nbytes 1 GO\\nGET 1 POWER\\n\nroom 1 1000\n")
    ≡ Ok (codes "connection 1 90 open\nsrcp_server 1.0; SRCP 0.8.4; SRCPOTHER 0.8.3\n0.000 200 OK GO 1\n0.000 100 INFO 1 POWER OFF\n"
    ++ codes "rows 2\n0.000 101 INFO 0 SESSION 1 COMMAND\n0.000 100 INFO 1 POWER OFF\n")
unfolding digits
stored_output = refl

refused_output : replayed (power_alone ∷ []) (codes "open\nbytes 1 GO\\n\nroom 2 5\nshut 1\n")
    ≡ Ok (codes "connection 1 0 shut\nrefused 2 Busy\nrefused 3 NoSuch\nrows 1\n0.000 100 INFO 1 POWER OFF\n")
unfolding digits
refused_output = refl

-- what follows the session's own end in a piece is dropped
ended_output : replayed (power_alone ∷ []) (codes "open\nroom 1 100\nbytes 1 GO\\nTERM 0 SESSION\\nGET 1 POWER\\n\nroom 1 100\nbytes 1 x\n")
    ≡ Ok (codes "connection 1 76 closing\nsrcp_server 1.0; SRCP 0.8.4; SRCPOTHER 0.8.3\n0.000 200 OK GO 1\n0.000 200 OK\n"
    ++ codes "refused 5 Closing\nrows 1\n0.000 100 INFO 1 POWER OFF\n")
unfolding digits
ended_output = refl
