use Rattle.std.proofs.Common.{arith}
use Rattle.srcp_script.proofs.Escapes.{unescaped-cut_hex, unescaped-no_hex, unescaped-hex}
use Rattle.srcp_script.proofs.script.escape.hex_byte.Goals as goal

pub returns-then-text-lt2-clause-first : goal.returns-then-text-lt2-clause-first
returns-then-text-lt2-clause-first c = unescaped-cut_hex c.args.text.now (omega arith)

pub returns-in-Some-clause-first : goal.returns-in-Some-clause-first
returns-in-Some-clause-first c =
    unescaped-hex c.args.text.now _ (omega arith) c.in-Some.ensures.0 c.in-Some.ensures.1

pub returns-in-None-clause-first : goal.returns-in-None-clause-first
returns-in-None-clause-first c = unescaped-no_hex c.args.text.now (omega arith) c.in-None.ensures
