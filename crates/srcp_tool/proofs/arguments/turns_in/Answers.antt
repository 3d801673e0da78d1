use Rattle.std.proofs.Common.{◌∙◌, ap, codes}
use Rattle.std.specs.Prelude.{option_and_then, unwrap_or}
use Rattle.std.specs.Str.Parse.{ParsesUnsigned, ExplainsUnsignedError, HasUnsignedDigitsIfOk}
use Rattle.clap.specs.Words.{found_of, one_text}
use Rattle.clap.proofs.WalkLemmas.{one_text-rows}
use Rattle.srcp_info.specs.Limits.{greatest_u64}
use Rattle.srcp_tool.specs.Arguments.{turns_of}
use Rattle.srcp_tool.proofs.ArgumentLaws.{turns_of-given}
use Rattle.srcp_tool.proofs.arguments.turns_in.Goals as goal

pub returns : goal.returns
returns c =
    let found = found_of c.args.found.now in
    c.unwrap_or.ensures
    ∙ ap (λ turns. unwrap_or turns greatest_u64)
    (turns_of-given (λ text r. ParsesUnsigned 64 10 text r × ExplainsUnsignedError 10 text r × HasUnsignedDigitsIfOk text r)
    (λ text r h. h.0) (one_text found (codes "turns")) c.get_one.result c.get_one.ensures.none c.get_one.ensures.value)
    ∙ ap (λ given. unwrap_or (option_and_then turns_of given) greatest_u64) (one_text-rows found (codes "turns"))
