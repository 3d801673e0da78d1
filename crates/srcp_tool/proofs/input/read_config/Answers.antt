use Rattle.srcp_tool.proofs.input.read_config.Goals as goal

pub returns-in_default-2-clause-within : goal.returns-in_default-2-clause-within
returns-in_default-2-clause-within g c = c.read_within.ensures.within
