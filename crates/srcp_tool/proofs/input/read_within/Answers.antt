use Rattle.srcp_tool.proofs.input.read_within.Goals as goal

pub returns-then-len-count-clause-whole : goal.returns-then-len-count-clause-whole
returns-then-len-count-clause-whole g c = tt
