use Rattle.srcp_core.proofs.Agreement.MemoryAnswers.{gives_as_if}
use Rattle.srcp_core.proofs.laws.ample_memory.Goals as goal

pub returns : goal.returns
returns c = λ buses grants events given. gives_as_if buses grants events given
