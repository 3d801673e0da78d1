-- The model of the code: what a core holds, and what has happened to it.
use Rattle.std.specs.Prelude.{◌≡◌, List, []}
use Rattle.srcp_grammar.specs.declared.layout.Bus.{Bus}
use Rattle.srcp_grammar.specs.Layout.{IsLayout}
use Rattle.srcp_core.specs.Course.{course, denied_over, start}
use Rattle.srcp_core.specs.Held.{Held}
use Rattle.srcp_core.specs.Laws.{AllMoments}
use Rattle.srcp_core.specs.Stands.{StandsFor}
use Rattle.srcp_core.specs.declared.log.Log.{Log}

-- the core stands for the course of the logged events, under the logged keys, and counted the refusals in them
pub record HasLived (buses : List Bus) (held : Held) (log : Log) : Type 0 where
  pub layout : IsLayout buses
  pub stands : StandsFor buses log.keys held (course buses log.events)
  pub moments : AllMoments log.events
  pub read : log.grants ≡ []
  pub counted : held.denied ≡ denied_over buses 0 start log.events
