-- The model of the code: what a core ends as, once bytes of it are no longer lent.
use mir.Syntax.{named}
use Rattle.std.specs.Prelude.{◌≡◌, []}
use Rattle.std.specs.Borrow.{Fml, RattleType, MutBor}
use Rattle.std.specs.Io.BufRead.{Rests}
use Rattle.srcp_rules.specs.declared.rows.Rows.{Ghosts}
use Rattle.srcp_core.specs.Held.{Held}
use Rattle.srcp_core.specs.contracts.server_core.Core.{the_row}

-- once the loan is over, what the core holds is this
abbrev pub EndsAs : (R : RattleType) → Ghosts R.Denot → MutBor Held → Held → Fml
EndsAs R g core held = Rests (the_row (record { mir = named 1; lft = [] }) R g) core (λ new. new ≡ held)
