-- What a core ends as, once bytes of it are no longer lent.
use mir.Syntax.{named}
use Rattle.std.specs.Prelude.{◌≡◌, []}
use Rattle.std.specs.Borrow.{Fml, RattleType, MutBor}
use Rattle.std.specs.Io.BufRead.{Rests}
use Rattle.srcp_rules.specs.declared.rows.Rows.{Ghosts}
use Rattle.srcp_core.specs.Past.{Past}
use Rattle.srcp_core.specs.contracts.logged.LoggedCore.{the_row}

-- once the loan is over, this has happened to the core
abbrev pub EndsAs : (R : RattleType) → Ghosts R.Denot → MutBor Past → Past → Fml
EndsAs R g core past = Rests (the_row (record { mir = named 1; lft = [] }) R g) core (λ new. new ≡ past)
