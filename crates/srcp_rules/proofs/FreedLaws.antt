-- The registry after the end of a session.
use Rattle.srcp_rules.proofs.Names
use Names.{arith, ◌≡◌, ℕ, false, ◌==◌, List, Option, Some, refl, option_map_or, Key, Row, Bus, session_device, State, IsWhole, row_at}
use Names.{is_there, holder_of, updated_all, freed}
use Rattle.std.proofs.Common.{eqb-true}
use Rattle.srcp_rules.specs.Laws.{EndsFreeAll}
use Rattle.srcp_rules.proofs.DueLaws.{freed_kept}
use Rattle.srcp_rules.proofs.SessionLaws.{freed_own, freed_others}

-- a session that is not there holds nothing
unheld : (buses : List Bus) (state : State) (session : ℕ) → IsWhole buses state → is_there (session_device session) state ≡ false
    → (key : Key) (row : Row) → row_at key state ≡ Some row
    → (o : Option ℕ) → holder_of row ≡ o → option_map_or (λ holder. holder == session) o false ≡ false
unheld buses state session whole absent key row h o e = grind (arith, eqb-true)

pub all_freed : EndsFreeAll
all_freed buses state session moment whole =
    let after = updated_all (freed state session moment) state in
    let gone = freed_own buses state whole moment session in
    record {
      gone = gone;
      locks = λ key row h. unheld buses after session (freed_kept buses moment state whole session) gone key row h (holder_of row) refl;
      others = λ id apart. freed_others buses state whole moment session id apart;
    }
