use Rattle.srcp_core.proofs.Names.{◌≡◌, ℕ, List, [], length, sym, ap, ◌∙◌, true≢false, ◌==◌, eqb-true, nil_from_length, panel_keys}
use Rattle.srcp_core.proofs.Invariants.PanelsStay.{no_slack, some_slack}
use Rattle.srcp_core.proofs.server_core.Core.slack.Goals as goal

pub returns-then-is_empty : goal.returns-then-is_empty
returns-then-is_empty g c =
    rw (← c.self.view_is)
    (sym (no_slack c.self.inside.connections.slots
    (sym c.self.invariant.3 ∙ nil_from_length _ (eqb-true _ 0 (sym c.is_empty.ensures ∙ c.if-is_empty.true)))))

pub returns : goal.returns
returns g c =
    let some : panel_keys c.self.inside.connections.slots ≡ [] → ⊥ = λ none.
    true≢false (sym (ap (λ (keys : List ℕ). length keys == 0) (c.self.invariant.3 ∙ none))
    ∙ sym c.is_empty.ensures ∙ c.if-is_empty.false) in
    rw (← c.self.view_is) (cc (c.least_slack.ensures, some_slack c.self.inside.connections.slots some))
