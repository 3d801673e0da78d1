-- What a refusal leaves, and what it says of a command that was obeyed.
use Rattle.srcp_core.proofs.Names.{◌≡◌, ◌≢◌, ℕ, sym, ◌∙◌, inl, inr, C500, Refused, Command, effect, State}
use Rattle.srcp_rules.specs.declared.obeyed.Obeyed.{Obeyed}
use Rattle.srcp_rules.specs.Obeyed.{IsObeyed, Took}
use Rattle.srcp_rules.proofs.CheckLaws.{refusal_keeps}

module _ (state after : State) (session moment : ℕ) (command : Command) (obeyed : Obeyed) where
  -- where 500 was answered, the registry is as it was
  pub denied_same : IsObeyed state after session moment command obeyed → obeyed.reply ≡ Refused C500 → after ≡ state
  denied_same (inl took) e =
      cc (took.rows, (refusal_keeps state session moment command C500 (sym took.told.reply ∙ e)).updates)
  denied_same (inr wants) e = wants.1.rows

  -- and else the command took effect
  pub given_took : IsObeyed state after session moment command obeyed → obeyed.reply ≢ Refused C500
      → Took (effect state session moment command) state after obeyed
  given_took (inl took) n = took
  given_took (inr wants) n = absurd (n wants.1.told.reply)
