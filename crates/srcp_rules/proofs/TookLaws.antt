-- Laws of the effect of every command of a layout.
use Rattle.srcp_rules.proofs.Names
use Names.{each-map, ℕ, ◌≤◌, List, length, sym, ap, subst, inl, inr, arith, AllByRecursion, IsMoment, IsWellFormed, Bus, Command, State}
use Names.{Update, IsWhole, effect, MayObey}
use Rattle.std.proofs.lemmas.List.{length-map}
use Rattle.srcp_info.specs.WellFormed.{IsWellFormedReply}
use Rattle.srcp_rules.specs.declared.obeyed.Obeyed.{Obeyed}
use Rattle.srcp_rules.specs.Obeyed.{IsObeyed}
use Rattle.srcp_rules.proofs.CountLaws.{effect_few}
use Rattle.srcp_rules.proofs.EffectLaws.{effect_kept}
use Rattle.srcp_rules.proofs.ToldLaws.{effect_told, reply_told}

pub obeyed_all : (buses : List Bus) (state after : State) (session moment : ℕ) → IsMoment moment → (command : Command)
    → MayObey buses state session command → (obeyed : Obeyed) → IsObeyed state after session moment command obeyed
    → IsWhole buses after × IsWellFormedReply obeyed.reply × AllByRecursion IsWellFormed obeyed.changes.items
    × (length obeyed.changes.items ≤ 11)
obeyed_all buses state after session moment now command may obeyed (inl took) =
    let updates = (effect state session moment command).updates in
    let few = effect_few buses state session moment command may.of in
    let same = ap length took.told.changes in
    let long = length-map updates (λ (update : Update). update.change) in (
      subst (IsWhole buses) (sym took.rows) (effect_kept buses state may.whole session moment may.begun now command may.of),
      subst IsWellFormedReply (sym took.told.reply) (reply_told buses state may.whole session moment may.begun now command),
      subst (AllByRecursion IsWellFormed) (sym took.told.changes)
          (each-map IsWellFormed (λ update. update.change) updates
          (effect_told buses state may.whole session moment may.begun now command may.of)),
      omega (arith, few, same, long),
    )
obeyed_all buses state after session moment now command may obeyed (inr wants) =
    let same = ap length wants.1.told.changes in (
      subst (IsWhole buses) (sym wants.1.rows) may.whole,
      subst IsWellFormedReply (sym wants.1.told.reply) tt,
      subst (AllByRecursion IsWellFormed) (sym wants.1.told.changes) tt,
      omega (arith, same),
    )
