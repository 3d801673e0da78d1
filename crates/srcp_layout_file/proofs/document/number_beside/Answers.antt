use Rattle.std.specs.Prelude.{◌≡◌, ℕ, Bool, true, false, ◌==◌, is_some, find, option_copied, Option, Some, None, List}
use Rattle.std.proofs.Common.{◌∙◌, Bor, refl, sym, ap}
use Rattle.srcp_grammar.specs.Layout.{has_number}
use Rattle.srcp_grammar.specs.declared.layout.Bus.{Bus}
use Rattle.srcp_grammar.proofs.BusLaws.{has_number-found}
use Rattle.srcp_layout_file.proofs.document.number_beside.Goals as goal

copied : (o : Option (Bor Bus)) → is_some o ≡ is_some (option_copied o)
copied None = refl
copied (Some bus) = refl

-- whether a bus of the number is there, by what looking for it found
is_there : (buses : List Bus) (number : ℕ) (o : Option (Bor Bus)) (b : Bool) → option_copied o ≡ find (λ bus. bus.number == number) buses
    → b ≡ is_some o → has_number buses number ≡ b
is_there buses number o b found is = has_number-found buses number ∙ sym (ap is_some found) ∙ sym (copied o) ∙ sym is

pub returns-then-is_some-clause-number : goal.returns-then-is_some-clause-number
returns-then-is_some-clause-number c =
    let there : has_number c.args.before.now c.in_ok-number.field-0 ≡ true =
    is_there c.args.before.now c.in_ok-number.field-0 c.bus.result c.is_some.result c.bus.ensures c.is_some.ensures
    ∙ c.if-is_some.true in
    rw (← c.from.ensures, ← c.in_ok-number.ensures.value, there) refl

pub returns-else-is_some-clause-number : goal.returns-else-is_some-clause-number
returns-else-is_some-clause-number c =
    let there : has_number c.args.before.now c.in_ok-number.field-0 ≡ false =
    is_there c.args.before.now c.in_ok-number.field-0 c.bus.result c.is_some.result c.bus.ensures c.is_some.ensures
    ∙ c.if-is_some.false in
    rw (← c.from.ensures, ← c.in_ok-number.ensures.value, there) refl

pub returns-else-is_some-clause-new : goal.returns-else-is_some-clause-new
returns-else-is_some-clause-new c =
    let there : has_number c.args.before.now c.in_ok-number.field-0 ≡ false =
    is_there c.args.before.now c.in_ok-number.field-0 c.bus.result c.is_some.result c.bus.ensures c.is_some.ensures
    ∙ c.if-is_some.false in
    let within = rw c.from.ensures at c.in_ok-number.ensures.within in
    (within.0, within.1, there)

pub returns-then-is_some-clause-new : goal.returns-then-is_some-clause-new
returns-then-is_some-clause-new c = tt
