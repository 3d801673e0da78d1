use Rattle.std.specs.Prelude.{◌≡◌, false, insert, cond, not, is_some, option_copied, Option, Some, None}
use Rattle.std.proofs.Common.{refl, sym, ap, subst, ◌∙◌, rules}
use Rattle.std.proofs.lemmas.List.Sorted.{IsPartitionPoint-from_clause}
use denote.Ref.{Bor}
use Rattle.srcp_grammar.specs.declared.layout.Bus.{Bus}
use Rattle.srcp_grammar.specs.Layout.{IsLayout, has_number, with_bus}
use Rattle.srcp_grammar.proofs.BusLaws.{below, below_partitioned, has_number-found, insert-with_bus, IsLayout-with_bus}
use Rattle.srcp_grammar.proofs.layout.Layout.add.Goals as goal

copied : (o : Option (Bor Bus)) → is_some o ≡ is_some (option_copied o)
copied None = refl
copied (Some bus) = refl

pub returns-clause-ok : goal.returns-clause-ok
returns-clause-ok c =
    let bus = c.args.bus in
    let buses = c.deref.result.now in
    let index = c.partition_point-index.result in
    let same : buses ≡ c.args.self.now = c.deref.ensures.value ∙ c.self.view_is in
    let free : has_number buses bus.number ≡ false =
    ap (λ bs. has_number bs bus.number) same ∙ has_number-found c.args.self.now bus.number ∙ sym (ap is_some c.bus.ensures)
    ∙ sym (copied c.bus.result) ∙ sym c.is_some.ensures ∙ c.if-is_some.false in
    let layout : IsLayout buses = subst IsLayout (sym c.deref.ensures.value) c.self.invariant in
    let parted =
    IsPartitionPoint-from_clause (below bus) buses index c.partition_point-index.ensures.partitioned
    (below_partitioned bus buses layout) (λ a r f' called. search rules) in
    c.insert.ensures.items
    ∙ ap (λ b. cond b (insert c.self.inside.buses.items index bus) c.self.inside.buses.items)
    (c.is_err.ensures.negation ∙ ap not c.if-is_err.false)
    ∙ ap (λ bs. insert bs index bus) (sym c.deref.ensures.value)
    ∙ insert-with_bus bus buses index free c.partition_point-index.ensures.bound parted ∙ ap (with_bus bus) same

pub invariant_of-self-2 : goal.invariant_of-self-2
invariant_of-self-2 c =
    let bus = c.args.bus in
    let buses = c.deref.result.now in
    let index = c.partition_point-index.result in
    let same : buses ≡ c.args.self.now = c.deref.ensures.value ∙ c.self.view_is in
    let free : has_number buses bus.number ≡ false =
    ap (λ bs. has_number bs bus.number) same ∙ has_number-found c.args.self.now bus.number ∙ sym (ap is_some c.bus.ensures)
    ∙ sym (copied c.bus.result) ∙ sym c.is_some.ensures ∙ c.if-is_some.false in
    let layout : IsLayout buses = subst IsLayout (sym c.deref.ensures.value) c.self.invariant in
    let parted =
    IsPartitionPoint-from_clause (below bus) buses index c.partition_point-index.ensures.partitioned
    (below_partitioned bus buses layout) (λ a r f' called. search rules) in
    subst IsLayout
    (sym
    (c.insert.ensures.items
    ∙ ap (λ b. cond b (insert c.self.inside.buses.items index bus) c.self.inside.buses.items)
    (c.is_err.ensures.negation ∙ ap not c.if-is_err.false)
    ∙ ap (λ bs. insert bs index bus) (sym c.deref.ensures.value)
    ∙ insert-with_bus bus buses index free c.partition_point-index.ensures.bound parted))
    (IsLayout-with_bus bus buses layout (c.is_in_range.ensures.0 c.if-not-is_in_range.false))
