use Rattle.srcp_core.proofs.Names.{◌≡◌, ◌∷◌, refl, ap, sym, ◌∙◌, length, length-append, arith}
use Rattle.srcp_core.proofs.Invariants.PanelsAreListed.{listed, listed_from, from_zero}
use Rattle.srcp_core.proofs.Invariants.PanelsStay.{panels_few}
use Rattle.srcp_core.proofs.server_core.walk.panel_keys.Goals as goal

pub loop-key-init : goal.loop-key-init
loop-key-init c =
    let left = c.into_iter-key-iterator.ensures.into_iter_gives ∙ c.iter-key-items.ensures.rest in
    (tt, tt, rw (left, c.new-keys.ensures) (listed_from 0 c.args.connections.now.slots ∙ from_zero _))

pub push-requires : goal.push-requires
push-requires c =
    let few = panels_few c.args.connections.now.slots in
    let all = ap length c.loop-key.invariant.2 in
    let parts = length-append c.loop-key.keys.items (listed c.loop-key.key-iterator) in
    let next : listed c.loop-key.key-iterator ≡ c.in-Some.key ∷ listed c.next.new.self =
    ap listed c.in-Some.ensures.steps ∙ rw (sym c.is_panel.ensures ∙ c.if-is_panel.true) refl in
    let one = ap length next in
    (omega arith, omega (arith, few, all, parts, one, c.requires))
