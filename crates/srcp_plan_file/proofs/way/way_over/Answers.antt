-- A step of the loop is a step of the walk.
use Rattle.std.proofs.Common.{rules, ◌≡◌, ◌∙◌, ℕ, suc, ◌+◌, ◌-◌, ◌<◌, ◌==◌, Bool, true, false, List, [], ◌∷◌, ◌++◌}
use Rattle.std.proofs.Common.{Option, Some, None, length, refl, sym, ap, arith}
use Rattle.std.proofs.lemmas.Bool.{eq-eqb, eqb-true}
use Rattle.std.specs.Prelude.{if◌then◌else◌, option_and_then}
use Rattle.srcp_routes.specs.declared.route.Setting.{Setting}
use Rattle.srcp_plan_file.specs.Ways.{next, walk}
use Rattle.srcp_plan_file.specs.declared.element.Kind.{Kind}
use Rattle.srcp_plan_file.specs.declared.join.Join.{Join}
use Rattle.srcp_plan_file.proofs.way.way_over.Goals as goal

differs : (a b : ℕ) (same : Bool) → (a == b) ≡ same → (a ≡ b → ⊥) → same ≡ false
differs a b true is h = absurd (h (eqb-true a b is))
differs a b false is h = refl

module _ (joins : List Join) (kinds : List Kind) (turnouts : List Setting) (to n i : ℕ) (before : List ℕ) (came : Join) where
  -- one step of a walk that is not at its end
  step : i < n → walk joins kinds turnouts to (n - i) before came
      ≡ (if came.to == to then Some (before ++ came.to ∷ [])
      else option_and_then (walk joins kinds turnouts to (n - (i + 1)) (before ++ came.to ∷ [])) (next joins kinds turnouts came))
  step lt =
      let one : n - i ≡ suc (n - (i + 1)) = omega (arith, lt) in
      ap (λ (most : ℕ). walk joins kinds turnouts to most before came) one

  reached : i < n → came.to ≡ to → walk joins kinds turnouts to (n - i) before came ≡ Some (before ++ came.to ∷ [])
  reached lt here = step lt
      ∙ ap (λ (same : Bool). if same then Some (before ++ came.to ∷ [])
      else option_and_then (walk joins kinds turnouts to (n - (i + 1)) (before ++ came.to ∷ [])) (next joins kinds turnouts came))
      (eq-eqb came.to to here)

  passed : i < n → (came.to ≡ to → ⊥) → walk joins kinds turnouts to (n - i) before came
      ≡ option_and_then (walk joins kinds turnouts to (n - (i + 1)) (before ++ came.to ∷ [])) (next joins kinds turnouts came)
  passed lt differ = step lt
      ∙ ap (λ (same : Bool). if same then Some (before ++ came.to ∷ [])
      else option_and_then (walk joins kinds turnouts to (n - (i + 1)) (before ++ came.to ∷ [])) (next joins kinds turnouts came))
      (differs came.to to (came.to == to) refl differ)

  goes_on : (x : Option Join) → i < n → (came.to ≡ to → ⊥) → x ≡ next joins kinds turnouts came
      → walk joins kinds turnouts to (n - i) before came
      ≡ option_and_then (walk joins kinds turnouts to (n - (i + 1)) (before ++ came.to ∷ [])) x
  goes_on x lt differ is = passed lt differ
      ∙ ap (λ (y : Option Join). option_and_then (walk joins kinds turnouts to (n - (i + 1)) (before ++ came.to ∷ [])) y) (sym is)

pub returns-then-came-goal : goal.returns-then-came-goal
returns-then-came-goal c =
    let items : c.push.new.self.items ≡ c.loop-passed.pieces.items ++ c.loop-passed.came.to ∷ [] = search rules in
    let lt : c.loop-passed._passed < length c.args.joins.now = omega arith in
    ap Some items
    ∙ sym (reached c.args.joins.now c.args.kinds.now c.args.turnouts.now c.args.goal (length c.args.joins.now) c.loop-passed._passed
    c.loop-passed.pieces.items c.loop-passed.came lt c.if-came-goal.true)
    ∙ c.loop-passed.invariant

pub returns-in-None : goal.returns-in-None
returns-in-None c =
    let lt : c.loop-passed._passed < length c.args.joins.now = omega arith in
    sym (goes_on c.args.joins.now c.args.kinds.now c.args.turnouts.now c.args.goal (length c.args.joins.now) c.loop-passed._passed
    c.loop-passed.pieces.items c.loop-passed.came None lt c.if-came-goal.false c.in-None.ensures)
    ∙ c.loop-passed.invariant

pub loop-passed-preserved : goal.loop-passed-preserved
loop-passed-preserved c =
    let items : c.push.new.self.items ≡ c.loop-passed.pieces.items ++ c.loop-passed.came.to ∷ [] = search rules in
    let lt : c.loop-passed._passed < length c.args.joins.now = omega arith in
    ap (λ (before : List ℕ). walk c.args.joins.now c.args.kinds.now c.args.turnouts.now c.args.goal
    (length c.args.joins.now - (c.loop-passed._passed + 1)) before c.in-Some-next.join) items
    ∙ sym (goes_on c.args.joins.now c.args.kinds.now c.args.turnouts.now c.args.goal (length c.args.joins.now) c.loop-passed._passed
    c.loop-passed.pieces.items c.loop-passed.came (Some c.in-Some-next.join) lt c.if-came-goal.false c.in-Some-next.ensures)
    ∙ c.loop-passed.invariant
