-- Each way that is found leads from its begin to its goal.
use Rattle.std.proofs.Common.{◌≡◌, ◌∙◌, ℕ, zero, suc, ◌==◌, Bool, true, false, List, [], ◌∷◌, ◌++◌, Option, Some, None}
use Rattle.std.proofs.Common.{refl, sym, append_assoc}
use Rattle.std.proofs.lemmas.Bool.{eqb-true}
use Rattle.std.specs.Prelude.{if◌then◌else◌, length, map, option_and_then}
use Rattle.srcp_routes.specs.declared.route.Setting.{Setting}
use Rattle.srcp_plan_file.specs.Laws.{IsWay, Passes, WaysLead, last_of}
use Rattle.srcp_plan_file.specs.Ways.{first_join, next, walk}
use Rattle.srcp_plan_file.specs.declared.element.Kind.{Kind}
use Rattle.srcp_plan_file.specs.declared.join.Join.{Join}

module _ (joins : List Join) (kinds : List Kind) (turnouts : List Setting) (goal : ℕ) where
  -- from a join on a way leads to the goal
  record Leads (came : Join) (before pieces : List ℕ) : Type 0 where
    others : List Join
    passes : Passes joins kinds turnouts came others
    are : before ++ map (λ (join : Join). join.to) (came ∷ others) ≡ pieces
    ends : (last_of came others).to ≡ goal

  leads_next : (most : ℕ) (before pieces : List ℕ) (came : Join) (x : Option Join) → next joins kinds turnouts came ≡ x
      → ((join : Join) → walk joins kinds turnouts goal most (before ++ came.to ∷ []) join ≡ Some pieces
      → Leads join (before ++ came.to ∷ []) pieces)
      → option_and_then (walk joins kinds turnouts goal most (before ++ came.to ∷ [])) x ≡ Some pieces
      → Leads came before pieces
  leads_next most before pieces came None is so e = absurd (cc)
  leads_next most before pieces came (Some join) is so e =
      let led : Leads join (before ++ came.to ∷ []) pieces = so join e in
      record {
        others = join ∷ led.others;
        passes = (is, led.passes);
        are = sym (append_assoc before (came.to ∷ []) (map (λ (join : Join). join.to) (join ∷ led.others))) ∙ led.are;
        ends = led.ends;
      }

  leads_at : (most : ℕ) (before pieces : List ℕ) (came : Join) (here : Bool) → (came.to == goal) ≡ here
      → ((join : Join) → walk joins kinds turnouts goal most (before ++ came.to ∷ []) join ≡ Some pieces
      → Leads join (before ++ came.to ∷ []) pieces)
      → (if here then Some (before ++ came.to ∷ [])
      else option_and_then (walk joins kinds turnouts goal most (before ++ came.to ∷ [])) (next joins kinds turnouts came))
      ≡ Some pieces → Leads came before pieces
  leads_at most before pieces came true is so e =
      record { others = []; passes = tt; are = cc; ends = eqb-true came.to goal is }
  leads_at most before pieces came false is so e =
      leads_next most before pieces came (next joins kinds turnouts came) refl so e

  leads : (most : ℕ) (before pieces : List ℕ) (came : Join) → walk joins kinds turnouts goal most before came ≡ Some pieces
      → Leads came before pieces
  leads zero before pieces came e = absurd (cc)
  leads (suc most) before pieces came e = leads_at most before pieces came (came.to == goal) refl
      (λ join later. leads most (before ++ came.to ∷ []) pieces join later) e

  leads_from : (begin : ℕ) (pieces : List ℕ) (x : Option Join) → first_join joins begin ≡ x
      → option_and_then (walk joins kinds turnouts goal (length joins) []) x ≡ Some pieces
      → IsWay joins kinds turnouts begin goal pieces
  leads_from begin pieces None is e = absurd (cc)
  leads_from begin pieces (Some first) is e =
      let led : Leads first [] pieces = leads (length joins) [] pieces first e in
      record {
        first = first;
        others = led.others;
        begins = is;
        passes = led.passes;
        are = led.are;
        ends = led.ends;
      }

pub ways-lead : WaysLead
ways-lead joins kinds turnouts begin goal pieces e =
    leads_from joins kinds turnouts goal begin pieces (first_join joins begin) refl e
