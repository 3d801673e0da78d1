use Rattle.std.proofs.Common.{◌≡◌, ℕ, List, ◌∷◌, ◌++◌, refl, arith}
use Rattle.std.specs.List.{join_with_byte}
use lib.Chars.{codes}
use Rattle.srcp_info.specs.declared.key.Group.{Group}
use Rattle.srcp_info.specs.declared.key.Group.TheVariants as group
use Rattle.srcp_info.specs.Line.{group_words}
use Rattle.srcp_info.proofs.scan.next_group.Goals as goal

pub returns-in-Some : goal.returns-in-Some
returns-in-Some c = each
  where
    each : (g : Group) (others : List (List ℕ)) → c.args.text.now ≡ join_with_byte 32 (group_words g ++ others)
        → (c.in-Some.group ≡ g) × (c.next_word.result.1.now ≡ join_with_byte 32 others)
    each group.LockGl others is = grind (arith, c.next_word.ensures (codes "LOCK") (codes "GL" ∷ others))
    each group.LockGa others is = grind (arith, c.next_word.ensures (codes "LOCK") (codes "GA" ∷ others))
    each group.Session others is = grind (arith, c.next_word.ensures (codes "SESSION") others)
    each group.Power others is = grind (arith, c.next_word.ensures (codes "POWER") others)
    each group.Gl others is = grind (arith, c.next_word.ensures (codes "GL") others)
    each group.Ga others is = grind (arith, c.next_word.ensures (codes "GA") others)
    each group.Fb others is = grind (arith, c.next_word.ensures (codes "FB") others)

pub returns-in-None : goal.returns-in-None
returns-in-None c = each
  where
    each : (g : Group) (others : List (List ℕ)) → c.args.text.now ≡ join_with_byte 32 (group_words g ++ others)
        → (c.next_lock_group.result.0 ≡ g) × (c.next_lock_group.result.1.now ≡ join_with_byte 32 others)
    each group.LockGl others is = c.next_lock_group.ensures.gl others (c.next_word.ensures (codes "LOCK") (codes "GL" ∷ others) refl is).1
    each group.LockGa others is = c.next_lock_group.ensures.ga others (c.next_word.ensures (codes "LOCK") (codes "GA" ∷ others) refl is).1
    each group.Session others is = grind (arith, c.next_word.ensures (codes "SESSION") others)
    each group.Power others is = grind (arith, c.next_word.ensures (codes "POWER") others)
    each group.Gl others is = grind (arith, c.next_word.ensures (codes "GL") others)
    each group.Ga others is = grind (arith, c.next_word.ensures (codes "GA") others)
    each group.Fb others is = grind (arith, c.next_word.ensures (codes "FB") others)
