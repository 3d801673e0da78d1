-- Which connections have an information session, and what keeps that as it is.
use Rattle.srcp_core.proofs.Names.{◌≡◌, ◌≤◌, ℕ, zero, suc, ◌+◌, List, [], ◌∷◌, map, length, refl, ◌∙◌, true≢false, arith, length-map}
use Rattle.srcp_core.proofs.Names.{if◌then◌else◌, Option, Some, None, slice_set, count_by, is_some, Slab, Change, Place, place_at, is_panel}
use Rattle.srcp_core.proofs.Names.{panel_keys, slack_in, slack_at, told_all, told_each, least, lesser, changes_left, Panel, Absent}
use Rattle.srcp_core.proofs.Names.{Listening, Overran, option_map_or}
use Rattle.std.specs.Prelude.{Bool, true, false}
use Rattle.slab.specs.Slab.{get, Updates}
use Rattle.srcp_core.specs.Machine.{fresh_place}
use Rattle.srcp_core.proofs.Invariants.EveryPlaceIsTold.{count_by_cons}
use Rattle.srcp_core.proofs.Invariants.PlacesCover.{told_mild, Here, Away, where_is}

slack_none : (panel : Panel) → is_panel panel ≡ false → slack_in panel ≡ None
slack_none Absent none = refl
slack_none (Listening feed) none = absurd (true≢false none)
slack_none Overran none = absurd (true≢false none)

abbrev with_key : Bool → List ℕ → List ℕ
with_key is keys = if is then 0 ∷ map suc keys else map suc keys

unlisted : (keys : List ℕ) → map suc keys ≡ [] → keys ≡ []
unlisted [] none = refl
unlisted (key ∷ keys) none = cc

lesser_some : (n : ℕ) (other : Option ℕ) → lesser (Some n) other ≡ Some (changes_left (lesser (Some n) other))
lesser_some n None = refl
lesser_some n (Some m) = refl

-- no panel can queue more than 256
pub slack_most : (places : List (Option Place)) → changes_left (least (map slack_at places)) ≤ 256
slack_most [] = omega arith
slack_most (None ∷ places) = slack_most places
slack_most (Some place ∷ places) = by place.panel (least (map slack_at places)) (slack_most places)
  where
    by : (panel : Panel) (rest : Option ℕ) → changes_left rest ≤ 256 → changes_left (lesser (slack_in panel) rest) ≤ 256
    by Absent rest most = most
    by (Listening feed) None most = omega arith
    by (Listening feed) (Some n) most = omega (arith, most)
    by Overran None most = omega arith
    by Overran (Some n) most = omega (arith, most)

-- without a panel there is no slack
pub no_slack : (places : List (Option Place)) → panel_keys places ≡ [] → least (map slack_at places) ≡ None
no_slack [] none = refl
no_slack (None ∷ places) none = no_slack places (unlisted _ none)
no_slack (Some place ∷ places) none = by _ refl none (no_slack places)
  where
    by : (is : Bool) → is_panel place.panel ≡ is → with_key is (panel_keys places) ≡ []
        → (panel_keys places ≡ [] → least (map slack_at places) ≡ None) → least (map slack_at (Some place ∷ places)) ≡ None
    by true e none rest = cc
    by false e none rest = cc (slack_none _ e, rest (unlisted _ none))

-- with one there is
pub some_slack : (places : List (Option Place)) → (panel_keys places ≡ [] → ⊥)
    → least (map slack_at places) ≡ Some (changes_left (least (map slack_at places)))
some_slack [] some = absurd (some refl)
some_slack (None ∷ places) some = some_slack places (λ none. some (cc))
some_slack (Some place ∷ places) some = by _ refl (some_slack places)
  where
    by : (panel : Panel) → place.panel ≡ panel
        → ((panel_keys places ≡ [] → ⊥) → least (map slack_at places) ≡ Some (changes_left (least (map slack_at places))))
        → lesser (slack_in panel) (least (map slack_at places))
        ≡ Some (changes_left (lesser (slack_in panel) (least (map slack_at places))))
    by Absent e rest = rest (λ none. some (cc))
    by (Listening feed) e rest = lesser_some _ _
    by Overran e rest = lesser_some _ _

-- a change that is told keeps the panels
pub panels_told : (change : Change) (places : List (Option Place)) → panel_keys (told_all change places) ≡ panel_keys places
panels_told change [] = refl
panels_told change (None ∷ places) = cc (panels_told change places)
panels_told change (Some place ∷ places) = λ i. with_key ((told_mild change place).panel i) (panels_told change places i)

pub panels_told_each : (changes : List Change) (places : List (Option Place))
    → panel_keys (told_each changes places) ≡ panel_keys places
panels_told_each [] places = refl
panels_told_each (change ∷ changes) places = panels_told_each changes _ ∙ panels_told change places

-- so does a place that keeps its panel
pub panels_set : (places : List (Option Place)) (key : ℕ) (p q : Place) → place_at places key ≡ Some p → is_panel q.panel ≡ is_panel p.panel
    → panel_keys (slice_set places key (Some q)) ≡ panel_keys places
panels_set [] key p q there same = refl
panels_set (slot ∷ places) zero p q there same = cc
panels_set (slot ∷ places) (suc key) p q there same = cc (panels_set places key p q there same)

-- the connection of a slot has an information session
abbrev has_panel : Option Place → Bool
has_panel place = option_map_or (λ p. is_panel p.panel) place false

same_panels : (some others : List (Option Place)) → ((key : ℕ) → has_panel (place_at some key) ≡ has_panel (place_at others key))
    → panel_keys some ≡ panel_keys others
same_panels [] [] same = refl
same_panels [] (slot ∷ others) same = λ i. with_key (same 0 i) (same_panels [] others (λ key. same (suc key)) i)
same_panels (slot ∷ some) [] same = λ i. with_key (same 0 i) (same_panels some [] (λ key. same (suc key)) i)
same_panels (slot ∷ some) (other ∷ others) same = λ i. with_key (same 0 i) (same_panels some others (λ key. same (suc key)) i)

-- so does a new connection
pub panels_inserted : (old new : Slab Place) (key : ℕ) → Updates old new key (Some fresh_place) → get old key ≡ None
    → panel_keys new.slots ≡ panel_keys old.slots
panels_inserted old new key updates free = same_panels new.slots old.slots (λ other.
    elim (where_is other key) [ Here e ↦ rw (e, updates.changed, free) refl | Away f ↦ cc (updates.others other f) ])

with_key_few : (is : Bool) (keys : List ℕ) → length (with_key is keys) ≤ 1 + length keys
with_key_few true keys = let e = length-map keys (λ key. suc key) in omega (arith, e)
with_key_few false keys = let e = length-map keys (λ key. suc key) in omega (arith, e)

-- there are as many as connections at most
pub panels_few : (places : List (Option Place)) → length (panel_keys places) ≤ count_by is_some places
panels_few [] = omega arith
panels_few (None ∷ places) =
    let e = length-map (panel_keys places) (λ key. suc key) in
    let n = count_by_cons is_some None places in omega (arith, panels_few places, e, n)
panels_few (Some place ∷ places) =
    let n = count_by_cons is_some (Some place) places in
    let one = with_key_few (is_panel place.panel) (panel_keys places) in omega (arith, panels_few places, one, n)
