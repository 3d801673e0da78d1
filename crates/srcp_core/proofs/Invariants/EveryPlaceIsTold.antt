-- The walk that tells every connection a change.
use Rattle.srcp_core.proofs.Names.{◌≡◌, ℕ, suc, ◌+◌, List, [], ◌∷◌, map, refl, ap, sym, ◌∙◌, true≢false, Option, Some, None}
use Rattle.srcp_core.proofs.Names.{slice_index_or, count_by, is_some, if◌then◌else◌, option_map, sum_by-cons, Change, Place, told_place}
use Rattle.srcp_core.proofs.Names.{told_all, panel_keys, is_panel, changed_places, changed_in, Panel, Absent, Listening, Overran}
use Rattle.std.specs.Prelude.{fold, Bool, true, false}
use Rattle.std.proofs.Math.ListN.{get_or-map}

-- the connection of that key is told the change
abbrev pub told_key : Change → List (Option Place) → ℕ → List (Option Place)
told_key change places key = changed_places key (told_place change) places

told_key_behind : (change : Change) (slot : Option Place) (places : List (Option Place)) (key : ℕ)
    → told_key change (slot ∷ places) (suc key) ≡ slot ∷ told_key change places key
told_key_behind change slot places key = by _
  where
    by : (found : Option Place)
        → changed_in (suc key) (told_place change) (slot ∷ places) found ≡ slot ∷ changed_in key (told_place change) places found
    by None = refl
    by (Some place) = refl

told_behind : (change : Change) (slot : Option Place) (places : List (Option Place)) (keys : List ℕ)
    → fold (told_key change) (slot ∷ places) (map suc keys) ≡ slot ∷ fold (told_key change) places keys
told_behind change slot places [] = refl
told_behind change slot places (key ∷ keys) =
    cc (told_key_behind change slot places key, told_behind change slot (told_key change places key) keys)

untold : (change : Change) (place : Place) (panel : Panel) → place.panel ≡ panel → is_panel panel ≡ false → told_place change place ≡ place
untold change place Absent e none = cc
untold change place (Listening feed) e none = absurd (true≢false none)
untold change place Overran e none = absurd (true≢false none)

-- to tell the panels is to tell all
pub told_panels : (change : Change) (places : List (Option Place))
    → fold (told_key change) places (panel_keys places) ≡ told_all change places
told_panels change [] = refl
told_panels change (None ∷ places) =
    told_behind change None places (panel_keys places) ∙ ap (λ ps. None ∷ ps) (told_panels change places)
told_panels change (Some place ∷ places) = by _ refl (told_panels change places)
  where
    by : (is : Bool) → is_panel place.panel ≡ is → fold (told_key change) places (panel_keys places) ≡ told_all change places
        → fold (told_key change) (Some place ∷ places) (if is then 0 ∷ map suc (panel_keys places) else map suc (panel_keys places))
        ≡ Some (told_place change place) ∷ told_all change places
    by true e rest =
        told_behind change (Some (told_place change place)) places (panel_keys places)
        ∙ ap (λ ps. Some (told_place change place) ∷ ps) rest
    by false e rest =
        told_behind change (Some place) places (panel_keys places)
        ∙ (λ i. Some (sym (untold change place place.panel refl e) i) ∷ rest i)

pub count_by_cons : {X : Type 0} (p : X → Bool) (x : X) (xs : List X) → count_by p (x ∷ xs) ≡ (if p x then 1 else 0) + count_by p xs
count_by_cons p x xs = sum_by-cons (λ y. if p y then 1 else 0) x xs

pub told_all_count : (change : Change) (places : List (Option Place)) → count_by is_some (told_all change places) ≡ count_by is_some places
told_all_count change [] = refl
told_all_count change (None ∷ places) =
    count_by_cons is_some None (told_all change places) ∙ ap (λ n. 0 + n) (told_all_count change places)
    ∙ sym (count_by_cons is_some None places)
told_all_count change (Some place ∷ places) =
    count_by_cons is_some (Some (told_place change place)) (told_all change places) ∙ ap (λ n. 1 + n) (told_all_count change places)
    ∙ sym (count_by_cons is_some (Some place) places)

pub told_all_at : (change : Change) (places : List (Option Place)) (key : ℕ)
    → slice_index_or (told_all change places) key None ≡ option_map (told_place change) (slice_index_or places key None)
told_all_at change places key = get_or-map (option_map (told_place change)) places key None
