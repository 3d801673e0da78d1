-- What a line does to a panel over any history, and what is kept by each thing that can happen.
use Rattle.std.proofs.Common.{◌≡◌, List, [], ◌∷◌, ◌++◌, map, take, drop, refl, ap, sym, ◌∙◌, subst, append-nil}
use Rattle.std.proofs.lemmas.List.Concat.{flat_map-append}
use Rattle.std.proofs.lemmas.List.Elements.{filter_map-append}
use Rattle.std.specs.List.{AllByRecursion, fold}
use Rattle.std.specs.Prelude.{⊤}
use Rattle.srcp_info.specs.declared.change.Change.{Change}
use Rattle.srcp_info.specs.declared.change.Cursor.TheVariants.{After, Done}
use Rattle.srcp_info.specs.declared.change.Shown.{Shown}
use Rattle.srcp_feed.specs.Cursor.{beyond, moved, said}
use Rattle.srcp_feed.specs.Feed.{first_of}
use Rattle.srcp_feed.specs.History.{Changes, Given, Gives, Happening, Panel, happens, listed, listed_row, steps_of, tells}
use Rattle.srcp_feed.specs.declared.feed.Next.{Next}
use Rattle.srcp_feed.specs.declared.feed.Next.TheVariants.{Listed, Told}

-- ---- what a line does

abbrev pub told_panel : Change → List Change → Panel → Panel
told_panel change queue panel = record {
  rows = panel.rows;
  feed = record { cursor = panel.feed.cursor; queue = queue };
  given = panel.given ++ record { rows = panel.rows; what = Told change } ∷ [];
}

abbrev pub listed_panel : Shown → Panel → Panel
listed_panel row panel = record {
  rows = panel.rows;
  feed = record { cursor = After row.key; queue = [] };
  given = panel.given ++ record { rows = panel.rows; what = Listed row } ∷ [];
}

abbrev pub done_panel : Panel → Panel
done_panel panel = record { rows = panel.rows; feed = record { cursor = Done; queue = [] }; given = panel.given }

-- the panel is given a line by what waits and what is left to list
abbrev given_by : Panel → List Change → List Shown → Panel
given_by panel queue left =
    let nexts = map Told queue ++ map Listed left in
    record {
      rows = panel.rows;
      feed = record { cursor = moved panel.feed.cursor (first_of nexts); queue = drop 1 queue };
      given = panel.given ++ map (λ what. record { rows = panel.rows; what = what }) (take 1 nexts);
    }

pub gives_told : (panel : Panel) (change : Change) (queue : List Change) → panel.feed.queue ≡ change ∷ queue
    → happens panel Gives ≡ told_panel change queue panel
gives_told panel change queue e = ap (λ q. given_by panel q (beyond panel.feed.cursor panel.rows)) e

pub gives_listed : (panel : Panel) (row : Shown) (left : List Shown) → panel.feed.queue ≡ []
    → beyond panel.feed.cursor panel.rows ≡ row ∷ left → happens panel Gives ≡ listed_panel row panel
gives_listed panel row left e b = ap (λ q. given_by panel q (beyond panel.feed.cursor panel.rows)) e ∙ ap (given_by panel []) b

pub gives_done : (panel : Panel) → panel.feed.queue ≡ [] → beyond panel.feed.cursor panel.rows ≡ []
    → happens panel Gives ≡ done_panel panel
gives_done panel e b =
    ap (λ q. given_by panel q (beyond panel.feed.cursor panel.rows)) e ∙ ap (given_by panel []) b
    ∙ ap (λ g. record { rows = panel.rows; feed = record { cursor = Done; queue = [] }; given = g }) (append-nil panel.given)

-- what is kept by each line that a panel is given
pub record IsGiven (P : Panel → Type 0) : Type 0 where
  pub tells : (change : Change) (queue : List Change) (panel : Panel) → panel.feed.queue ≡ change ∷ queue → P panel
      → P (told_panel change queue panel)
  pub lists : (row : Shown) (left : List Shown) (panel : Panel) → panel.feed.queue ≡ []
      → beyond panel.feed.cursor panel.rows ≡ row ∷ left → P panel → P (listed_panel row panel)
  pub ends : (panel : Panel) → panel.feed.queue ≡ [] → beyond panel.feed.cursor panel.rows ≡ [] → P panel → P (done_panel panel)

pub kept_given : (P : Panel → Type 0) → IsGiven P → (panel : Panel) → P panel → P (happens panel Gives)
kept_given P kept panel p = by panel.feed.queue refl (beyond panel.feed.cursor panel.rows) refl
  where
    by : (queue : List Change) → panel.feed.queue ≡ queue → (left : List Shown) → beyond panel.feed.cursor panel.rows ≡ left
        → P (happens panel Gives)
    by (change ∷ queue) e left b = subst P (sym (gives_told panel change queue e)) (kept.tells change queue panel e p)
    by [] e (row ∷ left) b = subst P (sym (gives_listed panel row left e b)) (kept.lists row left panel e b p)
    by [] e [] b = subst P (sym (gives_done panel e b)) (kept.ends panel e b p)

-- and by each step of changes of which S holds
pub record IsKept (S : List Change → Type 0) (P : Panel → Type 0) : Type 0 where
  pub given : IsGiven P
  pub steps : (changes : List Change) (panel : Panel) → S changes → P panel → P (happens panel (Changes changes))

pub kept_all : (S : List Change → Type 0) (P : Panel → Type 0) → IsKept S P → (happenings : List Happening) (panel : Panel)
    → AllByRecursion S (steps_of happenings) → P panel → P (fold happens panel happenings)
kept_all S P kept [] panel a p = p
kept_all S P kept (Changes changes ∷ happenings) panel a p = kept_all S P kept happenings _ a.1 (kept.steps changes panel a.0 p)
kept_all S P kept (Gives ∷ happenings) panel a p = kept_all S P kept happenings _ a (kept_given P kept.given panel p)

pub any_steps : (steps : List (List Change)) → AllByRecursion (λ (changes : List Change). ⊤) steps
any_steps [] = tt
any_steps (changes ∷ steps) = (tt, any_steps steps)

-- ---- what was given, and one line more

pub tells_more : (given : List Given) (rows : List Shown) (what : Next)
    → tells (given ++ record { rows = rows; what = what } ∷ []) ≡ tells given ++ said what
tells_more given rows what =
    flat_map-append (λ (line : Given). said line.what) given (record { rows = rows; what = what } ∷ [])
    ∙ ap (λ changes. tells given ++ changes) (append-nil (said what))

pub listed_told : (given : List Given) (rows : List Shown) (change : Change)
    → listed (given ++ record { rows = rows; what = Told change } ∷ []) ≡ listed given
listed_told given rows change =
    filter_map-append (λ (line : Given). listed_row line.what) given (record { rows = rows; what = Told change } ∷ [])
    ∙ append-nil (listed given)

pub listed_more : (given : List Given) (rows : List Shown) (row : Shown)
    → listed (given ++ record { rows = rows; what = Listed row } ∷ []) ≡ listed given ++ row ∷ []
listed_more given rows row =
    filter_map-append (λ (line : Given). listed_row line.what) given (record { rows = rows; what = Listed row } ∷ [])
