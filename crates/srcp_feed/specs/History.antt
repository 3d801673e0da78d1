-- To be believed: rows that change step by step, and what a panel holds that is given a line of them now and then.
use Rattle.std.specs.Prelude.{◌≡◌, ℕ, ◌≤◌, Bool, true, List, [], ◌∷◌, ◌++◌, map, take, length, fold, filter, filter_map}
use Rattle.std.specs.Prelude.{flat_map, find, Option, Some, None}
use Rattle.std.specs.List.{AllByRecursion, list_any}
use Rattle.std.specs.Option.{IfSome}
use Rattle.std.specs.Ordering.{eq_by_cmp}
use Rattle.srcp_info.specs.Client.{client, IsRisingBy, HoldsLines}
use Rattle.srcp_info.specs.Key.{key_cmp}
use Rattle.srcp_info.specs.Line.{line}
use Rattle.srcp_info.specs.WellFormed.{IsWellFormed, IsWellFormedShown}
use Rattle.srcp_info.specs.declared.change.Change.{Change}
use Rattle.srcp_info.specs.declared.change.Change.TheVariants.{Put}
use Rattle.srcp_info.specs.declared.change.Shown.{Shown}
use Rattle.srcp_info.specs.declared.key.Key.{Key}
use Rattle.srcp_feed.specs.Cursor.{concerns, passed, said, changed_all}
use Rattle.srcp_feed.specs.Feed.{Feed, beginning, owed, after_next}
use Rattle.srcp_feed.specs.declared.feed.Next.{Next}
use Rattle.srcp_feed.specs.declared.feed.Next.TheVariants.{Listed}

-- ---- what happens

-- the rows take a step of some changes, or the panel is given the next line, if one is owed
pub data Happening : Type 0 where
  Changes : (changes : List Change) → Happening
  Gives : Happening

-- a line that was given, and the rows as they were then
pub record Given : Type 0 where
  pub rows : List Shown
  pub what : Next

-- the rows, what the panel is still to be given of them, and what it was given
pub record Panel : Type 0 where
  pub rows : List Shown
  pub feed : Feed
  pub given : List Given

-- the panel begins over these rows
abbrev pub begun : List Shown → Panel
begun rows = record { rows = rows; feed = beginning; given = [] }

-- the panel after one thing more: of the changes those wait that the listing has come to
abbrev pub happens : Panel → Happening → Panel
happens panel (Changes changes) = record {
  rows = changed_all changes panel.rows;
  feed = record panel.feed { queue = panel.feed.queue ++ filter (concerns panel.feed.cursor) changes };
  given = panel.given;
}
happens panel Gives = record {
  rows = panel.rows;
  feed = after_next panel.rows panel.feed;
  given = panel.given ++ map (λ what. record { rows = panel.rows; what = what }) (take 1 (owed panel.rows panel.feed));
}

-- the panel after all that happened
abbrev pub after : List Shown → List Happening → Panel
after first happenings = fold happens (begun first) happenings

-- the changes of the step, if it is one
abbrev pub step_of : Happening → Option (List Change)
step_of (Changes changes) = Some changes
step_of Gives = None

-- the changes of each step
abbrev pub steps_of : List Happening → List (List Change)
steps_of happenings = filter_map step_of happenings

-- ---- rows

-- the row at the key, if it is shown
abbrev pub shown_at : Key → List Shown → Option Shown
shown_at key rows = find (λ row. eq_by_cmp key_cmp row.key key) rows

-- whether the key has a row
abbrev pub has_key : Key → List Shown → Bool
has_key key rows = list_any (λ row. eq_by_cmp key_cmp row.key key) rows

-- the key has a row, and has one after each of these steps
abbrev pub HasAlways : Key → List Shown → List (List Change) → Type 0
HasAlways key rows [] = has_key key rows ≡ true
HasAlways key rows (changes ∷ steps) = (has_key key rows ≡ true) × HasAlways key (changed_all changes rows) steps

-- ---- what was given

-- the row that was listed
abbrev pub listed_row : Next → Option Shown
listed_row (Listed row) = Some row
listed_row _ = None

-- the rows that were listed, in order
abbrev pub listed : List Given → List Shown
listed given = filter_map (λ item. listed_row item.what) given

-- how often the row at the key was listed
abbrev pub times_listed : Key → List Given → ℕ
times_listed key given = length (filter (λ row. eq_by_cmp key_cmp row.key key) (listed given))

-- what was given is no row, or is listed as it was then
abbrev pub IsHeld : Given → Type 0
IsHeld item = IfSome (listed_row item.what) (λ row. shown_at row.key item.rows ≡ Some row)

-- the changes that were told, a row as one that is put
abbrev pub tells : List Given → List Change
tells given = flat_map (λ item. said item.what) given

-- nothing is left to give
abbrev pub IsSettled : Panel → Type 0
IsSettled panel = owed panel.rows panel.feed ≡ []

-- ---- what holds

-- while no step has a change, the panel is told the first of the rows, and all of them once it is settled
pub record IsToldRows (first : List Shown) (panel : Panel) : Type 0 where
  pub prefix : (rest : List Change) × (tells panel.given ++ rest ≡ map (λ row. Put row) first)
  pub whole : IsSettled panel → tells panel.given ≡ map (λ row. Put row) first

-- listed keys rise, none comes twice, and each row is listed as it was; a client that is told what was given and what
-- waits holds what the listing has passed, and all rows once the panel is settled; and a row that is there from the
-- beginning until the panel is settled is listed exactly once, whatever comes after
pub record IsToldRightly (first : List Shown) (happenings : List Happening) (panel : Panel) : Type 0 where
  pub rising : IsRisingBy (λ row. row.key) (listed panel.given)
  pub never_twice : (key : Key) → times_listed key panel.given ≤ 1
  pub held : AllByRecursion IsHeld panel.given
  pub passed : client (tells panel.given ++ panel.feed.queue) ≡ passed panel.feed.cursor panel.rows
  pub settled : IsSettled panel → client (tells panel.given) ≡ panel.rows
  pub still : AllByRecursion (λ changes. changes ≡ []) (steps_of happenings) → IsToldRows first panel
  pub once : (early more : List Happening) (key : Key) → happenings ≡ early ++ more → IsSettled (after first early)
      → HasAlways key first (steps_of early) → times_listed key panel.given ≡ 1

-- so it is over any rows in key order, whatever their changes are, and whenever the panel is given its lines
abbrev pub ToldOverAnyHistory : Type 0
ToldOverAnyHistory = (first : List Shown) (happenings : List Happening) → IsRisingBy (λ row. row.key) first
    → IsToldRightly first happenings (after first happenings)

-- ---- lines

-- the bytes of all lines
abbrev pub bytes : List Given → List ℕ
bytes given = flat_map line (tells given)

-- the bytes are the lines of the first of these changes, and then a line that has begun
pub record HoldsFirst (bytes : List ℕ) (changes : List Change) : Type 0 where
  pub prefix : List Change
  pub later : List Change
  pub begun : List ℕ
  pub whole : changes ≡ prefix ++ later
  pub holds : HoldsLines bytes prefix begun

-- however many bytes were sent, they are whole lines and one that has begun; once the panel is settled and was sent all
-- bytes, a client holds exactly the rows, whichever changes it reads in them
pub record IsReadRightly (panel : Panel) : Type 0 where
  pub lines : (sent : ℕ) → HoldsFirst (take sent (bytes panel.given)) (tells panel.given)
  pub client_is : IsSettled panel → (changes : List Change) (begun : List ℕ)
      → HoldsLines (bytes panel.given) changes begun → client changes ≡ panel.rows

-- so it is if all rows and changes are well formed
abbrev pub ReadOverAnyHistory : Type 0
ReadOverAnyHistory = (first : List Shown) (happenings : List Happening) → IsRisingBy (λ row. row.key) first
    → AllByRecursion IsWellFormedShown first → AllByRecursion (AllByRecursion IsWellFormed) (steps_of happenings)
    → IsReadRightly (after first happenings)
