-- What an information session is given next can be told.
use Rattle.srcp_core.proofs.Names.{◌≡◌, Bool, true, false, List, [], ◌∷◌, refl, AllByRecursion, has_reached, IsWellFormed}
use Rattle.srcp_core.proofs.Names.{IsWellFormedShown, Change, Cursor, Shown, Feed, next_of, Next, Put, Told, Listed, Settled}
use Rattle.std.specs.Prelude.{⊤}
use Rattle.std.proofs.Common.{not}

-- what is given can be told
abbrev pub IsTellable : Next → Type 0
IsTellable (Told change) = IsWellFormed change
IsTellable (Listed row) = IsWellFormed (Put row)
IsTellable Settled = ⊤

listed_tellable : (cursor : Cursor) (rows : List Shown) → AllByRecursion IsWellFormedShown rows
    → IsTellable (next_of rows (record { cursor = cursor; queue = [] }))
listed_tellable cursor [] r = tt
listed_tellable cursor (row ∷ rows) r = by _ refl (listed_tellable cursor rows r.1)
  where
    by : (t : Bool) → not (has_reached cursor row.key) ≡ t → IsTellable (next_of rows (record { cursor = cursor; queue = [] }))
        → IsTellable (next_of (row ∷ rows) (record { cursor = cursor; queue = [] }))
    by true e ih = rw e r.0
    by false e ih = rw e ih

-- what is given next can be told
pub next_tellable : (rows : List Shown) (feed : Feed) → AllByRecursion IsWellFormed feed.queue → AllByRecursion IsWellFormedShown rows
    → IsTellable (next_of rows feed)
next_tellable rows feed q r = from _ _ q
  where
    from : (cursor : Cursor) (queue : List Change) → AllByRecursion IsWellFormed queue
        → IsTellable (next_of rows (record { cursor = cursor; queue = queue }))
    from cursor (change ∷ queue) q = q.0
    from cursor [] q = listed_tellable cursor rows r
