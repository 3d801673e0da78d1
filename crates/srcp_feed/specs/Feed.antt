-- What an information session is still to be given, and what becomes of a change that it is told.
use Rattle.std.specs.Prelude.{◌≡◌, Bool, not, ◌&&◌, List, [], ◌∷◌, ◌++◌, map, drop, length, nat_lt}
use Rattle.std.specs.Prelude.{if◌then◌else◌}
use Rattle.srcp_info.specs.Limits.{most_waiting}
use Rattle.srcp_info.specs.Client.{client}
use Rattle.srcp_info.specs.declared.change.Change.{Change}
use Rattle.srcp_info.specs.declared.change.Cursor.{Cursor}
use Rattle.srcp_info.specs.declared.change.Cursor.TheVariants.{Start}
use Rattle.srcp_info.specs.declared.change.Shown.{Shown}
use Rattle.srcp_feed.specs.Cursor.{concerns, passed, beyond, moved}
use Rattle.srcp_feed.specs.declared.feed.Next.{Next}
use Rattle.srcp_feed.specs.declared.feed.Next.TheVariants as next
use Rattle.srcp_feed.specs.declared.feed.Told.{Told}
use Rattle.srcp_feed.specs.declared.feed.Told.TheVariants.{Skipped, Queued, Overrun}

-- how far the listing has come, and the changes that wait
pub record Feed : Type 0 where
  pub cursor : Cursor
  pub queue : List Change

-- nothing is listed, and nothing waits
abbrev pub beginning : Feed
beginning = record { cursor = Start; queue = [] }

-- ---- changes

-- as many changes wait as may wait
abbrev pub is_full : Feed → Bool
is_full feed = not (nat_lt (length feed.queue) most_waiting)

-- what becomes of a change: the listing will meet it, it waits, or the queue is full
abbrev pub told_answer : Change → Feed → Told
told_answer change feed = if concerns feed.cursor change then (if is_full feed then Overrun else Queued) else Skipped

-- the feed after it was told the change
abbrev pub told : Change → Feed → Feed
told change feed =
    if concerns feed.cursor change && not (is_full feed) then record feed { queue = feed.queue ++ change ∷ [] }
    else feed

-- ---- what is given

-- all that is to be given: the changes that wait, then the rows that the listing has not come to
abbrev pub owed : List Shown → Feed → List Next
owed rows feed = map next.Told feed.queue ++ map next.Listed (beyond feed.cursor rows)

-- the first of it, or that nothing is left
abbrev pub first_of : List Next → Next
first_of [] = next.Settled
first_of (what ∷ nexts) = what

-- what is given next
abbrev pub next_of : List Shown → Feed → Next
next_of rows feed = first_of (owed rows feed)

-- the feed after that was given
abbrev pub after_next : List Shown → Feed → Feed
after_next rows feed = record { cursor = moved feed.cursor (next_of rows feed); queue = drop 1 feed.queue }

-- ---- the client

-- a client that is told what was given and then what waits holds the rows that the listing has passed
abbrev pub HoldsPassed : List Change → Feed → List Shown → Type 0
HoldsPassed given feed rows = client (given ++ feed.queue) ≡ passed feed.cursor rows
