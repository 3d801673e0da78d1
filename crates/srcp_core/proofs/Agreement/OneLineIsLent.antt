-- Once all replies of a connection are taken, at most one line is lent of it.
use Rattle.srcp_core.proofs.Names.{◌≡◌, ℕ, ◌≤◌, true, List, [], ◌∷◌, ◌++◌, length, ap, arith, length-append, leb-true, AllByRecursion}
use Rattle.srcp_core.proofs.Names.{nat_le, Some, IsWellFormed, Put, Bus, IsLayout, said, OfConnection, lent, Connection, is_open, line_of}
use Rattle.srcp_core.proofs.Names.{overran, owed, tells, took, unsent, course, history, numbered, rows, Held, AllMoments, HasMoment}
use Rattle.srcp_core.proofs.Names.{last_line, let_out, unsent_at, Event, Room, Item, cond_both, cases_Bool, ⊎_elim}
use Rattle.srcp_info.proofs.LineLaws.{length-line-le}
use Rattle.srcp_feed.specs.declared.Next.TheVariants.{Told, Listed, Settled}
use Rattle.srcp_feed.specs.declared.Next.{Next}
use Rattle.srcp_core.specs.Agrees.{replies_taken}
use Rattle.srcp_core.proofs.Agreement.AnswersAgree.{lends_agrees}
use Rattle.srcp_core.proofs.Agreement.NothingIsLent.{found, lent_is, opened, room}
use Rattle.srcp_core.proofs.Agreement.StandsAfterAChange.{found_at}
use Rattle.srcp_core.proofs.CourseLaws.OneLineIsUnsent.{leaves_one_line}
use Rattle.srcp_core.proofs.CourseLaws.RoomSettles.{sends_replies}
use Rattle.srcp_core.proofs.CourseLaws.SentLinesAreOneList.{given_told}
use Rattle.srcp_core.proofs.CourseLaws.SessionsAreKept.{all_push}

-- all its replies are taken
abbrev IsTaken : Connection → Type 0
IsTaken conn = length conn.out ≤ conn.taken

-- the last line of changes that can be told
last_short : (items : List Item) → AllByRecursion IsWellFormed (tells items) → length (last_line items) ≤ 126
last_short [] told = omega arith
last_short (item ∷ []) told = by _ told
  where
    by : (what : Next) → AllByRecursion IsWellFormed (said what ++ []) → length (line_of what) ≤ 126
    by (Told change) told = length-line-le change told.0
    by (Listed row) told = length-line-le (Put row) told.0
    by Settled told = omega arith
last_short (item ∷ next ∷ items) told = last_short (next ∷ items) (rest item.what told)
  where
    rest : (what : Next) → AllByRecursion IsWellFormed (said what ++ tells (next ∷ items))
        → AllByRecursion IsWellFormed (tells (next ∷ items))
    rest (Told change) told = told.1
    rest (Listed row) told = told.1
    rest Settled told = told

module _ (buses : List Bus) (layout : IsLayout buses) (events : List Event) (moments : AllMoments events) (number : ℕ) (conn : Connection)
    (there : numbered number (course buses events).connections ≡ Some conn) where
  -- no line that it was given is longer, so what is unsent of it is short
  unsent_short : IsTaken conn → length (unsent conn) ≤ 126
  unsent_short taken =
      let last = leaves_one_line buses events number conn there taken in
      let short : length (last_line conn.items) ≤ 126 =
      ⊎_elim (λ e. last_short conn.items (given_told buses layout events number conn (record { there = there; info = e }) moments))
      (λ e. rw (sends_replies buses layout events number conn there e).0 (omega arith)) (cases_Bool conn.info) in
      let size = ap length last.1 in
      let sum = length-append last.0 (unsent conn) in
      omega arith

module _ (buses : List Bus) (layout : IsLayout buses) (events : List Event) (moments : AllMoments events) (n : ℕ) (conn : Connection)
    (there : numbered n (course buses events).connections ≡ Some conn) (up : is_open conn ≡ true) where
  lent_short : IsTaken conn → length (lent buses (course buses (events ++ Room n 0 ∷ [])) n) ≤ 126
  lent_short taken =
      let w = course buses events in
      let h = history buses w in
      let after = room buses layout events n conn there up conn in
      let later =
      cond_both (overran conn h) conn (took 0 (length h) (owed conn h (rows buses w)) conn) IsTaken (λ _. taken) (λ _. omega arith) in
      rw (lent_is buses layout events n conn there up)
      (cond_both (overran after h) [] (unsent after) (λ bytes. length bytes ≤ 126) (λ _. omega arith)
      (λ _. unsent_short buses layout (events ++ Room n 0 ∷ []) (all_push HasMoment events (Room n 0) moments tt) n after
      (found buses layout events n conn there up) later))

pub line_agrees : (key : ℕ) (held : Held)
    → OfConnection key held
    (λ buses events n. AllMoments events → replies_taken buses (course buses events) n ≡ true
    → length (unsent_at key (let_out key held)) ≤ 126)
line_agrees key held buses events keys n layout named s moments taken =
    let its = found_at buses (λ n fed. fed) keys held (course buses events) n key s named in
    let all : nat_le (length its.conn.out) its.conn.taken ≡ true =
    cc (opened buses layout events n its.conn its.there its.up) in
    rw (lends_agrees key held buses events keys n layout named s)
    (lent_short buses layout events moments n its.conn its.there its.up (leb-true (length its.conn.out) its.conn.taken all))
