-- Each line of an information session tells a change that can be told, so the bytes sent hold one list of changes alone.
use Rattle.srcp_core.proofs.Names.{◌≡◌, ℕ, zero, suc, ◌-◌, true, List, [], ◌∷◌, ◌++◌, take, drop, length, refl, ap, sym, ◌∙◌, subst}
use Rattle.srcp_core.proofs.Names.{arith, append-nil, AllByRecursion, flat_map, Option, Some, None, client, line, IsWellFormed}
use Rattle.srcp_core.proofs.Names.{Bus, IsLayout, Event, Connection, History, heard, is_settled, tells, text, course, rows, history}
use Rattle.srcp_core.proofs.Names.{rows_at, AllMoments, IsSession}
use Rattle.std.proofs.lemmas.List.{drop_at}
use Rattle.srcp_info.specs.Client.{HoldsLines}
use Rattle.srcp_info.proofs.HoldsLaws.{holds_unique}
use Rattle.srcp_feed.specs.History.{tells as told_by}
use Rattle.srcp_feed.proofs.LinesRead.{lines_prefix, tellable_after}
use Rattle.srcp_core.specs.Laws.{HoldsRegistry, SendsLines, told_bytes}
use Rattle.srcp_core.proofs.CourseLaws.SessionsArePanels.{client_settled, sessions_are_panels, tells_in}
use Rattle.srcp_core.proofs.CourseLaws.SessionsOfACourse.{sent_whole, settled_facts, text_tells}
use Rattle.srcp_core.proofs.CourseLaws.RegistryStaysWhole.{keeps_whole}
use Rattle.srcp_core.proofs.Invariants.RowLists.{shown_tellable}

-- ---- parts of lists

pub all_prefix : {X : Type 0} (P : X → Type 0) (xs ys : List X) → AllByRecursion P (xs ++ ys) → AllByRecursion P xs
all_prefix P [] ys a = tt
all_prefix P (x ∷ xs) ys a = (a.0, all_prefix P xs ys a.1)

all_drop : {X : Type 0} (P : X → Type 0) (n : ℕ) (xs : List X) → AllByRecursion P xs → AllByRecursion P (drop n xs)
all_drop P zero xs a = a
all_drop P (suc n) [] a = tt
all_drop P (suc n) (x ∷ xs) a = all_drop P n xs a.1

-- ---- what was given

all_heard : (shut : Option ℕ) (history : History) → AllByRecursion (AllByRecursion IsWellFormed) history
    → AllByRecursion (AllByRecursion IsWellFormed) (heard shut history)
all_heard None history a = a
all_heard (Some n) history a = all_take n history a
  where
    all_take : (n : ℕ) (history : History) → AllByRecursion (AllByRecursion IsWellFormed) history
        → AllByRecursion (AllByRecursion IsWellFormed) (take n history)
    all_take zero history a = tt
    all_take (suc n) [] a = tt
    all_take (suc n) (changes ∷ history) a = (a.0, all_take n history a.1)

-- each line that an information session was given tells a change that can be told
pub given_told : (buses : List Bus) → IsLayout buses → (events : List Event) (number : ℕ) (conn : Connection)
    → IsSession buses events number conn → AllMoments events → AllByRecursion IsWellFormed (tells conn.items)
given_told buses layout events number conn s moments =
    let w = course buses events in
    let panel = sessions_are_panels buses layout events number conn s in
    let whole = keeps_whole buses layout events moments in
    subst (AllByRecursion IsWellFormed) (ap told_by panel.given ∙ tells_in buses w conn.items)
    (tellable_after (rows_at buses w conn.go_step) panel.happenings (shown_tellable buses _ (whole.states conn.go_step))
    (subst (AllByRecursion (AllByRecursion IsWellFormed)) (sym panel.steps)
    (all_drop (AllByRecursion IsWellFormed) conn.go_step _ (all_heard conn.shut (history buses w) whole.changes))))

-- ---- the bytes sent

-- the client of the bytes sent of a settled session is the registry
pub holds_registry : (buses : List Bus) → IsLayout buses → (events : List Event) (number : ℕ) (conn : Connection)
    → IsSession buses events number conn → AllMoments events
    → is_settled conn (history buses (course buses events)) (rows buses (course buses events)) ≡ true
    → HoldsRegistry buses (course buses events) conn
holds_registry buses layout events number conn s moments settled =
    let w = course buses events in
    let facts = settled_facts conn (history buses w) (rows buses w) settled in
    let all = sent_whole conn facts.none_unsent in
    let bytes : told_bytes conn ≡ flat_map line (tells conn.items) =
    cc (drop_at conn.out (flat_map line (tells conn.items)) (length conn.out) refl) in
    let holds : HoldsLines (told_bytes conn) (tells conn.items) [] =
    record {
      each = given_told buses layout events number conn s moments;
      whole = cc (append-nil (flat_map line (tells conn.items)));
      no_more = refl;
    } in
    record {
      replies = cc;
      lines = holds;
      client_is =
          λ changes begun h. ap client (holds_unique (told_bytes conn) changes (tells conn.items) begun [] h holds).0
          ∙ client_settled buses layout events number conn s settled;
    }

-- ---- at any time

-- what is taken of two lists beyond the first
drop_taken : (n : ℕ) (xs ys : List ℕ) → drop (length xs) (take n (xs ++ ys)) ≡ take (n - length xs) ys
drop_taken n [] ys = let e : n ≡ n - 0 = omega arith in cc
drop_taken zero (x ∷ xs) ys = let e : 0 ≡ 0 - suc (length xs) = omega arith in cc
drop_taken (suc n) (x ∷ xs) ys =
    let less : n - length xs ≡ suc n - suc (length xs) = omega arith in drop_taken n xs ys ∙ ap (λ m. take m ys) less

pub always_sends_lines : (buses : List Bus) → IsLayout buses → (events : List Event) (number : ℕ) (conn : Connection)
    → IsSession buses events number conn → AllMoments events → SendsLines buses conn
always_sends_lines buses layout events number conn s moments =
    let f = lines_prefix _ _ (given_told buses layout events number conn s moments) in
    let bytes : told_bytes conn ≡ take (conn.taken - length conn.out) (flat_map line (tells conn.items)) =
    drop_taken conn.taken conn.out (text conn.items) ∙ ap (take (conn.taken - length conn.out)) (text_tells conn.items) in
    record {
      prefix = f.prefix;
      later = f.later;
      begun = f.begun;
      whole = f.whole;
      holds = subst (λ b. HoldsLines b f.prefix f.begun) (sym bytes) f.holds;
    }
