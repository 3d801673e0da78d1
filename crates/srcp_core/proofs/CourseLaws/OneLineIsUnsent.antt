-- Once the replies of a connection are all taken, what is unsent of it is the end of the line that it was given last.
use Rattle.srcp_core.proofs.Names.{cond_both, ◌≡◌, ◌⊎◌, inl, inr, ⊎_elim, ℕ, zero, suc, ◌+◌, ◌-◌, ◌<◌, ◌≤◌, Bool, true, false, List, []}
use Rattle.srcp_core.proofs.Names.{◌∷◌, ◌++◌, length, take, drop, refl, ap, sym, ◌∙◌, arith, append-nil, append_assoc, length-append, max}
use Rattle.srcp_core.proofs.Names.{length-drop, take-append-drop, flat_map-append, flat_map}
use Rattle.srcp_core.proofs.Names.{◌&&◌, Some, if◌then◌else◌, Bus, Next, Connection, available, fitting, prefix, given, given_room}
use Rattle.srcp_core.proofs.Names.{items_of, line_of, owed, text, took, unsent, World, at_connection, course, entered, fresh, history}
use Rattle.srcp_core.proofs.Names.{numbered, rows, start, last_line, Event, Item}
use Rattle.std.proofs.Math.Seq.{drop-append-add}
use Rattle.srcp_core.specs.Laws.{IsSuffixOf}
use Rattle.srcp_core.proofs.CourseLaws.EventsKeep.{IsKept, IsPlain, kept_all, numbered_after, numbered_more}
use Rattle.srcp_core.proofs.CourseLaws.RoomGivesWhatIsOwed.{fitting_prefix, fitting_none, text_items}
use Rattle.srcp_core.proofs.Agreement.NumbersAndKeys.{no_connection}

-- ---- the last line

-- all that was given ends with it
text_last : (items : List Item) → IsSuffixOf (last_line items) (text items)
text_last [] = ([], refl)
text_last (item ∷ []) = ([], sym (append-nil _))
text_last (item ∷ next ∷ items) =
    let ih = text_last (next ∷ items) in
    (line_of _ ++ ih.0, append_assoc _ ih.0 _ ∙ ap (λ t. line_of item.what ++ t) ih.1)

-- the last of these lines
abbrev last_of : List Next → List ℕ
last_of [] = []
last_of (what ∷ []) = line_of what
last_of (what ∷ next ∷ nexts) = last_of (next ∷ nexts)

last_items : (n : ℕ) (items : List Item) (what : Next) (nexts : List Next)
    → last_line (items ++ items_of n (what ∷ nexts)) ≡ last_of (what ∷ nexts)
last_items n [] what [] = refl
last_items n [] what (next ∷ nexts) = last_items n [] next nexts
last_items n (item ∷ []) what nexts = last_items n [] what nexts
last_items n (item ∷ next ∷ items) what nexts = last_items n (next ∷ items) what nexts

-- only for some bytes there are lines
asked : (bytes : ℕ) (nexts : List Next) (what : Next) (more : List Next) → prefix bytes nexts ≡ what ∷ more → 0 < bytes
asked zero nexts what more e = cc
asked (suc bytes) nexts what more e = omega arith

-- of a prefix the last line alone goes beyond the last byte that was asked for
prefix_near : (bytes : ℕ) (nexts : List Next)
    → length (flat_map line_of (prefix bytes nexts)) ≤ bytes - 1 + length (last_of (prefix bytes nexts))
prefix_near zero nexts = omega arith
prefix_near (suc bytes) [] = omega arith
prefix_near (suc bytes) (what ∷ nexts) = by _ refl (prefix_near left nexts)
  where
    left : ℕ
    left = suc bytes - length (line_of what)

    by : (inner : List Next) → prefix left nexts ≡ inner → length (flat_map line_of inner) ≤ left - 1 + length (last_of inner)
        → length (flat_map line_of (what ∷ inner)) ≤ suc bytes - 1 + length (last_of (what ∷ inner))
    by [] e ih = let size = length-append (line_of what) [] in omega arith
    by (next ∷ more) e ih =
        let some = asked left nexts next more e in
        let size = length-append (line_of what) (flat_map line_of (next ∷ more)) in
        omega arith

-- ---- one connection

-- no more than the last line is untaken
abbrev IsFew : Connection → Type 0
IsFew conn = length (given conn) ≤ conn.taken + length (last_line conn.items)

-- so it is of every connection that was given a line, and only an information session is given one
record IsWithinLast (conn : Connection) : Type 0 where
  plain : conn.info ≡ false → conn.items ≡ []
  few : (conn.items ≡ []) ⊎ IsFew conn

-- one that was given none
within_none : (conn : Connection) → conn.items ≡ [] → IsWithinLast conn
within_none conn none = record { plain = λ _. none; few = inl none }

module _ (n bytes : ℕ) (nexts : List Next) (conn : Connection) where
  abbrev fits : List Next
  fits = fitting bytes (unsent conn) nexts

  abbrev later : Connection
  later = took bytes n nexts conn

  size : length (given later) ≡ length (given conn) + length (flat_map line_of fits)
  size = cc (text_items n conn.items fits, append_assoc conn.out _ _, length-append _ _)

  -- where some lines are given
  few_given : (what : Next) (more : List Next) → fits ≡ what ∷ more → IsFew later
  few_given what more e =
      let f = fitting_prefix bytes (unsent conn) nexts in
      let whole = ap (λ (ns : List Next). length (flat_map line_of ns)) f.whole ∙ ap length (flat_map-append line_of fits f.rest)
      ∙ length-append (flat_map line_of fits) (flat_map line_of f.rest) in
      let left : length (unsent conn) ≡ length (given conn) - conn.taken = length-drop _ _ in
      let last : length (last_line later.items) ≡ length (last_of fits) = cc (last_items n conn.items what more) in
      let all : length (available (unsent conn) nexts) ≡ length (unsent conn) + length (flat_map line_of nexts) = length-append _ _ in
      let near = prefix_near (max bytes 1 - length (unsent conn)) nexts in
      let some = asked (max bytes 1 - length (unsent conn)) nexts what more e in
      omega (arith, size, whole, left, last, all, near, some)

within_took : (n bytes : ℕ) (nexts : List Next) (conn : Connection) → (conn.info ≡ false → nexts ≡ []) → IsWithinLast conn
    → IsWithinLast (took bytes n nexts conn)
within_took n bytes nexts conn none s = record {
  plain = λ no. cc (none no, fitting_none bytes _, append-nil _, s.plain no);
  few = by _ refl;
}
  where
    after : Connection
    after = took bytes n nexts conn

    by : (gives : List Next) → fits n bytes nexts conn ≡ gives → (after.items ≡ []) ⊎ IsFew after
    by [] e = ⊎_elim (λ empty. inl (cc)) (λ few. inr (still few)) s.few
      where
        same : after.items ≡ conn.items
        same = cc (append-nil _)

        still : IsFew conn → IsFew after
        still few =
            let a : length (given after) ≡ length (given conn) = ap (λ items. length (conn.out ++ text items)) same in
            let b : length (last_line after.items) ≡ length (last_line conn.items) = ap (λ items. length (last_line items)) same in
            omega arith
    by (what ∷ more) e = inr (few_given n bytes nexts conn what more e)

unless : (t info : Bool) (nexts : List Next) → info ≡ false → (if t && info then nexts else []) ≡ []
unless true true nexts e = cc
unless true false nexts e = refl
unless false info nexts e = refl

-- ---- every connection of a world

module _ (buses : List Bus) where
  abbrev Within : World → Type 0
  Within w = (number : ℕ) (conn : Connection) → numbered number w.connections ≡ Some conn → IsWithinLast conn

  -- a change of a connection that was given no line
  within_empty : (n : ℕ) (change : Connection → Connection) (w : World) → ((conn : Connection) → (change conn).items ≡ conn.items)
      → ((conn : Connection) → numbered n w.connections ≡ Some conn → conn.items ≡ []) → Within w → Within (at_connection n change w)
  within_empty n change w same none a number conn e =
      numbered_after IsWithinLast n number change _ conn e (a number)
      (λ other here s. within_none (change other) (same other ∙ none other here))

  no_items : (n : ℕ) (w : World) → IsPlain n w → Within w → (conn : Connection) → numbered n w.connections ≡ Some conn → conn.items ≡ []
  no_items n w plain a conn e = (a n conn e).plain (plain conn e).0

  within_kept : IsKept buses Within
  within_kept = record {
    lines = λ n. record {
      step = λ step w a. a;
      numbers = λ id w a. a;
      says = λ mode ends w plain a number conn e.
          numbered_after IsWithinLast n number _ w.connections conn e (a number) (λ other here s. record { plain = s.plain; few = s.few });
      answers = λ reply w plain a. within_empty n _ w (λ conn. refl) (no_items n w plain a) a;
      enters = λ id reply w plain a.
          within_empty n _ (entered buses n id w) (λ conn. refl)
          (λ conn e. numbered_after (λ c. c.items ≡ []) n n _ w.connections conn e (no_items n w plain a) (λ other here s. s))
          (within_empty n _ w (λ conn. refl) (no_items n w plain a) a);
    };
    other = λ w v a. a;
    opens = λ w a number conn e. numbered_more IsWithinLast number w.connections fresh conn e (a number) (within_none fresh refl);
    feeds = λ n bytes w a number conn e.
        numbered_after IsWithinLast n number _ w.connections conn e (a number) (λ other here s. record { plain = s.plain; few = s.few });
    shuts = λ n w up a number conn e.
        numbered_after IsWithinLast n number _ w.connections conn e (a number) (λ other here s. record { plain = s.plain; few = s.few });
    room = λ n bytes w up a number conn e.
        numbered_after IsWithinLast n number _ w.connections conn e (a number) (λ other here s. given_it bytes w other s);
  }
    where
      given_it : (bytes : ℕ) (w : World) (conn : Connection) → IsWithinLast conn
          → IsWithinLast (given_room bytes (history buses w) (rows buses w) conn)
      given_it bytes w conn s =
          cond_both _ _ _ IsWithinLast
          (λ _. s)
          (λ _. within_took _ bytes (owed conn (history buses w) (rows buses w)) conn (λ e. unless _ _ _ e) s)

  -- what is unsent of every connection of a course whose replies are all taken
  pub leaves_one_line : (events : List Event) (number : ℕ) (conn : Connection)
      → numbered number (course buses events).connections ≡ Some conn → length conn.out ≤ conn.taken
      → IsSuffixOf (unsent conn) (last_line conn.items)
  leaves_one_line events number conn e taken =
      by (kept_all buses Within within_kept events start (λ n other there. absurd (no_connection n other there)) number conn e).few
    where
      ends : IsSuffixOf (last_line conn.items) (text conn.items)
      ends = text_last conn.items

      whole : given conn ≡ (conn.out ++ ends.0) ++ last_line conn.items
      whole = cc (ends.1, append_assoc conn.out ends.0 (last_line conn.items))

      -- where no more than the last line is untaken
      cut : (k : ℕ) → conn.taken ≡ length (conn.out ++ ends.0) + k → IsSuffixOf (unsent conn) (last_line conn.items)
      cut k far =
          let is : unsent conn ≡ drop k (last_line conn.items) =
          ap (drop conn.taken) whole ∙ ap (λ m. drop m ((conn.out ++ ends.0) ++ last_line conn.items)) far
          ∙ drop-append-add (conn.out ++ ends.0) (last_line conn.items) k in
          let line = last_line conn.items in
          (take k line, cc (take-append-drop k line))

      by : (conn.items ≡ []) ⊎ IsFew conn → IsSuffixOf (unsent conn) (last_line conn.items)
      by (inl empty) =
          let size : length ends.0 ≡ 0 = none_before in
          let both = length-append conn.out ends.0 in
          cut (conn.taken - length (conn.out ++ ends.0)) (omega arith)
        where
          none_before : length ends.0 ≡ 0
          none_before =
              let all = ap (λ (items : List Item). length (text items)) empty in
              let both = ap length ends.1 in
              let sum = length-append ends.0 (last_line conn.items) in
              omega arith
      by (inr few) =
          let size = ap length whole in
          let sum = length-append (conn.out ++ ends.0) (last_line conn.items) in
          cut (conn.taken - length (conn.out ++ ends.0)) (omega arith)
