-- What a session lists, by what a panel is told over any history: rows in key order, each as the registry held it, none twice, and
-- on a still registry the listing.
use Rattle.srcp_core.proofs.Names.{◌≡◌, ℕ, zero, suc, ◌≤◌, List, [], ◌∷◌, ◌++◌, map, take, drop, refl, ap, sym, ◌∙◌, subst, arith}
use Rattle.srcp_core.proofs.Names.{append_assoc, take-append-drop, flat_map-append, flat_map, AllByRecursion, Option, Some, None}
use Rattle.srcp_core.proofs.Names.{IsRisingBy, line, Change, Put, Shown, Key, key_at, Bus, History, heard, tells, sent, unsent, text}
use Rattle.srcp_core.proofs.Names.{World, course, history, listed, rows_at, Item, cases_lt, ⊎_elim, given}
use Rattle.std.proofs.Common.{get_or, length-take}
use Rattle.std.proofs.lemmas.List.{get_or_past, get_or-take}
use Rattle.srcp_info.specs.Client.{listing}
use Rattle.srcp_feed.specs.History.{IsHeld as WasHeld, after, listed as listed_by, tells as told_by}
use Rattle.srcp_feed.proofs.ListedOnce.{at_most_one}
use Rattle.srcp_core.specs.Laws.{IsHeld, IsStill, IsSentListing, times_listed}
use Rattle.srcp_core.specs.Panels.{given_in}
use Rattle.srcp_core.proofs.CourseLaws.SessionsArePanels.{listed_in, sessions_are_panels, settled_in_history, tells_in, told_in}
use Rattle.srcp_core.proofs.CourseLaws.SessionsOfACourse.{OfSessions, settled_facts, sent_whole, text_tells}

pub lists_rising : (buses : List Bus) → OfSessions buses (λ w conn. IsRisingBy key_at (listed conn.items))
lists_rising buses layout events number conn s =
    let panel = sessions_are_panels buses layout events number conn s in
    subst (IsRisingBy key_at) (ap listed_by panel.given ∙ listed_in buses (course buses events) conn.items)
    (told_in buses layout events number conn s).rising

pub lists_none_twice : (buses : List Bus) → OfSessions buses (λ w conn. (key : Key) → times_listed key conn.items ≤ 1)
lists_none_twice buses layout events number conn s key =
    at_most_one key (listed conn.items) (lists_rising buses layout events number conn s)

-- ---- a row is listed as the registry held it

held_in : (buses : List Bus) (w : World) (items : List Item) → AllByRecursion WasHeld (given_in buses w items)
    → AllByRecursion (IsHeld buses w) items
held_in buses w [] a = tt
held_in buses w (item ∷ items) a = (a.0, held_in buses w items a.1)

pub lists_held : (buses : List Bus) → OfSessions buses (λ w conn. AllByRecursion (IsHeld buses w) conn.items)
lists_held buses layout events number conn s =
    let panel = sessions_are_panels buses layout events number conn s in
    held_in buses (course buses events) conn.items
    (subst (AllByRecursion WasHeld) panel.given (told_in buses layout events number conn s).held)

-- ---- a registry that stands still

abbrev IsQuiet : ℕ → History → Type 0
IsQuiet go history = (k : ℕ) → go ≤ k → get_or history k [] ≡ []

quiet_heard : (go : ℕ) (shut : Option ℕ) (history : History) → IsQuiet go history → IsQuiet go (heard shut history)
quiet_heard go None history q = q
quiet_heard go (Some n) history q = λ k h.
    let l = length-take n history in
    ⊎_elim (λ low. get_or-take n history k [] low ∙ q k h) (λ high. get_or_past (take n history) k [] (omega (arith, l, high)))
    (cases_lt k n)

none_since : (go : ℕ) (history : History) → IsQuiet go history → AllByRecursion (λ (changes : List Change). changes ≡ []) (drop go history)
none_since zero [] q = tt
none_since zero (changes ∷ history) q = (q 0 (omega arith), none_since zero history (λ k h. q (suc k) (omega arith)))
none_since (suc go) [] q = tt
none_since (suc go) (changes ∷ history) q = none_since go history (λ k h. q (suc k) (omega (arith, h)))

listing_puts : (rows : List Shown) → flat_map line (map (λ row. Put row) rows) ≡ listing rows
listing_puts [] = refl
listing_puts (row ∷ rows) = cc (listing_puts rows)

pub lists_still : (buses : List Bus) → OfSessions buses (λ w conn. IsStill buses w conn → IsSentListing buses w conn)
lists_still buses layout events number conn s still =
    let w = course buses events in
    let first = rows_at buses w conn.go_step in
    let panel = sessions_are_panels buses layout events number conn s in
    let quiet =
    subst (AllByRecursion (λ (changes : List Change). changes ≡ [])) (sym panel.steps)
    (none_since conn.go_step (heard conn.shut (history buses w)) (quiet_heard conn.go_step conn.shut (history buses w) still)) in
    let told = (told_in buses layout events number conn s).still quiet in
    let same : told_by (after first panel.happenings).given ≡ tells conn.items = ap told_by panel.given ∙ tells_in buses w conn.items in
    let rest : List Change = told.prefix.0 in
    let whole : tells conn.items ++ rest ≡ map (λ row. Put row) first = ap (λ changes. changes ++ rest) (sym same) ∙ told.prefix.1 in
    let lines : text conn.items ++ flat_map line rest ≡ listing first =
    ap (λ bytes. bytes ++ flat_map line rest) (text_tells conn.items) ∙ sym (flat_map-append line (tells conn.items) rest)
    ∙ ap (flat_map line) whole ∙ listing_puts first in
    record {
      prefix = (
        unsent conn ++ flat_map line rest,
        sym (append_assoc (sent conn) (unsent conn) (flat_map line rest))
            ∙ ap (λ bytes. bytes ++ flat_map line rest) (take-append-drop conn.taken (given conn))
            ∙ append_assoc conn.out (text conn.items) (flat_map line rest)
            ∙ ap (λ bytes. conn.out ++ bytes) lines,
      );
      whole = λ settled.
          let now = settled_facts conn _ _ settled in
          sent_whole conn now.none_unsent
          ∙ ap (λ changes. conn.out ++ flat_map line changes)
          (sym same ∙ told.whole (settled_in_history buses w conn panel s.info settled))
          ∙ ap (λ bytes. conn.out ++ bytes) (listing_puts first);
    }
