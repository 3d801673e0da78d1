-- A step makes a session overrun exactly where one of its changes finds 256 waiting.
use Rattle.srcp_core.proofs.Names.{◌≡◌, ℕ, ◌+◌, ◌<◌, ◌≤◌, Bool, true, false, List, [], ◌∷◌, ◌++◌, length, drop, refl, ap, ◌∙◌, arith}
use Rattle.srcp_core.proofs.Names.{length-append, lt-ltb, ltb-false, ltb-true, drop-append-le, filter-append, filter, nat_lt}
use Rattle.srcp_core.proofs.Names.{Change, Bus, opening, shown_rows, concerns, IsLayout, Event, Connection, is_open, overran}
use Rattle.srcp_core.proofs.Names.{waiting, course, history, IsSession, cases_lt, inl, inr, ◌⊎◌}
use Rattle.srcp_core.specs.Laws.{FindsFull, OverrunsIfFull}
use Rattle.srcp_core.proofs.CourseLaws.Histories.{concerning_push, cursor_by}
use Rattle.srcp_core.proofs.CourseLaws.ShownRegistry.{length_history}
use Rattle.srcp_core.proofs.CourseLaws.SessionsOfACourse.{stands, anything, fits_open, open_shut, untold_open, overran_open}
use Rattle.srcp_core.proofs.CourseLaws.ItemsFitHistory.{untold_by, tolds}

-- if more than `most` wait in the end, some change found `most` waiting
pub finds_full : (most : ℕ) (p : Change → Bool) (n : ℕ) (changes : List Change) → n ≤ most → most < n + length (filter p changes)
    → FindsFull most p n changes
finds_full most p n [] low h = absurd (omega arith)
finds_full most p n (change ∷ changes) low h = by _ refl (cases_lt n most) (λ m. finds_full most p m changes)
  where
    longer : (m : ℕ) → ((cs : List Change) → n + length (filter p (change ∷ cs)) ≡ m + length (filter p cs)) → FindsFull most p m changes
        → FindsFull most p n (change ∷ changes)
    longer m size r = record {
      before = change ∷ r.before;
      change = r.change;
      after = r.after;
      whole = cc r.whole;
      full = size r.before ∙ r.full;
      passes = r.passes;
    }

    by : (t : Bool) → p change ≡ t → (n < most) ⊎ (most ≤ n)
        → ((m : ℕ) → m ≤ most → most < m + length (filter p changes) → FindsFull most p m changes) → FindsFull most p n (change ∷ changes)
    by false e room ih = longer n (λ cs. rw e refl) (ih n low (rw e at h))
    by true e (inl room) ih =
        longer (n + 1) (λ cs. rw e (omega arith)) (ih (n + 1) (omega (arith, room)) (let k = rw e at h in omega arith))
    by true e (inr full) ih =
        record { before = []; change = change; after = changes; whole = refl; full = omega (arith, low, full); passes = e }

-- and where a change found as many, more wait in the end
pub found_full : (most : ℕ) (p : Change → Bool) (n : ℕ) (changes : List Change) → FindsFull most p n changes
    → most < n + length (filter p changes)
found_full most p n changes f =
    let e = f.passes in
    let one : filter p (f.change ∷ f.after) ≡ f.change ∷ filter p f.after = rw e refl in
    let all : filter p changes ≡ filter p f.before ++ f.change ∷ filter p f.after =
    ap (filter p) f.whole ∙ filter-append p f.before _ ∙ ap (λ cs. filter p f.before ++ cs) one in
    let size : length (filter p changes) ≡ length (filter p f.before) + length (f.change ∷ filter p f.after) =
    cc (length-append _ _) in
    let full = f.full in
    omega arith

pub meets_overruns : (buses : List Bus) → IsLayout buses → (events : List Event) (number : ℕ) (conn : Connection)
    → IsSession buses events number conn → is_open conn ≡ true → overran conn (history buses (course buses events)) ≡ false
    → (changes : List Change) → OverrunsIfFull buses (course buses events) conn changes
meets_overruns buses layout events number conn s up fine changes =
    let w = course buses events in
    let h = history buses w in
    let shut = open_shut _ up in
    let f =
    (fits_open (shown_rows (opening buses 0)) _ h conn shut
    (stands buses layout _ (anything (shown_rows (opening buses 0))) events number conn s)).0 in
    let p = concerns _ in
    let before = untold_by conn.go_step conn.items conn.done h in
    let more : untold_by conn.go_step conn.items conn.done (h ++ changes ∷ []) ≡ before ++ filter p changes =
    ap (drop (length (tolds conn.items))) (concerning_push _ _ h changes f.began)
    ∙ drop-append-le _ _ _ f.enough
    ∙ ap (λ n. before ++ filter (concerns (cursor_by conn.done conn.items n)) changes) (length_history (opening buses 0) w.steps) in
    let now = untold_open h conn shut in
    let size : length (untold_by conn.go_step conn.items conn.done (h ++ changes ∷ []))
    ≡ length (waiting conn h) + length (filter p changes) = cc (length-append before (filter p changes)) in
    let after = overran_open _ conn shut ∙ ap (nat_lt 256) size in
    let low : length (waiting conn h) ≤ 256 = ltb-false 256 _ (cc (overran_open h conn shut)) in
    record {
      waits = cc (untold_open _ conn shut);
      full = (
        λ o. finds_full 256 p _ changes low (ltb-true 256 _ (cc)),
        λ r. after ∙ lt-ltb 256 _ (found_full 256 p (length (waiting conn h)) changes r),
      );
    }
