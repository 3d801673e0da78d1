-- How many more changes may come upon the information sessions, and when something falls due next: what is held says what
-- the course says.
use Rattle.srcp_core.proofs.Names.{◌≡◌, ℕ, zero, suc, ◌-◌, ◌<◌, ◌≤◌, min, Bool, true, false, List, [], ◌∷◌, map, length, refl, ap, sym, ◌∙◌}
use Rattle.srcp_core.proofs.Names.{subst, arith, nat_tests, AllByRecursion, ◌&&◌, Option, Some, None, IfSome, nat_lt, slice_index_or}
use Rattle.srcp_core.proofs.Names.{if◌then◌else◌, Change, Cursor, Row, State, OfCourse, Connection, History, cursor_at, is_open, overran}
use Rattle.srcp_core.proofs.Names.{untold, World, course, history, numbered, Place, Held, place_at, slack_at, slack_in, Listening, Overran}
use Rattle.srcp_core.proofs.Names.{panel_at, place_of, least, lesser, slack_of, Reading, cases_Bool, ⊎_elim}
use Rattle.srcp_index.specs.Earliest.{IsEarliestDue}
use Rattle.srcp_core.specs.Waits.{slack, due_next}
use Rattle.srcp_core.proofs.Agreement.StandsAfterAChange.{found_at}
use Rattle.std.proofs.Math.ListN.{get_or-map}

-- ---- the least of some numbers

-- it is at most the number
abbrev pub AtMost : ℕ → Option ℕ → Type 0
AtMost n None = ⊥
AtMost n (Some m) = m ≤ n

lesser_one : (n : ℕ) (other : Option ℕ) → AtMost n (lesser (Some n) other)
lesser_one n None = omega arith
lesser_one n (Some m) = omega arith

lesser_other : (n : ℕ) (one other : Option ℕ) → AtMost n other → AtMost n (lesser one other)
lesser_other n one None h = absurd h
lesser_other n None (Some m) h = h
lesser_other n (Some k) (Some m) h = omega arith

-- no number is less than the least
pub least_least : (xs : List (Option ℕ)) (k n : ℕ) → slice_index_or xs k None ≡ Some n → AtMost n (least xs)
least_least [] k n e = cc
least_least (x ∷ xs) zero n e = rw e (lesser_one n _)
least_least (x ∷ xs) (suc k) n e = lesser_other n x _ (least_least xs k n e)

-- the least is one of them
abbrev pub IsIn : List (Option ℕ) → ℕ → Type 0
IsIn xs n = (k : ℕ) × (slice_index_or xs k None ≡ Some n)

pub least_in : (xs : List (Option ℕ)) (n : ℕ) → least xs ≡ Some n → IsIn xs n
least_in [] n e = cc
least_in (x ∷ xs) n e = by x refl _ refl e (least_in xs)
  where
    further : (m : ℕ) → IsIn xs m → m ≡ n → IsIn (x ∷ xs) n
    further m i same = (suc i.0, cc i.1)

    by : (one : Option ℕ) → x ≡ one → (other : Option ℕ) → least xs ≡ other → lesser one other ≡ Some n
        → ((m : ℕ) → least xs ≡ Some m → IsIn xs m) → IsIn (x ∷ xs) n
    by None p None q e ih = cc
    by None p (Some m) q e ih = let same : m ≡ n = cc in further m (ih m q) same
    by (Some k) p None q e ih = (0, p ∙ e)
    by (Some k) p (Some m) q e ih = which _ refl
      where
        is : min k m ≡ n
        is = cc

        which : (t : Bool) → nat_lt m k ≡ t → IsIn (x ∷ xs) n
        which true t = let same : m ≡ n = grind (arith, nat_tests, is, t) in further m (ih m q) same
        which false t = let same : k ≡ n = grind (arith, nat_tests, is, t) in (0, cc)

-- lists with the same numbers have the same least
least_same : (xs ys : List (Option ℕ)) → ((n : ℕ) → IsIn xs n → IsIn ys n) → ((n : ℕ) → IsIn ys n → IsIn xs n) → least xs ≡ least ys
least_same xs ys to from = by _ refl _ refl
  where
    by : (a : Option ℕ) → least xs ≡ a → (b : Option ℕ) → least ys ≡ b → a ≡ b
    by None p None q = refl
    by (Some m) p None q = let i = to m (least_in xs m p) in absurd (subst (AtMost m) q (least_least ys i.0 m i.1))
    by None p (Some n) q = let i = from n (least_in ys n q) in absurd (subst (AtMost n) p (least_least xs i.0 n i.1))
    by (Some m) p (Some n) q =
        let i = to m (least_in xs m p) in
        let j = from n (least_in ys n q) in
        let h : n ≤ m = subst (AtMost m) q (least_least ys i.0 m i.1) in
        let k : m ≤ n = subst (AtMost n) p (least_least xs j.0 n j.1) in
        let same : m ≡ n = omega arith in
        cc

-- ---- slack

slack_places : (places : List (Option Place)) (k : ℕ) → slice_index_or (map slack_at places) k None ≡ slack_at (place_at places k)
slack_places places k = get_or-map slack_at places k None

-- of the connection of that number, if there is one
abbrev pub slack_by : History → Option Connection → Option ℕ
slack_by h None = None
slack_by h (Some conn) = slack_of h conn

pub slack_conns : (h : History) (conns : List Connection) (k : ℕ)
    → slice_index_or (map (slack_of h) conns) k None ≡ slack_by h (numbered (suc k) conns)
slack_conns h [] k = refl
slack_conns h (conn ∷ conns) zero = refl
slack_conns h (conn ∷ conns) (suc k) = slack_conns h conns k

panel_slack : (info : Bool) (cursor : Cursor) (queue : List Change)
    → slack_in (panel_at info cursor queue) ≡ (if info then Some (if nat_lt 256 (length queue) then 256 else 256 - length queue) else None)
panel_slack false cursor queue = refl
panel_slack true cursor queue =
    elim (nat_lt 256 _)
    as (λ t. slack_in (if t then Overran else Listening (record { cursor = cursor; queue = queue }))
    ≡ Some (if t then 256 else 256 - length queue)) [
      | true ↦ refl
      | false ↦ refl
    ]

-- what is held of an open connection has its slack
slack_place : (reader : Reading) (h : History) (conn : Connection) → is_open conn ≡ true
    → slack_in (place_of reader h conn).panel ≡ slack_of h conn
slack_place reader h conn up =
    panel_slack conn.info (cursor_at conn (length h)) (untold conn h)
    ∙ sym (ap (λ t. if t && conn.info then Some (if overran conn h then 256 else 256 - length (if t then untold conn h else [])) else None)
    up)

pub slack_agrees : (held : Held) → OfCourse held (λ buses events _. least (map slack_at held.places) ≡ slack buses (course buses events))
slack_agrees held buses events keys layout s = least_same _ _ to from
  where
    w : World
    w = course buses events

    h : History
    h = history buses w

    to : (n : ℕ) → IsIn (map slack_at held.places) n → IsIn (map (slack_of h) w.connections) n
    to n i = by _ refl (sym (slack_places _ i.0) ∙ i.1)
      where
        stood : (number : ℕ) (conn : Connection) → numbered number w.connections ≡ Some conn → slack_of h conn ≡ Some n
            → IsIn (map (slack_of h) w.connections) n
        stood zero conn there has = cc
        stood (suc k) conn there has = (k, cc (slack_conns h _ k))

        by : (place : Option Place) → place_at held.places i.0 ≡ place → slack_at place ≡ Some n → IsIn (map (slack_of h) w.connections) n
        by None e is = cc
        by (Some place) e is =
            let own = s.owned i.0 place e in
            let its = found_at buses (λ n fed. fed) keys held w _ i.0 s own.named in
            let same : Some place ≡ Some (place_of its.reader h its.conn) = sym e ∙ its.place in
            let has : slack_of h its.conn ≡ Some n = cc (slack_place its.reader h its.conn its.up) in
            stood own.number its.conn its.there has

    from : (n : ℕ) → IsIn (map (slack_of h) w.connections) n → IsIn (map slack_at held.places) n
    from n i = by _ refl (sym (slack_conns h _ i.0) ∙ i.1)
      where
        by : (conn : Option Connection) → numbered (suc i.0) w.connections ≡ conn → slack_by h conn ≡ Some n
            → IsIn (map slack_at held.places) n
        by None e is = cc
        by (Some conn) e is =
            ⊎_elim
            (λ up.
            let a = s.opens (suc i.0) conn e up in
            (a.key, cc (slack_places _ a.key, a.place, slack_place a.reader h conn up)))
            (λ up. let bad : None ≡ Some n = cc in cc) (cases_Bool (is_open conn))

-- ---- what falls due

due_rows : (rows : State) (k n : ℕ) → slice_index_or (map (λ row. row.due) rows) k None ≡ Some n → (first : Option ℕ)
    → IsEarliestDue first rows → AtMost n first
due_rows [] k n e first is = cc
due_rows (row ∷ rows) zero n e None is = let bad : None ≡ Some n = sym is.0 ∙ e in cc
due_rows (row ∷ rows) zero n e (Some m) is = subst (λ o. IfSome o (λ moment. m ≤ moment)) e is.0.0
due_rows (row ∷ rows) (suc k) n e None is = due_rows rows k n e None is.1
due_rows (row ∷ rows) (suc k) n e (Some m) is = all_due rows k n e m is.0.1
  where
    all_due : (rows : State) (k n : ℕ) → slice_index_or (map (λ (row : Row). row.due) rows) k None ≡ Some n → (m : ℕ)
        → AllByRecursion (λ (row : Row). IfSome row.due (λ moment. m ≤ moment)) rows → m ≤ n
    all_due [] k n e m a = cc
    all_due (row ∷ rows) zero n e m a = subst (λ o. IfSome o (λ moment. m ≤ moment)) e a.0
    all_due (row ∷ rows) (suc k) n e m a = all_due rows k n e m a.1

-- the first moment that is due is the least of them
pub earliest_is : (first : Option ℕ) (rows : State) → IsEarliestDue first rows → first ≡ least (map (λ row. row.due) rows)
earliest_is None rows is = none rows is
  where
    none : (rows : State) → AllByRecursion (λ (row : Row). row.due ≡ None) rows → None ≡ least (map (λ (row : Row). row.due) rows)
    none [] a = refl
    none (row ∷ rows) a = cc (none rows a.1, a.0)
earliest_is (Some m) rows is = by (least (map (λ (row : Row). row.due) rows)) refl
  where
    dues : List (Option ℕ)
    dues = map (λ (row : Row). row.due) rows

    at : (rows : State) (k : ℕ) (row : Row) → k < length rows → slice_index_or rows k row ≡ row → row.due ≡ Some m
        → IsIn (map (λ (row : Row). row.due) rows) m
    at [] k row low here e = absurd (omega arith)
    at (first ∷ rows) zero row low here e = (0, cc)
    at (first ∷ rows) (suc k) row low here e = let i = at rows k row (omega arith) here e in (suc i.0, i.1)

    there : IsIn dues m
    there = at rows is.1.0 is.1.1 is.1.2 is.1.3 is.1.4

    by : (o : Option ℕ) → least dues ≡ o → Some m ≡ o
    by None p = absurd (subst (AtMost m) p (least_least dues there.0 m there.1))
    by (Some n) p =
        let low : n ≤ m = subst (AtMost m) p (least_least dues there.0 m there.1) in
        let i = least_in dues n p in
        let high : m ≤ n = due_rows rows i.0 n i.1 (Some m) is in
        let same : m ≡ n = omega arith in
        cc

pub due_agrees : (first : Option ℕ) (held : Held) → IsEarliestDue first held.rows
    → OfCourse held (λ buses events _. first ≡ due_next buses (course buses events))
due_agrees first held earliest buses events keys layout s =
    earliest_is first held.rows earliest ∙ ap (λ rows. least (map (λ (row : Row). row.due) rows)) s.rows
