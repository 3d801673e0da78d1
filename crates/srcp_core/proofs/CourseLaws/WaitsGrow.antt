-- No more changes wait for an information session than waited before and were brought since.
use Rattle.srcp_core.proofs.Names.{◌≡◌, ℕ, zero, suc, ◌+◌, ◌-◌, ◌≤◌, Bool, true, false, List, [], ◌∷◌, ◌++◌, map, length, drop, refl, ap}
use Rattle.srcp_core.proofs.Names.{sym, ◌∙◌, subst, arith, append-nil, length-append, length-drop, length_push, drop-append-le}
use Rattle.srcp_core.proofs.Names.{flat_map-append, fold-append, le-ltb, ltb-false, filter, fold, flat_map, nat_lt, Option, Some, None}
use Rattle.srcp_core.proofs.Names.{if◌then◌else◌, Change, Bus, opening, concerns, Event, Step, Connection, History, is_open, given_room}
use Rattle.srcp_core.proofs.Names.{overran, owed, took, waiting, World, fresh, start, numbered, at_connection, did, history_from, history}
use Rattle.srcp_core.proofs.Names.{rows, happens, course, is_info, entered, brought, IsOverrun, slack_of, least, changes_left}
use Rattle.srcp_core.proofs.Names.{le_refl, cond_both, take, take-append-le, take_all}
use Rattle.srcp_core.specs.Waits.{changes_since, slack, WaitsGrowByChanges, FewChangesCloseNone}
use Rattle.srcp_core.proofs.CourseLaws.Histories.{concerning_by, concerning_push, concerning_none, cursor_by}
use Rattle.srcp_core.proofs.CourseLaws.ItemsFitHistory.{untold_by, tolds}
use Rattle.srcp_core.proofs.CourseLaws.ShownRegistry.{history_push, length_history}
use Rattle.srcp_core.proofs.Agreement.SlackAgrees.{AtMost, IsIn, least_least, least_in, slack_by, slack_conns}
use Rattle.srcp_core.proofs.CourseLaws.SessionsOfACourse.{open_shut, untold_open, overran_open}
use Rattle.srcp_core.proofs.CourseLaws.EventsKeep.{IsKept, kept_all, numbered_after, numbered_more}
use Rattle.srcp_core.proofs.CourseLaws.RoomsAddUp.{untold_took}
use Rattle.srcp_core.proofs.Agreement.NumbersAndKeys.{no_connection}

filter_few : (p : Change → Bool) (changes : List Change) → length (filter p changes) ≤ length changes
filter_few p [] = omega arith
filter_few p (change ∷ changes) =
    let ih = filter_few p changes in
    cond_both (p change) (change ∷ filter p changes) (filter p changes) (λ cs. length cs ≤ length (change ∷ changes)) (λ _. omega arith)
    (λ _. omega arith)

-- ---- one session

-- how many changes wait of a session, by the history of that length
abbrev left_at : Connection → History → ℕ
left_at conn history = length (untold_by conn.go_step conn.items conn.done history)

-- at most `most` wait of a session that goes on; if that is within 256, one that was shut had not overrun by then
pub record Within (most : ℕ) (history : History) (conn : Connection) : Type 0 where
  pub began : conn.go_step ≤ length history
  pub few : conn.info ≡ true → conn.shut ≡ None → left_at conn history ≤ most
  pub fine : (steps : ℕ) → conn.shut ≡ Some steps
      → (steps ≤ length history) × (conn.info ≡ true → most ≤ 256 → left_at conn (take steps history) ≤ 256)

within_push : (most more : ℕ) (history : History) (changes : List Change) (conn : Connection) → most + length changes ≤ more
    → Within most history conn → Within more (history ++ changes ∷ []) conn
within_push most more history changes conn h w =
    let up = length_push history changes in
    let began = w.began in
    let con = concerning_push conn.go_step (cursor_by conn.done conn.items) history changes w.began in
    let extra = filter (concerns (cursor_by conn.done conn.items (length history))) changes in
    let few = filter_few (concerns (cursor_by conn.done conn.items (length history))) changes in
    let before = concerning_by conn.go_step (cursor_by conn.done conn.items) history in
    let a = length-drop (length (tolds conn.items)) (before ++ extra) in
    let b = length-drop (length (tolds conn.items)) before in
    let c = length-append before extra in
    let same : length (untold_by conn.go_step conn.items conn.done (history ++ changes ∷ []))
    ≡ length (drop (length (tolds conn.items)) (before ++ extra)) = cc in
    record {
      began = omega arith;
      few = λ info shut. let before = w.few info shut in omega arith;
      fine = λ steps shut.
          let f = w.fine steps shut in
          let same : take steps (history ++ changes ∷ []) ≡ take steps history = take-append-le steps history (changes ∷ []) f.0 in
          let low = f.0 in (
            omega (arith, up, low),
            λ info within. rw same (f.1 info (omega (arith, h, within))),
          );
    }

-- a session that begins now has nothing to wait for
within_entered : (most : ℕ) (history : History) (go : ℕ) (conn : Connection) → go ≡ length history → conn.go_step ≡ go
    → conn.shut ≡ None → Within most history conn
within_entered most history go conn e g up =
    let low : conn.go_step ≤ length history = omega arith in
    let high : 0 + length history ≤ conn.go_step = omega arith in
    let none : concerning_by conn.go_step (cursor_by conn.done conn.items) history ≡ [] =
    concerning_none conn.go_step (cursor_by conn.done conn.items) 0 history high in
    record { began = low; few = λ info shut. rest none; fine = λ steps shut. cc }
  where
    rest : concerning_by conn.go_step (cursor_by conn.done conn.items) history ≡ []
        → length (untold_by conn.go_step conn.items conn.done history) ≤ most
    rest none =
        let size = length-drop (length (tolds conn.items)) (concerning_by conn.go_step (cursor_by conn.done conn.items) history) in
        let empty : length (concerning_by conn.go_step (cursor_by conn.done conn.items) history) ≡ 0 = cc in
        omega arith

within_room : (buses : List Bus) (most : ℕ) (w : World) (bytes : ℕ) (conn : Connection) → conn.shut ≡ None
    → Within most (history buses w) conn → Within most (history buses w) (given_room bytes (history buses w) (rows buses w) conn)
within_room buses most w bytes conn up s =
    let h = history buses w in
    cond_both (overran conn h) conn (took bytes (length h) (owed conn h (rows buses w)) conn) (Within most h) (λ _. s) (λ _. record {
      began = s.began;
      few = λ info shut.
          let f = s.few info shut in
          let t = untold_took (history buses w) bytes (owed conn (history buses w) (rows buses w)) conn in
          omega (arith, f, t);
      fine = λ steps shut. cc;
    })

-- one that is shut now had not overrun
within_shut : (most : ℕ) (history : History) (steps : ℕ) (conn : Connection) → steps ≡ length history → conn.shut ≡ None
    → Within most history conn → Within most history (record conn { shut = Some steps })
within_shut most history steps conn e up s = record {
  began = s.began;
  few = λ info shut. cc;
  fine = λ k shut.
      let same : steps ≡ k = cc in
      let all : take k history ≡ history = take_all k history (omega (arith, same, e)) in (
        omega (arith, same, e),
        λ info within. rw all (let few = s.few info up in omega (arith, few, within)),
      );
}

-- ---- every session of a world

-- what was brought since
abbrev since : ℕ → History → ℕ
since steps history = length (flat_map (λ (changes : List Change). changes) (drop steps history))

since_push : (steps : ℕ) (history : History) (changes : List Change) → steps ≤ length history
    → since steps (history ++ changes ∷ []) ≡ since steps history + length changes
since_push steps history changes h =
    cc (
      drop-append-le steps history (changes ∷ []) h,
      flat_map-append (λ (changes : List Change). changes) (drop steps history) (changes ∷ []),
      append-nil changes,
      length-append (flat_map (λ (changes : List Change). changes) (drop steps history)) changes,
    )

module _ (buses : List Bus) (Of : ℕ → Type 0) (steps most : ℕ) where
  -- of each of these sessions, after so many steps
  abbrev WaitsBy : History → List Connection → Type 0
  WaitsBy h conns =
      (steps ≤ length h)
      × ((number : ℕ) (conn : Connection) → Of number → numbered number conns ≡ Some conn → Within (most + since steps h) h conn)

  abbrev Waits : World → Type 0
  Waits w = WaitsBy (history_from (opening buses 0) w.steps) w.connections

  waits_push : (h : History) (changes : List Change) (conns : List Connection) → WaitsBy h conns → WaitsBy (h ++ changes ∷ []) conns
  waits_push h changes conns a = (
    (let up = length_push h changes in let low = a.0 in omega (arith, up, low)),
    λ number conn of e.
        within_push (most + since steps h) _ h changes conn (let s = since_push steps h changes a.0 in omega (arith, s))
        (a.1 number conn of e),
  )

  waits_did : (step : Step) (w : World) → Waits w → Waits (did step w)
  waits_did step w a =
      rw (history_push _ w.steps step)
      (waits_push _
      (map (λ update. update.change) _) _ a)

  waits_at : (n : ℕ) (change : Connection → Connection) (w : World)
      → ((conn : Connection) → numbered n w.connections ≡ Some conn
      → Within (most + since steps (history buses w)) (history buses w) conn
      → Within (most + since steps (history buses w)) (history buses w) (change conn))
      → Waits w → Waits (at_connection n change w)
  waits_at n change w f a = (
    a.0,
    λ number conn of e.
        numbered_after _ n number change _ conn e
        (λ other there. a.1 number other of there) f,
  )

  waits_kept : IsKept buses Waits
  waits_kept = record {
    lines = λ n. record {
      step = waits_did;
      numbers = λ id w a. a;
      says = λ mode ends w plain a. waits_at n _ w (λ conn here s. record { began = s.began; few = s.few; fine = s.fine }) a;
      answers = λ reply w plain a. waits_at n _ w (λ conn here s. record { began = s.began; few = s.few; fine = s.fine }) a;
      enters = λ id reply w plain a.
          waits_at n _ (entered buses n id w) (λ conn here s. record { began = s.began; few = s.few; fine = s.fine })
          (waits_at n _ w (λ conn here s. begins w id conn (plain conn here).1) a);
    };
    other = λ w v a. a;
    opens =
        λ w a. (
          a.0,
          λ number conn of e.
              numbered_more (Within (most + since steps (history buses w)) (history buses w)) number w.connections fresh conn e
              (λ other there. a.1 number other of there)
              (record { began = omega arith; few = λ info shut. cc; fine = λ steps shut. cc }),
        );
    feeds = λ n bytes w a. waits_at n _ w (λ conn here s. record { began = s.began; few = s.few; fine = s.fine }) a;
    shuts = λ n w up a.
        waits_at n _ w
        (λ conn here s. within_shut _ (history buses w) (length w.steps) conn (sym (length_history _ w.steps)) (up conn here) s) a;
    room = λ n bytes w up a.
        waits_at n _ w (λ conn here s. within_room buses (most + since steps (history buses w)) w bytes conn (up conn here) s) a;
  }
    where
      begins : (w : World) (id : ℕ) (conn : Connection) → conn.shut ≡ None
          → Within (most + since steps (history buses w)) (history buses w)
          (record conn { session = id; info = is_info conn.mode; go_step = length w.steps })
      begins w id conn up = within_entered _ _ _
          (record conn { session = id; info = is_info _; go_step = length w.steps })
          (sym (length_history _ w.steps)) refl up

  pub waits_all : (events : List Event) (w : World) → Waits w → Waits (fold (happens buses) w events)
  waits_all events w a = kept_all buses Waits waits_kept events w a

-- ---- of every course

-- a session that was shut overran if it had by then
overran_shut : (history : History) (conn : Connection) (steps : ℕ) → conn.shut ≡ Some steps
    → overran conn history ≡ nat_lt 256 (left_at conn (take steps history))
overran_shut history conn steps shut = cc

-- what waits of an open session, and of one that was shut
waiting_within : (most : ℕ) (h : History) (conn : Connection) → Within most h conn → conn.info ≡ true → length (waiting conn h) ≤ most
waiting_within most h conn s info = by _ refl
  where
    by : (shut : Option ℕ) → conn.shut ≡ shut → length (waiting conn h) ≤ most
    by None e = let f = s.few info e in let same = ap (λ (cs : List Change). length cs) (untold_open h conn e) in omega arith
    by (Some n) e = rw e (omega arith)

module _ (buses : List Bus) (events more : List Event) (Of : ℕ → Type 0) (most : ℕ)
    (few : (number : ℕ) (conn : Connection) → Of number → numbered number (course buses events).connections ≡ Some conn → conn.info ≡ true
    → conn.shut ≡ None → length (waiting conn (history buses (course buses events))) ≤ most)
    (fine : (number : ℕ) (conn : Connection) → Of number → numbered number (course buses events).connections ≡ Some conn → conn.info ≡ true
    → (steps : ℕ) → conn.shut ≡ Some steps → overran conn (history buses (course buses events)) ≡ false) where
  from_start : Waits buses (λ number. Unit {0}) 0 0 (course buses events)
  from_start =
      waits_all buses (λ number. Unit {0}) 0 0 events start (omega arith, λ number conn of e. absurd (no_connection number conn e))

  here : Waits buses Of (length (course buses events).steps) most (course buses events)
  here = ((let e = length_history (opening buses 0) (course buses events).steps in omega (arith, e)), each)
    where
      each : (number : ℕ) (conn : Connection) → Of number → numbered number (course buses events).connections ≡ Some conn
          → Within (most + changes_since buses (length (course buses events).steps) (course buses events))
          (history buses (course buses events)) conn
      each number conn of e =
          let s = from_start.1 number conn tt e in
          record {
            began = s.began;
            few = λ info shut.
                let f = few number conn of e info shut in
                let same = ap (λ (cs : List Change). length cs) (untold_open (history buses (course buses events)) conn shut) in
                omega arith;
            fine = λ steps shut. (
              (s.fine steps shut).0,
              λ info within.
                  ltb-false 256 _
                  (sym (overran_shut (history buses (course buses events)) conn steps shut) ∙ fine number conn of e info steps shut),
            );
          }

  there : Waits buses Of (length (course buses events).steps) most (course buses (events ++ more))
  there =
      subst (Waits buses Of (length (course buses events).steps) most) (sym (fold-append _ start events more))
      (waits_all buses Of _ most more _ here)

pub waits_grow : (buses : List Bus) → WaitsGrowByChanges buses
waits_grow buses events more number conn later p e info =
    waiting_within (length (waiting conn h) + brought buses events more) (history buses (course buses (events ++ more))) later
    ((there buses events more (λ n. n ≡ number) (length (waiting conn h)) own still).1 number later refl e) info
  where
    h : History
    h = history buses (course buses events)

    own : (n : ℕ) (other : Connection) → n ≡ number → numbered n (course buses events).connections ≡ Some other → other.info ≡ true
        → other.shut ≡ None → length (waiting other h) ≤ length (waiting conn h)
    own n other same o info shut =
        let it : Some other ≡ Some conn = cc p.there in
        let is : other ≡ conn = cc in
        rw (← is) (le_refl _)

    still : (n : ℕ) (other : Connection) → n ≡ number → numbered n (course buses events).connections ≡ Some other → other.info ≡ true
        → (steps : ℕ) → other.shut ≡ Some steps → overran other h ≡ false
    still n other same o info steps shut =
        let it : Some other ≡ Some conn = cc p.there in
        let is : other ≡ conn = cc in
        let up : conn.shut ≡ None = open_shut conn.shut p.open_now in
        cc

-- ---- slack

slack_256 : (h : History) (conn : Connection) (n : ℕ) → slack_of h conn ≡ Some n → n ≤ 256
slack_256 h conn n e = by _ _ e
  where
    by : (t over : Bool) → (if t then Some (if over then 256 else 256 - length (waiting conn h)) else None) ≡ Some n → n ≤ 256
    by true true e = let same : 256 ≡ n = cc in omega arith
    by true false e = let same : 256 - length (waiting conn h) ≡ n = cc in omega arith
    by false over e = cc

some_slack_256 : (h : History) (o : Option Connection) (n : ℕ) → slack_by h o ≡ Some n → n ≤ 256
some_slack_256 h None n e = cc
some_slack_256 h (Some conn) n e = slack_256 h conn n e

changes_256 : (xs : List (Option ℕ)) → ((n : ℕ) → IsIn xs n → n ≤ 256) → changes_left (least xs) ≤ 256
changes_256 xs f = by _ refl
  where
    by : (o : Option ℕ) → least xs ≡ o → changes_left o ≤ 256
    by None e = omega arith
    by (Some n) e = f n (least_in xs n e)

changes_most : (o : Option ℕ) (n : ℕ) → AtMost n o → changes_left o ≤ n
changes_most None n h = absurd h
changes_most (Some m) n h = h

pub few_close_none : (buses : List Bus) → FewChangesCloseNone buses
few_close_none buses events more enough number later o = by (numbered number w.connections) refl
  where
    w : World
    w = course buses events

    h : History
    h = history buses w

    slacks : List (Option ℕ)
    slacks = map (slack_of h) w.connections

    r : ℕ
    r = changes_left (slack buses w)

    within : r ≤ 256
    within = changes_256 slacks (λ n i. some_slack_256 h (numbered (suc i.0) w.connections) n (sym (slack_conns h w.connections i.0) ∙ i.1))

    -- what waits of a panel
    waits : (k : ℕ) (conn : Connection) → numbered k w.connections ≡ Some conn → conn.info ≡ true → conn.shut ≡ None
        → overran conn h ≡ false → length (waiting conn h) ≤ 256 - r
    waits zero conn e info shut fine = cc
    waits (suc k) conn e info shut fine =
        let up : is_open conn ≡ true = cc in
        let is : slack_of h conn ≡ Some (256 - length (waiting conn h)) = cc in
        let low : r ≤ 256 - length (waiting conn h) =
        changes_most (least slacks) (256 - length (waiting conn h))
        (least_least slacks k (256 - length (waiting conn h)) (slack_conns h w.connections k ∙ ap (slack_by h) e ∙ is)) in
        let few : length (waiting conn h) ≤ 256 =
        ltb-false 256 (length (waiting conn h))
        (ap (λ (cs : List Change). nat_lt 256 (length cs)) (untold_open h conn shut) ∙ sym (overran_open h conn shut) ∙ fine) in
        omega arith

    one_overruns : ((conn : Connection) → numbered number w.connections ≡ Some conn → conn.info ≡ true → overran conn h ≡ false) → ⊥
    one_overruns fine = by later.shut refl
      where
        few : (k : ℕ) (conn : Connection) → k ≡ number → numbered k w.connections ≡ Some conn → conn.info ≡ true → conn.shut ≡ None
            → length (waiting conn h) ≤ 256 - r
        few k conn same e info shut = waits k conn e info shut (fine conn (cc) info)

        s : Within (256 - r + brought buses events more) (history buses (course buses (events ++ more))) later
        s =
            (there buses events more (λ k. k ≡ number) (256 - r) few (λ k conn same e info steps shut. fine conn (cc) info)).1
            number later refl o.there

        over : (b : Bool) → overran later (history buses (course buses (events ++ more))) ≡ b → b ≡ false → ⊥
        over b e low = let yes = o.over in cc

        by : (shut : Option ℕ) → later.shut ≡ shut → ⊥
        by None shut =
            let f = s.few o.info shut in
            let e = enough in
            let v = within in
            let low : left_at later (history buses (course buses (events ++ more))) ≤ 256 = omega arith in
            over _ (overran_open (history buses (course buses (events ++ more))) later shut) (le-ltb 256 _ low)
        by (Some steps) shut =
            let e = enough in
            let v = within in
            let low = (s.fine steps shut).1 o.info (omega (arith, e, v)) in
            over _ (overran_shut (history buses (course buses (events ++ more))) later steps shut) (le-ltb 256 _ low)

    by : (o : Option Connection) → numbered number w.connections ≡ o → (conn : Connection) × IsOverrun buses w number conn
    by None e = absurd (one_overruns (λ conn there info. let bad : None ≡ Some conn = cc in cc))
    by (Some conn) e = over (overran conn h) refl conn.info refl
      where
        same : (other : Connection) → numbered number w.connections ≡ Some other → other ≡ conn
        same other there = let it : Some other ≡ Some conn = cc in cc

        over : (t : Bool) → overran conn h ≡ t → (i : Bool) → conn.info ≡ i → (conn : Connection) × IsOverrun buses w number conn
        over true t true i = (conn, record { there = e; info = i; over = t })
        over false t i k = absurd (one_overruns (λ other there info. cc (same other there)))
        over true t false i =
            absurd (one_overruns (λ other there info. let no : other.info ≡ false = cc (same other there) in cc))
