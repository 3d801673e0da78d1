-- Over every course the registry stays whole: each session that began and did not end has its row, under an id of its own.
use Rattle.srcp_core.proofs.Names.{cond_both, ◌≡◌, ℕ, ◌+◌, ◌^◌, ◌<◌, ◌≤◌, max, true, false, List, [], ◌∷◌, ◌++◌, length, refl, ap, sym, ◌∙◌}
use Rattle.srcp_core.proofs.Names.{subst, arith, add-one, inl, inr, ◌⊎◌, ⊎_elim, fold-append, fold, Option, Some, None, is_some, IfOk}
use Rattle.srcp_core.proofs.Names.{first_key, reply_line, Reply, Mode, Bus, IsCommandOf, IsLayout, session_device, Row, IsWhole, opening}
use Rattle.srcp_core.proofs.Names.{session_row-updated_all, effect_elsewhere, due_elsewhere, freed_others, row_at-put_same, Event, Open}
use Rattle.srcp_core.proofs.Names.{Bytes, Room, At, Shut, Step, Obeyed, Began, Moment, Ended, Order, Heard, Piece, Connection, overran}
use Rattle.srcp_core.proofs.Names.{owed, took, given_room, World, updates_of, state_after, fresh, start, numbered, with_numbered}
use Rattle.srcp_core.proofs.Names.{at_connection, open_connection, did, replied, counted, is_info, state, rows, history, entered}
use Rattle.srcp_core.proofs.Names.{answered_as, answered, fault, new_lines, fed_to, shut_as, accepted, or_refused, happens, course}
use Rattle.srcp_core.proofs.Names.{AllMoments, HasMoment, CoreFault, Device, Key, owns, act, Begins, Protocol, Go, Refused}
use Rattle.std.proofs.lemmas.Bool.{true≢false}
use Rattle.std.specs.Prelude.{option_map}
use Rattle.srcp_info.specs.declared.change.Reply.TheVariants.{Mode as ModeReply}
use Rattle.srcp_rules.specs.State.{is_there as has_device}
use Rattle.srcp_rules.specs.Steps.{effect, stepped}
use Rattle.srcp_rules.proofs.SessionLaws.{AreElsewhere}
use Rattle.srcp_rules.proofs.StateLaws.{has_row-put_row}
use Rattle.srcp_core.specs.Laws.{IsLive, IsWholeWorld, has_key, is_there, rows_at}
use Rattle.srcp_rules.proofs.EachStepLaws.{effect_law}
use Rattle.srcp_core.proofs.CourseLaws.StepsKeepWhole.{Fits, AreSteps, are_steps_push, steps_whole, prefix_whole, history_told, keys_kept}
use Rattle.srcp_core.proofs.CourseLaws.StepsKeepWhole.{whole_opening}
use Rattle.srcp_core.proofs.Agreement.NumbersAndKeys.{numbered_with, opened, no_connection, look_with, look_push}
use Rattle.srcp_info.specs.declared.value.Value.TheVariants as value
use Rattle.srcp_core.proofs.Invariants.LinesAsk.{acts_law, command_fits}

-- ---- the invariant

-- a change that begins no session and undoes no end
pub record IsMild (c d : Connection) : Type 0 where
  pub session : d.session ≡ c.session
  pub ended : d.ended ≡ false → c.ended ≡ false
  pub shut : d.shut ≡ None → c.shut ≡ None

mild_live : (c d : Connection) → IsMild c d → IsLive d → IsLive c
mild_live c d m l = record { began = rw (← m.session) l.began; not_ended = m.ended l.not_ended; not_shut = m.shut l.not_shut }

module _ (buses : List Bus) (layout : IsLayout buses) where
  pub record Kept (moment last : ℕ) (steps : List Step) (conns : List Connection) : Type 0 where
    pub now : moment < 2 ^ 64
    pub few : last < 2 ^ 32
    pub steps_fit : AreSteps buses (opening buses 0) steps
    pub ids : (m : ℕ) (c : Connection) → numbered m conns ≡ Some c → c.session ≤ last
    pub apart : (m n : ℕ) (c d : Connection) → numbered m conns ≡ Some c → numbered n conns ≡ Some d → 0 < c.session → c.session ≡ d.session
        → m ≡ n
    pub there : (m : ℕ) (c : Connection) → numbered m conns ≡ Some c → IsLive c
        → has_device (session_device c.session) (state_after (opening buses 0) steps) ≡ true

  abbrev pub IsKept : World → Type 0
  IsKept w = Kept w.moment w.last_id w.steps w.connections

  pub now_whole : (steps : List Step) → AreSteps buses (opening buses 0) steps → IsWhole buses (state_after (opening buses 0) steps)
  now_whole steps a = steps_whole buses _ steps (whole_opening buses layout) a

  kept_change : (moment last : ℕ) (steps : List Step) (conns : List Connection) (n : ℕ) (f : Connection → Connection)
      → ((c : Connection) → IsMild c (f c)) → Kept moment last steps conns → Kept moment last steps (with_numbered n f conns)
  kept_change moment last steps conns n f mild k = record {
    now = k.now;
    few = k.few;
    steps_fit = k.steps_fit;
    ids =
        λ m d e. let s = look_with m n f conns d e in rw (same s.x d m s.from).session (k.ids m s.x s.there);
    apart = λ m o c d e g low same_id.
        let s = look_with m n f conns c e in
        let t = look_with o n f conns d g in
        let a = (same s.x c m s.from).session in
        let b = (same t.x d o t.from).session in
        k.apart m o s.x t.x s.there t.there (rw (← a) low) (cc);
    there = λ m d e live.
        let s = look_with m n f conns d e in
        let g = same s.x d m s.from in
        cc (g.session, k.there m s.x s.there (mild_live s.x d g live));
  }
    where
      same : (c d : Connection) (m : ℕ) → ((m ≡ n → ⊥) × (d ≡ c)) ⊎ ((m ≡ n) × (d ≡ f c)) → IsMild c d
      same c d m (inl h) = rw h.1 (record { session = refl; ended = λ h. h; shut = λ h. h })
      same c d m (inr h) = rw h.1 (mild c)

  -- a step that leaves the row of each session that goes on
  kept_did : (moment last : ℕ) (steps : List Step) (conns : List Connection) (step : Step) → Kept moment last steps conns
      → Fits buses (state_after (opening buses 0) steps) step
      → ((m : ℕ) (c : Connection) → numbered m conns ≡ Some c → IsLive c
      → has_device (session_device c.session) (state_after (opening buses 0) steps) ≡ true
      → has_device (session_device c.session) (stepped (state_after (opening buses 0) steps) step) ≡ true)
      → Kept moment last (steps ++ step ∷ []) conns
  kept_did moment last steps conns step k fits stays = record {
    now = k.now;
    few = k.few;
    steps_fit = are_steps_push buses _ steps step k.steps_fit fits;
    ids = k.ids;
    apart = k.apart;
    there = λ m c e live. cc (fold-append stepped _ steps _, stays m c e live (k.there m c e live));
  }

  -- ---- the steps

  pub kept_obeyed : (session : ℕ) (command : Order) (w : World) → IsCommandOf buses command.command
      → has_device (session_device session) (state buses w) ≡ true → IsKept w → IsKept (did (Obeyed session w.moment command) w)
  kept_obeyed session command w of begun k =
      kept_did w.moment w.last_id w.steps w.connections (Obeyed session w.moment command) k (of, (begun, k.now))
      (λ m c e live h.
      ap is_some
      (session_row-updated_all (effect (state buses w) session w.moment command).updates (state buses w) c.session
      (effect_law (λ e. AreElsewhere e.updates) (state buses w) session w.moment command
      (effect_elsewhere (state buses w) session w.moment command.command) tt))
      ∙ h)

  pub kept_at : (moment : ℕ) (w : World) → moment < 2 ^ 64 → IsKept w → IsKept (did (Moment moment) (record w { moment = moment }))
  kept_at moment w h k =
      kept_did moment w.last_id w.steps w.connections (Moment moment) (assumption h) (tt, h)
      (λ m c e live there.
      ap is_some
      (session_row-updated_all (updates_of (state buses w) (Moment moment)) (state buses w) c.session
      (due_elsewhere buses (state buses w) (now_whole w.steps k.steps_fit) moment))
      ∙ there)

  -- the end of a session, of a connection that no longer lives
  pub kept_ended : (moment last : ℕ) (steps : List Step) (conns : List Connection) (n : ℕ) (f : Connection → Connection) (conn : Connection)
      → numbered n conns ≡ Some conn → ((c : Connection) → IsMild c (f c)) → ((c : Connection) → IsLive (f c) → ⊥)
      → Kept moment last steps conns → Kept moment last (steps ++ Ended conn.session moment ∷ []) (with_numbered n f conns)
  kept_ended moment last steps conns n f conn at mild dead k =
      kept_did moment last steps (with_numbered n f conns) (Ended conn.session moment)
      (kept_change moment last steps conns n f mild k) (tt, k.now)
      (λ m c e live h.
      let s = look_with m n f conns c e in
      ap is_some
      (freed_others buses (state_after (opening buses 0) steps) (now_whole steps k.steps_fit) moment conn.session c.session
      (other m s.x c s.there live s.from))
      ∙ h)
    where
      other : (m : ℕ) (x c : Connection) → numbered m conns ≡ Some x → IsLive c → ((m ≡ n → ⊥) × (c ≡ x)) ⊎ ((m ≡ n) × (c ≡ f x))
          → c.session ≡ conn.session → ⊥
      other m x c there live (inl h) same =
          h.0 (k.apart m n x conn there at (rw (← h.1) live.began)
          (cc h.1))
      other m x c there live (inr h) same = dead x (subst IsLive h.1 live)

  -- ---- answers

  pub kept_replied : (n : ℕ) (reply : Reply) (w : World) → IsKept w → IsKept (replied n reply w)
  kept_replied n reply w k =
      kept_change w.moment w.last_id w.steps w.connections n _ (λ c. record { session = refl; ended = λ h. h; shut = λ h. h }) k

  -- a session begins under the next id
  kept_entered : (n : ℕ) (mode : Mode) (w : World) → w.last_id < 4294967295 → IsKept w
      → IsKept (entered buses n (w.last_id + 1) (did (Began (w.last_id + 1) w.moment mode) (record w { last_id = w.last_id + 1 })))
  kept_entered n mode w low k = record {
    now = k.now;
    few = omega (arith, low);
    steps_fit =
        are_steps_push buses (opening buses 0) w.steps (Began (w.last_id + 1) w.moment mode) k.steps_fit
        ((omega arith, omega (arith, low)), k.now);
    ids = λ m d e. let s = look_with m n _ w.connections d e in by_from m s.x d s.there s.from;
    apart = λ m o c d e g pos same.
        let s = look_with m n _ w.connections c e in
        let t = look_with o n _ w.connections d g in
        by_both m o s.x c t.x d s.there t.there pos same s.from t.from;
    there = λ m d e live.
        let s = look_with m n _ w.connections d e in
        cc (
          fold-append stepped (opening buses 0) w.steps (Began (w.last_id + 1) w.moment mode ∷ []),
          row_there m s.x d s.there live s.from,
        );
  }
    where
      begun : Connection → Connection
      begun conn = record conn {
        session = w.last_id + 1;
        info = is_info conn.mode;
        go_step = length (w.steps ++ Began (w.last_id + 1) w.moment mode ∷ []);
      }

      by_from : (m : ℕ) (x d : Connection) → numbered m w.connections ≡ Some x → ((m ≡ n → ⊥) × (d ≡ x)) ⊎ ((m ≡ n) × (d ≡ begun x))
          → d.session ≤ w.last_id + 1
      by_from m x d e (inl h) =
          let i : d.session ≤ w.last_id = rw h.1 (k.ids m x e) in omega (arith, i)
      by_from m x d e (inr h) = let i : d.session ≡ w.last_id + 1 = cc h.1 in omega (arith, i)

      by_both : (m o : ℕ) (x c y d : Connection) → numbered m w.connections ≡ Some x → numbered o w.connections ≡ Some y → 0 < c.session
          → c.session ≡ d.session
          → ((m ≡ n → ⊥) × (c ≡ x)) ⊎ ((m ≡ n) × (c ≡ begun x)) → ((o ≡ n → ⊥) × (d ≡ y)) ⊎ ((o ≡ n) × (d ≡ begun y)) → m ≡ o
      by_both m o x c y d e f pos same (inl h) (inl g) =
          k.apart m o x y e f (rw (← h.1) pos)
          (cc (h.1, g.1))
      by_both m o x c y d e f pos same (inl h) (inr g) =
          let i : c.session ≤ w.last_id = rw h.1 (k.ids m x e) in
          let j : d.session ≡ w.last_id + 1 = cc g.1 in
          absurd (omega (arith, i, j, same))
      by_both m o x c y d e f pos same (inr h) (inl g) =
          let i : d.session ≤ w.last_id = rw g.1 (k.ids o y f) in
          let j : c.session ≡ w.last_id + 1 = cc h.1 in
          absurd (omega (arith, i, j, same))
      by_both m o x c y d e f pos same (inr h) (inr g) = h.0 ∙ sym g.0

      row : Row
      row = record {
        shown = record { key = first_key (session_device (w.last_id + 1)); stamp = w.moment; value = value.Session mode };
        due = None;
      }

      row_there : (m : ℕ) (x d : Connection) → numbered m w.connections ≡ Some x → IsLive d
          → ((m ≡ n → ⊥) × (d ≡ x)) ⊎ ((m ≡ n) × (d ≡ begun x))
          → has_device (session_device d.session) (stepped (state buses w) (Began (w.last_id + 1) w.moment mode)) ≡ true
      row_there m x d e live (inl h) =
          has_row-put_row (first_key (session_device d.session)) row (state buses w) (cc (h.1, k.there m x e (subst IsLive h.1 live)))
      row_there m x d e live (inr h) =
          let i : d.session ≡ w.last_id + 1 = cc h.1 in
          cc (row_at-put_same row (state buses w))

  pub kept_answered_as : (n : ℕ) (o : Option Connection) (line : Heard) (w : World)
      → ((conn : Connection) → o ≡ Some conn → (numbered n w.connections ≡ Some conn) × (conn.shut ≡ None)) → IsKept w
      → IsKept (answered_as buses n o line w)
  kept_answered_as n None line w f k = k
  kept_answered_as n (Some conn) line w f k =
      acts_law (λ all. IsKept (fold (act buses n) w all)) line.granted {buses = buses} {mark = line.mark} k
      (λ plain goes_on. record {
        speaks = kept_replied n Protocol w k;
        chooses = λ chosen.
            kept_replied n ModeReply (at_connection n (λ conn. record conn { mode = chosen }) w)
            (kept_change w.moment w.last_id w.steps w.connections n (λ conn. record conn { mode = chosen })
            (λ c. record { session = refl; ended = λ h. h; shut = λ h. h }) k);
        refuses = λ code. kept_replied n (Refused code) w k;
        begins = λ goes left.
            kept_replied n (Go (w.last_id + 1)) (act buses n w (Begins (w.last_id + 1) conn.mode)) (kept_entered n conn.mode w left k);
        obeys = λ order began reads.
            let reply = (effect (state buses w) conn.session w.moment order).reply in
            let did_it = did (Obeyed conn.session w.moment order) w in
            let live : IsLive conn = record { began = began; not_ended = goes_on; not_shut = (f conn refl).1 } in
            let of : IsCommandOf buses order.command =
            subst (λ r. IfOk r (IsCommandOf buses)) reads (command_fits buses layout line.mark) in
            let replies =
            kept_replied n reply did_it (kept_obeyed conn.session order w of (k.there n conn (f conn refl).0 live) k) in (
              replies,
              kept_ended w.moment w.last_id did_it.steps (replied n reply did_it).connections n (λ c. record c { ended = true })
                  (record conn { out = conn.out ++ reply_line w.moment reply })
                  (numbered_with n _ w.connections
                  ∙ ap (option_map (λ (c : Connection). record c { out = c.out ++ reply_line w.moment reply })) (f conn refl).0)
                  (λ c. record { session = refl; ended = λ h. absurd (true≢false h); shut = λ h. h }) (λ c l. true≢false l.not_ended)
                  replies,
            );
      })

  pub kept_marks : (n : ℕ) (marks : List Heard) (w : World) → IsKept w → IsKept (fold (answered buses n) w marks)
  kept_marks n [] w k = k
  kept_marks n (mark ∷ marks) w k =
      kept_marks n marks (answered buses n w mark)
      (kept_answered_as n (open_connection w n) mark w (λ conn e. opened (numbered n w.connections) conn e) k)

  pub kept_fed : (n : ℕ) (piece : Piece) (o : Option Connection) (w : World) → IsKept w → IsKept (fed_to buses n piece o w)
  kept_fed n piece None w k = k
  kept_fed n piece (Some conn) w k =
      kept_marks n (new_lines buses conn.fed piece) (at_connection n (λ c. record c { fed = c.fed ++ piece.bytes }) w)
      (kept_change w.moment w.last_id w.steps w.connections n (λ c. record c { fed = c.fed ++ piece.bytes })
      (λ c. record { session = refl; ended = λ h. h; shut = λ h. h }) k)

  -- ---- events

  pub kept_shut : (n : ℕ) (o : Option Connection) (w : World)
      → ((conn : Connection) → o ≡ Some conn → (numbered n w.connections ≡ Some conn) × (conn.shut ≡ None)) → IsKept w
      → IsKept (shut_as buses n o w)
  kept_shut n None w f k = k
  kept_shut n (Some conn) w f k =
      cond_both _ _ _ IsKept
      (λ _. kept_change w.moment _ w.steps _ n (λ c. record c { shut = Some (length w.steps) }) closes k)
      (λ _. kept_ended w.moment _ w.steps _ n (λ c. record c { shut = Some (length w.steps) }) conn
      (f conn refl).0 closes (λ c l. let s = l.not_shut in cc) k)
    where
      closes : (c : Connection) → IsMild c (record c { shut = Some (length w.steps) })
      closes c = record { session = refl; ended = λ h. h; shut = λ h. cc }

  pub kept_room : (n bytes : ℕ) (w : World) → IsKept w → IsKept (accepted buses (Room n bytes) w)
  kept_room n bytes w k =
      kept_change w.moment _ w.steps _ n (given_room bytes (history buses w) (rows buses w))
      (λ c. cond_both (overran c (history buses w)) c (took bytes (length (history buses w)) (owed c (history buses w) (rows buses w)) c)
      (IsMild c) (λ _. record { session = refl; ended = λ h. h; shut = λ h. h })
      (λ _. record { session = refl; ended = λ h. h; shut = λ h. h }))
      k

  kept_open : (moment last : ℕ) (steps : List Step) (conns : List Connection) → Kept moment last steps conns
      → Kept moment last steps (conns ++ fresh ∷ [])
  kept_open moment last steps conns k = record {
    now = k.now;
    few = k.few;
    steps_fit = k.steps_fit;
    ids = λ m c e. ⊎_elim (λ h. k.ids m c h) (λ h. let i : c.session ≡ 0 = cc in omega (arith, i)) (look_push m conns fresh c e);
    apart = λ m o c d e g pos same. by m o c d pos same (look_push m conns fresh c e) (look_push o conns fresh d g);
    there = λ m c e live. ⊎_elim (λ h. k.there m c h live) (λ h. absurd (not_live c h live.began)) (look_push m conns fresh c e);
  }
    where
      not_live : (c : Connection) → c ≡ fresh → 0 < c.session → ⊥
      not_live c h pos = let i : c.session ≡ 0 = cc in omega (arith, i, pos)

      by : (m o : ℕ) (c d : Connection) → 0 < c.session → c.session ≡ d.session → (numbered m conns ≡ Some c) ⊎ (c ≡ fresh)
          → (numbered o conns ≡ Some d) ⊎ (d ≡ fresh) → m ≡ o
      by m o c d pos same (inl e) (inl g) = k.apart m o c d e g pos same
      by m o c d pos same (inl e) (inr g) = absurd (not_live d g (rw (← same) pos))
      by m o c d pos same (inr e) g = absurd (not_live c e pos)

  pub kept_accepted : (event : Event) (w : World) → HasMoment event → IsKept w → IsKept (accepted buses event w)
  kept_accepted (Open granted) w h k = kept_open w.moment w.last_id w.steps w.connections k
  kept_accepted (Bytes n piece) w h k = kept_fed n piece (open_connection w n) w k
  kept_accepted (Room n bytes) w h k = kept_room n bytes w k
  kept_accepted (At moment) w h k = kept_at (max w.moment moment) w (later w.moment moment k.now h) k
    where
      later : (a b : ℕ) → a < 2 ^ 64 → b < 2 ^ 64 → max a b < 2 ^ 64
      later a b p q = omega arith
  kept_accepted (Shut n) w h k = kept_shut n _ w (λ conn e. opened _ conn e) k

  kept_or_refused : (o : Option CoreFault) (event : Event) (w : World) → HasMoment event → IsKept w → IsKept (or_refused buses o event w)
  kept_or_refused None event w h k = kept_accepted event w h k
  kept_or_refused (Some cause) event w h k = k

  kept_all : (events : List Event) (w : World) → AllMoments events → IsKept w → IsKept (fold (happens buses) w events)
  kept_all [] w a k = k
  kept_all (event ∷ events) w a k =
      kept_all events (happens buses w event) a.1 (kept_or_refused (fault buses (counted w) event) event (counted w) a.0 k)

  pub kept_course : (events : List Event) → AllMoments events → IsKept (course buses events)
  kept_course events a =
      kept_all events start a
      (record {
        now = omega arith;
        few = omega arith;
        steps_fit = tt;
        ids = λ m c e. absurd (no_connection m c e);
        apart = λ m o c d e g pos same. absurd (no_connection m c e);
        there = λ m c e live. absurd (no_connection m c e);
      })

-- no step gives a device that is there a key that it had not
abbrev pub KeepsKeys : List Bus → World → Type 0
KeepsKeys buses w = (k : ℕ) (device : Device) (key : Key) → k < length w.steps → is_there device (rows_at buses w k) ≡ true
    → owns device key ≡ true → has_key key (rows_at buses w (k + 1)) ≡ true → has_key key (rows_at buses w k) ≡ true

-- so it is of every list of events
pub keeps_keys : (buses : List Bus) → IsLayout buses → (events : List Event) → AllMoments events → KeepsKeys buses (course buses events)
keeps_keys buses layout events moments k device key low there own e =
    let w = course buses events in
    keys_kept buses k (opening buses 0) w.steps (whole_opening buses layout)
    (kept_course buses layout events moments).steps_fit low device key there own
    (rw (← (add-one k)) e)

-- every course keeps the registry whole
pub keeps_whole : (buses : List Bus) → IsLayout buses → (events : List Event) → AllMoments events → IsWholeWorld buses (course buses events)
keeps_whole buses layout events moments =
    let k = kept_course buses layout events moments in
    let first = whole_opening buses layout in
    record {
      states = λ n. prefix_whole buses n (opening buses 0) (course buses events).steps first k.steps_fit;
      changes = history_told buses (opening buses 0) (course buses events).steps first k.steps_fit;
      moment = k.now;
      last_id = k.few;
      sessions = λ n c e. (k.ids n c e, k.there n c e);
      apart = k.apart;
      keys = keeps_keys buses layout events moments;
    }
