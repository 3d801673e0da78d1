-- What every event keeps: a law of worlds that a step keeps, and each of the things that happen to one connection.
use Rattle.srcp_core.proofs.Names.{◌≡◌, ℕ, max, ◌+◌, true, false, List, [], ◌∷◌, ◌++◌, length, refl, sym, subst, Bool, ⊎_elim, fold, Option}
use Rattle.srcp_core.proofs.Names.{Some, None, Reply, Mode, Bus, Event, Open, Bytes, Room, At, Shut, Step, Obeyed, Heard, Piece, Connection}
use Rattle.srcp_core.proofs.Names.{World, fresh, numbered, with_numbered, at_connection, open_connection, did, replied, counted, entered}
use Rattle.srcp_core.proofs.Names.{answered_as, answered, fault, absent_fault, new_lines, fed_to, shut_as, accepted, or_refused, happens}
use Rattle.srcp_core.proofs.Names.{CoreFault, cond_both, act, state, Began, Go, Protocol, Refused, Ended, ◌∙◌, reply_line}
use Rattle.srcp_core.proofs.Agreement.NumbersAndKeys.{look_with, look_push, opened}
use Rattle.srcp_info.specs.declared.change.Reply.TheVariants.{Mode as ModeReply}
use Rattle.srcp_rules.specs.Steps.{effect}
use Rattle.srcp_core.proofs.Invariants.LinesAsk.{OfAnswers, acts_law}

-- the connection of that number is open, and that it is no information session and did not end
abbrev pub IsUp : ℕ → World → Type 0
IsUp n w = (conn : Connection) → numbered n w.connections ≡ Some conn → conn.shut ≡ None

abbrev pub IsPlain : ℕ → World → Type 0
IsPlain n w = (conn : Connection) → numbered n w.connections ≡ Some conn
    → (conn.info ≡ false) × (conn.shut ≡ None) × (conn.ended ≡ false)

-- the connection of a number after a change of one
pub numbered_after : (P : Connection → Type 0) (n k : ℕ) (change : Connection → Connection) (conns : List Connection) (conn : Connection)
    → numbered k (with_numbered n change conns) ≡ Some conn → ((other : Connection) → numbered k conns ≡ Some other → P other)
    → ((other : Connection) → numbered n conns ≡ Some other → P other → P (change other)) → P conn
numbered_after P n k change conns conn e f g =
    let s = look_with k n change conns conn e in
    let p = f s.x s.there in
    ⊎_elim (λ h. subst P (sym h.1) p) (λ h. subst P (sym h.1) (g s.x (cc (h.0, s.there)) p)) s.from

-- after one more
pub numbered_more : (P : Connection → Type 0) (k : ℕ) (conns : List Connection) (x conn : Connection)
    → numbered k (conns ++ x ∷ []) ≡ Some conn → ((other : Connection) → numbered k conns ≡ Some other → P other) → P x → P conn
numbered_more P k conns x conn e f p = ⊎_elim (f conn) (λ h. subst P (sym h) p) (look_push k conns x conn e)

-- a law of worlds is kept by each thing that the answer to a line of that connection does
pub record IsAnswered (buses : List Bus) (n : ℕ) (W : World → Type 0) : Type 0 where
  pub step : (step : Step) (w : World) → W w → W (did step w)
  pub numbers : (id : ℕ) (w : World) → W w → W (record w { last_id = id })
  -- only an open connection that is no information session is replied to, or chooses, enters or ends
  pub says : (mode : Connection → Mode) (ends : Connection → Bool) (w : World) → IsPlain n w → W w
      → W (at_connection n (λ c. record c { mode = mode c; ended = ends c }) w)
  pub answers : (reply : Reply) (w : World) → IsPlain n w → W w → W (replied n reply w)
  pub enters : (id : ℕ) (reply : Reply) (w : World) → IsPlain n w → W w → W (replied n reply (entered buses n id w))

-- and by each event
pub record IsKept (buses : List Bus) (W : World → Type 0) : Type 0 where
  pub lines : (n : ℕ) → IsAnswered buses n W
  -- it asks for the steps and the connections alone
  pub other : (w v : World) → W w → W (record v { steps = w.steps; connections = w.connections })
  pub opens : (w : World) → W w → W (record w { connections = w.connections ++ fresh ∷ [] })
  pub feeds : (n : ℕ) (bytes : List ℕ) (w : World) → W w → W (at_connection n (λ c. record c { fed = c.fed ++ bytes }) w)
  pub shuts : (n : ℕ) (w : World) → IsUp n w → W w → W (at_connection n (λ c. record c { shut = Some (length w.steps) }) w)
  pub room : (n bytes : ℕ) (w : World) → IsUp n w → W w → W (accepted buses (Room n bytes) w)

module _ (buses : List Bus) (n : ℕ) (W : World → Type 0) (kept : IsAnswered buses n W) where
  kept_answered_as : (o : Option Connection) (line : Heard) (w : World)
      → ((conn : Connection) → o ≡ Some conn → (numbered n w.connections ≡ Some conn) × (conn.shut ≡ None)) → W w
      → W (answered_as buses n o line w)
  kept_answered_as None line w here a = a
  kept_answered_as (Some conn) line w here a =
      acts_law (λ all. W (fold (act buses n) w all)) line.granted a (λ info goes_on. each (plain info goes_on))
    where
      plain : conn.info ≡ false → conn.ended ≡ false → IsPlain n w
      plain info goes_on other there =
          let same : conn ≡ other = let e = (here conn refl).0 in cc in
          rw (← same) (info, (here conn refl).1, goes_on)

      -- it stays so where a reply or a mode is all that changes
      still : (f : Connection → Connection) (v : World)
          → ((c : Connection) → ((f c).info ≡ c.info) × ((f c).shut ≡ c.shut) × ((f c).ended ≡ c.ended)) → IsPlain n v
          → IsPlain n (at_connection n f v)
      still f v law free other there =
          numbered_after _ n n f v.connections other there free
          (λ c here p. let l = law c in (l.0 ∙ p.0, l.1 ∙ p.1, l.2 ∙ p.2))

      each : IsPlain n w
          → OfAnswers (λ all. W (fold (act buses n) w all)) buses (state buses w) w.last_id w.moment conn.session conn.mode line.mark
      each free = record {
        speaks = kept.answers Protocol w free a;
        chooses = λ chosen.
            kept.answers ModeReply (at_connection n (λ c. record c { mode = chosen }) w)
            (still (λ c. record c { mode = chosen }) w (λ c. (refl, refl, refl)) free) (kept.says (λ c. chosen) (λ c. c.ended) w free a);
        refuses = λ code. kept.answers (Refused code) w free a;
        begins = λ goes left.
            let next : World = record w { last_id = w.last_id + 1 } in
            let begins = Began (w.last_id + 1) w.moment conn.mode in
            kept.enters (w.last_id + 1) (Go (w.last_id + 1)) (did begins next) free
            (kept.step begins next (kept.numbers (w.last_id + 1) w a));
        obeys = λ order began reads.
            let step = Obeyed conn.session w.moment order in
            let reply = (effect (state buses w) conn.session w.moment order).reply in
            let answer = kept.answers reply (did step w) free (kept.step step w a) in (
              answer,
              kept.step (Ended conn.session w.moment) _
                  (kept.says (λ c. c.mode) (λ c. true) (replied n reply (did step w))
                  (still (λ c. record c { out = c.out ++ reply_line w.moment reply }) (did step w) (λ c. (refl, refl, refl)) free) answer),
            );
      }

  pub kept_answered : (line : Heard) (w : World) → W w → W (answered buses n w line)
  kept_answered line w a = kept_answered_as (open_connection w n) line w (opened (numbered n w.connections)) a

  pub kept_lines : (lines : List Heard) (w : World) → W w → W (fold (answered buses n) w lines)
  kept_lines [] w a = a
  kept_lines (line ∷ lines) w a = kept_lines lines _ (kept_answered line w a)

  -- a hang-up, by what the connection is that is shut
  pub kept_shut : (o : Option Connection) (w : World) → W w
      → ((conn : Connection) → o ≡ Some conn → W (at_connection n (λ c. record c { shut = Some (length w.steps) }) w))
      → W (shut_as buses n o w)
  kept_shut None w a b = a
  kept_shut (Some conn) w a b = cond_both _ _ _ W (λ t. b conn refl) (λ t. kept.step _ _ (b conn refl))

  pub kept_fed : (piece : Piece) (o : Option Connection) (w : World) → W w
      → W (at_connection n (λ c. record c { fed = c.fed ++ piece.bytes }) w) → W (fed_to buses n piece o w)
  kept_fed piece None w a b = a
  kept_fed piece (Some conn) w a b = kept_lines (new_lines buses conn.fed piece) _ b

-- an open connection of the number
up_at : (n : ℕ) (w : World) (conn : Connection) → open_connection w n ≡ Some conn → IsUp n w
up_at n w conn e other there =
    let f = opened _ conn e in
    let same : conn ≡ other = let p = f.0 in cc in
    rw (← same) f.1

module _ (buses : List Bus) (W : World → Type 0) (kept : IsKept buses W) where
  kept_accepted : (event : Event) (w : World) → fault buses w event ≡ None → W w → W (accepted buses event w)
  kept_accepted (Open granted) w free a = kept.opens w a
  kept_accepted (Bytes n piece) w free a =
      kept_fed buses n W (kept.lines n) piece (open_connection w n) w a (kept.feeds n piece.bytes w a)
  kept_accepted (Room n bytes) w free a = kept.room n bytes w (by _ refl free) a
    where
      by : (o : Option Connection) → open_connection w n ≡ o → absent_fault buses o ≡ None → IsUp n w
      by None e free = cc
      by (Some conn) e free = up_at n w conn e
  kept_accepted (At moment) w free a =
      let next : World = record w { moment = max w.moment moment } in
      (kept.lines 0).step _ next (kept.other w next a)
  kept_accepted (Shut n) w free a =
      kept_shut buses n W (kept.lines n) (open_connection w n) w a (λ conn e. kept.shuts n w (up_at n w conn e) a)

  kept_happens : (w : World) (event : Event) → W w → W (happens buses w event)
  kept_happens w event a = by _ refl
    where
      by : (o : Option CoreFault) → fault buses (counted w) event ≡ o → W (or_refused buses o event (counted w))
      by None e = kept_accepted event _ e (kept.other w (counted w) a)
      by (Some cause) e = kept.other w (or_refused buses (Some cause) event (counted w)) a

  -- so every event keeps it
  pub kept_all : (events : List Event) (w : World) → W w → W (fold (happens buses) w events)
  kept_all [] w a = a
  kept_all (event ∷ events) w a = kept_all events _ (kept_happens w event a)
