-- A lending tells nothing: a world goes on alike whatever the numbers of its events, and two rooms are one.
use Rattle.srcp_serve.proofs.Names.{◌≡◌, ◌∙◌, ℕ, zero, suc, Bool, true, false, if◌then◌else◌, List, [], ◌∷◌, ◌++◌, refl, ap, sym, arith}
use Rattle.srcp_serve.proofs.Names.{fold, fold-append, Option, Some, None, eqb-true, ◌⊎◌, inl, inr, length, ◌+◌, Bus, IsLayout, Event}
use Rattle.srcp_serve.proofs.Names.{Open, Bytes, Room, At, Shut, Heard, Piece, World, Connection, start, course, happens, counted, fault}
use Rattle.srcp_serve.proofs.Names.{or_refused, open_connection, at_connection, answered, fed_to, shut_as, did, new_lines, state}
use Rattle.srcp_serve.proofs.Names.{CoreFault}
use Rattle.srcp_core.specs.Acts.{Act, Says, Sets, Begins, Obeys, Ends, acts}
use Rattle.srcp_core.specs.Course.{accepted, act, asked}
use Rattle.srcp_core.specs.Laws.{without_events}
use Rattle.srcp_core.specs.declared.record.Refusal.{Refusal}
use Rattle.srcp_core.proofs.Agreement.NothingIsLent.{accepts_and_lends}
use Rattle.srcp_rules.specs.Steps.{Ended}
use Rattle.srcp_serve.specs.Lendings.{LendingsTellNothing, is_lending, without_lendings, without_numbers}

-- other numbers
abbrev numbers : List Refusal → ℕ → World → World
numbers refs evs w = record w { refused = refs; events = evs }

module _ (buses : List Bus) (n : ℕ) (refs : List Refusal) (evs : ℕ) where
  same_act : (does : Act) (w : World) → act buses n (numbers refs evs w) does ≡ numbers refs evs (act buses n w does)
  same_act (Says reply) w = refl
  same_act (Sets mode) w = refl
  same_act (Begins id mode) w = refl
  same_act (Obeys session order) w = refl
  same_act (Ends session) w = refl

  same_acts : (all : List Act) (w : World) → fold (act buses n) (numbers refs evs w) all ≡ numbers refs evs (fold (act buses n) w all)
  same_acts [] w = refl
  same_acts (does ∷ all) w = ap (λ v. fold (act buses n) v all) (same_act does w) ∙ same_acts all (act buses n w does)

  same_lines : (lines : List Heard) (w : World)
      → fold (answered buses n) (numbers refs evs w) lines ≡ numbers refs evs (fold (answered buses n) w lines)
  same_lines [] w = refl
  same_lines (line ∷ lines) w =
      ap (λ v. fold (answered buses n) v lines)
      (same_acts (acts (state buses w) w.last_id w.moment line.granted (asked buses (open_connection w n) line.mark)) w)
      ∙ same_lines lines (answered buses n w line)

  same_fed : (piece : Piece) (o : Option Connection) (w : World)
      → fed_to buses n piece o (numbers refs evs w) ≡ numbers refs evs (fed_to buses n piece o w)
  same_fed piece None w = refl
  same_fed piece (Some conn) w =
      same_lines (new_lines buses conn.fed piece) (at_connection n (λ c. record c { fed = c.fed ++ piece.bytes }) w)

  same_shut : (o : Option Connection) (w : World) → shut_as buses n o (numbers refs evs w) ≡ numbers refs evs (shut_as buses n o w)
  same_shut None w = refl
  same_shut (Some conn) w = by _
    where
      closed : World
      closed = at_connection n (λ c. record c { shut = Some (length w.steps) }) w

      by : (t : Bool) → (if t then numbers refs evs closed else did (Ended conn.session w.moment) (numbers refs evs closed))
          ≡ numbers refs evs (if t then closed else did (Ended conn.session w.moment) closed)
      by true = refl
      by false = refl

module _ (buses : List Bus) where
  same_accepted : (event : Event) (refs : List Refusal) (evs : ℕ) (w : World)
      → accepted buses event (numbers refs evs w) ≡ numbers refs evs (accepted buses event w)
  same_accepted (Open granted) refs evs w = refl
  same_accepted (Bytes n piece) refs evs w = same_fed buses n refs evs piece (open_connection w n) w
  same_accepted (Room n bytes) refs evs w = refl
  same_accepted (At moment) refs evs w = refl
  same_accepted (Shut n) refs evs w = same_shut buses n refs evs (open_connection w n) w

  -- an event does the same whatever the numbers
  same_then : (o : Option CoreFault) (event : Event) (w : World)
      → without_numbers (or_refused buses o event (counted w)) ≡ without_numbers (or_refused buses o event (counted (without_numbers w)))
  same_then (Some cause) event w = refl
  same_then None event w =
      ap without_numbers (same_accepted event w.refused (w.events + 1) w)
      ∙ sym (ap without_numbers (same_accepted event [] 1 w))

  goes_alike : (event : Event) (v w : World) → without_numbers v ≡ without_numbers w
      → without_numbers (happens buses v event) ≡ without_numbers (happens buses w event)
  goes_alike event v w e =
      same_then (fault buses (counted v) event) event v
      ∙ ap (λ u. without_numbers (happens buses u event)) e
      ∙ sym (same_then (fault buses (counted w) event) event w)

  -- a lending and the room behind it are that room
  one_room : IsLayout buses → (first : List Event) (n bytes : ℕ)
      → without_numbers (happens buses (happens buses (course buses first) (Room n 0)) (Room n (suc bytes)))
      ≡ without_numbers (happens buses (course buses first) (Room n (suc bytes)))
  one_room layout first n bytes = by (open_connection (course buses first) n) refl
    where
      w : World
      w = course buses first

      by : (o : Option Connection) → open_connection w n ≡ o
          → without_numbers (happens buses (happens buses w (Room n 0)) (Room n (suc bytes)))
          ≡ without_numbers (happens buses w (Room n (suc bytes)))
      by (Some conn) e =
          let one = (accepts_and_lends buses).lent_and_sent layout first n (suc bytes) (rw e refl) (omega arith) in
          ap (λ (v : World). record v { refused = [] }) (rw (fold-append, fold-append) at one)
      by None e = rw (e, e) refl

  -- what was lent is taken next
  record IsLent (first events : List Event) (v : World) : Type 0 where
    n : ℕ
    bytes : ℕ
    rest : List Event
    before : List Event
    next : events ≡ Room n (suc bytes) ∷ rest
    lends : first ≡ before ++ Room n 0 ∷ []
    alike : without_numbers (course buses before) ≡ without_numbers v

  lent_next : (first : List Event) (event : Event) (events : List Event) (v : World) → is_lending event events ≡ true
      → without_numbers (course buses first) ≡ without_numbers v → IsLent (first ++ event ∷ []) events v
  lent_next first (Room n zero) (Room m (suc bytes) ∷ rest) v e alike =
      let same : n ≡ m = eqb-true n m e in
      record { n = n; bytes = bytes; rest = rest; before = first; next = rw same refl; lends = refl; alike = alike }
  lent_next first event events v e alike = cc

  next : (first : List Event) (event : Event) → course buses (first ++ event ∷ []) ≡ happens buses (course buses first) event
  next first event = fold-append (happens buses) start first (event ∷ [])

  -- what was lent is taken
  taken_alike : IsLayout buses → (first events : List Event) (event : Event) (v : World) (b : IsLent first (event ∷ events) v)
      → (is_lending event events ≡ false)
      × (without_numbers (course buses (first ++ event ∷ [])) ≡ without_numbers (happens buses v event))
  taken_alike layout first events event v b =
      let is_room : event ≡ Room b.n (suc b.bytes) = let e = b.next in cc in
      let lent : course buses first ≡ happens buses (course buses b.before) (Room b.n 0) =
      ap (course buses) b.lends ∙ next b.before (Room b.n 0) in
      let alike : without_numbers (happens buses (course buses first) (Room b.n (suc b.bytes)))
      ≡ without_numbers (happens buses v (Room b.n (suc b.bytes))) =
      ap (λ w. without_numbers (happens buses w (Room b.n (suc b.bytes)))) lent
      ∙ one_room layout b.before b.n b.bytes ∙ goes_alike (Room b.n (suc b.bytes)) (course buses b.before) v b.alike in
      (rw is_room refl, ap without_numbers (next first event) ∙ rw is_room alike)

  goes_on : IsLayout buses → (first events : List Event) (v : World)
      → (without_numbers (course buses first) ≡ without_numbers v) ⊎ IsLent first events v
      → without_numbers (fold (happens buses) (course buses first) events)
      ≡ without_numbers (fold (happens buses) v (without_lendings events))
  goes_on layout first [] v (inl e) = e
  goes_on layout first [] v (inr b) = let no = b.next in cc
  goes_on layout first (event ∷ events) v (inl e) =
      by (is_lending event events) refl (goes_on layout (first ++ event ∷ []) events)
    where
      grown : List Event
      grown = first ++ event ∷ []

      by : (t : Bool) → is_lending event events ≡ t
          → ((u : World) → (without_numbers (course buses grown) ≡ without_numbers u) ⊎ IsLent grown events u
          → without_numbers (fold (happens buses) (course buses grown) events)
          ≡ without_numbers (fold (happens buses) u (without_lendings events)))
          → without_numbers (fold (happens buses) (happens buses (course buses first) event) events)
          ≡ without_numbers (fold (happens buses) v (if t then without_lendings events else event ∷ without_lendings events))
      by true lending later = rw next at (later v (inr (lent_next first event events v lending e)))
      by false plain later =
          rw next at (later (happens buses v event) (inl (rw next (goes_alike event (course buses first) v e))))
  goes_on layout first (event ∷ events) v (inr b) =
      let t = taken_alike layout first events event v b in
      rw t.0 (rw next at (goes_on layout (first ++ event ∷ []) events (happens buses v event) (inl t.1)))

  pub lendings_tell_nothing : LendingsTellNothing buses
  lendings_tell_nothing layout events = goes_on layout [] events start (inl refl)
