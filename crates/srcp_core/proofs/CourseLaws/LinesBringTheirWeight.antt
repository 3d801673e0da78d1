-- What later events bring is at most what their lines weigh, beside what moments and the ends of sessions bring.
use Rattle.srcp_rules.specs.Steps.{stepped, effect}
use Rattle.srcp_core.proofs.Names.{◌≡◌, ℕ, ◌+◌, ◌≤◌, Bool, true, false, List, [], ◌∷◌, ◌++◌, map, length, drop, refl, ap, sym, ◌∙◌, arith}
use Rattle.srcp_core.proofs.Names.{append-nil, append_assoc, length-append, length-map, option_map_or, fold-append, sum_by-cons, fold}
use Rattle.srcp_core.proofs.Names.{flat_map, codes, ◌==◌, ◌||◌, ◌&&◌, Option, Some, None, if◌then◌else◌, Ok, Change, Info, Bus, State}
use Rattle.srcp_core.proofs.Names.{Update, opening, Mark, Line, TooLong, Connection, World, start, at_connection, open_connection, did}
use Rattle.srcp_core.proofs.Names.{counted, state, history, history_from, state_after, updates_of, command_of, answered_as, answered}
use Rattle.srcp_core.proofs.Names.{new_marks, fed_to, shut_as, accepted, or_refused, happens, course, Greeting, Speaks, Chooses, Goes}
use Rattle.srcp_core.proofs.Names.{Refuses, IsLayout, Event, Open, Bytes, Room, At, Shut, Piece, Step, Obeyed, Began, Moment, Ended, Heard}
use Rattle.srcp_core.proofs.Names.{Order, greets, lines_under, brought, IsOverrun, CoreFault, changes_left, cond_both, act}
use Rattle.std.proofs.Math.Seq.{drop-append_seam}
use Rattle.std.specs.List.{sum_by}
use Rattle.std.specs.Prelude.{max}
use Rattle.srcp_info.specs.declared.change.Code.TheVariants.{C400, C401, C410}
use Rattle.srcp_info.specs.declared.value.Mode.TheVariants.{Command as CommandMode}
use Rattle.srcp_core.specs.Handshake.{greets_mode, greets_protocol, greets_words, is_version}
use Rattle.srcp_text.specs.Words.{words_of, is_keyword}
use Rattle.srcp_core.specs.Waits.{brought_besides, completed, due_and_freed, may_bring, slack, weighs, weight_of_mark}
use Rattle.srcp_grammar.specs.Weight.{weight}
use Rattle.srcp_rules.proofs.WeightLaws.{line_weighs, go_weighs_one}
use Rattle.srcp_rules.proofs.EachStepLaws.{effect_law}
use Rattle.srcp_core.proofs.CourseLaws.ShownRegistry.{history_append, length_history}
use Rattle.srcp_core.proofs.CourseLaws.WaitsGrow.{few_close_none}
use Rattle.srcp_core.proofs.Invariants.LinesAsk.{acts_law}

-- how many changes the steps bring, from a registry on
abbrev changes : State → List Step → ℕ
changes s [] = 0
changes s (step ∷ steps) = length (updates_of s step) + changes (stepped s step) steps

changes-append : (s : State) (xs ys : List Step) → changes s (xs ++ ys) ≡ changes s xs + changes (state_after s xs) ys
changes-append s [] ys = let e : 0 + changes s ys ≡ changes s ys = omega arith in sym e
changes-append s (x ∷ xs) ys = let ih = changes-append (stepped s x) xs ys in omega arith

due_and_freed-append : (s : State) (xs ys : List Step)
    → due_and_freed s (xs ++ ys) ≡ due_and_freed s xs + due_and_freed (state_after s xs) ys
due_and_freed-append s [] ys = let e : 0 + due_and_freed s ys ≡ due_and_freed s ys = omega arith in sym e
due_and_freed-append s (x ∷ xs) ys = let ih = due_and_freed-append (stepped s x) xs ys in omega arith

-- they are those of the history
in_history : (s : State) (steps : List Step)
    → length (flat_map (λ (changes : List Change). changes) (history_from s steps)) ≡ changes s steps
in_history s [] = refl
in_history s (step ∷ steps) =
    let ih = in_history (stepped s step) steps in
    let both = length-append (map (λ update. update.change) (updates_of s step))
    (flat_map (λ (changes : List Change). changes) (history_from (stepped s step) steps)) in
    let these = length-map (updates_of s step) (λ (update : Update). update.change) in
    omega arith

-- ---- GO

-- what a line before the session brings
abbrev brings : Greeting → ℕ
brings Speaks = 0
brings (Chooses mode) = 0
brings Goes = 1
brings (Refuses code) = 0

protocol_brings : (words : List (List ℕ)) → brings (greets_protocol words) ≡ 0
protocol_brings [] = refl
protocol_brings (name ∷ []) = refl
protocol_brings (name ∷ version ∷ []) =
    cond_both (is_keyword (codes "SRCP") name && is_version version) Speaks (Refuses C400) (λ g. brings g ≡ 0) (λ _. refl) (λ _. refl)
protocol_brings (name ∷ version ∷ more ∷ words) = refl

mode_brings : (words : List (List ℕ)) → brings (greets_mode words) ≡ 0
mode_brings [] = refl
mode_brings (name ∷ []) = refl
mode_brings (name ∷ mode ∷ []) = by _ _ _
  where
    by : (s c i : Bool)
        → brings (if s then (if c then Chooses CommandMode else (if i then Chooses Info else Refuses C401)) else Refuses C401) ≡ 0
    by true true i = refl
    by true false true = refl
    by true false false = refl
    by false c i = refl
mode_brings (name ∷ mode ∷ more ∷ words) = refl

-- ---- worlds

module _ (buses : List Bus) where
  -- a world that comes of another by more steps, which bring at most that number of changes beside moments and ends
  record ComesOf (most : ℕ) (w later : World) : Type 0 where
    steps : List Step
    longer : later.steps ≡ w.steps ++ steps
    few : changes (state buses w) steps ≤ most + due_and_freed (state buses w) steps

  same : (w later : World) → later.steps ≡ w.steps → ComesOf 0 w later
  same w later e = record { steps = []; longer = e ∙ sym (append-nil w.steps); few = omega arith }

  more : (a b : ℕ) (w v later : World) → ComesOf a w v → ComesOf b v later → ComesOf (a + b) w later
  more a b w v later f g = record {
    steps = f.steps ++ g.steps;
    longer = cc (g.longer, f.longer, append_assoc w.steps f.steps g.steps);
    few =
        let few = f.few in
        let after : state buses v ≡ state_after (state buses w) f.steps = cc (f.longer, fold-append stepped _ w.steps f.steps) in
        let further = rw after at g.few in
        let all = changes-append (state buses w) f.steps g.steps in
        let besides = due_and_freed-append (state buses w) f.steps g.steps in
        omega arith;
  }

  within : (a b : ℕ) (w later : World) → a ≤ b → ComesOf a w later → ComesOf b w later
  within a b w later h f = record { steps = f.steps; longer = f.longer; few = let few = f.few in omega arith }

  -- no steps are within any number
  idle : (most : ℕ) (w later : World) → later.steps ≡ w.steps → ComesOf most w later
  idle most w later e = within 0 most w later (omega arith) (same w later e)

  -- ---- lines

  module _ (layout : IsLayout buses) where
    words_bring : (text : List ℕ) (words : List (List ℕ)) → words_of text ≡ words → brings (greets_words words) ≤ weight text
    words_bring text [] e = omega arith
    words_bring text (word ∷ []) e = by _ refl
      where
        by : (t : Bool) → is_keyword (codes "GO") word ≡ t → brings (if t then Goes else Refuses C410) ≤ weight text
        by true t = let one = go_weighs_one text word [] e t in omega arith
        by false t = omega arith
    words_bring text (word ∷ what ∷ words) e =
        by (is_keyword (codes "SET") word) (is_keyword (codes "PROTOCOL") what) (is_keyword (codes "CONNECTIONMODE") what)
      where
        by : (s p m : Bool)
            → brings (if s then (if p then greets_protocol words else (if m then greets_mode words else Refuses C410)) else Refuses C410)
            ≤ weight text
        by true true m = let none = protocol_brings words in omega arith
        by true false true = let none = mode_brings words in omega arith
        by true false false = omega arith
        by false p m = omega arith

    brings_enough : (mark : Mark) → brings (greets mark) ≤ weight_of_mark mark
    brings_enough TooLong = omega arith
    brings_enough (Line text) = words_bring text _ refl

    reading_enough : (mark : Mark) (session : ℕ) (order : Order) (w : World) → command_of buses mark ≡ Ok order.command
        → length (effect (state buses w) session w.moment order).updates ≤ weight_of_mark mark
    reading_enough TooLong session order w e = cc
    reading_enough (Line text) session order w e =
        effect_law (λ e. length e.updates ≤ weight text) (state buses w) session w.moment order
        (line_weighs buses (state buses w) session w.moment text order.command layout e) (omega arith)

    comes_answered : (n : ℕ) (o : Option Connection) (line : Heard) (w : World)
        → ComesOf (weight_of_mark line.mark) w (answered_as buses n o line w)
    comes_answered n None line w = idle _ w w refl
    comes_answered n (Some conn) line w =
        acts_law (λ all. ComesOf (weight_of_mark line.mark) w (fold (act buses n) w all)) line.granted {buses = buses}
        {state = state buses w} {moment = w.moment} {info = conn.info} {ended = conn.ended} {mark = line.mark} (idle _ w w refl)
        (λ plain goes_on. record {
          speaks = idle _ w _ refl;
          chooses = λ chosen. idle _ w _ refl;
          refuses = λ code. idle _ w _ refl;
          begins = λ goes left.
              let one = ap brings goes in
              let enough = brings_enough line.mark in
              record { steps = Began (w.last_id + 1) w.moment conn.mode ∷ []; longer = refl; few = omega arith };
          obeys = λ order began reads.
              let enough = reading_enough line.mark conn.session order w reads in
              let step = Obeyed conn.session w.moment order in (
                record { steps = step ∷ []; longer = refl; few = omega arith },
                record { steps = step ∷ Ended conn.session w.moment ∷ []; longer = append_assoc w.steps _ _; few = omega arith },
              );
        })

    comes_line : (n : ℕ) (granted : Bool) (grants : List Bool) (mark : Mark) (marks : List Mark) (w : World)
        → ((w : World) → ComesOf (sum_by weight_of_mark marks) w (fold (answered buses n) w (lines_under grants marks)))
        → ComesOf (sum_by weight_of_mark (mark ∷ marks)) w
        (fold (answered buses n) w (record { mark = mark; granted = granted } ∷ lines_under grants marks))
    comes_line n granted grants mark marks w rest =
        let line : Heard = record { mark = mark; granted = granted } in
        let next : World = answered buses n w line in
        let later : World = fold (answered buses n) next (lines_under grants marks) in
        rw (sum_by-cons _ mark marks)
        (more _ _ w next later (comes_answered n (open_connection w n) line w) (rest next))

    comes_lines : (n : ℕ) (grants : List Bool) (marks : List Mark) (w : World)
        → ComesOf (sum_by weight_of_mark marks) w (fold (answered buses n) w (lines_under grants marks))
    comes_lines n grants [] w = same w w refl
    comes_lines n [] (mark ∷ marks) w = comes_line n true [] mark marks w (comes_lines n [] marks)
    comes_lines n (granted ∷ grants) (mark ∷ marks) w = comes_line n granted grants mark marks w (comes_lines n grants marks)

    -- ---- events

    comes_fed : (n : ℕ) (piece : Piece) (o : Option Connection) (w : World)
        → ComesOf (sum_by weight_of_mark (option_map_or (λ conn. new_marks buses conn.fed piece.bytes) o [])) w (fed_to buses n piece o w)
    comes_fed n piece None w = same w w refl
    comes_fed n piece (Some conn) w =
        let f = comes_lines n piece.grants (new_marks buses conn.fed piece.bytes) fed in
        record { steps = f.steps; longer = f.longer; few = f.few }
      where
        fed : World
        fed = at_connection n (λ c. record c { fed = c.fed ++ piece.bytes }) w

    comes_shut : (n : ℕ) (o : Option Connection) (w : World) → ComesOf 0 w (shut_as buses n o w)
    comes_shut n None w = same w w refl
    comes_shut n (Some conn) w =
        cond_both ((conn.session == 0) || conn.ended) shut (did (Ended conn.session w.moment) shut) (ComesOf 0 w) (λ _. same w shut refl)
        (λ _. record { steps = Ended conn.session w.moment ∷ []; longer = refl; few = omega arith })
      where
        shut : World
        shut = at_connection n (λ c. record c { shut = Some (length w.steps) }) w

    comes_accepted : (event : Event) (w : World) → ComesOf (sum_by weight_of_mark (completed buses w event)) w (accepted buses event w)
    comes_accepted (Open granted) w = same w (accepted buses (Open granted) w) refl
    comes_accepted (Bytes n piece) w = comes_fed n piece (open_connection w n) w
    comes_accepted (Room n bytes) w = same w (accepted buses (Room n bytes) w) refl
    comes_accepted (At moment) w = record { steps = Moment (max w.moment moment) ∷ []; longer = refl; few = omega arith }
    comes_accepted (Shut n) w = comes_shut n (open_connection w n) w

    comes_happens : (w : World) (event : Event) → ComesOf (sum_by weight_of_mark (completed buses w event)) w (happens buses w event)
    comes_happens w event = by _
      where
        by : (o : Option CoreFault) → ComesOf (sum_by weight_of_mark (completed buses w event)) w (or_refused buses o event (counted w))
        by None = let c = comes_accepted event _ in record { steps = c.steps; longer = c.longer; few = c.few }
        by (Some cause) = idle _ w _ refl

    comes_all : (events : List Event) (w : World) → ComesOf (weighs buses w events) w (fold (happens buses) w events)
    comes_all [] w = same w w refl
    comes_all (event ∷ events) w =
        let next : World = happens buses w event in
        more (sum_by weight_of_mark (completed buses w event)) (weighs buses next events) w next (fold (happens buses) next events)
        (comes_happens w event) (comes_all events next)

    -- ---- of every course

    pub lines_bring : (events more : List Event) → brought buses events more ≤ may_bring buses events more
    lines_bring events more =
        rw is (rw rest c.few)
      where
        w : World
        w = course buses events

        later : World
        later = course buses (events ++ more)

        c : ComesOf (weighs buses w more) w (fold (happens buses) w more)
        c = comes_all more w

        longer : later.steps ≡ w.steps ++ c.steps
        longer = cc (fold-append _ start events more, c.longer)

        -- the later steps, and their history
        rest : brought_besides buses w later ≡ due_and_freed (state buses w) c.steps
        rest = ap (due_and_freed (state buses w)) (ap (drop (length w.steps)) longer ∙ drop-append_seam w.steps c.steps)

        told : drop (length w.steps) (history buses later) ≡ history_from (state buses w) c.steps
        told = cc (
          longer,
          history_append (opening buses 0) w.steps c.steps,
          length_history (opening buses 0) w.steps,
          drop-append_seam (history buses w) (history_from (state buses w) c.steps),
        )

        is : brought buses events more ≡ changes (state buses w) c.steps
        is = ap (λ h. length (flat_map (λ (changes : List Change). changes) h)) told ∙ in_history _ c.steps

    pub light_lines : (events more : List Event) → may_bring buses events more ≤ changes_left (slack buses (course buses events))
        → (number : ℕ) (later : Connection) → IsOverrun buses (course buses (events ++ more)) number later
        → (conn : Connection) × IsOverrun buses (course buses events) number conn
    light_lines events more few number later over =
        let bring = lines_bring events more in
        let low : brought buses events more ≤ changes_left (slack buses (course buses events)) = omega arith in
        few_close_none buses events more low number later over
