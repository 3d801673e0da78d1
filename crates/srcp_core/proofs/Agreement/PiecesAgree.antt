-- A core that stands for a course takes a piece as the course does.
use Rattle.srcp_core.proofs.Names.{◌≡◌, ◌≢◌, ℕ, ◌+◌, ◌<◌, ◌≤◌, Bool, true, List, [], ◌∷◌, ◌++◌, take, drop, length, refl, ap, sym, ◌∙◌}
use Rattle.srcp_core.proofs.Names.{subst, arith, append-nil, length-append, drop_all, fold-append, none-some, le_refl, fold, option_map}
use Rattle.srcp_core.proofs.Names.{Option, Some, None, ◌==◌, slice_set, if◌then◌else◌, Mark, Line, TooLong, Reading, StandsAt, Bus, opening}
use Rattle.srcp_core.proofs.Names.{shown_rows, key_at, IsRisingBy, Heard, lines_under, Connection, World, numbered, at_connection, history}
use Rattle.srcp_core.proofs.Names.{entered, new_marks, denied_lines, Place, Held, at, place_at, request_of, next_request_from}
use Rattle.srcp_core.proofs.Names.{next_request_at, line_answered, steps_of_line, steps_answered, Recording, key_of, noted, StandsBy}
use Rattle.srcp_core.proofs.Names.{StandsFor, place_of, Request, IsAt, is_open, ne_eqb}
use Rattle.std.proofs.lemmas.Bool.{eq-eqb}
use Rattle.std.specs.Prelude.{slice_range}
use Rattle.srcp_text.specs.Marks.{marks}
use Rattle.srcp_text.specs.Feeding.{feed_of}
use Rattle.srcp_text.specs.declared.reader.Fed.{Fed}
use Rattle.srcp_text.specs.declared.reader.Fed.TheVariants.{Line as FoundLine, TooLong as FoundTooLong, More}
use Rattle.srcp_text.proofs.ReadingLaws.{marks-fed, stands-fed, fed_to_stop, fed_to_end, later_marks}
use Rattle.srcp_core.specs.Course.{answered as course_answered}
use Rattle.srcp_core.specs.Machine.{answered}
use Rattle.srcp_core.proofs.Agreement.LinesAgree.{IsFine, stands_answered}
use Rattle.srcp_core.proofs.Agreement.RefusalsAreCounted.{after, wanted, denied_answered, denied_push, denied_none}
use Rattle.srcp_core.proofs.Invariants.PlacesCover.{Where, Here, Away, where_is, place_set_here}
use Rattle.srcp_core.proofs.Agreement.MemoryAnswers.{lines_push}
use Rattle.srcp_core.proofs.Agreement.LinesAreNoted.{Records, tells_answered}
use Rattle.srcp_core.proofs.CourseLaws.SessionsOfACourse.{anything}
use Rattle.srcp_core.proofs.Agreement.NumbersAndKeys.{numbered_with, with_itself}
use Rattle.srcp_core.proofs.Agreement.StandsAfterAChange.{Anything, found_at, stands_changed}
use Rattle.srcp_core.proofs.CourseLaws.SessionsAreKept.{sound_answered, sound_at}
use Rattle.srcp_core.proofs.CourseLaws.EventsKeep.{IsAnswered, kept_answered}
use Rattle.std.proofs.lemmas.List.{set-get_or}

-- ---- the bytes that were accepted

abbrev pub fed_of : ℕ → World → Option (List ℕ)
fed_of n w = option_map (λ (c : Connection). c.fed) (numbered n w.connections)

-- ---- the reader alone

-- of a number these bytes were read, of the others all
abbrev pub partly : ℕ → List ℕ → ℕ → List ℕ → List ℕ
partly n bytes m fed = if m == n then bytes else fed

partly_here : (n : ℕ) (bytes fed : List ℕ) → partly n bytes n fed ≡ bytes
partly_here n bytes fed = cc (eq-eqb n n refl)

partly_other : (n m : ℕ) (bytes fed : List ℕ) → m ≢ n → partly n bytes m fed ≡ fed
partly_other n m bytes fed d = rw (ne_eqb m n d) refl

module _ (buses : List Bus) (keys : List (Option ℕ)) (n key : ℕ) (named : key_of n keys ≡ Some key) where
  -- the reader reads on
  stands_read : (read later : ℕ → List ℕ → List ℕ) (held : Held) (w : World) (p : Place) (reader : Reading)
      → StandsBy buses read keys held w → at held key ≡ Some p
      → ((conn : Connection) → numbered n w.connections ≡ Some conn → StandsAt (later n conn.fed) reader)
      → ((m : ℕ) (bytes : List ℕ) → m ≢ n → later m bytes ≡ read m bytes)
      → StandsBy buses later keys (record held { places = slice_set held.places key (Some (record p { reader = reader })) }) w
  stands_read read later held w p reader s here reads others =
      let h = found_at buses read keys held w n key s named in
      let same : place_of h.reader (history buses w) h.conn ≡ p =
      let both : Some (place_of h.reader (history buses w) h.conn) ≡ Some p = cc h.place in cc in
      subst (λ (conns : List Connection).
      StandsBy buses later keys (record held { places = slice_set held.places key (Some (record p { reader = reader })) })
      (record w { connections = conns }))
      (with_itself n _)
      (stands_changed buses read later keys held w n key h.conn (λ c. c) _ reader s named h.there h.up h.up
      (cc) (reads h.conn h.there) others)

-- ---- the accepted bytes stay while lines are answered

module _ (buses : List Bus) (n : ℕ) where
  fed_at : (f : Connection → Connection) (w : World) (o : Option (List ℕ)) → ((c : Connection) → (f c).fed ≡ c.fed) → fed_of n w ≡ o
      → fed_of n (at_connection n f w) ≡ o
  fed_at f w o law e = cc (numbered_with n f _, by _)
    where
      by : (o : Option Connection) → option_map (λ (c : Connection). c.fed) (option_map f o) ≡ option_map (λ (c : Connection). c.fed) o
      by None = refl
      by (Some c) = ap Some (law c)

  fed_kept : (o : Option (List ℕ)) → IsAnswered buses n (λ w. fed_of n w ≡ o)
  fed_kept o = record {
    step = λ step w e. e;
    numbers = λ id w e. e;
    says = λ mode ends w plain e. fed_at _ w o (λ c. refl) e;
    answers = λ reply w plain e. fed_at _ w o (λ c. refl) e;
    enters = λ id reply w plain e. fed_at _ (entered buses n id w) o (λ c. refl) (fed_at _ w o (λ c. refl) e);
  }

-- ---- the lines of a piece

-- the piece was read up to a place, and its lines up to there were answered; w is the course with all of it accepted
module _ (buses : List Bus) (order : IsRisingBy key_at (shown_rows (opening buses 0))) (keys : List (Option ℕ)) (n key : ℕ)
    (named : key_of n keys ≡ Some key) (fed piece : List ℕ) (w : World) (before : ℕ) where
  -- the lines up to a place
  abbrev pub marks_upto : ℕ → List Mark
  marks_upto start = drop (length (marks fed)) (marks (fed ++ take start piece))

  abbrev pub world_upto : List Bool → ℕ → World
  world_upto grants start = fold (course_answered buses n) w (lines_under grants (marks_upto start))

  pub record IsUpTo (grants : List Bool) (start : ℕ) (held : Held) : Type 0 where
    pub count : length grants ≡ length (marks_upto start)
    pub fine : IsFine buses order (world_upto grants start)
    pub fed_is : fed_of n (world_upto grants start) ≡ Some (fed ++ piece)
    pub stands : StandsBy buses (partly n (fed ++ take start piece)) keys held (world_upto grants start)
    pub counts : held.denied ≡ denied_lines buses n w before (lines_under grants (marks_upto start))

  -- one line more
  line_is_answered : (grants : List Bool) (granted : Bool) (start stop : ℕ) (mark : Mark) (held : Held) (p : Place) (reader : Reading)
      (r : Recording)
      → start < stop → at held key ≡ Some p
      → ((bytes : List ℕ) → StandsAt bytes p.reader → marks (bytes ++ slice_range piece start stop) ≡ marks bytes ++ mark ∷ [])
      → ((bytes : List ℕ) → StandsAt bytes p.reader → StandsAt (bytes ++ slice_range piece start stop) reader)
      → IsUpTo grants start held → Records r (world_upto grants start)
      → IsUpTo (grants ++ granted ∷ []) stop
      (answered granted key (request_of held.buses p mark)
      (record held { places = slice_set held.places key (Some (record p { reader = reader })) }))
      × Records (noted n
      (steps_answered granted (request_of held.buses p mark)
      (record held { places = slice_set held.places key (Some (record p { reader = reader })) }))
      r)
      (world_upto (grants ++ granted ∷ []) stop)
  line_is_answered grants granted start stop mark held p reader r onward here adds moves u t =
      let h = found_at buses (partly n (fed ++ take start piece)) keys held (world_upto grants start) n key u.stands named in
      let same : place_of h.reader (history buses (world_upto grants start)) h.conn ≡ p =
      let both : Some (place_of h.reader (history buses (world_upto grants start)) h.conn) ≡ Some p = cc h.place in cc in
      let its : h.reader ≡ p.reader = cc in
      let stood : StandsAt (fed ++ take start piece) p.reader =
      rw (← its)
      (subst (λ bytes. StandsAt bytes h.reader) (partly_here n (fed ++ take start piece) h.conn.fed) h.reads) in
      let le : start ≤ stop = omega (arith, onward) in
      let both = fed_to_stop fed piece start stop (mark ∷ []) p.reader reader le adds moves stood in
      let more : marks_upto stop ≡ marks_upto start ++ mark ∷ [] =
      later_marks fed (take start piece) (marks (fed ++ take stop piece)) (mark ∷ []) both.0 in
      let line : Heard = record { mark = mark; granted = granted } in
      let lines : lines_under (grants ++ granted ∷ []) (marks_upto stop) ≡ lines_under grants (marks_upto start) ++ line ∷ [] =
      cc (lines_push grants (marks_upto start) granted mark u.count) in
      let next : world_upto (grants ++ granted ∷ []) stop ≡ course_answered buses n (world_upto grants start) line =
      cc (fold-append (course_answered buses n) w (lines_under grants (marks_upto start)) (line ∷ [])) in
      let mid = record held { places = slice_set held.places key (Some (record p { reader = reader })) } in
      let reads : StandsBy buses (partly n (fed ++ take stop piece)) keys mid (world_upto grants start) =
      stands_read buses keys n key named (partly n (fed ++ take start piece)) (partly n (fed ++ take stop piece)) held
      (world_upto grants start) p reader u.stands here
      (λ conn e. subst (λ bytes. StandsAt bytes reader) (sym (partly_here n (fed ++ take stop piece) conn.fed)) both.1)
      (λ m bytes d. partly_other n m (fed ++ take stop piece) bytes d ∙ sym (partly_other n m (fed ++ take start piece) bytes d)) in
      let here_now : at mid key ≡ Some (record p { reader = reader }) =
      place_set_here held.places key p (Some (record p { reader = reader })) here in (
        record {
          count =
              length-append grants (granted ∷ []) ∙ ap (λ k. k + 1) u.count
              ∙ sym (ap length more ∙ length-append (marks_upto start) (mark ∷ []));
          fine =
              subst (λ (v : World). IsFine buses order v) (sym next)
              (sound_answered buses order Anything (anything (shown_rows (opening buses 0))) n (world_upto grants start) line u.fine);
          fed_is =
              ap (fed_of n) next
              ∙ kept_answered buses n _ (fed_kept buses n (Some (fed ++ piece))) line (world_upto grants start) u.fed_is;
          stands =
              subst (λ (v : World).
              StandsBy buses (partly n (fed ++ take stop piece)) keys (answered granted key (request_of held.buses p mark) mid) v)
              (sym next)
              (stands_answered buses order (partly n (fed ++ take stop piece)) keys n key named mid (world_upto grants start) granted mark
              (record p { reader = reader }) u.fine reads here_now);
          counts =
              denied_answered buses (partly n (fed ++ take stop piece)) keys n key named mid (world_upto grants start) granted mark
              (record p { reader = reader }) reads here_now
              ∙ ap (λ k. after k granted (wanted buses n (world_upto grants start) mark)) u.counts
              ∙ sym (ap (denied_lines buses n w before) lines ∙ denied_push buses n w before (lines_under grants (marks_upto start)) line);
        },
        subst (λ (v : World). Records (noted n (steps_answered granted (request_of held.buses p mark) mid) r) v) (sym next)
            (tells_answered buses order (partly n (fed ++ take stop piece)) keys n key r mid (world_upto grants start) granted mark
            (record p { reader = reader }) u.fine reads named here_now t),
      )

  -- after one more line of the piece
  pub record IsLined (grants : List Bool) (start stop : ℕ) (granted : Bool) (held new : Held) (r : Recording) : Type 0 where
    pub upto : IsUpTo (grants ++ granted ∷ []) stop new
    pub records : Records (noted n (steps_of_line granted (next_request_at key piece start held)) r)
        (world_upto (grants ++ granted ∷ []) stop)

  -- what the reader finds
  abbrev finds : Held → Place → Fed → Reading → Option (ℕ × Request) × Held
  finds held p result reading = (
    (next_request_from held.buses p (result, reading)).0,
    record held { places = slice_set held.places key (Some (next_request_from held.buses p (result, reading)).1) },
  )

  lined_at : (grants : List Bool) (start stop : ℕ) (granted : Bool) (held new : Held) (r : Recording) (p : Place) (mark : Mark) (s : ℕ)
      (reading : Reading)
      → start < stop → at held key ≡ Some p
      → ((bytes : List ℕ) → StandsAt bytes p.reader → marks (bytes ++ slice_range piece start s) ≡ marks bytes ++ mark ∷ [])
      → ((bytes : List ℕ) → StandsAt bytes p.reader → StandsAt (bytes ++ slice_range piece start s) reading)
      → ◌≡◌ {A = ℕ × Held} (stop, new) (
        s,
        answered granted key (request_of held.buses p mark)
            (record held { places = slice_set held.places key (Some (record p { reader = reading })) }),
      )
      → ◌≡◌ {A = Option (ℕ × Request) × Held} (next_request_at key piece start held)
      (Some (s, request_of held.buses p mark), record held { places = slice_set held.places key (Some (record p { reader = reading })) })
      → IsUpTo grants start held → Records r (world_upto grants start) → IsLined grants start stop granted held new r
  lined_at grants start stop granted held new r p mark s reading onward here adds moves is finding u t =
      let both =
      line_is_answered grants granted start s mark held p reading r (subst (λ k. start < k) stop_is onward) here adds moves u t in
      record {
        upto = rw stop_is (rw (ap (λ (x : ℕ × Held). x.1) is) both.0);
        records = rw stop_is (rw (ap (steps_of_line granted) finding) both.1);
      }
    where
      stop_is : stop ≡ s
      stop_is = ap (λ (x : ℕ × Held). x.0) is

  pub lined : (grants : List Bool) (start stop : ℕ) (granted : Bool) (held new : Held) (r : Recording) → start < stop
      → ◌≡◌ {A = ℕ × Held} (stop, new) (line_answered key granted (start, held) (next_request_at key piece start held))
      → IsUpTo grants start held → Records r (world_upto grants start) → IsLined grants start stop granted held new r
  lined grants start stop granted held new r onward is u t =
      let h = found_at buses _ keys held _ n key u.stands named in
      from (place_of h.reader (history buses (world_upto grants start)) h.conn) h.place
      (feed_of (place_of h.reader (history buses (world_upto grants start)) h.conn).reader piece start).0
      (feed_of (place_of h.reader (history buses (world_upto grants start)) h.conn).reader piece start).1 refl
    where
      from : (p : Place) → at held key ≡ Some p → (result : Fed) (reading : Reading)
          → ◌≡◌ {A = Fed × Reading} (feed_of p.reader piece start) (result, reading) → IsLined grants start stop granted held new r
      from p here result reading e = by result reading e
          (cc)
        where
          by : (result : Fed) (reading : Reading) → ◌≡◌ {A = Fed × Reading} (feed_of p.reader piece start) (result, reading)
              → ◌≡◌ {A = Option (ℕ × Request) × Held} (next_request_at key piece start held) (finds held p result reading)
              → IsLined grants start stop granted held new r
          by More reading e finding =
              let both : ◌≡◌ {A = ℕ × Held} (stop, new) (start, held) = cc in
              let same : stop ≡ start = ap (λ (x : ℕ × Held). x.0) both in
              absurd (omega (arith, onward, same))
          by (FoundLine s) reading e finding =
              lined_at grants start stop granted held new r p (Line reading.line) s reading onward here
              (λ bytes stood. marks-fed bytes p.reader reading piece start (FoundLine s) (sym e) stood)
              (λ bytes stood. stands-fed bytes p.reader reading piece start (FoundLine s) (sym e) stood)
              (is ∙ ap (line_answered key granted (start, held)) finding) finding u t
          by (FoundTooLong s) reading e finding =
              lined_at grants start stop granted held new r p TooLong s reading onward here
              (λ bytes stood. marks-fed bytes p.reader reading piece start (FoundTooLong s) (sym e) stood)
              (λ bytes stood. stands-fed bytes p.reader reading piece start (FoundTooLong s) (sym e) stood)
              (is ∙ ap (line_answered key granted (start, held)) finding) finding u t

  -- ---- the end of a piece

  -- all bytes were read
  stands_all : (held : Held) (v : World) (bytes : List ℕ) → fed_of n v ≡ Some bytes → StandsBy buses (partly n bytes) keys held v
      → StandsFor buses keys held v
  stands_all held v bytes whole s = assumption opens
    where
      read_is : (m : ℕ) (conn : Connection) → numbered m v.connections ≡ Some conn → Where m n → partly n bytes m conn.fed ≡ conn.fed
      read_is m conn e (Here same) =
          let its : Some conn.fed ≡ Some bytes = cc in
          let equal : conn.fed ≡ bytes = cc in
          cc (partly_here n bytes conn.fed)
      read_is m conn e (Away d) = partly_other n m bytes conn.fed d

      opens : (m : ℕ) (conn : Connection) → numbered m v.connections ≡ Some conn → is_open conn ≡ true
          → IsAt keys held.places (history buses v) m conn conn.fed
      opens m conn e o =
          let a = s.opens m conn e o in subst (IsAt keys held.places (history buses v) m conn) (read_is m conn e (where_is m n)) a

  pub record IsEnded (grants : List Bool) (new : Held) (v : World) : Type 0 where
    pub fine : IsFine buses order (fold (course_answered buses n) w (lines_under grants (new_marks buses fed piece)))
    pub stands : StandsFor buses keys new (fold (course_answered buses n) w (lines_under grants (new_marks buses fed piece)))
    pub world_is : v ≡ fold (course_answered buses n) w (lines_under grants (new_marks buses fed piece))
    pub counts : new.denied ≡ denied_lines buses n w before (lines_under grants (new_marks buses fed piece))

  pub lines_ended : (grants : List Bool) (start : ℕ) (held new : Held)
      → ◌≡◌ {A = Option (ℕ × Request) × Held} (None, new) (next_request_at key piece start held) → IsUpTo grants start held
      → IsEnded grants new (world_upto grants start)
  lines_ended grants start held new is u =
      let h = found_at buses _ keys held _ n key u.stands named in
      let p = place_of h.reader _ h.conn in
      let stood : StandsAt (fed ++ take start piece) p.reader =
      subst (λ bytes. StandsAt bytes h.reader) (partly_here n _ _) h.reads in
      from p h.place stood (feed_of p.reader piece start).0 (feed_of p.reader piece start).1 refl
    where
      from : (p : Place) → at held key ≡ Some p → StandsAt (fed ++ take start piece) p.reader → (result : Fed) (reading : Reading)
          → ◌≡◌ {A = Fed × Reading} (feed_of p.reader piece start) (result, reading) → IsEnded grants new (world_upto grants start)
      from p here stood result reading e = by result reading e
          (cc)
        where
          by : (result : Fed) (reading : Reading) → ◌≡◌ {A = Fed × Reading} (feed_of p.reader piece start) (result, reading)
              → ◌≡◌ {A = Option (ℕ × Request) × Held} (None, new) (finds held p result reading)
              → IsEnded grants new (world_upto grants start)
          by (FoundLine s) reading e finding =
              absurd (none-some (s, request_of held.buses p (Line reading.line)) (ap (λ (x : Option (ℕ × Request) × Held). x.0) finding))
          by (FoundTooLong s) reading e finding =
              absurd (none-some (s, request_of held.buses p TooLong) (ap (λ (x : Option (ℕ × Request) × Held). x.0) finding))
          by More reading e finding =
              let new_is : new ≡ record held { places = slice_set held.places key (Some (record p { reader = reading })) } =
              ap (λ (x : Option (ℕ × Request) × Held). x.1) finding in
              let both =
              fed_to_end fed piece start [] p.reader reading
              (λ bytes stood. marks-fed bytes p.reader reading piece start More (sym e) stood)
              (λ bytes stood. stands-fed bytes p.reader reading piece start More (sym e) stood) stood in
              let last : new_marks buses fed piece ≡ marks_upto start = later_marks fed _ _ [] both.0 ∙ append-nil _ in
              let world : world_upto grants start ≡ fold (course_answered buses n) w (lines_under grants (new_marks buses fed piece)) =
              cc in
              let reads : StandsBy buses (partly n (fed ++ piece)) keys
              (record held { places = slice_set held.places key (Some (record p { reader = reading })) }) (world_upto grants start) =
              stands_read buses keys n key named (partly n (fed ++ take start piece)) (partly n (fed ++ piece)) held
              (world_upto grants start) p reading u.stands here
              (λ conn e. subst (λ bytes. StandsAt bytes reading) (sym (partly_here n (fed ++ piece) conn.fed)) both.1)
              (λ m bytes d. partly_other n m (fed ++ piece) bytes d ∙ sym (partly_other n m (fed ++ take start piece) bytes d)) in
              record {
                fine = rw (← world) u.fine;
                stands =
                    rw (← world)
                    (rw new_is
                    (stands_all (record held { places = slice_set held.places key (Some (record p { reader = reading })) })
                    (world_upto grants start) (fed ++ piece) u.fed_is reads));
                world_is = world;
                counts = cc u.counts;
              }

-- ---- the beginning of a piece

pub set_same : (places : List (Option Place)) (key : ℕ) (p : Place) → place_at places key ≡ Some p → slice_set places key (Some p) ≡ places
set_same places key p h = rw h at (set-get_or places key None)

-- the world with all of the piece accepted
abbrev pub accepting : ℕ → List ℕ → World → World
accepting n piece w = at_connection n (λ c. record c { fed = c.fed ++ piece }) w

pub piece_begun : (buses : List Bus) (order : IsRisingBy key_at (shown_rows (opening buses 0))) (keys : List (Option ℕ)) (n key : ℕ)
    (named : key_of n keys ≡ Some key) (piece : List ℕ) (held : Held) (w : World) (conn : Connection)
    → IsFine buses order w → StandsFor buses keys held w → numbered n w.connections ≡ Some conn
    → IsUpTo buses order keys n key named conn.fed piece (accepting n piece w) held.denied [] 0 held
    × (world_upto buses order keys n key named conn.fed piece (accepting n piece w) held.denied [] 0 ≡ accepting n piece w)
piece_begun buses order keys n key named piece held w conn a s there =
    let h = found_at buses (λ n fed. fed) keys held w n key s named in
    let f : Connection → Connection = λ c. record c { fed = c.fed ++ piece } in
    let same : h.conn ≡ conn = let both : Some h.conn ≡ Some conn = cc h.there in cc in
    let none : drop (length (marks conn.fed)) (marks (conn.fed ++ [])) ≡ [] =
    cc (append-nil conn.fed, drop_all (length (marks conn.fed)) (marks conn.fed) (le_refl (length (marks conn.fed)))) in
    let world : fold (course_answered buses n) (accepting n piece w)
    (lines_under [] (drop (length (marks conn.fed)) (marks (conn.fed ++ []))))
    ≡ accepting n piece w = cc in
    let p = place_of h.reader _ h.conn in
    let changed : StandsBy buses (partly n (conn.fed ++ [])) keys (record held { places = slice_set held.places key (Some p) })
    (accepting n piece w) =
    stands_changed buses (λ n fed. fed) _ keys held w n key h.conn f p h.reader s named h.there h.up h.up refl
    (rw (← (ap (λ (c : Connection). c.fed) same ∙ sym (append-nil conn.fed) ∙ sym (partly_here n (conn.fed ++ []) (f h.conn).fed))) h.reads)
    (λ m bytes d. partly_other n m _ bytes d) in
    let stands : StandsBy buses (partly n (conn.fed ++ [])) keys held (accepting n piece w) =
    rw (← (set_same _ key p h.place)) changed in
    let fine : IsFine buses order (accepting n piece w) =
    sound_at buses order Anything _ n f w
    (λ other k g. record { fits = g.fits; before = g.before; plain = g.plain; within = g.within }) a in (
      record {
        count = cc;
        fine = rw world fine;
        fed_is = cc (numbered_with n f _);
        stands = rw world stands;
        counts = sym (denied_none buses n (accepting n piece w) _ (drop (length (marks conn.fed)) (marks (conn.fed ++ []))));
      },
      world,
    )
