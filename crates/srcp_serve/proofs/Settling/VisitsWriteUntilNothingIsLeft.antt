-- What a visit hands over of an information session whose peer takes all: what was unsent first, and then line after line.
use Rattle.srcp_serve.proofs.Names.{◌≡◌, ◌∙◌, ℕ, zero, suc, ◌+◌, ◌<◌, Bool, true, false, not, List, [], ◌∷◌, ◌++◌, map, take, length}
use Rattle.srcp_serve.proofs.Names.{if◌then◌else◌, Ok, Err, ◌⊎◌, inl, inr, refl, ap, sym, arith, append-nil, append_assoc, length-append}
use Rattle.srcp_serve.proofs.Names.{◌==◌, length-filter, filter, filter_map, count_by, list_any, AllByRecursion, ltb-false, ltb-true}
use Rattle.srcp_serve.proofs.Names.{nat_tests, map-append, list_any-append, Next, Bus, IsLayout, line_of, Event, Bytes, Room, Piece, Call}
use Rattle.srcp_serve.proofs.Names.{WriteCall, CloseCall, Question, Reads, Writes, Closes, Client, IsFair, question, piece_of, count_of}
use Rattle.srcp_serve.proofs.Names.{is_close, is_write, loses, loses_reading, falls_short, lent_none_last, exchange, is_closing, lent}
use Rattle.srcp_serve.proofs.Names.{rooms_of, flat_map, handed, closes_of, visit_asks, and_parts, cond_both, is_ready, reads_of}
use Rattle.srcp_serve.proofs.Names.{writes_of, all_weaker, is_nil}
use Rattle.srcp_serve.proofs.CallsByTurnAndPeer.{any_not, not_any}
use Rattle.srcp_serve.proofs.VisitsSendWhatIsTaken.{first_of_writes, has_writes, no_write}
use Rattle.srcp_serve.proofs.Settling.PanelsTakeTheirLines.{Panel, first_text, owed_then, panel_bytes, panel_full, panel_goes_on}
use Rattle.srcp_serve.proofs.Settling.PanelsTakeTheirLines.{panel_lends, panel_open, panel_room, panel_write}

-- the peer took all of it, if it is a write
abbrev pub IsWhole : Call → Type 0
IsWhole call = IsFair call × (loses call ≡ false) × (falls_short call ≡ false)

-- one write more if something is unsent
abbrev pub one_unless_nil : List ℕ → ℕ
one_unless_nil bytes = if is_nil bytes then 0 else 1

module _ (buses : List Bus) (layout : IsLayout buses) (peer n : ℕ) where
  -- the first of some writes, and what it leaves
  record IsWritten (most : ℕ) (events : List Event) (bytes : List ℕ) (nexts : List Next) (calls : List Call)
      (counts : List ℕ) : Type 0 where
    count : ℕ
    more : List ℕ
    counts_are : counts ≡ count ∷ more
    some : 0 < length (first_text bytes nexts)
    left : ℕ
    one_less : most ≡ suc left
    panel : Panel buses n (events ++ map (Room n) (rooms_of count)) [] (owed_then bytes nexts)
    others : map question calls ≡ map (Writes peer) (take left (handed buses n (events ++ map (Room n) (rooms_of count)) more))
    counted : more ≡ filter_map count_of calls

  abbrev Asked : ℕ → List Event → List Call → List Question → Type 0
  Asked most events calls questions = questions ≡ map (Writes peer) (take most (handed buses n events (filter_map count_of calls)))

  first_write : (call : Call) (calls : List Call) (most : ℕ) (events : List Event) (bytes : List ℕ) (nexts : List Next) → IsWhole call
      → Asked most events (call ∷ calls) (question call ∷ map question calls)
      → Panel buses n events bytes nexts → IsWritten most events bytes nexts calls (filter_map count_of (call ∷ calls))
  first_write (WriteCall who text (Err failed)) calls most events bytes nexts h e p = let no = h.1 in cc
  first_write (WriteCall who text (Ok count)) calls most events bytes nexts h e p =
      let now = lent buses n events in
      let counts = filter_map count_of calls in
      let rest : Bool → List (List ℕ) = λ b. if b then handed buses n (events ++ map (Room n) (rooms_of count)) counts else [] in
      let f = first_of_writes peer who most text now (map question calls) (rest (count == length now)) e in
      let lends = panel_lends buses n events bytes nexts p layout in
      let fits = ltb-false count (length text) h.2 in
      let all : count ≡ length text = let most = h.0 in omega (arith, most, fits) in
      let full : count ≡ length now = cc in
      let yes : (count == length now) ≡ true = grind (arith, nat_tests) in
      let size : length (first_text bytes nexts) ≡ count = sym (cc) in
      let some : 0 < length (first_text bytes nexts) = rw lends at f.some in
      record {
        count = count;
        more = counts;
        counts_are = refl;
        some = some;
        left = f.left;
        one_less = f.one_less;
        panel = rw size at (panel_write buses n events bytes nexts p layout some);
        others = cc;
        counted = refl;
      }
  first_write call calls most events bytes nexts h e p = absurd (no_write peer (question call) (map question calls) _ refl e)

  -- these lines were given, and these are left; all, or as many as may be
  pub record IsHanded (most first : ℕ) (nexts : List Next) (events : List Event) (counts : List ℕ) : Type 0 where
    pub lines : List Next
    pub rest : List Next
    pub whole : nexts ≡ lines ++ rest
    pub panel : Panel buses n (events ++ map (Room n) (flat_map rooms_of counts)) [] rest
    pub many : length lines + first ≡ length counts
    pub ends : (rest ≡ []) ⊎ (length counts ≡ most)

  -- if no more is asked for, nothing is left, or no more may be
  no_more : (most : ℕ) (events : List Event) (bytes : List ℕ) (nexts : List Next) → Asked most events [] []
      → Panel buses n events bytes nexts → (first_text bytes nexts ≡ []) ⊎ (0 ≡ most)
  no_more zero events bytes nexts e p = inr refl
  no_more (suc most) events bytes nexts e p = inl (by (first_text bytes nexts) (panel_lends buses n events bytes nexts p layout))
    where
      by : (text : List ℕ) → lent buses n events ≡ text → text ≡ []
      by [] t = refl
      by (byte ∷ text) t = let no : [] ≡ map (Writes peer) (take (suc most) ((byte ∷ text) ∷ [])) = cc in cc

  -- the first write and then the others
  then_others : (most first : ℕ) (events : List Event) (bytes : List ℕ) (nexts prefix : List Next) (calls : List Call) (counts : List ℕ)
      (f : IsWritten most events bytes nexts calls counts) → nexts ≡ prefix ++ owed_then bytes nexts → length prefix + first ≡ 1
      → IsHanded f.left 0 (owed_then bytes nexts) (events ++ map (Room n) (rooms_of f.count)) (filter_map count_of calls)
      → IsHanded most first nexts events counts
  then_others most first events bytes nexts prefix calls counts f split one r =
      let are : counts ≡ f.count ∷ filter_map count_of calls = cc in
      record {
        lines = prefix ++ r.lines;
        rest = r.rest;
        whole = cc (append_assoc prefix r.lines r.rest);
        panel = rw (append_assoc events (map (Room n) (rooms_of f.count)) (map (Room n) (flat_map rooms_of (filter_map count_of calls)))
            ∙ ap (λ (es : List Event). events ++ es) (sym (map-append (Room n) (rooms_of f.count) _))
            ∙ ap (λ cs. events ++ map (Room n) (flat_map rooms_of cs)) (sym are)) at r.panel;
        many = longer (length prefix) (length r.lines) (length (prefix ++ r.lines)) (length (filter_map count_of calls)) (length counts) one
            (length-append prefix r.lines) r.many (ap length are);
        ends = by (length (filter_map count_of calls)) (length counts) r.ends (ap length are);
      }
    where
      longer : (a b c d k : ℕ) → a + first ≡ 1 → c ≡ a + b → b + 0 ≡ d → k ≡ suc d → c + first ≡ k
      longer a b c d k one whole many size = omega arith

      by : (a b : ℕ) → (r.rest ≡ []) ⊎ (a ≡ f.left) → b ≡ suc a → (r.rest ≡ []) ⊎ (b ≡ most)
      by a b (inl none) size = inl none
      by a b (inr same) size = inr (cc)

  hands_lines : (calls : List Call) (most : ℕ) (events : List Event) (nexts : List Next) → AllByRecursion IsWhole calls
      → Asked most events calls (map question calls)
      → Panel buses n events [] nexts → IsHanded most 0 nexts events (filter_map count_of calls)
  hands_lines [] most events nexts h e p = record {
    lines = [];
    rest = nexts;
    whole = refl;
    panel = rw append-nil p;
    many = refl;
    ends = by nexts (panel_full buses n events [] nexts p) (no_more most events [] nexts e p);
  }
    where
      by : (nexts : List Next) → AllByRecursion (λ what. 0 < length (line_of what)) nexts → (first_text [] nexts ≡ []) ⊎ (0 ≡ most)
          → (nexts ≡ []) ⊎ (0 ≡ most)
      by nexts full (inr none) = inr none
      by [] full (inl none) = inl refl
      by (what ∷ nexts) full (inl none) = absurd (omega (arith, full.0, ap {B = ℕ} length none))
  hands_lines (call ∷ calls) most events [] h e p =
      let no = (first_write call calls most events [] [] h.0 e p).some in absurd (omega (arith, no))
  hands_lines (call ∷ calls) most events (what ∷ nexts) h e p =
      let f = first_write call calls most events [] (what ∷ nexts) h.0 e p in
      then_others most 0 events [] (what ∷ nexts) (what ∷ []) calls (filter_map count_of (call ∷ calls)) f refl refl
      (hands_lines calls f.left (events ++ map (Room n) (rooms_of f.count)) nexts h.1 (rw f.counted at f.others) f.panel)

  -- if some may be
  pub hands_all : (calls : List Call) (most : ℕ) (events : List Event) (bytes : List ℕ) (nexts : List Next) → 0 < most
      → AllByRecursion IsWhole calls → Asked most events calls (map question calls)
      → Panel buses n events bytes nexts → IsHanded most (one_unless_nil bytes) nexts events (filter_map count_of calls)
  hands_all calls most events [] nexts some h e p = hands_lines calls most events nexts h e p
  hands_all [] most events (byte ∷ bytes) nexts some h e p = absurd (by (no_more most events (byte ∷ bytes) nexts e p))
    where
      by : (byte ∷ bytes ≡ []) ⊎ (0 ≡ most) → ⊥
      by (inl none) = cc
      by (inr none) = omega (arith, none, some)
  hands_all (call ∷ calls) most events (byte ∷ bytes) nexts some h e p =
      let f = first_write call calls most events (byte ∷ bytes) nexts h.0 e p in
      then_others most 1 events (byte ∷ bytes) nexts [] calls (filter_map count_of (call ∷ calls)) f refl refl
      (hands_lines calls f.left (events ++ map (Room n) (rooms_of f.count)) nexts h.1 (rw f.counted at f.others) f.panel)

-- ---- the whole visit

each_whole : (calls : List Call) → AllByRecursion IsFair calls → AllByRecursion (λ call. loses call ≡ false) calls
    → AllByRecursion (λ call. falls_short call ≡ false) calls → AllByRecursion IsWhole calls
each_whole [] f l s = tt
each_whole (call ∷ calls) f l s = ((f.0, l.0, s.0), each_whole calls f.1 l.1 s.1)

still_read : (call : Call) → loses call ≡ false → loses_reading call ≡ false
still_read (WriteCall who bytes answer) e = refl
still_read other e = e

-- as many counts as writes
writes_counted : (calls : List Call) → length (filter is_write calls) ≡ length (filter_map count_of calls)
writes_counted [] = refl
writes_counted (WriteCall who bytes (Ok count) ∷ calls) = ap (λ n. suc n) (writes_counted calls)
writes_counted (WriteCall who bytes (Err failed) ∷ calls) = ap (λ n. suc n) (writes_counted calls)
writes_counted (other ∷ calls) = writes_counted calls

-- the question is to close a peer
abbrev asks_close : Question → Bool
asks_close (Closes peer) = true
asks_close other = false

abbrev NoCloses : List Question → Type 0
NoCloses questions = list_any asks_close questions ≡ false

closes_asked : (calls : List Call) → list_any is_close calls ≡ list_any asks_close (map question calls)
closes_asked [] = refl
closes_asked (CloseCall who answer ∷ calls) = refl
closes_asked (call ∷ calls) = closes_asked calls

writes_close : (peer : ℕ) (texts : List (List ℕ)) → NoCloses (map (Writes peer) texts)
writes_close peer [] = refl
writes_close peer (text ∷ texts) = writes_close peer texts

module _ (buses : List Bus) (layout : IsLayout buses) (client : Client) (events : List Event) (calls : List Call) (bytes : List ℕ)
    (nexts : List Next) (p : Panel buses client.conn events bytes nexts)
    (asked : map question calls ≡ visit_asks buses events calls client) (fair : AllByRecursion IsFair calls)
    (keeps : list_any loses calls ≡ false) (takes : list_any falls_short calls ≡ false) where
  abbrev read_events : List Event
  read_events = events ++ map (Bytes client.conn) (filter_map piece_of calls)

  after_pieces : (events : List Event) (pieces : List Piece) → Panel buses client.conn events bytes nexts
      → Panel buses client.conn (events ++ map (Bytes client.conn) pieces) bytes nexts
  after_pieces events [] q = rw append-nil q
  after_pieces events (piece ∷ pieces) q =
      rw append_assoc at
      (after_pieces (events ++ Bytes client.conn piece ∷ []) pieces (panel_bytes buses client.conn events bytes nexts q piece))

  -- the writes of the visit
  wrote : IsHanded buses layout client.peer client.conn 300 (one_unless_nil bytes) nexts read_events (filter_map count_of calls)
  wrote =
      let h = has_writes buses client events calls asked in
      let losing = not_any loses calls keeps in
      let whole = h.each IsWhole (each_whole calls fair losing (not_any falls_short calls takes)) in
      let reading = any_not loses_reading calls (all_weaker _ _ still_read calls losing) in
      let texts : List ℕ → List Question = λ cs. map (Writes client.peer) (take 300 (handed buses client.conn read_events cs)) in
      let asks : map question h.writes ≡ texts (filter_map count_of h.writes) = cc in
      rw h.counts (hands_all buses layout client.peer client.conn h.writes 300 read_events bytes nexts (omega arith) whole asks
      (after_pieces events (filter_map piece_of calls) p))

  -- after a visit nothing is unsent, and these lines are left to it: none, or it was handed 300
  pub record IsVisitedWhole : Type 0 where
    pub lines : List Next
    pub rest : List Next
    pub whole : nexts ≡ lines ++ rest
    pub panel : Panel buses client.conn (events ++ exchange client.conn calls) [] rest
    pub ends : (rest ≡ []) ⊎ (length lines + one_unless_nil bytes ≡ 300)
    pub stays : list_any is_close calls ≡ false

  -- its connection is not to be closed once nothing is unsent
  goes_on_open : (now : List Event) (rest : List Next) → Panel buses client.conn now [] rest
      → is_closing buses client.conn now ≡ false
  goes_on_open now rest q = cc (panel_open buses client.conn now [] rest q, panel_goes_on buses client.conn now [] rest q)

  last_room : (now : List Event) (rest : List Next) (b : Bool) → (b ≡ true → rest ≡ []) → Panel buses client.conn now [] rest
      → Panel buses client.conn (now ++ map (Room client.conn) (if b then 0 ∷ [] else [])) [] rest
  last_room now rest false none q = rw append-nil q
  last_room now rest true none q = let empty = none refl in rw empty (panel_room buses _ now [] [] (rw empty at q) layout)

  pub visited_whole : IsVisitedWhole
  visited_whole =
      let r = wrote in
      let n : ℕ = client.conn in
      let asks_last = lent_none_last calls in
      let roomed = map (Room n) (flat_map rooms_of (filter_map count_of calls)) in
      let last = last_room (read_events ++ roomed) r.rest asks_last (few r.rest r.ends) r.panel in
      let whole : (read_events ++ roomed) ++ map (Room n) (if asks_last then 0 ∷ [] else [])
      ≡ events ++ exchange n calls = simp (append_assoc, map-append) in
      let panel = rw whole at last in
      let now = events ++ exchange n calls in
      let open_still : is_closing buses n now ≡ false =
      goes_on_open now r.rest panel in
      let reads : NoCloses (reads_of buses events client) =
      cond_both (is_ready buses client.conn events) (Reads client.peer 256 ∷ []) [] NoCloses (λ e. refl) (λ e. refl) in
      let texts = take 300 (handed buses client.conn read_events (filter_map count_of calls)) in
      let writes : NoCloses (writes_of buses events calls client) =
      cond_both (list_any loses_reading calls) [] (map (Writes client.peer) texts) NoCloses (λ e. refl)
      (λ e. writes_close client.peer texts) in
      let none_closed : closes_of buses events calls client ≡ [] = cc in
      let ends : (r.rest ≡ []) ⊎ (length r.lines + one_unless_nil bytes ≡ 300) = rw r.many r.ends in
      let stays : list_any is_close calls ≡ false =
      rw (closes_asked, asked, list_any-append, none_closed, list_any-append, reads, writes) in
      search
    where
      few : (rest : List Next) → (rest ≡ []) ⊎ (length (filter_map count_of calls) ≡ 300) → lent_none_last calls ≡ true → rest ≡ []
      few rest (inl none) e = none
      few rest (inr all) e =
          let last = and_parts (not (list_any falls_short calls)) _ (and_parts (not (list_any loses calls)) _ e).1 in
          absurd (omega (arith, all, ltb-true (count_by is_write calls) 300 last.1, length-filter is_write calls, writes_counted calls))
