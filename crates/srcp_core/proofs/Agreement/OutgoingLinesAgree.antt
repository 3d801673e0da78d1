-- Bytes that go out: the line that is put in, and the bytes that are taken, by the course.
use Rattle.srcp_core.proofs.Names.{◌≡◌, ℕ, suc, ◌-◌, ◌≤◌, Bool, true, false, List, [], ◌∷◌, ◌++◌, map, take, drop, length, refl}
use Rattle.srcp_core.proofs.Names.{ap, sym, ◌∙◌, subst, arith, append-nil, append_assoc, le-leb, le-ltb, nat_tests, drop-append-le}
use Rattle.srcp_core.proofs.Names.{take-append-le, and-false, le_refl, flat_map, option_or, Option, Some, None, ◌&&◌, nat_lt, IfSome}
use Rattle.srcp_core.proofs.Names.{if◌then◌else◌, Change, Cursor, Done, Shown, Mode, Reading, beyond, moved, Next, Told}
use Rattle.srcp_core.proofs.Names.{Listed, Settled, key_at, IsRisingBy, Connection, History, cursor_at, untold, unsent, sent, given}
use Rattle.srcp_core.proofs.Names.{line_of, is_nil, owed, prefix, fitting, exhausts, items_of, took, given_room, overran, Place}
use Rattle.srcp_core.proofs.Names.{filled, item_from, feed_in, Listening, record_of, place_of, ConnRecord}
use Rattle.srcp_feed.specs.Feed.{first_of}
use Rattle.srcp_core.specs.Recording.{with_item}
use Rattle.srcp_core.proofs.CourseLaws.LinesHaveBytes.{AreFull, exhausts_none, fitting_first, owed_full}
use Rattle.srcp_core.proofs.CourseLaws.RoomInTwoParts.{none_taken, parts_same}
use Rattle.srcp_core.proofs.CourseLaws.RoomsAddUp.{owed_plain}
use Rattle.srcp_core.proofs.CourseLaws.Histories.{rows_after, cursor_by}
use Rattle.srcp_core.proofs.Agreement.PlacesChange.{plain_place, plain_is, is_over_place, untold_shut}
use Rattle.srcp_core.proofs.CourseLaws.RoomGivesWhatIsOwed.{text_items, done_owes, nothing_owed, fitting_none}
use Rattle.srcp_core.proofs.CourseLaws.ItemsFitHistory.{Fits, untold_by, owed_by, cursor_told, cursor_item, fits_told, fits_listed}
use Rattle.srcp_core.proofs.CourseLaws.ItemsFitHistory.{not_done}

-- ---- an information session that did not overrun

abbrev info_place : Reading → Mode → ℕ → Bool → List ℕ → Cursor → List Change → Place
info_place reader mode session ended bytes cursor queue = record {
  reader = reader;
  mode = mode;
  session = session;
  ended = ended;
  unsent = bytes;
  panel = Listening (record { cursor = cursor; queue = queue });
}

info_is : (reader : Reading) (history : History) (conn : Connection) → conn.info ≡ true → nat_lt 256 (length (untold conn history)) ≡ false
    → place_of reader history conn
    ≡ info_place reader conn.mode conn.session conn.ended (unsent conn) (cursor_at conn (length history)) (untold conn history)
info_is reader history conn info still = rw (info, still) refl

-- ---- the first of a room

-- what is told of the connection once this was given, if anything
abbrev pub with_given : ℕ → Option Next → ConnRecord → ConnRecord
with_given steps None told = told
with_given steps (Some (Told change)) told = with_item steps (Told change) told
with_given steps (Some (Listed row)) told = with_item steps (Listed row) told
with_given steps (Some Settled) told = told

-- where something is unsent nothing is put in
took_still : (n : ℕ) (nexts : List Next) (conn : Connection) (byte : ℕ) (bytes : List ℕ) → unsent conn ≡ byte ∷ bytes
    → took 0 n nexts conn ≡ conn
took_still n nexts conn byte bytes e =
    parts_same conn
    (ap (λ left. conn.items ++ items_of n (fitting 0 left nexts)) e
    ∙ ap (λ m. conn.items ++ items_of n (prefix m nexts)) none ∙ append-nil _)
    (none_taken _ _)
    (ap (λ left. if conn.info && exhausts 0 left nexts then option_or conn.done (Some n) else conn.done) e
    ∙ ap (λ t. if conn.info && t then option_or conn.done (Some n) else conn.done) not_yet
    ∙ ap (λ t. if t then option_or conn.done (Some n) else conn.done) (and-false conn.info))
  where
    none : 1 - length (byte ∷ bytes) ≡ 0
    none = omega arith

    not_yet : exhausts 0 (byte ∷ bytes) nexts ≡ false
    not_yet = le-ltb _ 1 (omega arith)

-- where nothing is unsent the first of what is owed is put in
took_one : (n : ℕ) (nexts : List Next) (conn : Connection) → AreFull nexts → unsent conn ≡ [] → took 0 n nexts conn ≡ record conn {
  items = conn.items ++ items_of n (take 1 nexts);
  done = if conn.info && is_nil nexts then option_or conn.done (Some n) else conn.done;
}
took_one n nexts conn full e =
    parts_same conn
    (ap (λ left. conn.items ++ items_of n (fitting 0 left nexts)) e ∙ ap (λ ns. conn.items ++ items_of n ns) (fitting_first nexts full))
    (none_taken _ _)
    (ap (λ left. if conn.info && exhausts 0 left nexts then option_or conn.done (Some n) else conn.done) e
    ∙ ap (λ t. if conn.info && t then option_or conn.done (Some n) else conn.done) (exhausts_none nexts full))

-- what is unsent and what was sent once more was given
unsent_more : (conn : Connection) (n : ℕ) (nexts : List Next) (end : Option ℕ) → conn.taken ≤ length (given conn)
    → unsent (record conn { items = conn.items ++ items_of n nexts; done = end }) ≡ unsent conn ++ flat_map line_of nexts
unsent_more conn n nexts end within =
    cc (text_items n conn.items nexts, append_assoc conn.out _ _, drop-append-le _ _ _ within)

sent_more : (conn : Connection) (n : ℕ) (nexts : List Next) (end : Option ℕ) → conn.taken ≤ length (given conn)
    → sent (record conn { items = conn.items ++ items_of n nexts; done = end }) ≡ sent conn
sent_more conn n nexts end within =
    ap (λ t. take conn.taken (conn.out ++ t)) (text_items n conn.items nexts)
    ∙ ap (take conn.taken) (sym (append_assoc conn.out _ (flat_map line_of nexts)))
    ∙ take-append-le _ _ _ within

-- what is known once this was given where nothing was unsent
record Gave (history : History) (conn later : Connection) (what : Next) : Type 0 where
  unsent_is : unsent later ≡ line_of what
  cursor_is : cursor_at later (length history) ≡ moved (cursor_at conn (length history)) what
  untold_is : untold later history ≡ drop 1 (untold conn history)
  told_is : record_of later ≡ with_given (length history) (Some what) (record_of conn)

module _ (first : List Shown) (history : History) (conn : Connection) (shut : conn.shut ≡ None)
    (order : IsRisingBy key_at (rows_after first history)) (fits : Fits first history conn.go_step conn.items conn.done)
    (within : conn.taken ≤ length (given conn)) where
  abbrev rows_now : List Shown
  rows_now = rows_after first history

  abbrev n : ℕ
  n = length history

  owed_is : conn.info ≡ true
      → owed conn history rows_now ≡ map Told (untold conn history) ++ map Listed (beyond (cursor_at conn n) rows_now)
  owed_is info = cc

  abbrev after : List Next → Connection
  after nexts = record conn {
    items = conn.items ++ items_of n (take 1 nexts);
    done = if conn.info && is_nil nexts then option_or conn.done (Some n) else conn.done;
  }

  gave_one : conn.info ≡ true → unsent conn ≡ [] → (u : List Change) → untold conn history ≡ u → (b : List Shown)
      → beyond (cursor_at conn n) rows_now ≡ b
      → Gave history conn (after (map Told u ++ map Listed b)) (first_of (map Told u ++ map Listed b))
  gave_one info none (change ∷ changes) u b e =
      let one = fits_told first history _ _ _ change changes fits (sym (untold_shut conn history shut) ∙ u) in
      let later : Connection = record conn { items = conn.items ++ items_of n (Told change ∷ []); done = conn.done } in
      let is : after (map Told (change ∷ changes) ++ map Listed b) ≡ later = cc (and-false _) in
      rw is (record {
        unsent_is = cc (unsent_more conn n (Told change ∷ []) conn.done within, append-nil _);
        cursor_is = cursor_told history _ _ change fits.numbers;
        untold_is = cc (untold_shut later history shut, one.waiting);
        told_is = cc (sent_more conn n (Told change ∷ []) conn.done within);
      })
  gave_one info none [] u (row ∷ left) e =
      let bare = sym (untold_shut conn history shut) ∙ u in
      let one = fits_listed first history _ _ _ row left order fits bare e in
      let undone : conn.done ≡ None = not_done first history _ _ _ row left fits e in
      let later : Connection = record conn { items = conn.items ++ items_of n (Listed row ∷ []); done = conn.done } in
      let is : after (map Told [] ++ map Listed (row ∷ left)) ≡ later = cc (and-false _) in
      rw is (record {
        unsent_is = cc (unsent_more conn n (Listed row ∷ []) conn.done within, append-nil _);
        cursor_is = cc (cursor_item history _ _ fits.numbers);
        untold_is = cc (untold_shut later history shut, one.waiting);
        told_is = cc (sent_more conn n (Listed row ∷ []) conn.done within);
      })
  gave_one info none [] u [] e =
      let bare : untold_by conn.go_step conn.items conn.done history ≡ [] = sym (untold_shut conn history shut) ∙ u in
      let owes : owed_by conn.go_step conn.items conn.done history rows_now ≡ [] = cc in
      let both =
      nothing_owed conn.go_step conn.items (option_or conn.done (Some n)) history rows_now
      (done_owes first history conn.go_step conn.items conn.done owes) in
      let later : Connection = record conn { done = option_or conn.done (Some n) } in
      let is : after [] ≡ later = cc (append-nil _) in
      rw is (record {
        unsent_is = none;
        cursor_is = done_now conn.done fits.done_by;
        untold_is = cc (untold_shut later history shut, both.0);
        told_is = refl;
      })
    where
      done_now : (end : Option ℕ) → IfSome end (λ m. m ≤ length history)
          → cursor_by (option_or end (Some (length history))) conn.items (length history) ≡ Done
      done_now None h = cc (le-leb _ _ (le_refl (length history)))
      done_now (Some m) h = cc (le-leb m _ h)

  -- a room for no bytes puts in what the code puts in
  pub record IsFilled (reader : Reading) (later : Connection) : Type 0 where
    pub place : filled rows_now (place_of reader history conn) ≡ place_of reader history later
    pub told : record_of later
        ≡ with_given n (item_from rows_now (place_of reader history conn).unsent (feed_in (place_of reader history conn).panel))
        (record_of conn)

  fills_info : (reader : Reading) → conn.info ≡ true → nat_lt 256 (length (untold conn history)) ≡ false → (bytes : List ℕ)
      → unsent conn ≡ bytes → IsFilled reader (took 0 n (owed conn history rows_now) conn)
  fills_info reader info still (byte ∷ bytes) e =
      subst (λ (c : Connection). IsFilled reader c) (sym (took_still n _ conn byte bytes e)) (record {
        place = cc (info_is reader history conn info still);
        told = cc (info_is reader history conn info still);
      })
  fills_info reader info still [] e =
      let nexts : List Next = map Told _ ++ map Listed _ in
      let later : Connection = after nexts in
      let is : took 0 n (owed conn history rows_now) conn ≡ later =
      took_one n (owed conn history rows_now) conn (owed_full conn history rows_now) e ∙ ap after (owed_is info) in
      let g = gave_one info e _ refl _ refl in
      rw is (record {
        place =
            cc (
              info_is reader history conn info still,
              g.unsent_is,
              g.cursor_is,
              g.untold_is,
              info_is reader history later info (ap (λ q. nat_lt 256 (length q)) g.untold_is ∙ fewer _ still),
            );
        told = cc (g.told_is, info_is reader history conn info still);
      })
    where
      fewer : (q : List Change) → nat_lt 256 (length q) ≡ false → nat_lt 256 (length (drop 1 q)) ≡ false
      fewer [] h = refl
      fewer (x ∷ q) h = shorter _ h
        where
          shorter : (m : ℕ) → nat_lt 256 (suc m) ≡ false → nat_lt 256 m ≡ false
          shorter m h = grind (arith, nat_tests)

  -- a connection that is no information session is given nothing
  took_plain : conn.info ≡ false → took 0 n (owed conn history rows_now) conn ≡ conn
  took_plain plain =
      parts_same conn
      (ap (λ nexts. conn.items ++ items_of n (fitting 0 (unsent conn) nexts)) (owed_plain conn history rows_now plain)
      ∙ ap (λ nexts. conn.items ++ items_of n nexts) (fitting_none 0 (unsent conn)) ∙ append-nil _) (none_taken _ _)
      (ap (λ t. if t && exhausts 0 (unsent conn) (owed conn history rows_now) then option_or conn.done (Some n) else conn.done) plain)

  fills_plain : (reader : Reading) → conn.info ≡ false → (bytes : List ℕ) → unsent conn ≡ bytes → IsFilled reader conn
  fills_plain reader plain bytes e = record {
    place = cc (plain_is reader history conn plain, same bytes);
    told = cc (plain_is reader history conn plain, nothing bytes);
  }
    where
      same : (bytes : List ℕ)
          → filled rows_now (plain_place reader conn.mode conn.session conn.ended bytes)
          ≡ plain_place reader conn.mode conn.session conn.ended bytes
      same [] = refl
      same (byte ∷ bytes) = refl

      nothing : (bytes : List ℕ) → with_given n (item_from rows_now bytes None) (record_of conn) ≡ record_of conn
      nothing [] = refl
      nothing (byte ∷ bytes) = refl

  pub fills : (reader : Reading) → overran conn history ≡ is_over_place history conn → IsFilled reader (given_room 0 history rows_now conn)
  fills reader over_is = by _ _ refl refl
    where
      by : (info over : Bool) → conn.info ≡ info → nat_lt 256 (length (untold conn history)) ≡ over
          → IsFilled reader (given_room 0 history rows_now conn)
      by true true i o = rw o (record { place = rw (i, o) refl; told = rw (i, o) refl })
      by true false i o = rw o (fills_info reader i o _ refl)
      by false over i o =
          let still : overran conn history ≡ false = cc in
          rw still (rw (took_plain i) (fills_plain reader i (unsent conn) refl))
