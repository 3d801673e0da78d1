-- Room for bytes, as many takings of what is unsent, each after the next line is put in.
use Rattle.srcp_core.proofs.Names.{cond_both, ◌≡◌, ℕ, zero, suc, min, ◌+◌, ◌-◌, ◌<◌, ◌≤◌, false, List, [], ◌∷◌, ◌++◌, take, max}
use Rattle.srcp_core.proofs.Names.{drop, length, length-append, refl, ap, sym, ◌∙◌, subst, arith, append-nil, le-ltb, drop-drop, length-map}
use Rattle.srcp_core.proofs.Names.{flat_map, option_map, option_or, Option, Some, None, ◌&&◌, nat_lt, if◌then◌else◌, Shown}
use Rattle.srcp_core.proofs.Names.{Reading, Bus, IsLayout, opening, shown_rows, Next, Told, Listed, Settled, key_at, IsRisingBy, Connection}
use Rattle.srcp_core.proofs.Names.{History, unsent, sent, given, line_of, is_open, owed, prefix, available, items_of, given_room}
use Rattle.srcp_core.proofs.Names.{overran, World, numbered, at_connection, history, rows, Place, Held, AddsUp, item_from, item_of, item_at}
use Rattle.srcp_core.proofs.Names.{let_out, without_sent, changed_at, changed_in, unsent_at, feed_in, Recording, key_of, record_of, gave}
use Rattle.srcp_core.proofs.Names.{StandsFor, place_of, and-false, cases_Bool, ⊎_elim, nil_from_length}
use Rattle.srcp_core.specs.Connection.{took}
use Rattle.srcp_core.specs.Recording.{with_sent}
use Rattle.srcp_core.proofs.CourseLaws.RoomInTwoParts.{parts_same}
use Rattle.srcp_core.proofs.CourseLaws.RoomsAddUp.{adds_none, adds_up, shut_after}
use Rattle.srcp_core.proofs.Agreement.LinesAgree.{IsFine, stands_of}
use Rattle.srcp_core.proofs.Agreement.EventsAgree.{over_is}
use Rattle.srcp_core.proofs.Agreement.OutgoingLinesAgree.{IsFilled, fills, with_given}
use Rattle.srcp_core.proofs.CourseLaws.Histories.{rows_after}
use Rattle.srcp_core.proofs.Agreement.LinesAreNoted.{Records, tells_same, tells_changed}
use Rattle.srcp_core.proofs.Agreement.PiecesAgree.{set_same}
use Rattle.srcp_core.proofs.Agreement.PlacesChange.{is_over_place, place_unsent, place_given_up}
use Rattle.srcp_core.proofs.CourseLaws.ShownRegistry.{shown_after, length_history}
use Rattle.srcp_core.proofs.CourseLaws.SessionsOfACourse.{at_number, fits_open}
use Rattle.srcp_core.proofs.Agreement.NumbersAndKeys.{numbered_with, with_itself, with_twice}
use Rattle.srcp_core.proofs.Agreement.StandsAfterAChange.{Anything, Fine, found_at}
use Rattle.srcp_core.proofs.CourseLaws.SessionsAreKept.{sound_at, stands_room, in_order_after}
use Rattle.std.proofs.Math.Seq.{take-nil}
use Rattle.std.proofs.lemmas.Bool.{false_from_ne_true}

-- ---- one connection

take_plus : {A : Type 0} (a b : ℕ) (xs : List A) → take (a + b) xs ≡ take a xs ++ take b (drop a xs)
take_plus zero b xs = let plus : 0 + b ≡ b = omega arith in ap (λ m. take m xs) plus
take_plus (suc a) b [] = cc (take-nil (suc a + b), take-nil b)
take_plus (suc a) b (x ∷ xs) =
    let plus : suc a + b ≡ suc (a + b) = omega arith in ap (λ m. take m (x ∷ xs)) plus ∙ ap (λ ys. x ∷ ys) (take_plus a b xs)

-- the next `count` of the unsent bytes were taken
abbrev pub with_taken : ℕ → Connection → Connection
with_taken count conn = record conn { taken = conn.taken + count }

-- room for no more than is unsent
room_unsent : (count : ℕ) (history : History) (rows : List Shown) (conn : Connection) → overran conn history ≡ false → 0 < count
    → count ≤ length (unsent conn) → given_room count history rows conn ≡ with_taken count conn
room_unsent count history rows conn still some few =
    let size = length-append (unsent conn) (flat_map line_of (owed conn history rows)) in
    let none_left : max count 1 - length (unsent conn) ≡ 0 = omega (arith, some, few) in
    let enough : nat_lt (length (available (unsent conn) (owed conn history rows))) (max count 1) ≡ false =
    le-ltb _ (max count 1) (omega (arith, size, some, few)) in
    ap (λ t. if t then conn else took count (length history) (owed conn history rows) conn) still
    ∙ parts_same conn
    (ap (λ m. conn.items ++ items_of (length history) (prefix m (owed conn history rows))) none_left ∙ append-nil _)
    (omega (arith, size, few))
    (ap (λ t. if conn.info && t then option_or conn.done (Some (length history)) else conn.done) enough
    ∙ ap (λ t. if t then option_or conn.done (Some (length history)) else conn.done) (and-false conn.info))

taken_place : (reader : Reading) (history : History) (conn : Connection) (count : ℕ) → is_over_place history conn ≡ false
    → without_sent count (place_of reader history conn) ≡ place_of reader history (with_taken count conn)
taken_place reader history conn count still = rw still (cc (drop-drop count conn.taken (given conn)))

taken_told : (conn : Connection) (count : ℕ) → record_of (with_taken count conn) ≡ record (record_of conn) {
  sent = sent conn ++ take count (unsent conn);
}
taken_told conn count = cc (take_plus _ count _)

-- room leaves the bytes that were accepted
fed_room : (bytes : ℕ) (history : History) (rows : List Shown) (conn : Connection) → (given_room bytes history rows conn).fed ≡ conn.fed
fed_room bytes history rows conn = cond_both _ _ _ (λ (it : Connection). it.fed ≡ conn.fed) (λ _. refl) (λ _. refl)

-- ---- the core and the course

module _ (buses : List Bus) (layout : IsLayout buses) (order : IsRisingBy key_at (shown_rows (opening buses 0))) (keys : List (Option ℕ))
    (n key : ℕ) (named : key_of n keys ≡ Some key) where
  -- what is kept while bytes are taken
  pub record Kept (r : Recording) (held : Held) (w : World) : Type 0 where
    pub fine : IsFine buses order w
    pub stands : StandsFor buses keys held w
    pub records : Records r w

  abbrev pub roomed : ℕ → World → World
  roomed bytes w = at_connection n (given_room bytes (history buses w) (rows buses w)) w

  fine_at : (w : World) (conn : Connection) → IsFine buses order w → numbered n w.connections ≡ Some conn
      → Fine buses (history buses w) conn
  fine_at w conn a e = at_number _ n _ conn a e

  fine_roomed : (bytes : ℕ) (w : World) (conn : Connection) → IsFine buses order w → numbered n w.connections ≡ Some conn → conn.shut ≡ None
      → IsFine buses order (roomed bytes w)
  fine_roomed bytes w conn a there shut =
      sound_at buses order Anything _ n _ w
      (λ other e g.
      let same : conn ≡ other = let both : Some conn ≡ Some other = cc in cc in
      stands_room _ order Anything _ _ _ bytes other
      (in_order_after (shown_rows (opening buses 0)) (history buses w) order) (shown_after (opening buses 0) w.steps)
      (cc) g)
      a

  open_room : (bytes : ℕ) (w : World) (conn : Connection) → is_open (given_room bytes (history buses w) (rows buses w) conn) ≡ is_open conn
  open_room bytes w conn = cc (shut_after bytes _ _ conn)

  -- the next line is put in
  pub filled_kept : (r : Recording) (held : Held) (w : World) → Kept r held w
      → Kept (gave n (item_at key held) r) (let_out key held) (roomed 0 w)
  filled_kept r held w k =
      let s = k.stands in
      let h = found_at buses (λ n fed. fed) keys held w n key s named in
      let f = fine_at w h.conn k.fine h.there in
      let fits = (fits_open _ Anything _ h.conn h.shut f).0 in
      let same_rows : rows_after (shown_rows (opening buses 0)) (history buses w) ≡ rows buses w =
      sym (shown_after _ w.steps) in
      let fill : (reader : Reading)
      → IsFilled (shown_rows (opening buses 0)) (history buses w) h.conn h.shut
      (in_order_after (shown_rows (opening buses 0)) (history buses w) order) fits f.within reader
      (given_room 0 (history buses w) (rows_after (shown_rows (opening buses 0)) (history buses w)) h.conn) =
      λ reader.
      fills _ _ h.conn h.shut _ fits f.within reader
      (over_is buses (history buses w) h.conn h.shut f) in
      let held_rows : shown_rows held.rows ≡ rows buses w = cc s.rows in
      let told : record_of (given_room 0 (history buses w) (rows buses w) h.conn)
      ≡ with_given (length (history buses w)) (item_at key held) (record_of h.conn) =
      ap (λ rs. record_of (given_room 0 (history buses w) rs h.conn)) (sym same_rows) ∙ (fill h.reader).told
      ∙ ap (λ rs.
      with_given (length (history buses w))
      (item_from rs (place_of h.reader (history buses w) h.conn).unsent
      (feed_in (place_of h.reader (history buses w) h.conn).panel))
      (record_of h.conn))
      (same_rows ∙ sym held_rows)
      ∙ ap (λ (o : Option Place). with_given (length (history buses w)) (item_of (shown_rows held.rows) o) (record_of h.conn))
      (sym h.place) in
      let steps : length (history buses w) ≡ length r.steps =
      length_history _ w.steps ∙ sym (length-map w.steps _) ∙ ap length (sym k.records.steps) in
      record {
        fine = fine_roomed 0 w h.conn k.fine h.there h.shut;
        stands =
            stands_of buses order (λ n fed. fed) keys n key named held w h.conn _ _ s h.there
            (open_room 0 w h.conn) (fed_room 0 (history buses w) (rows buses w) h.conn)
            (λ reader shut.
            cc (fill reader).place);
        records =
            noted_item _ h.conn h.there
            (cc) k.records;
      }
    where
      nothing_noted : (conn : Connection) → numbered n w.connections ≡ Some conn
          → record_of (given_room 0 (history buses w) (rows buses w) conn) ≡ record_of conn → Records r w → Records r (roomed 0 w)
      nothing_noted conn e t all =
          tells_same r w n _
          (λ other o. let is : conn ≡ other = let both : Some conn ≡ Some other = sym e ∙ o in cc in
          rw (← is) t)
          all

      noted_item : (item : Option Next) (conn : Connection) → numbered n w.connections ≡ Some conn
          → record_of (given_room 0 (history buses w) (rows buses w) conn) ≡ with_given (length r.steps) item (record_of conn) → Records r w
          → Records (gave n item r) (roomed 0 w)
      noted_item None conn e t all = nothing_noted conn e t all
      noted_item (Some (Told change)) conn e t all = tells_changed r w n conn _ _ e t all
      noted_item (Some (Listed row)) conn e t all = tells_changed r w n conn _ _ e t all
      noted_item (Some Settled) conn e t all = nothing_noted conn e t all

  -- bytes are taken
  pub taken_kept : (r : Recording) (held : Held) (w : World) (count : ℕ) → 0 < count → count ≤ length (unsent_at key held) → Kept r held w
      → Kept (with_sent n (take count (unsent_at key held)) r) (changed_at key (without_sent count) held) (roomed count w)
  taken_kept r held w count some few k =
      let s = k.stands in
      let h = found_at buses (λ n fed. fed) keys held w n key s named in
      let p = place_of h.reader (history buses w) h.conn in
      let f = fine_at w h.conn k.fine h.there in
      let over = over_is buses (history buses w) h.conn h.shut f in
      let here : unsent_at key held ≡ p.unsent = cc h.place in
      let still : is_over_place (history buses w) h.conn ≡ false =
      false_from_ne_true _ (λ e.
      let none = ap length (here ∙ place_given_up h.reader (history buses w) h.conn e) in omega (arith, some, few, none)) in
      let bytes_are : unsent_at key held ≡ unsent h.conn = here ∙ place_unsent h.reader (history buses w) h.conn still in
      let within : count ≤ length (unsent h.conn) = subst (λ bytes. count ≤ length bytes) bytes_are few in
      let room = room_unsent count (history buses w) (rows buses w) h.conn (over ∙ still) some within in
      record {
        fine = fine_roomed count w h.conn k.fine h.there h.shut;
        stands =
            stands_of buses order (λ n fed. fed) keys n key named held w h.conn _ _ s h.there
            (open_room count w h.conn) (fed_room count (history buses w) (rows buses w) h.conn)
            (λ reader shut. cc (taken_place reader _ h.conn count still));
        records =
            tells_changed r w n h.conn _
            (λ told. record told { sent = told.sent ++ take count _ }) h.there
            (cc (taken_told h.conn count))
            k.records;
      }

  -- no byte is taken
  pub none_kept : (r : Recording) (held : Held) (w : World) → Kept r held w
      → Kept (with_sent n [] r) (changed_at key (without_sent 0) held) w
  none_kept r held w k =
      let h = found_at buses (λ n fed. fed) keys held w n key k.stands named in
      let p = place_of h.reader _ h.conn in
      let same : changed_at key (without_sent 0) held ≡ held =
      ap (λ (o : Option Place). record held { places = changed_in key (without_sent 0) held.places o }) h.place
      ∙ ap (λ (places : List (Option Place)). record held { places = places }) (set_same _ key p h.place) in
      let t =
      tells_changed r w n h.conn (λ c. c) (λ told. record told { sent = told.sent ++ [] }) h.there
      (ap (λ bytes. record (record_of h.conn) { sent = bytes }) (sym (append-nil _))) k.records in
      record {
        fine = k.fine;
        stands = rw same k.stands;
        records = subst (λ (conns : List Connection). Records (with_sent n [] r) (record w { connections = conns })) (with_itself n _) t;
      }

  -- ---- rooms one after another

  sums : (w : World) (conn : Connection) → IsFine buses order w → numbered n w.connections ≡ Some conn → conn.shut ≡ None
      → AddsUp buses w conn
  sums w conn a there shut =
      let f = fine_at w conn a there in
      adds_up buses layout w conn shut (fits_open _ Anything _ conn shut f).0 f.within

  roomed_twice : (a b c : ℕ) (w : World) (conn : Connection) → numbered n w.connections ≡ Some conn
      → given_room b (history buses w) (rows buses w) (given_room a (history buses w) (rows buses w) conn)
      ≡ given_room c (history buses w) (rows buses w) conn
      → roomed b (roomed a w) ≡ roomed c w
  roomed_twice a b c w conn there e =
      ap (λ (conns : List Connection). record w { connections = conns })
      (with_twice n _ _ _ _
      (λ other o. let is : conn ≡ other = let both : Some conn ≡ Some other = sym there ∙ o in cc in
      rw (← is) e))

  roomed_same : (a b : ℕ) (w : World) (conn : Connection) → numbered n w.connections ≡ Some conn
      → given_room a (history buses w) (rows buses w) conn ≡ given_room b (history buses w) (rows buses w) conn → roomed a w ≡ roomed b w
  roomed_same a b w conn there e =
      ap (λ (conns : List Connection). record w { connections = conns })
      (sym (with_itself n _)
      ∙ with_twice n _ (λ c. c) _ _
      (λ other o. let is : conn ≡ other = let both : Some conn ≡ Some other = sym there ∙ o in cc in
      rw (← is) e))

  -- where nothing is found any room is the same
  nothing_left : (r : Recording) (held : Held) (w : World) (left : ℕ) → Kept r held w → unsent_at key (let_out key held) ≡ [] → 0 < left
      → roomed 0 w ≡ roomed left w
  nothing_left r held w left k none some =
      let h = found_at buses (λ n fed. fed) keys held w n key k.stands named in
      let up = sums w h.conn k.fine h.there h.shut in
      let l = filled_kept r held w k in
      let g = found_at buses (λ n fed. fed) keys (let_out key held) (roomed 0 w) n key l.stands named in
      let its : given_room 0 (history buses w) (rows buses w) h.conn ≡ g.conn =
      let both : Some (given_room 0 (history buses w) (rows buses w) h.conn) ≡ Some g.conn =
      sym (numbered_with n (given_room 0 (history buses w) (rows buses w)) w.connections
      ∙ ap (option_map (given_room 0 (history buses w) (rows buses w))) h.there)
      ∙ g.there in
      cc in
      let f = fine_at (roomed 0 w) g.conn l.fine g.there in
      let over = over_is buses (history buses w) g.conn g.shut f in
      let bytes : (place_of g.reader (history buses w) g.conn).unsent ≡ [] = cc g.place in
      roomed_same 0 left w h.conn h.there
      (⊎_elim (λ o. cc)
      (λ o.
      sym (up.none
      (ap unsent its
      ∙ sym (place_unsent g.reader (history buses w) g.conn
      (sym over ∙ ap (λ c. overran c (history buses w)) (sym its) ∙ up.overruns 0 ∙ o))
      ∙ bytes)
      left some))
      (cases_Bool (overran h.conn (history buses w))))

  -- after some of a room was taken, what is left to take leads to the same
  pub record IsRooming (w : World) (bytes left : ℕ) (r : Recording) (held : Held) : Type 0 where
    pub now : World
    pub kept : Kept r held now
    pub to_come : roomed left now ≡ roomed bytes w

  -- how many bytes are taken at once
  abbrev pub count_of : ℕ → Held → ℕ
  count_of left held = min (length (unsent_at key (let_out key held))) left

  abbrev pub recording_after : ℕ → Recording → Held → Recording
  recording_after left r held = with_sent n (take (count_of left held) (unsent_at key (let_out key held))) (gave n (item_at key held) r)

  abbrev pub held_after : ℕ → Held → Held
  held_after left held = changed_at key (without_sent (count_of left held)) (let_out key held)

  some_taken : (w : World) (bytes left : ℕ) (r : Recording) (held : Held) (k : IsRooming w bytes left r held) → 0 < count_of left held
      → Kept (recording_after left r held) (held_after left held) (roomed (count_of left held) (roomed 0 k.now))
  some_taken w bytes left r held k some =
      let few : count_of left held ≤ length (unsent_at key (let_out key held)) = omega arith in
      taken_kept (gave n (item_at key held) r) (let_out key held) (roomed 0 k.now) (count_of left held) some few
      (filled_kept r held k.now k.kept)

  pub room_goes_on : (w : World) (bytes left : ℕ) (r : Recording) (held : Held) → IsRooming w bytes left r held → 0 < count_of left held
      → count_of left held < left → IsRooming w bytes (left - count_of left held) (recording_after left r held) (held_after left held)
  room_goes_on w bytes left r held k some less =
      let h = found_at buses (λ n fed. fed) keys held k.now n key k.kept.stands named in
      let up = sums k.now h.conn k.kept.fine h.there h.shut in
      let count = count_of left held in
      let more : 0 < left - count = omega (arith, less) in
      let all : count + (left - count) ≡ left = omega (arith, less) in
      let both : roomed count (roomed 0 k.now) ≡ roomed count k.now =
      roomed_twice 0 count count k.now h.conn h.there (adds_none buses k.now h.conn up count some) in
      record {
        now = roomed count _;
        kept = some_taken w bytes left r held k some;
        to_come =
            cc (
              roomed_twice count _ left k.now h.conn h.there
                  (up.adds count _ more ∙ ap (λ m. given_room m (history buses k.now) (rows buses k.now) h.conn) all),
              k.to_come,
            );
      }

  pub room_taken : (w : World) (bytes left : ℕ) (r : Recording) (held : Held) → IsRooming w bytes left r held → 0 < count_of left held
      → left ≡ count_of left held → Kept (recording_after left r held) (held_after left held) (roomed bytes w)
  room_taken w bytes left r held k some all =
      let h = found_at buses (λ n fed. fed) keys held k.now n key k.kept.stands named in
      let up = sums k.now h.conn k.kept.fine h.there h.shut in
      let count = count_of left held in
      let both : roomed count (roomed 0 k.now) ≡ roomed count k.now =
      roomed_twice 0 count count k.now h.conn h.there (adds_none buses k.now h.conn up count some) in
      subst (λ (v : World). Kept (recording_after left r held) (held_after left held) v)
      (both ∙ ap (λ m. roomed m k.now) (sym all) ∙ k.to_come) (some_taken w bytes left r held k some)

  pub room_empty : (w : World) (bytes left : ℕ) (r : Recording) (held : Held) → IsRooming w bytes left r held → count_of left held ≡ 0
      → Kept (recording_after left r held) (held_after left held) (roomed bytes w)
  room_empty w bytes left r held k none =
      let l = filled_kept r held k.now k.kept in
      rw none
      (rw (← (end left refl ∙ k.to_come)) (none_kept (gave n (item_at key held) r) (let_out key held) (roomed 0 k.now) l))
    where
      end : (m : ℕ) → left ≡ m → roomed 0 k.now ≡ roomed left k.now
      end zero e = cc
      end (suc m) e =
          let some : 0 < left = omega (arith, e) in
          nothing_left r held k.now left k.kept (nil_from_length (unsent_at key (let_out key held)) (omega (arith, none, some))) some
