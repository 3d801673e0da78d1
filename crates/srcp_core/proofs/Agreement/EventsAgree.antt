-- A core that stands for a course, and the events of connections and moments.
use Rattle.srcp_core.proofs.Names.{◌≡◌, ◌≢◌, ⊎_elim, inl, inr, ◌⊎◌, ℕ, zero, suc, ◌+◌, ◌<◌, Bool, true, false, List, [], ◌∷◌, ◌++◌}
use Rattle.srcp_core.proofs.Names.{length, length-append, refl, ap, sym, ◌∙◌, subst, arith, nat_tests, false≢true, filter, Option, Some}
use Rattle.srcp_core.proofs.Names.{None, ◌||◌, nat_lt, slice_set, is_some, count_by, if◌then◌else◌, nothing_read, Bus, opening}
use Rattle.srcp_core.proofs.Names.{shown_rows, key_at, IsRisingBy, Open, At, Shut, Ended, Connection, History, is_open, overran}
use Rattle.srcp_core.proofs.Names.{unsent, World, numbered, at_connection, open_connection, if_open, did, history, fresh, counted}
use Rattle.srcp_core.proofs.Names.{fault, accepted, Place, Held, at, place_at, open_count, IsAdmitted, bytes_fault}
use Rattle.srcp_core.proofs.Names.{freed_place, freed_of, hung_up, advanced, key_of, without_key, StandsBy, StandsFor, IsAt, IsOwned}
use Rattle.srcp_core.proofs.Names.{place_of, Full, if_two, le-ltb, cases_Bool}
use Rattle.srcp_core.specs.Course.{bytes_fault as course_fault, fault_of}
use Rattle.srcp_core.specs.declared.record.CoreFault.TheVariants.{Memory as MemoryFault}
use Rattle.srcp_core.proofs.Agreement.LinesAgree.{IsFine}
use Rattle.srcp_core.proofs.Invariants.PlacesCover.{Where, Here, Away, where_is, place_set, place_set_here, no_place}
use Rattle.srcp_core.proofs.Agreement.NumbersAndKeys.{opens, one_if, opens_with, opens_push, length_with, length_without, without_here}
use Rattle.srcp_core.proofs.Agreement.NumbersAndKeys.{without_other, key_within, key_push, key_push_last, key_push_is, numbered_push_is}
use Rattle.srcp_core.proofs.Agreement.NumbersAndKeys.{numbered_within, Source, look_with}
use Rattle.srcp_core.proofs.Agreement.PlacesChange.{is_over_place, untold_shut, place_overran, place_unsent}
use Rattle.srcp_core.proofs.CourseLaws.ShownRegistry.{length_history}
use Rattle.srcp_core.proofs.CourseLaws.SessionsOfACourse.{at_number}
use Rattle.srcp_core.proofs.Agreement.StandsAfterAChange.{stands_as, Anything, Fine, AllFine, Found, found_at, stands_did, other_key}
use Rattle.srcp_core.proofs.Invariants.EveryPlaceIsTold.{count_by_cons}
use Rattle.srcp_core.proofs.CourseLaws.SessionsAreKept.{sound_at, stands_shut, concerning_start}

-- ---- what an overrun is

-- a connection that is no information session never overran
pub over_is : (buses : List Bus) (history : History) (conn : Connection) → conn.shut ≡ None → Fine buses history conn
    → overran conn history ≡ is_over_place history conn
over_is buses history conn shut f =
    ⊎_elim (λ e. rw e refl)
    (λ e. let p = f.plain e in cc (untold_shut conn history shut, p.1, p.0, concerning_start _ 0 history)) (cases_Bool conn.info)

module _ (buses : List Bus) where
  -- ---- what is refused

  -- a number that has no key is of no open connection
  pub absent_at : (read : ℕ → List ℕ → List ℕ) (keys : List (Option ℕ)) (held : Held) (w : World) (n : ℕ) → StandsBy buses read keys held w
      → key_of n keys ≡ None → open_connection w n ≡ None
  absent_at read keys held w n s k = by _ refl
    where
      by : (o : Option Connection) → numbered n w.connections ≡ o → if_open o ≡ None
      by None e = refl
      by (Some conn) e =
          ⊎_elim (λ o. let a = s.opens n conn e o in let bad : Some a.key ≡ None = sym a.named ∙ k in cc) (λ o. rw o refl)
          (cases_Bool (is_open conn))

  pub fault_same : (order : IsRisingBy key_at (shown_rows (opening buses 0))) (read : ℕ → List ℕ → List ℕ) (keys : List (Option ℕ))
      (held : Held) (w : World) (n key : ℕ) (piece : List ℕ)
      → IsFine buses order w → StandsBy buses read keys held w → key_of n keys ≡ Some key
      → bytes_fault key piece held ≡ course_fault buses w (open_connection w n) piece
  fault_same order read keys held w n key piece a s k =
      let h = found_at buses read keys held w n key s k in
      let f : Fine buses (history buses w) h.conn = at_number _ n _ h.conn a h.there in
      let over = over_is buses (history buses w) h.conn h.shut f in
      rw (h.place, h.opened, place_overran h.reader (history buses w) h.conn)
      (by h.conn.ended (is_over_place (history buses w) h.conn) (λ e. place_unsent h.reader (history buses w) h.conn e)
      ∙ ap (λ t. fault_of (h.conn.ended || t) (unsent h.conn) piece) (sym over))
    where
      by : {bytes other : List ℕ} (ended over : Bool) → (over ≡ false → bytes ≡ other)
          → fault_of (ended || over) bytes piece ≡ fault_of (ended || over) other piece
      by true over h = refl
      by false true h = refl
      by false false h = cc (h refl)

  pub full_fault : (keys : List (Option ℕ)) (held : Held) (w : World) → StandsFor buses keys held w → open_count held ≡ 64
      → (granted : Bool) → fault buses w (Open granted) ≡ Some Full
  full_fault keys held w s e granted =
      let c = s.count in let many : nat_lt (length (filter is_open w.connections)) 64 ≡ false = le-ltb _ 64 (omega arith) in cc

  -- if fewer than 64 connections are open in the core, fewer than 64 are in the course
  pub free_room : (keys : List (Option ℕ)) (held : Held) (w : World) → StandsFor buses keys held w → open_count held < 64
      → nat_lt (length (filter is_open w.connections)) 64 ≡ true
  free_room keys held w s e = let c = s.count in grind (arith, nat_tests)

  pub free_fault : (keys : List (Option ℕ)) (held : Held) (w : World) → StandsFor buses keys held w → open_count held < 64
      → (granted : Bool) → fault buses w (Open granted) ≡ (if granted then None else Some MemoryFault)
  free_fault keys held w s e granted = cc (free_room keys held w s e)

  -- ---- one more event, and what is refused

  pub stands_counted : (keys : List (Option ℕ)) (held : Held) (w : World) → StandsFor buses keys held w
      → StandsFor buses keys held (counted w)
  stands_counted keys held w s = stands_as buses (λ n fed. fed) keys held w _ _ _ _ _ _ _ s.moment s.last_id s

  -- ---- a moment

  pub stands_advanced : (keys : List (Option ℕ)) (held : Held) (w : World) (moment : ℕ) → AllFine buses w → StandsFor buses keys held w
      → StandsFor buses keys (advanced moment held) (accepted buses (At moment) w)
  stands_advanced keys held w moment fine s =
      rw (← s.moment)
      (stands_did buses (λ n fed. fed) keys _ _ _ fine
      (stands_as buses (λ n fed. fed) keys held w _ _ _ _ _ _ _ refl s.last_id s))

  -- ---- a connection is opened

  pub stands_opened : (keys : List (Option ℕ)) (key : ℕ) (old new : Held) (w : World) → IsAdmitted key old new → StandsFor buses keys old w
      → StandsFor buses (keys ++ Some key ∷ []) new (accepted buses (Open true) w)
  stands_opened keys key old new w a s = record {
    layout = cc (a.rest, s.layout);
    rows = cc (a.rest, s.rows);
    moment = cc (a.rest, s.moment);
    last_id = cc (a.rest, s.last_id);
    count = cc (a.count, s.count, opens_push w.connections fresh refl);
    long = cc (length-append keys _, s.long, length-append _ _);
    opens = λ m conn e o. ⊎_elim (λ h. before m conn h o) (λ h. last m conn h.0 h.1) (numbered_push_is m _ fresh conn e);
    closed =
        λ m conn e o.
        ⊎_elim (λ h. shuts m conn h o) (λ h. let bad : true ≡ false = cc h.1 in cc)
        (numbered_push_is m _ fresh conn e);
    apart = λ m n other e f. apart m n other (key_push_is m keys key other e) (key_push_is n keys key other f);
    owned = λ other p e. owner other p e (where_is other key);
  }
    where
      -- a place that has a number is taken, so it is not the new one
      used : (m other : ℕ) → key_of m keys ≡ Some other → other ≢ key
      used m other e z =
          let h = found_at buses (λ n fed. fed) keys old w m other s e in
          let bad : Some (place_of h.reader (history buses w) h.conn) ≡ None = cc (h.place, a.was_free) in
          cc

      before : (m : ℕ) (conn : Connection) → numbered m w.connections ≡ Some conn → is_open conn ≡ true
          → IsAt (keys ++ Some key ∷ []) new.places (history buses w) m conn conn.fed
      before m conn e o =
          let b = s.opens m conn e o in
          let l = (key_within m keys b.key b.named).1 in
          record {
            key = b.key;
            reader = b.reader;
            named = key_push m keys _ l ∙ b.named;
            place = a.others b.key (used m b.key b.named) ∙ b.place;
            reads = b.reads;
          }

      last : (m : ℕ) (conn : Connection) → m ≡ suc (length w.connections) → fresh ≡ conn
          → IsAt (keys ++ Some key ∷ []) new.places (history buses w) m conn conn.fed
      last m conn e same =
          rw (← same)
          (record {
            key = key;
            reader = nothing_read;
            named = ap (λ j. key_of j (keys ++ Some key ∷ [])) (e ∙ ap (λ k. suc k) (sym s.long)) ∙ key_push_last keys _;
            place = a.fresh;
            reads = refl;
          })

      shuts : (m : ℕ) (conn : Connection) → numbered m w.connections ≡ Some conn → is_open conn ≡ false
          → key_of m (keys ++ Some key ∷ []) ≡ None
      shuts m conn e o =
          let l = (numbered_within m _ conn e).1 in
          let g = s.long in
          key_push m keys _ (omega (arith, l, g)) ∙ s.closed m conn e o

      apart : (m n other : ℕ) → (key_of m keys ≡ Some other) ⊎ ((m ≡ suc (length keys)) × (other ≡ key))
          → (key_of n keys ≡ Some other) ⊎ ((n ≡ suc (length keys)) × (other ≡ key)) → m ≡ n
      apart m n other (inl e) (inl f) = s.apart m n other e f
      apart m n other (inl e) (inr f) = absurd (used m other e f.1)
      apart m n other (inr e) (inl f) = absurd (used n other f e.1)
      apart m n other (inr e) (inr f) = e.0 ∙ sym f.0

      owner : (other : ℕ) (p : Place) → at new other ≡ Some p → Where other key → IsOwned (keys ++ Some key ∷ []) other
      owner other p e (Here z) = record { number = suc (length keys); named = cc (key_push_last keys _) }
      owner other p e (Away d) =
          let o = s.owned other p (sym (a.others other d) ∙ e) in
          let l = (key_within o.number keys other o.named).1 in
          record { number = o.number; named = key_push o.number keys _ l ∙ o.named }

  -- ---- a connection is shut

  none_count : (places : List (Option Place)) (key : ℕ) (p : Place) → place_at places key ≡ Some p
      → count_by is_some (slice_set places key None) + 1 ≡ count_by is_some places
  none_count [] key p h = absurd (no_place key p h)
  none_count (None ∷ places) zero p h = cc
  none_count (Some x ∷ places) zero p h =
      let a = count_by_cons is_some None places in
      let b = count_by_cons is_some (Some x) places in
      omega (arith, a, b)
  none_count (x ∷ places) (suc key) p h =
      let a = count_by_cons is_some x (slice_set places key None) in
      let b = count_by_cons is_some x places in
      let ih = none_count places key p h in
      omega (arith, a, b, ih)

  stands_freed : (keys : List (Option ℕ)) (held : Held) (w : World) (n key k : ℕ) → StandsFor buses keys held w → key_of n keys ≡ Some key
      → StandsFor buses (without_key n keys) (freed_place key held) (at_connection n (λ c. record c { shut = Some k }) w)
  stands_freed keys held w n key k s named = record {
    layout = s.layout;
    rows = s.rows;
    moment = s.moment;
    last_id = s.last_id;
    count = fewer;
    long = length_without n keys ∙ s.long ∙ sym (length_with n f _);
    opens = λ m conn e o. at_all m conn o (look_with m n f w.connections conn e);
    closed = λ m conn e o. shuts m conn o (look_with m n f w.connections conn e);
    apart = λ m l other a b. s.apart m l other (was m other a (where_is m n)) (was l other b (where_is l n));
    owned = λ other p e. owner other p e (where_is other key);
  }
    where
      f : Connection → Connection
      f c = record c { shut = Some k }

      found : Found buses (λ n fed. fed) held w n key
      found = found_at buses (λ n fed. fed) keys held w n key s named

      old : Place
      old = place_of found.reader (history buses w) found.conn

      there : place_at held.places key ≡ Some old
      there = found.place

      fewer : count_by is_some (slice_set held.places key None) ≡ opens (at_connection n (λ c. record c { shut = Some k }) w).connections
      fewer =
          let a = none_count held.places key old there in
          let b = opens_with n f w.connections found.conn found.there in
          let c = s.count in
          let o = ap one_if found.up in
          omega (arith, a, b, c, o)

      at_all : (m : ℕ) (conn : Connection) → is_open conn ≡ true → Source m n f w.connections conn
          → IsAt (without_key n keys) (slice_set held.places key None) (history buses w) m conn conn.fed
      at_all m conn o from =
          ⊎_elim
          (λ h.
          let a = s.opens m from.x from.there (cc h.1) in
          rw h.1
          (record {
            key = a.key;
            reader = a.reader;
            named = without_other n m keys h.0 ∙ a.named;
            place =
                place_set _ key a.key None (other_key buses (λ n fed. fed) keys held w n key s named m a.key h.0 a.named)
                ∙ a.place;
            reads = a.reads;
          }))
          (λ h. let bad : false ≡ true = cc h.1 in absurd (false≢true bad))
          from.from

      shuts : (m : ℕ) (conn : Connection) → is_open conn ≡ false → Source m n f w.connections conn → key_of m (without_key n keys) ≡ None
      shuts m conn o from =
          ⊎_elim
          (λ h. without_other n m keys h.0 ∙ s.closed m from.x from.there (cc h.1))
          (λ h. cc (h.0, without_here n keys))
          from.from

      was : (m other : ℕ) → key_of m (without_key n keys) ≡ Some other → Where m n → key_of m keys ≡ Some other
      was m other e (Here z) =
          let bad : None ≡ Some other = cc (without_here n keys) in cc
      was m other e (Away d) = sym (without_other n m keys d) ∙ e

      owner : (other : ℕ) (p : Place) → place_at (slice_set held.places key None) other ≡ Some p → Where other key
          → IsOwned (without_key n keys) other
      owner other p e (Here z) =
          let bad : None ≡ Some p = cc (place_set_here _ key old None there) in
          cc
      owner other p e (Away d) =
          let o = s.owned other p (sym (place_set _ key other None d) ∙ e) in
          record {
            number = o.number;
            named =
                without_other n o.number keys
                (λ z. d (let both : Some other ≡ Some key = cc o.named in cc))
                ∙ o.named;
          }

  pub stands_hung_up : (order : IsRisingBy key_at (shown_rows (opening buses 0))) (keys : List (Option ℕ)) (held : Held) (w : World)
      (n key : ℕ)
      → IsFine buses order w → StandsFor buses keys held w → key_of n keys ≡ Some key
      → StandsFor buses (without_key n keys) (hung_up key held) (accepted buses (Shut n) w)
  stands_hung_up order keys held w n key a s named =
      let h = found_at buses (λ n fed. fed) keys held w n key s named in
      let freed = stands_freed keys held w n key (length w.steps) s named in
      let fine =
      sound_at buses order Anything _ n (λ c. record c { shut = Some (length w.steps) }) w
      (λ other k g.
      let same : h.conn ≡ other = let both : Some h.conn ≡ Some other = sym h.there ∙ k in cc in
      stands_shut _ order Anything _ _ _ other (sym (length_history _ w.steps)) (cc) g)
      a in
      rw (h.place, h.opened)
      (if_two (StandsFor buses (without_key n keys)) _ _ _ _ _ freed
      (subst
      (λ m. StandsFor buses (without_key n keys) (freed_of h.conn.session (freed_place key held)) (did (Ended h.conn.session m) closed))
      s.moment
      (stands_did buses (λ n fed. fed) (without_key n keys) (freed_place key held) closed (Ended h.conn.session held.moment)
      (λ m c e. at_number (Fine buses (history buses closed)) m closed.connections c fine e) freed)))
    where
      closed : World
      closed = at_connection n (λ c. record c { shut = Some (length w.steps) }) w
