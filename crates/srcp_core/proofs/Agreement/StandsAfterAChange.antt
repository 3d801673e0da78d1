-- A core that stands for a course, after the place of one connection changed, and after a step.
use Rattle.srcp_rules.specs.Steps.{stepped}
use Rattle.srcp_core.proofs.Names.{◌≡◌, ◌≢◌, ℕ, ⊎_elim, true, false, List, [], ◌∷◌, ◌++◌, map, refl, ap, sym, ◌∙◌, arith, fold-append}
use Rattle.srcp_core.proofs.Names.{Option, Some, None, slice_set, Change, Reading, StandsAt, Bus, Update, opening, shown_rows}
use Rattle.srcp_core.proofs.Names.{Refusal, Step, Connection, History, is_open, World, numbered, at_connection, open_connection, did}
use Rattle.srcp_core.proofs.Names.{updates_of, state, history, Place, Held, at, place_at, told_each, carried, changed_at, key_of, StandsBy}
use Rattle.srcp_core.proofs.Names.{IsAt, IsOwned, place_of, Item, cases_Bool}
use Rattle.srcp_core.proofs.Invariants.PlacesCover.{Where, Here, Away, where_is, place_set, place_set_here, set_count, told_each_count}
use Rattle.srcp_core.proofs.Agreement.NumbersAndKeys.{opens_same, length_with, key_within, numbered_none, look_with}
use Rattle.srcp_core.proofs.Agreement.PlacesChange.{told_each_at, told_place_of}
use Rattle.srcp_core.proofs.CourseLaws.ShownRegistry.{history_push}
use Rattle.srcp_core.proofs.CourseLaws.RoomGivesWhatIsOwed.{Stands}
use Rattle.srcp_core.proofs.CourseLaws.SessionsOfACourse.{open_shut, fits_open}

abbrev pub Anything : History → ℕ → List Item → Option ℕ → Type 0
Anything history go items end = Unit {0}

-- the laws of one connection
abbrev pub Fine : List Bus → History → Connection → Type 0
Fine buses history conn = Stands (shown_rows (opening buses 0)) Anything history conn

abbrev pub AllFine : List Bus → World → Type 0
AllFine buses w = (n : ℕ) (conn : Connection) → numbered n w.connections ≡ Some conn → Fine buses (history buses w) conn

module _ (buses : List Bus) where
  -- the connection of a number that has a key
  pub record Found (read : ℕ → List ℕ → List ℕ) (held : Held) (w : World) (n key : ℕ) : Type 0 where
    pub conn : Connection
    pub reader : Reading
    pub there : numbered n w.connections ≡ Some conn
    pub up : is_open conn ≡ true
    pub shut : conn.shut ≡ None
    pub opened : open_connection w n ≡ Some conn
    pub place : at held key ≡ Some (place_of reader (history buses w) conn)
    pub reads : StandsAt (read n conn.fed) reader

  pub found_at : (read : ℕ → List ℕ → List ℕ) (keys : List (Option ℕ)) (held : Held) (w : World) (n key : ℕ)
      → StandsBy buses read keys held w → key_of n keys ≡ Some key → Found read held w n key
  found_at read keys held w n key s k = by _ refl
    where
      by : (c : Option Connection) → numbered n w.connections ≡ c → Found read held w n key
      by None e =
          let within = key_within n keys key k in
          let short = numbered_none n _ within.0 e in
          let long = s.long in
          let most = within.1 in
          absurd (omega (arith, short, long, most))
      by (Some conn) e =
          ⊎_elim
          (λ o.
          let a = s.opens n conn e o in
          let same : a.key ≡ key = let both : Some a.key ≡ Some key = sym a.named ∙ k in cc in
          record {
            conn = conn;
            reader = a.reader;
            there = e;
            up = o;
            shut = open_shut _ o;
            opened = cc;
            place = cc a.place;
            reads = a.reads;
          })
          (λ o. let bad : Some key ≡ None = sym k ∙ s.closed n conn e o in cc) (cases_Bool (is_open conn))

  -- a world and a core of which something else changes than the rows, the slots and the connections
  pub stands_as : (read : ℕ → List ℕ → List ℕ) (keys : List (Option ℕ)) (held : Held) (w : World) (moment last denied m l events : ℕ)
      (refused : List Refusal)
      → moment ≡ m → last ≡ l → StandsBy buses read keys held w
      → StandsBy buses read keys (record held { moment = moment; last_id = last; denied = denied })
      (record w { moment = m; last_id = l; refused = refused; events = events })
  stands_as read keys held w moment last denied m l events refused e f s = assumption (e, f)

  -- another number has another key
  pub other_key : (read : ℕ → List ℕ → List ℕ) (keys : List (Option ℕ)) (held : Held) (w : World) (n key : ℕ)
      → StandsBy buses read keys held w → key_of n keys ≡ Some key → (m other : ℕ) → m ≢ n → key_of m keys ≡ Some other → other ≢ key
  other_key read keys held w n key s named m other d e z = d (s.apart m n key (cc) named)

  -- ---- one connection

  pub stands_changed : (read later : ℕ → List ℕ → List ℕ) (keys : List (Option ℕ)) (held : Held) (w : World) (n key : ℕ) (conn : Connection)
      (f : Connection → Connection) (p : Place) (reader : Reading)
      → StandsBy buses read keys held w → key_of n keys ≡ Some key → numbered n w.connections ≡ Some conn → is_open conn ≡ true
      → is_open (f conn) ≡ true
      → p ≡ place_of reader (history buses w) (f conn) → StandsAt (later n (f conn).fed) reader
      → ((m : ℕ) (bytes : List ℕ) → m ≢ n → later m bytes ≡ read m bytes)
      → StandsBy buses later keys (record held { places = slice_set held.places key (Some p) }) (at_connection n f w)
  stands_changed read later keys held w n key conn f p reader s k there up ups is reads same_read = record {
    layout = s.layout;
    rows = s.rows;
    moment = s.moment;
    last_id = s.last_id;
    count = set_count _ key old p was ∙ s.count ∙ sym (opens_same n f _ (λ x e. cc));
    long = s.long ∙ sym (length_with n f _);
    opens = λ m c e o. at_all m c e o;
    closed = λ m c e o. shuts m c e o;
    apart = s.apart;
    owned = λ other q e. owner other q e (where_is other key);
  }
    where
      found : Found read held w n key
      found = found_at read keys held w n key s k

      old : Place
      old = place_of found.reader (history buses w) found.conn

      was : place_at held.places key ≡ Some old
      was = found.place

      at_all : (m : ℕ) (c : Connection) → numbered m (at_connection n f w).connections ≡ Some c → is_open c ≡ true
          → IsAt keys (slice_set held.places key (Some p)) (history buses w) m c (later m c.fed)
      at_all m c e o =
          let from = look_with m n f _ c e in
          ⊎_elim
          (λ h.
          let a = s.opens m from.x from.there (cc h.1) in
          rw h.1
          (record {
            key = a.key;
            reader = a.reader;
            named = a.named;
            place = place_set _ key a.key _ (other_key read keys held w n key s k m a.key h.0 a.named) ∙ a.place;
            reads = rw (same_read m _ h.0) a.reads;
          }))
          (λ h.
          let same : conn ≡ from.x =
          let both : Some conn ≡ Some from.x = cc (h.0, from.there) in cc in
          let image : c ≡ f conn = cc h.1 in
          rw image
          (record {
            key = key;
            reader = reader;
            named = cc h.0;
            place = cc (place_set_here _ key old _ was);
            reads = rw h.0 reads;
          }))
          from.from

      shuts : (m : ℕ) (c : Connection) → numbered m (at_connection n f w).connections ≡ Some c → is_open c ≡ false → key_of m keys ≡ None
      shuts m c e o =
          let from = look_with m n f _ c e in
          ⊎_elim
          (λ h. s.closed m from.x from.there (cc h.1))
          (λ h.
          let same : conn ≡ from.x =
          let both : Some conn ≡ Some from.x = cc (h.0, from.there) in cc in
          let bad : true ≡ false = cc h.1 in
          cc)
          from.from

      owner : (other : ℕ) (q : Place) → place_at (slice_set held.places key (Some p)) other ≡ Some q → Where other key → IsOwned keys other
      owner other q e (Here z) = record { number = n; named = cc }
      owner other q e (Away d) = s.owned other q (sym (place_set _ key other _ d) ∙ e)

  -- the same change of the place and of the connection
  pub stands_at : (read : ℕ → List ℕ → List ℕ) (keys : List (Option ℕ)) (held : Held) (w : World) (n key : ℕ) (f : Connection → Connection)
      (change : Place → Place)
      → StandsBy buses read keys held w → key_of n keys ≡ Some key
      → ((conn : Connection) (reader : Reading) → numbered n w.connections ≡ Some conn → conn.shut ≡ None
      → (is_open (f conn) ≡ is_open conn)
      × (((f conn).fed ≡ conn.fed) × (change (place_of reader (history buses w) conn) ≡ place_of reader (history buses w) (f conn))))
      → StandsBy buses read keys (changed_at key change held) (at_connection n f w)
  stands_at read keys held w n key f change s k law =
      let h = found_at read keys held w n key s k in
      let l = law h.conn h.reader h.there h.shut in
      rw h.place
      (stands_changed read read keys held w n key h.conn f _ h.reader s k h.there h.up
      (l.0 ∙ h.up) l.1.1
      (rw l.1.0 h.reads) (λ m bytes d. refl))

  -- ---- a step

  pub stands_did : (read : ℕ → List ℕ → List ℕ) (keys : List (Option ℕ)) (held : Held) (w : World) (step : Step) → AllFine buses w
      → StandsBy buses read keys held w
      → StandsBy buses read keys (carried (updates_of held.rows step) held) (did step w)
  stands_did read keys held w step fine s =
      rw (← (ap (λ rows. updates_of rows step) (sym s.rows))) (record {
        layout = s.layout;
        rows = cc (s.rows, fold-append stepped _ w.steps _);
        moment = s.moment;
        last_id = s.last_id;
        count = told_each_count changes _ ∙ s.count;
        long = s.long;
        opens = λ n conn e o. moved n conn e o;
        closed = s.closed;
        apart = s.apart;
        owned = λ key p e. owner key p e _ refl;
      })
    where
      updates : List Update
      updates = updates_of (state buses w) step

      changes : List Change
      changes = map (λ update. update.change) updates

      later : history buses (did step w) ≡ history buses w ++ changes ∷ []
      later = history_push _ w.steps step

      moved : (n : ℕ) (conn : Connection) → numbered n w.connections ≡ Some conn → is_open conn ≡ true
          → IsAt keys (told_each changes held.places) (history buses (did step w)) n conn (read n conn.fed)
      moved n conn e o =
          let a = s.opens n conn e o in
          let shut = open_shut _ o in
          let fits = (fits_open (shown_rows (opening buses 0)) Anything _ conn shut (fine n conn e)).0 in
          record {
            key = a.key;
            reader = a.reader;
            named = a.named;
            place =
                cc (told_each_at changes held.places a.key, a.place, told_place_of _ a.reader conn _ changes shut fits, later);
            reads = a.reads;
          }

      owner : (key : ℕ) (p : Place) → place_at (told_each changes held.places) key ≡ Some p → (o : Option Place)
          → place_at held.places key ≡ o → IsOwned keys key
      owner key p e None z =
          let bad : None ≡ Some p = cc (told_each_at changes _ key) in cc
      owner key p e (Some q) z = s.owned key q z
