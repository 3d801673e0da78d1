-- The law of every session, kept by every event.
pub use Rattle.srcp_core.proofs.Agreement.NumbersAndKeys.{opened}
use Rattle.srcp_core.proofs.Names.{◌≡◌, ℕ, zero, suc, min, ◌+◌, ◌≤◌, Bool, true, false, List, [], ◌∷◌, ◌++◌, map, take, length, refl, sym}
use Rattle.srcp_core.proofs.Names.{◌∙◌, subst, arith, append-nil, length-append, take_all, take-append-le, length_push, filter, flat_map}
use Rattle.srcp_core.proofs.Names.{enumerate_from, AllByRecursion, option_or, ◌&&◌, Option, Some, None, if◌then◌else◌, IfSome, reply_line}
use Rattle.srcp_core.proofs.Names.{Change, Start, Reply, Shown, all_weaker, key_at, Bus, opening, shown_rows, concerns, changed_all, Next}
use Rattle.srcp_core.proofs.Names.{IsRisingBy, Event, Step, Heard, Connection, History, heard, fitting, available, exhausts}
use Rattle.srcp_core.proofs.Names.{items_of, given_room, owed, unsent, text, World, history_from, fresh, start, numbered, cond_both}
use Rattle.srcp_core.proofs.Names.{with_numbered, at_connection, did, replied, is_info, rows, history, entered, answered, course, Item}
use Rattle.srcp_info.proofs.ClientLaws.{rising_fold}
use Rattle.srcp_core.proofs.CourseLaws.Histories.{rows_after, part, concerning_by, cursor_by}
use Rattle.srcp_core.proofs.CourseLaws.ShownRegistry.{shown_after, history_push, length_history}
use Rattle.srcp_core.proofs.CourseLaws.RoomGivesWhatIsOwed.{Stands, fitting_prefix, exhausted, also_done, took_within, fitting_none}
use Rattle.srcp_core.proofs.CourseLaws.EventsKeep.{IsKept, kept_all, kept_answered}
use Rattle.srcp_core.proofs.CourseLaws.ItemsFitHistory.{Fits, Law, gives, owed_by, fits_push}
use Rattle.srcp_core.proofs.Names.{all_append, cases_Bool, ⊎_elim}

-- ---- one connection among all

-- what holds of each holds of each after a change of one that keeps it
pub all_numbered : (P : Connection → Type 0) (n : ℕ) (change : Connection → Connection) (conns : List Connection)
    → ((conn : Connection) → numbered n conns ≡ Some conn → P conn → P (change conn)) → AllByRecursion P conns
    → AllByRecursion P (with_numbered n change conns)
all_numbered P n change [] f a = tt
all_numbered P zero change (conn ∷ conns) f a = a
all_numbered P (suc zero) change (conn ∷ conns) f a = (f conn refl a.0, a.1)
all_numbered P (suc (suc n)) change (conn ∷ conns) f a = (a.0, all_numbered P (suc n) change conns f a.1)

pub all_push : {X : Type 0} (P : X → Type 0) (xs : List X) (x : X) → AllByRecursion P xs → P x → AllByRecursion P (xs ++ x ∷ [])
all_push P xs x a p = all_append P xs (x ∷ []) a (p, tt)

-- ---- what keeps the law of one connection

pub none_concern : (changes : List Change) → filter (concerns Start) changes ≡ []
none_concern [] = refl
none_concern (change ∷ changes) = none_concern changes

pub concerning_start : (go n : ℕ) (history : History) → flat_map (part go (cursor_by None [])) (enumerate_from n history) ≡ []
concerning_start go n [] = refl
concerning_start go n (changes ∷ history) =
    cc (none _ changes, concerning_start go (n + 1) history)
  where
    none : (t : Bool) (changes : List Change) → (if t then filter (concerns Start) changes else []) ≡ []
    none true changes = none_concern changes
    none false changes = refl

pub in_order_after : (first : List Shown) (history : History) → IsRisingBy key_at first → IsRisingBy key_at (rows_after first history)
in_order_after first [] r = r
in_order_after first (changes ∷ history) r = in_order_after (changed_all changes first) history (rising_fold changes first r)

pub owed_open : (first : List Shown) (history : History) (rows : List Shown) (conn : Connection) → conn.shut ≡ None
    → rows ≡ rows_after first history
    → owed conn history rows ≡ (if conn.info then owed_by conn.go_step conn.items conn.done history (rows_after first history) else [])
owed_open first history rows conn shut same = rw shut (cc)

module _ (first : List Shown) (ordered : IsRisingBy key_at first) (P : History → ℕ → List Item → Option ℕ → Type 0)
    (law : Law first P) where
  abbrev Both : History → ℕ → List Item → Option ℕ → Type 0
  Both history go items done = Fits first history go items done × P history go items done

  both_push : (history : History) (changes : List Change) (go : ℕ) (items : List Item) (done : Option ℕ) → Both history go items done
      → Both (history ++ changes ∷ []) go items done
  both_push history changes go items done b = (
    fits_push first history changes go items done b.0,
    law.push history changes go items done (in_order_after first history ordered) b.0 b.1,
  )

  pub stands_push : (history : History) (changes : List Change) (conn : Connection) → Stands first P history conn
      → Stands first P (history ++ changes ∷ []) conn
  stands_push history changes conn s = record {
    fits = by conn.shut refl;
    before = later conn.shut s.before;
    plain = s.plain;
    within = s.within;
  }
    where
      later : (shut : Option ℕ) → IfSome shut (λ n. n ≤ length history) → IfSome shut (λ n. n ≤ length (history ++ changes ∷ []))
      later None b = tt
      later (Some n) b = let up = length_push history changes in omega arith

      by : (shut : Option ℕ) → conn.shut ≡ shut → Both (heard conn.shut (history ++ changes ∷ [])) conn.go_step conn.items conn.done
      by None e =
          rw e (both_push history changes _ _ _ (subst (λ s. Both (heard s history) conn.go_step conn.items conn.done) e s.fits))
      by (Some n) e =
          let low : n ≤ length history = subst (λ s. IfSome s (λ n. n ≤ length history)) e s.before in
          let same : take n (history ++ changes ∷ []) ≡ take n history = take-append-le n history _ low in
          rw e (rw same (subst (λ s. Both (heard s history) conn.go_step conn.items conn.done) e s.fits))

  -- a connection that was just opened, and one that begins a session
  fits_fresh : (history : History) (go : ℕ) → go ≤ length history → Fits first history go [] None
  fits_fresh history go h =
      let none : concerning_by go (cursor_by None []) history ≡ [] = concerning_start go 0 history in
      let some : 0 ≤ length (concerning_by go (cursor_by None []) history) = omega arith in
      record {
        numbers = tt;
        done_by = tt;
        began = h;
        enough = some;
      }

  stands_fresh : (history : History) → Stands first P history fresh
  stands_fresh history = let h : 0 ≤ length history = omega arith in record {
    fits = (fits_fresh history 0 h, law.fresh history 0 h);
    before = tt;
    plain = λ _. (refl, refl);
    within = omega arith;
  }

  stands_entered : (history : History) (id : ℕ) (info : Bool) (go : ℕ) (conn : Connection) → go ≤ length history → conn.shut ≡ None
      → conn.info ≡ false → Stands first P history conn → Stands first P history (record conn { session = id; info = info; go_step = go })
  stands_entered history id info go conn h shut plain s =
      let p = s.plain plain in
      record {
        fits = rw shut
            (rw p.0
            (rw p.1 (fits_fresh history go h, law.fresh history go h)));
        before = s.before;
        plain = λ _. p;
        within = s.within;
      }

  pub stands_shut : (history : History) (n : ℕ) (conn : Connection) → n ≡ length history → conn.shut ≡ None → Stands first P history conn
      → Stands first P history (record conn { shut = Some n })
  stands_shut history n conn e shut s =
      let low : n ≤ length history = omega arith in
      let high : length history ≤ n = omega arith in
      record {
        fits =
            rw (take_all n history high)
            (subst (λ x. Both (heard x history) conn.go_step conn.items conn.done) shut s.fits);
        before = low;
        plain = s.plain;
        within = s.within;
      }

  -- room for bytes, of whatever is owed
  both_took : (history : History) (go : ℕ) (items : List Item) (done : Option ℕ) (bytes : ℕ) (left : List ℕ) (nexts : List Next)
      → IsRisingBy key_at (rows_after first history) → Both history go items done
      → owed_by go items done history (rows_after first history) ≡ nexts
      → Both history go (items ++ items_of (length history) (fitting bytes left nexts))
      (if exhausts bytes left nexts then option_or done (Some (length history)) else done)
  both_took history go items done bytes left nexts order f e =
      ⊎_elim
      (λ t.
      let all : fitting bytes left nexts ≡ nexts = exhausted bytes left nexts t in
      let g = gives first P law history go items done nexts [] order f.0 f.1 (e ∙ sym (append-nil nexts)) in
      rw (t, all) (also_done first P law history go _ done order g))
      (λ t.
      let prefix = fitting_prefix bytes left nexts in
      let g = gives first P law history go items done _ _ order f.0 f.1 (e ∙ prefix.whole) in
      rw t (g.fits, g.also))
      (cases_Bool (exhausts bytes left nexts))

  stands_took_by : (history : History) (bytes taken : ℕ) (left : List ℕ) (conn : Connection) (info : Bool) (nexts : List Next)
      → IsRisingBy key_at (rows_after first history) → conn.shut ≡ None → Stands first P history conn
      → taken ≤ length (conn.out ++ text (conn.items ++ items_of (length history) (fitting bytes left nexts))) → conn.info ≡ info
      → nexts ≡ (if info then owed_by conn.go_step conn.items conn.done history (rows_after first history) else [])
      → Stands first P history
      (record conn {
        items = conn.items ++ items_of (length history) (fitting bytes left nexts);
        taken = taken;
        done = if info && exhausts bytes left nexts then option_or conn.done (Some (length history)) else conn.done;
      })
  stands_took_by history bytes taken left conn true nexts order shut s within e n = record {
    fits =
        rw shut
        (both_took history _ _ _ bytes left nexts order
        (subst (λ x. Both (heard x history) conn.go_step conn.items conn.done) shut s.fits) (sym n));
    before = s.before;
    plain = λ no. let bad : true ≡ false = cc in cc;
    within = within;
  }
  stands_took_by history bytes taken left conn false nexts order shut s within e n =
      let nothing : conn.items ++ items_of (length history) (fitting bytes left nexts) ≡ conn.items =
      cc (fitting_none bytes left, append-nil _) in
      record {
        fits = rw nothing s.fits;
        before = s.before;
        plain = λ no. let p = s.plain no in (cc p.0, p.1);
        within = within;
      }

  pub stands_room : (history : History) (rows : List Shown) (bytes : ℕ) (conn : Connection) → IsRisingBy key_at (rows_after first history)
      → rows ≡ rows_after first history → conn.shut ≡ None → Stands first P history conn
      → Stands first P history (given_room bytes history rows conn)
  stands_room history rows bytes conn order same shut s =
      cond_both _ _ _ (Stands first P history) (λ _. s)
      (λ _. stands_took_by history bytes (conn.taken + min bytes (length (available (unsent conn) (owed conn history rows))))
      (unsent conn) conn conn.info (owed conn history rows) order shut s
      (took_within bytes (length history) (owed conn history rows) conn s.within) refl (owed_open first history rows conn shut same))

module _ (buses : List Bus) (order : IsRisingBy key_at (shown_rows (opening buses 0))) (P : History → ℕ → List Item → Option ℕ → Type 0)
    (law : Law (shown_rows (opening buses 0)) P) where
  -- the law of each connection, by the steps so far
  abbrev pub Sound : List Step → List Connection → Type 0
  Sound steps conns = AllByRecursion (Stands (shown_rows (opening buses 0)) P (history_from (opening buses 0) steps)) conns

  abbrev pub IsSound : World → Type 0
  IsSound w = Sound w.steps w.connections

  pub sound_did : (step : Step) (w : World) → IsSound w → IsSound (did step w)
  sound_did step w a =
      rw (history_push _ w.steps step)
      (all_weaker _ _
      (λ conn s.
      stands_push _ order P law _
      (map (λ update. update.change) _) conn s) _ a)

  -- a change of one connection
  pub sound_at : (n : ℕ) (change : Connection → Connection) (w : World)
      → ((conn : Connection) → numbered n w.connections ≡ Some conn
      → Stands (shown_rows (opening buses 0)) P (history_from (opening buses 0) w.steps) conn
      → Stands (shown_rows (opening buses 0)) P (history_from (opening buses 0) w.steps) (change conn))
      → IsSound w → IsSound (at_connection n change w)
  sound_at n change w f a =
      all_numbered (Stands (shown_rows (opening buses 0)) P (history_from (opening buses 0) w.steps)) n change w.connections f a

  pub sound_replied : (n : ℕ) (reply : Reply) (w : World) → IsSound w → IsSound (replied n reply w)
  sound_replied n reply w a =
      sound_at n _ w
      (λ conn e s. record {
        fits = s.fits;
        before = s.before;
        plain = s.plain;
        within =
            let l : length (conn.out ++ text conn.items) ≤ length ((conn.out ++ reply_line w.moment reply) ++ text conn.items) =
            simp length-append (omega arith) in
            let h = s.within in omega (arith, l, h);
      })
      a

  sound_kept : IsKept buses IsSound
  sound_kept = record {
    lines = λ n. record {
      step = sound_did;
      numbers = λ id w a. a;
      says = λ mode ends w plain a.
          sound_at n _ w (λ conn e s. record { fits = s.fits; before = s.before; plain = s.plain; within = s.within }) a;
      answers = λ reply w plain a. sound_replied n reply w a;
      enters = λ id reply w plain a.
          sound_replied n reply (entered buses n id w)
          (sound_at n _ w
          (λ conn e s.
          let l = length_history (opening buses 0) w.steps in
          stands_entered _ order _ law _ id (is_info conn.mode) (length w.steps) conn (omega arith) (plain conn e).1 (plain conn e).0 s)
          a);
    };
    other = λ w v a. a;
    opens = λ w a. all_push _ w.connections fresh a (stands_fresh _ order _ law (history buses w));
    feeds = λ n bytes w a.
        sound_at n _ w (λ conn e s. record { fits = s.fits; before = s.before; plain = s.plain; within = s.within }) a;
    shuts = λ n w up a.
        sound_at n _ w
        (λ conn e s.
        stands_shut _ order _ law _ (length w.steps) conn (sym (length_history (opening buses 0) w.steps)) (up conn e) s) a;
    room = λ n bytes w up a.
        sound_at n _ w
        (λ conn e s.
        stands_room _ order _ law (history buses w) (rows buses w) bytes conn (in_order_after _ (history buses w) order)
        (shown_after (opening buses 0) w.steps) (up conn e) s) a;
  }

  pub sound_answered : (n : ℕ) (w : World) (mark : Heard) → IsSound w → IsSound (answered buses n w mark)
  sound_answered n w mark a = kept_answered buses n IsSound (sound_kept.lines n) mark w a

  -- every connection's law holds after every list of events
  pub sound : (events : List Event) → IsSound (course buses events)
  sound events = kept_all buses IsSound sound_kept events start tt
