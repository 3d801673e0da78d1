-- The room of one information session is nothing to the others.
use Rattle.srcp_core.proofs.Names.{cond_both, ◌≡◌, ℕ, ◌+◌, Bool, true, false, List, [], ◌∷◌, ◌++◌, refl, ap, sym, ◌∙◌, subst, ⊎_elim}
use Rattle.srcp_core.proofs.Names.{and_parts, eqb-true, fold, Option, Some, None, if◌then◌else◌, is_none, Bus, Event, Open, Bytes, length}
use Rattle.srcp_core.proofs.Names.{Room, At, Shut, Piece, Connection, is_open, World, fresh, start, numbered, open_connection, counted}
use Rattle.srcp_core.proofs.Names.{fault, shut_as, happens, course, NoSuch, Refusal, option_map}
use Rattle.srcp_core.specs.Laws.{is_room_of, without_room, IsSameForOthers, RoomHarmsNobody, SlowPanelHarmsNobody}
use Rattle.srcp_core.proofs.Agreement.NumbersAndKeys.{no_connection, length_with}
use Rattle.srcp_core.proofs.Invariants.PlacesCover.{Where, where_is, Here, Away}
use Rattle.srcp_core.proofs.CourseLaws.TwinConnections.{Alike, IsSimilar, alike_open, alike_other, alike_push, alike_there}
use Rattle.srcp_core.proofs.CourseLaws.TwinWorlds.{Linked, Twin, Twins, forget, twin, twin_bytes, twin_or_refused, twin_room, twin_shuts}
use Rattle.srcp_core.proofs.CourseLaws.EventsOfThePanel.{is_info_session, apart_shut, one_bytes, one_itself, one_room, twin_sides}

module _ (buses : List Bus) (number : ℕ) where
  data Meets (m : ℕ) (xs ys : List Connection) : Type 0 where
    Same : Linked number m xs ys → Meets m xs ys
    Apart : (x y : Connection) → m ≡ number → numbered number xs ≡ Some x → numbered number ys ≡ Some y → IsSimilar x y → Meets m xs ys

  meets : (m : ℕ) (xs ys : List Connection) → Alike number xs ys → Meets m xs ys
  meets m xs ys a = by (where_is m number) (numbered number xs) refl
    where
      by : Where m number → (o : Option Connection) → numbered number xs ≡ o → Meets m xs ys
      by (Away d) o e = Same (record { alike = a; same = alike_other number m xs ys d a })
      by (Here i) None e =
          Same (record { alike = a; same = rw i (alike_there number xs ys a ∙ ap (option_map (λ _. a.other)) e ∙ sym e) })
      by (Here i) (Some x) e =
          let there : numbered number ys ≡ Some a.other = alike_there number xs ys a ∙ ap (option_map (λ _. a.other)) e in
          ⊎_elim (λ t. Same (record { alike = a; same = rw i (there ∙ ap Some (sym t) ∙ sym e) }))
          (λ s. Apart x a.other i e there s) (a.twins x e)

  -- what happens to both worlds
  abbrev AllTwins : (World → World) → World → Type 0
  AllTwins does a = Twins (Alike number) does a

  open_step : (granted : Bool) (a : World) → AllTwins (λ w. happens buses w (Open granted)) a
  open_step granted a conns refs evs l =
      rw (alike_open number _ conns l)
      (twin_or_refused (Alike number) buses (fault buses (counted a) (Open granted)) (Open granted) (counted a) conns refs (evs + 1) l
      (record {
        conns = conns ++ fresh ∷ [];
        refs = refs;
        evs = evs + 1;
        is = refl;
        alike = alike_push number _ conns fresh l;
      }))

  infos : (x : Connection) (xs : List Connection) → numbered number xs ≡ Some x → x.info ≡ true
      → is_info_session (numbered number xs) ≡ true
  infos x xs p i = cc

  -- its hang-up is accepted in both or in neither
  shut_is : (x : Connection) (w : World) → open_connection w number ≡ Some x
      → happens buses w (Shut number) ≡ shut_as buses number (Some x) (counted w)
  shut_is x w e = cc

  shut_is_none : (w : World) → open_connection w number ≡ None
      → happens buses w (Shut number)
      ≡ twin w w.connections (w.refused ++ record { event = w.events + 1; fault = NoSuch } ∷ []) (w.events + 1)
  shut_is_none w e = cc

  shut_apart : (x y : Connection) (a : World) (conns : List Connection) (refs : List Refusal) (evs : ℕ) → Alike number a.connections conns
      → numbered number a.connections ≡ Some x → numbered number conns ≡ Some y → IsSimilar x y
      → Twin number (happens buses a (Shut number)) (happens buses (twin a conns refs evs) (Shut number))
  shut_apart x y a conns refs evs l p q s = by _ refl
    where
      found : (w : World) (c : Connection) → numbered number w.connections ≡ Some c → (t : Bool) → is_open c ≡ t
          → open_connection w number ≡ (if t then Some c else None)
      found w c e t k = cc

      by : (t : Bool) → is_open x ≡ t → Twin number (happens buses a (Shut number)) (happens buses (twin a conns refs evs) (Shut number))
      by true k =
          rw (shut_is x a (found a x p true k))
          (subst (λ w. Twin number (shut_as buses number (Some x) (counted a)) w)
          (sym (shut_is y _ (found (twin a conns refs evs) y q true (ap is_none s.shut ∙ k))))
          (apart_shut buses number x y _ conns refs _ s l))
      by false k =
          rw (shut_is_none a (found a x p false k))
          (subst (λ w.
          Twin number (twin a a.connections (a.refused ++ record { event = a.events + 1; fault = NoSuch } ∷ []) (a.events + 1)) w)
          (sym (shut_is_none _ (found (twin a conns refs evs) y q false (ap is_none s.shut ∙ k))))
          (record { conns = conns; refs = refs ++ record { event = evs + 1; fault = NoSuch } ∷ []; evs = evs + 1; is = refl; alike = l }))

  bytes_step : (m : ℕ) (piece : Piece) (a : World) (conns : List Connection) (refs : List Refusal) (evs : ℕ)
      → Alike number a.connections conns → Meets m a.connections conns
      → Twin number (happens buses a (Bytes m piece)) (happens buses (twin a conns refs evs) (Bytes m piece))
  bytes_step m piece a conns refs evs l (Same k) = forget number m _ _ (twin_bytes buses number m piece a conns refs evs k)
  bytes_step m piece a conns refs evs l (Apart x y i p q s) =
      rw i
      (twin_sides number a _ _ conns refs evs l (infos x a.connections p s.info)
      (one_bytes buses number piece a (infos x a.connections p s.info))
      (one_bytes buses number piece (twin a conns refs evs) (infos y conns q s.info')))

  room_step : (m bytes : ℕ) (a : World) (conns : List Connection) (refs : List Refusal) (evs : ℕ) → Alike number a.connections conns
      → Meets m a.connections conns → Twin number (happens buses a (Room m bytes)) (happens buses (twin a conns refs evs) (Room m bytes))
  room_step m bytes a conns refs evs l (Same k) = forget number m _ _ (twin_room buses number m bytes a conns refs evs k)
  room_step m bytes a conns refs evs l (Apart x y i p q s) =
      rw i
      (twin_sides number a _ _ conns refs evs l (infos x a.connections p s.info) (one_room buses number bytes a)
      (one_room buses number bytes (twin a conns refs evs)))

  shut_step : (m : ℕ) (a : World) (conns : List Connection) (refs : List Refusal) (evs : ℕ) → Alike number a.connections conns
      → Meets m a.connections conns → Twin number (happens buses a (Shut m)) (happens buses (twin a conns refs evs) (Shut m))
  shut_step m a conns refs evs l (Same k) = forget number m _ _ (twin_shuts buses number m a conns refs evs k)
  shut_step m a conns refs evs l (Apart x y i p q s) = rw i (shut_apart x y a conns refs evs l p q s)

  step : (event : Event) (a : World) → AllTwins (λ w. happens buses w event) a
  step (Open granted) a conns refs evs l = open_step granted a conns refs evs l
  step (Bytes m piece) a conns refs evs l = bytes_step m piece a conns refs evs l (meets m a.connections conns l)
  step (Room m bytes) a conns refs evs l = room_step m bytes a conns refs evs l (meets m a.connections conns l)
  step (At moment) a conns refs evs l = record { conns = conns; refs = refs; evs = evs + 1; is = refl; alike = l }
  step (Shut m) a conns refs evs l = shut_step m a conns refs evs l (meets m a.connections conns l)

  -- room that is left out
  left_out : (event : Event) (a : World) (conns : List Connection) (refs : List Refusal) (evs : ℕ) → Alike number a.connections conns
      → is_room_of number a event ≡ true → Twin number (happens buses a event) (twin a conns refs evs)
  left_out (Open granted) a conns refs evs l e = cc
  left_out (Bytes m piece) a conns refs evs l e = cc
  left_out (Room m bytes) a conns refs evs l e =
      let both = and_parts _ _ e in
      rw (eqb-true m number both.0)
      (twin_sides number a _ _ conns refs evs l both.1 (one_room buses number bytes a) (one_itself number (twin a conns refs evs) refs evs))
  left_out (At moment) a conns refs evs l e = cc
  left_out (Shut m) a conns refs evs l e = cc

  slow : (events : List Event) (a b : World) → Twin number a b
      → Twin number (fold (happens buses) a events) (fold (happens buses) b (without_room buses number a events))
  slow [] a b t = t
  slow (event ∷ events) a b t =
      cond_both _ _ _ (λ es. Twin number (fold (happens buses) (happens buses a event) events) (fold (happens buses) b es))
      (λ e. slow events _ b (rw t.is (left_out event a t.conns t.refs t.evs t.alike e)))
      (λ e. slow events _ _ (rw t.is (step event a t.conns t.refs t.evs t.alike)))

  same_for_others : (a b : World) → Twin number a b → IsSameForOthers buses number a b
  same_for_others a b t = rw t.is
      (record {
        steps = refl;
        registry = refl;
        count = ap length t.alike.is ∙ length_with number _ _;
        others = λ other d. cc (alike_other number other _ t.conns d t.alike);
      })

pub slow_panel_harms_nobody : (buses : List Bus) → SlowPanelHarmsNobody buses
slow_panel_harms_nobody buses events number =
    same_for_others buses number (course buses events) (course buses (without_room buses number start events))
    (slow buses number events start start (record {
      conns = [];
      refs = [];
      evs = 0;
      is = refl;
      alike = record { other = fresh; is = refl; twins = λ x e. absurd (no_connection number x e) };
    }))

pub room_harms_nobody : (buses : List Bus) → RoomHarmsNobody buses
room_harms_nobody buses a b number same =
    let first = slow_panel_harms_nobody buses a number in
    let second : IsSameForOthers buses number (course buses b) (course buses (without_room buses number start a)) =
    rw same
    (slow_panel_harms_nobody buses b number) in
    record {
      steps = sym second.steps ∙ first.steps;
      registry = sym second.registry ∙ first.registry;
      count = sym second.count ∙ first.count;
      others = λ other d. sym (second.others other d) ∙ first.others other d;
    }
