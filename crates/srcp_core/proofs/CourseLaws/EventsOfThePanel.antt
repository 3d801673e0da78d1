-- What events of an information session itself change, of which the others can tell nothing.
use Rattle.srcp_core.proofs.Names.{cond_both, ◌≡◌, ℕ, ◌+◌, Bool, true, false, List, [], ◌∷◌, ◌++◌, length, refl, ap, sym, ◌∙◌, inl, inr}
use Rattle.srcp_core.proofs.Names.{fold, Option, Some, None, Bus, Event, Bytes, Room, Heard, Piece}
use Rattle.srcp_core.proofs.Names.{Connection, given_room, World, numbered, with_numbered, at_connection, if_open, open_connection}
use Rattle.srcp_core.proofs.Names.{counted, rows, history, answered_as, answered, fault, new_lines, fed_to, shut_as, accepted, or_refused}
use Rattle.srcp_core.proofs.Names.{happens, CoreFault, Refusal, option_map_or, if_two, is_open, Ended, overran, took, owed}
use Rattle.std.specs.Prelude.{option_map}
use Rattle.srcp_core.proofs.Agreement.NumbersAndKeys.{numbered_with, with_itself}
use Rattle.srcp_core.proofs.CourseLaws.TwinConnections.{Alike, IsSimilar, IsTwin, alike_both}
use Rattle.srcp_core.proofs.CourseLaws.TwinWorlds.{Twin, twin, twin_did}

-- there is such a connection, and it is an information session
abbrev pub is_info_session : Option Connection → Bool
is_info_session o = option_map_or (λ conn. conn.info) o false

-- a change of a connection of which others can tell nothing
pub record Keeps (c d : Connection) : Type 0 where
  pub info : d.info ≡ c.info
  pub session : d.session ≡ c.session
  pub ended : d.ended ≡ c.ended
  pub shut : d.shut ≡ c.shut

-- one connection alone is changed, and of it nothing that others can tell
pub record OneSided (number : ℕ) (w after : World) : Type 0 where
  pub change : Connection → Connection
  pub keeps : (c : Connection) → Keeps c (change c)
  pub refs : List Refusal
  pub evs : ℕ
  pub is : after ≡ twin w (with_numbered number change w.connections) refs evs

pub one_itself : (number : ℕ) (w : World) (refs : List Refusal) (evs : ℕ) → OneSided number w (twin w w.connections refs evs)
one_itself number w refs evs = record {
  change = λ c. c;
  keeps = λ c. record { info = refl; session = refl; ended = refl; shut = refl };
  refs = refs;
  evs = evs;
  is = cc (with_itself number _);
}

alike_sides : (number : ℕ) (f g : Connection → Connection) (xs ys : List Connection) → ((c : Connection) → Keeps c (f c))
    → ((c : Connection) → Keeps c (g c)) → is_info_session (numbered number xs) ≡ true → Alike number xs ys
    → Alike number (with_numbered number f xs) (with_numbered number g ys)
alike_sides number f g xs ys kf kg i a =
    alike_both number f g xs ys a (λ x e. sides x a.other (kf x) (kg a.other) (similar x a.other (cc) (a.twins x e)))
  where
    similar : (x y : Connection) → x.info ≡ true → IsTwin x y → IsSimilar x y
    similar x y known (inl e) = rw (← e) (record { info = known; info' = known; session = refl; ended = refl; shut = refl })
    similar x y known (inr s) = s

    sides : (x y : Connection) → Keeps x (f x) → Keeps y (g y) → IsSimilar x y → IsTwin (f x) (g y)
    sides x y k l s = inr (record {
      info = k.info ∙ s.info;
      info' = l.info ∙ s.info';
      session = l.session ∙ s.session ∙ sym k.session;
      ended = l.ended ∙ s.ended ∙ sym k.ended;
      shut = l.shut ∙ s.shut ∙ sym k.shut;
    })

pub twin_sides : (number : ℕ) (a after after' : World) (conns : List Connection) (refs : List Refusal) (evs : ℕ)
    → Alike number a.connections conns → is_info_session (numbered number a.connections) ≡ true → OneSided number a after
    → OneSided number (twin a conns refs evs) after' → Twin number after after'
twin_sides number a after after' conns refs evs l i s t =
    rw s.is
    (rw t.is
    (record {
      conns = with_numbered number t.change conns;
      refs = t.refs;
      evs = t.evs;
      is = refl;
      alike = alike_sides number s.change t.change _ conns s.keeps t.keeps i l;
    }))

module _ (buses : List Bus) (number : ℕ) where
  dropped_as : (o : Option Connection) (mark : Heard) (w : World) → is_info_session o ≡ true
      → answered_as buses number (if_open o) mark w ≡ w
  dropped_as None mark w i = refl
  dropped_as (Some conn) mark w i =
      cond_both (is_open conn) (Some conn) None (λ o. answered_as buses number o mark w ≡ w) (λ _. rw i refl) (λ _. refl)

  dropped : (marks : List Heard) (w : World) → is_info_session (numbered number w.connections) ≡ true
      → fold (answered buses number) w marks ≡ w
  dropped [] w i = refl
  dropped (mark ∷ marks) w i = cc (dropped_as (numbered number w.connections) mark w i, dropped marks w i)

  info_with : (f : Connection → Connection) (o : Option Connection) → ((c : Connection) → (f c).info ≡ c.info) → is_info_session o ≡ true
      → is_info_session (option_map f o) ≡ true
  info_with f None k i = i
  info_with f (Some c) k i = k c ∙ i

  one_fed : (piece : Piece) (o : Option Connection) (w : World) (refs : List Refusal) (evs : ℕ)
      → is_info_session (numbered number w.connections) ≡ true
      → OneSided number w (fed_to buses number piece o (twin w w.connections refs evs))
  one_fed piece None w refs evs i = one_itself number w refs evs
  one_fed piece (Some conn) w refs evs i =
      let fed : Connection → Connection = λ c. record c { fed = c.fed ++ piece.bytes } in
      record {
        change = fed;
        keeps = λ c. record { info = refl; session = refl; ended = refl; shut = refl };
        refs = refs;
        evs = evs;
        is =
            dropped (new_lines buses conn.fed piece) (at_connection number fed _)
            (cc (numbered_with number fed _, info_with fed (numbered number w.connections) (λ c. refl) i));
      }

  one_refused : (o : Option CoreFault) (event : Event) (w : World) → OneSided number w (accepted buses event (counted w))
      → OneSided number w (or_refused buses o event (counted w))
  one_refused None event w s = s
  one_refused (Some cause) event w s = one_itself number w (w.refused ++ record { event = w.events + 1; fault = cause } ∷ []) _

  pub one_bytes : (piece : Piece) (w : World) → is_info_session (numbered number w.connections) ≡ true
      → OneSided number w (happens buses w (Bytes number piece))
  one_bytes piece w i =
      one_refused (fault buses (counted w) (Bytes number piece)) (Bytes number piece) w
      (one_fed piece (open_connection w number) w w.refused (w.events + 1) i)

  pub one_room : (bytes : ℕ) (w : World) → OneSided number w (happens buses w (Room number bytes))
  one_room bytes w = one_refused _ _ w
      (record {
        change = given_room bytes (history buses w) (rows buses w);
        keeps = λ c.
            cond_both (overran c (history buses w)) c (took bytes (length (history buses w)) (owed c (history buses w) (rows buses w)) c)
            (Keeps c) (λ _. record { info = refl; session = refl; ended = refl; shut = refl })
            (λ _. record { info = refl; session = refl; ended = refl; shut = refl });
        refs = w.refused;
        evs = w.events + 1;
        is = refl;
      })

  -- its hang-up ends the same session in both
  pub apart_shut : (x y : Connection) (a : World) (conns : List Connection) (refs : List Refusal) (evs : ℕ) → IsSimilar x y
      → Alike number a.connections conns
      → Twin number (shut_as buses number (Some x) a) (shut_as buses number (Some y) (twin a conns refs evs))
  apart_shut x y a conns refs evs s l =
      rw s.session (rw s.ended (if_two (Twin number) _ _ _ _ _ both (twin_did (Ended x.session a.moment) _ _ both)))
    where
      f : Connection → Connection
      f c = record c { shut = Some (length a.steps) }

      sides : (x y : Connection) → IsTwin x y → IsTwin (f x) (f y)
      sides x y (inl e) = inl (ap f e)
      sides x y (inr s) = inr (record { info = s.info; info' = s.info'; session = s.session; ended = s.ended; shut = refl })

      both : Twin number (at_connection number f a) (at_connection number f (twin a conns refs evs))
      both = record {
        conns = with_numbered number f conns;
        refs = refs;
        evs = evs;
        is = refl;
        alike = alike_both number f f _ conns l (λ c e. sides c l.other (l.twins c e));
      }
