-- Worlds that differ in one connection alone, at an event of a connection that both have alike.
use Rattle.srcp_core.proofs.Names.{◌≡◌, ℕ, ◌+◌, List, [], ◌∷◌, ◌++◌, length, refl, ap, inl, fold, Option, Some, None, Bus, Event, Bytes}
use Rattle.srcp_core.proofs.Names.{Room, Shut, Step, Began, Heard, Piece, Connection, given_room, World, numbered, with_numbered}
use Rattle.srcp_core.proofs.Names.{at_connection, open_connection, did, counted, state, rows, history, answered, fault, new_lines, fed_to}
use Rattle.srcp_core.proofs.Names.{shut_as, accepted, or_refused, happens, CoreFault, Refusal, if_two, true, Obeyed, Ended, Act, Says, Sets}
use Rattle.srcp_core.proofs.Names.{Begins, Obeys, Ends, act, acts, asked}
use Rattle.srcp_core.proofs.Agreement.NumbersAndKeys.{numbered_with}
use Rattle.srcp_core.proofs.Invariants.PlacesCover.{where_is, Here, Away}
use Rattle.srcp_core.proofs.CourseLaws.TwinConnections.{Alike, alike_away, alike_both, alike_there}

abbrev pub twin : World → List Connection → List Refusal → ℕ → World
twin a conns refs evs = record a { connections = conns; refused = refs; events = evs }

-- the second world has other connections, which stand so to those of the first, and other refusals and events
pub record TwinBy (P : List Connection → List Connection → Type 0) (a b : World) : Type 0 where
  pub conns : List Connection
  pub refs : List Refusal
  pub evs : ℕ
  pub is : b ≡ twin a conns refs evs
  pub alike : P a.connections conns

abbrev pub Twin : ℕ → World → World → Type 0
Twin number = TwinBy (Alike number)

-- lists that differ at a number alone, but have the same at m
pub record Linked (number m : ℕ) (xs ys : List Connection) : Type 0 where
  pub alike : Alike number xs ys
  pub same : numbered m ys ≡ numbered m xs

abbrev TwinAt : ℕ → ℕ → World → World → Type 0
TwinAt number m = TwinBy (Linked number m)

pub forget : (number m : ℕ) (a b : World) → TwinBy (Linked number m) a b → Twin number a b
forget number m a b t = record { conns = t.conns; refs = t.refs; evs = t.evs; is = t.is; alike = t.alike.alike }

-- what makes such worlds of the first and of a second one
abbrev pub Twins : (List Connection → List Connection → Type 0) → (World → World) → World → Type 0
Twins P does a = (conns : List Connection) (refs : List Refusal) (evs : ℕ) → P a.connections conns
    → TwinBy P (does a) (does (twin a conns refs evs))

pub twin_did : {P : List Connection → List Connection → Type 0} (step : Step) (a b : World) → TwinBy P a b
    → TwinBy P (did step a) (did step b)
twin_did step a b t = record { conns = t.conns; refs = t.refs; evs = t.evs; is = ap (did step) t.is; alike = t.alike }

-- an event, if it is carried out so
pub twin_or_refused : (P : List Connection → List Connection → Type 0) (buses : List Bus) (o : Option CoreFault) (event : Event) (a : World)
    (conns : List Connection) (refs : List Refusal) (evs : ℕ)
    → P a.connections conns → TwinBy P (accepted buses event a) (accepted buses event (twin a conns refs evs))
    → TwinBy P (or_refused buses o event a) (or_refused buses o event (twin a conns refs evs))
twin_or_refused P buses None event a conns refs evs l t = t
twin_or_refused P buses (Some cause) event a conns refs evs l t =
    record { conns = conns; refs = refs ++ record { event = evs; fault = cause } ∷ []; evs = evs; is = refl; alike = l }

link_change : (number m : ℕ) (f : Connection → Connection) (xs ys : List Connection) → Linked number m xs ys
    → Linked number m (with_numbered m f xs) (with_numbered m f ys)
link_change number m f xs ys l = record {
  alike = elim (where_is m number) [
    | Here e ↦ rw e (alike_both number f f xs ys l.alike (λ x p. inl (ap f (own x p e))))
    | Away d ↦ alike_away number m f xs ys d l.alike
  ];
  same = cc (numbered_with m f ys, l.same, numbered_with m f xs);
}
  where
    own : (x : Connection) → numbered number xs ≡ Some x → m ≡ number → x ≡ l.alike.other
    own x p e = let there = alike_there number xs ys l.alike in let s = l.same in let both : Some x ≡ Some l.alike.other = cc in cc

module _ (buses : List Bus) (number m : ℕ) where
  -- what is done to both worlds, which have the same at m
  abbrev Alikes : (World → World) → World → Type 0
  Alikes does a = Twins (Linked number m) does a

  twin_itself : (a : World) → Alikes (λ w. w) a
  twin_itself a conns refs evs l = record { conns = conns; refs = refs; evs = evs; is = refl; alike = l }

  twin_change : (f : Connection → Connection) (a : World) → Alikes (at_connection m f) a
  twin_change f a conns refs evs l = record {
    conns = with_numbered m f conns;
    refs = refs;
    evs = evs;
    is = refl;
    alike = link_change number m f _ conns l;
  }

  twin_act : (does : Act) (a : World) → Alikes (λ w. act buses m w does) a
  twin_act (Says reply) a conns refs evs l = twin_change _ a conns refs evs l
  twin_act (Sets mode) a conns refs evs l = twin_change _ a conns refs evs l
  twin_act (Begins id mode) a conns refs evs l = twin_change _ (did (Began id a.moment mode) (record a { last_id = id })) conns refs evs l
  twin_act (Obeys session order) a conns refs evs l = twin_itself (did (Obeyed session a.moment order) a) conns refs evs l
  twin_act (Ends session) a conns refs evs l = twin_did _ _ _ (twin_change (λ conn. record conn { ended = true }) a conns refs evs l)

  twin_acts : (all : List Act) (a : World) → Alikes (λ w. fold (act buses m) w all) a
  twin_acts [] a conns refs evs l = twin_itself a conns refs evs l
  twin_acts (does ∷ more) a conns refs evs l =
      let t = twin_act does a conns refs evs l in
      rw t.is (twin_acts more (act buses m a does) t.conns t.refs t.evs t.alike)

  twin_marks : (marks : List Heard) (a b : World) → TwinAt number m a b
      → TwinAt number m (fold (answered buses m) a marks) (fold (answered buses m) b marks)
  twin_marks [] a b t = t
  twin_marks (mark ∷ marks) a b t =
      twin_marks marks _ _
      (rw t.is
      (rw t.alike.same
      (twin_acts (acts (state buses a) a.last_id a.moment mark.granted (asked buses (open_connection a m) mark.mark)) a t.conns t.refs t.evs
      t.alike)))

  twin_fed : (piece : Piece) (o : Option Connection) (a : World) → Alikes (fed_to buses m piece o) a
  twin_fed piece None a conns refs evs l = twin_itself a conns refs evs l
  twin_fed piece (Some conn) a conns refs evs l =
      twin_marks (new_lines buses conn.fed piece) _ _ (twin_change (λ c. record c { fed = c.fed ++ piece.bytes }) a conns refs evs l)

  twin_shut : (o : Option Connection) (a : World) → Alikes (shut_as buses m o) a
  twin_shut None a conns refs evs l = twin_itself a conns refs evs l
  twin_shut (Some conn) a conns refs evs l =
      let closed = twin_change (λ c. record c { shut = Some (length a.steps) }) a conns refs evs l in
      if_two (TwinAt number m) _ _ _ _ _ closed (twin_did (Ended conn.session a.moment) _ _ closed)

  -- an event of a connection that both worlds have alike
  pub twin_bytes : (piece : Piece) (a : World) → Alikes (λ w. happens buses w (Bytes m piece)) a
  twin_bytes piece a conns refs evs l =
      rw l.same
      (twin_or_refused (Linked number m) buses (fault buses (counted a) (Bytes m piece)) (Bytes m piece) (counted a) conns refs (evs + 1) l
      (rw l.same (twin_fed piece (open_connection a m) (counted a) conns refs (evs + 1) l)))

  pub twin_room : (bytes : ℕ) (a : World) → Alikes (λ w. happens buses w (Room m bytes)) a
  twin_room bytes a conns refs evs l =
      rw l.same
      (twin_or_refused (Linked number m) buses (fault buses (counted a) (Room m bytes)) (Room m bytes) (counted a) conns refs (evs + 1) l
      (twin_change (given_room bytes (history buses a) (rows buses a)) (counted a) conns refs (evs + 1) l))

  pub twin_shuts : (a : World) → Alikes (λ w. happens buses w (Shut m)) a
  twin_shuts a conns refs evs l =
      rw l.same
      (twin_or_refused (Linked number m) buses (fault buses (counted a) (Shut m)) (Shut m) (counted a) conns refs (evs + 1) l
      (rw l.same (twin_shut (open_connection a m) (counted a) conns refs (evs + 1) l)))
