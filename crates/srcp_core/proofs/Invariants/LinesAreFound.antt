-- What a line that was found in a piece asks for, and what it leaves of its connection.
use Rattle.srcp_core.proofs.Names.{◌≡◌, ℕ, zero, suc, ◌+◌, ◌-◌, ◌<◌, ◌≤◌, Bool, true, false, List, [], ◌∷◌, ◌++◌, drop, take, length, inl}
use Rattle.srcp_core.proofs.Names.{inr, refl, ap, sym, ◌∙◌, subst, arith, if◌then◌else◌, Option, Some, None, Ok, Err, slice_set, Code, Bus}
use Rattle.srcp_core.proofs.Names.{Mark, Line, TooLong, is_lf, nothing_read, fold-append, Place, Held, IsSound, at, request_of}
use Rattle.srcp_core.proofs.Names.{next_request_from}
use Rattle.srcp_core.proofs.Names.{next_request_at, longest_answer, unsent_at, line_answered, lines_answered, steps_answered, steps_in}
use Rattle.srcp_core.proofs.Names.{AnswersFit}
use Rattle.srcp_core.proofs.Names.{CountsEach, denied_by, LineRecord, Request, Dropped, Greets, Commands, option_map_or, cases_lt, Reading}
use Rattle.std.proofs.Common.{◌*◌}
use Rattle.std.specs.Prelude.{fold, position}
use Rattle.srcp_text.specs.Marks.{without_cr}
use Rattle.srcp_text.specs.Reading.{after_lf, extended}
use Rattle.srcp_text.specs.Feeding.{feed_at, fed_at}
use Rattle.srcp_text.proofs.ScanLaws.{position_some}
use Rattle.std.proofs.lemmas.List.{length-drop}
use Rattle.srcp_info.specs.Limits.{longest_line, longest_short_reply, most_in_piece}
use Rattle.srcp_core.specs.Handshake.{greets}
use Rattle.srcp_core.specs.Machine.{next_request, line_begun_at, answered, IsRequest, IsLineAnswered}
use Rattle.srcp_core.proofs.Invariants.PlacesCover.{IsMild, place_set_here, where_is, Here, Away}
use Rattle.srcp_core.proofs.Invariants.AnswersGainBytes.{answered_gains}

-- ---- how long an answer is

pub answer_most : (request : Request) → longest_answer request ≤ longest_line
answer_most Dropped = omega arith
answer_most (Greets mode greeting) = omega arith
answer_most (Commands session (Ok command)) = omega arith
answer_most (Commands session (Err code)) = omega arith

-- a line that is refused as a command has a short answer however its connection stands
short : (i z : Bool) (p : Place) (mark : Mark) (code : Code)
    → longest_answer (if i then Dropped else (if z then Greets p.mode (greets mark) else Commands p.session (Err code)))
    ≤ longest_short_reply
short true z p mark code = omega arith
short false true p mark code = omega arith
short false false p mark code = omega arith

-- ---- a line that was found

pub record IsFound (buses : List Bus) (p new : Place) (piece : List ℕ) (start stop : ℕ) (request : Request) : Type 0 where
  pub onward : start < stop
  pub within : stop ≤ length piece
  pub mark : Mark
  pub asks : request ≡ request_of buses new mark
  pub unsent : new.unsent ≡ p.unsent
  pub begun : new.reader.begun ≡ Some []
  pub few : p.reader.begun ≡ Some [] → longest_answer request ≤ longest_short_reply * (stop - start)

-- what is the same of two that are the same
record AreSame (stop s : ℕ) (request a : Request) (new n : Place) : Type 0 where
  stops : stop ≡ s
  asks : request ≡ a
  place : new ≡ n

are_same : (stop s : ℕ) (request a : Request) (new n : Place)
    → ◌≡◌ {A = Option (ℕ × Request) × Place} (Some (stop, request), new) (Some (s, a), n)
    → AreSame stop s request a new n
are_same stop s request a new n e =
    let both : ◌≡◌ {A = Option (ℕ × Request)} (Some (stop, request)) (Some (s, a)) = ap (λ (r : Option (ℕ × Request) × Place). r.0) e in
    let pair : ◌≡◌ {A = ℕ × Request} (stop, request) (s, a) = cc in
    record {
      stops = ap (λ (r : ℕ × Request). r.0) pair;
      asks = ap (λ (r : ℕ × Request). r.1) pair;
      place = ap (λ (r : Option (ℕ × Request) × Place). r.1) e;
    }

module _ (buses : List Bus) (p new : Place) (piece : List ℕ) (start stop : ℕ) (request : Request) where
  pub found : ◌≡◌ {A = Option (ℕ × Request) × Place} (Some (stop, request), new) (next_request buses piece start p)
      → IsFound buses p new piece start stop request
  found e = by _ refl e
    where
      found_as : (mark : Mark) (reader : Reading) (len : ℕ) → len < length (drop start piece) → reader.begun ≡ Some []
          → (p.reader.begun ≡ Some [] → longest_answer (request_of buses p mark) ≤ longest_short_reply * suc len)
          → AreSame stop (start + len + 1) request (request_of buses p mark) new (record p { reader = reader })
          → IsFound buses p new piece start stop request
      found_as mark reader len low none most same =
          let place : new ≡ record p { reader = reader } = same.place in
          let at : stop ≡ start + len + 1 = same.stops in
          let is : request ≡ request_of buses p mark = same.asks in
          let size = length-drop start piece in
          record {
            onward = omega (arith, at);
            within = omega (arith, at, low, size);
            mark = mark;
            asks = cc;
            unsent = cc;
            begun = ap (λ (q : Place). q.reader.begun) place ∙ none;
            few = λ h. let n = ap (λ (a : Request). longest_answer a) is in let m = most h in omega (arith, m, n, at);
          }

      ends : (len : ℕ) → len < length (drop start piece) → (whole : Option (List ℕ))
          → extended p.reader.begun (take len (drop start piece)) ≡ whole
          → ◌≡◌ {A = Option (ℕ × Request) × Place} (Some (stop, request), new)
          (next_request_from buses p (fed_at whole (start + len + 1), after_lf whole))
          → IsFound buses p new piece start stop request
      ends len low None w e =
          found_as TooLong nothing_read len low refl
          (λ h. let s : longest_answer (request_of buses p TooLong) ≤ longest_short_reply = short _ _ p TooLong _ in omega (arith, s))
          (are_same stop _ request _ new _ e)
      ends len low (Some bytes) w e =
          found_as (Line (without_cr bytes)) (after_lf (Some bytes)) len low refl (size_of len w)
          (are_same stop (start + len + 1) request (request_of buses p (Line (without_cr bytes))) new
          (record p { reader = after_lf (Some bytes) }) e)
        where
          size_of : (len : ℕ) → extended p.reader.begun (take len (drop start piece)) ≡ Some bytes → p.reader.begun ≡ Some []
              → longest_answer (request_of buses p (Line (without_cr bytes))) ≤ longest_short_reply * suc len
          size_of zero w h =
              let none : Some [] ≡ Some bytes = cc in
              let empty : [] ≡ bytes = cc in
              let s : longest_answer (request_of buses p (Line [])) ≤ longest_short_reply = short _ _ p (Line []) _ in
              rw (← empty) (omega (arith, s))
          size_of (suc len) w h = let m = answer_most (request_of buses p (Line (without_cr bytes))) in omega (arith, m)

      by : (o : Option ℕ) → position is_lf (drop start piece) ≡ o
          → ◌≡◌ {A = Option (ℕ × Request) × Place} (Some (stop, request), new)
          (next_request_from buses p (feed_at p.reader.begun start (drop start piece) o))
          → IsFound buses p new piece start stop request
      by None f e =
          let bad : ◌≡◌ {A = Option (ℕ × Request)} (Some (stop, request)) None = ap (λ (r : Option (ℕ × Request) × Place). r.0) e in
          absurd (let f : ⊥ = cc in f)
      by (Some len) f e =
          let s = position_some is_lf _ len f in
          ends len s.1 (extended p.reader.begun (take len (drop start piece))) refl e

-- hearing leaves the session as it is
pub next_request_mild : (buses : List Bus) (piece : List ℕ) (start : ℕ) (p : Place) → IsMild p (next_request buses piece start p).1
next_request_mild buses piece start p = by _
  where
    ends : (whole : Option (List ℕ)) (stop : ℕ) → IsMild p (next_request_from buses p (fed_at whole stop, after_lf whole)).1
    ends None stop = record { session = refl; ended = λ h. h; panel = refl }
    ends (Some bytes) stop = record { session = refl; ended = λ h. h; panel = refl }

    by : (o : Option ℕ) → IsMild p (next_request_from buses p (feed_at p.reader.begun start (drop start piece) o)).1
    by None = record { session = refl; ended = λ h. h; panel = refl }
    by (Some len) = ends _ _

-- and the core is as sound as before

-- ---- in a piece

-- what reading on finds, by the connection that is there
abbrev heard_in : ℕ → List ℕ → ℕ → Held → Option Place → Option (ℕ × Request) × Held
heard_in key piece start held place =
    option_map_or
    (λ p. (
      (next_request held.buses piece start p).0,
      record held { places = slice_set held.places key (Some (next_request held.buses piece start p).1) },
    ))
    place (None, held)

-- a line of a connection was found
pub record IsLineFound (key : ℕ) (piece : List ℕ) (start stop : ℕ) (request : Request) (old new : Held) : Type 0 where
  pub onward : start < stop
  pub within : stop ≤ length piece
  pub place : Place
  pub mark : Mark
  pub here : at new key ≡ Some place
  pub asks : request ≡ request_of new.buses place mark
  pub unsent : unsent_at key new ≡ unsent_at key old
  pub begun : line_begun_at key new ≡ Some []
  pub few : line_begun_at key old ≡ Some [] → longest_answer request ≤ longest_short_reply * (stop - start)

pub line_found : (key : ℕ) (piece : List ℕ) (start stop : ℕ) (request : Request) (old new : Held)
    → ◌≡◌ {A = Option (ℕ × Request) × Held} (Some (stop, request), new) (next_request_at key piece start old)
    → IsLineFound key piece start stop request old new
line_found key piece start stop request old new e = by _ refl e
  where
    by : (o : Option Place) → at old key ≡ o
        → ◌≡◌ {A = Option (ℕ × Request) × Held} (Some (stop, request), new) (heard_in key piece start old o)
        → IsLineFound key piece start stop request old new
    by None there e =
        let bad : ◌≡◌ {A = Option (ℕ × Request)} (Some (stop, request)) None = ap (λ (r : Option (ℕ × Request) × Held). r.0) e in
        absurd (let f : ⊥ = cc in f)
    by (Some p) there e =
        let after : Place = (next_request _ piece start p).1 in
        let answer : ◌≡◌ {A = Option (ℕ × Request)} (Some (stop, request)) (next_request old.buses piece start p).0 =
        ap (λ (r : Option (ℕ × Request) × Held). r.0) e in
        let held : new ≡ record old { places = slice_set old.places key (Some after) } = ap (λ (r : Option (ℕ × Request) × Held). r.1) e in
        let f =
        found old.buses p after piece start stop request
        (ap (λ (a : Option (ℕ × Request)). let r : Option (ℕ × Request) × Place = (a, after) in r) answer) in
        let here : at new key ≡ Some after = ap (λ (h : Held). at h key) held ∙ place_set_here old.places key p (Some after) there in
        record {
          onward = f.onward;
          within = f.within;
          place = after;
          mark = f.mark;
          here = here;
          asks = f.asks ∙ sym (ap (λ (h : Held). request_of h.buses after f.mark) held);
          unsent = cc f.unsent;
          begun = cc f.begun;
          few = λ h. f.few (cc);
        }

-- reading refuses nothing
pub next_request_denied : (key : ℕ) (piece : List ℕ) (from : ℕ) (held : Held) (o : Option Place)
    → (heard_in key piece from held o).1.denied ≡ held.denied
next_request_denied key piece from held None = refl
next_request_denied key piece from held (Some p) = refl

-- the line was found on the connection of that key
pub line_asks : (key : ℕ) (piece : List ℕ) (start stop : ℕ) (request : Request) (old new : Held)
    → ◌≡◌ {A = Option (ℕ × Request) × Held} (Some (stop, request), new) (next_request_at key piece start old) → IsRequest key request new
line_asks key piece start stop request old new e =
    let f = line_found key piece start stop request old new e in
    record { place = f.place; mark = f.mark; here = f.here; is = f.asks }

-- ---- the lines of a piece

pub nothing_begun : (key : ℕ) (piece : List ℕ) (held : Held) → unsent_at key held ≡ [] → AnswersFit key piece 0 held
nothing_begun key piece held idle =
    let none : length (unsent_at key held) ≡ 0 = cc in
    record { far = omega arith; idle = λ e. none; fits = omega (arith, none); begun = λ low. absurd (omega (arith, low)) }

module _ (key : ℕ) (piece : List ℕ) (start stop : ℕ) (request : Request) (held mid : Held)
    (e : ◌≡◌ {A = Option (ℕ × Request) × Held} (Some (stop, request), mid) (next_request_at key piece start held)) where
  -- the answer of the line fits
  pub line_fits : length piece ≤ most_in_piece → AnswersFit key piece start held
      → length (unsent_at key mid) + longest_answer request ≤ 16640
  line_fits few t =
      let f = line_found key piece start stop request held mid e in
      let same = ap (λ (bs : List ℕ). length bs) f.unsent in
      let m = answer_most request in
      let o = f.onward in
      let w = f.within in
      let r = t.fits in
      omega (arith, same, m, r, o, w, few)

  fits_after : (granted : Bool) → IsSound mid → AnswersFit key piece start held
      → AnswersFit key piece stop (answered granted key request mid)
  fits_after granted s t =
      let f = line_found key piece start stop request held mid e in
      let g = answered_gains granted key request mid f.place f.mark f.here f.asks s in
      let same = ap (λ (bs : List ℕ). length bs) f.unsent in
      record {
        far = f.within;
        idle = λ z. absurd (let o = f.onward in omega (arith, z, o));
        fits = elim (where_is start 0) [
          | Here z ↦ let i = t.idle z in
              let m = answer_most request in
              let o = f.onward in
              let w = g.few in
              omega (arith, z, i, m, o, w, same)
          | Away n ↦ let low : 0 < start = elim (cases_lt 0 start) [ inl h ↦ h | inr h ↦ absurd (n (omega (arith, h))) ] in
              let l = f.few (t.begun low) in let o = f.onward in let w = g.few in let r = t.fits in omega (arith, l, o, w, r, same)
        ];
        begun = λ low. g.begun ∙ f.begun;
      }

  -- and is answered
  pub line_is_answered : (did : LineRecord) (new : Held) → new ≡ answered did.granted key request mid
      → steps_in did ≡ steps_answered did.granted request mid
      → new.denied ≡ denied_by mid.denied (did.granted ∷ []) → IsSound mid → AnswersFit key piece start held
      → IsLineAnswered key piece start stop did held new
  line_is_answered did new is steps counted s t = record {
    onward = (line_found key piece start stop request held mid e).onward;
    fits = subst (AnswersFit key piece stop) (sym is) (fits_after _ s t);
    is = cc;
    steps = cc;
    counted =
        counted
        ∙ ap (λ k. denied_by k (did.granted ∷ []))
        (ap (λ (r : Option (ℕ × Request) × Held). r.1.denied) e ∙ next_request_denied key piece start held (at held key));
  }

-- the lines up to a place of the piece are answered
pub record AreAnswered (key : ℕ) (piece : List ℕ) (first : Held) (start : ℕ) (held : Held) : Type 0 where
  pub fits : AnswersFit key piece start held
  pub grants : List Bool
  pub counted : CountsEach key piece (0, first) grants
  pub is : ◌≡◌ {A = ℕ × Held} (start, held) (lines_answered key piece grants first)

counts_push : (key : ℕ) (piece : List ℕ) (grants : List Bool) (before : ℕ × Held) (granted : Bool) → CountsEach key piece before grants
    → CountsEach key piece
    (fold (λ before granted. line_answered key granted before (next_request_at key piece before.0 before.1)) before grants)
    (granted ∷ [])
    → CountsEach key piece before (grants ++ granted ∷ [])
counts_push key piece [] before granted a e = e
counts_push key piece (g ∷ grants) before granted a e = (a.0, counts_push key piece grants _ granted a.1 e)

pub line_added : (key : ℕ) (piece : List ℕ) (first : Held) (start stop : ℕ) (did : LineRecord) (held new : Held)
    → IsLineAnswered key piece start stop did held new
    → AreAnswered key piece first start held → AreAnswered key piece first stop new
line_added key piece first start stop did held new l t = record {
  fits = l.fits;
  grants = t.grants ++ did.granted ∷ [];
  counted = counts_push key piece t.grants (0, first) _ t.counted
      (rw (← t.is)
      (sym (ap (λ (r : ℕ × Held). r.1.denied) l.is) ∙ l.counted, tt));
  is =
      cc (
        l.is,
        t.is,
        fold-append (λ before granted. line_answered key granted before (next_request_at key piece before.0 before.1)) (0, first) t.grants
            _,
      );
}
