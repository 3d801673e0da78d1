-- Bytes that come in a run lead to the course with their event.
use Rattle.srcp_core.proofs.Names.{◌≡◌, ℕ, ◌<◌, ◌≤◌, Bool, true, false, List, [], ◌∷◌, ◌++◌, length, refl, ap, sym, ◌∙◌, subst, ltb-false}
use Rattle.srcp_core.proofs.Names.{fold, Option, Some, None, not, nat_lt, if◌then◌else◌, Bus, IsLayout, Event, Bytes, Piece, lines_under}
use Rattle.srcp_core.proofs.Names.{denied_by, Connection, is_nil, World, open_connection, counted, accepted, fed_to, new_marks, course}
use Rattle.srcp_core.proofs.Names.{denied_fed, Place, Held, at, AnswersFit, bytes_fault, bytes_fault_from, next_request_at, line_answered}
use Rattle.srcp_core.proofs.Names.{steps_of_line, Recording, key_of, noted, Records, Runs, Happened, Request, CoreFault, Busy, PieceTooLong}
use Rattle.srcp_core.proofs.Names.{Closing}
use Rattle.srcp_core.specs.declared.record.Step.{Step as PlainStep}
use Rattle.srcp_core.specs.Course.{bytes_fault as course_fault, answered as course_answered}
use Rattle.srcp_core.proofs.Agreement.EventsAgree.{fault_same}
use Rattle.srcp_core.proofs.Agreement.MemoryAnswers.{counted_more}
use Rattle.srcp_core.proofs.Invariants.LinesAreFound.{nothing_begun, next_request_denied}
use Rattle.srcp_core.proofs.Agreement.LinesAreNoted.{tells_same}
use Rattle.srcp_core.proofs.Agreement.PiecesAgree.{accepting, IsUpTo, world_upto, lined, lines_ended, piece_begun}
use Rattle.srcp_core.proofs.CourseLaws.SessionsOfACourse.{opening_in_order, nil_is}
use Rattle.srcp_core.proofs.Agreement.StandsAfterAChange.{found_at}
use Rattle.srcp_core.proofs.Agreement.RunsAnEvent.{CountsAsked, HappensAs, happens_by, fine_course, refused_happens, runs_counted}
use Rattle.srcp_core.specs.declared.event.Event.TheVariants as plain
use Rattle.srcp_core.specs.declared.record.Step.TheVariants as recorded

pub bytes_refused : (n key : ℕ) (piece : List ℕ) (r : Recording) (held : Held) (cause : CoreFault) → key_of n r.keys ≡ Some key
    → bytes_fault key piece held ≡ Some cause → HappensAs (plain.Bytes n piece) (Some cause) r held r held
bytes_refused n key piece r held cause named e = refused_happens _ cause r held
    (λ buses events layout s.
    let w = counted _ in
    sym (fault_same buses (opening_in_order buses layout) (λ n fed. fed) r.keys held w n key piece
    (fine_course buses layout events) s named)
    ∙ e)

-- if bytes are not refused, their answers fit
pub bytes_fit : (key : ℕ) (piece : List ℕ) (held : Held) → bytes_fault key piece held ≡ None
    → (length piece ≤ 256) × AnswersFit key piece 0 held
bytes_fit key piece held e = by _ refl e
  where
    with : (p : Place) (over idle long : Bool) → at held key ≡ Some p → is_nil p.unsent ≡ idle → nat_lt 256 (length piece) ≡ long
        → (if over then Some Closing else (if not idle then Some Busy else (if long then Some PieceTooLong else None))) ≡ None
        → (length piece ≤ 256) × AnswersFit key piece 0 held
    with p true idle long h i l e = cc
    with p false false long h i l e = cc
    with p false true true h i l e = cc
    with p false true false h i l e = (ltb-false 256 _ l, nothing_begun key piece held (cc (nil_is p.unsent i)))

    by : (o : Option Place) → at held key ≡ o → bytes_fault_from piece o ≡ None → (length piece ≤ 256) × AnswersFit key piece 0 held
    by None h e = cc
    by (Some p) h e = with p _ _ _ h refl refl e

-- the piece was read up to a place
pub record IsReading (n key : ℕ) (piece : List ℕ) (grants : List Bool) (first_r : Recording) (first : Held) (start : ℕ) (r : Recording)
    (held : Held) (buses : List Bus) (layout : IsLayout buses) (w : World) : Type 0 where
  pub named : key_of n first_r.keys ≡ Some key
  pub conn : Connection
  pub opened : open_connection w n ≡ Some conn
  pub free : course_fault buses w (open_connection w n) piece ≡ None
  pub keys : r.keys ≡ first_r.keys
  pub upto : IsUpTo buses (opening_in_order buses layout) first_r.keys n key named conn.fed piece
      (accepting n piece w) first.denied grants start held
  pub records : Records r
      (world_upto buses (opening_in_order buses layout) first_r.keys n key named conn.fed piece
      (accepting n piece w) first.denied grants start)

-- so it was, whatever the events were before, where memory answered so to its lines so far
abbrev pub ReadsWith : List Bool → ℕ → ℕ → List ℕ → Recording → Held → ℕ → Recording → Held → Type 0
ReadsWith grants n key piece first_r first start r held =
    (buses : List Bus) (events : List Event) (layout : IsLayout buses) → Runs buses first_r first (course buses events)
    → IsReading n key piece grants first_r first start r held buses layout (counted (course buses events))

-- what memory answered to its lines so far
pub record ReadsOn (n key : ℕ) (piece : List ℕ) (first_r : Recording) (first : Held) (start : ℕ) (r : Recording)
    (held : Held) : Type 0 where
  pub grants : List Bool
  pub counted : held.denied ≡ denied_by first.denied grants
  pub reads : ReadsWith grants n key piece first_r first start r held

pub reads_with_none : (n key : ℕ) (piece : List ℕ) (r : Recording) (held : Held) → key_of n r.keys ≡ Some key
    → bytes_fault key piece held ≡ None → ReadsWith [] n key piece r held 0 r held
reads_with_none n key piece r held named free buses events layout s =
    let w = counted (course buses events) in
    let order = opening_in_order buses layout in
    let c = runs_counted buses r held (course buses events) s in
    let h = found_at buses (λ n fed. fed) r.keys held w n key c.stands named in
    let b = piece_begun buses order r.keys n key named piece held w h.conn (fine_course buses layout events) c.stands h.there in
    record {
      named = named;
      conn = h.conn;
      opened = h.opened;
      free = cc (fault_same buses order (λ n fed. fed) r.keys held w n key piece (fine_course buses layout events) c.stands named);
      keys = refl;
      upto = b.0;
      records = rw b.1 (tells_same r w n (λ c. record c { fed = c.fed ++ piece }) (λ conn e. refl) c.records);
    }

pub reads_first : (n key : ℕ) (piece : List ℕ) (r : Recording) (held : Held) → key_of n r.keys ≡ Some key
    → bytes_fault key piece held ≡ None → ReadsOn n key piece r held 0 r held
reads_first n key piece r held named free = record { grants = []; counted = refl; reads = reads_with_none n key piece r held named free }

pub noted_keys : (n : ℕ) (steps : List PlainStep) (r : Recording) → (noted n steps r).keys ≡ r.keys
noted_keys n [] r = refl
noted_keys n (recorded.Obeyed session moment command ∷ steps) r = noted_keys n steps _
noted_keys n (recorded.Began session moment mode ∷ steps) r = noted_keys n steps _
noted_keys n (recorded.Moment moment ∷ steps) r = noted_keys n steps _
noted_keys n (recorded.Ended session moment ∷ steps) r = noted_keys n steps _

pub reads_with_more : (grants : List Bool) (n key : ℕ) (piece : List ℕ) (first_r : Recording) (first : Held) (start stop : ℕ)
    (granted : Bool) (steps : List PlainStep) (r : Recording) (held new : Held)
    → start < stop
    → ◌≡◌ {A = ℕ × Held} (stop, new) (line_answered key granted (start, held) (next_request_at key piece start held))
    → steps ≡ steps_of_line granted (next_request_at key piece start held)
    → ReadsWith grants n key piece first_r first start r held
    → ReadsWith (grants ++ granted ∷ []) n key piece first_r first stop (noted n steps r) new
reads_with_more grants n key piece first_r first start stop granted steps r held new onward is steps_are reads buses events layout s =
    let i = reads buses events layout s in
    let order = opening_in_order buses layout in
    let w = counted _ in
    let l =
    lined buses order _ n key i.named _ piece _ _ grants start stop granted held new r onward is i.upto i.records in
    record {
      named = i.named;
      conn = i.conn;
      opened = i.opened;
      free = i.free;
      keys = noted_keys n steps r ∙ i.keys;
      upto = l.upto;
      records =
          subst (λ (steps : List PlainStep).
          Records (noted n steps r)
          (world_upto buses order first_r.keys n key i.named i.conn.fed piece (accepting n piece w) first.denied
          (grants ++ granted ∷ []) stop))
          (sym steps_are) l.records;
    }

pub reads_more : (n key : ℕ) (piece : List ℕ) (first_r : Recording) (first : Held) (start stop : ℕ) (granted : Bool)
    (steps : List PlainStep) (r : Recording) (held new : Held)
    → start < stop
    → ◌≡◌ {A = ℕ × Held} (stop, new) (line_answered key granted (start, held) (next_request_at key piece start held))
    → steps ≡ steps_of_line granted (next_request_at key piece start held)
    → new.denied ≡ denied_by held.denied (granted ∷ []) → ReadsOn n key piece first_r first start r held
    → ReadsOn n key piece first_r first stop (noted n steps r) new
reads_more n key piece first_r first start stop granted steps r held new onward is steps_are counted reads = record {
  grants = reads.grants ++ granted ∷ [];
  counted = counted_more first.denied held.denied new.denied reads.grants granted reads.counted counted;
  reads = reads_with_more reads.grants n key piece first_r first start stop granted steps r held new onward is steps_are reads.reads;
}

pub bytes_with : (grants : List Bool) (n key : ℕ) (piece : List ℕ) (first_r : Recording) (first : Held) (start : ℕ) (r : Recording)
    (held new : Held)
    → ◌≡◌ {A = Option (ℕ × Request) × Held} (None, new) (next_request_at key piece start held)
    → ReadsWith grants n key piece first_r first start r held
    → (buses : List Bus) (events : List Event) → IsLayout buses → Runs buses first_r first (course buses events)
    → Happened buses (Bytes n (record { bytes = piece; grants = grants })) None r new (counted (course buses events))
bytes_with grants n key piece first_r first start r held new is reads buses events layout s =
    let i = reads buses events layout s in
    let order = opening_in_order buses layout in
    let w = counted _ in
    let e = lines_ended buses order _ n key i.named _ piece _ _ grants start held new is i.upto in
    let p : Piece = record { bytes = piece; grants = grants } in
    let world : accepted buses (Bytes n p) w
    ≡ fold (course_answered buses n) (accepting n piece w) (lines_under grants (new_marks buses i.conn.fed piece)) =
    ap (λ o. fed_to buses n p o w) i.opened in (
      i.free,
      subst (λ (v : World). Runs buses r new v) (sym world) (record {
        stands = rw i.keys e.stands;
        records = rw (← e.world_is) i.records;
      }),
    )

-- what was refused to its lines was asked for
pub bytes_asked : (grants : List Bool) (n key : ℕ) (piece : List ℕ) (first_r : Recording) (first : Held) (start : ℕ) (r : Recording)
    (held new : Held)
    → ◌≡◌ {A = Option (ℕ × Request) × Held} (None, new) (next_request_at key piece start held)
    → ReadsWith grants n key piece first_r first start r held
    → CountsAsked first_r first new (Bytes n (record { bytes = piece; grants = grants }))
bytes_asked grants n key piece first_r first start r held new is reads buses events layout s =
    let i = reads buses events layout s in
    let w = counted _ in
    let p : Piece = record { bytes = piece; grants = grants } in
    (lines_ended buses _ _ n key i.named _ piece _ _ grants start held new is i.upto).counts
    ∙ sym (ap (λ (cause : Option CoreFault). denied_fed buses n p w first.denied cause (open_connection w n)) i.free
    ∙ ap (denied_fed buses n p w first.denied None) i.opened)

pub bytes_happens : (n key : ℕ) (piece : List ℕ) (first_r : Recording) (first : Held) (start : ℕ) (r : Recording) (held new : Held)
    → ◌≡◌ {A = Option (ℕ × Request) × Held} (None, new) (next_request_at key piece start held)
    → ReadsOn n key piece first_r first start r held
    → HappensAs (plain.Bytes n piece) None first_r first r new
bytes_happens n key piece first_r first start r held new is reads =
    happens_by (plain.Bytes n piece) None first_r first r new reads.grants
    (ap (λ (x : Option (ℕ × Request) × Held). x.1.denied) is ∙ next_request_denied key piece start held (at held key) ∙ reads.counted)
    (bytes_asked reads.grants n key piece first_r first start r held new is reads.reads)
    (bytes_with reads.grants n key piece first_r first start r held new is reads.reads)
