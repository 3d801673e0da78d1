-- A piece leads from the course of any events to that with its bytes.
use Rattle.srcp_core.proofs.Names.{◌≡◌, ℕ, ◌+◌, Bool, List, [], ◌∷◌, ◌++◌, length, refl, ap, sym, ◌∙◌, fold, Option, Some, None, Bytes}
use Rattle.srcp_core.proofs.Names.{Piece, giving, denied_by, counted, course, Held, at, CountsEach, bytes_fault, next_request_at}
use Rattle.srcp_core.proofs.Names.{line_answered}
use Rattle.srcp_core.proofs.Names.{lines_answered, steps_of_line, Recording, key_of, noted, Request, CoreFault}
use Rattle.srcp_core.specs.declared.event.Event.TheVariants as plain
use Rattle.srcp_core.specs.Machine.{IsReceived, answered}
use Rattle.srcp_core.specs.Run.{LeadsOn}
use Rattle.srcp_core.proofs.Invariants.LinesAreFound.{line_found, next_request_denied}
use Rattle.srcp_core.proofs.Agreement.CallsFollowTheCourse.{telling, runs_telling}
use Rattle.srcp_core.proofs.Agreement.RecordIsOfTheCourse.{runs_on}
use Rattle.srcp_core.proofs.Agreement.MemoryAnswers.{counted_more}
use Rattle.srcp_core.proofs.Agreement.RefusalsAreCounted.{denied_in_none}
use Rattle.srcp_core.proofs.Agreement.RunsBytes.{ReadsWith, reads_with_none, reads_with_more, bytes_asked, bytes_with, bytes_refused}
use Rattle.srcp_core.proofs.Agreement.RunsBytes.{noted_keys}

-- a line of a piece, taken at a place of it
abbrev line_on : ℕ → List ℕ → ℕ × Held → Bool → ℕ × Held
line_on key piece before granted = line_answered key granted before (next_request_at key piece before.0 before.1)

-- ---- the lines of a piece, with what a run would have told of them

pub record IsRead (n key : ℕ) (piece : List ℕ) (grants : List Bool) (first_r : Recording) (first : Held) (reached : ℕ × Held) : Type 0 where
  pub told : Recording
  pub keys : told.keys ≡ first_r.keys
  pub reads : ReadsWith grants n key piece first_r first reached.0 told reached.1

-- what memory answered to them, with which it is, whatever a run has told before
record AreRead (key : ℕ) (piece : List ℕ) (first : Held) (reached : ℕ × Held) : Type 0 where
  grants : List Bool
  counted : reached.1.denied ≡ denied_by first.denied grants
  is : (n : ℕ) (first_r : Recording) → key_of n first_r.keys ≡ Some key → IsRead n key piece grants first_r first reached

line_read : (key : ℕ) (piece : List ℕ) (first : Held) (before : ℕ × Held) (granted : Bool)
    → (line_on key piece before granted).1.denied ≡ denied_by before.1.denied (granted ∷ []) → AreRead key piece first before
    → AreRead key piece first (line_on key piece before granted)
line_read key piece first before granted counted a =
    by (next_request_at key piece before.0 before.1).0 (next_request_at key piece before.0 before.1).1 refl
  where
    by : (found : Option (ℕ × Request)) (mid : Held)
        → ◌≡◌ {A = Option (ℕ × Request) × Held} (next_request_at key piece before.0 before.1) (found, mid)
        → AreRead key piece first (line_on key piece before granted)
    by None mid e =
        let same : ◌≡◌ {A = ℕ × Held} (line_on key piece before granted) before = cc in
        rw same a
    by (Some (stop, request)) mid e =
        let new : Held = answered granted key request mid in
        let is : ◌≡◌ {A = ℕ × Held} (stop, new) (line_on key piece before granted) = cc in
        let steps = steps_of_line granted (next_request_at key piece before.0 before.1) in
        rw (← is)
        (record {
          grants = a.grants ++ granted ∷ [];
          counted =
              counted_more first.denied before.1.denied new.denied a.grants granted a.counted
              (cc);
          is = λ n first_r named.
              let i = a.is n first_r named in
              record {
                told = noted n steps i.told;
                keys = noted_keys n steps i.told ∙ i.keys;
                reads =
                    reads_with_more a.grants n key piece first_r first before.0 stop granted steps i.told before.1 new
                    (line_found key piece before.0 stop request before.1 mid (sym e)).onward is refl i.reads;
              };
        })

lines_read : (key : ℕ) (piece : List ℕ) (first : Held) (grants : List Bool) (before : ℕ × Held) → CountsEach key piece before grants
    → AreRead key piece first before → AreRead key piece first (fold (line_on key piece) before grants)
lines_read key piece first [] before counted a = a
lines_read key piece first (granted ∷ grants) before counted a =
    lines_read key piece first grants (line_on key piece before granted) counted.1 (line_read key piece first before granted counted.0 a)

-- ---- the whole piece

pub accepted_leads : (key : ℕ) (piece : List ℕ) (old new : Held) → bytes_fault key piece old ≡ None → IsReceived key piece old new
    → LeadsOn key piece old new
accepted_leads key piece old new free received =
    let reached = lines_answered key piece received.grants old in
    let a =
    lines_read key piece old received.grants (0, old) received.counted
    (record {
      grants = [];
      counted = refl;
      is =
          λ n first_r named.
          record { told = first_r; keys = refl; reads = reads_with_none n key piece first_r old named free };
    }) in
    let counted : new.denied ≡ denied_by old.denied a.grants =
    ap (λ (x : Option (ℕ × Request) × Held). x.1.denied) received.rest
    ∙ next_request_denied key piece reached.0 reached.1 (at reached.1 key)
    ∙ a.counted in
    record {
      grants = a.grants;
      counted = counted;
      asked = λ buses events keys n layout named s.
          let first_r = telling keys (course buses events) in
          let i = a.is n first_r named in
          bytes_asked a.grants n key piece first_r old reached.0 i.told reached.1 new received.rest i.reads buses events layout
          (runs_telling buses keys old (course buses events) s);
      leads = λ buses events keys n layout named s.
          let first_r = telling keys (course buses events) in
          let i = a.is n first_r named in
          let p : Piece = record { bytes = piece; grants = a.grants } in
          let h =
          bytes_with a.grants n key piece first_r old reached.0 i.told reached.1 new received.rest i.reads buses events layout
          (runs_telling buses keys old (course buses events) s) in
          rw (← i.keys) (runs_on buses events (Bytes n p) None (length events + 1) i.told new refl h).stands;
    }

pub refused_leads : (key : ℕ) (piece : List ℕ) (old new : Held) (cause : CoreFault) → bytes_fault key piece old ≡ Some cause → new ≡ old
    → LeadsOn key piece old new
refused_leads key piece old new cause e same = record {
  grants = [];
  counted = cc;
  asked =
      λ buses events keys n layout named s. cc (denied_in_none buses (counted (course buses events)) old.denied (plain.Bytes n piece));
  leads = λ buses events keys n layout named s.
      let first_r = telling keys (course buses events) in
      let h =
      ((bytes_refused n key piece first_r old cause named e).each buses events layout
      (runs_telling buses keys old (course buses events) s)).1 in
      rw same
      (runs_on buses events (Bytes n (giving piece)) (Some cause) (length events + 1) first_r old refl h).stands;
}
