-- The read of a visit follows the course.
use Rattle.srcp_serve.proofs.Names.{◌≡◌, ◌∙◌, ℕ, List, [], ◌∷◌, Some, Ok, Err, Result, ap, ◌≤◌, Bool, true, false, not, take, length}
use Rattle.srcp_serve.proofs.Names.{None, refl, sym, arith, append-nil, length-take, Past, Receives, Says, number, refusal, course, Bytes}
use Rattle.srcp_serve.proofs.Names.{giving, Extends, Trace, piece_of, loses_reading, ReadsIn, DoorFault, is_none, CoreFault, ReadCall}
use Rattle.srcp_serve.proofs.Names.{Got, or-false}
use Rattle.srcp_serve.proofs.CallsAreAdded.{adds_one, makes_none, went_by, went_none}
use Rattle.srcp_core.proofs.Agreement.NothingIsLent.{accepts_and_lends}
use Rattle.std.specs.Result.{is_ok}
use Rattle.srcp_door.specs.Calls as door
use Rattle.srcp_door.specs.declared.door.Got.TheVariants as got

module _ (peer key : ℕ) (old : Past) (trace_old : Trace) (ready : Bool)
    (ready_is : ready ≡ is_none (refusal old (Bytes (number key old) (giving [])))) where
  pub read_not : ready ≡ false → ReadsIn peer key old trace_old old trace_old true
  read_not e trace is = record {
    calls = [];
    made = makes_none trace_old trace old is;
    asked = rw (← ready_is, e) refl;
    stays_is = refl;
    went = went_none old;
  }

  pub read_other : (answer : Result Got DoorFault) (buffer : List ℕ) (trace_new : Trace) → ready ≡ true
      → length buffer ≡ 256 → Extends trace_old (door.ReadCall peer answer buffer) trace_new → (stays : Bool)
      → piece_of (ReadCall peer answer buffer []) ≡ None → loses_reading (ReadCall peer answer buffer []) ≡ not stays
      → ReadsIn peer key old trace_old old trace_new stays
  read_other answer buffer trace_new e full tells stays none loses trace is = record {
    calls = ReadCall peer answer buffer [] ∷ [];
    made = record { adds = adds_one (door.ReadCall peer answer buffer) trace_old trace_new trace tells is; counted = refl };
    asked = rw (← ready_is, e, full) refl;
    stays_is = cc (or-false (not stays));
    went = rw none (went_none old);
  }

  pub read_bytes : (count : ℕ) (buffer : List ℕ) (trace_new : Trace) (new : Past) (result : Result Unit CoreFault) (stays : Bool)
      → ready ≡ true → length buffer ≡ 256 → Extends trace_old (door.ReadCall peer (Ok (got.Bytes count)) buffer) trace_new
      → Says old (Bytes (number key old) (giving (take count buffer))) result → Receives key (take count buffer) old new
      → stays ≡ is_ok result → ReadsIn peer key old trace_old new trace_new stays
  read_bytes count buffer trace_new new result stays e full tells says r stays_ok trace is =
      let few : length (take count buffer) ≤ 256 = omega (arith, length-take count buffer, full) in
      record {
        calls = ReadCall peer (Ok (got.Bytes count)) buffer r.grants ∷ [];
        made = record {
          adds = adds_one (door.ReadCall peer (Ok (got.Bytes count)) buffer) trace_old trace_new trace tells is;
          counted = rw append-nil r.counted;
        };
        asked = rw (← ready_is, e, full) refl;
        stays_is = ap not (sym (stays_ok ∙ fine result says few));
        went = went_by _ old.keys old new r.is;
      }
    where
      fine : (r : Result Unit CoreFault) → Says old (Bytes (number key old) (giving (take count buffer))) r
          → length (take count buffer) ≤ 256 → is_ok r ≡ true
      fine (Ok u) says few = refl
      fine (Err cause) says few =
          let piece = giving (take count buffer) in
          let none = (accepts_and_lends old.buses).takes old.events (number key old) piece (sym ready_is ∙ e) few in
          let bad : Some cause ≡ None = sym says ∙ none in cc
