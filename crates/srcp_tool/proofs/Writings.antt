-- A text that is written, whole or in part.
use Rattle.std.proofs.Common.{◌≡◌, ℕ, ◌+◌, ◌<◌, ◌≤◌, List, ◌++◌, refl, get_or, drop, length, take, Option, Result, Ok, Err, arith, subst}
use Rattle.std.proofs.Common.{sym, ap, ◌∙◌, append_assoc, length-append}
use Rattle.std.proofs.lemmas.List.{at_drop_more, take-append-le}
use Rattle.std.specs.Result.{IsErrAnd}
use Rattle.std.specs.List.{flat_map, enumerate_from}
use Rattle.srcp_core.specs.declared.record.ConnRecord.{ConnRecord}
use Rattle.srcp_script.specs.Output.{connection_lines}
use Rattle.std.proofs.Math.Seq.{take-append-add}
use Rattle.std.proofs.KnownBytes.{Appends-trans}
use Rattle.std.specs.Io.KnownBytes.{Appends}
use Rattle.srcp_tool.specs.Output.{AppendsPrefix, RefusesFor, Writes, WritesText}
use Rattle.srcp_tool.specs.declared.fault.ToolFault.{ToolFault}
use Rattle.srcp_tool.specs.declared.fault.ToolFault.TheVariants.{Config, Input, Line, Listen, Memory, Output, Plan, Script, TooLarge}
use Rattle.srcp_tool.specs.declared.fault.ToolFault.TheVariants.{Unreadable}

-- what writing a text that is to be printed comes to
pub writes_text : (Prints : List ℕ → Type 0) (Stops : ToolFault → Type 0) (text : List ℕ) (result : Result Unit ToolFault)
    → (old new : Option (List ℕ)) → Prints text → WritesText text result old new → Writes Prints Stops result old new
writes_text Prints Stops text (Ok done) old new prints whole = (text, prints, whole)
writes_text Prints Stops text (Err fault) old new prints front = rw front.0 (text, prints, front.1)

-- a text that is to be printed is written, or memory is refused before
pub writes_that : (Prints : List ℕ → Type 0) (Stops : ToolFault → Type 0) (text : List ℕ) (result : Result Unit ToolFault)
    → (old new : Option (List ℕ)) → Prints text → Stops Memory → Writes (λ t. t ≡ text) (RefusesFor (λ fault. ⊥)) result old new
    → Writes Prints Stops result old new
writes_that Prints Stops text (Ok done) old new prints stops w = (text, prints, subst (Appends old new) w.1 w.2)
writes_that Prints Stops text (Err Output) old new prints stops w = (text, prints, subst (AppendsPrefix old new) w.1 w.2)
writes_that Prints Stops text (Err Memory) old new prints stops w = (stops, w.1)
writes_that Prints Stops text (Err Input) old new prints stops w = absurd w.0
writes_that Prints Stops text (Err TooLarge) old new prints stops w = absurd w.0
writes_that Prints Stops text (Err (Script fault)) old new prints stops w = absurd w.0
writes_that Prints Stops text (Err (Line line)) old new prints stops w = absurd w.0
writes_that Prints Stops text (Err (Config fault)) old new prints stops w = absurd w.0
writes_that Prints Stops text (Err (Plan fault)) old new prints stops w = absurd w.0
writes_that Prints Stops text (Err Unreadable) old new prints stops w = absurd w.0
writes_that Prints Stops text (Err Listen) old new prints stops w = absurd w.0

-- a front of a text is a front of a longer one
pub front_of_more : (text behind : List ℕ) (fault : ToolFault) (old new : Option (List ℕ))
    → WritesText text (Err fault) old new → WritesText (text ++ behind) (Err fault) old new
front_of_more text behind fault old new w =
    let few : w.1.count < length text = w.1.within in
    let within : w.1.count ≤ length text = omega (arith, few) in (
      w.0,
      record {
        count = w.1.count;
        within = omega (arith, few, length-append text behind);
        appends = subst (Appends old new) (sym (take-append-le w.1.count text behind within)) w.1.appends;
      },
    )

-- a text is written behind one that was
pub written_behind : (first text : List ℕ) (result : Result Unit ToolFault) (old mid new : Option (List ℕ))
    → Appends old mid first → WritesText text result mid new → WritesText (first ++ text) result old new
written_behind first text (Ok done) old mid new before w = Appends-trans old mid new first text before w
written_behind first text (Err fault) old mid new before w = (
  w.0,
  record {
    count = length first + w.1.count;
    within = omega (arith, w.1.within, length-append first text);
    appends =
        subst (Appends old new) (sym (take-append-add first text w.1.count))
        (Appends-trans old mid new first (take w.1.count text) before w.1.appends);
  },
)

-- a front of the whole text is written, and this is left of it
pub record HasWritten (whole left : List ℕ) (old new : Option (List ℕ)) : Type 0 where
  pub front : List ℕ
  pub parts : whole ≡ front ++ left
  pub appends : Appends old new front

-- what is written next, if it is the front of what was left
pub written_next : (whole left text behind : List ℕ) (old mid new : Option (List ℕ)) → HasWritten whole left old mid → left ≡ text ++ behind
    → Appends mid new text → HasWritten whole behind old new
written_next whole left text behind old mid new before next w = record {
  front = before.front ++ text;
  parts = before.parts ∙ ap (λ end. before.front ++ end) next ∙ sym (append_assoc before.front text behind);
  appends = Appends-trans old mid new before.front text before.appends w;
}

-- a fault that is handed on
pub failed : (text : List ℕ) (fault : ToolFault) (result : Result Unit ToolFault) (old new : Option (List ℕ))
    → IsErrAnd result (λ f. f ≡ fault) → WritesText text (Err fault) old new → WritesText text result old new
failed text fault (Ok done) old new is w = absurd is
failed text fault (Err same) old new is w = rw is w

-- the writing fails in what is written next
pub fails_next : (whole left text behind : List ℕ) (fault : ToolFault) (old mid new : Option (List ℕ)) → HasWritten whole left old mid
    → left ≡ text ++ behind → WritesText text (Err fault) mid new → WritesText whole (Err fault) old new
fails_next whole left text behind fault old mid new before next w =
    let on : WritesText (before.front ++ left) (Err fault) old new =
    written_behind before.front left (Err fault) old mid new before.appends (rw next (front_of_more text behind fault mid new w)) in
    rw before.parts on

-- the lines of the next connection, and of those behind it
pub connections_next : (connections : List ConnRecord) (index : ℕ) (connection : ConnRecord) → index < length connections
    → connection ≡ get_or connections index connection
    → flat_map connection_lines (enumerate_from (index + 1) (drop index connections))
    ≡ connection_lines (index + 1, connection) ++ flat_map connection_lines (enumerate_from (index + 1 + 1) (drop (index + 1) connections))
connections_next connections index connection within is =
    at_drop_more (λ rest. flat_map connection_lines (enumerate_from (index + 1) rest)) connections index connection within ∙ rw (← is) refl
