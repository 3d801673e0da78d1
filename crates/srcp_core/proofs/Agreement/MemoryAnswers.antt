-- What memory answers: each line and each order has its answer, and what a denied order does is nothing.
use Rattle.srcp_core.proofs.Names.{◌≡◌, ℕ, ◌+◌, min, Bool, true, false, List, [], ◌∷◌, ◌++◌, length, refl, ap, sym, ◌∙◌, arith, fold-append}
use Rattle.srcp_core.proofs.Names.{if◌then◌else◌, IsTrue, Option, Some, None, AllByRecursion, fold, Connection, World, start}
use Rattle.srcp_core.proofs.Names.{open_connection, counted, fed_to, or_refused, happens, course, HasMoment, AllMoments, HasPlainMoment}
use Rattle.srcp_core.proofs.Names.{PlainMoments, CoreFault, Mark, lines_under, under, all_under, giving, denied_by, Bus}
use Rattle.srcp_core.specs.declared.event.Event.TheVariants as plain
use Rattle.srcp_core.specs.Under.{first_of}
use Rattle.srcp_core.specs.declared.event.Event.{Event as PlainEvent}

-- one line more with its answer
pub lines_push : (grants : List Bool) (marks : List Mark) (granted : Bool) (mark : Mark) → length grants ≡ length marks
    → lines_under (grants ++ granted ∷ []) (marks ++ mark ∷ []) ≡ lines_under grants marks ++ record { mark = mark; granted = granted } ∷ []
lines_push [] [] granted mark e = refl
lines_push [] (m ∷ marks) granted mark e = absurd (omega (arith, e))
lines_push (g ∷ grants) [] granted mark e = absurd (omega (arith, e))
lines_push (g ∷ grants) (m ∷ marks) granted mark e =
    let less : length grants ≡ length marks = omega (arith, e) in
    cc (lines_push grants marks granted mark less)

-- one event more with its answers
pub under_push : (grants : List (List Bool)) (events : List PlainEvent) (more : List Bool) (event : PlainEvent)
    → length grants ≡ length events
    → all_under (grants ++ more ∷ []) (events ++ event ∷ []) ≡ all_under grants events ++ under more event ∷ []
under_push [] [] more event e = refl
under_push [] (x ∷ events) more event e = absurd (omega (arith, e))
under_push (g ∷ grants) [] more event e = absurd (omega (arith, e))
under_push (g ∷ grants) (x ∷ events) more event e =
    let less : length grants ≡ length events = omega (arith, e) in cc (under_push grants events more event less)

pub under_length : (grants : List (List Bool)) (events : List PlainEvent) → length (all_under grants events) ≡ length events
under_length grants [] = refl
under_length [] (x ∷ events) = cc (under_length [] events)
under_length (g ∷ grants) (x ∷ events) = cc (under_length grants events)

-- ---- the count of what memory refused

-- a count that was raised is not 0
pub counts : (k : ℕ) → min (k + 1) 18446744073709551615 ≡ 0 → ⊥
counts k e = omega (arith, e)

-- a line more, with its answer
pub counted_more : (first now later : ℕ) (grants : List Bool) (granted : Bool) → now ≡ denied_by first grants
    → later ≡ denied_by now (granted ∷ []) → later ≡ denied_by first (grants ++ granted ∷ [])
counted_more first now later grants granted e f =
    f ∙ ap (λ k. denied_by k (granted ∷ [])) e
    ∙ sym (fold-append (λ count granted. if granted then count else min _ _) first grants _)

-- where the count is 0, it was 0 before and each answer gave
pub none_denied : (grants : List Bool) (k : ℕ) → denied_by k grants ≡ 0 → (k ≡ 0) × AllByRecursion IsTrue grants
none_denied [] k e = (e, tt)
none_denied (true ∷ grants) k e = let n = none_denied grants k e in (n.0, (refl, n.1))
none_denied (false ∷ grants) k e = absurd (counts k (none_denied grants _ e).0)

-- and so in each event
pub none_of_all : (grants : List (List Bool)) (k : ℕ) → fold denied_by k grants ≡ 0
    → (k ≡ 0) × AllByRecursion (AllByRecursion IsTrue) grants
none_of_all [] k e = (e, tt)
none_of_all (g ∷ grants) k e =
    let later = none_of_all grants _ e in
    let now = none_denied g k later.0 in
    (now.0, (now.1, later.1))

-- the moments are those of the events whatever memory answers
one_moment : (grants : List Bool) (event : PlainEvent) → HasPlainMoment event → HasMoment (under grants event)
one_moment grants plain.Open h = tt
one_moment grants (plain.Bytes n piece) h = tt
one_moment grants (plain.Room n bytes) h = tt
one_moment grants (plain.At moment) h = h
one_moment grants (plain.Shut n) h = tt

pub all_moments : (grants : List (List Bool)) (events : List PlainEvent) → PlainMoments events → AllMoments (all_under grants events)
all_moments grants [] h = tt
all_moments [] (event ∷ events) h = (one_moment [] event h.0, all_moments [] events h.1)
all_moments (g ∷ grants) (event ∷ events) h = (one_moment g event h.0, all_moments grants events h.1)

-- ---- where memory gives all

all_first : (grants : List Bool) → AllByRecursion IsTrue grants → first_of grants ≡ true
all_first [] a = refl
all_first (g ∷ grants) a = a.0

pub lines_all : (grants : List Bool) (marks : List Mark) → AllByRecursion IsTrue grants → lines_under grants marks ≡ lines_under [] marks
lines_all [] marks a = refl
lines_all (g ∷ grants) [] a = refl
lines_all (g ∷ grants) (mark ∷ marks) a = cc (a.0, lines_all grants marks a.1)

fed_all : (buses : List Bus) (n : ℕ) (bytes : List ℕ) (grants : List Bool) (o : Option Connection) (w : World)
    → AllByRecursion IsTrue grants → fed_to buses n (record { bytes = bytes; grants = grants }) o w ≡ fed_to buses n (giving bytes) o w
fed_all buses n bytes grants None w a = refl
fed_all buses n bytes grants (Some conn) w a = cc (lines_all grants _ a)

-- an event happens as where memory gives all
pub happens_all : (buses : List Bus) (w : World) (grants : List Bool) (event : PlainEvent) → AllByRecursion IsTrue grants
    → happens buses w (under grants event) ≡ happens buses w (under [] event)
happens_all buses w grants plain.Open a = cc (all_first grants a)
happens_all buses w grants (plain.Bytes n piece) a = by _
  where
    by : (o : Option CoreFault)
        → or_refused buses o (under grants (plain.Bytes n piece)) (counted w)
        ≡ or_refused buses o (under [] (plain.Bytes n piece)) (counted w)
    by None = fed_all buses n piece grants (open_connection (counted w) n) _ a
    by (Some cause) = refl
happens_all buses w grants (plain.Room n bytes) a = refl
happens_all buses w grants (plain.At moment) a = refl
happens_all buses w grants (plain.Shut n) a = refl

-- with all answers given the course is that of the events where memory gives all
course_all : (buses : List Bus) (grants : List (List Bool)) (events : List PlainEvent) (w : World)
    → AllByRecursion (AllByRecursion IsTrue) grants
    → fold (happens buses) w (all_under grants events) ≡ fold (happens buses) w (all_under [] events)
course_all buses grants [] w a = refl
course_all buses [] (event ∷ events) w a = refl
course_all buses (g ∷ grants) (event ∷ events) w a =
    cc (happens_all buses w g event a.0, course_all buses grants events _ a.1)

pub gives_as_if : (buses : List Bus) (grants : List (List Bool)) (events : List PlainEvent) → AllByRecursion (AllByRecursion IsTrue) grants
    → course buses (all_under grants events) ≡ course buses (all_under [] events)
gives_as_if buses grants events a = course_all buses grants events start a
