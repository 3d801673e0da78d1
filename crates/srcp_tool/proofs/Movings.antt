-- A box that goes on over the pieces of a stream.
use Rattle.std.proofs.Common.{◌≡◌, ◌∙◌, ℕ, ◌+◌, ◌-◌, ◌≤◌, List, [], ◌∷◌, ◌++◌, take, drop, Option, Some, None}
use Rattle.std.proofs.Common.{Result, Ok, Err, refl, ap, sym, subst}
use Rattle.std.proofs.Common.{arith, append_assoc, take-add}
use Rattle.std.specs.Prelude.{Bool, true, false, if◌then◌else◌, is_some, option_map, slice_range, unwrap_or}
use Rattle.std.specs.Option.{option_map_or}
use Rattle.std.specs.Io.KnownBytes.{Appends, Consumes, IsAtEnd}
use Rattle.std.specs.Prelude.{IfSome, length}
use Rattle.std.specs.Result.{IsErrAnd}
use Rattle.std.proofs.lemmas.List.{append-nil, take-append-drop}
use Rattle.std.proofs.KnownBytes.{Appends-trans, Consumes-trans}
use Rattle.srcp_text.specs.Marks.{Mark, Line, TooLong, marks}
use Rattle.srcp_text.specs.Reading.{Reading, StandsAt, nothing_read}
use Rattle.srcp_routes.specs.declared.interlocking.Event.{Event}
use Rattle.srcp_routes.specs.declared.route.Route.{Route}
use Rattle.srcp_routes.specs.Steps.{step}
use Rattle.srcp_interlock.specs.Boxes.{Box, TakesIn, box_after, box_of, box_sends, counted}
use Rattle.srcp_interlock.specs.Orders.{order_line}
use Rattle.srcp_tool.specs.Interlocking.{Answers, AnswersAll, AnswersFront, AppendsFront, AreHeard, Interlocks, SendsText, sends_over}
use Rattle.srcp_tool.specs.Output.{AppendsPrefix, WritesText}
use Rattle.srcp_tool.specs.Moving.{Moves, TakesAll, TakesFront, TakesPiece, box_over}
use Rattle.srcp_tool.specs.declared.fault.ToolFault.{ToolFault}
use Rattle.srcp_tool.specs.declared.fault.ToolFault.TheVariants as fault

-- ---- what was heard, one after the other

own_over : (b : Box) (events : List (Option Event)) → (box_over b events).own ≡ b.own
own_over b [] = refl
own_over b (event ∷ events) = own_over (box_after b event) events

numbers_over : (b : Box) (events : List (Option Event)) → (box_over b events).numbers ≡ b.numbers
numbers_over b [] = refl
numbers_over b (event ∷ events) = numbers_over (box_after b event) events

over_append : (b : Box) (first second : List (Option Event)) → box_over b (first ++ second) ≡ box_over (box_over b first) second
over_append b [] second = refl
over_append b (event ∷ first) second = over_append (box_after b event) first second

sends_append : (b : Box) (first second : List (Option Event))
    → sends_over b (first ++ second) ≡ sends_over b first ++ sends_over (box_over b first) second
sends_append b [] second = refl
sends_append b (event ∷ first) second =
    ap (λ text. unwrap_or (box_sends b event) [] ++ text) (sends_append (box_after b event) first second)
    ∙ sym (append_assoc (unwrap_or (box_sends b event) []) (sends_over (box_after b event) first) _)

heard_append : (own : ℕ) (numbers : List ℕ) (ms ns : List Mark) (es fs : List (Option Event)) → AreHeard own numbers ms es
    → AreHeard own numbers ns fs → AreHeard own numbers (ms ++ ns) (es ++ fs)
heard_append own numbers [] ns [] fs first second = second
heard_append own numbers [] ns (e ∷ es) fs first second = absurd first
heard_append own numbers (m ∷ ms) ns [] fs first second = absurd first
heard_append own numbers (m ∷ ms) ns (e ∷ es) fs first second = (first.0, heard_append own numbers ms ns es fs first.1 second)

-- ---- how a reader and a box go on

pub moves_none : (reading : Reading) (b : Box) → Moves reading b [] reading b []
moves_none reading b = record {
  found = [];
  finds = λ fed stands. ap marks (append-nil fed) ∙ sym (append-nil (marks fed));
  stands = λ fed stands. subst (λ (bytes : List ℕ). StandsAt bytes reading) (sym (append-nil fed)) stands;
  heard = [];
  each = tt;
  box = refl;
  same = refl;
}

moves_behind : (r0 r1 r2 : Reading) (b0 b2 : Box) (xs ys s t : List ℕ) (b1 : Box) (one : Moves r0 b0 xs r1 b1 s)
    → Moves r1 (box_over b0 one.heard) ys r2 b2 t → Moves r0 b0 (xs ++ ys) r2 b2 (s ++ t)
moves_behind r0 r1 r2 b0 b2 xs ys s t b1 one two = record {
  found = one.found ++ two.found;
  finds = λ fed stands.
      ap marks (sym (append_assoc fed xs ys)) ∙ two.finds (fed ++ xs) (one.stands fed stands)
      ∙ ap (λ ms. ms ++ two.found) (one.finds fed stands) ∙ append_assoc (marks fed) one.found two.found;
  stands = λ fed stands.
      subst (λ (bytes : List ℕ). StandsAt bytes r2) (append_assoc fed xs ys) (two.stands (fed ++ xs) (one.stands fed stands));
  heard = one.heard ++ two.heard;
  each =
      heard_append b0.own b0.numbers one.found two.found one.heard two.heard one.each
      (subst (λ (own : ℕ). AreHeard own b0.numbers two.found two.heard) (own_over b0 one.heard)
      (subst (λ (numbers : List ℕ). AreHeard (box_over b0 one.heard).own numbers two.found two.heard) (numbers_over b0 one.heard)
      two.each));
  box = two.box ∙ sym (over_append b0 one.heard two.heard);
  same = ap (λ text. text ++ t) one.same ∙ ap (λ text. sends_over b0 one.heard ++ text) two.same
      ∙ sym (sends_append b0 one.heard two.heard);
}

pub moves_on : (r0 r1 r2 : Reading) (b0 b1 b2 : Box) (xs ys s t : List ℕ) → Moves r0 b0 xs r1 b1 s → Moves r1 b1 ys r2 b2 t
    → Moves r0 b0 (xs ++ ys) r2 b2 (s ++ t)
moves_on r0 r1 r2 b0 b1 b2 xs ys s t one two =
    moves_behind r0 r1 r2 b0 b2 xs ys s t b1 one (subst (λ (b : Box). Moves r1 b ys r2 b2 t) one.box two)

-- ---- a line that tells of no event

none_counted : (begun : Bool) → counted begun None ≡ None
none_counted true = refl
none_counted false = refl

none_after : (b : Box) → box_after b None ≡ b
none_after b =
    ap
    (λ (event : Option Event). record b {
      begun = if is_some event then true else b.begun;
      table = (option_map_or (step b.table) event (record { table = b.table; order = None })).table;
    })
    (none_counted b.begun)

none_sent : (b : Box) → sends_over b (None ∷ []) ≡ []
none_sent b =
    ap
    (λ (event : Option Event).
    unwrap_or
    (option_map (order_line b.own) (option_map_or (step b.table) event (record { table = b.table; order = None })).order) []
    ++ [])
    (none_counted b.begun)

-- ---- a feed, by what it finds

module _ (reading on : Reading) (b : Box) (bytes : List ℕ)
    (stands : (fed : List ℕ) → StandsAt fed reading → StandsAt (fed ++ bytes) on) where
  pub moves_more : ((fed : List ℕ) → StandsAt fed reading → marks (fed ++ bytes) ≡ marks fed ++ []) → Moves reading b bytes on b []
  moves_more finds = record { found = []; finds = finds; stands = stands; heard = []; each = tt; box = refl; same = refl }

  pub moves_too_long : ((fed : List ℕ) → StandsAt fed reading → marks (fed ++ bytes) ≡ marks fed ++ TooLong ∷ [])
      → Moves reading b bytes on b []
  moves_too_long finds = record {
    found = TooLong ∷ [];
    finds = finds;
    stands = stands;
    heard = None ∷ [];
    each = (refl, tt);
    box = sym (none_after b);
    same = sym (none_sent b);
  }

  pub moves_line : (line : List ℕ) (after : Box) (sent : Option (List ℕ))
      → ((fed : List ℕ) → StandsAt fed reading → marks (fed ++ bytes) ≡ marks fed ++ Line line ∷ []) → TakesIn b line after sent
      → Moves reading b bytes on after (unwrap_or sent [])
  moves_line line after sent finds takes = record {
    found = Line line ∷ [];
    finds = finds;
    stands = stands;
    heard = takes.event ∷ [];
    each = (takes.hears, tt);
    box = takes.after;
    same = ap (λ o. unwrap_or o []) takes.sends ∙ sym (append-nil (unwrap_or (box_sends b takes.event) []));
  }

-- ---- a piece, line by line

pub front_more : (piece : List ℕ) (start stop : ℕ) → start ≤ stop → take start piece ++ slice_range piece start stop ≡ take stop piece
front_more piece start stop le =
    let n : start + (stop - start) ≡ stop = omega arith in
    sym (take-add start (stop - start) piece) ∙ ap (λ k. take k piece) n

-- what is sent behind a text that was written, if that is written in part
pub front_behind : (old mid new : Option (List ℕ)) (text more : List ℕ) → Appends old mid text → AppendsFront mid new more
    → AppendsFront old new (text ++ more)
front_behind old mid new text more before next = record {
  front = text ++ next.front;
  behind = next.behind;
  parts = ap (λ end. text ++ end) next.parts ∙ sym (append_assoc text next.front next.behind);
  appends = Appends-trans old mid new text next.front before next.appends;
}

-- nothing more was written
pub appends_none : (old : Option (List ℕ)) → Appends old old []
appends_none None = tt
appends_none (Some xs) = sym (append-nil xs)

-- all that is left of a piece ends no line
pub takes_more : (r0 r1 r2 : Reading) (b0 b1 : Box) (piece : List ℕ) (start : ℕ) (old new : Option (List ℕ))
    → TakesAll r0 b0 (take start piece) r1 b1 old new → Moves r1 b1 (drop start piece) r2 b1 [] → TakesAll r0 b0 piece r2 b1 old new
takes_more r0 r1 r2 b0 b1 piece start old new at next = record {
  text = at.text ++ [];
  moves =
      subst (λ (bytes : List ℕ). Moves r0 b0 bytes r2 b1 (at.text ++ [])) (take-append-drop start piece)
      (moves_on r0 r1 r2 b0 b1 b1 (take start piece) (drop start piece) at.text [] at.moves next);
  appends = subst (Appends old new) (sym (append-nil at.text)) at.appends;
}

moves_to : (r0 r1 r2 : Reading) (b0 b1 b2 : Box) (piece : List ℕ) (start stop : ℕ) (s t : List ℕ) → start ≤ stop
    → Moves r0 b0 (take start piece) r1 b1 s → Moves r1 b1 (slice_range piece start stop) r2 b2 t
    → Moves r0 b0 (take stop piece) r2 b2 (s ++ t)
moves_to r0 r1 r2 b0 b1 b2 piece start stop s t le first next =
    subst (λ (bytes : List ℕ). Moves r0 b0 bytes r2 b2 (s ++ t)) (front_more piece start stop le)
    (moves_on r0 r1 r2 b0 b1 b2 (take start piece) (slice_range piece start stop) s t first next)

-- a piece up to the end of its next line
pub takes_next : (r0 r1 r2 : Reading) (b0 b1 b2 : Box) (piece : List ℕ) (start stop : ℕ) (text : List ℕ) (old mid new : Option (List ℕ))
    → start ≤ stop → TakesAll r0 b0 (take start piece) r1 b1 old mid → Moves r1 b1 (slice_range piece start stop) r2 b2 text
    → Appends mid new text → TakesAll r0 b0 (take stop piece) r2 b2 old new
takes_next r0 r1 r2 b0 b1 b2 piece start stop text old mid new le at next appends = record {
  text = at.text ++ text;
  moves = moves_to r0 r1 r2 b0 b1 b2 piece start stop at.text text le at.moves next;
  appends = Appends-trans old mid new at.text text at.appends appends;
}

-- the same if what the box sends by that line is written in part
pub takes_front : (r0 r1 r2 : Reading) (b0 b1 b2 : Box) (piece : List ℕ) (start stop : ℕ) (text : List ℕ) (old mid new : Option (List ℕ))
    → start ≤ stop → TakesAll r0 b0 (take start piece) r1 b1 old mid → Moves r1 b1 (slice_range piece start stop) r2 b2 text
    → AppendsFront mid new text → TakesFront r0 b0 piece old new
takes_front r0 r1 r2 b0 b1 b2 piece start stop text old mid new le at next appends = record {
  front = take stop piece;
  behind = drop stop piece;
  parts = sym (take-append-drop stop piece);
  on = r2;
  after = b2;
  text = at.text ++ text;
  moves = moves_to r0 r1 r2 b0 b1 b2 piece start stop at.text text le at.moves next;
  appends = front_behind old mid new at.text text at.appends appends;
}

-- one piece after another
pub takes_both : (r0 r1 r2 : Reading) (b0 b1 b2 : Box) (xs ys : List ℕ) (old mid new : Option (List ℕ)) → TakesAll r0 b0 xs r1 b1 old mid
    → TakesAll r1 b1 ys r2 b2 mid new → TakesAll r0 b0 (xs ++ ys) r2 b2 old new
takes_both r0 r1 r2 b0 b1 b2 xs ys old mid new first next = record {
  text = first.text ++ next.text;
  moves = moves_on r0 r1 r2 b0 b1 b2 xs ys first.text next.text first.moves next.moves;
  appends = Appends-trans old mid new first.text next.text first.appends next.appends;
}

-- nothing was taken in
pub takes_none : (r : Reading) (b : Box) (old : Option (List ℕ)) → TakesAll r b [] r b old old
takes_none r b old = record { text = []; moves = moves_none r b; appends = appends_none old }

-- ---- faults that are handed on

front_of_prefix : (text : List ℕ) (old new : Option (List ℕ)) → AppendsPrefix old new text → AppendsFront old new text
front_of_prefix text old new w =
    record { front = take w.count text; behind = drop w.count text; parts = sym (take-append-drop w.count text); appends = w.appends }

pub sends_failed : (text : List ℕ) (why : ToolFault) (result : Result Unit ToolFault) (old new : Option (List ℕ))
    → IsErrAnd result (λ f. f ≡ why) → WritesText text (Err why) old new → SendsText text result old new
sends_failed text why (Ok done) old new is w = absurd is
sends_failed text why (Err same) old new is w = rw is (w.0, front_of_prefix text old new w.1)

pub takes_failed : (r0 on : Reading) (b0 after : Box) (piece : List ℕ) (why : ToolFault) (result : Result Unit ToolFault)
    (old new : Option (List ℕ)) → IsErrAnd result (λ f. f ≡ why) → why ≡ fault.Output → TakesFront r0 b0 piece old new
    → TakesPiece r0 b0 piece on after result old new
takes_failed r0 on b0 after piece why (Ok done) old new is output front = absurd is
takes_failed r0 on b0 after piece why (Err same) old new is output front = (is ∙ output, front)

-- ---- the whole input

pub answers_taken : (own : ℕ) (routes : List Route) (taken text : List ℕ) (on : Reading) (after : Box)
    → Moves nothing_read (box_of own routes) taken on after text → Answers own routes taken text
answers_taken own routes taken text on after moves = record {
  heard = moves.heard;
  each = subst (λ (ms : List Mark). AreHeard own (box_of own routes).numbers ms moves.heard) (sym (moves.finds [] refl)) moves.each;
  same = moves.same;
}

-- nothing was taken
pub consumes_none : (old : Option (List ℕ)) → Consumes old old []
consumes_none None = tt
consumes_none (Some xs) = refl

consumes_front : (old new : Option (List ℕ)) (taken : List ℕ) → Consumes old new taken
    → IfSome old (λ bytes. (behind : List ℕ) × (bytes ≡ taken ++ behind))
consumes_front None new taken c = tt
consumes_front (Some xs) None taken c = absurd c
consumes_front (Some xs) (Some ys) taken c = (ys, c)

-- the front of what was taken last
consumes_part : (old new : Option (List ℕ)) (taken piece front behind : List ℕ) → Consumes old new (taken ++ piece)
    → piece ≡ front ++ behind
    → IfSome old (λ bytes. (rest : List ℕ) × (bytes ≡ (taken ++ front) ++ rest))
consumes_part None new taken piece front behind c parts = tt
consumes_part (Some xs) None taken piece front behind c parts = absurd c
consumes_part (Some xs) (Some ys) taken piece front behind c parts = (
  behind ++ ys,
  c ∙ ap (λ p. (taken ++ p) ++ ys) parts ∙ regroup taken front behind ys,
)
  where
    regroup : (a b c d : List ℕ) → (a ++ (b ++ c)) ++ d ≡ (a ++ b) ++ (c ++ d)
    regroup a b c d = simp append_assoc

-- nothing was left to take
pub all_taken : (old mid new : Option (List ℕ)) (taken more : List ℕ) → Consumes old mid taken → Consumes mid new more → more ≡ []
    → IsAtEnd new → IfSome old (λ bytes. bytes ≡ taken)
all_taken None mid new taken more c d none end = tt
all_taken (Some xs) None new taken more c d none end = absurd c
all_taken (Some xs) (Some ys) None taken more c d none end = absurd d
all_taken (Some xs) (Some ys) (Some zs) taken more c d none end =
    let left : ys ≡ [] = d ∙ ap (λ ms. ms ++ zs) none ∙ end in c ∙ ap (λ ms. taken ++ ms) left ∙ append-nil taken

module _ (own : ℕ) (routes : List Route) (on : Reading) (after : Box) (input mid : Option (List ℕ)) (taken : List ℕ)
    (consumes : Consumes input mid taken) where
  -- what was taken in so far is answered
  pub answers_front : (least : ℕ) (old new : Option (List ℕ)) → least ≤ length taken
      → TakesAll nothing_read (box_of own routes) taken on after old new
      → AnswersFront own routes least (λ text. Appends old new text) input
  answers_front least old new some at = record {
    taken = taken;
    some = some;
    front = consumes_front input mid taken consumes;
    text = at.text;
    answers = answers_taken own routes taken at.text on after at.moves;
    written = at.appends;
  }

  -- and a front of the next piece in part
  pub answers_part : (end : Option (List ℕ)) (piece : List ℕ) (old now new : Option (List ℕ)) → Consumes mid end piece
      → TakesAll nothing_read (box_of own routes) taken on after old now → TakesFront on after piece now new
      → AnswersFront own routes 0 (λ text. AppendsFront old new text) input
  answers_part end piece old now new more at next = record {
    taken = taken ++ next.front;
    some = omega arith;
    front = consumes_part input end taken piece next.front next.behind (Consumes-trans input mid end taken piece consumes more) next.parts;
    text = at.text ++ next.text;
    answers =
        answers_taken own routes (taken ++ next.front) (at.text ++ next.text) next.on next.after
        (moves_on nothing_read on next.on (box_of own routes) after next.after taken next.front at.text next.text at.moves next.moves);
    written = front_behind old now new at.text next.text at.appends next.appends;
  }

  -- and the input is at its end
  pub answers_all : (end : Option (List ℕ)) (more : List ℕ) (old new : Option (List ℕ)) → Consumes mid end more → more ≡ [] → IsAtEnd end
      → TakesAll nothing_read (box_of own routes) taken on after old new → AnswersAll own routes input old new
  answers_all end more old new consumed none ends at = record {
    taken = taken;
    all = all_taken input mid end taken more consumes consumed none ends;
    text = at.text;
    answers = answers_taken own routes taken at.text on after at.moves;
    appends = at.appends;
  }

pub reading_failed : (own : ℕ) (routes : List Route) (why : ToolFault) (result : Result Unit ToolFault) (input old new : Option (List ℕ))
    → IsErrAnd result (λ f. f ≡ why) → why ≡ fault.Input → AnswersFront own routes 0 (λ text. Appends old new text) input
    → Interlocks own routes result input old new
reading_failed own routes why (Ok done) input old new is kind front = absurd is
reading_failed own routes why (Err same) input old new is kind front = rw (is ∙ kind) front

pub writing_failed : (own : ℕ) (routes : List Route) (why : ToolFault) (result : Result Unit ToolFault) (input old new : Option (List ℕ))
    → IsErrAnd result (λ f. f ≡ why) → why ≡ fault.Output → AnswersFront own routes 0 (λ text. AppendsFront old new text) input
    → Interlocks own routes result input old new
writing_failed own routes why (Ok done) input old new is kind front = absurd is
writing_failed own routes why (Err same) input old new is kind front = rw (is ∙ kind) front
