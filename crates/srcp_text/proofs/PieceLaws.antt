-- The law of a stream of bytes, fed to a reader in pieces.
use Rattle.std.proofs.lemmas.Grind.{common_steps}
use Rattle.std.specs.Prelude.{◌≡◌, ℕ, ◌+◌, ◌-◌, ◌<◌, ◌≤◌, List, [], ◌∷◌, ◌++◌, length, take, drop, Option, MatchOption, IfSome}
use Rattle.std.specs.List.{concat, flat_map}
use Rattle.std.proofs.Common.{refl, ap, sym, ◌∙◌, subst, arith, suc, zero, drop-drop}
use Rattle.std.proofs.lemmas.List.{append_assoc, append-nil, take-append-drop}
use Rattle.srcp_text.specs.Marks.{Mark, marks, rest}
use Rattle.srcp_text.specs.Reading.{Reading, StandsAt, known, nothing_read}
use Rattle.srcp_text.specs.Feeding.{feed_of, new_marks, stop_of, consumed}
use Rattle.srcp_text.specs.Pieces.{Step, FeedsPiece, FeedsPieces, found, FindsMarks}
use Rattle.srcp_text.specs.declared.reader.Fed.{Fed}
use Rattle.srcp_text.specs.declared.reader.Fed.TheVariants.{Line as FoundLine, TooLong as FoundTooLong, More}
use Rattle.srcp_text.proofs.ReadingLaws.{stop_of-feed_of, within-next_stop, marks-fed, stands-fed}

-- what was fed and is fed then gives these marks, and leaves the reader there
abbrev Finds : List ℕ → List ℕ → List Mark → Reading → Type 0
Finds fed more new_ones new = (marks (fed ++ more) ≡ marks fed ++ new_ones) × StandsAt (fed ++ more) new

-- a feed, and then those of what follows
finds-append : (fed first second : List ℕ) (ms ns : List Mark) (between new : Reading) → Finds fed first ms between
    → Finds (fed ++ first) second ns new → Finds fed (first ++ second) (ms ++ ns) new
finds-append fed first second ms ns between new one two = grind (arith, append_assoc)

-- the bytes up to a stop, and those after it
front : (piece : List ℕ) (start stop : ℕ) → start ≤ stop → take (stop - start) (drop start piece) ++ drop stop piece ≡ drop start piece
front piece start stop le =
    let n : start + (stop - start) ≡ stop = omega arith in
    ap (λ ys. take (stop - start) (drop start piece) ++ ys) (sym (drop-drop (stop - start) start piece ∙ ap (λ k. drop k piece) n))
    ∙ take-append-drop (stop - start) (drop start piece)

-- a feed of a piece, and then those of what it left
finds_next : (piece fed : List ℕ) (start : ℕ) (reading new : Reading) (steps : List Step) (result : Fed)
    → IfSome (stop_of result) (λ stop. (start < stop) × (stop ≤ length piece))
    → MatchOption (stop_of result) ((steps ≡ []) × (reading ≡ new)) (λ stop. FeedsPiece piece stop reading steps new)
    → Finds fed (consumed piece start result) (new_marks result reading.line) reading
    → ((stop : ℕ) → FeedsPiece piece stop reading steps new → StandsAt (fed ++ consumed piece start result) reading
    → Finds (fed ++ consumed piece start result) (drop stop piece) (found steps) new)
    → Finds fed (drop start piece) (new_marks result reading.line ++ found steps) new
finds_next piece fed start reading new steps result within h one later = grind (arith, common_steps, front, finds-append)

-- the feeds of a piece find its marks
finds_piece : (piece fed : List ℕ) (start : ℕ) (old : Reading) (steps : List Step) (new : Reading) → FeedsPiece piece start old steps new
    → StandsAt fed old → Finds fed (drop start piece) (found steps) new
finds_piece piece fed start old [] new h stands = absurd h
finds_piece piece fed start old (step ∷ steps) new h stands =
    let stop = ap (λ r. stop_of r.0) h.0 ∙ stop_of-feed_of old piece start in
    finds_next piece fed start step.reading new steps step.result
    (subst (λ (o : Option ℕ). IfSome o (λ stop. (start < stop) × (stop ≤ length piece))) (sym stop) (within-next_stop piece start)) h.1
    (marks-fed fed old step.reading piece start step.result h.0 stands, stands-fed fed old step.reading piece start step.result h.0 stands)
    (λ stop. finds_piece piece (fed ++ consumed piece start step.result) stop step.reading steps new)

-- and those of piece after piece the marks of them all
finds_pieces : (pieces : List (List ℕ)) (fed : List ℕ) (old : Reading) (steps : List (List Step)) (new : Reading)
    → FeedsPieces pieces old steps new → StandsAt fed old → Finds fed (concat pieces) (flat_map found steps) new
finds_pieces [] fed old [] new h stands = (
  ap marks (append-nil fed) ∙ sym (append-nil (marks fed)),
  sym (ap (λ r. r.begun) h) ∙ stands ∙ ap (λ bytes. known (rest bytes)) (sym (append-nil fed)),
)
finds_pieces [] fed old (s ∷ later) new h stands = absurd h
finds_pieces (piece ∷ pieces) fed old [] new h stands = absurd h
finds_pieces (piece ∷ pieces) fed old (s ∷ later) new h stands =
    let one = finds_piece piece fed 0 old s h.0 h.1 stands in
    finds-append fed piece (concat pieces) (found s) (flat_map found later) h.0 new one
    (finds_pieces pieces (fed ++ piece) h.0 later new h.2 one.1)

-- there are such feeds of a piece, if there are of what the first one leaves
feeds_next : (piece : List ℕ) (start : ℕ) (old reading : Reading) (result : Fed) → (result, reading) ≡ feed_of old piece start
    → IfSome (stop_of result) (λ stop. (start < stop) × (stop ≤ length piece))
    → ((stop : ℕ) → start < stop → stop ≤ length piece → (steps : List Step) × (new : Reading) × FeedsPiece piece stop reading steps new)
    → (steps : List Step) × (new : Reading) × FeedsPiece piece start old steps new
feeds_next piece start old reading (FoundLine stop) e within later =
    let more = later stop within.0 within.1 in
    (record { result = FoundLine stop; reading = reading } ∷ more.0, more.1, (e, more.2))
feeds_next piece start old reading (FoundTooLong stop) e within later =
    let more = later stop within.0 within.1 in
    (record { result = FoundTooLong stop; reading = reading } ∷ more.0, more.1, (e, more.2))
feeds_next piece start old reading More e within later = (record { result = More; reading = reading } ∷ [], reading, (e, (refl, refl)))

stops_within : (piece : List ℕ) (start : ℕ) (old : Reading)
    → IfSome (stop_of (feed_of old piece start).0) (λ stop. (start < stop) × (stop ≤ length piece))
stops_within piece start old = grind (arith, stop_of-feed_of, within-next_stop)

-- so there are
feeds_piece : (n : ℕ) (piece : List ℕ) (start : ℕ) (old : Reading) → length piece - start ≤ n
    → (steps : List Step) × (new : Reading) × FeedsPiece piece start old steps new
feeds_piece zero piece start old few =
    let r = feed_of old piece start in
    feeds_next piece start old r.1 r.0 refl (stops_within piece start old)
    (λ stop later within. absurd (none start stop (length piece) few later within))
  where
    none : (start stop len : ℕ) → len - start ≤ 0 → start < stop → stop ≤ len → ⊥
    none start stop len few later within = omega arith
feeds_piece (suc n) piece start old few =
    let r = feed_of old piece start in
    feeds_next piece start old r.1 r.0 refl (stops_within piece start old)
    (λ stop later within. feeds_piece n piece stop r.1 (omega (arith, few, later, within)))

-- and of all pieces
feeds_pieces : (pieces : List (List ℕ)) (old : Reading) → (steps : List (List Step)) × (new : Reading) × FeedsPieces pieces old steps new
feeds_pieces [] old = ([], old, refl)
feeds_pieces (piece ∷ pieces) old =
    let one = feeds_piece (length piece) piece 0 old (omega arith) in
    let more = feeds_pieces pieces one.1 in
    (one.0 ∷ more.0, more.1, (one.1, one.2, more.2))

pub finds_marks : FindsMarks
finds_marks pieces =
    (feeds_pieces pieces nothing_read, λ steps new h. let all = finds_pieces pieces [] nothing_read steps new h refl in (sym all.0, all.1))
