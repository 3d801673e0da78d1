-- What the first read of a peer with a whole share hands out.
use Rattle.std.proofs.Common.{◌≡◌, ◌∙◌, ℕ, suc, ◌+◌, ◌<◌, ◌≤◌, Bool, true, false, not, cond}
use Rattle.std.proofs.Common.{List, [], ◌∷◌, ◌++◌, length, take, refl, ap, sym, subst}
use Rattle.std.proofs.Common.{arith, rules, ⊎_elim, ◌==◌, Option, Some, true≢false}
use Rattle.std.specs.Prelude.{⊤, ◌≢◌, Result, fold, if◌then◌else◌, min, nat_le, slice_index_or}
use Rattle.std.specs.List.{find}
use Rattle.std.specs.Option.{option_map, unwrap_or}
use Rattle.std.specs.Str.{str_eq_ignore_ascii_case}
use Rattle.std.proofs.lemmas.Bool.{cases_Bool}
use Rattle.std.proofs.lemmas.Bool.Decides.{nat_tests}
use Rattle.std.proofs.lemmas.List.{length-take, take_all}
use Rattle.std.proofs.lemmas.List.Sums.{sum_by-cons}
use Rattle.srcp_grammar.specs.Grammar.{named_in}
use Rattle.srcp_grammar.specs.Weight.{weight, weight_of as weight_of_words, weights}
use Rattle.srcp_door.specs.Pacing.{Allows, IsLongest, Seen, is_short_pace, line_weight, lines, rest_at, seen_after, weight_of}
use Rattle.srcp_door.specs.declared.door.DoorFault.{DoorFault}
use Rattle.srcp_door.specs.declared.door.Got.{Got}
use Rattle.srcp_door.specs.declared.pacing.LineBoundary.{LineBoundary}
use Rattle.srcp_door.specs.declared.pacing.LineBoundary.TheVariants.{At, Inside}
use Rattle.srcp_door.specs.declared.pacing.Pace.{Pace}
use Rattle.srcp_door.specs.declared.pacing.Pace.TheVariants.{Paced, OneLine}
use Rattle.srcp_door.specs.declared.pacing.Share.{Share}
use Rattle.srcp_peers.specs.declared.peer.Peer.{Peer}
use Rattle.srcp_peers.specs.declared.stay.Stay.{Stay}
use Rattle.srcp_peers.specs.declared.stay.Stay.TheVariants as stay
use Rattle.srcp_peers.specs.declared.turn.Listening.{Listening}
use Rattle.srcp_peers.specs.declared.turn.Turn.{Turn}
use Rattle.srcp_peers.specs.AllPeers.{IsAbsent}
use Rattle.srcp_peers.specs.Accounts.{Account, Lingering, account}
use Rattle.srcp_peers.specs.Peers.{Agrees, IsKept, ReadsAs, StaysAs}
use Rattle.srcp_peers.specs.Reports.{IsAnswered, piece_of}
use Rattle.srcp_peers.specs.Steps.{Step}
use Rattle.srcp_peers.specs.Times.{times}
use Rattle.srcp_peers.specs.Turns.{got_bytes, own_pace}
use Rattle.srcp_peers.proofs.PeersRestByAccount.{held_is}
use Rattle.srcp_peers.proofs.StatesFollowSteps.{reads_here}
use Rattle.srcp_log.specs.Doors.{IsThere, Stands}
use Rattle.srcp_log.specs.Duties.{held_piece}
use Rattle.srcp_log.specs.KeptTimes.{IsTimed}
use Rattle.srcp_log.specs.Shares.{AreWhole, FillsPace, IsFilled, are_anew}
use Rattle.srcp_log.specs.Shares.{is_unread}
use Rattle.srcp_log.specs.Work.{IsPeerRead, goes_behind}
use Rattle.srcp_log.proofs.SocketsStayStanding.{find as find_peer, nobody}
use Rattle.srcp_log.proofs.ReadsAnswerInTime.{no_more, piece_held}
use Rattle.srcp_log.proofs.TimesGoOn.{line_kept}

-- ---- what a peer with a whole share is handed out

lighter : (b : Bool) (n : ℕ) → n ≤ 11 → (if b then 0 else n) ≤ 11
lighter true n low = omega arith
lighter false n low = low

-- each weight of a table is at most 11
abbrev pub low_weights : List (List ℕ × ℕ) → Type 0
low_weights [] = ⊤
low_weights (entry ∷ table) = (entry.1 ≤ 11) × low_weights table

one_or_other : (b : Bool) (entry : List ℕ × ℕ) (other : Option (List ℕ × ℕ)) → entry.1 ≤ 11
    → unwrap_or (option_map (λ (e : List ℕ × ℕ). e.1) other) 11 ≤ 11
    → unwrap_or (option_map (λ (e : List ℕ × ℕ). e.1) (if b then Some entry else other)) 11 ≤ 11
one_or_other true entry other here there = here
one_or_other false entry other here there = there

named_low : (table : List (List ℕ × ℕ)) (word : List ℕ) → low_weights table → unwrap_or (named_in table word) 11 ≤ 11
named_low [] word low = omega arith
named_low (entry ∷ table) word low = one_or_other (str_eq_ignore_ascii_case entry.0 word) entry
    (find (λ e. str_eq_ignore_ascii_case e.0 word) table) low.0 (named_low table word low.1)

weighs : (words : List (List ℕ)) → weight_of_words words ≤ 11
weighs [] = omega arith
weighs (word ∷ words) = lighter _ (unwrap_or (named_in weights word) 11)
    (named_low weights word (omega arith, (omega arith, (omega arith, (omega arith, tt)))))

text_weighs : (text : List ℕ) → weight text ≤ 11
text_weighs text = search (rules, weighs)

line_weighs : (line : LineBoundary) (text : List ℕ) → line_weight line text ≤ 11
line_weighs At text = text_weighs text
line_weighs Inside text = omega arith

-- the first line that ends
first_end : (seen : Seen) (bytes : List ℕ) → seen.weight ≡ 0 → lines bytes ≢ 0 → (n : ℕ) × (n ≤ length bytes)
    × (0 < lines (take n bytes)) × ((fold seen_after seen (take n bytes)).weight ≤ 11)
first_end seen [] none some = absurd (some refl)
first_end seen (x ∷ xs) none some =
    let sum = sum_by-cons (λ (byte : ℕ). cond (byte == 10) 1 0) x in ⊎_elim
    (λ (yes : (x == 10) ≡ true).
    let last = sum [] in
    let one : cond {A = ℕ} (x == 10) 1 0 ≡ 1 = rw yes refl in
    let light : line_weight seen.line seen.text ≤ 11 = line_weighs seen.line seen.text in
    let weight : (seen_after seen x).weight ≡ seen.weight + line_weight seen.line seen.text = rw yes refl in
    (1, omega arith, omega (arith, last, one), omega (arith, weight, light, none)))
    (λ (no : (x == 10) ≡ false).
    let all = sum xs in
    let nothing : cond {A = ℕ} (x == 10) 1 0 ≡ 0 = rw no refl in
    let weight : (seen_after seen x).weight ≡ 0 = rw no none in
    let one = first_end (seen_after seen x) xs weight (λ (e : lines xs ≡ 0). some (omega (arith, all, nothing, e))) in
    let low : one.0 ≤ length xs = one.1 in
    let part = sum (take one.0 xs) in
    let there : 0 < lines (take one.0 xs) = one.2 in
    (suc one.0, omega (arith, low), omega (arith, part, nothing, there), one.3))
    (cases_Bool (x == 10))

fills : (pace : Pace) (share : Share) (piece : List ℕ) (count : ℕ) → is_short_pace pace ≡ false → share.rest ≡ 256
    → length piece ≤ 256 → Allows pace share piece count → FillsPace pace share.line piece count
fills OneLine share piece count ample whole low h = absurd (true≢false ample)
fills (Paced left) share piece count ample whole low h = record {
  most = most;
  one = λ some.
      let first = first_end (record { line = share.line; text = []; weight = 0 }) piece refl some in
      let light : weight_of share.line (take first.0 piece) ≤ 11 = first.3 in
      let fit : nat_le (weight_of share.line (take first.0 piece)) left ≡ true =
      fits_in (weight_of share.line (take first.0 piece)) light in
      let go : lines (take first.0 piece) ≤ lines (take count piece) = most first.0 first.1 fit in
      let there : 0 < lines (take first.0 piece) = first.2 in
      omega (arith, go, there);
}
  where
    all : take (rest_at (Paced left) share piece) piece ≡ piece
    all = ap (λ (n : ℕ). take n piece) (ap (λ (b : Bool). cond b (length piece) share.rest) ample ∙ whole) ∙ take_all 256 piece low

    own : IsLongest share.line left piece h.own
    own = subst (λ (p : List ℕ). IsLongest share.line left p h.own) all h.is_own

    behind : IsLongest share.line (weight_of share.line (take h.own piece)) piece count
    behind = subst (λ (p : List ℕ). IsLongest share.line (weight_of share.line (take h.own p)) piece count) all h.longest

    most : (n : ℕ) → n ≤ length piece → nat_le (weight_of share.line (take n piece)) left ≡ true
        → lines (take n piece) ≤ lines (take count piece)
    most n within fit =
        let light : weight_of share.line (take n piece) ≤ left = grind (arith, nat_tests) in
        let here : lines (take n piece) ≤ lines (take h.own piece) = no_more share.line left piece h.own n own within light in
        let more : lines (take h.own piece) ≤ lines (take count piece) =
        no_more share.line (weight_of share.line (take h.own piece)) piece count h.own behind own.within (omega arith) in
        omega (arith, here, more)

    fits_in : (weight : ℕ) → weight ≤ 11 → nat_le weight left ≡ true
    fits_in weight light = grind (arith, nat_tests)

own_whole : (waits : Bool) (pace : Pace) → is_short_pace pace ≡ false → own_pace waits pace ≡ pace
own_whole true pace ample = ap (λ (b : Bool). cond b (Paced 0) pace) ample
own_whole false pace ample = refl

pub here_is : (watched : Bool) (lingering : Lingering) (outgoing : List ℕ) (here : Stay) → StaysAs watched lingering outgoing here
    → watched ≡ true → here ≡ stay.Here
here_is watched lingering outgoing stay.Here h e = refl
here_is watched lingering outgoing (stay.Draining since) h e = absurd (true≢false (sym e ∙ h.0))
here_is watched lingering outgoing (stay.Shut since) h e = absurd (true≢false (sym e ∙ h.0))

piece_low : (p : Peer) (space : ℕ) → length (piece_of p space) ≤ 256
piece_low p space = omega (arith, length-take (min 256 space) p.incoming)

pub read_filled : (old : List Step) (turn : Turn) (peers later : List Peer) (l : Listening) (last who space : ℕ)
    (answer : Result Got DoorFault) (buffer : List ℕ) → Stands old peers l last → IsTimed old turn
    → AreWhole turn.timekeeper.wall turn.timekeeper.start old peers → length buffer ≡ space
    → IsPeerRead turn peers later who space answer (got_bytes answer buffer)
    → IsFilled turn.timekeeper.wall turn.timekeeper.start old who answer buffer
read_filled old turn peers later l last who space answer buffer stands timed whole long read = ⊎_elim
    (λ (there : IsThere who peers).
    let p : Peer = slice_index_or peers there.index nobody in
    let same : p.number ≡ who = there.same nobody in
    subst (λ (n : ℕ). IsFilled wall start old n answer buffer) same
    (each p (stands.kept there.index nobody there.within)
    (λ here. let r = read there.index nobody there.within (same, here) in (goes_behind turn peers p, r.0))
    (whole there.index nobody there.within)))
    (λ (absent : IsAbsent who peers) first. absurd (true≢false (sym first.watched ∙ (stands.closed who absent).watched)))
    (find_peer who peers)
  where
    wall : ℕ
    wall = turn.timekeeper.wall

    start : ℕ
    start = turn.timekeeper.start

    each : (p : Peer) → IsKept old p
        → (p.stay ≡ stay.Here → (waits : Bool) × IsAnswered turn waits p space answer (got_bytes answer buffer))
        → (are_anew wall start old ≡ true → is_unread p.number old ≡ true → p.share.rest ≡ 256)
        → IsFilled wall start old p.number answer buffer
    each p agrees answered rest first =
        let a : Account = account p.number old in
        let h : Agrees a p = agrees in
        let here : p.stay ≡ stay.Here = here_is a.watched a.lingering p.outgoing p.stay h.stays first.watched in
        let reads : ReadsAs a.received p.incoming p.input = reads_here a.received p.incoming p.input p.stay here h.reads in
        let gave : a.received.gave ≡ a.received.handed ++ p.incoming = reads.0 in
        let some : p.incoming ≢ [] = λ none. true≢false (sym first.held ∙ held_is a.received p.incoming gave
        ∙ ap (λ (xs : List ℕ). not (length xs == 0)) none) in
        let piece : piece_of p space ≡ held_piece a.received (length buffer) = piece_held a.received p space buffer gave long in
        let ample : is_short_pace turn.pace ≡ false = ap (λ (t : Turn). is_short_pace t.pace) (sym timed.same) ∙ first.ample in
        let count : ℕ = length (got_bytes answer buffer) in
        let r = answered here in
        let allows : Allows turn.pace p.share (piece_of p space) count =
        subst (λ (pace : Pace). Allows pace p.share (piece_of p space) count) (own_whole r.0 turn.pace ample) (r.1.some some).1 in
        let filled : FillsPace turn.pace p.share.line (piece_of p space) count =
        fills turn.pace p.share (piece_of p space) count ample (rest first.anew first.unread) (piece_low p space) allows in
        subst (λ (pace : Pace). FillsPace pace ((times wall start old).lines p.number) (held_piece a.received (length buffer)) count)
        (ap (λ (t : Turn). t.pace) (sym timed.same))
        (subst (λ (line : LineBoundary). FillsPace turn.pace line (held_piece a.received (length buffer)) count)
        (sym (line_kept old wall start p agrees))
        (subst (λ (xs : List ℕ). FillsPace turn.pace p.share.line xs count) piece filled))
