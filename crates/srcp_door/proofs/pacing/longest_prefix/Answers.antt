use Rattle.std.proofs.Common.{◌≡◌, ◌+◌, ◌∙◌, [], sym, subst, ap, refl, take, length, slice_index, length-drop, arith}
use Rattle.std.proofs.Math.Seq.{take-length}
use Rattle.std.proofs.lemmas.Grind.{common_steps}
use Rattle.std.proofs.lemmas.List.{take_rest}
use Rattle.srcp_door.specs.Pacing.{Seen, lines, seen_of, weight_of}
use Rattle.srcp_door.specs.declared.pacing.LineBoundary.TheVariants.{At}
use Rattle.srcp_door.proofs.Lines.{ends_line, found-end, lines_behind, lines_of-end, lines_of_part}
use Rattle.srcp_door.proofs.Lines.{lines_within, longest_at, weight_by_lines, weight_none, weight_same}
use Rattle.srcp_door.proofs.pacing.longest_prefix.Goals as goal

pub lines-preserved : goal.lines-preserved
lines-preserved c =
    let piece = c.args.piece.now in
    let start = c.lines.prefix.count in
    let end = start + c.in-Some.length in
    let found = c.in-Some.ensures.0 in
    let high = found-end piece start c.in-Some.length found in
    let here : slice_index piece end ≡ 10 = grind (arith, common_steps) in
    let ended = ends_line c.args.line c.lines.line piece start end c.lines.weight (omega arith) high here
    (λ k low below. found.before k low (omega arith)) c.lines.invariant.seen in
    let same = lines_of_part piece start end (omega arith) (omega arith) (λ k low below. found.before k low (omega arith)) in
    let one = lines_of-end piece end high here in
    record {
      within = omega arith;
      seen =
          subst (λ n. record { line = At; text = []; weight = c.lines.weight + n } ≡ seen_of c.args.line (take (end + 1) piece))
          (sym c.weight-next.ensures.weight) ended;
      few = omega arith;
      lines = omega (arith, c.lines.invariant.lines, same, one);
      most = omega (arith, c.lines.invariant.most);
    }

pub returns-then-next-most-clause-longest : goal.returns-then-next-most-clause-longest
returns-then-next-most-clause-longest c =
    let piece = c.args.piece.now in
    let start = c.lines.prefix.count in
    let end = start + c.in-Some.length in
    let found = c.in-Some.ensures.0 in
    let high = found-end piece start c.in-Some.length found in
    let here : slice_index piece end ≡ 10 = grind (arith, common_steps) in
    let seen = c.lines.invariant.seen in
    let weight = ap (λ (s : Seen). s.weight) seen in
    let ended = ends_line c.args.line c.lines.line piece start end c.lines.weight (omega arith) high here
    (λ k low below. found.before k low (omega arith)) seen in
    let heavier : c.lines.weight + c.weight-next.result ≡ weight_of c.args.line (take (end + 1) piece) =
    ap (λ n. c.lines.weight + n) c.weight-next.ensures.weight ∙ ap (λ (s : Seen). s.weight) ended in
    let same = lines_of_part piece start end (omega arith) (omega arith) (λ k low below. found.before k low (omega arith)) in
    let behind = lines_behind piece start end high here same in
    record {
      within = c.lines.invariant.within;
      few = omega (arith, weight, c.lines.invariant.few);
      longest = longest_at c.args.line piece start end c.args.most same (omega (arith, heavier));
      whole = λ some. sym (ap (λ (s : Seen). s.text) seen);
      begun = λ none. absurd (omega (arith, none, behind));
    }

pub returns-then-prefix-eq0-clause-longest : goal.returns-then-prefix-eq0-clause-longest
returns-then-prefix-eq0-clause-longest c =
    let piece = c.args.piece.now in
    let start = c.lines.prefix.count in
    let same = lines_of_part piece start (length piece) (omega arith) (omega arith)
    (λ k low below. c.in_default.ensures k low (rw take_rest (rw length-drop below))) in
    let all = ap lines (take-length piece) in
    let none : lines piece ≡ 0 = omega (arith, same, all, c.lines.invariant.lines) in
    let light = weight_none c.args.line piece none in
    let light_all = ap (weight_of c.args.line) (take-length piece) in
    record {
      within = omega arith;
      few = omega (arith, light, light_all);
      longest = λ n within more. let few = lines_within piece n within in absurd (omega (arith, few, more, all));
      whole = λ some. absurd (some none);
      begun = λ e. refl;
    }

pub returns-then-prefix-eq0-clause-weight : goal.returns-then-prefix-eq0-clause-weight
returns-then-prefix-eq0-clause-weight c =
    let piece = c.args.piece.now in
    let start = c.lines.prefix.count in
    let same = lines_of_part piece start (length piece) (omega arith) (omega arith)
    (λ k low below. c.in_default.ensures k low (rw take_rest (rw length-drop below))) in
    let before = weight_none c.args.line (take start piece) (omega (arith, c.lines.invariant.lines)) in
    let all = weight_none c.args.line (take (length piece) piece) (omega (arith, same, c.lines.invariant.lines)) in
    ap (λ (s : Seen). s.weight) c.lines.invariant.seen ∙ before ∙ sym all

pub returns-else-prefix-eq0-clause-longest : goal.returns-else-prefix-eq0-clause-longest
returns-else-prefix-eq0-clause-longest c =
    let piece = c.args.piece.now in
    let start = c.lines.prefix.count in
    let same = lines_of_part piece start (length piece) (omega arith) (omega arith)
    (λ k low below. c.in_default.ensures k low (rw take_rest (rw length-drop below))) in
    let all = ap lines (take-length piece) in
    let seen = c.lines.invariant.seen in
    let weight = ap (λ (s : Seen). s.weight) seen in
    record {
      within = c.lines.invariant.within;
      few = omega (arith, weight, c.lines.invariant.few);
      longest = λ n within more. let few = lines_within piece n within in absurd (omega (arith, few, more, same, all));
      whole = λ some. sym (ap (λ (s : Seen). s.text) seen);
      begun = λ none. absurd (omega (arith, none, same, all, c.lines.invariant.lines));
    }

pub returns-then-next-most-clause-next : goal.returns-then-next-most-clause-next
returns-then-next-most-clause-next c = λ zero.
    let piece = c.args.piece.now in
    let start = c.lines.prefix.count in
    let end = start + c.in-Some.length in
    let found = c.in-Some.ensures.0 in
    let high = found-end piece start c.in-Some.length found in
    let here : slice_index piece end ≡ 10 = grind (arith, common_steps) in
    let seen = c.lines.invariant.seen in
    let weight = ap (λ (s : Seen). s.weight) seen in
    let ended = ends_line c.args.line c.lines.line piece start end c.lines.weight (omega arith) high here
    (λ k low below. found.before k low (omega arith)) seen in
    let heavier : c.lines.weight + c.weight-next.result ≡ weight_of c.args.line (take (end + 1) piece) =
    ap (λ n. c.lines.weight + n) c.weight-next.ensures.weight ∙ ap (λ (s : Seen). s.weight) ended in
    let same = lines_of_part piece start end (omega arith) (omega arith) (λ k low below. found.before k low (omega arith)) in
    let one = lines_of-end piece end high here in
    record {
      count = end + 1;
      within = omega (arith, high);
      is = omega (arith, heavier, c.lines.invariant.few, zero);
      before = λ k within few.
          let upto = weight_by_lines c.args.line piece k start (omega (arith, few, one, same)) in
          omega (arith, upto, weight, c.lines.invariant.few, zero);
      none = λ light. absurd (omega (arith, light));
    }

pub returns-then-prefix-eq0-clause-next : goal.returns-then-prefix-eq0-clause-next
returns-then-prefix-eq0-clause-next c = λ zero.
    let piece = c.args.piece.now in
    let same = lines_of_part piece c.lines.prefix.count (length piece) (omega arith) (omega arith)
    (λ k low below. c.in_default.ensures k low (rw take_rest (rw length-drop below))) in
    let all = ap lines (take-length piece) in
    let none : lines piece ≡ 0 = omega (arith, same, all, c.lines.invariant.lines) in
    record {
      count = 0;
      within = omega arith;
      is = refl;
      before = λ k within few. absurd (omega (arith, few));
      none = λ e. weight_none c.args.line piece none;
    }

pub returns-else-prefix-eq0-clause-next : goal.returns-else-prefix-eq0-clause-next
returns-else-prefix-eq0-clause-next c = λ zero.
    let piece = c.args.piece.now in
    let start = c.lines.prefix.count in
    let same = lines_of_part piece start (length piece) (omega arith) (omega arith)
    (λ k low below. c.in_default.ensures k low (rw take_rest (rw length-drop below))) in
    let weight = ap (λ (s : Seen). s.weight) c.lines.invariant.seen in
    let whole = weight_same c.args.line piece start (length piece) (omega arith) same in
    let all = ap (weight_of c.args.line) (take-length piece) in
    record {
      count = 0;
      within = omega arith;
      is = refl;
      before = λ k within few. absurd (omega (arith, few));
      none = λ e. omega (arith, weight, whole, all, c.lines.invariant.few, zero);
    }
