use Rattle.std.proofs.Common.{◌≡◌, ◌∙◌, ◌+◌, [], ◌∷◌, ◌++◌, length, length-append, refl, ap, arith}
use Rattle.std.proofs.lemmas.Result.{err_from_is_err_and}
use Rattle.srcp_tool.proofs.Mirrorings.{moved_on, taken_line, refused_line, taken_rest}
use Rattle.srcp_tool.proofs.stream.lines.MirroredLines.take.Goals as goal

pub loop-behind-preserved : goal.loop-behind-preserved
loop-behind-preserved c =
    let sofar = c.loop-behind.invariant in
    let line = c.cut_at.result.0.now in
    let behind = c.in-Some.behind.now in
    let cut : c.loop-behind.rest.now ≡ line ++ 10 ∷ behind = rw c.in-Some.is at c.cut_at.ensures.whole in
    let parts : length c.loop-behind.rest.now ≡ length line + length (10 ∷ behind) = ap length cut ∙ length-append line (10 ∷ behind) in (
      (sofar.0 ++ line) ++ 10 ∷ [],
      moved_on c.args.piece.now sofar.0 c.loop-behind.rest.now line behind sofar.1 cut,
      λ input taken.
          taken_line c.loop-behind.self (record c.loop-behind.self { begun = c.add.new.self }) c.end_line.new.self input sofar.0 line
          (sofar.2 input taken) refl refl c.add.ensures c.cut_at.ensures.clear c.in_ok-end_line.ensures.taken,
      omega (arith, sofar.3, c.in_ok-end_line.ensures.count),
    )

pub returns-in_err-end_line-clause-refused : goal.returns-in_err-end_line-clause-refused
returns-in_err-end_line-clause-refused c =
    let sofar = c.loop-behind.invariant in
    let line = c.cut_at.result.0.now in
    let behind = c.in-Some.behind.now in
    let cut : c.loop-behind.rest.now ≡ line ++ 10 ∷ behind = rw c.in-Some.is at c.cut_at.ensures.whole in
    let p = err_from_is_err_and c.from_residual.result c.from_residual.ensures.1 in
    rw (p.1, p.2)
    (λ e input taken.
    refused_line c.loop-behind.self
    (record c.loop-behind.self { begun = c.add.new.self }) _ input c.args.piece.now sofar.0 c.loop-behind.rest.now line behind
    (sofar.2 input taken) refl refl c.add.ensures c.cut_at.ensures.clear (c.in_err-end_line.ensures.refused e) sofar.1 cut)

pub returns-in_default-clause-taken : goal.returns-in_default-clause-taken
returns-in_default-clause-taken c = λ input taken.
    let sofar = c.loop-behind.invariant in
    let line = c.cut_at.result.0.now in
    let cut : c.loop-behind.rest.now ≡ line ++ [] = rw c.in_default.is at c.cut_at.ensures.whole in
    taken_rest c.loop-behind.self _ input c.args.piece.now sofar.0 c.loop-behind.rest.now line
    (sofar.2 input taken) refl refl c.add.ensures c.cut_at.ensures.clear sofar.1 cut
