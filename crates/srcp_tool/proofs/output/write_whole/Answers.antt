use Rattle.std.proofs.Common.{ℕ, List, ◌++◌, length, take, drop, arith, subst, sym, take-add, length-drop}
use Rattle.std.proofs.lemmas.Slice.{between_to_end}
use Rattle.std.proofs.KnownBytes.{Appends-trans}
use Rattle.std.specs.Io.KnownBytes.{Appends}
use Rattle.srcp_tool.proofs.output.write_whole.Goals as goal

pub loop-done-preserved : goal.loop-done-preserved
loop-done-preserved g c =
    let text = c.args.text.now in
    let done = c.loop-done.done in
    let before = g.W.Write.contents c.args.writer.now in
    let at = g.W.Write.contents c.loop-done.writer in
    let now = g.W.Write.contents c.write.new.self in
    let piece : Appends at now (take c.in-Ok.count (drop done text)) =
    subst (λ (b : List ℕ). Appends at now (take c.in-Ok.count b))
    (between_to_end text done (length text) (omega arith)) c.in-Ok.ensures.bytes in
    let both : Appends before now (take done text ++ take c.in-Ok.count (drop done text)) =
    Appends-trans before at now _ _ c.loop-done.invariant.written piece in
    record {
      within = omega (arith, c.in-Ok.ensures.bound, length-drop done text);
      written = subst (λ (b : List ℕ). Appends before now b) (sym (take-add done c.in-Ok.count text)) both;
    }
