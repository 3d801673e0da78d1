use Rattle.std.proofs.Common.{◌∙◌, ℕ, List, ap, subst, arith, take}
use Rattle.std.proofs.lemmas.List.{take_min}
use Rattle.srcp_door.specs.Pacing.{IsLongest}
use Rattle.srcp_door.proofs.Sharing.{alone}
use Rattle.srcp_door.proofs.pacing.grant.Goals as goal

pub returns-else-rest-piece-clause-share : goal.returns-else-rest-piece-clause-share
returns-else-rest-piece-clause-share c =
    let piece = c.args.piece.now in
    let bytes = ap (λ n. take n piece) c.min.ensures ∙ take_min c.args.rest piece in
    let longest = subst (λ (own : List ℕ). IsLongest c.args.line c.args.most own c.longest_prefix-own.result.prefix.count) bytes
    c.longest_prefix-own.ensures.longest in
    record {
      own = c.longest_prefix-own.result.prefix.count;
      is_own = longest;
      longest = alone c.args.line c.args.most c.args.rest c.longest_prefix-own.result.prefix.count piece (omega arith) longest;
    }
