use Rattle.std.proofs.Common.{◌≡◌, ◌∙◌, ℕ, arith, inr, refl, subst}
use Rattle.srcp_peers.specs.Peers.{KeepsRest, Makes}
use Rattle.srcp_peers.proofs.CallsAreOfTheDoor.{keeps_then, says_none, says_then}
use Rattle.srcp_log.specs.Work.{is_close}
use Rattle.srcp_log.proofs.PeersAreFrom.{from_same, from_then, rest_stays, rest_then}
use Rattle.srcp_sockets.proofs.sockets.Sockets.close_gone.Goals as goal

pub loop-init : goal.loop-init
loop-init g c =
    let old = c.args.self.now.system.log.steps in
    record {
      calls = says_none old;
      last = refl;
      times = λ wall start. refl;
      turn = refl;
      services = refl;
      limit = refl;
      heard = refl;
      made = omega arith;
      most = λ n le. omega arith;
      left = from_same KeepsRest rest_stays c.args.self.now.peers.items;
      as_few = omega arith;
      out = λ all flushed. flushed;
    }

pub loop-preserved : goal.loop-preserved
loop-preserved g c =
    let first = c.args.self.now.system.log.steps in
    let old = c.loop.self.system.log.steps in
    let new = c.close_at.new.self.system.log.steps in
    let was = c.loop.invariant in
    let now = c.close_at.ensures in
    record {
      calls = says_then first old new was.calls now.calls;
      last = now.last ∙ was.last;
      times = keeps_then first old new was.times now.times;
      turn = now.keeps.0 ∙ was.turn;
      services = now.keeps.1 ∙ was.services;
      limit = now.keeps.2 ∙ was.limit;
      heard = now.heard ∙ was.heard;
      made = (let a = now.closed in let b = was.made in omega (arith, a, b));
      most = λ n le. (let a = now.most in let b = was.most c.loop.counter (omega arith) in omega (arith, le, a, b));
      left = from_then KeepsRest KeepsRest KeepsRest rest_then c.args.self.now.peers.items c.loop.self.peers.items
          c.close_at.new.self.peers.items was.left now.left;
      as_few = (let a = now.as_few in let b = was.as_few in omega (arith, a, b));
      out = λ all flushed. now.out all (was.out all flushed);
    }

pub returns-clause-closed : goal.returns-clause-closed
returns-clause-closed g c =
    let all : c.loop.counter ≡ 64 = omega arith in
    inr (subst (λ (n : ℕ). Makes is_close n c.args.self.now.system.log.steps c.loop.self.system.log.steps) all
    c.loop.invariant.made)
