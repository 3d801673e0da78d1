use Rattle.srcp_core.proofs.Names.{◌≤◌, length, ◌∙◌, refl, arith, nothing_recorded, all_under, PlainMoments, subst, take_all}
use Rattle.std.proofs.lemmas.Option.{slice_get_read}
use Rattle.srcp_core.proofs.Agreement.OutlinesAreKept.{nothing_kept, record_at, record_from, record_kept}
use Rattle.srcp_core.proofs.Agreement.RunPromises.{moments_more}
use Rattle.srcp_core.proofs.Agreement.RecordIsOfTheCourse.{record_is, runs_all, runs_none, follows_more}
use Rattle.srcp_core.proofs.runner.carry_out.Goals as goal

pub returns-clause-record : goal.returns-clause-record
returns-clause-record g c =
    let all : length c.args.events.now ≤ c.loop-index.index = omega (arith, c.loop-index-test.false) in
    let r = c.loop-index.invariant.runs.0 in
    let held = c.loop-index.core in
    let u = runs_all c.args.layout.now c.args.events.now c.loop-index.index r held all c.loop-index.invariant.runs.2 in
    let e = c.in_ok-record.ensures in
    record {
      whole = record_at r held;
      runs = record {
        grants = u.grants;
        count = u.count;
        counted = u.counted;
        asked = u.asked;
        is = record_is c.args.layout.now (all_under u.grants c.args.events.now) r held (record_at r held) c.buses.ensures.laid_out
            u.runs refl refl refl refl;
      };
      is = cc (
        record_from c.in_ok-record.field-0 c.loop-index.recorder held e.steps e.refused e.connections e.rows e.denied,
        c.loop-index.invariant.runs.1,
        record_kept g.D.Detail.IN_FULL r held,
      );
    }

pub returns-clause-moments : goal.returns-clause-moments
returns-clause-moments g c =
    let all : length c.args.events.now ≤ c.loop-index.index = omega (arith, c.loop-index-test.false) in
    subst PlainMoments (take_all _ c.args.events.now all) c.loop-index.invariant.moments

pub returns-clause-laid_out : goal.returns-clause-laid_out
returns-clause-laid_out g c = c.buses.ensures.laid_out

pub loop-index-init : goal.loop-index-init
loop-index-init g c = record {
  runs = (
    nothing_recorded,
    c.new-recorder.ensures ∙ nothing_kept _,
    runs_none _ c.args.events.now _ _ refl
        c.in_ok-core.ensures,
  );
  moments = tt;
}

pub loop-index-preserved : goal.loop-index-preserved
loop-index-preserved g c =
    let at = slice_get_read c.args.events.now _ c.loop-index.index _ refl
    c.loop-index-test.true c.index-events-index.is in
    let i = c.loop-index.invariant in
    let course = c.in_ok-follow.ensures.course in
    let next = course.each i.runs.0 i.runs.1 in
    record {
      runs = (
        next.0,
        next.1,
        follows_more _ _ _ _ i.runs.0 next.0 _ _ c.buses.ensures.laid_out at next.2 i.runs.2,
      );
      moments = moments_more _ _ _ at c.follow.ensures.moment i.moments;
    }
