use Rattle.srcp_serve.proofs.Names.{false, true, inl, inr, sym, ◌∙◌, AreAboutPeers}
use Rattle.srcp_serve.specs.Tally.{CallsDoor}
use Rattle.srcp_serve.proofs.DoorIsCalled.{calls_on}
use Rattle.srcp_serve.proofs.VisitsFollow.{Ends, exchanges_lost, exchanges_on, visit_ends, visit_stays}
use Rattle.srcp_serve.proofs.serving.Server.visit.Goals.{else-read_in-via-then-read_in+then-write_out+else-not-closing}
use Rattle.srcp_serve.proofs.serving.Server.visit.Goals.{else-read_in-via-then-read_in+else-write_out, else-read_in-via-else-read_in}
use Rattle.srcp_serve.proofs.serving.Server.visit.Goals as goal

pub returns-then-not-closing-clause-calls : goal.returns-then-not-closing-clause-calls
returns-then-not-closing-clause-calls g c = calls_on _ _ _ _ _ _ c.read_in.ensures.calls c.write_out.ensures.calls

pub returns-then-not-closing-clause-course : goal.returns-then-not-closing-clause-course
returns-then-not-closing-clause-course g c =
    let peer = c.args.client.peer in
    let key = c.args.client.key in
    let trace = g.D.Door.trace _ in
    let trace_r = g.D.Door.trace c.read_in.new.self.door.now in
    let trace_w = g.D.Door.trace _ in
    visit_stays peer key c.args.core.now trace _ trace_w c.closing.result
    (exchanges_on peer key c.args.core.now trace c.read_in.new.core trace_r c.write_out.new.core trace_w
    c.write_out.ensures.calls.asks true c.if-read_in.ensures.course c.if-write_out.ensures.course)
    c.closing.ensures c.if-not-closing.true

pub returns-clause-calls : goal.returns-clause-calls
returns-clause-calls g c =
    let first : CallsDoor g.D.Door.faults g.D.Door.trace g.D.Door.limit AreAboutPeers c.args.self.now c.else-read_in.self =
    elim c.else-read_in.branch [
      | else-read_in-via-then-read_in+then-write_out+else-not-closing w ↦
          rw w.self-is (calls_on _ _ _ _ _ _ c.read_in.ensures.calls w.write_out.ensures.calls)
      | else-read_in-via-then-read_in+else-write_out w ↦
          rw w.self-is (calls_on _ _ _ _ _ _ c.read_in.ensures.calls w.write_out.ensures.calls)
      | else-read_in-via-else-read_in w ↦
          rw w.self-is c.read_in.ensures.calls
    ] in
    calls_on _ _ _ _ _ _ first c.disconnect.ensures.calls

pub returns-clause-course : goal.returns-clause-course
returns-clause-course g c =
    let peer = c.args.client.peer in
    let key = c.args.client.key in
    let old = c.args.core.now in
    let mid = c.else-read_in.core in
    let trace = g.D.Door.trace c.args.self.now.door.now in
    let trace_r = g.D.Door.trace c.read_in.new.self.door.now in
    let trace_mid = g.D.Door.trace c.else-read_in.self.door.now in
    let first : Ends peer key old trace mid trace_mid =
    elim c.else-read_in.branch [
      | else-read_in-via-then-read_in+then-write_out+else-not-closing w ↦
          let trace_w = g.D.Door.trace w.write_out.new.self.door.now in
          rw w.self-is (rw w.core-is (inr (
            exchanges_on peer key old trace c.read_in.new.core trace_r w.write_out.new.core trace_w
                w.write_out.ensures.calls.asks true w.if-read_in.ensures.course w.if-write_out.ensures.course,
            sym w.closing.ensures ∙ w.if-not-closing.false,
          )))
      | else-read_in-via-then-read_in+else-write_out w ↦
          let trace_w = g.D.Door.trace w.write_out.new.self.door.now in
          rw w.self-is (rw w.core-is (inl (exchanges_on peer key old trace c.read_in.new.core trace_r w.write_out.new.core trace_w
          w.write_out.ensures.calls.asks false w.if-read_in.ensures.course w.if-write_out.ensures.course)))
      | else-read_in-via-else-read_in w ↦
          rw w.self-is (rw w.core-is (inl (exchanges_lost peer key old trace c.read_in.new.core trace_r w.if-read_in.ensures.course)))
    ] in
    visit_ends peer key old trace mid trace_mid
    c.disconnect.new.core (g.D.Door.trace c.disconnect.new.self.door.now)
    c.disconnect.ensures.calls.asks c.disconnect.ensures.course first
