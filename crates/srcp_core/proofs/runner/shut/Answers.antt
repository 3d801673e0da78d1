use Rattle.srcp_core.proofs.Names.{sym, ◌∙◌, refl, ap, [], ◌∷◌, live_session, Recording, key_of, shut, stepped}
use Rattle.std.proofs.Common.{None, Some}
use Rattle.srcp_core.specs.declared.event.Event.TheVariants.{Shut}
use Rattle.srcp_core.specs.declared.record.Step.TheVariants.{Ended}
use Rattle.srcp_core.proofs.Agreement.OutlinesAreKept.{keeps_changed, keeps_same, keeps_then}
use Rattle.srcp_core.proofs.Agreement.RunsAnEvent.{told_as, gone_happens, shut_happens, shut_count, with_end, absent_happens}
use Rattle.srcp_core.proofs.runner.shut.Goals as goal

pub returns-in_default : goal.returns-in_default
returns-in_default g c =
    keeps_same _
    (λ r e. absent_happens (Shut c.args.conn) c.args.conn r _ (λ buses w e. cc) (cc (c.key.ensures, c.in_default.is)))

pub returns-in-Err : goal.returns-in-Err
returns-in-Err g c =
    keeps_same _
    (λ r e. gone_happens _ (Some c.in-Err.fault) _ _ r _ r _ (ap
    (key_of c.args.conn) (sym e) ∙ sym c.key.ensures ∙ c.in-Some.is)
    c.in-Err.ensures.absent.1 (shut_count c.in-Some.key c.args.core.now c.hangup.new.self c.hangup.ensures.core))

pub returns-in_ok-step : goal.returns-in_ok-step
returns-in_ok-step g c =
    keeps_then c.args.recorder.now c.shut.new.self c.step.new.self
    (λ r s t e gone ends.
    told_as (Shut c.args.conn) None r c.args.core.now (with_end (live_session c.in-Some.key c.args.core.now) c.moment.result (shut
    c.args.conn r)) t c.hangup.new.self c.hangup.new.self
    (ends
    ∙ ap (λ (x : Recording). stepped (Ended c.in-Some-session.session c.moment.result ∷ []) x) gone
    ∙ ap (λ o. with_end o c.moment.result (shut c.args.conn r)) (sym c.in-Some-session.is ∙ c.live_session-session.ensures)) refl
    (shut_happens c.args.conn c.in-Some.key r c.args.core.now c.hangup.new.self c.moment.result
    (cc (c.key.ensures, c.in-Some.is)) c.hangup.ensures.core c.moment.ensures))
    c.shut.ensures c.in_ok-step.ensures

pub returns-in_default-session : goal.returns-in_default-session
returns-in_default-session g c =
    keeps_changed (shut c.args.conn) c.args.recorder.now c.shut.new.self
    (λ r e.
    told_as (Shut c.args.conn) None r c.args.core.now (with_end (live_session c.in-Some.key c.args.core.now) c.hangup.new.self.moment
    (shut c.args.conn r)) (shut c.args.conn r) c.hangup.new.self c.hangup.new.self
    (ap (λ o. with_end o c.hangup.new.self.moment (shut c.args.conn r)) (sym c.in_default-session.is
    ∙ c.live_session-session.ensures)) refl
    (shut_happens c.args.conn c.in-Some.key r c.args.core.now c.hangup.new.self c.hangup.new.self.moment
    (cc (c.key.ensures, c.in-Some.is)) c.hangup.ensures.core refl))
    c.shut.ensures
