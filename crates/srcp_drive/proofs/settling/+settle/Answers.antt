-- An order for a place without a locomotive is answered; any other is what was asked for.
use Rattle.std.proofs.Common.{◌∙◌, ap, sym}
use Rattle.std.specs.Option.{option_or}
use Rattle.srcp_drive.proofs.Settlings.{answered_done, answered_none, answered_one}
use Rattle.srcp_drive.specs.Settling.{asks}
use Rattle.srcp_drive.proofs.settling.+settle.Goals as goal

pub returns-then-left-eq0-clause-table : goal.returns-then-left-eq0-clause-table
returns-then-left-eq0-clause-table t c =
    ap (λ s. s.table) (sym (answered_done c.args.left c.args.engines.now (asks c.args.driver.now c.args.orders) c.if-left-eq0.true))

pub returns-then-left-eq0-clause-tell : goal.returns-then-left-eq0-clause-tell
returns-then-left-eq0-clause-tell t c =
    ap (λ s. s.tell) (sym (answered_done c.args.left c.args.engines.now (asks c.args.driver.now c.args.orders) c.if-left-eq0.true))

pub returns-then-left-eq0-clause-put : goal.returns-then-left-eq0-clause-put
returns-then-left-eq0-clause-put t c =
    ap (λ s. s.put) (sym (answered_done c.args.left c.args.engines.now (asks c.args.driver.now c.args.orders) c.if-left-eq0.true))

pub returns-in-Some-clause-table : goal.returns-in-Some-clause-table
returns-in-Some-clause-table t c =
    c.settle.ensures.table
    ∙ ap (λ s. s.table) (sym (answered_one c.args.left c.args.engines.now c.args.driver.now _ c.args.orders c.in-Some.event _ _
    c.if-left-eq0.false (sym c.echo_of.ensures ∙ c.in-Some.is) c.step-more.ensures.table c.step-more.ensures.tell
    (c.or-put.ensures ∙ ap (option_or c.args.orders.put) c.step-more.ensures.put)))

pub returns-in-Some-clause-tell : goal.returns-in-Some-clause-tell
returns-in-Some-clause-tell t c =
    c.settle.ensures.tell
    ∙ ap (λ s. s.tell) (sym (answered_one c.args.left c.args.engines.now c.args.driver.now _ c.args.orders c.in-Some.event _ _
    c.if-left-eq0.false (sym c.echo_of.ensures ∙ c.in-Some.is) c.step-more.ensures.table c.step-more.ensures.tell
    (c.or-put.ensures ∙ ap (option_or c.args.orders.put) c.step-more.ensures.put)))

pub returns-in-Some-clause-put : goal.returns-in-Some-clause-put
returns-in-Some-clause-put t c =
    c.settle.ensures.put
    ∙ ap (λ s. s.put) (sym (answered_one c.args.left c.args.engines.now c.args.driver.now _ c.args.orders c.in-Some.event _ _
    c.if-left-eq0.false (sym c.echo_of.ensures ∙ c.in-Some.is) c.step-more.ensures.table c.step-more.ensures.tell
    (c.or-put.ensures ∙ ap (option_or c.args.orders.put) c.step-more.ensures.put)))

pub returns-in-None-clause-table : goal.returns-in-None-clause-table
returns-in-None-clause-table t c =
    ap (λ s. s.table) (sym (answered_none c.args.left c.args.engines.now (asks c.args.driver.now c.args.orders) c.if-left-eq0.false
    (sym c.echo_of.ensures ∙ c.in-None.is)))

pub returns-in-None-clause-tell : goal.returns-in-None-clause-tell
returns-in-None-clause-tell t c =
    ap (λ s. s.tell) (sym (answered_none c.args.left c.args.engines.now (asks c.args.driver.now c.args.orders) c.if-left-eq0.false
    (sym c.echo_of.ensures ∙ c.in-None.is)))

pub returns-in-None-clause-put : goal.returns-in-None-clause-put
returns-in-None-clause-put t c =
    ap (λ s. s.put) (sym (answered_none c.args.left c.args.engines.now (asks c.args.driver.now c.args.orders) c.if-left-eq0.false
    (sym c.echo_of.ensures ∙ c.in-None.is)))
