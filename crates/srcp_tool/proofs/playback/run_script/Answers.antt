use Rattle.std.proofs.Common.{List, subst, arith}
use Rattle.srcp_tool.proofs.Replays.{replays}
use Rattle.srcp_core.specs.Promised.{IsPromisedOutline}
use Rattle.srcp_core.specs.declared.event.Event.{Event}
use Rattle.srcp_tool.proofs.playback.run_script.Goals as goal

pub returns-clause-text : goal.returns-clause-text
returns-clause-text g c =
    replays c.args.layout.now c.in_ok-events.events.items c.in_ok-outline.outline c.args.input.now
    (subst (λ (events : List Event). IsPromisedOutline c.args.layout.now events c.in_ok-outline.outline) c.deref.ensures.value
    c.in_ok-outline.ensures.promised)
    (omega arith) c.in_ok-events.ensures.events
