use Rattle.std.proofs.Common.{◌∙◌, ap, subst}
use Rattle.srcp_core.specs.Past.{Past}
use Rattle.srcp_host.specs.Follows.{IsFollowed}
use Rattle.srcp_host.specs.Hosting.{longest_of_turns}
use Rattle.srcp_host.proofs.hosting.serve_file.Goals as goal

pub returns-clause-served : goal.returns-clause-served
returns-clause-served g c =
    let buses = c.in_ok-config.config.layout in
    let served = c.serve_sockets-served in
    record {
      config = c.in_ok-config.config;
      opened = c.in_ok-door.door.sockets.system.system;
      core = served.new.core;
      asked = record { says = c.in_ok-config.ensures; answered = c.in_ok-door.ensures.ok };
      counted = cc;
      followed = subst (λ (old : Past). IsFollowed buses c.args.turns served.result.opened served.new.door.sockets.system.log.steps
          old served.new.core) c.in_ok-core.ensures
          (served.ensures.course buses c.in_ok-core.ensures
          (ap (λ system. system.log.steps) c.limit_waits.ensures.system ∙ c.in_ok-door.ensures.log));
    }

pub returns-clause-limit : goal.returns-clause-limit
returns-clause-limit g c = c.serve_sockets-served.ensures.limit ∙ c.limit_waits.ensures.wait
    ∙ ap (longest_of_turns c.args.turns) c.in_ok-door.ensures.limit
