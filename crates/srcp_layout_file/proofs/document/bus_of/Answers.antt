use Rattle.std.proofs.Common.{refl, rules}
use Rattle.srcp_layout_file.proofs.document.bus_of.Goals as goal

pub returns-clause-bus : goal.returns-clause-bus
returns-clause-bus c =
    rw (
      ← c.in_ok-number.ensures.number,
      c.in_ok-array_at.ensures,
      ← c.in_ok-groups.ensures,
      ← c.in_ok-gl_max.ensures.value,
      ← c.in_ok-ga_max.ensures.value,
      ← c.in_ok-ga_ports.ensures.ports,
      ← c.in_ok-fb_ports.ensures.value,
    ) refl

pub returns-clause-new : goal.returns-clause-new
returns-clause-new c =
    let number = c.in_ok-number.ensures.new in (
      record {
        number = (number.0, number.1);
        gl_max = c.in_ok-gl_max.ensures.within;
        ga_max = c.in_ok-ga_max.ensures.within;
        ga_ports = λ some. c.in_ok-ga_ports.ensures.within;
        fb_ports = c.in_ok-fb_ports.ensures.within;
      },
      number.2,
    )

pub returns-in_err-fb_ports-clause-bus : goal.returns-in_err-fb_ports-clause-bus
returns-in_err-fb_ports-clause-bus c =
    rw (
      ← c.in_ok-number.ensures.number,
      c.in_ok-array_at.ensures,
      ← c.in_ok-groups.ensures,
      ← c.in_ok-gl_max.ensures.value,
      ← c.in_ok-ga_max.ensures.value,
      ← c.in_ok-ga_ports.ensures.ports,
      ← c.in_err-fb_ports.ensures.value,
    ) (search rules)
