use Rattle.std.proofs.Common.{append_assoc, arith, length-append}
use Rattle.srcp_info.proofs.LineLaws.{length_number}
use Rattle.srcp_interlock.proofs.OrderLaws.{pulse_said}
use Rattle.srcp_interlock.proofs.orders.set_line.Goals as goal

pub put_number-requires : goal.put_number-requires
put_number-requires c = grind (arith, length-append, length_number 3 c.args.setting.port)

pub put_bytes-requires-2 : goal.put_bytes-requires-2
put_bytes-requires-2 c = grind (arith, length-append, length_number 3 c.args.setting.port)

pub put_number-requires-2 : goal.put_number-requires-2
put_number-requires-2 c = grind (arith, length-append, length_number 3 c.args.setting.port, pulse_said)

pub put_bytes-requires-3 : goal.put_bytes-requires-3
put_bytes-requires-3 c = grind (arith, length-append, length_number 3 c.args.setting.port, pulse_said)

pub returns : goal.returns
returns c = grind (arith, append_assoc, pulse_said)
