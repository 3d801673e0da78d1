use Rattle.std.proofs.Common.{◌≡◌, ◌++◌, rules}
use Rattle.std.specs.Prelude.{codes, decimal}
use Rattle.srcp_layout_file.proofs.Checks.{bus_line-parts}
use Rattle.srcp_layout_file.proofs.print.print_bus.Goals as goal

pub returns : goal.returns
returns c =
    let front : c.extend_from_slice.new.self.items ≡ c.args.text.now.items ++ (codes "bus " ++ decimal c.args.bus.now.number) =
    search rules in
    rw (bus_line-parts c.args.text.now.items c.args.bus.now, ← front) (search rules)
