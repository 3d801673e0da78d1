-- Each part is as it begins.
use Rattle.std.proofs.Common.{◌≡◌, ap, rules}
use Rattle.std.specs.Prelude.{List, replicate}
use Rattle.srcp_drive.specs.Desks.{desk_of}
use Rattle.srcp_drive.specs.Engines.{free, most_cabs}
use Rattle.srcp_drive.specs.declared.engine.Engine.{Engine}
use Rattle.srcp_drive.proofs.desk.DriverDesk.new.Goals as goal

pub returns : goal.returns
returns c =
    let all : c.in_ok-engines.engines.items ≡ replicate most_cabs free = search rules in
    rw (c.in_ok-driver.ensures, c.in_ok-functions.ensures, c.in_ok-turnouts.ensures)
    (ap (λ (engines : List Engine). record (desk_of c.args.bus) { engines = engines }) all)
