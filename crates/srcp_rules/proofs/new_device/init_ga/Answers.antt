use Rattle.srcp_rules.proofs.Names
use Names.{◌≡◌, ℕ, ◌+◌, ◌≤◌, List, map, take, ap, ◌∙◌, Device, Row, device_in, put_of}
use Names.devices
use Rattle.srcp_grammar.specs.declared.command.NewGa.{NewGa}
use Rattle.srcp_rules.proofs.NewRowLaws.{ga_fresh, ga_taken, ga_rows, ga_puts}
use Rattle.srcp_rules.proofs.new_device.init_ga.Goals as goal

-- the rows that are handed on are those of an accessory with that many ports
handed : (moment : ℕ) (ga : NewGa) {most : List Row} {device : Device} {n : ℕ} → ga.ports ≤ 8 → most ≡ ga_fresh moment device ga.letter 8
    → device ≡ device_in devices.Ga ga.bus ga.address → n ≡ ga.ports
    → take (1 + n) most ≡ ga_fresh moment (device_in devices.Ga ga.bus ga.address) ga.letter ga.ports
handed moment ga few e made count =
    ap (take _) (e ∙ ap (λ d. ga_fresh moment d ga.letter 8) made)
    ∙ ga_taken moment _ ga.letter ga.ports _ few (ap (λ k. 1 + k) count)

pub init_device-requires-clause-fresh : goal.init_device-requires-clause-fresh
init_device-requires-clause-fresh g c =
    let ga = c.args.decoder.now in
    let made = rw (c.ga-target.ensures) at c.device_at.ensures in
    rw (c.ga-target.ensures, handed c.args.sender.moment ga c.requires.may.of.1 c.ga_rows-most.ensures made c.from.ensures)
    (ga_rows (g.R.Rows.buses c.args.rows.now) (g.R.Rows.state c.args.rows.now) c.args.sender.session c.args.sender.moment
    c.args.sender.fits ga c.requires.may)

pub returns-clause-obeyed : goal.returns-clause-obeyed
returns-clause-obeyed g c =
    let ga = c.args.decoder.now in
    let made = rw (c.ga-target.ensures) at c.device_at.ensures in
    let rows = handed c.args.sender.moment ga c.requires.may.of.1 c.ga_rows-most.ensures made c.from.ensures in
    let took = rw (c.ga-target.ensures) at c.init_device.ensures.took in
    rw (ap (map put_of) rows ∙ ga_puts c.args.sender.moment ga) at took
