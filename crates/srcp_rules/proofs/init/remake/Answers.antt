use Rattle.srcp_rules.proofs.Names.{device_at, ◌∙◌}
use Rattle.srcp_rules.proofs.PutRowsLaws.{each_there}
use Rattle.srcp_rules.proofs.InitLaws.{unlocked, unlocked_whole, unlocked_there, changes_remade, rows_remade}
use Rattle.srcp_rules.proofs.init.remake.Goals as goal

pub set_all-requires : goal.set_all-requires
set_all-requires g c =
    let buses = g.R.Rows.buses c.args.rows.now in
    let state = g.R.Rows.state c.args.rows.now in
    let target = c.args.target in
    let there = unlocked_there buses state c.requires.whole c.args.moment target.group target.bus target.address c.requires.there in
    rw (c.remove_if_there.ensures.layout, c.remove_if_there.ensures.rows, c.lock_at.ensures)
    (each_there buses (device_at target) c.args.fresh.now c.requires.fresh
    (unlocked buses state c.requires.whole c.args.moment target.group target.bus target.address)
    (unlocked_whole buses state c.requires.whole c.args.moment target.group target.bus target.address) there)

pub returns : goal.returns
returns g c =
    let buses = g.R.Rows.buses c.args.rows.now in
    let state = g.R.Rows.state c.args.rows.now in
    let t = c.args.target in
    record {
      changes =
          rw (c.push_puts.ensures, c.push.ensures.items, c.remove_if_there.ensures.changes, c.lock_at.ensures, c.device_at.ensures)
          (changes_remade buses state c.requires.whole c.args.moment t.group t.bus t.address c.args.fresh.now c.requires.there);
      rows =
          rw (c.set_all.ensures.rows, c.remove_if_there.ensures.rows, c.lock_at.ensures)
          (rows_remade buses state c.requires.whole c.args.moment t.group t.bus t.address c.args.fresh.now c.requires.there
          c.requires.fresh);
      layout = c.set_all.ensures.layout ∙ c.remove_if_there.ensures.layout;
    }
