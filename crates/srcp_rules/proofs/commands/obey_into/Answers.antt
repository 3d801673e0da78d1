use Rattle.srcp_rules.specs.Obeyed.{MayObey}
use Rattle.srcp_rules.proofs.TookLaws.{obeyed_all}
use Rattle.srcp_rules.proofs.commands.obey_into.Goals as goal

pub returns : goal.returns
returns g c =
    let buses = g.R.Rows.buses c.args.rows.now in
    let state = g.R.Rows.state c.args.rows.now in
    let after = g.R.Rows.state c.answer.new.rows in
    let may : MayObey buses state c.args.session c.args.command.now =
    record { whole = c.requires.whole; begun = c.requires.begun; of = c.requires.command } in
    let did = c.answer.ensures.obeyed in
    let all =
    obeyed_all buses state after c.args.session c.args.moment c.ranges.moment.fits c.args.command.now may c.answer.new.obeyed did in
    record {
      obeyed = did;
      layout = c.answer.ensures.layout;
      whole = rw c.answer.ensures.layout all.0;
      reply = all.1;
      changes = all.2;
      few = all.3;
    }
