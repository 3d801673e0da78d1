use Rattle.std.proofs.Common.{rules, tests, sym, ◌∙◌, nat_lt}
use Rattle.std.proofs.lemmas.Iterator.{YieldsList-from_slice}
use Rattle.std.proofs.lemmas.Iterator.Search.{find_from_yields_List}
use Rattle.srcp_rules.proofs.DeviceLaws.{row_after-own_device}
use Rattle.srcp_rules.proofs.nested.device_rows.DeviceRows.row_after.Goals as goal

pub returns : goal.returns
returns g c =
    find_from_yields_List (λ row. nat_lt c.args.last.now.port row.shown.key.port) _ _ c.find.result c.find.ensures.ran
    (YieldsList-from_slice c.args.self.now cc) (λ x b q k. search (rules, tests))
    ∙ sym (row_after-own_device c.args.last.now c.args.self.now c.requires)
