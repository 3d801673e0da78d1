use Rattle.std.proofs.Common.{rules, tests, sym, ◌∙◌, ◌==◌}
use Rattle.std.proofs.lemmas.Iterator.{YieldsList-from_slice}
use Rattle.std.proofs.lemmas.Iterator.Search.{find_from_yields_List}
use Rattle.srcp_rules.proofs.DeviceLaws.{row_at-own_device}
use Rattle.srcp_rules.proofs.nested.device_rows.DeviceRows.row.Goals as goal

pub returns : goal.returns
returns g c =
    find_from_yields_List (λ row. row.shown.key.port == c.args.key.now.port) _ _ c.find.result c.find.ensures.ran
    (YieldsList-from_slice c.args.self.now cc) (λ x b q k. search (rules, tests))
    ∙ sym (row_at-own_device c.args.key.now c.args.self.now c.requires)
