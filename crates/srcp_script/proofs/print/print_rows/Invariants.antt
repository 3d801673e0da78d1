use Rattle.std.proofs.Common.{◌≡◌, ◌++◌, drop}
use Rattle.std.specs.List.{AllByRecursion}
use Rattle.srcp_info.specs.Client.{listing}
use Rattle.srcp_info.specs.WellFormed.{IsWellFormedShown}
use Rattle.srcp_rules.specs.State.{shown_rows}
use Rattle.srcp_script.specs.Output.{rows_line}
use Rattle.srcp_script.proofs.print.print_rows.Given as goal

abbrev pub invariant-loop-row : goal.invariant-loop-row
invariant-loop-row l = record {
  told : AllByRecursion (λ row. IsWellFormedShown row.shown) (drop l.row-index l.rows);
  same : l.fn.text.items ++ (rows_line l.rows ++ listing (shown_rows l.rows))
      ≡ l.text.items ++ listing (shown_rows (drop l.row-index l.rows));
}
