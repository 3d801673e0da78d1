use Rattle.std.proofs.Common.{◌≡◌, ◌++◌}
use Rattle.std.specs.List.{AllByRecursion}
use Rattle.srcp_info.specs.Client.{listing}
use Rattle.srcp_info.specs.WellFormed.{IsWellFormedShown}
use Rattle.srcp_tool.proofs.stream.print_listing.Given as goal

abbrev pub invariant-loop-shown : goal.invariant-loop-shown
invariant-loop-shown l = record {
  told : AllByRecursion IsWellFormedShown l.shown-iterator;
  same : listing l.mirror ≡ l.text.items ++ listing l.shown-iterator;
}
