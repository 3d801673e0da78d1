use Rattle.std.proofs.Common.{◌≡◌, drop, map}
use Rattle.toml.specs.View.{view}
use Rattle.srcp_layout_file.specs.Document.{groups_in, no_groups}
use Rattle.srcp_layout_file.proofs.document.groups.groups_in.Given as goal

abbrev pub invariant-loop-value : goal.invariant-loop-value
invariant-loop-value l = groups_in l.groups (map view (drop l.value-index l.values)) ≡ groups_in no_groups (map view l.values)
