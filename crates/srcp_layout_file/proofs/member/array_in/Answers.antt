use Rattle.std.proofs.Common.{◌≡◌, List, Some, None, Option, Ok, Err, Result, refl}
use Rattle.toml.specs.Data.{Data, Items, string, integer, float, boolean, datetime, array, table, as_array}
use Rattle.toml.specs.View.{view, array_view}
use Rattle.srcp_layout_file.specs.Member.{array_in, list_of}
use Rattle.srcp_layout_file.proofs.Documents.{list_of-items_of}
use Rattle.srcp_layout_file.proofs.member.array_in.Goals as goal

-- what array_in makes of what `as_array` finds
found_in : {E : Type 0} → E → Option Items → Result (List Data) E
found_in beyond None = Err beyond
found_in beyond (Some values) = Ok (list_of values)

array_in-as_array : {E : Type 0} (beyond : E) (d : Data) → array_in beyond d ≡ found_in beyond (as_array d)
unfolding found_in
array_in-as_array beyond (string s) = refl
array_in-as_array beyond (integer z) = refl
array_in-as_array beyond (float x) = refl
array_in-as_array beyond (boolean b) = refl
array_in-as_array beyond (datetime dt) = refl
array_in-as_array beyond (array ds) = refl
array_in-as_array beyond (table ms) = refl

pub returns-in-Some : goal.returns-in-Some
unfolding found_in
returns-in-Some g c =
    let values = c.in-Some.values.now in
    let found : Some (array_view values) ≡ as_array (view c.args.value.now) = rw c.in-Some.is at c.as_array.ensures in
    rw (c.as_slice.ensures.value, array_in-as_array, ← found, list_of-items_of)
