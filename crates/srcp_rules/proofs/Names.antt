-- The names used by most proofs.
pub use Rattle.std.proofs.Common.{ap, append_assoc, arith, inl, inr, refl, rules, subst, sym, take, true≢false, ◌-◌, ◌∙◌}
pub use Rattle.std.proofs.lemmas.Bool.{cases_Bool, eqb-true, false_from_ne_true, leb-true, ltb-false, ltb-true}
pub use Rattle.std.proofs.lemmas.Cmp.{nat_cmp_total, ranked, tied_itself}
pub use Rattle.std.proofs.lemmas.List.{append-nil, take-append-drop}
pub use Rattle.std.proofs.lemmas.List.Folds.{find-append}
pub use Rattle.std.proofs.lemmas.List.Sorted.{IsPartitionPoint-from_clause}
pub use Rattle.std.proofs.lemmas.List.Sums.{sum_by-append, sum_by-cons}
pub use Rattle.std.proofs.lemmas.Option.{none-some, same_Some}
pub use Rattle.std.specs.BTreeMap.{insert_entry, is_at}
pub use Rattle.std.specs.BTreeMap.Range.{entries_between}
pub use Rattle.std.specs.Box.{box_value}
pub use Rattle.std.specs.Cmp.{IsStrictWeakOrder, second_so}
pub use Rattle.std.specs.List.{AllByRecursion, flat_map, range_with_len, sum_by}
pub use Rattle.std.specs.Map.{keys_of, set_value}
pub use Rattle.std.specs.Option.{option_map, option_map_or, option_or}
pub use Rattle.std.specs.Ordering.{is_eq, is_gt, match_ordering, nat_cmp, ordering_reverse, ordering_then}
pub use Rattle.std.specs.Prelude.{Bool, Err, IfSome, IsSome, IsTrue, List, None, Ok, OnErr, OnOk, Option, Result, Some, [], cond, drop}
pub use Rattle.std.specs.Prelude.{false, filter, find, if◌then◌else◌, insert, is_some, length, map, min, nat_le, nat_lt, not, option_copied}
pub use Rattle.std.specs.Prelude.{replicate, slice_get, slice_index_or, slice_set, suc, true, zero, ℕ, ◌&&◌, ◌++◌, ◌+◌, ◌<◌, ◌==◌, ◌∷◌, ◌≡◌}
pub use Rattle.std.specs.Prelude.{◌≤◌}
pub use Rattle.std.specs.declared.cmp.Ordering.{Ordering}
pub use Rattle.std.specs.declared.cmp.Ordering.TheVariants.{Equal, Greater, Less}
pub use Rattle.std.specs.declared.ops.Bound.TheVariants.{Included, Unbounded}
pub use Rattle.srcp_info.proofs.ClientLaws.{after_from_less, all_append, all_filter, all_put, filter_every, reached_below, rising_filter}
pub use Rattle.srcp_info.proofs.ClientLaws.{rising_put}
pub use Rattle.srcp_info.proofs.KeyLaws.{device_from_owns, key_cmp_total, key_tie, nat_tie, owns-device_of}
pub use Rattle.srcp_info.proofs.ListingLaws.{find_passes}
pub use Rattle.srcp_info.specs.Key.{device_of, first_key, has_reached, is_after, key_cmp, key_of, owns}
pub use Rattle.srcp_info.specs.WellFormed.{IsMoment, IsValueAt, IsWellFormed, can_go, is_lock}
pub use Rattle.srcp_info.specs.declared.change.Change.{Change}
pub use Rattle.srcp_info.specs.declared.change.Change.TheVariants.{Gone, Put}
pub use Rattle.srcp_info.specs.declared.change.Code.{Code}
pub use Rattle.srcp_info.specs.declared.change.Code.TheVariants.{C414, C416}
pub use Rattle.srcp_info.specs.declared.change.Cursor.{Cursor}
pub use Rattle.srcp_info.specs.declared.change.Cursor.TheVariants as cursor
pub use Rattle.srcp_info.specs.declared.change.Reply.TheVariants.{Accepted}
pub use Rattle.srcp_info.specs.declared.change.Row.{Row}
pub use Rattle.srcp_info.specs.declared.key.Device.{Device}
pub use Rattle.srcp_info.specs.declared.key.Group.{Group}
pub use Rattle.srcp_info.specs.declared.key.Group.TheVariants as group
pub use Rattle.srcp_info.specs.declared.key.Key.{Key}
pub use Rattle.srcp_info.specs.declared.value.Mode.{Mode}
pub use Rattle.srcp_info.specs.declared.value.Value.{Value}
pub use Rattle.srcp_info.specs.declared.value.Value.TheVariants as value
pub use Rattle.srcp_grammar.proofs.BusLaws.{Rising}
pub use Rattle.srcp_grammar.proofs.FindLaws.{each_filtered, found_holds}
pub use Rattle.srcp_grammar.proofs.LayoutLaws.{key_address}
pub use Rattle.srcp_grammar.proofs.PlaceLaws.{each_at}
pub use Rattle.srcp_grammar.specs.Command.{IsCommandOf}
pub use Rattle.srcp_grammar.specs.Devices.{device_at, device_in, fb_device, key_at, lock_at, lock_group, lock_on, power_device}
pub use Rattle.srcp_grammar.specs.Devices.{session_device}
pub use Rattle.srcp_grammar.specs.Layout.{IsKeyOf, IsLayout, bus_at, row_count, rows_if, rows_on, server}
pub use Rattle.srcp_grammar.specs.declared.command.Command.{Command}
pub use Rattle.srcp_grammar.specs.declared.command.Command.TheVariants.{CheckGa, CheckGl, CheckLock, InitGa, InitGl, SetFb, SetGa, SetGl}
pub use Rattle.srcp_grammar.specs.declared.command.Command.TheVariants.{SetLock, SetPower, TermGa, TermGl, TermLock}
pub use Rattle.srcp_grammar.specs.declared.command.DeviceGroup.{DeviceGroup}
pub use Rattle.srcp_grammar.specs.declared.command.DeviceGroup.TheVariants as devices
pub use Rattle.srcp_grammar.specs.declared.layout.Bus.{Bus}
pub use Rattle.srcp_rules.specs.Due.{began, due, due_change, freed, is_due, is_held_by}
pub use Rattle.srcp_rules.specs.Effect.{Effect, accepted, effect, fresh_ga, fresh_gl, gl_init, gone_at, is_locked, lock_end, port_end}
pub use Rattle.srcp_rules.specs.Effect.{put_at, refusals, refused, removal, removals, unless_refused}
pub use Rattle.srcp_rules.specs.KeyIndex.{HasKeyAt}
pub use Rattle.srcp_rules.specs.Nested.{AreOfDevice, AreRowsOfBus, AreSorted, IsIn, bus_rows, device_rows, entry_at, listed}
pub use Rattle.srcp_rules.specs.Numbered.{numbered}
pub use Rattle.srcp_rules.specs.Obeyed.{MayObey, Took}
pub use Rattle.srcp_rules.specs.Rows.{AreNewRowsOf, AreRowsOf, Kept, most_rows, put_rows}
pub use Rattle.srcp_rules.specs.State.{AddsNoRow, IsRising, IsRowOf, IsWhole, MayFall, State, Update, first_beyond, first_row}
pub use Rattle.srcp_rules.specs.State.{functions_of, has_row, holder_in, holder_of, is_there, opening, opening_on, put_of, put_row}
pub use Rattle.srcp_rules.specs.State.{row_after, row_at, row_put}
pub use Rattle.srcp_rules.specs.State.{updated, updated_all, updated_by, without}
pub use Rattle.srcp_rules.proofs.EachLaws.{weaken, each_and, each-mapped, each-range, find-range, find-map, each-map}
pub use Rattle.srcp_rules.proofs.KeyLaws.{same_key, same_key-true, same_key-itself, not_after, no_key, no_owner}
