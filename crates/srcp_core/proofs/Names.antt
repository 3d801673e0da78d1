-- The names that the proofs of this crate use.
pub use Rattle.slab.specs.Slab.{Slab, entries_from}
pub use Rattle.srcp_core.specs.Acts.{Act, Begins, Ends, Obeys, Says, Sets, acts, command_of, request_as, wants}
pub use Rattle.srcp_core.specs.Agrees.{OfConnection, OfCourse, lent}
pub use Rattle.srcp_core.specs.Connection.{Connection, History, available, cursor_at, exhausts, finish, fitting, prefix, given, given_room}
pub use Rattle.srcp_core.specs.Connection.{heard, is_done_by, is_nil, is_open, is_settled, items_of, line_of, overran, owed, sent, tells}
pub use Rattle.srcp_core.specs.Connection.{text, told_change, took, unsent, untold, waiting}
pub use Rattle.srcp_core.specs.Course.{World, absent_fault, accepted, act, answered, answered_as, asked, at_connection, counted}
pub use Rattle.srcp_core.specs.Course.{course, denied_fed, denied_in, denied_lines, denied_over, did, entered, fault, fed_to, fresh}
pub use Rattle.srcp_core.specs.Course.{happens, history, history_from, if_open, is_info, new_lines, new_marks, numbered}
pub use Rattle.srcp_core.specs.Course.{open_connection, or_refused, replied, rows, shut_as, start, state, state_after, with_numbered}
pub use Rattle.srcp_core.specs.Handshake.{Chooses, Goes, Greeting, Refuses, Speaks, greets}
pub use Rattle.srcp_core.specs.Held.{AreSessions, Held, IsLive, IsSessionAt, IsSound, Place, at, open_count, place_at}
pub use Rattle.srcp_core.specs.Laws.{AddsUp, AllMoments, HasMoment, IsRecordOf, IsSession, has_key, last_line, listed, listed_row, rows_at}
pub use Rattle.srcp_core.specs.Machine.{CountsEach, AnswersFit, IsAdmitted, IsNotAdmitted, advanced, request_of, bytes_fault}
pub use Rattle.srcp_core.specs.Machine.{bytes_fault_from}
pub use Rattle.srcp_core.specs.Machine.{carried, changed_at, changed_in, changed_places, begun_place, feed_in, filled}
pub use Rattle.srcp_core.specs.Machine.{finish_at, freed_of, freed_place, has_overrun, next_request_at, next_request_from, hung_up}
pub use Rattle.srcp_core.specs.Machine.{hung_up_from}
pub use Rattle.srcp_core.specs.Machine.{is_panel, item_at, item_from, item_of, let_out, line_answered, lines_answered, live_session}
pub use Rattle.srcp_core.specs.Machine.{longest, longest_answer, one_denied, opening_held, panel_for, panel_keys, session_begun, slack_at}
pub use Rattle.srcp_core.specs.Machine.{slack_in, steps_answered, steps_in, steps_of_line, told_all, told_each, told_feed, told_place}
pub use Rattle.srcp_core.specs.Machine.{unsent_at, unsent_of, with_unsent, without_sent}
pub use Rattle.srcp_core.specs.Promised.{IsPromised}
pub use Rattle.srcp_core.specs.Recording.{Keeps, Recording, changed_record, finished, finished_by, gave, kept, key_of, noted}
pub use Rattle.srcp_core.specs.Recording.{nothing_recorded, record_of, shut, stepped, without_key}
pub use Rattle.srcp_core.specs.Run.{Happened, HasPlainMoment, PlainMoments, Runs, Records, count_at, taken_at, taking}
pub use Rattle.srcp_core.specs.Stands.{IsAt, IsOwned, StandsBy, StandsFor, panel_at, place_of}
pub use Rattle.srcp_core.specs.Under.{At, Bytes, Event, Heard, Open, Piece, Room, Shut}
pub use Rattle.srcp_core.specs.Under.{all_under, denied_by, giving, lines_under, recorded_step, under}
pub use Rattle.srcp_core.specs.Waits.{IsOverrun, brought, least, lesser, changes_left, slack_of}
pub use Rattle.srcp_core.specs.declared.connection.Panel.{Panel}
pub use Rattle.srcp_core.specs.declared.connection.Panel.TheVariants.{Absent, Listening, Overran}
pub use Rattle.srcp_core.specs.declared.line.Request.{Request}
pub use Rattle.srcp_core.specs.declared.line.Request.TheVariants.{Commands, Dropped, Greets}
pub use Rattle.srcp_core.specs.declared.line.LineRecord.{LineRecord}
pub use Rattle.srcp_core.specs.declared.record.ConnRecord.{ConnRecord}
pub use Rattle.srcp_core.specs.declared.record.CoreFault.{CoreFault}
pub use Rattle.srcp_core.specs.declared.record.CoreFault.TheVariants.{Busy, Closing, Full, NoSuch, PieceTooLong}
pub use Rattle.srcp_core.specs.declared.record.Item.{Item}
pub use Rattle.srcp_core.specs.declared.record.Record.{Record}
pub use Rattle.srcp_core.specs.declared.record.Refusal.{Refusal}
pub use Rattle.srcp_feed.proofs.Steps.{beyond_done, lists_one, passed_all, passed_done, passed_start}
pub use Rattle.srcp_feed.specs.Cursor.{beyond, changed_all, concerns, moved, passed, said}
pub use Rattle.srcp_feed.specs.Feed.{Feed, is_full, next_of, told}
pub use Rattle.srcp_feed.specs.declared.feed.Next.{Next}
pub use Rattle.srcp_feed.specs.declared.feed.Next.TheVariants.{Listed, Settled, Told}
pub use Rattle.srcp_grammar.proofs.FindLaws.{each_filtered}
pub use Rattle.srcp_grammar.proofs.GrammarLaws.{reads_fits}
pub use Rattle.srcp_grammar.specs.Command.{IsCommandOf}
pub use Rattle.srcp_grammar.specs.Devices.{power_device, session_device}
pub use Rattle.srcp_grammar.specs.Layout.{IsLayout}
pub use Rattle.srcp_grammar.specs.declared.command.Command.{Command}
pub use Rattle.srcp_grammar.specs.declared.layout.Bus.{Bus}
pub use Rattle.srcp_info.proofs.ClientLaws.{after_from_less, after_not_itself, all_append, all_filter, all_weaker, key_at}
pub use Rattle.srcp_info.proofs.KeyLaws.{key_cmp_total}
pub use Rattle.srcp_info.specs.Client.{IsRisingBy, client}
pub use Rattle.srcp_info.specs.Key.{first_key, has_reached, is_after, key_cmp, owns}
pub use Rattle.srcp_info.specs.Line.{line, reply_line}
pub use Rattle.srcp_info.specs.WellFormed.{IsMoment, IsWellFormed, IsWellFormedShown}
pub use Rattle.srcp_info.specs.declared.change.Change.{Change}
pub use Rattle.srcp_info.specs.declared.change.Change.TheVariants.{Put}
pub use Rattle.srcp_info.specs.declared.change.Code.{Code}
pub use Rattle.srcp_info.specs.declared.change.Code.TheVariants.{C500}
pub use Rattle.srcp_info.specs.declared.change.Cursor.{Cursor}
pub use Rattle.srcp_info.specs.declared.change.Cursor.TheVariants.{After, Done, Start}
pub use Rattle.srcp_info.specs.declared.change.Reply.{Reply}
pub use Rattle.srcp_info.specs.declared.change.Reply.TheVariants.{Accepted, Go, Protocol, Refused, Shows}
pub use Rattle.srcp_info.specs.declared.change.Row.{Row}
pub use Rattle.srcp_info.specs.declared.change.Shown.{Shown}
pub use Rattle.srcp_info.specs.declared.key.Device.{Device}
pub use Rattle.srcp_info.specs.declared.key.Key.{Key}
pub use Rattle.srcp_info.specs.declared.value.Mode.{Mode}
pub use Rattle.srcp_info.specs.declared.value.Mode.TheVariants.{Info}
pub use Rattle.srcp_rules.proofs.CursorLaws.{fewer_beyond}
pub use Rattle.srcp_rules.proofs.DueLaws.{due_kept, freed_kept}
pub use Rattle.srcp_rules.proofs.EffectLaws.{effect_kept}
pub use Rattle.srcp_rules.proofs.KeyLaws.{same_key, same_key-true}
pub use Rattle.srcp_rules.proofs.OpeningLaws.{opening_whole}
pub use Rattle.srcp_rules.proofs.SessionLaws.{due_elsewhere, effect_elsewhere, freed_others, session_row-updated_all}
pub use Rattle.srcp_rules.proofs.StateLaws.{each_of, row_at-put_other, row_at-put_same, row_key}
pub use Rattle.srcp_rules.proofs.ToldLaws.{due_told, freed_told}
pub use Rattle.srcp_rules.specs.Due.{began, due, freed}
pub use Rattle.srcp_rules.specs.Effect.{Effect, effect, refused}
pub use Rattle.srcp_rules.specs.Laws.{CanBeTold}
pub use Rattle.srcp_rules.specs.State.{IsRising, IsRowOf, IsWhole, State, Update, first_row, has_row, is_there, opening, opening_on}
pub use Rattle.srcp_rules.specs.State.{row_after, row_at, shown_rows, updated, updated_all}
pub use Rattle.srcp_rules.specs.Steps.{updates_of, Began, Ended, Moment, Obeyed, Order, Step, wants_memory}
pub use Rattle.srcp_text.specs.Marks.{Line, Mark, TooLong, is_lf}
pub use Rattle.srcp_text.specs.Reading.{Reading, StandsAt, nothing_read}
pub use Rattle.std.proofs.Common.{Bool, List, [], add-one, ap, append-nil, append_assoc, arith, cond, drop, false, inl, inr, length}
pub use Rattle.std.proofs.Common.{length-append, length-drop, map, max, min, refl, subst, suc, sym, take, true, true≢false, zero, ℕ, ⊎_elim}
pub use Rattle.std.proofs.Common.{◌++◌, ◌+◌, ◌-◌, ◌<◌, ◌^◌, ◌∙◌, ◌∷◌, ◌≡◌, ◌≢◌, ◌≤◌, ◌⊎◌}
pub use Rattle.std.proofs.Math.Bool.{and-false, and-true, or-true}
pub use Rattle.std.proofs.Math.Nat.{le_refl, pos_of_ne-zero, suc-ne-zero, suc_inj}
pub use Rattle.std.proofs.lemmas.Bool.{and_parts, cases_Bool, cases_lt, cond_both, eqb-false, eqb-true, false≢true, le-leb, le-ltb}
pub use Rattle.std.proofs.lemmas.Bool.{leb-false, leb-true, lt-leb, lt-ltb, ltb-false, ltb-true, ne_eqb}
pub use Rattle.std.proofs.lemmas.Bool.Decides.{nat_tests}
pub use Rattle.std.proofs.lemmas.List.{drop-append-le, drop-drop, drop_all, length-map, length_push, map-append, nil_from_length}
pub use Rattle.std.proofs.lemmas.List.{take-append-drop, take-append-le, take_all}
pub use Rattle.std.proofs.lemmas.List.Concat.{flat_map-append}
pub use Rattle.std.proofs.lemmas.List.Elements.{filter-append, filter_map-append}
pub use Rattle.std.proofs.lemmas.List.Sums.{fold-append, sum_by-cons}
pub use Rattle.std.proofs.lemmas.Option.{none-some}
pub use Rattle.std.specs.List.{AllByRecursion, enumerate_from, filter, filter_map, flat_map, fold}
pub use Rattle.std.specs.Option.{option_copied_mut, option_map, option_map_or, option_or}
pub use Rattle.std.specs.Ordering.{is_eq}
pub use Rattle.std.specs.Prelude.{Err, IfOk, IfSome, IsTrue, None, Ok, Option, Result, Some, codes, count_by, if◌then◌else◌, is_none}
pub use Rattle.std.specs.Prelude.{is_some, nat_le, nat_lt, not, slice_get, slice_index_or, slice_set, ◌&&◌, ◌==◌, ◌||◌}
pub use Rattle.std.specs.declared.cmp.Ordering.TheVariants.{Equal, Less}

-- what holds of both outcomes of two choices that are made alike
pub if_two : {A B : Type 0} (R : A → B → Type 0) (t : Bool) (a b : A) (c d : B) → R a c → R b d
    → R (if t then a else b) (if t then c else d)
if_two R true a b c d p q = p
if_two R false a b c d p q = q
