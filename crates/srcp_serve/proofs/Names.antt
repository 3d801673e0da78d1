-- The names that the proofs of this crate use.
pub use Rattle.srcp_rules.specs.Steps.{stepped, updates_of, Began, Ended, Obeyed, Order, Step, effect}
pub use Rattle.srcp_core.proofs.Agreement.MemoryAnswers.{none_denied}
pub use Rattle.srcp_core.proofs.Agreement.NumbersAndKeys.{key_within, length_without, numbered_with}
pub use Rattle.srcp_core.proofs.CourseLaws.EventsKeep.{IsAnswered, IsKept, IsPlain, kept_all, kept_fed, kept_lines, kept_shut}
pub use Rattle.srcp_core.proofs.CourseLaws.EventsKeep.{numbered_after}
pub use Rattle.srcp_core.proofs.CourseLaws.RoomGivesWhatIsOwed.{fitting_none, no_lists, took_within}
pub use Rattle.srcp_core.proofs.CourseLaws.RoomsAddUp.{owed_plain, takes_within, took_overran}
pub use Rattle.srcp_core.proofs.CourseLaws.SessionsAreKept.{all_numbered, all_push, opened}
pub use Rattle.srcp_core.specs.Connection.{Connection, History, available, concerning, cursor_at, fitting, given, given_room, is_last}
pub use Rattle.srcp_core.specs.Connection.{is_nil, is_open, is_settled, items_of, line_of, overran, owed, prefix, sent, text, took, unsent}
pub use Rattle.srcp_core.specs.Connection.{untold, waiting}
pub use Rattle.srcp_core.specs.Course.{World, answered, answered_as, at_connection, counted, course, denied_in, denied_over, did}
pub use Rattle.srcp_core.specs.Course.{entered, fault, fed_to, fresh, happens, history, history_from, is_info, new_lines, numbered}
pub use Rattle.srcp_core.specs.Course.{open_connection, or_refused, replied, rows, shut_as, start, state, state_after, welcome}
pub use Rattle.srcp_core.specs.Course.{with_numbered}
pub use Rattle.srcp_core.specs.Past.{Past, Receives, Says, answer_at, course_of, denied, happened, hung_up, keyed, no_past, number}
pub use Rattle.srcp_core.specs.Past.{number_from, number_in, refusal, room_for}
pub use Rattle.srcp_core.specs.Recording.{key_of, without_key}
pub use Rattle.srcp_core.specs.Under.{At, Bytes, Event, Heard, Open, Piece, Room, Shut, denied_by, giving}
pub use Rattle.srcp_core.specs.Waits.{IsOverrun, IsPanel, brought, due_next, least, changes_left, slack}
pub use Rattle.srcp_core.specs.declared.record.CoreFault.{CoreFault}
pub use Rattle.srcp_core.specs.declared.record.CoreFault.TheVariants.{Full, Memory as MemoryFault, NoSuch}
pub use Rattle.srcp_feed.specs.Cursor.{beyond, concerns}
pub use Rattle.srcp_feed.specs.declared.feed.Next.{Next}
pub use Rattle.srcp_grammar.specs.Layout.{IsLayout}
pub use Rattle.srcp_grammar.specs.declared.layout.Bus.{Bus}
pub use Rattle.srcp_info.proofs.ClientLaws.{all_append, all_filter, all_weaker, filter-map, filter_every, filter_no_one}
pub use Rattle.srcp_info.specs.declared.change.Change.{Change}
pub use Rattle.srcp_info.specs.declared.change.Shown.{Shown}
pub use Rattle.srcp_door.specs.Calls.{Adds, Call as DoorCall, PeersDiffer, Extends, Trace, one_more, parts, peer_of}
pub use Rattle.srcp_serve.specs.Given.{AcceptCall, Accepted, Call, CloseCall, CountsRefusals, ExpectCall, GivesUnlessCounted, NowCall}
pub use Rattle.srcp_serve.specs.Given.{ReadCall, WriteCall, answers_in, answers_of, door_call}
pub use Rattle.srcp_serve.specs.Pacing.{IsLight, IsPaced, ServingSparesAll, SparesPanels, TurnsSpare, brought_in, changes_allowed}
pub use Rattle.srcp_serve.specs.Serving.{Accepts, Client, Closes, Closes as ClosesQuestion, Expects, IsFair, IsServed, Moments, OfEachTurn}
pub use Rattle.srcp_serve.specs.Serving.{FedIsHanded, FeedsWhatIsHanded, HasWhatIsCarried, OfEachServed, OfEachVisit, Question}
pub use Rattle.srcp_serve.specs.Serving.{Reads, SendsWhatIsTaken, SentIsTaken, Slots, Stand, Writes, accept_of, handed_out, handed_out_in}
pub use Rattle.srcp_serve.specs.Serving.{asks_of, begun, clients, closes_of, connects, count_of, empty_stand, events_of, exchange, expects}
pub use Rattle.srcp_serve.specs.Serving.{falls_short, handed, is_about, is_close, is_closing, is_expect, is_ready, is_write, kept, lent}
pub use Rattle.srcp_serve.specs.Serving.{lent_none_last, loses, loses_reading, moment_of, piece_of, question, reads_of, refuses, rooms}
pub use Rattle.srcp_serve.specs.Serving.{stand_after, taken, taken_in, timed, turn_asks, turned, turns, turns_ask, unless_nil, visit}
pub use Rattle.srcp_serve.specs.Serving.{visit_asks, visit_events, visited, visits_ask, with_accept, with_client, with_connection}
pub use Rattle.srcp_serve.specs.Serving.{rooms_of, with_moment, writes_of}
pub use Rattle.srcp_serve.specs.Slots.{AcceptsOne, AreFreeFrom, Begins, ClientsDiffer, Connects, FromEveryState, HasVisited, IsInState}
pub use Rattle.srcp_serve.specs.Slots.{IsSettled, IsSlotOf, MakesTurn, MayFree, Owns, ServesCourse, TakesMoment, VisitsSlot, VisitsSlots}
pub use Rattle.srcp_serve.specs.Slots.{one_if, told}
pub use Rattle.srcp_serve.specs.Turns.{AreAboutPeers, AreAccept, AreMoment, AreTurns, Asks, IsTurn, is_of_peer}
pub use Rattle.srcp_serve.specs.Visits.{AddsGiven, Disconnects, HasActed, HasWritten, Keys, Makes, ReadsIn, Took, Visits, Went, WritesOnce}
pub use Rattle.srcp_serve.specs.Visits.{WritesOut}
pub use Rattle.srcp_door.specs.declared.door.DoorFault.{DoorFault}
pub use Rattle.srcp_door.specs.declared.door.Got.{Got}
pub use Rattle.srcp_serve.specs.declared.serving.visit.Client.{Client as Own}
pub use Rattle.srcp_serve.specs.declared.serving.visit.Wrote.{Wrote}
pub use Rattle.srcp_serve.specs.declared.serving.visit.Wrote.TheVariants.{All, Failed, Less}
pub use Rattle.std.proofs.Common.{Bool, Err, List, None, Ok, Option, Result, Some, [], add-one, add-zero, ap, append-nil, append_assoc}
pub use Rattle.std.proofs.Common.{arith, codes, cond, drop, false, filter, if◌then◌else◌, inl, inr, length, length-append, length-drop}
pub use Rattle.std.proofs.Common.{length-take, map, max, min, not, refl, replicate, subst, suc, sym, take, take-add, true, zero, ℕ, ⊎_elim}
pub use Rattle.std.proofs.Common.{◌*◌, ◌++◌, ◌+◌, ◌-◌, ◌<◌, ◌==◌, ◌∙◌, ◌∷◌, ◌≡◌, ◌≢◌, ◌≤◌, ◌⊎◌}
pub use Rattle.std.proofs.Math.Bool.{and-false, or-false}
pub use Rattle.std.proofs.Math.Nat.{le_refl, min-eq_left, zero-min}
pub use Rattle.std.proofs.Math.Seq.{take-append_seam, take-nil}
pub use Rattle.std.proofs.lemmas.Bool.{and_from, and_parts, cond_both, eqb-false, eqb-true, ltb-false, ltb-true, ne_eqb, not-true, or_cases}
pub use Rattle.std.proofs.lemmas.Bool.{or_from, or_left, or_parts, or_right}
pub use Rattle.std.proofs.lemmas.Bool.Decides.{nat_tests}
pub use Rattle.std.proofs.lemmas.Grind.{flat_map-append}
pub use Rattle.std.proofs.lemmas.List.{append_cancel_left, drop_all, drop_at, length-map, map-append, nil_from_length, take-append-le}
pub use Rattle.std.proofs.lemmas.List.{take_all}
pub use Rattle.std.proofs.lemmas.List.Elements.{filter-append, filter_map-append}
pub use Rattle.std.proofs.lemmas.List.Folds.{list_all-append, list_any-append}
pub use Rattle.std.proofs.lemmas.List.Sums.{fold-append, length-filter, sum_by-append, sum_by-cons, take_while-cons}
pub use Rattle.std.proofs.lemmas.Option.{same_Some, slice_get-map}
pub use Rattle.std.specs.List.{AllByRecursion, AllZip, cons_option, count_by, enumerate_from, list_all, list_any, prefix_len}
pub use Rattle.std.specs.List.{slice_index_or, slice_set, take_while}
pub use Rattle.std.specs.Prelude.{IfOk, MatchResult, OnOk, filter_map, flat_map, fold, is_none, is_some, nat_le, nat_lt, position}
pub use Rattle.std.specs.Prelude.{slice_get, ◌&&◌, ◌||◌}
