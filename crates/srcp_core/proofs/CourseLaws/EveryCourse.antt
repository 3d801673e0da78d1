-- Information sessions are told rightly, and every connection is served rightly.
use Rattle.srcp_core.proofs.Names.{◌≡◌, ℕ, List, subst, Some, Bus, IsLayout, Connection, course, numbered, AllMoments, IsSession, Event}
use Rattle.srcp_core.specs.Laws.{IsHeldRightly, IsSentNoMoreSince, IsServedRightly, ServedRightly, ToldRightly}
use Rattle.srcp_core.proofs.CourseLaws.RoomsAddUp.{rooms_add_up, rooms_are_one, sends_all_replies, takes_within}
use Rattle.srcp_core.proofs.CourseLaws.NothingAfterTheEnd.{sends_no_more}
use Rattle.srcp_core.proofs.CourseLaws.OneLineIsUnsent.{leaves_one_line}
use Rattle.srcp_core.proofs.CourseLaws.ListedInOrder.{lists_held, lists_none_twice, lists_rising, lists_still}
use Rattle.srcp_core.proofs.CourseLaws.ListedExactlyOnce.{lists_each_once}
use Rattle.srcp_core.proofs.CourseLaws.OverrunAt256.{meets_overruns}
use Rattle.srcp_core.proofs.CourseLaws.SessionsArePanels.{holds_passed}
use Rattle.srcp_core.proofs.CourseLaws.RoomSettles.{sends_replies, settles_after_owed}
use Rattle.srcp_core.proofs.CourseLaws.SentLinesAreOneList.{all_prefix, always_sends_lines, holds_registry}
use Rattle.srcp_core.proofs.CourseLaws.RegistryStaysWhole.{keeps_whole}

held_rightly : (buses : List Bus) → IsLayout buses → (events : List Event) (number : ℕ) (conn : Connection)
    → IsSession buses events number conn → AllMoments events → IsHeldRightly buses events number conn
held_rightly buses layout events number conn session moments = record {
  lines = always_sends_lines buses layout events number conn session moments;
  registry = holds_registry buses layout events number conn session moments;
  once = λ first more early whole begins settled device there key own has.
      lists_each_once buses layout first more number early conn begins
      (rw (← whole) session)
      (all_prefix _ first more (subst AllMoments whole moments)) settled device there key own has;
}

pub told_rightly : (buses : List Bus) → ToldRightly buses
told_rightly buses layout events number conn session = (
  record {
    still = lists_still buses layout events number conn session;
    never_twice = lists_none_twice buses layout events number conn session;
    rising = lists_rising buses layout events number conn session;
    held = lists_held buses layout events number conn session;
    passed = holds_passed buses layout events number conn session;
  },
  held_rightly buses layout events number conn session,
)

module _ (buses : List Bus) (events : List Event) (number : ℕ) (conn : Connection)
    (there : numbered number (course buses events).connections ≡ Some conn) where
  -- the connection is there, by any name of the events
  there_by : (es : List Event) → events ≡ es → numbered number (course buses es).connections ≡ Some conn
  there_by es whole = rw (← whole) there

  connection_served : IsLayout buses → IsServedRightly buses events number conn
  connection_served layout = record {
    replies = sends_replies buses layout events number conn there;
    all_replies = λ first bytes early whole began plain up few.
        sends_all_replies buses layout first number bytes early conn began plain up (there_by _ whole) few;
    within = takes_within buses layout events number conn there;
    one_line = leaves_one_line buses events number conn there;
    settles = λ first bytes early whole session up still.
        settles_after_owed buses layout first number bytes early conn session up still (there_by _ whole);
    rooms = rooms_add_up buses layout events number conn there;
    one_room = λ first a b early whole began up some.
        cc (rooms_are_one buses layout first number a b early began up some);
    overruns = λ info up still changes.
        meets_overruns buses layout events number conn (record { there = there; info = info }) up still changes;
  }

  sent_no_more : IsSentNoMoreSince buses events number conn
  sent_no_more first more early whole began over =
      rw whole (sends_no_more buses first more number early conn began (there_by _ whole) over)

pub served_rightly : (buses : List Bus) → ServedRightly buses
served_rightly buses = record {
  whole = keeps_whole buses;
  served = λ layout events number conn there. connection_served buses events number conn there layout;
  no_more = sent_no_more buses;
}
