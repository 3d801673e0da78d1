-- What holds of all lines, and of every desk.
use Rattle.std.specs.Prelude.{◌≡◌, ℕ, ◌≤◌, Bool, false, true, List, [], ◌∷◌, ◌++◌, Option, Some, None, codes, is_some}
use Rattle.srcp_driver.specs.declared.event.Event.TheVariants as event
use Rattle.srcp_info.specs.Limits.{greatest_u64}
use Rattle.srcp_info.specs.Line.{reply_line}
use Rattle.srcp_info.specs.WellFormed.{IsMoment}
use Rattle.srcp_info.specs.declared.change.Change.TheVariants.{Put}
use Rattle.srcp_info.specs.declared.change.Code.{Code}
use Rattle.srcp_info.specs.declared.change.Reply.TheVariants as reply
use Rattle.srcp_info.specs.declared.key.Key.{Key}
use Rattle.srcp_info.specs.declared.value.Value.TheVariants.{Power}
use Rattle.srcp_stations.specs.declared.tell.Tell.TheVariants as station
use Rattle.srcp_drive.specs.Desks.{Desk, TakesIn, acted, desk_of, driven, next, orders_text, taken, taken_so}
use Rattle.srcp_drive.specs.Hearing.{Hears}
use Rattle.srcp_drive.specs.Orders.{told}
use Rattle.srcp_drive.specs.declared.hearing.Heard.{Heard}
use Rattle.srcp_drive.specs.declared.hearing.Heard.TheVariants as tells

-- no line tells two things
abbrev pub LinesDiffer : Type 0
LinesDiffer = (line : List ℕ) (a b : Option Heard) → Hears line a → Hears line b → a ≡ b

-- a line that tells of nothing changes nothing, and no line follows
abbrev pub NothingChanges : Type 0
NothingChanges = (old new : Desk) (line text : List ℕ) → Hears line None → TakesIn old line new text
    → (new ≡ old) × (text ≡ [])

-- each reply that a command has is heard as what it says of the order before it, and GO as a session that begins
pub record RepliesAreHeard : Type 0 where
  pub accepted : (moment : ℕ) (text : List ℕ) (heard : Option Heard) → IsMoment moment
      → reply_line moment reply.Accepted ≡ text ++ codes "\n" → Hears (codes "reply " ++ text) heard
      → heard ≡ Some (tells.Replied true)
  pub go : (moment id : ℕ) (text : List ℕ) (heard : Option Heard) → IsMoment moment → id ≤ greatest_u64
      → reply_line moment (reply.Go id) ≡ text ++ codes "\n" → Hears (codes "reply " ++ text) heard
      → heard ≡ Some tells.Joined
  pub refused : (moment : ℕ) (code : Code) (text : List ℕ) (heard : Option Heard) → IsMoment moment
      → reply_line moment (reply.Refused code) ≡ text ++ codes "\n" → Hears (codes "reply " ++ text) heard
      → heard ≡ Some (tells.Replied false)

-- as the power of the desk's bus says STOP ALL and the station is there, that all stop is the first line that follows
abbrev pub StopAllIsFirst : Type 0
StopAllIsFirst = (d : Desk) (key : Key) (stamp : ℕ) (on : Bool) → d.driver.is_here ≡ true → key.bus ≡ d.bus
    → (behind : List ℕ)
    × ((taken d (tells.Changed (Put (record { key = key; stamp = stamp; value = Power on (codes "stop all") })))).text
    ≡ told station.StopAll ++ behind)

-- a function or a turnout is told only if the driver has nothing to tell
abbrev pub DriverIsFirst : Type 0
DriverIsFirst = (d : Desk) → is_some (acted d event.Ready).tell ≡ true
    → (next d).text ≡ orders_text (driven d event.Ready) (acted d event.Ready).tell (acted d event.Ready).put

-- a desk once these lines told this, the newest first
abbrev pub course : ℕ → List (Option Heard) → Desk
course bus [] = desk_of bus
course bus (told ∷ past) = (taken_so (course bus past) told).desk

-- neither functions nor turnouts wait for a reply of the registry: nothing is asked for them that the desk would drop
abbrev pub BoardsAskNothing : Type 0
BoardsAskNothing = (bus : ℕ) (past : List (Option Heard))
    → ((course bus past).functions.waiting ≡ None) × ((course bus past).turnouts.waiting ≡ None)
