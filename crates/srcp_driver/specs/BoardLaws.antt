-- What holds of functions and of turnouts after every list of events. Each list has the newest event first.
use Rattle.std.specs.Prelude.{◌≡◌, ◌⊎◌, ℕ, Bool, true, Option, Some, None, List, [], ◌∷◌, is_some, slice_get}
use Rattle.std.specs.Prelude.{if◌then◌else◌}
use Rattle.std.specs.Option.{option_map_or}
use Rattle.srcp_driver.specs.Board.{Board, board_after, board_heard, board_start, board_step, may_go, next_setting}
use Rattle.srcp_driver.specs.Cabs.{has_passed}
use Rattle.srcp_driver.specs.declared.settings.BoardEvent.{BoardEvent}
use Rattle.srcp_driver.specs.declared.settings.BoardEvent.TheVariants as event
use Rattle.srcp_driver.specs.declared.settings.Kind.{Kind}
use Rattle.srcp_driver.specs.declared.settings.Setting.{Setting}
use Rattle.srcp_driver.specs.declared.switch.Switch.{Switch}

-- an event, and whether the station may be told something then
pub record Turn : Type 0 where
  pub event : BoardEvent
  pub may_tell : Bool

-- the board after these turns, of a number of functions or turnouts of a kind
abbrev pub board_course : ℕ → Kind → List Turn → Board
board_course count kind [] = board_start count kind
board_course count kind (turn ∷ past) = board_after (board_course count kind past) turn.event turn.may_tell

-- the board as one event more came, before the orders that follow it
abbrev pub board_hears : ℕ → Kind → List Turn → BoardEvent → Board
board_hears count kind past event = board_heard (board_course count kind past) event

-- what the station is told then, and what the registry is asked
abbrev pub setting_of : ℕ → Kind → List Turn → Turn → Option Setting
setting_of count kind past turn = (board_step (board_course count kind past) turn.event turn.may_tell).tell

-- the last moment, once an event came
abbrev pub moment_after : BoardEvent → ℕ → ℕ
moment_after (event.Moment now) before = now
moment_after other before = before

-- the last moment
abbrev pub board_moment : List Turn → ℕ
board_moment [] = 0
board_moment (turn ∷ past) = moment_after turn.event (board_moment past)

-- the moment at which the station was told something last
abbrev pub last_told : ℕ → Kind → List Turn → Option ℕ
last_told count kind [] = None
last_told count kind (turn ∷ past) =
    if is_some (setting_of count kind past turn) then Some (board_moment (turn ∷ past)) else last_told count kind past

-- between two orders lies the gap at least
abbrev pub SettingsArePaced : Type 0
SettingsArePaced = (count : ℕ) (kind : Kind) (past : List Turn) (turn : Turn)
    → is_some (setting_of count kind past turn) ≡ true
    → option_map_or (λ last. has_passed kind.gap last (board_moment (turn ∷ past))) (last_told count kind past) true
    ≡ true

-- once nothing is left to tell though an order may go, the station was told what is commanded, or has not confirmed
-- what it was told before; by the board, since what events alone say of a switch would be Switches.antt once more
abbrev pub SettingsAreTold : Type 0
SettingsAreTold = (count : ℕ) (kind : Kind) (past : List Turn) (event : BoardEvent) (n : ℕ) (s : Switch) (on : Bool)
    → may_go (board_hears count kind past event) ≡ true → next_setting (board_hears count kind past event) ≡ None
    → slice_get (board_hears count kind past event).switches n ≡ Some s → s.command ≡ Some on
    → (s.told ≡ Some on) ⊎ (is_some s.awaited ≡ true)

-- once nothing is left to ask and no reply is waited for, the row says what is commanded, or the registry was asked
abbrev pub RowsFollow : Type 0
RowsFollow = (count : ℕ) (kind : Kind) (past : List Turn) (turn : Turn) (n : ℕ) (s : Switch) (on : Bool)
    → (board_step (board_course count kind past) turn.event turn.may_tell).put ≡ None
    → (board_course count kind (turn ∷ past)).waiting ≡ None
    → slice_get (board_course count kind (turn ∷ past)).switches n ≡ Some s → s.command ≡ Some on
    → (s.row ≡ on) ⊎ (is_some s.asked ≡ true)
