-- What each event makes of all functions, or of all turnouts, of a station, and which orders follow.
use Rattle.std.specs.Prelude.{ℕ, Bool, true, false, ◌&&◌, Option, Some, None, List, map, replicate}
use Rattle.std.specs.Prelude.{if◌then◌else◌, is_some, slice_get, slice_set}
use Rattle.std.specs.List.{position}
use Rattle.std.specs.Option.{option_and_then, option_map, option_map_or}
use Rattle.srcp_driver.specs.Cabs.{has_passed}
use Rattle.srcp_driver.specs.Drives.{is_same_way}
use Rattle.srcp_driver.specs.Switches.{is_switch_to_put, is_to_tell, switch_aged, switch_asked, switch_forgotten}
use Rattle.srcp_driver.specs.Switches.{switch_joined, switch_kept, switch_refused, switch_reported, switch_row}
use Rattle.srcp_driver.specs.Switches.{switch_told}
use Rattle.srcp_driver.specs.Switches.{unknown}
use Rattle.srcp_driver.specs.declared.settings.BoardEvent.{BoardEvent}
use Rattle.srcp_driver.specs.declared.settings.BoardEvent.TheVariants as event
use Rattle.srcp_driver.specs.declared.settings.Kind.{Kind}
use Rattle.srcp_driver.specs.declared.settings.Setting.{Setting}
use Rattle.srcp_driver.specs.declared.switch.Switch.{Switch}

-- functions or turnouts, of which kind; whether the station is there; the order to the registry whose reply has not
-- come; the last moment; and the moment of the last order to the station, if there was one
pub record Board : Type 0 where
  pub switches : List Switch
  pub kind : Kind
  pub is_here : Bool
  pub waiting : Option Setting
  pub clock : ℕ
  pub last : Option ℕ

-- before any event
abbrev pub board_start : ℕ → Kind → Board
board_start count kind = record {
  switches = replicate count unknown;
  kind = kind;
  is_here = false;
  waiting = None;
  clock = 0;
  last = None;
}

-- one of them changes, if there is one at that place
abbrev pub switch_at : List Switch → ℕ → (Switch → Switch) → List Switch
switch_at switches n change =
    option_map_or (λ s. slice_set switches n (change s)) (slice_get switches n) switches

-- the row of the one at this place says that, on or off; so it does if there is none
abbrev pub is_row : List Switch → ℕ → Bool → Bool
is_row switches n on = option_map_or (λ s. is_same_way s.row on) (slice_get switches n) true

-- the station has begun anew, or is gone: it keeps what it was told, or not
abbrev pub begun : Board → List Switch
begun b = if b.kind.is_kept then map switch_kept b.switches else map switch_forgotten b.switches

-- the board once an event came
abbrev pub board_heard : Board → BoardEvent → Board
board_heard b (event.Row n on) = record b { switches = switch_at b.switches n (switch_row on) }
board_heard b (event.Said n on) =
    if b.is_here then record b { switches = switch_at b.switches n (switch_reported on) } else b
board_heard b event.Greeted = record b { switches = begun b; is_here = true }
board_heard b event.Gone = record b { switches = begun b; is_here = false }
board_heard b (event.Moment now) = record b { switches = map (switch_aged now) b.switches; clock = now }
board_heard b (event.Reply true) = record b { waiting = None }
board_heard b (event.Reply false) = option_map_or
    (λ setting. record b { switches = switch_at b.switches setting.place switch_refused; waiting = None }) b.waiting b
board_heard b event.Joined = record b { switches = map switch_joined b.switches; waiting = None }
board_heard b event.Turn = b

-- an order may go: the station is there, and the last one was long enough ago
abbrev pub may_go : Board → Bool
may_go b = b.is_here && option_map_or (λ last. has_passed b.kind.gap last b.clock) b.last true

abbrev pub set_to : ℕ → Bool → Setting
set_to n on = record { place = n; is_on = on }

-- what is commanded of the one at this place
abbrev pub setting_at : List Switch → ℕ → Option Setting
setting_at switches n = option_and_then
    (λ (s : Switch). option_map (set_to n) s.command) (slice_get switches n)

-- the first that passes a test
abbrev pub first_setting : (Switch → Bool) → List Switch → Option Setting
first_setting test switches = option_and_then (setting_at switches) (position test switches)

-- what the station is told next
abbrev pub next_setting : Board → Option Setting
next_setting b = if may_go b then first_setting is_to_tell b.switches else None

-- the board once that is told
abbrev pub setting_told : Board → Setting → Board
setting_told b setting = record b {
  switches = switch_at b.switches setting.place (switch_told setting.is_on b.kind.confirms b.clock);
  last = Some b.clock;
}

abbrev pub board_tells : Board → Board
board_tells b = option_map_or (setting_told b) (next_setting b) b

-- what the registry is asked next, if no reply is waited for
abbrev pub setting_to_put : Board → Option Setting
setting_to_put b = if is_some b.waiting then None else first_setting is_switch_to_put b.switches

-- the board once that is asked
abbrev pub setting_put : Board → Setting → Board
setting_put b setting = record b {
  switches = switch_at b.switches setting.place (switch_asked setting.is_on);
  waiting = Some setting;
}

abbrev pub board_puts : Board → Board
board_puts b = option_map_or (setting_put b) (setting_to_put b) b

-- what an event leads to: the board, what the station is told, and what the registry is asked
pub record BoardStepped : Type 0 where
  pub board : Board
  pub tell : Option Setting
  pub put : Option Setting

-- the station may be told something, or not
abbrev pub board_step : Board → BoardEvent → Bool → BoardStepped
board_step b event may_tell =
    let heard = board_heard b event in let told = if may_tell then board_tells heard else heard in
    record { board = board_puts told; tell = if may_tell then next_setting heard else None; put = setting_to_put told }

-- the board after an event
abbrev pub board_after : Board → BoardEvent → Bool → Board
board_after b event may_tell = (board_step b event may_tell).board
