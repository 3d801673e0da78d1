-- Which reads hand out all lines that the pace lets through.
use Rattle.std.specs.Prelude.{◌≡◌, ◌≢◌, ℕ, ◌<◌, ◌≤◌, ◌==◌, ◌&&◌, ◌||◌, Bool, true, false, not, All, List}
use Rattle.std.specs.Prelude.{fold, length, take, Result, Ok, Some}
use Rattle.std.proofs.Props.{props}
use Rattle.srcp_info.specs.Limits.{most_in_piece}
use Rattle.srcp_door.specs.Calls.{Call, NowCall, AcceptCall, ReadCall}
use Rattle.srcp_door.specs.Pacing.{fits, is_short_pace, lines, weight_of}
use Rattle.srcp_door.specs.declared.door.DoorFault.{DoorFault}
use Rattle.srcp_door.specs.declared.door.Got.{Got}
use Rattle.srcp_door.specs.declared.pacing.LineBoundary.{LineBoundary}
use Rattle.srcp_door.specs.declared.pacing.Pace.{Pace}
use Rattle.srcp_peers.specs.declared.peer.Peer.{Peer}
use Rattle.srcp_peers.specs.declared.turn.Turn.{Turn}
use Rattle.srcp_peers.specs.Accounts.{account, is_held}
use Rattle.srcp_peers.specs.Steps.{Answers, Step}
use Rattle.srcp_peers.specs.Times.{Times, first_times, times, times_step}
use Rattle.srcp_peers.specs.Turns.{got_bytes}
use Rattle.srcp_log.specs.Duties.{held_piece}
use Rattle.srcp_log.specs.Services.{AreCounted, AreInTurn, EachRead}

-- ---- whose share is whole

-- the times, and whether the shares were given anew: the turn before was not late, and every line might go at its end
pub record Sharing : Type 0 where
  pub times : Times
  pub anew : Bool

abbrev pub anew_after : Sharing → Step → Bool
anew_after x (Answers (NowCall answer)) = not (is_short_pace x.times.turn.pace || x.times.turn.late)
anew_after x other = x.anew

abbrev pub sharing_step : Sharing → Step → Sharing
sharing_step x step = record { times = times_step x.times step; anew = anew_after x step }

abbrev pub first_sharing : (wall start : ℕ) → Sharing
first_sharing wall start = record { times = first_times wall start; anew = false }

-- each peer was given a whole share as the turn began
abbrev pub are_anew : (wall start : ℕ) → List Step → Bool
are_anew wall start log = (fold sharing_step (first_sharing wall start) log).anew

-- a peer neither came nor was read since a moment was reported
abbrev pub unread_called : (socket : ℕ) → Bool → Call → Bool
unread_called socket unread (NowCall answer) = true
unread_called socket unread (AcceptCall (Ok (Some number))) = not (number == socket) && unread
unread_called socket unread (ReadCall who answer buffer) = not (who == socket) && unread
unread_called socket unread other = unread

abbrev pub unread_after : (socket : ℕ) → Bool → Step → Bool
unread_after socket unread (Answers call) = unread_called socket unread call
unread_after socket unread other = unread

abbrev pub is_unread : (socket : ℕ) → List Step → Bool
is_unread socket log = fold (unread_after socket) false log

-- ---- what is handed out

-- input of a peer is held that is there and was not read since the moment. Each has a whole share, and the turn is not
-- late and lets any line through
pub record IsFirstRead (wall start : ℕ) (log : List Step) (who : ℕ) : Type 0 where
  pub watched : (account who log).watched ≡ true
  pub held : is_held (account who log).received ≡ true
  pub unread : is_unread who log ≡ true
  pub anew : are_anew wall start log ≡ true
  pub early : (times wall start log).turn.late ≡ false
  pub ample : is_short_pace (times wall start log).turn.pace ≡ false

-- of a piece so many bytes are handed out: no fewer lines than any prefix has whose lines may go at that pace; and one
-- at least, if one ends in it
pub record FillsPace (pace : Pace) (line : LineBoundary) (piece : List ℕ) (count : ℕ) : Type 0 where
  pub most : (n : ℕ) → n ≤ length piece → fits pace (weight_of line (take n piece)) ≡ true
      → lines (take n piece) ≤ lines (take count piece)
  pub one : lines piece ≢ 0 → 0 < lines (take count piece)

-- so it is with such a read
abbrev pub IsFilled : (wall start : ℕ) → List Step → (who : ℕ) → Result Got DoorFault → (buffer : List ℕ) → Type 0
IsFilled wall start log who answer buffer = IsFirstRead wall start log who
    → (let t = times wall start log in FillsPace t.turn.pace (t.lines who)
    (held_piece (account who log).received (length buffer)) (length (got_bytes answer buffer)))

-- and was each time
abbrev pub AreFilled : (wall start : ℕ) → List Step → Type 0
AreFilled wall start log = EachRead (IsFilled wall start) log

-- ---- a door

-- the share of each that was not read is whole, if all were given anew
abbrev pub AreWhole : (wall start : ℕ) → List Step → List Peer → Type 0
AreWhole wall start log peers = All (λ peer. are_anew wall start log ≡ true → is_unread peer.number log ≡ true
    → peer.share.rest ≡ most_in_piece) peers

-- each share is what the log says, and so are the services; each read handed out what it had to, and in turn
pub record SharesHold (log : List Step) (turn : Turn) (made : ℕ) (peers : List Peer) : Type 0 where
  pub whole : AreWhole turn.timekeeper.wall turn.timekeeper.start log peers
  pub filled : AreFilled turn.timekeeper.wall turn.timekeeper.start log
  pub counted : AreCounted log made peers
  pub in_turn : AreInTurn turn.timekeeper.wall turn.timekeeper.start log

pub SharesHold-prop : (log : List Step) (turn : Turn) (made : ℕ) (peers : List Peer)
    → IsProp (SharesHold log turn made peers)
SharesHold-prop log turn made peers = hlevel props
