-- What a read of a peer answers.
use Rattle.std.specs.Prelude.{◌≡◌, ◌≢◌, ℕ, ◌==◌, ◌&&◌, ◌||◌, Bool, true, false, cond, List, [], length, min, take}
use Rattle.std.specs.Prelude.{Result, Ok, Err}
use Rattle.srcp_info.specs.Limits.{most_in_piece}
use Rattle.srcp_door.specs.Pacing.{Allows, fits, weight_of}
use Rattle.srcp_door.specs.declared.door.DoorFault.{DoorFault}
use Rattle.srcp_door.specs.declared.door.DoorFault.TheVariants as fault
use Rattle.srcp_door.specs.declared.door.Got.{Got}
use Rattle.srcp_door.specs.declared.door.Got.TheVariants as got
use Rattle.srcp_peers.specs.declared.ending.Ending.{Ending}
use Rattle.srcp_peers.specs.declared.ending.Ending.TheVariants as ending
use Rattle.srcp_peers.specs.declared.peer.Peer.{Peer}
use Rattle.srcp_peers.specs.declared.readiness.Input.{Input}
use Rattle.srcp_peers.specs.declared.readiness.Input.TheVariants as input
use Rattle.srcp_peers.specs.declared.turn.Turn.{Turn}
use Rattle.srcp_peers.specs.Peers.{is_lost, is_over}
use Rattle.srcp_peers.specs.Turns.{own_pace, reports_end}

-- ---- if nothing is held of it

-- a read of its socket failed
abbrev pub has_failed : Input → Bool
has_failed input.Failed = true
has_failed other = false

-- a whole visit behind the end of its input had no more for it
abbrev pub is_settled : Ending → Bool
is_settled ending.Settled = true
is_settled other = false

-- it is lost: a read or a write of its socket failed
abbrev pub is_failed : Peer → Bool
is_failed p = is_lost p.output || has_failed p.input

-- it ended: a read found the end, a whole visit behind that had no more for it, and its socket took all
abbrev pub is_ended : Peer → Bool
is_ended p = is_over [] p.input && (is_settled p.ending && (length p.outgoing == 0))

-- what is reported of it, if the turn reported no other end
abbrev pub end_in : Turn → Peer → Result Got DoorFault
end_in turn p = cond turn.may_report_end
    (cond (is_failed p) (Err fault.Read) (cond (is_ended p) (Ok got.Ended) (Ok got.Nothing))) (Ok got.Nothing)

-- ---- if something is

-- the piece of it that a buffer of `space` bytes takes
abbrev pub piece_of : Peer → (space : ℕ) → List ℕ
piece_of p space = take (min most_in_piece space) p.incoming

-- ---- the answer

-- a read with space for so many bytes answered so and handed that out. It handed out as much as the pace and the peer's
-- share allow; if nothing was held, it reported the end. The peer waits if others go first
pub record IsAnswered (turn : Turn) (waits : Bool) (p : Peer) (space : ℕ) (answer : Result Got DoorFault)
    (handed : List ℕ) : Type 0 where
  pub end : p.incoming ≡ [] → answer ≡ end_in turn p
  pub some : p.incoming ≢ [] → (reports_end answer ≡ false)
      × Allows (own_pace waits turn.pace) p.share (piece_of p space) (length handed)
  pub fits : fits (own_pace waits turn.pace) (weight_of p.share.line handed) ≡ true
