-- What holds of a door's times.
use Rattle.std.specs.Prelude.{◌≡◌, true, List, None}
use Rattle.std.proofs.Props.{props}
use Rattle.srcp_peers.specs.declared.turn.Turn.{Turn}
use Rattle.srcp_peers.specs.Steps.{Step}
use Rattle.srcp_peers.specs.Times.{Times, times}

-- every step was made at its time
pub record AreKeptTimes (t : Times) : Type 0 where
  pub exact : t.exact ≡ true
  pub punctual : t.punctual ≡ true
  pub patient : t.patient ≡ true
  pub prompt : t.prompt ≡ true

-- every read kept to what might go
pub record ArePaced (t : Times) : Type 0 where
  pub light : t.paced ≡ true
  pub once : t.single ≡ true

-- a turn is what the times say, and its clock is the one that was read last
pub record Timed (t : Times) (turn : Turn) : Type 0 where
  pub same : t.turn ≡ turn
  pub clock : t.clock ≡ turn.clock
  pub kept : AreKeptTimes t
  pub paced : ArePaced t
  pub heard : t.heard ≡ None
  pub honest : t.honest ≡ true

-- so it is after all steps
abbrev pub IsTimed : List Step → Turn → Type 0
IsTimed log turn = Timed (times turn.timekeeper.wall turn.timekeeper.start log) turn

pub IsTimed-prop : (log : List Step) (turn : Turn) → IsProp (IsTimed log turn)
IsTimed-prop log turn = hlevel props
