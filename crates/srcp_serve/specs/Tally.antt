-- What a method of a server does to its door, and how the failures of a door are counted.
use Rattle.std.specs.Prelude.{◌≡◌, ℕ, ◌+◌, ◌<◌, ◌≤◌, List, Option}
use Rattle.srcp_info.specs.Limits.{greatest_u64}
use Rattle.srcp_door.specs.Calls.{Call, Trace}
use Rattle.srcp_serve.specs.declared.serving.Server.{Server}
use Rattle.srcp_serve.specs.Turns.{Asks}

-- the tally grew as the door's own count did, as long as that stayed below the greatest u64
pub record CountsFaults (tally count tally_later count_later : ℕ) : Type 0 where
  pub within : tally_later ≤ count_later
  pub onward : count_later < greatest_u64 → count ≤ count_later
  pub exact : count_later < greatest_u64 → tally_later + count ≡ tally + count_later

-- the server has the same door with the same limit of its waits, made calls of it that are so, and counted each that
-- failed
pub record CallsDoor {D : Type 0} (faults : D → ℕ) (trace : D → Trace) (limit : D → Option ℕ)
    (Are : List Call → Type 0) (old new : Server D) : Type 0 where
  pub same_door : new.door.ghost_name ≡ old.door.ghost_name
  pub counted : CountsFaults old.tally.faults (faults old.door.now) new.tally.faults (faults new.door.now)
  pub asks : Asks Are (trace old.door.now) (trace new.door.now)
  pub same_limit : limit new.door.now ≡ limit old.door.now
