-- What is served of a file, or why nothing is.
use Rattle.std.specs.Prelude.{◌≡◌, ◌≢◌, ◌⊎◌, ℕ, List, Option, Some, Result, Ok, Err, if◌then◌else◌, nat_lt}
use Rattle.srcp_info.specs.Limits.{greatest_u64}
use Rattle.srcp_core.specs.Past.{Past, no_past}
use Rattle.srcp_layout_file.specs.Document.{config_of}
use Rattle.srcp_layout_file.specs.declared.config.Config.{Config}
use Rattle.srcp_peers.specs.Steps.{Step}
use Rattle.srcp_serve.specs.declared.serving.Served.{Served}
use Rattle.srcp_host.specs.Follows.{IsFollowed}
use Rattle.srcp_sockets.specs.declared.fault.ListenFault.{ListenFault}
use Rattle.srcp_sockets.specs.declared.fault.ListenFault.TheVariants as listen
use Rattle.srcp_host.specs.declared.fault.HostFault.{HostFault}
use Rattle.srcp_host.specs.declared.fault.HostFault.TheVariants as host

-- what may be answered for a port, from one state of an opener to the next
abbrev pub Answers : (Opener System : Type 0) → Type 1
Answers Opener System = Opener → (port : ℕ) → Result System ListenFault → Opener → Type 0

-- how many milliseconds a turn waits at most if turns are counted: so long, and else as the door has it
abbrev pub longest_turn : ℕ
longest_turn = 8

abbrev pub longest_of_turns : (turns : ℕ) → Option ℕ → Option ℕ
longest_of_turns turns most = if nat_lt turns greatest_u64 then Some longest_turn else most

-- the file says this, and the opener was asked for its port, once, and answered so
pub record IsAsked {Opener System : Type 0} (answers : Answers Opener System) (file : List ℕ) (old new : Opener)
    (config : Config) (answer : Result System ListenFault) : Type 0 where
  pub says : config_of file ≡ Ok config
  pub answered : answers old config.port answer new

-- a door was opened at the file's port, and the file's layout was served at it: a core of the layout to
-- which nothing had happened was served for that many turns over the calls that the door's log has
pub record Serves {Opener System : Type 0} (answers : Answers Opener System) (file : List ℕ) (turns : ℕ)
    (old new : Opener) (served : Served) (log : List Step) : Type 0 where
  pub config : Config
  pub opened : System
  pub core : Past
  pub asked : IsAsked answers file old new config (Ok opened)
  pub counted : served.turns ≡ turns
  pub followed : IsFollowed config.layout turns served.opened log (no_past config.layout) core

-- why nothing is served: the file is at fault, and the opener was not asked; the file's port cannot be had; or memory
-- was refused, before the opener was asked, by it, or when it had opened the port
abbrev pub Refuses : {Opener System : Type 0} → (answers : Answers Opener System) → (file : List ℕ)
    → (old new : Opener) → HostFault → Type 0
Refuses answers file old new (host.Config why) = (config_of file ≡ Err why) × (new ≡ old)
Refuses {System = System} answers file old new host.Port =
    (config : Config) × IsAsked answers file old new config (Err listen.Port)
Refuses {System = System} answers file old new host.Memory =
    (new ≡ old) ⊎ ((config : Config) × (answer : Result System ListenFault) × (answer ≢ Err listen.Port)
    × IsAsked answers file old new config answer)
