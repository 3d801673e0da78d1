-- What is served at the sockets of the machine.
use Rattle.std.specs.Prelude.{⊤, ◌≡◌, ℕ, List, Ok, Err}
use Rattle.srcp_core.specs.Past.{Past, no_past}
use Rattle.srcp_layout_file.specs.Document.{config_of}
use Rattle.srcp_layout_file.specs.declared.config.Config.{Config}
use Rattle.srcp_peers.specs.Steps.{Step}
use Rattle.srcp_serve.specs.declared.serving.Served.{Served}
use Rattle.srcp_host.specs.declared.fault.HostFault.{HostFault}
use Rattle.srcp_host.specs.declared.fault.HostFault.TheVariants as host
use Rattle.srcp_sockets.specs.Faults.{IsLocal}
use Rattle.srcp_host.specs.Follows.{IsFollowed}
use Rattle.srcp_sockets.specs.declared.mio_system.MioSystem.{MioSystem}

-- the file's layout was served at the file's port of the machine itself: a core of the
-- layout to which nothing had happened was served for that many turns over the calls that the door's log has. `system`
-- is what the door makes its calls by at the end
pub record ServesHere {Clock : Type 0} (file : List ℕ) (turns : ℕ) (served : Served) (system : MioSystem Clock)
    (log : List Step) : Type 0 where
  pub config : Config
  pub opened : MioSystem Clock
  pub core : Past
  pub says : config_of file ≡ Ok config
  pub is_open : IsLocal opened.address config.port
  pub counted : served.turns ≡ turns
  pub followed : IsFollowed config.layout turns served.opened log (no_past config.layout) core

-- why nothing is served: the file is at fault; the port of a file that is not cannot be had; or memory was refused
abbrev pub RefusesHere : (file : List ℕ) → HostFault → Type 0
RefusesHere file (host.Config why) = config_of file ≡ Err why
RefusesHere file host.Port = (config : Config) × (config_of file ≡ Ok config)
RefusesHere file host.Memory = ⊤
