-- What serving at any opener says, at the machine.
use Rattle.std.proofs.Common.{ℕ, List, Ok, Err, Result}
use Rattle.std.specs.Prelude.{IfOk, IfErr}
use Rattle.srcp_peers.specs.Steps.{Step}
use Rattle.srcp_serve.specs.declared.serving.Served.{Served}
use Rattle.srcp_sockets.specs.declared.mio_system.MioSystem.{MioSystem}
use Rattle.srcp_sockets.specs.Faults.{IsLocal}
use Rattle.srcp_host.specs.Here.{RefusesHere, ServesHere}
use Rattle.srcp_host.specs.Hosting.{Answers, Refuses, Serves}
use Rattle.srcp_host.specs.declared.fault.HostFault.{HostFault}
use Rattle.srcp_host.specs.declared.fault.HostFault.TheVariants as host

-- what the machine may answer for a port
abbrev pub opens : {Clock Opener : Type 0} → Answers Opener (MioSystem Clock)
opens _ port answer _ = IfOk answer (λ system. IsLocal system.address port)

pub served_here : {Clock Opener X : Type 0} (result : Result X HostFault) (file : List ℕ) (turns : ℕ)
    (old new : Opener) (served : X → Served) (system : X → MioSystem Clock) (log : X → List Step)
    → IfOk result (λ hosted. Serves (opens {Clock = Clock}) file turns old new (served hosted) (log hosted))
    → IfOk result (λ hosted. ServesHere file turns (served hosted) (system hosted) (log hosted))
served_here (Ok hosted) file turns old new served system log s = record {
  config = s.config;
  opened = s.opened;
  core = s.core;
  says = s.asked.says;
  is_open = s.asked.answered;
  counted = s.counted;
  followed = s.followed;
}
served_here (Err fault) file turns old new served system log s = tt

pub refused_here : {Opener System X : Type 0} (answers : Answers Opener System) (result : Result X HostFault)
    (file : List ℕ) (old new : Opener) → IfErr result (λ fault. Refuses answers file old new fault)
    → IfErr result (λ fault. RefusesHere file fault)
refused_here answers (Ok hosted) file old new refuses = tt
refused_here answers (Err (host.Config why)) file old new refuses = refuses.0
refused_here answers (Err host.Port) file old new refuses = (refuses.0, refuses.1.says)
refused_here answers (Err host.Memory) file old new refuses = tt
