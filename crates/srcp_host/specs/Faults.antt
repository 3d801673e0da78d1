-- Why nothing is served, and the text that tells it.
use Rattle.std.specs.Prelude.{ℕ, List, codes}
use Rattle.srcp_layout_file.specs.Faults.{config_text}
use Rattle.srcp_layout_file.specs.declared.config.ConfigFault.{ConfigFault}
use Rattle.srcp_layout_file.specs.declared.config.ConfigFault.TheVariants as config
use Rattle.srcp_sockets.specs.declared.fault.ListenFault.{ListenFault}
use Rattle.srcp_sockets.specs.declared.fault.ListenFault.TheVariants as listen
use Rattle.srcp_host.specs.declared.fault.HostFault.{HostFault}
use Rattle.srcp_host.specs.declared.fault.HostFault.TheVariants as host

-- why, at a fault of the file: want of memory is a fault of its own
abbrev pub of_config : ConfigFault → HostFault
of_config config.Memory = host.Memory
of_config what = host.Config what

-- why, if no door was opened
abbrev pub of_listen : ListenFault → HostFault
of_listen listen.Port = host.Port
of_listen listen.Memory = host.Memory

-- the text of a fault
abbrev pub host_text : HostFault → List ℕ
host_text (host.Config what) = config_text what
host_text host.Port = codes "cannot listen"
host_text host.Memory = codes "out of memory"
