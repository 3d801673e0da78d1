-- The status with which serving ends.
use Rattle.std.specs.Prelude.{ℕ}
use Rattle.srcp_host.specs.declared.fault.HostFault.{HostFault}
use Rattle.srcp_host.specs.declared.fault.HostFault.TheVariants as host
use Rattle.srcp_tool.specs.Faults.{config_status}

-- 2 if the file is at fault, and else 1
abbrev pub host_status : HostFault → ℕ
host_status (host.Config what) = config_status what
host_status host.Port = 1
host_status host.Memory = 1
