-- Why nothing is listened at, and at which address a door listens.
use Rattle.std.specs.Prelude.{◌≡◌, ℕ, List, [], ◌∷◌, codes}
use Rattle.std.specs.declared.io.ErrorKind.{ErrorKind}
use Rattle.std.specs.declared.io.ErrorKind.TheVariants as kind
use Rattle.std.specs.declared.net.ip_addr.IpAddr.{IpAddr}
use Rattle.std.specs.declared.net.ip_addr.IpAddr.TheVariants as ip
use Rattle.std.specs.declared.net.socket_addr.SocketAddr.{SocketAddr}
use Rattle.std.specs.Net.Addr.{ipv4_octets}
use Rattle.std.specs.Net.Socket.{socket_ip, socket_port}
use Rattle.srcp_sockets.specs.declared.fault.ListenFault.{ListenFault}
use Rattle.srcp_sockets.specs.declared.fault.ListenFault.TheVariants as fault

-- why, if the system's error is of this kind: refused memory is reported as such, and any other error is the port's
abbrev pub listen_fault : ErrorKind → ListenFault
listen_fault kind.OutOfMemory = fault.Memory
listen_fault _ = fault.Port

-- the text that reports it
abbrev pub listen_text : ListenFault → List ℕ
listen_text fault.Port = codes "cannot listen"
listen_text fault.Memory = codes "out of memory"

-- 127.0.0.1
abbrev pub IsHere : IpAddr → Type 0
IsHere (ip.V4 a) = ipv4_octets a ≡ 127 ∷ 0 ∷ 0 ∷ 1 ∷ []
IsHere (ip.V6 a) = ⊥

-- that port of the machine itself
abbrev pub IsLocal : SocketAddr → (port : ℕ) → Type 0
IsLocal address port = IsHere (socket_ip address) × (socket_port address ≡ port)
