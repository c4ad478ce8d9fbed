-- The addresses of the parties on one machine: 127.0.0.1, with a port for each.
use Rattle.std.specs.Prelude.{◌≡◌, ◌+◌, ℕ, nat_lt, [], ◌∷◌, Option, Some, None, if◌then◌else◌}
use Rattle.std.specs.Net.Addr.{IsV4And, ipv4_octets}
use Rattle.std.specs.Net.Socket.{socket_ip, socket_port}
use Rattle.std.specs.declared.net.ip_addr.IpAddr.{IpAddr}
use Rattle.std.specs.declared.net.socket_addr.SocketAddr.{SocketAddr}
use Rattle.nq_base.specs.declared.Party.{Party}

-- the port of the server is 20560, and that of host h is 20561 + h; a host from 64 on has none
abbrev pub port_of : Party → Option ℕ
port_of Party.Server = Some 20560
port_of (Party.Client host) = if nat_lt host 64 then Some (20561 + host) else None

-- an address is 127.0.0.1
abbrev pub IsLocal : IpAddr → Type 0
IsLocal address = IsV4And address (λ v4. ipv4_octets v4 ≡ 127 ∷ 0 ∷ 0 ∷ 1 ∷ [])

-- this is the address of a party: 127.0.0.1 with the party's port
pub record IsAddressOf (party : Party) (address : SocketAddr) : Type 0 where
  pub local : IsLocal (socket_ip address)
  pub port : port_of party ≡ Some (socket_port address)

-- the address of a party, if it has one
abbrev pub HasAddress : Party → Option SocketAddr → Type 0
HasAddress party None = port_of party ≡ None
HasAddress party (Some address) = IsAddressOf party address

-- the party that has a port, if one has it
abbrev pub IsAtPort : (port : ℕ) → Option Party → Type 0
IsAtPort port None = (party : Party) → port_of party ≡ Some port → ⊥
IsAtPort port (Some party) = port_of party ≡ Some port

-- the party that has an address, if one has it
abbrev pub IsAt : SocketAddr → Option Party → Type 0
IsAt address None = (party : Party) → IsAddressOf party address → ⊥
IsAt address (Some party) = IsAddressOf party address
