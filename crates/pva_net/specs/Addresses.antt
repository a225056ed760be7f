-- The 16 bytes of a peer and the addresses of the system.
use Rattle.std.specs.Prelude.{ℕ, List, ◌∷◌, ◌++◌, replicate}
use Rattle.std.specs.Net.Addr.{ipv4_octets, ipv6_octets}
use Rattle.std.specs.declared.net.ip_addr.IpAddr.{IpAddr}
use Rattle.std.specs.declared.net.ip_addr.IpAddr.TheVariants.{V4, V6}

-- an IPv4 address as IPv6 maps it (RFC 4291, section 2.5.5.2)
abbrev pub mapped : List ℕ → List ℕ
mapped ipv4 = replicate 10 0 ++ 255 ∷ 255 ∷ ipv4

-- the 16 bytes of an address
abbrev pub bytes_of_ip : IpAddr → List ℕ
bytes_of_ip (V4 ip) = mapped (ipv4_octets ip)
bytes_of_ip (V6 ip) = ipv6_octets ip
