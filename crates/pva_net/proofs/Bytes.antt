-- The 16 bytes of a peer are those of the address that is made of them.
use Rattle.std.proofs.Common.{◌≡◌, ℕ, suc, ◌+◌, ◌-◌, ◌*◌, ◌/◌, ◌%◌, ◌<◌, List, [], ◌∷◌, ◌++◌, length, get_or, take, drop, refl, sym, ap, ◌∙◌, arith, take-append-drop}
use Rattle.std.specs.Net.Addr.{octets_of, segments_of, ipv6_segments, IsCanonicalOf}
use Rattle.std.specs.declared.net.ip_addr.IpAddr.{IpAddr}
use Rattle.std.specs.declared.net.ip_addr.IpAddr.TheVariants.{V4, V6}
use Rattle.std.specs.declared.net.ipv6_addr.Ipv6Addr.{Ipv6Addr}
use Rattle.pva_net.specs.Addresses.{mapped, bytes_of_ip}

-- octets joined to segments and taken apart again
octets_again : (n : ℕ) (bytes : List ℕ) → length bytes ≡ 2 * n → ((k : ℕ) → get_or bytes k 0 < 256) → octets_of (segments_of bytes) ≡ bytes
octets_again n [] even small = refl
octets_again n (a ∷ []) even small = absurd (omega arith)
octets_again n (a ∷ b ∷ bytes) even small =
    let low : b < 256 = small 1 in
    let high : (a * 256 + b) / 256 ≡ a = omega arith in
    let rest : (a * 256 + b) % 256 ≡ b = omega arith in
    λ i. high i ∷ rest i ∷ octets_again (n - 1) bytes (omega arith) (λ k. small (suc (suc k))) i

-- the octets of segments, where the first six are those of a mapped address
mapped_octets : (segments : List ℕ) → take 6 segments ≡ 0 ∷ 0 ∷ 0 ∷ 0 ∷ 0 ∷ 0xffff ∷ [] → mapped (octets_of (drop 6 segments)) ≡ octets_of segments
mapped_octets segments is =
    let front : mapped (octets_of (drop 6 segments)) ≡ octets_of ((0 ∷ 0 ∷ 0 ∷ 0 ∷ 0 ∷ 0xffff ∷ []) ++ drop 6 segments) = refl in
    front ∙ (ap (λ (six : List ℕ). octets_of (six ++ drop 6 segments)) (sym is) ∙ ap octets_of (take-append-drop 6 segments))

pub canonical_bytes : (bytes : List ℕ) (whole : Ipv6Addr) (ip : IpAddr) → length bytes ≡ 16 → ((k : ℕ) → get_or bytes k 0 < 256) → ipv6_segments whole ≡ segments_of bytes → IsCanonicalOf whole ip → bytes_of_ip ip ≡ bytes
canonical_bytes bytes whole (V4 ip) long small segments is =
    ap mapped is.1 ∙ (mapped_octets (ipv6_segments whole) is.0 ∙ (ap octets_of segments ∙ octets_again 8 bytes long small))
canonical_bytes bytes whole (V6 ip) long small segments is =
    ap (λ (address : Ipv6Addr). octets_of (ipv6_segments address)) is.1 ∙ (ap octets_of segments ∙ octets_again 8 bytes long small)
