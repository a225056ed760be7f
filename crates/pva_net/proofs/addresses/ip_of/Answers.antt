use Rattle.std.proofs.Common.{ℕ, ◌<◌, get_or, arith, rules}
use Rattle.pva_net.proofs.Bytes.{canonical_bytes}
use Rattle.pva_net.proofs.addresses.ip_of.Goals as goal

pub returns : goal.returns
returns c =
    let small : (k : ℕ) → get_or c.args.bytes k 0 < 256 = search rules in
    canonical_bytes c.args.bytes c.from_octets.result c.to_canonical.result (omega arith) small c.from_octets.ensures c.to_canonical.ensures
