use Rattle.std.proofs.Common.{sym}
use Rattle.std.specs.Int.{w8, cast_signed}
use Rattle.pvd_codec.proofs.Numbers.{bytes_read}
use Rattle.pvd_codec.proofs.lists.i8s_at.Goals as goal

pub returns : goal.returns
returns c =
    let front = c.split_at.result.0.now in
    let rest = c.split_at.result.1.now in
    rw (c.split_at.ensures.by_index.0, sym c.split_at.ensures.front_len, c.in_ok-signed_bytes.ensures) (bytes_read (cast_signed w8) c.args.order front rest)
