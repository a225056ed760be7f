use Rattle.std.proofs.Common.{arith}
use Rattle.prog_client.proofs.Routed.{address_in}
use Rattle.prog_client.proofs.routes.read_address.Goals as goal

pub returns : goal.returns
returns c =
    address_in c.args.text.now c.in_ok-ends.ends.items c.read_ends.result c.index.result.now c.index-2.result.now (c.in_ok-ends.ensures {u = tt}) (omega (arith, c.len.ensures, c.in_ok-ends.ends.ok, c.if-len-ne2.false))
    c.index.ensures c.index-2.ensures c.read_ends.ensures
