use Rattle.std.proofs.Common.{arith, refl}
use Rattle.prog_client.proofs.Routed.{host_of}
use Rattle.prog_client.proofs.routes.read_host.Goals as goal

pub returns : goal.returns
returns c = host_of c.args.parts.now c.read_ipv4.result _ _ _ _ _ _ _ _ (omega (arith, c.if-parts-ne4.false)) refl refl refl refl c.read_ipv4.ensures
