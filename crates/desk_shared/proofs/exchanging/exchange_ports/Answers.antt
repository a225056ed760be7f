use Rattle.std.proofs.Common.{ap}
use Rattle.std.specs.Prelude.{is_some}
use Rattle.desk_core.proofs.Listing.{got}
use Rattle.desk_shared.proofs.Swapped.{port_for_port}
use Rattle.desk_shared.proofs.exchanging.exchange_ports.Goals as goal

pub returns-in-Some-clause-there : goal.returns-in-Some-clause-there
returns-in-Some-clause-there g c =
    port_for_port c.args.ports.now.items c.args.rec c.swap.new.y c.index_mut.result.now (got c.args.ports.now.items c.args.rec c.index_mut.result.now c.requires c.index_mut.ensures.value) (ap is_some c.in-Some.is)
