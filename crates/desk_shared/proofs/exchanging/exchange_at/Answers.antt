use Rattle.desk_core.proofs.Listing.{got}
use Rattle.desk_shared.proofs.Swapped.{one_exchanged, port_exchanged}
use Rattle.desk_shared.proofs.exchanging.exchange_at.Goals as goal

pub returns-clause-states : goal.returns-clause-states
returns-clause-states g c =
    one_exchanged c.args.hand.now.items c.args.at c.args.rec c.args.cells.now.states.items c.index_mut-cell.result.now (record { state = c.exchange_states.new.mine; port = c.exchange_ports.new.mine }) c.index_mut.result.now c.exchange_states.new.theirs
    (got c.args.hand.now.items c.args.at c.index_mut-cell.result.now c.requires.at c.index_mut-cell.ensures.value) (got c.args.cells.now.states.items c.args.rec c.index_mut.result.now c.requires.state c.index_mut.ensures.value) c.exchange_states.ensures.mine c.exchange_states.ensures.theirs

pub returns-clause-port : goal.returns-clause-port
returns-clause-port g c =
    port_exchanged c.args.hand.now.items c.args.at c.args.rec c.args.cells.now.ports.items _ c.index_mut-cell.result.now (record { state = c.exchange_states.new.mine; port = c.exchange_ports.new.mine })
    (got c.args.hand.now.items c.args.at c.index_mut-cell.result.now c.requires.at c.index_mut-cell.ensures.value) c.exchange_ports.ensures.mine c.exchange_ports.ensures.theirs
