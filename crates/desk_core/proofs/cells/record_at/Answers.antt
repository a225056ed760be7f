use Rattle.std.proofs.Common.{arith}
use Rattle.journal_core.proofs.Keeping.{valid_at}
use Rattle.desk_core.proofs.Listing.{in_cells, got}
use Rattle.desk_core.proofs.cells.record_at.Goals as goal

pub index-state-requires : goal.index-state-requires
index-state-requires c = omega (arith, in_cells _ _ c.args.rec _ c.requires.valid c.config-config.ensures, c.args.states.now.ok)

pub returns-clause-found : goal.returns-clause-found
returns-clause-found c = got _ c.args.rec _ (in_cells _ _ c.args.rec _ c.requires.valid c.config-config.ensures) c.index-state.ensures

pub returns-clause-valid : goal.returns-clause-valid
returns-clause-valid c =
    let less = in_cells _ _ c.args.rec _ c.requires.valid c.config-config.ensures in
    valid_at _ _ c.args.rec _ _ c.requires.valid c.config-config.ensures (got _ c.args.rec _ less c.index-state.ensures)
