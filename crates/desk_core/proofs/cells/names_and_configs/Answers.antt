use Rattle.std.proofs.Common.{arith}
use Rattle.desk_core.proofs.Listing.{valid_count}
use Rattle.desk_core.proofs.cells.names_and_configs.Goals as goal

pub returns-clause-same : goal.returns-clause-same
returns-clause-same c = omega (arith, c.records.ensures.names, c.records.ensures.opening, valid_count _ _ c.records.ensures.valid)

pub returns-clause-few : goal.returns-clause-few
returns-clause-few c = omega (arith, c.records.ensures.few, c.records.ensures.opening, valid_count _ _ c.records.ensures.valid)
