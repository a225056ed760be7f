use Rattle.std.proofs.Common.{refl}
use Rattle.pva_search.proofs.search.knows.Goals as goal

pub returns : goal.returns
returns g c = λ test tells. tells c.args.name.now c.known.result c.utf8.name (record { shown = c.args.name; shows = refl; says = record { met = c.known.ensures } })
