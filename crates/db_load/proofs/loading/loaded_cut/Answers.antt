use Rattle.db_load.proofs.Loadings.{cut_done}
use Rattle.db_load.proofs.loading.loaded_cut.Goals as goal

pub returns-in-Ok : goal.returns-in-Ok
returns-in-Ok c =
    cut_done _ c.args.end _ c.in_ok-tokens.tokens.items c.deref.result.now c.in_ok-tokens.stop c.in-Ok.records.items c.counted.result c.behind.result
    c.in_ok-tokens.ensures.scan c.deref.ensures.value c.in-Ok.ensures c.counted.ensures c.behind.ensures
