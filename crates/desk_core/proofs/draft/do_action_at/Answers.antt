use Rattle.desk_core.proofs.Ported.{ok_at, err_at}
use Rattle.desk_core.proofs.draft.do_action_at.Goals as goal

pub returns-clause-driven : goal.returns-clause-driven
returns-clause-driven g c = ok_at g.P.Port.port c.args.ports.now.items c.args.rec c.index_mut.result.now c.do_action.new.port c.requires.within c.index_mut.ensures.value c.do_action.result c.do_action.ensures.driven

pub returns-clause-tried : goal.returns-clause-tried
returns-clause-tried g c = err_at g.P.Port.port c.args.ports.now.items c.args.rec c.index_mut.result.now c.do_action.new.port c.requires.within c.index_mut.ensures.value c.do_action.result _ c.do_action.ensures.tried
