use Rattle.std.proofs.Common.{Some, slice_index_or, sym, ap, ◌∙◌, rules}
use Rattle.std.specs.List.{slice_get}
use Rattle.db_links.specs.Chains.{state_after}
use Rattle.db_links.proofs.Sound.{if_more}
use Rattle.std.proofs.lemmas.Option.{slice_get-get_or}
use Rattle.db_links.proofs.course.Course.next_state.Goals as goal

pub process-requires-clause-valid : goal.process-requires-clause-valid
process-requires-clause-valid c =
    c.requires.valid c.args.rec (slice_index_or c.args.records.now.configs.now c.args.rec c.index-records-rec.result) c.state.result.now
    (slice_get-get_or c.args.records.now.configs.now c.args.rec c.index-records-rec.result (search rules)) c.state.ensures

pub process-requires-clause-may : goal.process-requires-clause-may
process-requires-clause-may c =
    c.requires.may (slice_index_or c.args.records.now.configs.now c.args.rec c.index-records-rec.result)
    (slice_get-get_or c.args.records.now.configs.now c.args.rec c.index-records-rec.result (search rules))

pub returns : goal.returns
returns c =
    if_more c.process.result c.process.ensures.processed (λ state is.
    ap Some is
    ∙ sym (ap (λ o. state_after c.args.records.now.moment c.args.action.now o (Some c.state.result.now))
    (slice_get-get_or c.args.records.now.configs.now c.args.rec c.index-records-rec.result (search rules)))
    ∙ sym (ap (state_after c.args.records.now.moment c.args.action.now (slice_get c.args.records.now.configs.now c.args.rec)) c.state.ensures))
