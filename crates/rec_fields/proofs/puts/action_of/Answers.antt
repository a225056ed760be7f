use Rattle.std.proofs.Common.{◌≡◌, true, Some, refl, sym, ◌∙◌, ap, rules}
use Rattle.std.specs.FinSet.{contains}
use Rattle.pvd_value.specs.View.{view}
use Rattle.rec_kinds.specs.Validity.{refusal}
use Rattle.rec_fields.specs.Puts.{value_leaf, datum_in}
use Rattle.rec_fields.proofs.Brings.{brings}
use Rattle.rec_fields.proofs.Shows.{put_at, is_action}
use Rattle.rec_fields.proofs.puts.action_of.Goals as goal

pub checked-requires : goal.checked-requires
checked-requires c =
    brings c.args.config.now.kind c.args.config.now.ftvl (view c.args.value.now) (view c.first_of.result.now) c.in_ok-datum.field-0 c.in-Some.datum
    c.requires c.first_of.ensures c.in-Some.is (c.in_ok-datum.ensures {u = tt}).sort

pub returns-clause-answer : goal.returns-clause-answer
returns-clause-answer c =
    let marked : contains c.args.mask.now (value_leaf c.args.config.now.kind) ≡ true = search rules in
    is_action c.args.config.now (view c.args.value.now) c.args.mask.now c.in-Some.datum (refusal c.args.config.now c.in-Some.datum) c.checked.result
    (put_at c.args.config.now (view c.args.value.now) c.args.mask.now c.in-Some.datum (refusal c.args.config.now c.in-Some.datum) marked
    (sym (ap datum_in c.first_of.ensures) ∙ (sym (c.in_ok-datum.ensures {u = tt}).same ∙ c.in-Some.is)) refl)
    c.checked.ensures.answer
