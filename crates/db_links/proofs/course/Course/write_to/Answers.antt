use Rattle.std.proofs.Common.{◌∙◌, cond, ap, sym, subst}
use Rattle.db_links.specs.Chains.{AreValid}
use Rattle.db_links.specs.Courses.{Stage, site_of, stage_of, begun, with_step, with_mark}
use Rattle.db_links.proofs.Sound.{on_more}
use Rattle.db_links.proofs.course.Course.write_to.Goals as goal

pub returns-then-link : goal.returns-then-link
returns-then-link c =
    let r = c.args.records.now in
    let st = stage_of r c.args.self.now in
    let target = c.args.link.target in
    on_more c.begin.result c.begin.ensures (λ made. made r
    ∙ ap (λ b. cond b (begun target c.args.action st) (with_step (site_of r) target c.args.action (with_mark target st))) (sym c.if-link.true))

pub make_step-requires-clause-valid : goal.make_step-requires-clause-valid
make_step-requires-clause-valid c =
    let r = c.args.records.now in
    subst (λ (st : Stage). AreValid r.configs.now st.scene.states) (sym (c.in_ok-mark.ensures r)) c.requires.sound.valid

pub returns : goal.returns
returns c =
    let r = c.args.records.now in
    let st = stage_of r c.args.self.now in
    let target = c.args.link.target in
    on_more c.make_step.result c.make_step.ensures (λ made. made ∙ ap (with_step (site_of r) target c.args.action) (c.in_ok-mark.ensures r)
    ∙ ap (λ b. cond b (begun target c.args.action st) (with_step (site_of r) target c.args.action (with_mark target st))) (sym c.if-link.false))
