use Rattle.std.proofs.Common.{◌≡◌, ◌+◌, ◌≤◌, ◌∷◌, length, get_or, drop, refl, subst, rules, add-one}
use Rattle.std.proofs.Math.Seq.{drop-cons}
use Rattle.std.proofs.Math.ListN.{drop_of_length-le}
use Rattle.db_links.specs.Chains.{MayBeAsked}
use Rattle.db_links.specs.Courses.{site_of, stage_of}
use Rattle.db_links.proofs.Machine.{took_more, took_all}
use Rattle.db_links.proofs.course.Course.do_all.Goals as goal

pub loop-step-preserved : goal.loop-step-preserved
loop-step-preserved c =
    let r = c.args.records.now in
    let all = c.args.actions.now in
    let i = c.loop-step.step-index in
    let x = c.step-item.result in
    let here : get_or all i x ≡ x = search rules in
    let cut : drop i all ≡ x ∷ drop (i + 1) all = rw (drop-cons all i x c.loop-step-test.true, add-one, here) refl in (
      took_more (site_of r) all (drop i all) (drop (i + 1) all) x (stage_of r c.args.self.now) (stage_of r c.loop-step.self) (stage_of r c.do_root.new.self) cut c.loop-step.invariant.0 c.in_ok-do_root.ensures.goes,
      c.in_ok-do_root.ensures.sound,
      c.in_ok-do_root.ensures.none,
      (subst (MayBeAsked r.configs.now (length r.links.now)) cut c.loop-step.invariant.3).2,
    )

pub returns : goal.returns
returns c =
    let r = c.args.records.now in
    let all = c.args.actions.now in
    let i = c.loop-step.step-index in
    let past : length all ≤ i = search rules in
    took_all (site_of r) all (drop i all) (stage_of r c.args.self.now) (stage_of r c.loop-step.self) (drop_of_length-le all past) c.loop-step.invariant.0
