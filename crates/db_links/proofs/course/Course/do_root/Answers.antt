use Rattle.std.proofs.Common.{sym, subst}
use Rattle.rec_kinds.specs.Validity.{MayBeDone}
use Rattle.db_links.specs.Chains.{Does, whole}
use Rattle.db_links.specs.Courses.{IsSound, site_of, stage_of}
use Rattle.db_links.specs.Leading.{Leads}
use Rattle.db_links.proofs.Machine.{root_done}
use Rattle.db_links.proofs.Turning.{sound_begun}
use Rattle.db_links.proofs.course.Course.do_root.Goals as goal

pub run-requires-clause-sound : goal.run-requires-clause-sound
run-requires-clause-sound c =
    let r = c.args.records.now in
    subst (IsSound r) (sym (c.in_ok-begin.ensures r))
    (sound_begun r c.args.step.now.0 c.in_ok-action.action (stage_of r c.args.self.now) c.requires.within
    (λ config is. subst (MayBeDone config) (sym c.in_ok-action.ensures) (c.requires.may config is)) c.requires.sound)

pub returns-clause-goes : goal.returns-clause-goes
returns-clause-goes c =
    let r = c.args.records.now in
    let a = stage_of r c.args.self.now in
    let b = stage_of r c.run.new.self in
    let done = root_done (site_of r) c.args.step.now.0 c.in_ok-action.action a b c.requires.none c.in_ok-run.ensures.none
    (subst (λ x. Leads (site_of r) x b) (c.in_ok-begin.ensures r) c.in_ok-run.ensures.leads) in
    record { more = done.0; does = subst (λ x. Does (site_of r) (whole c.args.step.now.0 x) a.scene done.0 b.scene) c.in_ok-action.ensures done.1; made = done.2 }
