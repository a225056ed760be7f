use Rattle.std.proofs.Common.{◌∙◌, ap, sym, subst}
use Rattle.rec_kinds.specs.declared.datum.Action.{Action}
use Rattle.db_links.specs.Chains.{written_of}
use Rattle.db_links.specs.Courses.{Stage, IsSound, site_of, scene_of, stage_of, with_task, after_step, wrote}
use Rattle.db_links.specs.declared.course.Task.TheVariants.{MakeStep, Forward}
use Rattle.db_links.proofs.Sound.{on_more, tasks_less, sound_step}
use Rattle.db_links.proofs.course.Course.step.Goals as goal

pub fetched-requires-clause-within : goal.fetched-requires-clause-within
fetched-requires-clause-within c = (tasks_less c.args.records.now c.args.self.now.tasks.items (MakeStep c.args.rec c.args.action) c.requires.sound.tasks).1.0

pub fetched-requires-clause-may : goal.fetched-requires-clause-may
fetched-requires-clause-may c = (tasks_less c.args.records.now c.args.self.now.tasks.items (MakeStep c.args.rec c.args.action) c.requires.sound.tasks).1.1

pub make_step-requires-clause-within : goal.make_step-requires-clause-within
make_step-requires-clause-within c = (tasks_less c.args.records.now c.args.self.now.tasks.items (MakeStep c.args.rec c.args.action) c.requires.sound.tasks).1.0

pub write-requires-clause-within : goal.write-requires-clause-within
write-requires-clause-within c = (tasks_less c.args.records.now c.args.self.now.tasks.items (MakeStep c.args.rec c.args.action) c.requires.sound.tasks).1.0

pub write-requires-clause-sound : goal.write-requires-clause-sound
write-requires-clause-sound c =
    let r = c.args.records.now in
    let st = stage_of r c.args.self.now in
    let staged = (λ i. record { tasks = c.in_ok-push.ensures.items i; scene = scene_of r.states.now c.make_step.new.self; steps = c.make_step.new.self.steps.items })
    ∙ ap (with_task (Forward c.args.rec)) c.in_ok-make_step.ensures in
    subst (IsSound r) (sym staged) (sound_step r c.args.rec c.args.action c.in_ok-action.action st c.requires.sound c.in_ok-action.ensures.may)

pub returns : goal.returns
returns c =
    let r = c.args.records.now in
    let st = stage_of r c.args.self.now in
    let rec = c.args.rec in
    let staged = (λ i. record { tasks = c.in_ok-push.ensures.items i; scene = scene_of r.states.now c.make_step.new.self; steps = c.make_step.new.self.steps.items })
    ∙ ap (with_task (Forward rec)) c.in_ok-make_step.ensures in
    on_more c.write.result c.write.ensures (λ made. made
    ∙ ap (λ (x : Stage). wrote (site_of r) (written_of (site_of r) rec x.scene) x) staged
    ∙ ap (λ (a : Action). wrote (site_of r) (written_of (site_of r) rec (after_step (site_of r) rec a st).scene) (after_step (site_of r) rec a st)) c.in_ok-action.ensures.same)
