use Rattle.std.proofs.Common.{◌≡◌, ◌<◌, ◌++◌, ◌∷◌, [], length, sym, subst, rules}
use Rattle.db_links.specs.Courses.{Stage, IsSound, left_of, site_of, scene_of, stage_of, with_task, turned}
use Rattle.db_links.specs.Leading.{Leads}
use Rattle.db_links.proofs.Machine.{leads_on, turned_leads}
use Rattle.db_links.proofs.Turning.{turned_less, sound_turned}
use Rattle.db_links.proofs.course.Course.run.Goals as goal

popped : (c : goal.In_ok-turn) → c.loop-task.self.tasks.items ≡ c.pop.new.self.items ++ c.in-Some.task ∷ []
popped c = search rules

abbrev staged : (c : goal.In_ok-turn) → stage_of c.args.records.now c.loop-task.self ≡ with_task c.in-Some.task (record { tasks = c.pop.new.self.items; scene = scene_of c.args.records.now.states.now c.loop-task.self; steps = c.loop-task.self.steps.items })
staged c = λ i. record { tasks = popped c i; scene = scene_of c.args.records.now.states.now c.loop-task.self; steps = c.loop-task.self.steps.items }

pub loop-task-smaller : goal.loop-task-smaller
loop-task-smaller c =
    let r = c.args.records.now in
    let n = length r.links.now in
    let st : Stage = record { tasks = c.pop.new.self.items; scene = scene_of r.states.now c.loop-task.self; steps = c.loop-task.self.steps.items } in
    let less : left_of n (turned (site_of r) c.in-Some.task st) < left_of n (with_task c.in-Some.task st) = turned_less r c.in-Some.task st c.requires.site in
    subst (λ x. left_of n x < left_of n (stage_of r c.loop-task.self)) (sym c.in_ok-turn.ensures)
    (subst (λ x. left_of n (turned (site_of r) c.in-Some.task st) < left_of n x) (sym (staged c)) less)

pub loop-task-preserved : goal.loop-task-preserved
loop-task-preserved c =
    let r = c.args.records.now in
    let st : Stage = record { tasks = c.pop.new.self.items; scene = scene_of r.states.now c.loop-task.self; steps = c.loop-task.self.steps.items } in
    let leads = leads_on (site_of r) (stage_of r c.args.self.now) (stage_of r c.loop-task.self) (turned (site_of r) c.in-Some.task st) c.loop-task.invariant.0
    (subst (λ x. Leads (site_of r) x (turned (site_of r) c.in-Some.task st)) (sym (staged c)) (turned_leads (site_of r) c.in-Some.task st)) in
    let sound = sound_turned r c.in-Some.task st c.requires.site (subst (IsSound r) (staged c) c.loop-task.invariant.1) in
    (subst (λ x. Leads (site_of r) (stage_of r c.args.self.now) x) (sym c.in_ok-turn.ensures) leads, subst (IsSound r) (sym c.in_ok-turn.ensures) sound)
