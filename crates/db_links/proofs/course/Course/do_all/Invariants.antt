use Rattle.std.proofs.Common.{◌≡◌, ◌++◌, [], List, length, drop}
use Rattle.db_links.specs.Chains.{Scene, Step, DoesAll, MayBeAsked}
use Rattle.db_links.specs.Courses.{IsSound, site_of, scene_of, stage_of}
use Rattle.db_links.specs.Leading.{Took}
use Rattle.db_links.proofs.course.Course.do_all.Given as goal

abbrev pub invariant-loop-step : goal.invariant-loop-step
invariant-loop-step l =
    ((ys : List Step) (e : Scene) → DoesAll (site_of l.records) (drop l.step-index l.actions) (scene_of l.records.states.now l.self) ys e
    → Took (site_of l.records) l.actions (stage_of l.records l.initial.self) (l.self.steps.items ++ ys) e)
    × IsSound l.records (stage_of l.records l.self) × (l.self.tasks.items ≡ []) × MayBeAsked l.records.configs.now (length l.records.links.now) (drop l.step-index l.actions)
