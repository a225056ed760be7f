use Rattle.std.proofs.Common.{◌∙◌, ap}
use Rattle.db_links.specs.Courses.{scene_of, with_task}
use Rattle.db_links.specs.declared.course.Task.TheVariants.{Fetch}
use Rattle.db_links.proofs.course.Course.begin.Goals as goal

pub returns : goal.returns
returns c = λ r.
    (λ i. record { tasks = c.in_ok-push.ensures.items i; scene = scene_of r.states.now c.mark.new.self; steps = c.mark.new.self.steps.items })
    ∙ ap (with_task (Fetch c.args.rec c.args.action)) (c.in_ok-mark.ensures r)
