use Rattle.std.proofs.Common.{◌∙◌}
use Rattle.db_links.specs.Courses.{scene_of, asked}
use Rattle.db_links.proofs.Sound.{on_more}
use Rattle.db_links.proofs.course.Course.fetch.Goals as goal

pub returns : goal.returns
returns c =
    let r = c.args.records.now in
    on_more c.ask.result c.ask.ensures (λ made. made r
    ∙ (λ i. asked (c.source_of-source.ensures i) (record { tasks = c.in_ok-push.ensures.items i; scene = scene_of r.states.now c.args.self.now; steps = c.args.self.now.steps.items })))
