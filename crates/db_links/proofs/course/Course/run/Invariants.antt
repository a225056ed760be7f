use Rattle.std.proofs.Common.{length}
use Rattle.db_links.specs.Courses.{IsSound, left_of, site_of, stage_of}
use Rattle.db_links.specs.Leading.{Leads}
use Rattle.db_links.proofs.course.Course.run.Given as goal

abbrev pub invariant-loop-task : goal.invariant-loop-task
invariant-loop-task l = Leads (site_of l.records) (stage_of l.records l.initial.self) (stage_of l.records l.self) × IsSound l.records (stage_of l.records l.self)

abbrev pub decreases-loop-task : goal.decreases-loop-task
decreases-loop-task l = left_of (length l.records.links.now) (stage_of l.records l.self)
