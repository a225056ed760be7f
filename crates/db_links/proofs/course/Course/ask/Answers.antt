use Rattle.std.proofs.Common.{◌∙◌, ap, sym}
use Rattle.db_links.specs.Courses.{stage_of, asked}
use Rattle.db_links.proofs.Sound.{on_more}
use Rattle.db_links.proofs.course.Course.ask.Goals as goal

pub returns-in-Some : goal.returns-in-Some
returns-in-Some c = on_more c.begin.result c.begin.ensures (λ made r. made r ∙ ap (λ o. asked o (stage_of r c.args.self.now)) (sym c.in-Some.is))
