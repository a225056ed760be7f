use Rattle.std.proofs.Common.{◌∙◌, ap, sym}
use Rattle.std.specs.Option.{option_and_then, option_map}
use Rattle.db_links.specs.Chains.{open_link}
use Rattle.db_links.specs.Courses.{scene_of, stage_of, asked}
use Rattle.db_links.proofs.Sound.{on_more}
use Rattle.db_links.proofs.course.Course.forward.Goals as goal

pub returns-in-Some : goal.returns-in-Some
returns-in-Some c =
    let before = c.args.records.now.states.now in
    let next = c.open.ensures before ∙ ap (option_and_then (open_link (scene_of before c.args.self.now))) c.flnk.ensures in
    on_more c.begin.result c.begin.ensures (λ made. made c.args.records.now
    ∙ ap (λ o. asked (option_map (λ l. l.target) o) (stage_of c.args.records.now c.args.self.now)) (sym c.in-Some.is ∙ next))
