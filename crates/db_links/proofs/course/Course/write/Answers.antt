use Rattle.std.proofs.Common.{◌∙◌, sym}
use Rattle.db_links.specs.Courses.{scene_of}
use Rattle.db_links.proofs.Sound.{out_inside, opened}
use Rattle.db_links.proofs.course.Course.write.Goals as goal

pub moved-requires-clause-to : goal.moved-requires-clause-to
moved-requires-clause-to c =
    let before = c.args.records.now.states.now in
    let next = sym (c.open.ensures before) ∙ c.in-Some.is in
    out_inside c.args.records.now.links.now c.args.rec c.in-Some.link c.requires.site.inside
    (sym c.out.ensures ∙ (opened (scene_of before c.args.self.now) c.out.result c.in-Some.link next).0)

pub write_to-requires-clause-within : goal.write_to-requires-clause-within
write_to-requires-clause-within c =
    let before = c.args.records.now.states.now in
    let next = sym (c.open.ensures before) ∙ c.in-Some.is in
    out_inside c.args.records.now.links.now c.args.rec c.in-Some.link c.requires.site.inside
    (sym c.out.ensures ∙ (opened (scene_of before c.args.self.now) c.out.result c.in-Some.link next).0)
