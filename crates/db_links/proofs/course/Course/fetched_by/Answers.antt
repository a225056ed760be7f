use Rattle.std.proofs.Common.{◌∙◌, sym}
use Rattle.db_links.proofs.Sound.{inp_inside}
use Rattle.db_links.proofs.course.Course.fetched_by.Goals as goal

pub moved-requires-clause-from : goal.moved-requires-clause-from
moved-requires-clause-from c =
    inp_inside c.args.records.now.links.now c.args.rec c.in-Some.link c.requires.site.inside (sym c.inp.ensures ∙ c.in-Some.is)
