use Rattle.std.proofs.Common.{ap, ◌∙◌}
use Rattle.db_links.specs.Live.{are_inside}
use Rattle.db_links.proofs.Inside.{all_inside_of}
use Rattle.db_links.proofs.link.Links.build.Goals as goal

pub invariant_of-result : goal.invariant_of-result
invariant_of-result c = ap are_inside c.in_ok-links_of.ensures ∙ all_inside_of c.args.records.now
