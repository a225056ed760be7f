use Rattle.std.proofs.Common.{ℕ, sym, subst, ◌∙◌, ◌<◌}
use Rattle.std.specs.List.{AllByRecursion}
use Rattle.std.specs.List.Sorted.{IsStrictlyIncreasing}
use Rattle.desk_core.proofs.Reading.{below}
use Rattle.desk_shared.proofs.visiting.visit_channel.Goals as goal

pub visit_records-requires-clause-rises : goal.visit_records-requires-clause-rises
visit_records-requires-clause-rises g c =
    subst IsStrictlyIncreasing (sym (c.in-Ok.ensures.items ∙ c.footprint_of.ensures)) (c.footprints_rise.ensures.gets c.args.site.now c.args.channel)

pub visit_records-requires-clause-inside : goal.visit_records-requires-clause-inside
visit_records-requires-clause-inside g c =
    subst (AllByRecursion (λ (rec : ℕ). rec < c.args.hall.now.count)) (sym (c.in-Ok.ensures.items ∙ c.footprint_of.ensures))
    (below c.args.site.now c.args.channel c.args.hall.now.count c.groups_over_records.ensures c.names_and_configs.ensures.same (sym c.names_and_configs.ensures.same ∙ sym c.requires.count) c.requires.channel)
