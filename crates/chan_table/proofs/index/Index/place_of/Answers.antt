use Rattle.std.specs.Prelude.{◌≡◌, T}
use Rattle.std.proofs.Common.{sym, ap, subst, ◌∙◌, rules}
use Rattle.std.specs.Ordering.{is_lt}
use Rattle.std.specs.List.Sorted.{IsPartitionedBy}
use Rattle.std.proofs.lemmas.List.Sorted.{IsPartitionPoint-from_clause}
use Rattle.chan_table.specs.Index.{place}
use Rattle.chan_table.proofs.Places.{are_partitioned, point-prefix_len}
use Rattle.chan_table.proofs.index.Index.place_of.Goals as goal

pub returns : goal.returns
returns g c =
    let R = g.K.Ord.cmp in
    let es = c.as_slice.result.now in
    let same : es ≡ c.args.self.now.entries.items = c.as_slice.ensures.value in
    let sorted = subst T (sym c.args.self.now.sorted) tt in
    let parted = are_partitioned R g.met.K.Ord.total c.args.self.now.entries.items c.args.key sorted in
    let point = IsPartitionPoint-from_clause (λ e. is_lt (R e.0 c.args.key)) es c.partition_point.result c.partition_point.ensures.partitioned
    (subst (IsPartitionedBy (λ e. is_lt (R e.0 c.args.key))) (sym same) parted) (λ a r q k. search rules) in
    point-prefix_len (λ e. is_lt (R e.0 c.args.key)) es c.partition_point.result c.partition_point.ensures.bound point
    ∙ ap (place R c.args.key) same
