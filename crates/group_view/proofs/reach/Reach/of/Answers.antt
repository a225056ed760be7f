use Rattle.std.proofs.Common.{◌<◌, length, fold, sym, ap, ◌∙◌, subst}
use Rattle.std.specs.FinSet as set
use Rattle.std.specs.List.{AllByRecursion, flat_map}
use Rattle.std.specs.Option.{option_and_then}
use Rattle.std.specs.Prelude.{slice_get}
use Rattle.group_view.specs.Leaves.{leaves_at, read_by, records_read}
use Rattle.group_view.proofs.Once.{all_rising, leaves_once, reads_once}
use Rattle.group_view.proofs.reach.Reach.of.Goals as goal

pub leaves_in-requires : goal.leaves_in-requires
leaves_in-requires c =
    subst (AllByRecursion (λ n. n < length c.args.own.now)) (sym (c.deref.ensures.value ∙ c.in_ok-numbers.ensures))
    (all_rising (λ n. n < length c.args.own.now) c.args.triggers.now c.requires)

pub returns : goal.returns
returns c =
    let leaves = leaves_at c.args.own.now in
    let ms = c.args.members.now in
    let first = c.deref.ensures.value ∙ c.in_ok-numbers.ensures in
    let second = c.deref-2.ensures.value ∙ c.in_ok-numbers.ensures in
    let marked = c.in_ok-leaves_in.ensures ∙ ap (λ ns. fold set.insert set.empty (flat_map leaves ns)) first ∙ leaves_once leaves c.args.triggers.now in
    let read = c.from_vec.ensures ∙ c.in_ok-records_read.ensures ∙ ap (records_read ms) second
    ∙ reads_once (λ n. option_and_then read_by (slice_get ms n)) c.args.triggers.now in
    λ i. record { triggered = marked i; footprint = read i }
