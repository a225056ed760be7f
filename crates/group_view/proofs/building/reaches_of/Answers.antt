use Rattle.std.proofs.Common.{◌≡◌, ◌<◌, ℕ, length, fold, get_or, cond, Some, sym, ◌∙◌, subst}
use Rattle.std.specs.BTreeMap.{get_by}
use Rattle.std.specs.FinSet as set
use Rattle.std.specs.List.{AllByRecursion, flat_map}
use Rattle.std.specs.Ordering.{nat_cmp}
use Rattle.pvd_type.proofs.Sets.{by_cmp}
use Rattle.group_view.specs.Built.{reach_by}
use Rattle.group_view.specs.Leaves.{leaves_at, triggered_by, records_read}
use Rattle.group_view.proofs.Keeping.{reaches_more}
use Rattle.group_view.proofs.Reaching.{triggered_within}
use Rattle.group_view.proofs.building.reaches_of.Goals as goal

pub of-requires : goal.of-requires
of-requires c =
    let ms = c.args.members.now in
    let rec = get_or c.args.records.now c.loop-rec.rec-index 0 in
    subst (AllByRecursion (λ n. n < length c.args.own.now)) (sym (c.numbers_of.ensures ∙ c.in_ok-triggers.ensures rec))
    (subst (λ (k : ℕ). AllByRecursion (λ n. n < k) (triggered_by ms rec)) (sym c.requires.same) (triggered_within _ ms rec c.requires.within))

pub loop-rec-preserved : goal.loop-rec-preserved
loop-rec-preserved c =
    let recs = c.args.records.now in
    let i = c.loop-rec.rec-index in
    let before = c.loop-rec.reaches in
    let leaves = leaves_at c.args.own.now in
    let read = c.numbers_of.ensures ∙ c.in_ok-triggers.ensures (get_or recs i 0) in
    let made = c.in_ok-reach.ensures ∙ (λ k. record { triggered = fold set.insert set.empty (flat_map leaves (read k)); footprint = records_read c.args.members.now (read k) }) in
    reaches_more (reach_by leaves c.args.members.now) recs i (λ q. get_by (nat_cmp q) before) (λ q. get_by (nat_cmp q) c.insert.new.self)
    c.loop-rec-test.true
    (λ q. c.in_ok-insert.ensures.updates.0 q ∙ (λ j. cond (by_cmp (get_or recs i 0) q j) (Some (made j)) (get_by (nat_cmp q) before)))
    c.loop-rec.invariant
