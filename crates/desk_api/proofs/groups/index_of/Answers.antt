use Rattle.std.specs.Prelude.{◌≡◌, ℕ, ◌<◌, List, [], map, length, replicate, take}
use Rattle.std.specs.List.{AllByRecursion}
use Rattle.std.proofs.Common.{sym, ◌∙◌, ap, subst, arith, Vec, Global}
use Rattle.std.proofs.Math.Seq.{take-length}
use Rattle.std.proofs.lemmas.List.{length-map, length-replicate}
use Rattle.group_view.specs.Groups.{GroupData}
use Rattle.group_view.specs.Leaves.{records_of}
use Rattle.desk_api.proofs.Building.{all_at}
use Rattle.desk_api.proofs.Noting.{none_noted, noted_all}
use Rattle.desk_api.proofs.Stating.{there}
use Rattle.desk_api.specs.Grouping.{AreNoted, IsNotedFor}
use Rattle.desk_api.proofs.groups.index_of.Goals as goal

pub loop-number-init : goal.loop-number-init
loop-number-init c =
    let lists = c.in_ok-index.index.items in
    let empty : map (λ (v : Vec ℕ Global). v.items) lists ≡ replicate c.args.count [] = c.in_ok-index.ensures {u = tt} in (
      sym (length-map lists (λ (v : Vec ℕ Global). v.items)) ∙ ap length empty ∙ length-replicate c.args.count [],
      λ rec n. none_noted c.args.count rec n (map (λ (v : Vec ℕ Global). v.items) lists) empty,
    )

pub note_each-requires : goal.note_each-requires
note_each-requires c =
    let groups = c.args.groups.now in
    let at = there groups c.loop-number.number c.index-groups-number.result c.loop-number-test.true c.index-groups-number.is in
    let within = all_at (λ (g : GroupData). AllByRecursion (λ rec. rec < c.args.count) (records_of g.members)) groups c.loop-number.number c.index-groups-number.result c.requires.within at in
    subst (λ (x : ℕ × List ℕ). AllByRecursion (λ rec. rec < x.0) x.1) (λ i. (sym c.loop-number.invariant.0 i, sym c.members.ensures i)) within

pub loop-number-preserved : goal.loop-number-preserved
loop-number-preserved c =
    let groups = c.args.groups.now in
    let group = c.index-groups-number.result in
    let at = there groups c.loop-number.number group c.loop-number-test.true c.index-groups-number.is in
    let seen : List (Vec ℕ Global) → List (List ℕ) = map (λ (v : Vec ℕ Global). v.items) in
    let step : IsNotedFor (records_of group.members) c.loop-number.number (seen c.loop-number.index.items) (seen c.note_each.new.index.items) =
    subst (λ (l : List ℕ). IsNotedFor l c.loop-number.number (seen c.loop-number.index.items) (seen c.note_each.new.index.items)) c.members.ensures (c.in_ok-note_each.ensures {u = tt}).noted in (
      c.note_each.ensures.count ∙ c.loop-number.invariant.0,
      λ rec n. noted_all groups (seen c.loop-number.index.items) (seen c.note_each.new.index.items) c.loop-number.number rec n group at (c.loop-number.invariant.1 rec n) (step rec n),
    )

pub returns : goal.returns
returns c =
    let groups = c.args.groups.now in
    let end : c.loop-number.number ≡ length groups = omega (arith, c.loop-number-test.false, c.loop-number.auto.number-end) in
    let whole : take c.loop-number.number groups ≡ groups = ap (λ (n : ℕ). take n groups) end ∙ take-length groups in
    subst (λ (gs : List GroupData). AreNoted (map (λ (v : Vec ℕ Global). v.items) c.loop-number.index.items) gs) whole c.loop-number.invariant.1
