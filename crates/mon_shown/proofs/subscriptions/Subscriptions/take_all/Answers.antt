use Rattle.std.proofs.Common.{◌≡◌, [], refl, subst, arith}
use Rattle.mon_shown.proofs.Standing.{stand_kept, took_kind}
use Rattle.mon_shown.proofs.Taking.{IsTaking, taking_starts, may_take, taking_step, taken_all, none_left}
use Rattle.mon_shown.proofs.subscriptions.Subscriptions.take_all.Goals as goal

pub take_at-requires : goal.take_at-requires
take_at-requires g c =
    may_take c.args.self.now.slots.items c.loop-slot.self.slots.items c.loop-slot.self.slots.items c.args.ready.readies.items c.loop-slot.readies.items c.pop.new.self.items c.in-Some.slot c.in-Some.one c.loop-slot.invariant.1
    c.in-Some.ensures.items c.requires

pub loop-slot-init : goal.loop-slot-init
loop-slot-init g c = (refl, taking_starts c.args.self.now.slots.items c.args.ready.readies.items c.args.ready.apart)

pub loop-slot-preserved : goal.loop-slot-preserved
loop-slot-preserved g c = (
  c.loop-slot.invariant.0,
  taking_step c.args.self.now.slots.items c.loop-slot.self.slots.items c.take_at.new.slots.items c.args.ready.readies.items c.loop-slot.readies.items c.pop.new.self.items c.in-Some.slot c.in-Some.one c.loop-slot.invariant.1
      c.in-Some.ensures.items c.take_at.ensures.own c.take_at.ensures.others,
)

pub returns-clause-took : goal.returns-clause-took
returns-clause-took g c =
    let left = c.loop-slot.readies in
    let none : left.items ≡ [] = none_left left.items (omega (arith, c.in_default.ensures.cases.0, left.ok)) in
    taken_all c.args.self.now.slots.items c.loop-slot.self.slots.items c.args.ready.readies.items
    (subst (IsTaking c.args.self.now.slots.items c.args.ready.readies.items c.loop-slot.self.slots.items) none c.loop-slot.invariant.1)

pub returns-clause-stand : goal.returns-clause-stand
returns-clause-stand g c = λ has shows t. stand_kept has shows c.args.self.now c.loop-slot.self c.loop-slot.invariant.0 (λ s. took_kind _ _ _ (returns-clause-took g c s)) t
