use Rattle.std.proofs.Common.{◌<◌, ◌∙◌, Option, Some, None, length, set, sym, subst, arith, refl}
use Rattle.std.proofs.lemmas.List.{get_or-set_same, get_or-set_other, get_or_default, length-set}
use Rattle.mon_shown.specs.Slots.{slot_of, SlotMay, SlotTook}
use Rattle.mon_shown.specs.declared.watching.Watching.{Watching}
use Rattle.mon_shown.proofs.Standing.{at_past}
use Rattle.mon_shown.proofs.posting.take_at.Goals as goal

pub returns-then-at-len-clause-own : goal.returns-then-at-len-clause-own
returns-then-at-len-clause-own g c =
    subst (λ (o : Option (Watching g.row.C.Denot)). SlotTook o (Some c.args.ready) o) (sym (at_past c.args.slots.now.items c.args.at (omega (arith, c.if-at-len.true, c.len.ensures)))) refl

pub take_slot-requires : goal.take_slot-requires
take_slot-requires g c =
    let slots = c.args.slots.now.items in
    let within : c.args.at < length slots = omega (arith, c.if-at-len.false, c.len.ensures) in
    subst (λ (o : Option (Watching g.row.C.Denot)). SlotMay o (Some c.args.ready)) (sym (c.index_mut.ensures.value ∙ get_or_default slots c.args.at c.index_mut.result.now None within)) c.requires

pub returns-clause-own : goal.returns-clause-own
returns-clause-own g c =
    let slots = c.args.slots.now.items in
    let within : c.args.at < length slots = omega (arith, c.if-at-len.false, c.len.ensures) in
    subst (λ (o : Option (Watching g.row.C.Denot)). SlotTook o (Some c.args.ready) (slot_of (set slots c.args.at c.take_slot.new.slot) c.args.at)) (c.index_mut.ensures.value ∙ get_or_default slots c.args.at c.index_mut.result.now None within)
    (subst (λ (o : Option (Watching g.row.C.Denot)). SlotTook c.index_mut.result.now (Some c.args.ready) o) (sym (get_or-set_same slots c.args.at c.take_slot.new.slot None within)) c.take_slot.ensures)

pub returns-clause-others : goal.returns-clause-others
returns-clause-others g c = λ s ne. get_or-set_other c.args.slots.now.items c.args.at s c.take_slot.new.slot None ne

pub returns-clause-count : goal.returns-clause-count
returns-clause-count g c = length-set c.args.slots.now.items c.args.at c.take_slot.new.slot
