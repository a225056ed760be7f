use Rattle.std.proofs.Common.{◌≡◌, ◌<◌, ◌∙◌, Option, Some, None, length, set, sym, subst, arith, refl}
use Rattle.std.proofs.lemmas.List.{get_or-set_same, get_or-set_other, get_or_default, length-set}
use Rattle.mon_shown.specs.Slots.{slot_of, SlotPopped}
use Rattle.mon_shown.specs.declared.watching.Watching.{Watching}
use Rattle.std.specs.Prelude.{IfSome}
use Rattle.mon_queue.specs.Told.{IsUpdateOf}
use Rattle.mon_queue.specs.Unread.{type_of}
use Rattle.mon_shown.proofs.Standing.{at_past}
use Rattle.mon_shown.proofs.slots.pop_at.Goals as goal

pub returns-then-at-len-clause-popped : goal.returns-then-at-len-clause-popped
returns-then-at-len-clause-popped g c =
    subst (λ (o : Option (Watching g.row.C.Denot)). SlotPopped o None o) (sym (at_past c.args.slots.now.items c.args.at (omega (arith, c.if-at-len.true, c.len.ensures)))) (refl, refl)

pub returns-clause-popped : goal.returns-clause-popped
returns-clause-popped g c =
    let slots = c.args.slots.now.items in
    let within : c.args.at < length slots = omega (arith, c.if-at-len.false, c.len.ensures) in
    subst (λ (o : Option (Watching g.row.C.Denot)). SlotPopped o c.pop_slot.result (slot_of (set slots c.args.at c.pop_slot.new.slot) c.args.at)) (c.index_mut.ensures.value ∙ get_or_default slots c.args.at c.index_mut.result.now None within)
    (subst (λ (o : Option (Watching g.row.C.Denot)). SlotPopped c.index_mut.result.now c.pop_slot.result o) (sym (get_or-set_same slots c.args.at c.pop_slot.new.slot None within)) c.pop_slot.ensures.popped)

pub returns-clause-update : goal.returns-clause-update
returns-clause-update g c =
    let slots = c.args.slots.now.items in
    let within : c.args.at < length slots = omega (arith, c.if-at-len.false, c.len.ensures) in
    subst (λ (o : Option (Watching g.row.C.Denot)). IfSome c.pop_slot.result (λ u. (x : Watching g.row.C.Denot) → o ≡ Some x → IsUpdateOf (type_of x.queue) u)) (c.index_mut.ensures.value ∙ get_or_default slots c.args.at c.index_mut.result.now None within) c.pop_slot.ensures.update

pub returns-clause-others : goal.returns-clause-others
returns-clause-others g c = λ s ne. get_or-set_other c.args.slots.now.items c.args.at s c.pop_slot.new.slot None ne

pub returns-clause-count : goal.returns-clause-count
returns-clause-count g c = length-set c.args.slots.now.items c.args.at c.pop_slot.new.slot
