use Rattle.std.proofs.Common.{◌∙◌, Option, None, sym, subst}
use Rattle.std.specs.Prelude.{IfOk}
use Rattle.std.proofs.lemmas.List.{get_or_default}
use Rattle.mon_shown.specs.Slots.{SlotReady}
use Rattle.mon_shown.specs.declared.watching.Watching.{Watching}
use Rattle.mon_shown.proofs.subscriptions.Subscriptions.ready_at.Goals as goal

pub ready_slot-requires-clause-is_of : goal.ready_slot-requires-clause-is_of
ready_slot-requires-clause-is_of g c = λ x is.
    c.requires.stand.is_of c.args.slot x (sym (c.index-place.ensures ∙ get_or_default c.args.self.now.slots.items c.args.slot c.index-place.result.now None c.requires.within) ∙ is)

pub ready_slot-requires-clause-ready : goal.ready_slot-requires-clause-ready
ready_slot-requires-clause-ready g c = λ x is.
    c.requires.ready c.args.slot x (sym (c.index-place.ensures ∙ get_or_default c.args.self.now.slots.items c.args.slot c.index-place.result.now None c.requires.within) ∙ is)

pub returns-clause-ready : goal.returns-clause-ready
returns-clause-ready g c =
    subst (λ (o : Option (Watching g.row.C.Denot)). IfOk c.ready_slot.result (SlotReady (g.V.Views.shows c.args.views.now) c.args.states.now c.args.entry.now o))
    (c.index-place.ensures ∙ get_or_default c.args.self.now.slots.items c.args.slot c.index-place.result.now None c.requires.within)
    c.ready_slot.ensures.ready
