use Rattle.std.proofs.Common.{◌∙◌, Option, refl, sym, subst}
use Rattle.mon_shown.specs.Slots.{slot_of}
use Rattle.mon_shown.specs.declared.watching.Watching.{Watching}
use Rattle.mon_shown.proofs.Listing.{untriggered}
use Rattle.mon_shown.proofs.Standing.{SameKind, stand_kept, kinds_at, stand_freed, listed_for}
use Rattle.mon_shown.proofs.subscriptions.Subscriptions.clear.Goals as goal

pub returns-in_default-clause-stand : goal.returns-in_default-clause-stand
returns-in_default-clause-stand g c =
    stand_kept (g.V.Views.has c.args.views.now) (g.V.Views.shows c.args.views.now) _ _ refl
    (kinds_at c.args.self.now.slots.items c.take_out.new.slots.items c.args.slot
    (subst (λ (o : Option (Watching g.row.C.Denot)). SameKind o (slot_of c.take_out.new.slots.items c.args.slot)) (sym c.in_default.is ∙ c.take_out.ensures.was) c.take_out.ensures.there) c.take_out.ensures.others)
    c.requires

pub forget-requires-clause-there : goal.forget-requires-clause-there
forget-requires-clause-there g c = (c.requires.is_of c.args.slot c.in-Some.watching (sym c.take_out.ensures.was ∙ c.in-Some.is)).there

pub forget-requires-clause-within : goal.forget-requires-clause-within
forget-requires-clause-within g c = λ rec none.
    let x = c.in-Some.watching in
    let shows = g.V.Views.shows c.args.views.now in
    listed_for (g.V.Views.has c.args.views.now) shows c.args.self.now c.args.slot x c.requires (sym c.take_out.ensures.was ∙ c.in-Some.is) rec ∙ untriggered (shows x.channel) x.requested rec none

pub returns-clause-stand : goal.returns-clause-stand
returns-clause-stand g c =
    stand_freed (g.V.Views.has c.args.views.now) (g.V.Views.shows c.args.views.now) c.args.self.now _ c.args.slot c.requires c.forget.ensures.others c.take_out.ensures.others c.take_out.ensures.there c.forget.ensures.gone
