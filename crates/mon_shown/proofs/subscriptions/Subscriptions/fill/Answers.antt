use Rattle.std.proofs.Common.{◌∙◌, refl}
use Rattle.mon_shown.proofs.Standing.{stand_kept, kinds_stay, stand_filled, stand_freed, free_unlisted, others_trans}
use Rattle.mon_shown.proofs.subscriptions.Subscriptions.fill.Goals as goal

pub returns-in_default-clause-stand : goal.returns-in_default-clause-stand
returns-in_default-clause-stand g c =
    stand_kept (g.V.Views.has c.args.views.now) (g.V.Views.shows c.args.views.now) _ _ refl (kinds_stay c.args.self.now.slots.items c.make_room.new.slots.items c.make_room.ensures.same) c.requires.stand

pub note-requires-clause-free : goal.note-requires-clause-free
note-requires-clause-free g c = free_unlisted (g.V.Views.has c.args.views.now) (g.V.Views.shows c.args.views.now) c.args.self.now c.args.slot c.requires.stand c.requires.free

pub returns-in-Ok-note-clause-others : goal.returns-in-Ok-note-clause-others
returns-in-Ok-note-clause-others g c = λ s ne. c.put_at.ensures.others s ne ∙ c.make_room.ensures.same s

pub returns-in-Ok-note-clause-stand : goal.returns-in-Ok-note-clause-stand
returns-in-Ok-note-clause-stand g c =
    stand_filled (g.V.Views.has c.args.views.now) (g.V.Views.shows c.args.views.now) c.args.self.now _ c.args.slot c.requires.stand c.note.ensures.others (λ s ne. c.put_at.ensures.others s ne ∙ c.make_room.ensures.same s) c.args.watching
    c.put_at.ensures.there c.requires.is_of c.in-Ok-note.ensures.ok

pub returns-in-Err-clause-stand : goal.returns-in-Err-clause-stand
returns-in-Err-clause-stand g c =
    stand_freed (g.V.Views.has c.args.views.now) (g.V.Views.shows c.args.views.now) c.args.self.now _ c.args.slot c.requires.stand (others_trans c.args.self.now.index c.note.new.index c.forget.new.index c.args.slot c.note.ensures.others c.forget.ensures.others)
    (λ s ne. c.make_room.ensures.same s) (c.make_room.ensures.same c.args.slot ∙ c.requires.free) c.forget.ensures.gone
