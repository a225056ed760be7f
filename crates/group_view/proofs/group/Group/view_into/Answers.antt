use Rattle.std.proofs.Common.{◌≡◌, ap, ◌∙◌, subst}
use Rattle.pvd_value.specs.View.{view}
use Rattle.group_view.specs.Groups.{GroupData}
use Rattle.group_view.specs.Seen.{slots_seen}
use Rattle.group_view.specs.Slots.{level, structure_of}
use Rattle.group_view.specs.Types.{group_tree}
use Rattle.group_view.proofs.Keeping.{under_is}
use Rattle.group_view.proofs.Parting.{own_fits, own_still, own_measured, own_few, own_shown, own_kept, on_ok}
use Rattle.group_view.proofs.group.Group.view_into.Goals as goal

pub write_level-requires-clause-old_fits : goal.write_level-requires-clause-old_fits
write_level-requires-clause-old_fits c =
    let g = c.args.self.now in
    let ss = slots_seen c.deref.result.now in
    let kept = subst (λ (g : GroupData). level g.id (slots_seen c.self.inside.slots.items) ≡ structure_of g) c.self.view_is c.self.invariant.0.structure in
    let structure : level g.id ss ≡ structure_of g = ap (λ ns. level g.id (slots_seen ns)) c.deref.ensures.value ∙ kept in
    own_fits g ss structure (view c.args.value.now) c.requires.fits

pub write_level-requires-clause-sizes : goal.write_level-requires-clause-sizes
write_level-requires-clause-sizes c =
    let g = c.args.self.now in
    let ss = slots_seen c.deref.result.now in
    let kept = subst (λ (g : GroupData). level g.id (slots_seen c.self.inside.slots.items) ≡ structure_of g) c.self.view_is c.self.invariant.0.structure in
    let structure : level g.id ss ≡ structure_of g = ap (λ ns. level g.id (slots_seen ns)) c.deref.ensures.value ∙ kept in
    let tree = subst (λ (g : GroupData). c.self.inside.ty ≡ group_tree g) c.self.view_is c.self.invariant.0.tree in
    own_measured g ss structure c.sizes.result.now c.self.inside.ty tree c.sizes.ensures.sizes

pub write_level-requires-clause-few : goal.write_level-requires-clause-few
write_level-requires-clause-few c =
    let g = c.args.self.now in
    let ss = slots_seen c.deref.result.now in
    let kept = subst (λ (g : GroupData). level g.id (slots_seen c.self.inside.slots.items) ≡ structure_of g) c.self.view_is c.self.invariant.0.structure in
    let structure : level g.id ss ≡ structure_of g = ap (λ ns. level g.id (slots_seen ns)) c.deref.ensures.value ∙ kept in
    let tree = subst (λ (g : GroupData). c.self.inside.ty ≡ group_tree g) c.self.view_is c.self.invariant.0.tree in
    own_few g ss structure c.self.inside.ty tree c.self.invariant.0.few

pub write_level-requires-clause-ready : goal.write_level-requires-clause-ready
write_level-requires-clause-ready c =
    let g = c.args.self.now in
    let ss = slots_seen c.deref.result.now in
    let kept = subst (λ (g : GroupData). level g.id (slots_seen c.self.inside.slots.items) ≡ structure_of g) c.self.view_is c.self.invariant.0.structure in
    let structure : level g.id ss ≡ structure_of g = ap (λ ns. level g.id (slots_seen ns)) c.deref.ensures.value ∙ kept in
    under_is g ss structure c.args.mask.now c.args.states.now c.requires.ready

pub returns-clause-shown : goal.returns-clause-shown
returns-clause-shown c =
    let g = c.args.self.now in
    let ss = slots_seen c.deref.result.now in
    let kept = subst (λ (g : GroupData). level g.id (slots_seen c.self.inside.slots.items) ≡ structure_of g) c.self.view_is c.self.invariant.0.structure in
    let structure : level g.id ss ≡ structure_of g = ap (λ ns. level g.id (slots_seen ns)) c.deref.ensures.value ∙ kept in
    on_ok c.write_level.result (own_shown g ss structure c.args.mask.now c.args.states.now (view c.args.value.now) _) c.write_level.ensures.shown

pub returns-clause-kept : goal.returns-clause-kept
returns-clause-kept c =
    let g = c.args.self.now in
    let ss = slots_seen c.deref.result.now in
    let kept = subst (λ (g : GroupData). level g.id (slots_seen c.self.inside.slots.items) ≡ structure_of g) c.self.view_is c.self.invariant.0.structure in
    let structure : level g.id ss ≡ structure_of g = ap (λ ns. level g.id (slots_seen ns)) c.deref.ensures.value ∙ kept in
    own_kept g ss structure c.args.mask.now (view c.args.value.now) _ c.requires.fits c.write_level.ensures.fits c.write_level.ensures.kept

pub returns-clause-still : goal.returns-clause-still
returns-clause-still c =
    let g = c.args.self.now in
    let ss = slots_seen c.deref.result.now in
    let kept = subst (λ (g : GroupData). level g.id (slots_seen c.self.inside.slots.items) ≡ structure_of g) c.self.view_is c.self.invariant.0.structure in
    let structure : level g.id ss ≡ structure_of g = ap (λ ns. level g.id (slots_seen ns)) c.deref.ensures.value ∙ kept in
    own_still g ss structure _ c.write_level.ensures.fits
