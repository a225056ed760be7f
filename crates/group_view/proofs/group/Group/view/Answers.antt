use Rattle.std.proofs.Common.{◌≡◌, sym, ap, ◌∙◌, subst}
use Rattle.pvd_value.specs.Data.{Data, members}
use Rattle.pvd_value.specs.Fits.{fits_of}
use Rattle.group_view.specs.Groups.{GroupData, HasState}
use Rattle.group_view.specs.Seen.{slots_seen}
use Rattle.group_view.specs.Slots.{level, structure_of, EachOfShown}
use Rattle.group_view.specs.Types.{group_tree}
use Rattle.group_view.specs.Views.{slots_shown}
use Rattle.group_view.proofs.Keeping.{view_struct, slots_ready_for, shown_is, shown_fits}
use Rattle.group_view.proofs.group.Group.view.Goals as goal

pub values_of-requires : goal.values_of-requires
values_of-requires c =
    let g = c.args.self.now in
    let slots = slots_seen c.self.inside.slots.items in
    let structure = subst (λ (g : GroupData). level g.id slots ≡ structure_of g) c.self.view_is c.self.invariant.0.structure in
    subst (λ ns. EachOfShown (λ s. HasState c.args.states.now s.link) (slots_seen ns)) (sym c.deref.ensures.value) (slots_ready_for g slots structure c.args.states.now c.requires)

pub returns-clause-shown : goal.returns-clause-shown
returns-clause-shown c =
    let g = c.args.self.now in
    let slots = slots_seen c.self.inside.slots.items in
    let structure = subst (λ (g : GroupData). level g.id slots ≡ structure_of g) c.self.view_is c.self.invariant.0.structure in
    view_struct c.in_ok-values_of.field-0 ∙ ap members c.in_ok-values_of.ensures
    ∙ ap (λ ns. members (slots_shown c.args.states.now (slots_seen ns))) c.deref.ensures.value
    ∙ shown_is g slots structure c.args.states.now

pub returns-clause-fits : goal.returns-clause-fits
returns-clause-fits c =
    let g = c.args.self.now in
    let slots = slots_seen c.self.inside.slots.items in
    let structure = subst (λ (g : GroupData). level g.id slots ≡ structure_of g) c.self.view_is c.self.invariant.0.structure in
    ap (λ (d : Data). fits_of 16 d (group_tree g))
    (view_struct c.in_ok-values_of.field-0 ∙ ap members c.in_ok-values_of.ensures
    ∙ ap (λ ns. members (slots_shown c.args.states.now (slots_seen ns))) c.deref.ensures.value
    ∙ shown_is g slots structure c.args.states.now)
    ∙ shown_fits g slots structure c.args.states.now c.requires
