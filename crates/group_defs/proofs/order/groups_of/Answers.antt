use Rattle.std.proofs.Common.{[], sym, ap, ◌∙◌}
use Rattle.std.proofs.lemmas.Bool.{false≢true}
use Rattle.std.proofs.lemmas.List.{map-append}
use Rattle.json.specs.Value.{value_view, members_view}
use Rattle.json.proofs.Trees.{view-Object}
use Rattle.group_defs.specs.Order.{found_in, objects_in}
use Rattle.group_defs.specs.Shown.{shown_names, shown_groups}
use Rattle.group_defs.proofs.Objects.{with_groups, groups_start, groups_next, groups_done}
use Rattle.group_defs.proofs.Passing.{nothing_left}
use Rattle.group_defs.proofs.order.groups_of.Goals as goal

pub loop-name-init : goal.loop-name-init
loop-name-init c =
    ap (λ gs. found_in (with_groups (shown_groups gs) (objects_in (shown_names c.in_ok-left.left.entries)))) c.new-groups.ensures.items
    ∙ ap (λ es. found_in (with_groups [] (objects_in es))) c.in_ok-left.ensures
    ∙ groups_start (value_view c.args.value.now) (members_view c.in-Object.members.items) (ap value_view c.in-Object.is ∙ view-Object c.in-Object.members)

pub loop-name-preserved : goal.loop-name-preserved
loop-name-preserved c =
    let keys = c.in-Object-group.keys in
    let pushed = ap shown_groups c.in_ok-push.ensures.items ∙ map-append (λ e. (e.0.now, members_view e.1.now.items)) c.loop-name.groups.items _ in
    ap (λ gs. found_in (with_groups gs (objects_in (shown_names c.pop_first.new.self.entries)))) pushed
    ∙ groups_next (shown_groups c.loop-name.groups.items) c.in-Some.name.now (value_view c.in-Some.group.now) (members_view keys.items) (objects_in (shown_names c.pop_first.new.self.entries)) _
    (ap value_view c.in-Object-group.is ∙ view-Object keys)
    (sym (ap (λ es. found_in (with_groups (shown_groups c.loop-name.groups.items) (objects_in (shown_names es)))) c.in-Some.ensures.removal) ∙ c.loop-name.invariant)

pub returns : goal.returns
returns c =
    let none = nothing_left c.loop-name.left.entries (λ h. false≢true (c.in_default-pop_first.ensures.variant.1 h)) in
    sym c.loop-name.invariant ∙ ap (λ es. found_in (with_groups (shown_groups c.loop-name.groups.items) (objects_in (shown_names es)))) none
    ∙ groups_done (shown_groups c.loop-name.groups.items)
