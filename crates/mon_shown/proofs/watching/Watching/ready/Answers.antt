use Rattle.std.proofs.Common.{◌∙◌, sym, ap, subst}
use Rattle.std.proofs.lemmas.Bool.{false≢true}
use Rattle.std.specs.Ordering.{nat_cmp}
use Rattle.std.specs.FinSet.{FinSet, contains}
use Rattle.pvd_value.specs.View.{view}
use Rattle.pvd_value.specs.LeafValues.{leaf_values, differing_in}
use Rattle.mon_queue.specs.Runs.{posted}
use Rattle.mon_queue.specs.Told.{are_leaves}
use Rattle.mon_queue.specs.Unread.{type_of}
use Rattle.mon_shown.specs.Channels.{triggered}
use Rattle.mon_shown.specs.Keeping.{ShowsWith}
use Rattle.mon_shown.proofs.Kept.{ready_untouched, ready_same, ready_posted, news_leaves}
use Rattle.mon_shown.proofs.watching.Watching.ready.Goals as goal

pub returns-then-is_empty-clause-ready : goal.returns-then-is_empty-clause-ready
returns-then-is_empty-clause-ready g c =
    ready_untouched (g.V.Views.shows c.args.views.now) c.args.states.now c.args.entry.now c.args.self.now (sym c.in_ok-anew.ensures ∙ c.is_empty.ensures.0 c.if-is_empty.true)

pub returns-then-is_empty-2-clause-ready : goal.returns-then-is_empty-2-clause-ready
returns-then-is_empty-2-clause-ready g c =
    let x = c.args.self.now in
    let v = view c.in_ok-value.value in
    let found = c.in-Ok.ensures ∙ (λ i. differing_in (c.in_ok-anew.ensures i) (leaf_values (c.ty.ensures i) (view (c.value.ensures i))) (leaf_values (c.ty.ensures i) (view (c.value-2.ensures i)))) in
    ready_same (g.V.Views.shows c.args.views.now) c.args.states.now c.args.entry.now x v
    (λ j inside. c.in_ok-value.ensures.view.shown j (ap (λ (m : FinSet nat_cmp). contains m j) c.in_ok-anew.ensures ∙ inside))
    (sym found ∙ c.is_empty-in-Ok.ensures.0 c.if-is_empty-2.true)

pub post-requires-clause-leaves : goal.post-requires-clause-leaves
post-requires-clause-leaves g c =
    let x = c.args.self.now in
    let shows = g.V.Views.shows c.args.views.now in
    let v = view c.in_ok-value.value in
    let found = c.in-Ok.ensures ∙ (λ i. differing_in (c.in_ok-anew.ensures i) (leaf_values (c.ty.ensures i) (view (c.value.ensures i))) (leaf_values (c.ty.ensures i) (view (c.value-2.ensures i)))) in
    ap (are_leaves (type_of x.queue)) found
    ∙ news_leaves (type_of x.queue) (triggered (shows x.channel).triggers c.args.entry.now.writes) x.requested (leaf_values (type_of x.queue) (view x.shown)) (leaf_values (type_of x.queue) v) x.leaves

pub returns-in-Ok-post-clause-ready : goal.returns-in-Ok-post-clause-ready
returns-in-Ok-post-clause-ready g c =
    let x = c.args.self.now in
    let t = type_of x.queue in
    let v = view c.in_ok-value.value in
    let r = c.in-Ok-post.ready in
    let found = c.in-Ok.ensures ∙ (λ i. differing_in (c.in_ok-anew.ensures i) (leaf_values (c.ty.ensures i) (view (c.value.ensures i))) (leaf_values (c.ty.ensures i) (view (c.value-2.ensures i)))) in
    ready_posted (g.V.Views.shows c.args.views.now) c.args.states.now c.args.entry.now x v
    (λ j inside. c.in_ok-value.ensures.view.shown j (ap (λ (m : FinSet nat_cmp). contains m j) c.in_ok-anew.ensures ∙ inside))
    r
    (λ z. false≢true (sym c.if-is_empty-2.false ∙ c.is_empty-in-Ok.ensures.1 (found ∙ z)))
    (subst (λ (m : FinSet nat_cmp). ShowsWith t x.requested m (view x.shown) v (view r.shown)) found c.in-Ok-post.ensures.shown)
    (c.in-Ok-post.ensures.post ∙ ap (λ (m : FinSet nat_cmp). posted m (leaf_values t v)) found)
    c.in-Ok-post.ensures.may
