-- What is kept of a subscription over its beginning and an entry.
use Rattle.std.proofs.Common.{◌≡◌, ℕ, Bool, true, false, cond, not, ◌&&◌, List, [], ◌∷◌, map, Option, None, Some, refl, sym, ap, ◌∙◌}
use Rattle.std.specs.Ordering.{nat_cmp}
use Rattle.std.specs.Cmp.{nat_cmp_total}
use Rattle.std.specs.FinSet.{FinSet, contains, empty, intersection, is_subset-contains, contains-is_subset}
use Rattle.pvd_type.specs.Tree.{Tree}
use Rattle.pvd_value.specs.Same.{same_slot}
use Rattle.mon_queue.specs.Told.{are_leaves}
use Rattle.mon_queue.proofs.Merging.{in_retain, in_both}
use Rattle.pvd_value.specs.Data.{Data}
use Rattle.pvd_value.specs.View.{view}
use Rattle.pvd_value.specs.Leaves.{leaf_at}
use Rattle.pvd_value.specs.LeafValues.{LeafValues, nothing, leaf_values, over, differing_in}
use Rattle.rec_kinds.specs.declared.state.RecState.{RecState}
use Rattle.journal_core.specs.declared.entry.Entry.{Entry}
use Rattle.mon_queue.specs.Runs.{Posted, posted, Run, fresh, update_of}
use Rattle.mon_queue.specs.Merged.{told_with}
use Rattle.mon_queue.specs.Unread.{type_of, size_of, Holds, prepared_post}
use Rattle.mon_queue.specs.Shown.{seen, blank, anew, first_scene, first_post, next_scene, news, posts_by}
use Rattle.mon_queue.specs.Course.{with_posts}
use Rattle.mon_shown.specs.Channels.{ChannelView, RecordsWatch, RecordsScene, watch, SeenAlike}
use Rattle.mon_shown.specs.Keeping.{Keeps, SameUnder, ShowsWith, watch_of, MayTake, WillKeep, IsReady, Took}
use Rattle.mon_shown.specs.declared.watching.Watching.{Watching}
use Rattle.mon_shown.specs.declared.watching.Ready.{Ready}
use Rattle.mon_shown.proofs.Readying.{posted_same, differing_same, Agrees, news_is, over_news, news_show, no_change, no_news, silent_runs, post_runs}

-- the leaves that an entry takes anew were asked for
asked_for : (w : RecordsWatch) (e : Entry) (j : ℕ) → contains (anew w e) j ≡ true → contains w.requested j ≡ true
asked_for w e j inside = step (contains (w.triggers e) j) (contains w.requested j) (sym (in_both (w.triggers e) w.requested j) ∙ inside)
  where
    step : (x y : Bool) → (x && y) ≡ true → y ≡ true
    step true y h = h
    step false true h = refl
    step false false h = h

module _ {C : Type 0} (shows : C → ChannelView) (states : List RecState) (e : Entry) (x : Watching C) where
  abbrev w : RecordsWatch
  w = watch_of shows x

  silent : (s : RecordsScene) (runs : List Run) → Keeps w (size_of x.queue) s runs x → news w s e ≡ empty
      → WillKeep (next_scene w s e) (with_posts (size_of x.queue) runs (posts_by w s e)) x None
  silent s runs k none = record {
    shown_is = λ j asked. (λ i. leaf_at j (k.ty_is i) (view x.shown)) ∙ k.shown_is j asked ∙ ap (λ (l : LeafValues). l j) (sym (no_change w s e none));
    unread_is = k.holds ∙ sym (silent_runs w s e (size_of x.queue) runs none);
  }

  -- an entry that takes no requested leaf anew
  pub ready_untouched : anew w e ≡ empty → IsReady shows states e x None
  ready_untouched none = record { may = tt; keeps = λ s runs k alike. silent s runs k (no_news w s e none) }

  -- a value that has the leaves of the view that the entry takes anew
  module _ (v : Data) (agrees : (j : ℕ) → contains (anew w e) j ≡ true → leaf_at j w.ty v ≡ seen w states j) where
    abbrev pub found : FinSet nat_cmp
    found = differing_in (anew w e) (leaf_values (type_of x.queue) (view x.shown)) (leaf_values (type_of x.queue) v)

    module _ (s : RecordsScene) (runs : List Run) (k : Keeps w (size_of x.queue) s runs x) (alike : SeenAlike w (anew w e) states (w.next s.state e)) where
      old_is : SameUnder x.requested (leaf_values (type_of x.queue) (view x.shown)) s.shown
      old_is j asked = (λ i. leaf_at j (k.ty_is i) (view x.shown)) ∙ k.shown_is j asked

      new_is : Agrees w s e (leaf_values (type_of x.queue) v)
      new_is j inside = (λ i. leaf_at j (k.ty_is i) v) ∙ agrees j inside ∙ alike j inside

      found_is : found ≡ news w s e
      found_is =
          differing_same (anew w e) (leaf_values (type_of x.queue) (view x.shown)) s.shown (leaf_values (type_of x.queue) v) (λ j inside. old_is j (asked_for w e j inside))
          ∙ news_is w s e (leaf_values (type_of x.queue) v) new_is

    -- where nothing differs
    pub ready_same : found ≡ empty → IsReady shows states e x None
    ready_same none = record { may = tt; keeps = λ s runs k alike. silent s runs k (sym (found_is s runs k alike) ∙ none) }

    -- the post of the leaves that differ
    pub ready_posted : (r : Ready) → (found ≡ empty → ⊥) → ShowsWith (type_of x.queue) x.requested found (view x.shown) v (view r.shown)
        → prepared_post (type_of x.queue) r.prepared ≡ posted found (leaf_values (type_of x.queue) v) → MayTake x r → IsReady shows states e x (Some r)
    ready_posted r some shows_with post_is may = record {
      may = may;
      keeps = λ s runs k alike.
          let new = new_is s runs k alike in
          let same = found_is s runs k alike in
          let t = next_scene w s e in
          let one : posted found (leaf_values (type_of x.queue) v) ≡ posted (news w s e) t.shown =
          ap (λ (m : FinSet nat_cmp). posted m (leaf_values (type_of x.queue) v)) same
          ∙ (λ i. record { mask = news w s e; leaves = over_news w s e (leaf_values (type_of x.queue) v) nothing new i }) in
          record {
            shown_is = λ j asked.
                shows_with j asked
                ∙ ap (λ (m : FinSet nat_cmp). over m (leaf_values (type_of x.queue) (view x.shown)) (leaf_values (type_of x.queue) v) j) same
                ∙ ap (λ (o : Option Data). cond (contains (news w s e) j) (leaf_at j (type_of x.queue) v) o) (old_is s runs k alike j asked)
                ∙ ap (λ (l : LeafValues). l j) (over_news w s e (leaf_values (type_of x.queue) v) s.shown new ∙ news_show w s e);
            unread_is =
                (λ i. told_with (size_of x.queue) (k.holds i) ((post_is ∙ one) i))
                ∙ sym (post_runs w s e (size_of x.queue) runs (λ z. some (same ∙ z)));
          };
    }

-- what was taken is kept
pub took_keeps : {C : Type 0} (w : RecordsWatch) (size : ℕ) (s t : RecordsScene) (runs more : List Run) (x y : Watching C) (r : Option Ready) → Keeps w size s runs x → WillKeep t more x r → Took x r y → Keeps w size t more y
took_keeps w size s t runs more x y r k will took = record {
  ty_is = took.ty ∙ k.ty_is;
  requested_is = took.requested ∙ k.requested_is;
  size_is = took.size ∙ k.size_is;
  shown_is = λ j asked.
      (λ i. leaf_at j (sym k.ty_is i) (view y.shown)) ∙ ap (λ (l : LeafValues). l j) took.shown_is
      ∙ will.shown_is j (ap (λ (m : FinSet nat_cmp). contains m j) k.requested_is ∙ asked);
  holds = took.unread_is ∙ will.unread_is;
}

pub entry_kept : {C : Type 0} (shows : C → ChannelView) (states : List RecState) (e : Entry) (x y : Watching C) (r : Option Ready) → IsReady shows states e x r → Took x r y
    → (s : RecordsScene) (runs : List Run) → Keeps (watch_of shows x) (size_of x.queue) s runs x → SeenAlike (watch_of shows x) (anew (watch_of shows x) e) states ((watch_of shows x).next s.state e)
    → Keeps (watch_of shows x) (size_of x.queue) (next_scene (watch_of shows x) s e) (with_posts (size_of x.queue) runs (posts_by (watch_of shows x) s e)) y
entry_kept shows states e x y r ready took s runs k alike =
    let w = watch_of shows x in
    took_keeps w (size_of x.queue) s (next_scene w s e) runs (with_posts (size_of x.queue) runs (posts_by w s e)) x y r k (ready.keeps s runs k alike) took

-- the beginning
pub begun : {C : Type 0} (c : ChannelView) (mask : FinSet nat_cmp) (size : ℕ) (states : List RecState) (x : Watching C)
    → type_of x.queue ≡ c.ty → x.requested ≡ mask → size_of x.queue ≡ size
    → ((j : ℕ) → contains mask j ≡ true → leaf_at j c.ty (view x.shown) ≡ leaf_at j c.ty (c.view states))
    → Holds x.queue (fresh (posted mask (leaf_values c.ty (view x.shown))) ∷ [])
    → (at : List RecState) → SeenAlike (watch c mask) mask states at → Keeps (watch c mask) size (first_scene (watch c mask) at) (fresh (first_post (watch c mask) at) ∷ []) x
begun c mask size states x ty requested size_is agrees holds at alike =
    let w = watch c mask in
    let all : SameUnder mask (leaf_values c.ty (view x.shown)) (first_scene w at).shown = λ j asked.
    agrees j asked ∙ alike j asked ∙ sym (ap (λ (b : Bool). cond b (seen w at j) (blank w j)) asked) in
    record {
      ty_is = ty;
      requested_is = requested;
      size_is = size_is;
      shown_is = all;
      holds = holds ∙ ap (λ (p : Posted). map update_of (fresh p ∷ [])) (posted_same mask (leaf_values c.ty (view x.shown)) (first_scene w at).shown all);
    }

-- leaves of those that are asked for are leaves of the type
pub news_leaves : (t : Tree) (a requested : FinSet nat_cmp) (old new : LeafValues) → are_leaves t requested ≡ true → are_leaves t (differing_in (intersection a requested) old new) ≡ true
news_leaves t a requested old new h = contains-is_subset nat_cmp_total _ _ (λ k is.
    is_subset-contains nat_cmp_total requested _ h k
    (step (contains a k) (contains requested k) (not (same_slot (old k) (new k)))
    (sym (in_retain (intersection a requested) (λ j. not (same_slot (old j) (new j))) k ∙ ap (λ (b : Bool). b && not (same_slot (old k) (new k))) (in_both a requested k)) ∙ is)))
  where
    step : (x y z : Bool) → ((x && y) && z) ≡ true → y ≡ true
    step true true z e = refl
    step true false z e = e
    step false true z e = refl
    step false false z e = e
