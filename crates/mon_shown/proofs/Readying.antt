-- What an entry changes of what is kept.
use Rattle.std.proofs.Common.{◌≡◌, ℕ, Bool, true, false, cond, not, ◌&&◌, List, [], ◌∷◌, map, Option, None, Some, refl, sym, ap, ◌∙◌}
use Rattle.std.specs.Prelude.{◌==◌}
use Rattle.std.proofs.Math.Path.{fun_ext}
use Rattle.std.proofs.lemmas.Bool.{eqb-true, false≢true}
use Rattle.std.specs.Ordering.{nat_cmp}
use Rattle.std.specs.FinSet.{FinSet, contains, empty, len, empty_of_len, len-empty}
use Rattle.pvd_type.specs.Tree.{Tree}
use Rattle.pvd_value.specs.Data.{Data}
use Rattle.pvd_value.specs.Leaves.{leaf_at}
use Rattle.pvd_value.specs.View.{view}
use Rattle.pvd_value.specs.Same.{same_slot}
use Rattle.pvd_value.specs.LeafValues.{LeafValues, leaf_values, over, differing_in}
use Rattle.mon_shown.specs.Keeping.{SameUnder, ShowsWith}
use Rattle.mon_queue.specs.Runs.{Posted, posted, Run, update_of}
use Rattle.mon_queue.specs.Merged.{told_with}
use Rattle.mon_queue.specs.Shown.{Watch, Scene, seen, anew, next_scene, news, posts_by}
use Rattle.mon_queue.specs.Course.{with_posts}
use Rattle.mon_queue.proofs.Merging.{same, in_retain, in_none, added_is}
use Rattle.pvd_value.proofs.Sameness.{same_data-Decides}

slot_is : (x y : Option Data) → same_slot x y ≡ true → x ≡ y
slot_is None None h = refl
slot_is None (Some y) h = absurd (false≢true h)
slot_is (Some x) None h = absurd (false≢true h)
slot_is (Some x) (Some y) h = ap Some ((same_data-Decides x y).0 h)

-- nothing but the leaves that differ is new
over_differing : (mask : FinSet nat_cmp) (old view : LeafValues) → over (differing_in mask old (over mask old view)) old (over mask old view) ≡ over mask old view
over_differing mask old view = fun_ext (λ k.
    ap (λ (b : Bool). cond b (over mask old view k) (old k)) (in_retain mask (λ j. not (same_slot (old j) (over mask old view j))) k)
    ∙ step (contains mask k) (old k) (view k) (same_slot (old k) (cond (contains mask k) (view k) (old k))) refl)
  where
    step : (m : Bool) (x y : Option Data) (d : Bool) → same_slot x (cond m y x) ≡ d → cond (m && not d) (cond m y x) x ≡ cond m y x
    step true x y true h = slot_is x y h
    step true x y false h = refl
    step false x y d h = refl

-- Values that are the same under a mask have the same post, and differ from a third in the same leaves.

pub posted_same : (mask : FinSet nat_cmp) (a b : LeafValues) → SameUnder mask a b → posted mask a ≡ posted mask b
posted_same mask a b agree = λ i. record { mask = mask; leaves = fun_ext (λ k. step k (contains mask k) refl) i }
  where
    step : (k : ℕ) (m : Bool) → contains mask k ≡ m → cond m (a k) None ≡ cond m (b k) None
    step k true h = agree k h
    step k false h = refl

pub differing_same : (mask : FinSet nat_cmp) (a b v : LeafValues) → SameUnder mask a b → differing_in mask a v ≡ differing_in mask b v
differing_same mask a b v agree = same (differing_in mask a v) (differing_in mask b v) (λ k.
    in_retain mask (λ j. not (same_slot (a j) (v j))) k ∙ step k (contains mask k) refl ∙ sym (in_retain mask (λ j. not (same_slot (b j) (v j))) k))
  where
    step : (k : ℕ) (m : Bool) → contains mask k ≡ m → (m && not (same_slot (a k) (v k))) ≡ (m && not (same_slot (b k) (v k)))
    step k true h = ap (λ (x : Option Data). not (same_slot x (v k))) (agree k h)
    step k false h = refl

-- Where a value differs from what is shown in these leaves of those that it was compared in, and all that were asked for are among them, it
-- shows what was shown with them.
pub shows_itself : (t : Tree) (requested compared mask : FinSet nat_cmp) (shown v : Data) → ((k : ℕ) → contains requested k ≡ true → contains compared k ≡ true)
    → mask ≡ differing_in compared (leaf_values t shown) (leaf_values t v) → ShowsWith t requested mask shown v v
shows_itself t requested compared mask shown v within is k asked =
    sym (ap (λ (b : Bool). cond b (leaf_at k t v) (leaf_at k t shown)) (ap (λ (m : FinSet nat_cmp). contains m k) is ∙ in_retain compared (λ j. not (same_slot (leaf_at j t shown) (leaf_at j t v))) k
    ∙ ap (λ (b : Bool). b && not (same_slot (leaf_at k t shown) (leaf_at k t v))) (within k asked))
    ∙ step (leaf_at k t shown) (leaf_at k t v) (same_slot (leaf_at k t shown) (leaf_at k t v)) refl)
  where
    step : (x y : Option Data) (d : Bool) → same_slot x y ≡ d → cond (not d) y x ≡ y
    step x y true h = slot_is x y h
    step x y false h = refl

module _ {State Entry : Type 0} (w : Watch State Entry) (s : Scene State) (e : Entry) where
  abbrev new : LeafValues
  new = seen w (w.next s.state e)

  -- a value that agrees with the view under the leaves that are taken anew
  abbrev pub Agrees : LeafValues → Type 0
  Agrees v = (k : ℕ) → contains (anew w e) k ≡ true → v k ≡ new k

  -- it has the same news
  pub news_is : (v : LeafValues) → Agrees v → differing_in (anew w e) s.shown v ≡ news w s e
  news_is v agrees = same (differing_in (anew w e) s.shown v) (news w s e) (λ k.
      in_retain (anew w e) (λ j. not (same_slot (s.shown j) (v j))) k
      ∙ step k (contains (anew w e) k) refl
      ∙ sym (in_retain (anew w e) (λ j. not (same_slot (s.shown j) ((next_scene w s e).shown j))) k))
    where
      step : (k : ℕ) (m : Bool) → contains (anew w e) k ≡ m → (m && not (same_slot (s.shown k) (v k))) ≡ (m && not (same_slot (s.shown k) (cond m (new k) (s.shown k))))
      step k true h = ap (λ (x : Option Data). not (same_slot (s.shown k) x)) (agrees k h)
      step k false h = refl

  -- over the leaves of the news it gives the same as what is shown then
  pub over_news : (v x : LeafValues) → Agrees v → over (news w s e) x v ≡ over (news w s e) x (next_scene w s e).shown
  over_news v x agrees = fun_ext (λ k.
      let is = in_retain (anew w e) (λ j. not (same_slot (s.shown j) ((next_scene w s e).shown j))) k in
      ap (λ (b : Bool). cond b (v k) (x k)) is
      ∙ step k (contains (anew w e) k) (not (same_slot (s.shown k) ((next_scene w s e).shown k))) refl
      ∙ ap (λ (b : Bool). cond b ((next_scene w s e).shown k) (x k)) (sym is))
    where
      step : (k : ℕ) (m n : Bool) → contains (anew w e) k ≡ m → cond (m && n) (v k) (x k) ≡ cond (m && n) (cond m (new k) (s.shown k)) (x k)
      step k true true h = agrees k h
      step k true false h = refl
      step k false n h = refl

  pub news_show : over (news w s e) s.shown (next_scene w s e).shown ≡ (next_scene w s e).shown
  news_show = over_differing (anew w e) s.shown new

  -- without news nothing is posted, and what is shown stays
  pub no_post : news w s e ≡ empty → posts_by w s e ≡ []
  no_post none = ap (λ (n : ℕ). cond (n == 0) [] (posted (news w s e) (next_scene w s e).shown ∷ [])) (ap len none ∙ len-empty nat_cmp)

  pub no_change : news w s e ≡ empty → (next_scene w s e).shown ≡ s.shown
  no_change none = sym news_show ∙ fun_ext (λ k.
      ap (λ (t : FinSet nat_cmp). cond (contains t k) ((next_scene w s e).shown k) (s.shown k)) none
      ∙ ap (λ (b : Bool). cond b ((next_scene w s e).shown k) (s.shown k)) (in_none k))

  pub no_news : anew w e ≡ empty → news w s e ≡ empty
  no_news none = same (news w s e) empty (λ k.
      in_retain (anew w e) (λ j. not (same_slot (s.shown j) ((next_scene w s e).shown j))) k
      ∙ ap (λ (t : FinSet nat_cmp). contains t k && not (same_slot (s.shown k) ((next_scene w s e).shown k))) none
      ∙ ap (λ (b : Bool). b && not (same_slot (s.shown k) ((next_scene w s e).shown k))) (in_none k)
      ∙ sym (in_none k))

  -- with news there is one post
  pub one_post : (news w s e ≡ empty → ⊥) → posts_by w s e ≡ posted (news w s e) (next_scene w s e).shown ∷ []
  one_post some = step (len (news w s e) == 0) refl
    where
      step : (b : Bool) → (len (news w s e) == 0) ≡ b → cond b [] (posted (news w s e) (next_scene w s e).shown ∷ []) ≡ posted (news w s e) (next_scene w s e).shown ∷ []
      step true h = absurd (some (empty_of_len (news w s e) (eqb-true (len (news w s e)) 0 h)))
      step false h = refl

  -- the updates of the runs with the posts of the entry
  pub silent_runs : (size : ℕ) (runs : List Run) → news w s e ≡ empty → map update_of (with_posts size runs (posts_by w s e)) ≡ map update_of runs
  silent_runs size runs none = ap (λ (ps : List Posted). map update_of (with_posts size runs ps)) (no_post none)

  pub post_runs : (size : ℕ) (runs : List Run) → (news w s e ≡ empty → ⊥)
      → map update_of (with_posts size runs (posts_by w s e)) ≡ told_with size (map update_of runs) (posted (news w s e) (next_scene w s e).shown)
  post_runs size runs some =
      ap (λ (ps : List Posted). map update_of (with_posts size runs ps)) (one_post some)
      ∙ added_is size runs (posted (news w s e) (next_scene w s e).shown)
