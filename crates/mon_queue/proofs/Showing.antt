-- The posts of a subscription tell what it is shown.
use Rattle.std.proofs.Common.{◌≡◌, Bool, true, false, cond, not, ◌&&◌, List, [], ◌∷◌, ◌++◌, Option, Some, None, refl, sym, ap, ◌∙◌}
use Rattle.std.specs.Prelude.{◌==◌}
use Rattle.std.proofs.Math.Path.{fun_ext}
use Rattle.std.proofs.lemmas.Bool.{false≢true, eqb-true}
use Rattle.std.specs.Ordering.{nat_cmp}
use Rattle.std.specs.FinSet.{FinSet, contains, len, empty_of_len}
use Rattle.pvd_value.specs.Data.{Data}
use Rattle.pvd_value.specs.Same.{same_slot}
use Rattle.pvd_value.proofs.Sameness.{same_data-Decides}
use Rattle.pvd_value.specs.LeafValues.{LeafValues, nothing, over, differing_in}
use Rattle.mon_queue.specs.Runs.{Posted, posted}
use Rattle.mon_queue.specs.Shown.{Watch, Scene, blank, seen, anew, first_scene, next_scene, scene_after, first_post, news, posts_by, posts_after}
use Rattle.mon_queue.proofs.Merging.{in_retain, in_none}
use Rattle.mon_queue.proofs.Folding.{showing}

slot_is : (x y : Option Data) → same_slot x y ≡ true → x ≡ y
slot_is None None h = refl
slot_is None (Some y) h = absurd (false≢true h)
slot_is (Some x) None h = absurd (false≢true h)
slot_is (Some x) (Some y) h = ap Some ((same_data-Decides x y).0 h)

-- nothing but the leaves that differ is new
over_differing : (mask : FinSet nat_cmp) (old view : LeafValues) → over (differing_in mask old (over mask old view)) old (over mask old view) ≡ over mask old view
over_differing mask old view = fun_ext (λ k.
    ap (λ (b : Bool). cond b (over mask old view k) (old k)) (in_retain mask (λ j. not (same_slot (old j) (over mask old view j))) k)
    ∙ step (contains mask k) (old k) (view k) (same_slot (old k) (cond (contains mask k) (view k) (old k))) refl)
  where
    step : (m : Bool) (x y : Option Data) (d : Bool) → same_slot x (cond m y x) ≡ d → cond (m && not d) (cond m y x) x ≡ cond m y x
    step true x y true h = slot_is x y h
    step true x y false h = refl
    step false x y d h = refl

-- what a post's value is outside its mask doesn't count
over_post : (mask : FinSet nat_cmp) (old new : LeafValues) → over mask old (over mask nothing new) ≡ over mask old new
over_post mask old new = fun_ext (λ k. step (contains mask k) (old k) (new k))
  where
    step : (m : Bool) (x y : Option Data) → cond m (cond m y None) x ≡ cond m y x
    step true x y = refl
    step false x y = refl

over_none : (mask : FinSet nat_cmp) (old new : LeafValues) → len mask ≡ 0 → over mask old new ≡ old
over_none mask old new none = fun_ext (λ k. ap (λ (s : FinSet nat_cmp). cond (contains s k) (new k) (old k)) (empty_of_len mask none) ∙ ap (λ (b : Bool). cond b (new k) (old k)) (in_none k))

pub showing_append : (ps qs : List Posted) (v : LeafValues) → showing v (ps ++ qs) ≡ showing (showing v ps) qs
showing_append [] qs v = refl
showing_append (p ∷ ps) qs v = showing_append ps qs (over p.mask v p.leaves)

showing_unless : (mask : FinSet nat_cmp) (old new : LeafValues) → showing old (cond (len mask == 0) [] (posted mask new ∷ [])) ≡ over mask old new
showing_unless mask old new = step (len mask == 0) refl
  where
    step : (b : Bool) → (len mask == 0) ≡ b → showing old (cond b [] (posted mask new ∷ [])) ≡ over mask old new
    step true h = sym (over_none mask old new (eqb-true (len mask) 0 h))
    step false h = over_post mask old new

module _ {State Entry : Type 0} (w : Watch State Entry) where
  showing_by : (x : Scene State) (e : Entry) → showing x.shown (posts_by w x e) ≡ (next_scene w x e).shown
  showing_by x e = showing_unless (news w x e) x.shown (next_scene w x e).shown ∙ over_differing (anew w e) x.shown (seen w (w.next x.state e))

  -- The posts, merged in order into what was shown before them, are what is shown after them.
  pub posts_show : (x : Scene State) (entries : List Entry) → showing x.shown (posts_after w x entries) ≡ (scene_after w x entries).shown
  posts_show x [] = refl
  posts_show x (e ∷ entries) =
      showing_append (posts_by w x e) (posts_after w (next_scene w x e) entries) x.shown
      ∙ ap (λ (v : LeafValues). showing v (posts_after w (next_scene w x e) entries)) (showing_by x e)
      ∙ posts_show (next_scene w x e) entries

  -- and the first post shows the beginning
  pub first_shows : (s : State) → over w.requested (blank w) (first_post w s).leaves ≡ (first_scene w s).shown
  first_shows s = over_post w.requested (blank w) (first_scene w s).shown ∙ fun_ext (λ k. step (contains w.requested k) (blank w k) (seen w s k))
    where
      step : (m : Bool) (x y : Option Data) → cond m (cond m y x) x ≡ cond m y x
      step true x y = refl
      step false x y = refl

  pub scene_append : (x : Scene State) (xs ys : List Entry) → scene_after w x (xs ++ ys) ≡ scene_after w (scene_after w x xs) ys
  scene_append x [] ys = refl
  scene_append x (e ∷ xs) ys = scene_append (next_scene w x e) xs ys
