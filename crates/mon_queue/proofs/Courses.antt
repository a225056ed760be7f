-- At every place a subscription is folded.
use Rattle.std.proofs.Common.{◌≡◌, ℕ, zero, suc, ◌≤◌, List, [], ◌∷◌, ◌++◌, take, drop, map, refl, sym, ap, ◌∙◌, arith}
use Rattle.pvd_value.specs.LeafValues.{LeafValues}
use Rattle.mon_queue.specs.Runs.{update_of, folded}
use Rattle.mon_queue.specs.Shown.{Scene, blank, first_scene, first_post, scene_after}
use Rattle.mon_queue.specs.Course.{Subscription, Course, AreBetween, scene_at, shown_at, posts_between, begun, unread_at, popped_at, after_pops, IsFoldedAt}
use Rattle.mon_queue.proofs.Folding.{showing, folded_append, folded_posts, folded_first, popped_same}
use Rattle.mon_queue.proofs.Showing.{posts_show, first_shows, scene_append}

-- what follows one place up to a third, by way of a second
split : {X : Type 0} (a b n : ℕ) (xs : List X) → a ≤ b → b ≤ n → drop a (take n xs) ≡ drop a (take b xs) ++ drop b (take n xs)
split zero zero n xs le more = refl
split zero (suc b) zero xs le more = absurd (omega (arith, more))
split zero (suc b) (suc n) [] le more = refl
split {X} zero (suc b) (suc n) (x ∷ xs) le more = ap (λ (l : List X). x ∷ l) (split zero b n xs (omega arith) (omega (arith, more)))
split (suc a) zero n xs le more = absurd (omega (arith, le))
split (suc a) (suc b) zero xs le more = absurd (omega (arith, more))
split (suc a) (suc b) (suc n) [] le more = refl
split (suc a) (suc b) (suc n) (x ∷ xs) le more = split a b n xs (omega (arith, le)) (omega (arith, more))

up_to_here : {X : Type 0} (a : ℕ) (xs : List X) → drop a (take a xs) ≡ []
up_to_here zero xs = refl
up_to_here (suc a) [] = refl
up_to_here (suc a) (x ∷ xs) = up_to_here a xs

module _ {State Entry : Type 0} (sub : Subscription State Entry) (entries : List Entry) where
  -- the scene at a place goes on from that at an earlier one
  scene_on : (m n : ℕ) → sub.place ≤ m → m ≤ n → scene_after sub.watch (scene_at sub entries m) (drop m (take n entries)) ≡ scene_at sub entries n
  scene_on m n began le =
      sym (scene_append sub.watch (first_scene sub.watch sub.state) (drop sub.place (take m entries)) (drop m (take n entries)))
      ∙ ap (scene_after sub.watch (first_scene sub.watch sub.state)) (sym (split sub.place m n entries began le))

  -- folded at the place of its last pop
  record IsKept (c : Course) : Type 0 where
    began : sub.place ≤ c.place
    is : folded (blank sub.watch) (c.taken ++ map update_of c.runs) ≡ shown_at sub entries c.place

  -- and so at every later place
  folds_on : 1 ≤ sub.size → (c : Course) → IsKept c → (n : ℕ) → c.place ≤ n → IsFoldedAt sub entries c n
  folds_on some c k n le =
      let v = folded (blank sub.watch) c.taken in
      folded_append c.taken (map update_of (unread_at sub entries c n)) (blank sub.watch)
      ∙ folded_posts sub.size (posts_between sub entries c.place n) c.runs v some
      ∙ ap (λ (x : LeafValues). showing x (posts_between sub entries c.place n)) (sym (folded_append c.taken (map update_of c.runs) (blank sub.watch)) ∙ k.is)
      ∙ posts_show sub.watch (scene_at sub entries c.place) (drop c.place (take n entries))
      ∙ ap (λ (x : Scene State). x.shown) (scene_on c.place n k.began le)

  kept_begun : IsKept (begun sub)
  kept_begun = record {
    began = omega arith;
    is =
        folded_first (first_post sub.watch sub.state) (blank sub.watch)
        ∙ first_shows sub.watch sub.state
        ∙ ap (λ (es : List Entry). (scene_after sub.watch (first_scene sub.watch sub.state) es).shown) (sym (up_to_here sub.place entries));
  }

  kept_pop : 1 ≤ sub.size → (c : Course) → IsKept c → (n : ℕ) → c.place ≤ n → IsKept (popped_at sub entries c n)
  kept_pop some c k n le = record {
    began = omega (arith, k.began, le);
    is = ap (folded (blank sub.watch)) (popped_same c.taken (unread_at sub entries c n)) ∙ folds_on some c k n le;
  }

  folds_after : 1 ≤ sub.size → (pops : List ℕ) (c : Course) (n : ℕ) → IsKept c → AreBetween c.place pops n → IsFoldedAt sub entries (after_pops sub entries c pops) n
  folds_after some [] c n k between = folds_on some c k n between
  folds_after some (p ∷ pops) c n k between = folds_after some pops (popped_at sub entries c p) n (kept_pop some c k p between.0) between.1

  -- The law: what the pops took and what is unread is what is shown.
  pub folds : (pops : List ℕ) (n : ℕ) → 1 ≤ sub.size → AreBetween sub.place pops n → IsFoldedAt sub entries (after_pops sub entries (begun sub) pops) n
  folds pops n some between = folds_after some pops (begun sub) n kept_begun between
