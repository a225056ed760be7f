-- The unread runs of a course are those of its posts and pops.
use Rattle.std.proofs.Common.{◌≡◌, ℕ, ◌≤◌, Bool, cond, List, [], ◌∷◌, ◌++◌, map, refl, sym, ap, ◌∙◌, arith}
use Rattle.std.proofs.lemmas.Bool.{lt-ltb}
use Rattle.mon_queue.specs.Runs.{Run, Event, post, pop, fresh, runs_with, runs_after}
use Rattle.mon_queue.specs.Shown.{first_post}
use Rattle.mon_queue.specs.Course.{Subscription, Course, posts_between, begun, popped_at, after_pops, seen_by_queue, IsUnreadAt}

runs_append : (size : ℕ) (runs : List Run) (xs ys : List Event) → runs_after size runs (xs ++ ys) ≡ runs_after size (runs_after size runs xs) ys
runs_append size runs [] ys = refl
runs_append size runs (e ∷ xs) ys = runs_append size (runs_with size runs e) xs ys

module _ {State Entry : Type 0} where
  after_the_pops : (sub : Subscription State Entry) (entries : List Entry) (c : Course) (pops : List ℕ)
      → (after_pops sub entries c pops).runs ≡ runs_after sub.size c.runs (seen_by_queue sub entries c.place pops)
  after_the_pops sub entries c [] = refl
  after_the_pops sub entries c (n ∷ pops) =
      after_the_pops sub entries (popped_at sub entries c n) pops
      ∙ sym (runs_append sub.size c.runs (map post (posts_between sub entries c.place n)) (pop ∷ seen_by_queue sub entries n pops))

  pub unread_as_seen : (sub : Subscription State Entry) (entries : List Entry) (pops : List ℕ) (n : ℕ) → 1 ≤ sub.size → IsUnreadAt sub entries pops n
  unread_as_seen sub entries pops n some =
      let c = after_pops sub entries (begun sub) pops in
      let first = first_post sub.watch sub.state in
      let later = seen_by_queue sub entries sub.place pops in
      let last = map post (posts_between sub entries c.place n) in
      ap (λ (runs : List Run). runs_after sub.size runs last) (after_the_pops sub entries (begun sub) pops)
      ∙ sym (runs_append sub.size (fresh first ∷ []) later last)
      ∙ sym (ap (λ (b : Bool). runs_after sub.size (cond b (fresh first ∷ []) []) (later ++ last)) (lt-ltb 0 sub.size (omega (arith, some))))
