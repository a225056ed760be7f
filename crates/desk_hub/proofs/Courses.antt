-- The course of a subscription as its history and its pops go on.
use Rattle.std.proofs.Common.{◌≡◌, ℕ, zero, suc, ◌≤◌, List, [], ◌∷◌, ◌++◌, length, take, drop, map, refl, sym, ap, ◌∙◌, arith, append_assoc}
use Rattle.std.proofs.lemmas.List.{append-nil, take-append-le, drop-append-le, map-append}
use Rattle.std.proofs.Math.Seq.{take-length}
use Rattle.mon_queue.specs.Runs.{Posted, Run, post, runs_after, without_oldest}
use Rattle.mon_queue.specs.Shown.{Watch, Scene, first_scene, next_scene, scene_after, posts_by, posts_after}
use Rattle.mon_queue.specs.Course.{Subscription, Course, AreBetween, with_posts, taken_with, scene_at, posts_between, unread_at, popped_at, after_pops}
use Rattle.mon_queue.proofs.Rings.{runs_append}
use Rattle.mon_queue.proofs.Showing.{scene_append}

-- lists

up_to_here : {X : Type 0} (m : ℕ) (xs : List X) → drop m (take m xs) ≡ []
up_to_here zero xs = refl
up_to_here (suc m) [] = refl
up_to_here (suc m) (x ∷ xs) = up_to_here m xs

behind : {X : Type 0} (m n : ℕ) (xs : List X) → m ≤ n → drop m (take n xs) ++ drop n xs ≡ drop m xs
behind zero zero xs le = refl
behind zero (suc n) [] le = refl
behind {X} zero (suc n) (x ∷ xs) le = ap (λ (l : List X). x ∷ l) (behind zero n xs (omega arith))
behind (suc m) zero xs le = absurd (omega (arith, le))
behind (suc m) (suc n) [] le = refl
behind (suc m) (suc n) (x ∷ xs) le = behind m n xs (omega (arith, le))

-- places of pops

pub between_ends : (m : ℕ) (pops : List ℕ) (n : ℕ) → AreBetween m pops n → m ≤ n
between_ends m [] n b = b
between_ends m (p ∷ pops) n b = omega (arith, b.0, between_ends p pops n b.1)

pub between_pop : (m : ℕ) (pops : List ℕ) (n : ℕ) → AreBetween m pops n → AreBetween m (pops ++ n ∷ []) n
between_pop m [] n b = (b, omega arith)
between_pop m (p ∷ pops) n b = (b.0, between_pop p pops n b.1)

pub between_up : (m : ℕ) (pops : List ℕ) (n k : ℕ) → n ≤ k → AreBetween m pops n → AreBetween m pops k
between_up m [] n k le b = omega (arith, le, b)
between_up m (p ∷ pops) n k le b = (b.0, between_up p pops n k le b.1)

runs_on : (size : ℕ) (runs : List Run) (ps qs : List Posted) → with_posts size runs (ps ++ qs) ≡ with_posts size (with_posts size runs ps) qs
runs_on size runs ps qs = ap (runs_after size runs) (map-append post ps qs) ∙ runs_append size (map post ps) (map post qs) runs

module _ {State Entry : Type 0} where
  posts_append : (w : Watch State Entry) (x : Scene State) (xs ys : List Entry) → posts_after w x (xs ++ ys) ≡ posts_after w x xs ++ posts_after w (scene_after w x xs) ys
  posts_append w x [] ys = refl
  posts_append w x (e ∷ xs) ys =
      ap (λ (l : List Posted). posts_by w x e ++ l) (posts_append w (next_scene w x e) xs ys)
      ∙ sym (append_assoc (posts_by w x e) (posts_after w (next_scene w x e) xs) (posts_after w (scene_after w x (e ∷ xs)) ys))

  module _ (sub : Subscription State Entry) (entries : List Entry) where
    -- at its place, and at the place of its last pop
    pub scene_here : scene_at sub entries sub.place ≡ first_scene sub.watch sub.state
    scene_here = ap (scene_after sub.watch (first_scene sub.watch sub.state)) (up_to_here sub.place entries)

    pub unread_here : (c : Course) → unread_at sub entries c c.place ≡ c.runs
    unread_here c = ap (λ (es : List Entry). with_posts sub.size c.runs (posts_after sub.watch (scene_at sub entries c.place) es)) (up_to_here c.place entries)

    -- one more pop
    pub pop_later : (pops : List ℕ) (c : Course) (n : ℕ) → after_pops sub entries c (pops ++ n ∷ []) ≡ popped_at sub entries (after_pops sub entries c pops) n
    pop_later [] c n = refl
    pop_later (p ∷ pops) c n = pop_later pops (popped_at sub entries c p) n

    pub place_between : (pops : List ℕ) (c : Course) (n : ℕ) → AreBetween c.place pops n → (c.place ≤ (after_pops sub entries c pops).place) × ((after_pops sub entries c pops).place ≤ n)
    place_between [] c n b = (omega arith, b)
    place_between (p ∷ pops) c n b =
        let later = place_between pops (popped_at sub entries c p) n b.1 in
        (omega (arith, b.0, later.0), later.1)

    -- the scene at the end goes on from that at a place
    scene_to_end : (m : ℕ) → sub.place ≤ m → scene_after sub.watch (scene_at sub entries m) (drop m entries) ≡ scene_at sub entries (length entries)
    scene_to_end m le =
        sym (scene_append sub.watch (first_scene sub.watch sub.state) (drop sub.place (take m entries)) (drop m entries))
        ∙ ap (scene_after sub.watch (first_scene sub.watch sub.state)) (behind sub.place m entries le ∙ ap (drop sub.place) (sym (take-length entries)))

    -- entries behind the places that are asked for
    module _ (more : List Entry) where
      scene_same : (n : ℕ) → n ≤ length entries → scene_at sub (entries ++ more) n ≡ scene_at sub entries n
      scene_same n le = ap (λ (es : List Entry). scene_after sub.watch (first_scene sub.watch sub.state) (drop sub.place es)) (take-append-le n entries more le)

      unread_same : (c : Course) (n : ℕ) → c.place ≤ length entries → n ≤ length entries → unread_at sub (entries ++ more) c n ≡ unread_at sub entries c n
      unread_same c n there le = λ i. with_posts sub.size c.runs (posts_after sub.watch (scene_same c.place there i) (drop c.place (take-append-le n entries more le i)))

      popped_same : (c : Course) (n : ℕ) → c.place ≤ length entries → n ≤ length entries → popped_at sub (entries ++ more) c n ≡ popped_at sub entries c n
      popped_same c n there le = λ i. record {
        place = n;
        taken = taken_with c.taken (unread_same c n there le i);
        runs = without_oldest (unread_same c n there le i);
      }

      pub course_same : (pops : List ℕ) (c : Course) → AreBetween c.place pops (length entries) → after_pops sub (entries ++ more) c pops ≡ after_pops sub entries c pops
      course_same [] c b = refl
      course_same (p ∷ pops) c b =
          let up = between_ends p pops (length entries) b.1 in
          ap (λ (d : Course). after_pops sub (entries ++ more) d pops) (popped_same c p (omega (arith, b.0, up)) up)
          ∙ course_same pops (popped_at sub entries c p) b.1

    -- one more entry
    module _ (e : Entry) where
      pub scene_next : sub.place ≤ length entries → scene_at sub (entries ++ e ∷ []) (length (entries ++ e ∷ [])) ≡ next_scene sub.watch (scene_at sub entries (length entries)) e
      scene_next began =
          let first = first_scene sub.watch sub.state in
          ap (λ (es : List Entry). scene_after sub.watch first (drop sub.place es)) (take-length (entries ++ e ∷ []))
          ∙ ap (scene_after sub.watch first) (drop-append-le sub.place entries (e ∷ []) began)
          ∙ scene_append sub.watch first (drop sub.place entries) (e ∷ [])
          ∙ ap (λ (es : List Entry). next_scene sub.watch (scene_after sub.watch first (drop sub.place es)) e) (sym (take-length entries))

      posts_next : (m : ℕ) → sub.place ≤ m → m ≤ length entries
          → posts_between sub (entries ++ e ∷ []) m (length (entries ++ e ∷ [])) ≡ posts_between sub entries m (length entries) ++ posts_by sub.watch (scene_at sub entries (length entries)) e
      posts_next m began le =
          let here = scene_at sub entries m in
          (λ i. posts_after sub.watch (scene_same (e ∷ []) m le i) (drop m (take-length (entries ++ e ∷ []) i)))
          ∙ ap (posts_after sub.watch here) (drop-append-le m entries (e ∷ []) le)
          ∙ posts_append sub.watch here (drop m entries) (e ∷ [])
          ∙ (λ i. posts_after sub.watch here (drop m (sym (take-length entries) i)) ++ append-nil (posts_by sub.watch (scene_to_end m began i) e) i)

      pub unread_next : (c : Course) → sub.place ≤ c.place → c.place ≤ length entries
          → unread_at sub (entries ++ e ∷ []) c (length (entries ++ e ∷ [])) ≡ with_posts sub.size (unread_at sub entries c (length entries)) (posts_by sub.watch (scene_at sub entries (length entries)) e)
      unread_next c began le =
          ap (with_posts sub.size c.runs) (posts_next c.place began le)
          ∙ runs_on sub.size c.runs (posts_between sub entries c.place (length entries)) (posts_by sub.watch (scene_at sub entries (length entries)) e)
