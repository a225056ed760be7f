-- The course of a subscription lasts as entries are added behind it.
use Rattle.std.specs.Prelude.{◌≡◌, ℕ, ◌≤◌, List, [], ◌∷◌, refl}
use Rattle.std.proofs.Common.{take, drop, ◌∙◌, ap, arith}
use Rattle.mon_queue.specs.Runs.{without_oldest}
use Rattle.mon_queue.specs.Shown.{first_scene, scene_after, posts_after}
use Rattle.mon_queue.specs.Course.{Subscription, Course, AreBetween, with_posts, taken_with, unread_at, popped_at, after_pops}

-- places in order end no earlier than they begin
pub rises : (m : ℕ) (places : List ℕ) (n : ℕ) → AreBetween m places n → m ≤ n
rises m [] n between = between
rises m (p ∷ places) n between = omega (arith, between.0, rises p places n between.1)

module _ {State Entry : Type 0} (sub : Subscription State Entry) where
  pub place_below : (entries : List Entry) (pops : List ℕ) (c : Course) (n : ℕ) → AreBetween c.place pops n → (after_pops sub entries c pops).place ≤ n
  place_below entries [] c n between = between
  place_below entries (p ∷ pops) c n between = place_below entries pops (popped_at sub entries c p) n between.1

  -- of two lists of entries that agree up to a place
  module _ (shorter longer : List Entry) (end : ℕ) (agree : (n : ℕ) → n ≤ end → take n longer ≡ take n shorter) where
    pub same_unread : (c : Course) (n : ℕ) → c.place ≤ end → n ≤ end → unread_at sub longer c n ≡ unread_at sub shorter c n
    same_unread c n began le =
        λ i. with_posts sub.size c.runs
        (posts_after sub.watch (scene_after sub.watch (first_scene sub.watch sub.state) (drop sub.place (agree c.place began i))) (drop c.place (agree n le i)))

    pub same_after : (pops : List ℕ) (c : Course) (n : ℕ) → AreBetween c.place pops n → n ≤ end → after_pops sub longer c pops ≡ after_pops sub shorter c pops
    same_after [] c n between le = refl
    same_after (p ∷ pops) c n between le =
        let here : p ≤ end = omega (arith, rises p pops n between.1, le) in
        let runs = same_unread c p (omega (arith, between.0, here)) here in
        let popped : popped_at sub longer c p ≡ popped_at sub shorter c p = λ i. record { place = p; taken = taken_with c.taken (runs i); runs = without_oldest (runs i) } in
        ap (λ (d : Course). after_pops sub longer d pops) popped ∙ same_after pops (popped_at sub shorter c p) n between.1 le
