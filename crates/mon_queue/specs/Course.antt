-- The course of a subscription through a history, with the pops at their places.
use Rattle.std.specs.Prelude.{◌≡◌, ◌≤◌, ℕ, List, [], ◌∷◌, ◌++◌, map, take, drop}
use Rattle.pvd_value.specs.LeafValues.{LeafValues}
use Rattle.mon_queue.specs.Runs.{Posted, Run, Told, Event, post, pop, fresh, without_oldest, update_of, folded, runs_after, unread_runs}
use Rattle.mon_queue.specs.Shown.{Watch, Scene, blank, first_scene, first_post, scene_after, posts_after}

-- A subscription: what it watches, how many updates its queue may hold, its place, which is the number of the entries
-- before it, and the state there.
pub record Subscription (State Entry : Type 0) : Type 0 where
  pub watch : Watch State Entry
  pub size : ℕ
  pub place : ℕ
  pub state : State

-- After its pops: the place of the last of them, the updates that they took, in order, and the runs that they left
-- unread.
pub record Course : Type 0 where
  pub place : ℕ
  pub taken : List Told
  pub runs : List Run

-- the unread runs with more posts
abbrev pub with_posts : ℕ → List Run → List Posted → List Run
with_posts size runs posts = runs_after size runs (map post posts)

-- the updates that were taken, with that of a pop from these runs
abbrev pub taken_with : List Told → List Run → List Told
taken_with taken [] = taken
taken_with taken (r ∷ runs) = taken ++ update_of r ∷ []

-- these places are in order, from one place up to another
abbrev pub AreBetween : ℕ → List ℕ → ℕ → Type 0
AreBetween m [] n = m ≤ n
AreBetween m (p ∷ places) n = (m ≤ p) × AreBetween p places n

module _ {State Entry : Type 0} where
  abbrev pub scene_at : Subscription State Entry → List Entry → ℕ → Scene State
  scene_at sub entries n = scene_after sub.watch (first_scene sub.watch sub.state) (drop sub.place (take n entries))

  -- what is shown after the first n entries
  abbrev pub shown_at : Subscription State Entry → List Entry → ℕ → LeafValues
  shown_at sub entries n = (scene_at sub entries n).shown

  -- the posts of the entries from place m up to place n
  abbrev pub posts_between : Subscription State Entry → List Entry → ℕ → ℕ → List Posted
  posts_between sub entries m n = posts_after sub.watch (scene_at sub entries m) (drop m (take n entries))

  abbrev pub begun : Subscription State Entry → Course
  begun sub = record { place = sub.place; taken = []; runs = fresh (first_post sub.watch sub.state) ∷ [] }

  -- the unread runs after the first n entries
  abbrev pub unread_at : Subscription State Entry → List Entry → Course → ℕ → List Run
  unread_at sub entries c n = with_posts sub.size c.runs (posts_between sub entries c.place n)

  -- A pop at place n comes after the posts of the first n entries and before those of the next.
  abbrev pub popped_at : Subscription State Entry → List Entry → Course → ℕ → Course
  popped_at sub entries c n = record {
    place = n;
    taken = taken_with c.taken (unread_at sub entries c n);
    runs = without_oldest (unread_at sub entries c n);
  }

  abbrev pub after_pops : Subscription State Entry → List Entry → Course → List ℕ → Course
  after_pops sub entries c [] = c
  after_pops sub entries c (n ∷ pops) = after_pops sub entries (popped_at sub entries c n) pops

  -- the posts from this place on and the pops at these places, in the order in which a queue sees them
  abbrev pub seen_by_queue : Subscription State Entry → List Entry → ℕ → List ℕ → List Event
  seen_by_queue sub entries m [] = []
  seen_by_queue sub entries m (n ∷ pops) = map post (posts_between sub entries m n) ++ pop ∷ seen_by_queue sub entries n pops

  -- all that it has seen after the first n entries: the first post, then those and the pops, then the posts behind the last pop
  abbrev pub seen_at : Subscription State Entry → List Entry → List ℕ → ℕ → List Event
  seen_at sub entries pops n =
      let c = after_pops sub entries (begun sub) pops in
      post (first_post sub.watch sub.state) ∷ (seen_by_queue sub entries sub.place pops ++ map post (posts_between sub entries c.place n))

  -- The unread runs of the course are those that the posts and the pops leave.
  abbrev pub IsUnreadAt : Subscription State Entry → List Entry → List ℕ → ℕ → Type 0
  IsUnreadAt sub entries pops n = unread_at sub entries (after_pops sub entries (begun sub) pops) n ≡ unread_runs sub.size (seen_at sub entries pops n)

  -- What the pops took and then what is unread, merged in order into the blank value, is what is shown after the first
  -- n entries.
  abbrev pub IsFoldedAt : Subscription State Entry → List Entry → Course → ℕ → Type 0
  IsFoldedAt sub entries c n =
      folded (blank sub.watch) (c.taken ++ map update_of (unread_at sub entries c n)) ≡ shown_at sub entries n
