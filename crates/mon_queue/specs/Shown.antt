-- What a subscription is shown, entry by entry, and the posts that tell it.
use Rattle.std.specs.Prelude.{◌==◌, List, [], ◌∷◌, ◌++◌, if◌then◌else◌}
use Rattle.std.specs.Ordering.{nat_cmp}
use Rattle.std.specs.FinSet.{FinSet, intersection, len}
use Rattle.pvd_type.specs.Tree.{Tree}
use Rattle.pvd_value.specs.Data.{Data}
use Rattle.pvd_value.specs.Blank.{blank_of}
use Rattle.pvd_value.specs.LeafValues.{LeafValues, leaf_values, over, differing_in}
use Rattle.mon_queue.specs.Runs.{Posted, posted}

-- What is watched: a channel as functions of states and entries, whatever these are, and the leaves that are asked for.
pub record Watch (State Entry : Type 0) : Type 0 where
  pub ty : Tree
  -- what the channel shows of a state
  pub view : State → Data
  -- the state after an entry
  pub next : State → Entry → State
  -- the leaves that an entry takes anew
  pub triggers : Entry → FinSet nat_cmp
  pub requested : FinSet nat_cmp

-- A place of a subscription: the state there, and what is shown.
pub record Scene (State : Type 0) : Type 0 where
  pub state : State
  pub shown : LeafValues

module _ {State Entry : Type 0} where
  abbrev pub blank : Watch State Entry → LeafValues
  blank w = leaf_values w.ty (blank_of w.ty)

  abbrev pub seen : Watch State Entry → State → LeafValues
  seen w s = leaf_values w.ty (w.view s)

  -- the requested leaves that an entry takes anew
  abbrev pub anew : Watch State Entry → Entry → FinSet nat_cmp
  anew w e = intersection (w.triggers e) w.requested

  -- At the subscription's place the requested leaves of the view are shown over the blank value.
  abbrev pub first_scene : Watch State Entry → State → Scene State
  first_scene w s = record { state = s; shown = over w.requested (blank w) (seen w s) }

  -- The leaves that an entry takes anew are those of the view of the state after it; the others stay.
  abbrev pub next_scene : Watch State Entry → Scene State → Entry → Scene State
  next_scene w x e = record { state = w.next x.state e; shown = over (anew w e) x.shown (seen w (w.next x.state e)) }

  abbrev pub scene_after : Watch State Entry → Scene State → List Entry → Scene State
  scene_after w x [] = x
  scene_after w x (e ∷ entries) = scene_after w (next_scene w x e) entries

  -- The first post has all requested leaves.
  abbrev pub first_post : Watch State Entry → State → Posted
  first_post w s = posted w.requested (first_scene w s).shown

  -- the leaves in which what is shown differs after an entry
  abbrev pub news : Watch State Entry → Scene State → Entry → FinSet nat_cmp
  news w x e = differing_in (anew w e) x.shown (next_scene w x e).shown

  -- An entry gives a post of these leaves, and none where what is shown doesn't differ.
  abbrev pub posts_by : Watch State Entry → Scene State → Entry → List Posted
  posts_by w x e = if len (news w x e) == 0 then [] else posted (news w x e) (next_scene w x e).shown ∷ []

  abbrev pub posts_after : Watch State Entry → Scene State → List Entry → List Posted
  posts_after w x [] = []
  posts_after w x (e ∷ entries) = posts_by w x e ++ posts_after w (next_scene w x e) entries
