-- The updates of a monitor, over whole lists of posts (pvAccess Protocol Specification, "Channel Monitor": changed and
-- overrun bit sets).
use Rattle.std.specs.Prelude.{ℕ, ◌+◌, List, [], ◌∷◌, ◌++◌, length, Option, None, Some, if◌then◌else◌, nat_lt}
use Rattle.std.specs.Ordering.{nat_cmp}
use Rattle.std.specs.FinSet.{FinSet, contains, empty, union, retain}
use Rattle.pvd_value.specs.LeafValues.{LeafValues, nothing, over}

-- A post: the numbers of the leaves that are new, and their values.
pub record Posted : Type 0 where
  pub mask : FinSet nat_cmp
  pub leaves : LeafValues

-- what a value has outside the mask doesn't count
abbrev pub posted : FinSet nat_cmp → LeafValues → Posted
posted mask leaves = record { mask = mask; leaves = over mask nothing leaves }

-- A run: posts that one update tells, the last of them and those before it, the newest first.
pub record Run : Type 0 where
  pub last : Posted
  pub older : List Posted

abbrev pub fresh : Posted → Run
fresh p = record { last = p; older = [] }

abbrev pub posts_in : Run → List Posted
posts_in r = r.last ∷ r.older

-- the newest run takes a post
abbrev pub joined : List Run → Posted → List Run
joined [] p = []
joined (r ∷ []) p = record { last = p; older = posts_in r } ∷ []
joined (r ∷ s ∷ more) p = r ∷ joined (s ∷ more) p

-- A post begins a new run where fewer than `size` runs are unread; else it joins the newest unread run.
abbrev pub with_post : ℕ → List Run → Posted → List Run
with_post size runs p = if nat_lt (length runs) size then runs ++ fresh p ∷ [] else joined runs p

-- A pop takes the oldest unread run, or nothing where there is none.
abbrev pub without_oldest : List Run → List Run
without_oldest [] = []
without_oldest (r ∷ runs) = runs

-- What comes to a queue, in order.
pub data Event : Type 0 where
  post : Posted → Event
  pop : Event

abbrev pub runs_with : ℕ → List Run → Event → List Run
runs_with size runs (post p) = with_post size runs p
runs_with size runs pop = without_oldest runs

abbrev pub runs_after : ℕ → List Run → List Event → List Run
runs_after size runs [] = runs
runs_after size runs (e ∷ events) = runs_after size (runs_with size runs e) events

-- the unread runs of a queue of this size after these posts and pops
abbrev pub unread_runs : ℕ → List Event → List Run
unread_runs size events = runs_after size [] events

-- in how many of these posts a leaf stands
abbrev pub times : ℕ → List Posted → ℕ
times k [] = 0
times k (p ∷ posts) = if contains p.mask k then times k posts + 1 else times k posts

-- Of posts, the newest first: the union of their masks ..
abbrev pub changed_in : List Posted → FinSet nat_cmp
changed_in [] = empty
changed_in (p ∷ older) = union (changed_in older) p.mask

-- .. the leaves that stand in two or more of their masks ..
abbrev pub overrun_in : List Posted → FinSet nat_cmp
overrun_in posts = retain (changed_in posts) (λ k. nat_lt 1 (times k posts))

-- .. and for each leaf its value in the newest post whose mask has it.
abbrev pub newest_in : List Posted → LeafValues
newest_in [] = nothing
newest_in (p ∷ older) = over p.mask (newest_in older) p.leaves

-- What an update tells. Nothing is told of leaves that aren't changed.
pub record Told : Type 0 where
  pub changed : FinSet nat_cmp
  pub overrun : FinSet nat_cmp
  pub leaves : LeafValues

abbrev pub update_of : Run → Told
update_of r = record {
  changed = changed_in (posts_in r);
  overrun = overrun_in (posts_in r);
  leaves = newest_in (posts_in r);
}

-- the update that a pop takes
abbrev pub oldest_of : List Run → Option Told
oldest_of [] = None
oldest_of (r ∷ runs) = Some (update_of r)

-- updates, merged in order into the values that were there
abbrev pub folded : LeafValues → List Told → LeafValues
folded leaves [] = leaves
folded leaves (u ∷ us) = folded (over u.changed leaves u.leaves) us
