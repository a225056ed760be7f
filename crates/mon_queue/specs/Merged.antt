-- Runs as merged updates: what a queue keeps of posts.
use Rattle.std.specs.Prelude.{ℕ, List, [], ◌∷◌, ◌++◌, length, if◌then◌else◌, nat_lt}
use Rattle.std.specs.FinSet.{empty, union, intersection}
use Rattle.pvd_value.specs.LeafValues.{nothing, over}
use Rattle.mon_queue.specs.Runs.{Posted, Told}

-- the update of one post
abbrev pub first_told : Posted → Told
first_told p = record { changed = p.mask; overrun = empty; leaves = over p.mask nothing p.leaves }

-- that of a run with one more post
abbrev pub told_more : Told → Posted → Told
told_more u p = record {
  changed = union u.changed p.mask;
  overrun = union (intersection p.mask u.changed) u.overrun;
  leaves = over p.mask u.leaves p.leaves;
}

abbrev pub last_more : List Told → Posted → List Told
last_more [] p = []
last_more (u ∷ []) p = told_more u p ∷ []
last_more (u ∷ v ∷ more) p = u ∷ last_more (v ∷ more) p

-- the unread updates with one more post
abbrev pub told_with : ℕ → List Told → Posted → List Told
told_with size us p = if nat_lt (length us) size then us ++ first_told p ∷ [] else last_more us p
