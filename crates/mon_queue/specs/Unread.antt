-- What a queue holds.
use Rattle.std.specs.Prelude.{◌≡◌, ◌<◌, ℕ, true, List, length, map, Some}
use Rattle.std.specs.Ordering.{nat_cmp}
use Rattle.std.specs.FinSet.{FinSet, empty}
use Rattle.circular_buffer.specs.Buffer.{last_item}
use Rattle.pvd_type.specs.Tree.{Tree}
use Rattle.pvd_value.specs.View.{view}
use Rattle.pvd_value.specs.LeafValues.{leaf_values}
use Rattle.mon_queue.specs.Runs.{Posted, posted, Told, Run, Event, unread_runs, update_of}
use Rattle.mon_queue.specs.Merged.{told_more}
use Rattle.mon_queue.specs.Told.{told_by, is_update_of}
use Rattle.mon_queue.specs.declared.update.Update.{Update}
use Rattle.mon_queue.specs.declared.update.Prepared.{Prepared}
use Rattle.mon_queue.specs.declared.update.Prepared.TheVariants.{Begins, Joins}
use Rattle.mon_queue.specs.declared.queue.MonQueue.{MonQueue}

abbrev pub type_of : MonQueue → Tree
type_of q = q.ty

-- how many updates may be unread
abbrev pub size_of : MonQueue → ℕ
size_of q = q.ring.capacity

-- the unread updates, the oldest first
abbrev pub unread : MonQueue → List Told
unread q = map (told_by q.ty) q.ring.items

-- The queue holds the updates of these runs.
abbrev pub Holds : MonQueue → List Run → Type 0
Holds q runs = unread q ≡ map update_of runs

-- The queue holds what these posts and pops leave unread.
abbrev pub StandsFor : MonQueue → List Event → Type 0
StandsFor q events = Holds q (unread_runs (size_of q) events)

-- the post that was prepared
abbrev pub prepared_post : Tree → Prepared → Posted
prepared_post t (Begins update) = posted update.changed (leaf_values t (view update.value))
prepared_post t (Joins mask update) = posted mask (leaf_values t (view update.value))

-- There is room for a run, which begins with this update of one post.
pub record BeginsRun (q : MonQueue) (update : Update) : Type 0 where
  pub room : length (unread q) < size_of q
  pub alone : update.overrun ≡ empty
  pub is_update : is_update_of q.ty update ≡ true

-- The post of these leaves joins the newest run, which then comes to this update.
pub record JoinsRun (q : MonQueue) (mask : FinSet nat_cmp) (update : Update) : Type 0 where
  pub full : length (unread q) ≡ size_of q
  pub told : (newest : Update) → last_item q.ring.items ≡ Some newest
      → told_by q.ty update ≡ told_more (told_by q.ty newest) (posted mask (leaf_values q.ty (view update.value)))
  pub is_update : is_update_of q.ty update ≡ true

-- The queue is as it was when it prepared this.
abbrev pub IsReadyFor : MonQueue → Prepared → Type 0
IsReadyFor q (Begins update) = BeginsRun q update
IsReadyFor q (Joins mask update) = JoinsRun q mask update
