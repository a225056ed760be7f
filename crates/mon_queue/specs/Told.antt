-- What posts and updates tell of the values that they carry.
use Rattle.std.specs.Prelude.{◌≡◌, Bool, true, ◌&&◌, List}
use Rattle.std.specs.List.{list_all}
use Rattle.std.specs.Ordering.{nat_cmp}
use Rattle.std.specs.FinSet.{FinSet, is_subset}
use Rattle.pvd_type.specs.Tree.{Tree}
use Rattle.pvd_type.specs.Numbers.{leaves}
use Rattle.pvd_value.specs.View.{view}
use Rattle.pvd_value.specs.Fits.{fits_of}
use Rattle.pvd_value.specs.LeafValues.{nothing, over, leaf_values}
use Rattle.mon_queue.specs.Runs.{Posted, posted, Told}
use Rattle.mon_queue.specs.declared.update.Post.{Post}
use Rattle.mon_queue.specs.declared.update.Update.{Update}

-- a set of numbers of leaves of the type
abbrev pub are_leaves : Tree → FinSet nat_cmp → Bool
are_leaves t mask = is_subset mask (leaves t)

abbrev pub posted_by : Tree → Post → Posted
posted_by t p = posted p.mask (leaf_values t (view p.value))

abbrev pub told_by : Tree → Update → Told
told_by t u = record {
  changed = u.changed;
  overrun = u.overrun;
  leaves = over u.changed nothing (leaf_values t (view u.value));
}

-- a post whose value fits the type and whose mask holds leaves of it
pub record IsPostOf (t : Tree) (p : Post) : Type 0 where
  pub fits : fits_of 16 (view p.value) t ≡ true
  pub mask : are_leaves t p.mask ≡ true

-- the value of an update fits the type, and its sets hold leaves of it
abbrev pub is_update_of : Tree → Update → Bool
is_update_of t u = fits_of 16 (view u.value) t && (are_leaves t u.changed && are_leaves t u.overrun)

pub record IsUpdateOf (t : Tree) (u : Update) : Type 0 where
  pub fits : fits_of 16 (view u.value) t ≡ true
  pub changed : are_leaves t u.changed ≡ true
  pub overrun : are_leaves t u.overrun ≡ true

abbrev pub are_updates_of : Tree → List Update → Bool
are_updates_of t us = list_all (is_update_of t) us
