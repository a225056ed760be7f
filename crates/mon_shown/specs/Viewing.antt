-- Views of channels that were made for an entry.
use Rattle.std.specs.Prelude.{◌≡◌, ℕ, true, List, Some, slice_get}
use Rattle.std.specs.Ordering.{nat_cmp}
use Rattle.std.specs.FinSet.{FinSet, contains}
use Rattle.pvd_value.specs.Data.{Data}
use Rattle.pvd_value.specs.View.{view}
use Rattle.pvd_value.specs.Leaves.{leaf_at}
use Rattle.pvd_value.specs.Fits.{fits_of}
use Rattle.rec_kinds.specs.declared.state.RecState.{RecState}
use Rattle.mon_shown.specs.Channels.{ChannelView}
use Rattle.mon_shown.specs.declared.viewed.View.{View}

-- The value has these leaves of what the channel shows of the states.
pub record IsView (c : ChannelView) (states : List RecState) (mask : FinSet nat_cmp) (v : Data) : Type 0 where
  pub shown : (k : ℕ) → contains mask k ≡ true → leaf_at k c.ty v ≡ leaf_at k c.ty (c.view states)
  pub fits : fits_of 16 v c.ty ≡ true

module _ {C : Type 0} where
  abbrev pub AreViews : (C → ChannelView) → List RecState → List (View C) → Type 0
  AreViews shows states views =
      (n : ℕ) (x : View C) → slice_get views n ≡ Some x → IsView (shows x.channel) states x.mask (view x.value)
