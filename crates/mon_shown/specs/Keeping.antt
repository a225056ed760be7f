-- What is kept of a subscription, and what an entry will make of it.
use Rattle.std.specs.Prelude.{◌≡◌, ℕ, Bool, true, List, [], ◌∷◌, map, Option, None, Some, option_map}
use Rattle.std.specs.Ordering.{nat_cmp}
use Rattle.std.specs.FinSet.{FinSet, contains}
use Rattle.pvd_type.specs.Tree.{Tree}
use Rattle.pvd_value.specs.Data.{Data}
use Rattle.pvd_value.specs.View.{view}
use Rattle.pvd_value.specs.Fits.{fits_of}
use Rattle.pvd_value.specs.LeafValues.{LeafValues, leaf_values, over}
use Rattle.rec_kinds.specs.declared.state.RecState.{RecState}
use Rattle.journal_core.specs.declared.entry.Entry.{Entry}
use Rattle.mon_queue.specs.Runs.{Run, Told, fresh, without_oldest, oldest_of, update_of}
use Rattle.mon_queue.specs.Merged.{told_with}
use Rattle.mon_queue.specs.Told.{told_by}
use Rattle.mon_queue.specs.Unread.{type_of, size_of, unread, Holds, prepared_post, IsReadyFor}
use Rattle.mon_queue.specs.Shown.{anew, first_scene, next_scene, first_post, posts_by}
use Rattle.mon_queue.specs.Course.{with_posts}
use Rattle.mon_queue.specs.declared.update.Update.{Update}
use Rattle.mon_shown.specs.Channels.{ChannelView, RecordsWatch, RecordsScene, watch, SeenAlike}
use Rattle.mon_shown.specs.declared.watching.Watching.{Watching}
use Rattle.mon_shown.specs.declared.watching.Ready.{Ready}

-- Under these numbers they are the same.
abbrev pub SameUnder : FinSet nat_cmp → LeafValues → LeafValues → Type 0
SameUnder mask a b = (k : ℕ) → contains mask k ≡ true → a k ≡ b k

-- Of the leaves that were asked for, one value has these of another, and the rest of what was shown.
abbrev pub ShowsWith : Tree → FinSet nat_cmp → FinSet nat_cmp → Data → Data → Data → Type 0
ShowsWith t requested mask shown new v =
    SameUnder requested (leaf_values t v) (over mask (leaf_values t shown) (leaf_values t new))

module _ {C : Type 0} where
  abbrev pub channel_of : Watching C → C
  channel_of x = x.channel

  -- the type of its values
  abbrev pub tree_of : Watching C → Tree
  tree_of x = type_of x.queue

  -- how many updates may be unread
  abbrev pub capacity_of : Watching C → ℕ
  capacity_of x = size_of x.queue

  -- The subscription keeps what is shown of the leaves that it asked for and, of the unread runs, their updates.
  pub record Keeps (w : RecordsWatch) (size : ℕ) (s : RecordsScene) (runs : List Run) (x : Watching C) : Type 0 where
    pub ty_is : type_of x.queue ≡ w.ty
    pub requested_is : x.requested ≡ w.requested
    pub size_is : size_of x.queue ≡ size
    pub shown_is : SameUnder w.requested (leaf_values w.ty (view x.shown)) s.shown
    pub holds : Holds x.queue runs

  -- It is one of these channels, and has this channel's type.
  pub record IsOf (has : C → Bool) (shows : C → ChannelView) (x : Watching C) : Type 0 where
    pub there : has x.channel ≡ true
    pub ty : type_of x.queue ≡ (shows x.channel).ty

  -- what it watches
  abbrev pub watch_of : (C → ChannelView) → Watching C → RecordsWatch
  watch_of shows x = watch (shows x.channel) x.requested

  -- the requested leaves that an entry takes anew
  abbrev pub anew_of : (C → ChannelView) → Watching C → Entry → FinSet nat_cmp
  anew_of shows x e = anew (watch_of shows x) e

  -- what is shown and what is unread, once this is taken that was made ready
  abbrev pub shown_with : Watching C → Option Ready → LeafValues
  shown_with x None = leaf_values (type_of x.queue) (view x.shown)
  shown_with x (Some r) = leaf_values (type_of x.queue) (view r.shown)

  abbrev pub unread_with : Watching C → Option Ready → List Told
  unread_with x None = unread x.queue
  unread_with x (Some r) = told_with (size_of x.queue) (unread x.queue) (prepared_post (type_of x.queue) r.prepared)

  -- It was made ready for the subscription as it is.
  pub record MayTake (x : Watching C) (r : Ready) : Type 0 where
    pub queue : IsReadyFor x.queue r.prepared
    pub fits : fits_of 16 (view r.shown) (type_of x.queue) ≡ true

  abbrev pub MayChange : Watching C → Option Ready → Type 0
  MayChange x None = Unit {0}
  MayChange x (Some r) = MayTake x r

  -- Once it is taken the subscription keeps this.
  pub record WillKeep (s : RecordsScene) (runs : List Run) (x : Watching C) (r : Option Ready) : Type 0 where
    pub shown_is : SameUnder x.requested (shown_with x r) s.shown
    pub unread_is : unread_with x r ≡ map update_of runs

  -- The entry was made ready: whatever the subscription keeps, it will keep that with the entry and its posts. The states may be any of
  -- which the same is seen under the leaves that the entry takes anew as of those after it.
  pub record IsReady (shows : C → ChannelView) (states : List RecState) (e : Entry) (x : Watching C) (r : Option Ready) : Type 0 where
    pub may : MayChange x r
    pub keeps : (s : RecordsScene) (runs : List Run) → let w = watch_of shows x in
        Keeps w (size_of x.queue) s runs x → SeenAlike w (anew w e) states (w.next s.state e)
        → WillKeep (next_scene w s e) (with_posts (size_of x.queue) runs (posts_by w s e)) x r

  -- It was taken.
  pub record Took (x : Watching C) (r : Option Ready) (y : Watching C) : Type 0 where
    pub shown_is : leaf_values (type_of x.queue) (view y.shown) ≡ shown_with x r
    pub unread_is : unread y.queue ≡ unread_with x r
    pub size : size_of y.queue ≡ size_of x.queue
    pub ty : type_of y.queue ≡ type_of x.queue
    pub requested : y.requested ≡ x.requested
    pub channel : y.channel ≡ x.channel

  -- The subscription begins where the records have states of which under the requested leaves the same is seen as of these.
  pub record Begins (has : C → Bool) (shows : C → ChannelView) (channel : C) (mask : FinSet nat_cmp) (size : ℕ) (states : List RecState) (x : Watching C) : Type 0 where
    pub is_of : IsOf has shows x
    pub channel_is : x.channel ≡ channel
    pub requested_is : x.requested ≡ mask
    pub keeps : (at : List RecState) → let w = watch (shows channel) mask in
        SeenAlike w mask states at → Keeps w size (first_scene w at) (fresh (first_post w at) ∷ []) x

  -- A pop took this update.
  pub record Popped (x : Watching C) (u : Option Update) (y : Watching C) : Type 0 where
    pub keeps : (w : RecordsWatch) (size : ℕ) (s : RecordsScene) (runs : List Run) → Keeps w size s runs x → Keeps w size s (without_oldest runs) y
    pub told : (w : RecordsWatch) (size : ℕ) (s : RecordsScene) (runs : List Run) → Keeps w size s runs x → option_map (told_by w.ty) u ≡ oldest_of runs
    pub ty : type_of y.queue ≡ type_of x.queue
    pub requested : y.requested ≡ x.requested
    pub channel : y.channel ≡ x.channel
