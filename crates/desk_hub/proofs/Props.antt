-- What is kept of a seat is kept in one way at most, so that a ghost field can hold it.
use Rattle.std.specs.Prelude.{◌≡◌, ℕ, ◌≤◌, Bool, true, false, List, [], ◌∷◌, map, Option, None, Some, refl}
use Rattle.std.proofs.Props.{props}
use Rattle.std.proofs.lemmas.Bool.{false≢true}
use Rattle.std.specs.Bool.{Decides}
use Rattle.std.specs.Coded.{Coded, coded_ℕ}
use Rattle.std.specs.FinSet.{FinSet, code}
use Rattle.std.specs.Ordering.{nat_cmp}
use mathlib.Core.HLevel.{hedberg}
use Rattle.pvd_type.specs.Tree.{Tree}
use Rattle.pvd_type.specs.SameLaws.{same_tree-Decides}
use Rattle.pvd_value.specs.Data.{Data}
use Rattle.pvd_value.specs.LeafValues.{LeafValues, leaf_values}
use Rattle.pvd_value.specs.Same.{same_data}
use Rattle.pvd_value.specs.View.{view}
use Rattle.pvd_value.proofs.Sameness.{same_data-Decides}
use Rattle.mon_queue.specs.Course.{AreBetween, scene_at}
use Rattle.mon_queue.specs.Runs.{Run, Told, update_of}
use Rattle.mon_queue.specs.Unread.{type_of, size_of, unread}
use Rattle.mon_shown.specs.Channels.{ChannelView, RecordsWatch, RecordsScene}
use Rattle.mon_shown.specs.Keeping.{channel_of, IsOf, SameUnder, Keeps}
use Rattle.mon_shown.specs.Noting.{names}
use Rattle.mon_shown.specs.Rolls.{is_held}
use Rattle.mon_shown.specs.Slots.{slot_in, is_concerned, is_filled, Stand}
use Rattle.mon_shown.specs.declared.watching.Watching.{Watching}
use Rattle.desk_api.specs.History.{History, commits, roll}
use Rattle.desk_api.specs.Living.{Living, living, pop_places, subscription, unread_of}
use Rattle.desk_api.specs.Triggers.{channel_view, may_be_watched}
use Rattle.desk_api.specs.declared.channel.Channel.{Channel}
use Rattle.desk_api.specs.declared.mark.Mark.{Mark}
use Rattle.desk_hub.specs.Seats.{Subs, now, own_slot, KeepsLiving, KeepsSlot, SlotsStand, KeepsSeat}

discrete_by : {X : Type 0} (same : X → X → Bool) → ((x y : X) → Decides (same x y) (x ≡ y)) → Discrete X
discrete_by same d x y = step (same x y) (d x y)
  where
    step : (b : Bool) → Decides b (x ≡ y) → Dec (x ≡ y)
    step true t = yes (t.0 refl)
    step false t = no (λ z. false≢true (t.1 z))

data_set : IsSet Data
data_set = hedberg (discrete_by same_data same_data-Decides)

tree_set : IsSet Tree
tree_set = hedberg (discrete_by _ same_tree-Decides)

leaf_set : IsSet (Option Data)
leaf_set = hlevel (props, data_set)

same_prop : (mask : FinSet nat_cmp) (a b : LeafValues) → IsProp (SameUnder mask a b)
same_prop mask a b f g = λ i k asked. leaf_set (a k) (b k) (f k asked) (g k asked) i

mask_coded : Coded (FinSet nat_cmp)
mask_coded = code coded_ℕ

told_set : IsSet Told
told_set = hlevel (props, data_set, mask_coded)

keeps_prop : (w : RecordsWatch) (size : ℕ) (s : RecordsScene) (runs : List Run) (x : Watching Channel) → IsProp (Keeps w size s runs x)
keeps_prop w size s runs x a b =
    let ty_prop : IsProp (type_of x.queue ≡ w.ty) = tree_set (type_of x.queue) w.ty in
    let requested_prop : IsProp (x.requested ≡ w.requested) = hlevel (props, mask_coded) in
    let size_prop : IsProp (size_of x.queue ≡ size) = hlevel props in
    let shown_prop : IsProp (SameUnder w.requested (leaf_values w.ty (view x.shown)) s.shown) = same_prop w.requested (leaf_values w.ty (view x.shown)) s.shown in
    let holds_prop : IsProp (unread x.queue ≡ map update_of runs) = hlevel (props, told_set) in
    λ i. record {
      ty_is = ty_prop a.ty_is b.ty_is i;
      requested_is = requested_prop a.requested_is b.requested_is i;
      size_is = size_prop a.size_is b.size_is i;
      shown_is = shown_prop a.shown_is b.shown_is i;
      holds = holds_prop a.holds b.holds i;
    }

between_prop : (m : ℕ) (pops : List ℕ) (n : ℕ) → IsProp (AreBetween m pops n)
between_prop m [] n = hlevel props
between_prop m (p ∷ pops) n = λ a b i. (le a.0 b.0 i, between_prop p pops n a.1 b.1 i)
  where
    le : IsProp (m ≤ p)
    le = hlevel props

living_prop : (h : History) (l : Living) (x : Watching Channel) → IsProp (KeepsLiving h l x)
living_prop h l x a b =
    let channel_prop : IsProp (channel_of x ≡ l.channel) = hlevel props in
    let size_prop : IsProp ((1 ≤ l.size) × (l.size ≤ 64)) = hlevel props in
    λ i. record {
      channel_is = channel_prop a.channel_is b.channel_is i;
      keeps = keeps_prop (subscription h l).watch l.size (scene_at (subscription h l) (commits h) (now h)) (unread_of h l (now h)) x a.keeps b.keeps i;
      later = between_prop l.place (pop_places l) (now h) a.later b.later i;
      size_is = size_prop a.size_is b.size_is i;
    }

slot_prop : (h : History) (o : Option Living) (x : Option (Watching Channel)) → IsProp (KeepsSlot h o x)
slot_prop h None None = hlevel props
slot_prop h None (Some x) = hlevel props
slot_prop h (Some l) None = hlevel props
slot_prop h (Some l) (Some x) = living_prop h l x

of_prop : (has : Channel → Bool) (shows : Channel → ChannelView) (x : Watching Channel) → IsProp (IsOf has shows x)
of_prop has shows x a b =
    let there_prop : IsProp (has x.channel ≡ true) = hlevel props in
    let ty_prop : IsProp (type_of x.queue ≡ (shows x.channel).ty) = tree_set (type_of x.queue) (shows x.channel).ty in
    λ i. record { there = there_prop a.there b.there i; ty = ty_prop a.ty b.ty i }

bool_prop : (a b : Bool) → IsProp (a ≡ b)
bool_prop a b = hlevel props

stand_prop : (has : Channel → Bool) (shows : Channel → ChannelView) (subs : Subs) → IsProp (Stand has shows subs)
stand_prop has shows subs a b = λ i. record {
  is_of = λ slot x there. of_prop has shows x (a.is_of slot x there) (b.is_of slot x there) i;
  listed = λ slot rec. bool_prop (names subs.index rec slot) (is_concerned shows rec (slot_in subs slot)) (a.listed slot rec) (b.listed slot rec) i;
}

slots_prop : (h : History) (subs : Subs) → IsProp (SlotsStand h subs)
slots_prop h subs a b = λ i. record {
  stand = stand_prop (may_be_watched h.base.site) (channel_view h.base.site) subs a.stand b.stand i;
  held = λ slot. bool_prop (is_filled subs slot) (is_held (roll h) slot) (a.held slot) (b.held slot) i;
}

pub seat_prop : (h : History) (subs : Subs) (seat : ℕ) (log : List Mark) → IsProp (KeepsSeat h subs seat log)
seat_prop h subs seat log a b = λ i. record {
  stands = slots_prop h subs a.stands b.stands i;
  each = λ slot. slot_prop h (living log slot) (own_slot h seat subs slot) (a.each slot) (b.each slot) i;
}
