-- A beginning keeps what is kept of all seats.
use Rattle.std.specs.Prelude.{◌≡◌, ◌≢◌, ℕ, ◌<◌, ◌≤◌, Bool, true, false, cond, List, [], ◌∷◌, ◌++◌, length, Option, Some, is_some, Result, Ok, Err, IfOk, IfErr, OnErr, refl}
use Rattle.std.proofs.Common.{sym, ◌∙◌, ap, subst, arith, eqb}
use Rattle.std.proofs.lemmas.Bool.{eq-eqb, ne_eqb}
use Rattle.std.specs.Ordering.{nat_cmp}
use Rattle.std.specs.FinSet.{FinSet, contains-is_subset}
use Rattle.std.specs.Cmp.{nat_cmp_total}
use Rattle.pvd_type.specs.Tree.{Tree}
use Rattle.rec_kinds.specs.declared.state.RecState.{RecState}
use Rattle.journal_core.specs.Histories.{state_at as replayed_at}
use Rattle.mon_queue.specs.Told.{are_leaves}
use Rattle.mon_shown.specs.Answers.{IsCause}
use Rattle.mon_shown.specs.Channels.{watch, SeenAlike}
use Rattle.mon_shown.specs.Keeping.{Begins}
use Rattle.mon_shown.specs.Rolls.{holder_with, holder, is_held, alive, IsLeastFree, Follows}
use Rattle.mon_shown.specs.Slots.{slot_in, is_filled, Stand, OtherSlotsStay, SlotsStay, IsFirstFree, IsFull}
use Rattle.mon_shown.specs.declared.roll.RollItem.TheVariants as items
use Rattle.mon_shown.specs.declared.slots.NotBegun.{NotBegun}
use Rattle.mon_shown.specs.declared.slots.NotBegun.TheVariants.{TooMany, NoMemory}
use Rattle.mon_shown.specs.declared.watching.Watching.{Watching}
use Rattle.desk_api.specs.History.{History, Item, roll, state_at}
use Rattle.desk_api.specs.Living.{Living, living}
use Rattle.desk_api.specs.Marks.{IsTrueBegun}
use Rattle.desk_api.specs.Triggers.{channel_view, may_be_watched}
use Rattle.desk_api.specs.Types.{HoldsLeaves}
use Rattle.desk_api.specs.declared.channel.Channel.{Channel}
use Rattle.desk_api.specs.declared.history.Base.{Base}
use Rattle.desk_api.specs.declared.history.SiteData.{SiteData}
use Rattle.desk_api.specs.declared.mark.Mark.{Mark}
use Rattle.desk_api.specs.declared.mark.Mark.TheVariants.{Begun}
use Rattle.desk_hub.specs.Seats.{Subs, now, only, is_holder, own_slot, KeepsLiving, KeepsSlot, SlotsStand, KeepsSeat}
use Rattle.desk_hub.specs.Steps.{KeepsAll, Rolls, StartsAsItBegins, StartsNot}
use Rattle.desk_hub.proofs.Logs.{at_each, if_here, if_else, living_more, free_of, lives_where_held}
use Rattle.desk_hub.proofs.Living.{within, living_begun}
use Rattle.desk_hub.proofs.Rolling.{base_same, now_same, item_there, before_item, holder_now, stand_rolled, slot_else, seat_rolled}

-- the laws of the roll, for a beginning
pub record BeginsFollow : Type 0 where
  pub least : (roll : List (ℕ × Item)) (subs : Subs) (slot : ℕ) → Follows roll subs → IsFirstFree subs slot → IsLeastFree roll slot
  pub full : (roll : List (ℕ × Item)) (subs : Subs) → Follows roll subs → IsFull subs → alive roll ≡ 1024
  pub few : (roll : List (ℕ × Item)) (slot : ℕ) → slot < 1024 → is_held roll slot ≡ false → alive roll < 1024
  pub begins : (roll : List (ℕ × Item)) (subs more : Subs) (seat slot size : ℕ) (channel : Channel) (mask : FinSet nat_cmp) → Follows roll subs → OtherSlotsStay subs slot more → is_filled more slot ≡ true
      → Follows (roll ++ (seat, items.Begins slot channel mask size) ∷ []) more

pub leaves_of : (t : Tree) (mask : FinSet nat_cmp) → HoldsLeaves t mask → are_leaves t mask ≡ true
leaves_of t mask holds = contains-is_subset nat_cmp_total _ _ (λ k is. holds k is)

pub starts_not : BeginsFollow → (subs more : Subs) (e : NotBegun) → SlotsStay subs more → IsCause subs e → StartsNot subs more e
starts_not law subs more TooMany stay cause = (stay, λ h t. law.full (roll h) subs t.held cause)
starts_not law subs more NoMemory stay cause = stay

module _ (law : BeginsFollow) (subs more : Subs) (slot size : ℕ) (channel : Channel) (mask : FinSet nat_cmp) (states : List RecState) (some : (1 ≤ size) × (size ≤ 64)) (first : IsFirstFree subs slot) (few : slot < 1024)
    (others : OtherSlotsStay subs slot more) (h k : History) (seat : ℕ) (r : Rolls h k seat (items.Begins slot channel mask size)) (stand : Stand (may_be_watched h.base.site) (channel_view h.base.site) more)
    (alike : SeenAlike (watch (channel_view h.base.site channel) mask) mask states (state_at h (now h))) (x : Watching Channel) (there : slot_in more slot ≡ Some x) (begins : Begins (may_be_watched h.base.site) (channel_view h.base.site) channel mask size states x) where
  abbrev item : Item
  item = items.Begins slot channel mask size

  abbrev new : Living
  new = record { place = now h; channel = channel; mask = mask; size = size; pops = [] }

  abbrev mark : Mark
  mark = Begun (now h) (length (roll h)) slot channel mask size

  aside : (s : ℕ) (o : Option ℕ) → eqb slot s ≡ false → holder_with s o (seat, item) ≡ o
  aside s o e = if_else slot s (Some seat) o e

  held_now : holder (roll k) slot ≡ Some seat
  held_now = holder_now h k seat item r slot ∙ if_here slot (Some seat) (holder (roll h) slot)

  state_same : state_at h (now h) ≡ state_at k (now k)
  state_same =
      sym (λ i. replayed_at (base_same h k seat item r i).site.opening (r.commits_are i) (length (r.commits_are i)))

  alike_now : SeenAlike (watch (channel_view k.base.site channel) mask) mask states (state_at k (now k))
  alike_now =
      subst (λ (b : Base). SeenAlike (watch (channel_view b.site channel) mask) mask states (state_at k (now k))) (sym (base_same h k seat item r))
      (subst (SeenAlike (watch (channel_view h.base.site channel) mask) mask states) state_same alike)

  keeps : KeepsLiving k new x
  keeps =
      subst (λ (n : ℕ). KeepsLiving k (record { place = n; channel = channel; mask = mask; size = size; pops = [] }) x) (now_same h k seat item r)
      (living_begun k channel mask size states x (subst (λ (b : Base). Begins (may_be_watched b.site) (channel_view b.site) channel mask size states x) (sym (base_same h k seat item r)) begins) alike_now some)

  module _ (st : SlotsStand h subs) where
    nobody : is_held (roll h) slot ≡ false
    nobody = sym (st.held slot) ∙ first.free

    stands : SlotsStand k more
    stands = stand_rolled h k seat item r more stand (law.begins (roll h) subs more seat slot size channel mask st.held others (ap is_some there))

  own_begun : (log : List Mark) → KeepsSeat h subs seat log → KeepsSeat k more seat (log ++ mark ∷ [])
  own_begun log t = record {
    stands = stands t.stands;
    each = λ s. subst (λ (o : Option Living). KeepsSlot k o (own_slot k seat more s)) (sym (living_more log mark s)) (step s);
  }
    where
      own : own_slot k seat more slot ≡ Some x
      own =
          ap (λ (o : Option ℕ). only (is_holder seat o) (slot_in more slot)) held_now
          ∙ ap (λ (b : Bool). only b (slot_in more slot)) (eq-eqb seat seat refl)
          ∙ there

      step : (s : ℕ) → KeepsSlot k (cond (eqb slot s) (Some new) (living log s)) (own_slot k seat more s)
      step = at_each (λ s. KeepsSlot k (cond (eqb slot s) (Some new) (living log s)) (own_slot k seat more s)) slot
          (subst (λ (o : Option Living). KeepsSlot k o (own_slot k seat more slot)) (sym (if_here slot (Some new) (living log slot)))
          (subst (KeepsSlot k (Some new)) (sym own) keeps))
          (λ s e. subst (λ (o : Option Living). KeepsSlot k o (own_slot k seat more s)) (sym (if_else slot s (Some new) (living log s) e))
          (slot_else h k seat item r subs more slot others aside seat log t s e))

  others_begun : (other : ℕ) (theirs : List Mark) → other ≢ seat → KeepsSeat h subs other theirs → KeepsSeat k more other theirs
  others_begun other theirs ne o = seat_rolled h k seat item r subs more slot others aside (stands o.stands) other theirs o
      (free_of other (holder (roll h) slot) (nobody o.stands))
      (ap (is_holder other) held_now ∙ ne_eqb seat other (λ z. ne (sym z)))

  pub begun_all : (log : List Mark) → KeepsSeat h subs seat log → KeepsAll h k subs more seat log (mark ∷ []) × IsTrueBegun k seat log (now h) (length (roll h)) slot channel mask size
  begun_all log t = (
    record { own = own_begun log t; others = others_begun },
    record {
      within = omega (arith, within k, now_same h k seat item r);
      there = item_there h k seat item r;
      least = subst (λ (roll : List (ℕ × Item)). IsLeastFree roll slot) (sym (before_item h k seat item r)) (law.least (roll h) subs slot t.stands.held first);
      few = subst (λ (roll : List (ℕ × Item)). alive roll < 1024) (sym (before_item h k seat item r)) (law.few (roll h) slot few (nobody t.stands));
      free = lives_where_held h subs seat log t slot ∙ free_of seat (holder (roll h) slot) (nobody t.stands);
      size_is = some;
    },
  )

pub starts_all : BeginsFollow → (site : SiteData) (subs more : Subs) (slot : ℕ) (x : Watching Channel) → IsFirstFree subs slot → slot < 1024 → slot_in more slot ≡ Some x → OtherSlotsStay subs slot more
    → Stand (may_be_watched site) (channel_view site) more → StartsAsItBegins site subs slot x more
starts_all law site subs more slot x first few there others stand channel mask size states some begins h k seat log is r alike t =
    begun_all law subs more slot size channel mask states some first few others h k seat r (subst (λ (z : SiteData). Stand (may_be_watched z) (channel_view z) more) (sym is) stand)
    (subst (λ (z : SiteData). SeenAlike (watch (channel_view z channel) mask) mask states (state_at h (now h))) (sym is) alike) x there
    (subst (λ (z : SiteData). Begins (may_be_watched z) (channel_view z) channel mask size states x) (sym is) begins) log t

-- what a call of the subscriptions answers

pub started : BeginsFollow → (site : SiteData) (subs more : Subs) (x : Watching Channel) → Stand (may_be_watched site) (channel_view site) more → (r : Result ℕ NotBegun) → IfOk r (IsFirstFree subs) → IfOk r (λ slot. slot < 1024)
    → IfOk r (λ slot. slot_in more slot ≡ Some x) → IfOk r (λ slot. OtherSlotsStay subs slot more) → IfOk r (λ slot. StartsAsItBegins site subs slot x more)
started law site subs more x stand (Ok slot) first few there others = starts_all law site subs more slot x first few there others stand
started law site subs more x stand (Err e) first few there others = tt

pub not_started : BeginsFollow → (subs more : Subs) (r : Result ℕ NotBegun) → OnErr r (SlotsStay subs more) → IfErr r (IsCause subs) → IfErr r (StartsNot subs more)
not_started law subs more (Ok slot) stay cause = tt
not_started law subs more (Err e) stay cause = starts_not law subs more e stay cause
