-- An entry that is posted keeps what is kept of all seats.
use Rattle.std.specs.Prelude.{◌≡◌, ℕ, Bool, true, false, List, Option, None, Some, is_some, refl}
use Rattle.std.proofs.Common.{sym, ◌∙◌, ap, subst}
use Rattle.rec_kinds.specs.declared.state.RecState.{RecState}
use Rattle.journal_core.specs.declared.entry.Entry.{Entry}
use Rattle.journal_core.specs.Histories.{written}
use Rattle.mon_queue.specs.Shown.{anew}
use Rattle.mon_shown.specs.Channels.{ChannelView, SeenAlike}
use Rattle.mon_shown.specs.Keeping.{watch_of}
use Rattle.mon_shown.specs.Rolls.{holder, is_held}
use Rattle.mon_shown.specs.Slots.{slot_in, ready_in, Stand, SlotReady, SlotTook, AreReady, TookAll}
use Rattle.mon_shown.specs.declared.subscriptions.Readied.{Readied}
use Rattle.mon_shown.specs.declared.watching.Watching.{Watching}
use Rattle.mon_shown.specs.declared.watching.Ready.{Ready}
use Rattle.desk_api.specs.History.{History, Item, state_at}
use Rattle.desk_api.specs.Living.{Living, living}
use Rattle.desk_api.specs.Triggers.{channel_view, may_be_watched}
use Rattle.desk_api.specs.declared.channel.Channel.{Channel}
use Rattle.desk_api.specs.declared.history.Base.{Base}
use Rattle.desk_api.specs.declared.history.SiteData.{SiteData}
use Rattle.desk_api.specs.declared.mark.Mark.{Mark}
use Rattle.desk_api.specs.declared.mark.Mark.TheVariants.{Entered}
use Rattle.desk_hub.specs.Seats.{Subs, now, only, is_holder, has_slot, own_slot, KeepsSlot, KeepsSeat}
use Rattle.desk_hub.specs.Steps.{Commits, SeenAsAfter, Posts}
use Rattle.desk_hub.proofs.Logs.{no_some, marked}
use Rattle.desk_hub.proofs.Living.{EntriesAreKept, living_entered}

filled_took : (x : Option (Watching Channel)) (r : Option Ready) (y : Option (Watching Channel)) → SlotTook x r y → is_some y ≡ is_some x
filled_took None r y t = ap is_some t
filled_took (Some x) r None t = absurd t
filled_took (Some x) r (Some y) t = refl

abbrev IsSeen : History → Entry → List RecState → Watching Channel → Type 0
IsSeen h e states x =
    SeenAlike (watch_of (channel_view h.base.site) x) (anew (watch_of (channel_view h.base.site) x) e) states (written (state_at h (now h)) e.writes)

module _ (kept : EntriesAreKept) (h k : History) (seat : ℕ) (e : Entry) (c : Commits h k seat e) (states : List RecState) where
  slot_entered : (o : Option Living) (x : Option (Watching Channel)) (r : Option Ready) (y : Option (Watching Channel)) → SlotReady (channel_view h.base.site) states e x r → SlotTook x r y
      → ((z : Watching Channel) → x ≡ Some z → IsSeen h e states z) → KeepsSlot h o x → KeepsSlot k o y
  slot_entered None None r y ready took seen t = subst (KeepsSlot k None) (sym took) tt
  slot_entered None (Some x) r y ready took seen t = absurd t
  slot_entered (Some l) None r y ready took seen t = absurd t
  slot_entered (Some l) (Some x) r None ready took seen t = absurd took
  slot_entered (Some l) (Some x) r (Some y) ready took seen t = living_entered kept h k e c.goes_on.base c.commits_are states l x y r ready took (seen x refl) t

  module _ (subs more : Subs) (rs : Readied) (are : AreReady (channel_view h.base.site) states e subs rs) (took : TookAll subs rs more)
      (stays : (has : Channel → Bool) (shows : Channel → ChannelView) → Stand has shows subs → Stand has shows more) (seen : SeenAsAfter h e states subs) where
    own_entered : (of : ℕ) (log : List Mark) → KeepsSeat h subs of log → (s : ℕ) → KeepsSlot k (living log s) (own_slot h of more s)
    own_entered of log t s = step (has_slot h of s) (t.each s)
      where
        step : (b : Bool) → KeepsSlot h (living log s) (only b (slot_in subs s)) → KeepsSlot k (living log s) (only b (slot_in more s))
        step true was = slot_entered (living log s) (slot_in subs s) (ready_in rs s) (slot_in more s) (are.each s) (took s) (λ z is. seen s z is) was
        step false was = slot_entered (living log s) None None None tt refl (λ z is. absurd (no_some refl is)) was

    pub entered : (of : ℕ) (log : List Mark) → KeepsSeat h subs of log → KeepsSeat k more of log
    entered of log t = record {
      stands = record {
        stand = subst (λ (b : Base). Stand (may_be_watched b.site) (channel_view b.site) more) (sym c.goes_on.base) (stays (may_be_watched h.base.site) (channel_view h.base.site) t.stands.stand);
        held = λ s. filled_took (slot_in subs s) (ready_in rs s) (slot_in more s) (took s) ∙ t.stands.held s ∙ ap (λ (items : List (ℕ × Item)). is_held items s) (sym c.roll_is);
      };
      each = λ s. subst (λ (items : List (ℕ × Item)). KeepsSlot k (living log s) (only (is_holder of (holder items s)) (slot_in more s))) (sym c.roll_is) (own_entered of log t s);
    }

pub posts_all : EntriesAreKept → (subs more : Subs) (rs : Readied) → TookAll subs rs more → ((has : Channel → Bool) (shows : Channel → ChannelView) → Stand has shows subs → Stand has shows more)
    → (site : SiteData) (states : List RecState) (e : Entry) → AreReady (channel_view site) states e subs rs → Posts site states e subs more
posts_all kept subs more rs took stays site states e are h k seat log looked found is c seen t =
    let all = entered kept h k seat e c states subs more rs (subst (λ (z : SiteData). AreReady (channel_view z) states e subs rs) (sym is) are) took stays seen in
    record {
      own = marked k more seat log (all seat log t) (Entered (now h) e looked found) (λ slot o. refl);
      others = λ other theirs ne o. all other theirs o;
    }
