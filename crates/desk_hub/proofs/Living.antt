-- What is kept of one living subscription, through a pop, an item of the roll and an entry.
use Rattle.std.specs.Prelude.{◌≡◌, ℕ, ◌≤◌, List, [], ◌∷◌, ◌++◌, length, Option, refl}
use Rattle.std.proofs.Common.{take, drop, sym, ◌∙◌, ap, subst, arith, length-append}
use Rattle.std.proofs.lemmas.List.{map-append, take-append-drop}
use Rattle.std.proofs.lemmas.List.Sums.{fold-append}
use Rattle.std.proofs.Math.Seq.{take-length}
use Rattle.std.specs.Ordering.{nat_cmp}
use Rattle.std.specs.FinSet.{FinSet}
use Rattle.rec_kinds.specs.declared.state.RecState.{RecState}
use Rattle.journal_core.specs.declared.entry.Entry.{Entry}
use Rattle.journal_core.specs.Histories.{written, replayed, state_at as replayed_at}
use Rattle.journal_core.proofs.Growing.{same_state}
use Rattle.histories.proofs.Stories.{as_many}
use Rattle.mon_queue.specs.Runs.{Run, without_oldest}
use Rattle.mon_queue.specs.Shown.{anew, first_scene, next_scene, scene_after, posts_by}
use Rattle.mon_queue.specs.Course.{Subscription, Course, AreBetween, with_posts, begun, scene_at, unread_at, popped_at, after_pops}
use Rattle.mon_queue.specs.declared.update.Update.{Update}
use Rattle.mon_shown.specs.Channels.{ChannelView, RecordsWatch, RecordsScene, watch, SeenAlike}
use Rattle.mon_shown.specs.Keeping.{Keeps, IsReady, Took, Begins, Popped, watch_of, capacity_of}
use Rattle.mon_shown.specs.declared.watching.Watching.{Watching}
use Rattle.mon_shown.specs.declared.watching.Ready.{Ready}
use Rattle.desk_api.specs.History.{History, commits, entries, state_at}
use Rattle.desk_api.specs.Living.{Living, popped_too, subscription, pop_places, course, unread_of, IsOldest, PopsUpTo}
use Rattle.desk_api.specs.Triggers.{channel_view, may_be_watched}
use Rattle.desk_api.specs.declared.channel.Channel.{Channel}
use Rattle.desk_api.specs.declared.history.Base.{Base}
use Rattle.desk_hub.specs.Seats.{now, KeepsLiving}
use Rattle.desk_hub.proofs.Courses.{between_ends, between_pop, between_up, scene_here, unread_here, pop_later, place_between, course_same, scene_next, unread_next}

pub within : (h : History) → now h ≡ length (entries h)
within h = sym (as_many h.deeds)

-- the subscription after these entries of a desk with this base
abbrev pub subscribed : Base → List Entry → Living → Subscription (List RecState) Entry
subscribed base es l = record {
  watch = watch (channel_view base.site l.channel) l.mask;
  size = l.size;
  place = l.place;
  state = replayed_at base.site.opening es l.place;
}

-- what is kept of it at their end
abbrev KeepsOf : Subscription (List RecState) Entry → List Entry → Living → Watching Channel → Type 0
KeepsOf sub es l x = Keeps sub.watch l.size (scene_at sub es (length es)) (unread_at sub es (after_pops sub es (begun sub) (pop_places l)) (length es)) x

abbrev KeepsIn : Base → List Entry → Living → Watching Channel → Type 0
KeepsIn base es l x = KeepsOf (subscribed base es l) es l x

-- a pop

pub unread_popped : (h : History) (l : Living) (n : ℕ) (u : Option Update) → unread_of h (popped_too n u l) n ≡ without_oldest (unread_of h l n)
unread_popped h l n u =
    let sub = subscription h l in
    let es = commits h in
    ap (λ (pops : List ℕ). unread_at sub es (after_pops sub es (begun sub) pops) n) (map-append (λ (p : ℕ × Option Update). p.0) l.pops ((n, u) ∷ []))
    ∙ ap (λ (c : Course). unread_at sub es c n) (pop_later sub es (pop_places l) (begun sub) n)
    ∙ unread_here sub es (popped_at sub es (course h l) n)

pub pops_later : (l : Living) (n : ℕ) (u : Option Update) → PopsUpTo l n → PopsUpTo (popped_too n u l) n
pops_later l n u up = subst (λ (pops : List ℕ). AreBetween l.place pops n) (sym (map-append (λ (p : ℕ × Option Update). p.0) l.pops ((n, u) ∷ []))) (between_pop l.place (pop_places l) n up)

pub living_popped : (h : History) (l : Living) (x y : Watching Channel) (u : Option Update) → KeepsLiving h l x → Popped x u y → KeepsLiving h (popped_too (now h) u l) y
living_popped h l x y u k p = record {
  channel_is = p.channel ∙ k.channel_is;
  keeps =
      subst (λ (runs : List Run). Keeps (subscription h l).watch l.size (scene_at (subscription h l) (commits h) (now h)) runs y) (sym (unread_popped h l (now h) u))
      (p.keeps (subscription h l).watch l.size (scene_at (subscription h l) (commits h) (now h)) (unread_of h l (now h)) k.keeps);
  later = pops_later l (now h) u k.later;
  size_is = k.size_is;
}

pub oldest_popped : (h : History) (l : Living) (x y : Watching Channel) (u : Option Update) → KeepsLiving h l x → Popped x u y → IsOldest h l (now h) u
oldest_popped h l x y u k p = p.told (subscription h l).watch l.size (scene_at (subscription h l) (commits h) (now h)) (unread_of h l (now h)) k.keeps

-- an item of the roll

pub living_rolled : (h k : History) → k.base ≡ h.base → commits k ≡ commits h → (l : Living) (x : Watching Channel) → KeepsLiving h l x → KeepsLiving k l x
living_rolled h k base same l x t = record {
  channel_is = t.channel_is;
  keeps = subst (λ (b : Base). KeepsIn b (commits k) l x) (sym base) (subst (λ (es : List Entry). KeepsIn h.base es l x) (sym same) t.keeps);
  later = subst (PopsUpTo l) (sym (ap length same)) t.later;
  size_is = t.size_is;
}

-- a beginning at the end of a history
pub living_begun : (h : History) (channel : Channel) (mask : FinSet nat_cmp) (size : ℕ) (states : List RecState) (x : Watching Channel)
    → Begins (may_be_watched h.base.site) (channel_view h.base.site) channel mask size states x
    → SeenAlike (watch (channel_view h.base.site channel) mask) mask states (state_at h (now h)) → (1 ≤ size) × (size ≤ 64)
    → KeepsLiving h (record { place = now h; channel = channel; mask = mask; size = size; pops = [] }) x
living_begun h channel mask size states x b alike some =
    let l : Living = record { place = now h; channel = channel; mask = mask; size = size; pops = [] } in
    let sub = subscription h l in
    let first = b.keeps (state_at h (now h)) alike in
    record {
      channel_is = b.channel_is;
      keeps =
          subst (λ (s : RecordsScene). Keeps sub.watch size s (unread_of h l (now h)) x) (sym (scene_here sub (commits h)))
          (subst (λ (runs : List Run). Keeps sub.watch size (first_scene sub.watch sub.state) runs x) (sym (unread_here sub (commits h) (begun sub))) first);
      later = omega arith;
      size_is = some;
    }

-- an entry

state_after : (c : ChannelView) (mask : FinSet nat_cmp) (s : RecordsScene) (es : List Entry) → (scene_after (watch c mask) s es).state ≡ replayed s.state es
state_after c mask s [] = refl
state_after c mask s (e ∷ es) = state_after c mask (next_scene (watch c mask) s e) es

pub scene_state : (h : History) (l : Living) → (scene_at (subscription h l) (commits h) (now h)).state ≡ state_at h (now h)
scene_state h l =
    let sub = subscription h l in
    let es = commits h in
    let opening = h.base.site.opening in
    state_after (channel_view h.base.site l.channel) l.mask (first_scene sub.watch sub.state) (drop l.place (take (length es) es))
    ∙ ap (λ (more : List Entry). replayed (replayed opening (take l.place es)) (drop l.place more)) (take-length es)
    ∙ sym (fold-append (λ s e. written s e.writes) opening (take l.place es) (drop l.place es))
    ∙ ap (replayed opening) (take-append-drop l.place es ∙ sym (take-length es))

-- the law of entries, for one subscription
abbrev pub EntriesAreKept : Type 0
EntriesAreKept = (shows : Channel → ChannelView) (states : List RecState) (e : Entry) (x y : Watching Channel) (r : Option Ready) → IsReady shows states e x r → Took x r y
    → (s : RecordsScene) (runs : List Run) → Keeps (watch_of shows x) (capacity_of x) s runs x → SeenAlike (watch_of shows x) (anew (watch_of shows x) e) states ((watch_of shows x).next s.state e)
    → Keeps (watch_of shows x) (capacity_of x) (next_scene (watch_of shows x) s e) (with_posts (capacity_of x) runs (posts_by (watch_of shows x) s e)) y

-- the same for what a living subscription watches
abbrev IsKept : RecordsWatch → ℕ → List RecState → Entry → RecordsScene → List Run → Watching Channel → Watching Channel → Type 0
IsKept w size states e s runs x y =
    Keeps w size s runs x → SeenAlike w (anew w e) states (w.next s.state e) → Keeps w size (next_scene w s e) (with_posts size runs (posts_by w s e)) y

module _ (kept : EntriesAreKept) (h k : History) (e : Entry) (base : k.base ≡ h.base) (one : commits k ≡ commits h ++ e ∷ []) (states : List RecState) where
  pub living_entered : (l : Living) (x y : Watching Channel) (r : Option Ready) → IsReady (channel_view h.base.site) states e x r → Took x r y
      → SeenAlike (watch_of (channel_view h.base.site) x) (anew (watch_of (channel_view h.base.site) x) e) states (written (state_at h (now h)) e.writes)
      → KeepsLiving h l x → KeepsLiving k l y
  living_entered l x y r ready took alike t =
      let es = commits h in
      let more = commits h ++ e ∷ [] in
      let sub = subscription h l in
      let shows = channel_view h.base.site in
      let c = course h l in
      let s = scene_at sub es (now h) in
      let runs = unread_of h l (now h) in
      let began : l.place ≤ now h = between_ends l.place (pop_places l) (now h) t.later in
      let places = place_between sub es (pop_places l) (begun sub) (now h) t.later in
      let watched : watch_of shows x ≡ sub.watch = λ i. watch (shows (t.channel_is i)) (t.keeps.requested_is i) in
      let law : IsKept sub.watch l.size states e s runs x y =
      subst (λ (n : ℕ). IsKept sub.watch n states e s runs x y) t.keeps.size_is
      (subst (λ (w : RecordsWatch). IsKept w (capacity_of x) states e s runs x y) watched (kept shows states e x y r ready took s runs)) in
      let seen : SeenAlike sub.watch (anew sub.watch e) states (written s.state e.writes) =
      subst (λ (z : List RecState). SeenAlike sub.watch (anew sub.watch e) states (written z e.writes)) (sym (scene_state h l))
      (subst (λ (w : RecordsWatch). SeenAlike w (anew w e) states (written (state_at h (now h)) e.writes)) watched alike) in
      let made = law t.keeps seen in
      let state : subscribed h.base more l ≡ sub =
      ap (λ (z : List RecState). record { watch = watch (shows l.channel) l.mask; size = l.size; place = l.place; state = z }) (same_state h.base.site.opening es (e ∷ []) l.place began) in
      let later : after_pops sub more (begun sub) (pop_places l) ≡ c = course_same sub es (e ∷ []) (pop_places l) (begun sub) t.later in
      let all : KeepsOf sub more l y =
      subst (λ (d : Course). Keeps sub.watch l.size (scene_at sub more (length more)) (unread_at sub more d (length more)) y) (sym later)
      (subst (λ (z : RecordsScene). Keeps sub.watch l.size z (unread_at sub more c (length more)) y) (sym (scene_next sub es e began))
      (subst (λ (z : List Run). Keeps sub.watch l.size (next_scene sub.watch s e) z y) (sym (unread_next sub es e c places.0 places.1)) made)) in
      record {
        channel_is = took.channel ∙ t.channel_is;
        keeps =
            subst (λ (b : Base). KeepsIn b (commits k) l y) (sym base)
            (subst (λ (cs : List Entry). KeepsIn h.base cs l y) (sym one) (subst (λ (z : Subscription (List RecState) Entry). KeepsOf z more l y) (sym state) all));
        later = between_up l.place (pop_places l) (now h) (now k) (omega (arith, ap length one, length-append es (e ∷ []))) t.later;
        size_is = t.size_is;
      }
