-- A session keeps its subscriptions.
use Rattle.std.proofs.Common.{◌≡◌, ◌≢◌, ◌==◌, ℕ, Bool, true, false, ◌||◌, cond, List, [], ◌∷◌, ◌++◌, Option, None, Some, Result, Ok, Err, refl, sym, ◌∙◌, ap, subst, arith, append_assoc, inl, inr}
use Rattle.std.specs.Prelude.{◌⊎◌, is_some, option_map, OnOk}
use Rattle.std.specs.FinMap.{get as at, insert, remove, keys, get-empty, get-retain_keys, nat_cmp-IsAntisymmetric}
use Rattle.std.specs.FinSet.{FinSet}
use Rattle.std.specs.List.{flat_map, list_any}
use Rattle.std.specs.Ordering.{nat_cmp}
use Rattle.std.proofs.lemmas.Bool.{false≢true}
use Rattle.std.proofs.lemmas.Bool.Decides.{nat_tests}
use Rattle.std.proofs.lemmas.List.{append-nil}
use Rattle.std.proofs.lemmas.Option.{none-some}
use Rattle.pva_wire.specs.declared.order.Order.{Order}
use Rattle.pva_messages.specs.Subcommands.{ends}
use Rattle.pvd_desc.specs.Types.{Types}
use Rattle.pvd_request.specs.declared.request.Request.{Request as Wanted}
use Rattle.mon_queue.specs.declared.update.Update.{Update}
use Rattle.histories.specs.History.{AllTrue}
use Rattle.histories.proofs.Judged.{true_weaken, true_front, true_back}
use Rattle.desk_api.proofs.Staying.{gets_leave, puts_leave, put_gets_leave, snapshots_leave}
use Rattle.desk_api.specs.Calls as calls
use Rattle.desk_api.specs.Calls.{IsPartOfGet, IsPartOfSnapshot, AreSubscribe, IsEnding}
use Rattle.desk_api.specs.History.{History}
use Rattle.desk_api.specs.Living.{Living, living, lives, living_after, popped_too}
use Rattle.desk_api.specs.Marks.{IsTrueIn, AllHold}
use Rattle.desk_api.specs.declared.channel.Channel.{Channel}
use Rattle.desk_api.specs.declared.history.SiteData.{SiteData}
use Rattle.desk_api.specs.declared.mark.Mark.{Mark}
use Rattle.desk_api.specs.declared.mark.Mark.TheVariants.{Read, Entered, Overweight, Begun, Crowded, Popped, Dropped}
use Rattle.desk_api.specs.declared.sub.Sub.{Sub}
use Rattle.desk_api.specs.declared.sub.SubAnswer.{SubAnswer}
use Rattle.desk_api.specs.declared.sub.SubAnswer.TheVariants as sub_answers
use Rattle.srv_session.specs.State.{State, Channels, Requests, Asked, channel_at, is_on, on_only, without_channel, slot_of_sub, slot_of, slots_of, opening}
use Rattle.srv_session.specs.Tasks.{Task, pass_over, echo_control, refuse, tell, validate, echo, create, destroy_channel, begin, get, put, put_get, respond, snapshot, subscribe, steer, destroy_request, Hearing, asks, unreadable, over_range, heard}
use Rattle.srv_session.specs.Replies.{Sent}
use Rattle.srv_session.specs.Rows.{asked, Says, Row, Part, NoPart, AreEndingsOf, subscribed, ask_of, monitor_of, steered, behind, after_task, left_by, all_opened}
use Rattle.srv_session.specs.Steps.{Step, hears, pops, knowing, IsAnswer, IsPopOf, PartOf, IsFreeBegun, IsStep, AreSteps, one_sent, with_sent, after_pop, after_hearing, after_step, left_by_hearing, state_after, marks_in, marks_of}
use Rattle.srv_session.specs.Calls.{IsHeld, Holds, AreLiving, ArePopsOf, Shown, site_of, Heeds, Handles, Pumps}
use Rattle.srv_session.specs.declared.stop.SessionStop.{SessionStop}
use Rattle.srv_session.specs.declared.stop.SessionStop.TheVariants as stops
use Rattle.pva_frames.specs.declared.event.Event.{Event}
use Rattle.pvd_type.specs.declared.memory.NoMemory.{NoMemory}
use Rattle.desk_api.specs.declared.mark.Seat.{Seat}
use Rattle.journal_core.specs.Moments.{Moment}
use Rattle.srv_session.proofs.Rows.{whole_is_part, snapshot_is_part}
use Rattle.srv_session.proofs.Owning.{AllLeave, living_append, Has, unended, OwnsAmong, owner, owner_here, owner_among, has_not, keys_once, NoneTwice}
use Rattle.srv_session.proofs.OnSite.{IsTaskOf, IsHeardOf, heard_so, knows, all_stay}
use Rattle.srv_session.proofs.Tables.{same_or_not, got_inserted, got_beside, got_removed, got_left, left_beside, stays_elsewhere}

-- Rows without monitors leave what lives.

-- a get, as its desk answers that memory ran out behind all of its looks
pub get_leaves : (site : SiteData) (channel : Channel) (atomic : Option Bool) (marks : List Mark) → IsPartOfGet site channel atomic marks → AllLeave marks
get_leaves site channel atomic marks p slot o = gets_leave slot o site channel atomic (Err (record {})) marks p

pub snapshot_leaves : (site : SiteData) (marks : List Mark) → IsPartOfSnapshot site marks → AllLeave marks
snapshot_leaves site marks p slot o = snapshots_leave slot o {Z = Unit {0}} site (Err (record {})) marks p

-- A subscription's mark: it began in a slot, or none began.

pub data Subscribes (channel : Channel) (mask : FinSet nat_cmp) (marks : List Mark) : Type 0 where
  began : (place index slot size : ℕ) → marks ≡ Begun place index slot channel mask size ∷ [] → Subscribes channel mask marks
  crowded : (place index count : ℕ) → marks ≡ Crowded place index count ∷ [] → Subscribes channel mask marks
  without : marks ≡ [] → Subscribes channel mask marks

pub subscribes : (channel : Channel) (mask : FinSet nat_cmp) (size : ℕ) (answer : Result Sub SubAnswer) (marks : List Mark) → AreSubscribe channel mask size answer marks → Subscribes channel mask marks
subscribes channel mask size (Ok sub) marks p = began p.at p.index sub.slot size p.marks_are
subscribes channel mask size (Err (sub_answers.TooManyMonitors count)) marks p = crowded p.at p.index count p.marks_are
subscribes channel mask size (Err sub_answers.NoMemory) marks p = without p

-- The subscription of a request is held on by one that is like it.

pub same_sub : {x y : Sub} → Some x ≡ Some y → x ≡ y
same_sub e = cc

pub same_ask : {x y : Asked} → Some x ≡ Some y → x ≡ y
same_ask e = cc

-- the subscription that lives in the slot now is on the same channel, for the same leaves
pub record LivesOn (log : List Mark) (slot : ℕ) (l : Living) : Type 0 where
  pub next : Living
  pub there : living log slot ≡ Some next
  pub channel_is : next.channel ≡ l.channel
  pub mask_is : next.mask ≡ l.mask

-- what a request of one state with a subscription was in another
pub record Was (s : State) (req : ℕ) (ask : Asked) (sub : Sub) : Type 0 where
  pub one : Asked
  pub here : at s.requests req ≡ Some one
  pub subscribed : one.sub ≡ Some sub
  pub sid_is : ask.sid ≡ one.sid
  pub mask_is : ask.mask ≡ one.mask
  pub kind_is : ask.kind ≡ one.kind

-- Each request with a subscription was there, its channel is open still, and its subscription lives on.
pub record Goes (log marks : List Mark) (s t : State) : Type 0 where
  pub was : (req : ℕ) (ask : Asked) (sub : Sub) → at t.requests req ≡ Some ask → ask.sub ≡ Some sub → Was s req ask sub
  pub open_ : (req : ℕ) (ask : Asked) (sub : Sub) → at t.requests req ≡ Some ask → ask.sub ≡ Some sub → (channel : Channel) → channel_at s.channels ask.sid ≡ Some channel
      → channel_at t.channels ask.sid ≡ Some channel
  pub lives_on : (req : ℕ) (ask : Asked) (sub : Sub) → at t.requests req ≡ Some ask → ask.sub ≡ Some sub → (l : Living) → living log sub.slot ≡ Some l → LivesOn (log ++ marks) sub.slot l

pub goes_holds : (log marks : List Mark) (s t : State) → Goes log marks s t → Holds log s → Holds (log ++ marks) t
goes_holds log marks s t g h = record {
  held =
      λ req ask sub here is. let w = g.was req ask sub here is in
      let p = h.held req w.one sub w.here w.subscribed in
      let on = g.lives_on req ask sub here is p.subscribed p.there in
      record {
        subscribed = on.next;
        there = on.there;
        channel_is = g.open_ req ask sub here is p.subscribed.channel (ap (channel_at s.channels) w.sid_is ∙ p.channel_is) ∙ ap Some (sym on.channel_is);
        mask_is = on.mask_is ∙ p.mask_is ∙ sym w.mask_is;
        kind_is = w.kind_is ∙ p.kind_is;
      };
  apart =
      λ a b one other x y here there is so same. let u = g.was a one x here is in
      let v = g.was b other y there so in
      h.apart a b u.one v.one x y u.here v.here u.subscribed v.subscribed same;
}

lives_same : (log marks : List Mark) (slot : ℕ) → living_after slot (living log slot) marks ≡ living log slot → (l : Living) → living log slot ≡ Some l → LivesOn (log ++ marks) slot l
lives_same log marks slot same l is = record { next = l; there = living_append slot None log marks ∙ same ∙ is; channel_is = refl; mask_is = refl }

lives_beside : (log marks : List Mark) (slot : ℕ) → AllLeave marks → (l : Living) → living log slot ≡ Some l → LivesOn (log ++ marks) slot l
lives_beside log marks slot plain l is = lives_same log marks slot (plain slot (living log slot)) l is

pub was_itself : (s : State) (req : ℕ) (ask : Asked) (sub : Sub) → at s.requests req ≡ Some ask → ask.sub ≡ Some sub → Was s req ask sub
was_itself s req ask sub here is = record { one = ask; here = here; subscribed = is; sid_is = refl; mask_is = refl; kind_is = refl }

-- Plain marks: the requests and the channels are as before, ..
unmoved : (log marks : List Mark) (s t : State) → AllLeave marks → t.requests ≡ s.requests → t.channels ≡ s.channels → Goes log marks s t
unmoved log marks s t plain requests_are channels_are = record {
  was = λ req ask sub here is. was_itself s req ask sub (ap (λ (r : Requests). at r req) (sym requests_are) ∙ here) is;
  open_ = λ req ask sub here is channel open_. ap (λ (c : Channels). channel_at c ask.sid) channels_are ∙ open_;
  lives_on = λ req ask sub here is l there. lives_beside log marks sub.slot plain l there;
}

-- .. or a request goes, ..
pub was_left : (s : State) (req q : ℕ) (ask : Asked) (sub : Sub) → at (remove s.requests req) q ≡ Some ask → ask.sub ≡ Some sub → Was s q ask sub
was_left s req q ask sub here is = by_id (same_or_not q req)
  where
    by_id : (q ≡ req) ⊎ (q ≢ req) → Was s q ask sub
    by_id (inl same) = absurd (none-some ask (sym (got_removed s.requests req) ∙ ap (at (remove s.requests req)) (sym same) ∙ here))
    by_id (inr apart) = was_itself s q ask sub (sym (got_left s.requests req q apart) ∙ here) is

pub was_behind : (s : State) (req sub q : ℕ) (ask : Asked) (x : Sub) → at (behind req sub s.requests) q ≡ Some ask → ask.sub ≡ Some x → Was s q ask x
was_behind s req sub q ask x here is = by_bit (ends sub) here
  where
    by_bit : (b : Bool) → at (cond b (remove s.requests req) s.requests) q ≡ Some ask → Was s q ask x
    by_bit true here = was_left s req q ask x here is
    by_bit false here = was_itself s q ask x here is

goes_behind : (log marks : List Mark) (s : State) (req sub : ℕ) → AllLeave marks → Goes log marks s (record s { requests = behind req sub s.requests })
goes_behind log marks s req sub plain = record {
  was = λ q ask x here is. was_behind s req sub q ask x here is;
  open_ = λ q ask x here is channel open_. open_;
  lives_on = λ q ask x here is l there. lives_beside log marks x.slot plain l there;
}

-- .. or one comes without a subscription, or in the place of one that is like it.

pub record IsLike (new old : Asked) : Type 0 where
  pub sub : new.sub ≡ old.sub
  pub sid : new.sid ≡ old.sid
  pub mask : new.mask ≡ old.mask
  pub kind : new.kind ≡ old.kind

module _ (s : State) (req : ℕ) (new : Asked) where
  put_in : (q : ℕ) (ask : Asked) (sub : Sub) → ((new.sub ≡ Some sub) → Was s req new sub) → at (insert s.requests req new) q ≡ Some ask → ask.sub ≡ Some sub → Was s q ask sub
  put_in q ask sub at_id here is = by_id (same_or_not q req)
    where
      by_id : (q ≡ req) ⊎ (q ≢ req) → Was s q ask sub
      by_id (inl same) =
          let one : new ≡ ask = same_ask (sym (got_inserted s.requests req new) ∙ ap (at (insert s.requests req new)) (sym same) ∙ here) in
          subst (λ (k : ℕ). Was s k ask sub) (sym same) (subst (λ (z : Asked). Was s req z sub) one (at_id (ap (λ (z : Asked). z.sub) one ∙ is)))
      by_id (inr apart) = was_itself s q ask sub (sym (got_beside s.requests req new q apart) ∙ here) is

  pub was_new : new.sub ≡ None → (q : ℕ) (ask : Asked) (sub : Sub) → at (insert s.requests req new) q ≡ Some ask → ask.sub ≡ Some sub → Was s q ask sub
  was_new none q ask sub here is = put_in q ask sub (λ some. absurd (none-some sub (sym none ∙ some))) here is

  pub was_like : (old : Asked) → at s.requests req ≡ Some old → IsLike new old → (q : ℕ) (ask : Asked) (sub : Sub) → at (insert s.requests req new) q ≡ Some ask → ask.sub ≡ Some sub → Was s q ask sub
  was_like old there like q ask sub here is =
      put_in q ask sub (λ some. record { one = old; here = there; subscribed = sym like.sub ∙ some; sid_is = like.sid; mask_is = like.mask; kind_is = like.kind }) here is

  goes_new : (log marks : List Mark) → AllLeave marks → new.sub ≡ None → Goes log marks s (record s { requests = insert s.requests req new })
  goes_new log marks plain none = record {
    was = λ q ask sub here is. was_new none q ask sub here is;
    open_ = λ q ask sub here is channel open_. open_;
    lives_on = λ q ask sub here is l there. lives_beside log marks sub.slot plain l there;
  }

  goes_like : (log marks : List Mark) → AllLeave marks → (old : Asked) → at s.requests req ≡ Some old → IsLike new old → Goes log marks s (record s { requests = insert s.requests req new })
  goes_like log marks plain old there like = record {
    was = λ q ask sub here is. was_like old there like q ask sub here is;
    open_ = λ q ask sub here is channel open_. open_;
    lives_on = λ q ask sub here is l living_. lives_beside log marks sub.slot plain l living_;
  }

-- Channels come.
goes_opened : (site : SiteData) (log : List Mark) (marks : List Mark) (s : State) (names : List (ℕ × List ℕ)) → AllLeave marks → Goes log marks s (record s { channels = all_opened site s.channels names })
goes_opened site log marks s names plain = record {
  was = λ req ask sub here is. was_itself s req ask sub here is;
  open_ = λ req ask sub here is channel open_. all_stay site s.channels names ask.sid channel open_;
  lives_on = λ req ask sub here is l there. lives_beside log marks sub.slot plain l there;
}

-- A channel goes, and its requests with it.

pub stays_on : (sid : ℕ) (requests : Requests) (req : ℕ) (ask : Asked) → at (on_only sid requests) req ≡ Some ask → (at requests req ≡ Some ask) × (is_on sid (Some ask) ≡ true)
stays_on sid requests req ask is =
    by_place (is_on sid (at requests req)) refl
    (sym (get-retain_keys requests (λ q. is_on sid (at requests q)) req (λ x ties. ap (λ (k : ℕ). is_on sid (at requests k)) (sym (nat_cmp-IsAntisymmetric req x ties)))) ∙ is)
  where
    by_place : (on : Bool) → is_on sid (at requests req) ≡ on → cond (is_on sid (at requests req)) (at requests req) None ≡ Some ask → (at requests req ≡ Some ask) × (is_on sid (Some ask) ≡ true)
    by_place true on kept =
        let here : at requests req ≡ Some ask = sym (ap (λ (b : Bool). cond b (at requests req) None) on) ∙ kept in
        (here, ap (is_on sid) (sym here) ∙ on)
    by_place false on kept = absurd (none-some ask (sym (ap (λ (b : Bool). cond b (at requests req) None) on) ∙ kept))

module _ (log marks : List Mark) (s : State) (holds : Holds log s) where
  goes_closed : (sid : ℕ) → AreEndingsOf (slots_of (on_only sid s.requests)) marks → Goes log marks s (record s { channels = remove s.channels sid; requests = without_channel sid s.requests })
  goes_closed sid endings = record {
    was = λ req ask sub here is. was_itself s req ask sub (stays_elsewhere sid s.requests req ask here).0 is;
    open_ =
        λ req ask sub here is channel open_. let kept = stays_elsewhere sid s.requests req ask here in
        let apart : ask.sid ≢ sid = λ same. let other : (ask.sid == sid) ≡ true = grind (arith, nat_tests) in false≢true (sym kept.1 ∙ other) in
        left_beside s.channels sid ask.sid apart ∙ open_;
    lives_on =
        λ req ask sub here is l there. let kept = stays_elsewhere sid s.requests req ask here in
        lives_same log marks sub.slot
        (unended sub.slot (slots_of (on_only sid s.requests)) marks (living log sub.slot) endings
        (λ has. let o = owner (on_only sid s.requests) sub.slot has in
        let on = stays_on sid s.requests o.req o.ask o.here in
        let same : req ≡ o.req = holds.apart req o.req ask o.ask sub o.sub kept.0 on.0 is o.subscribed (sym o.slot_is) in
        let one : ask ≡ o.ask = same_ask (sym kept.0 ∙ ap (at s.requests) same ∙ on.0) in
        false≢true (sym kept.1 ∙ ap (λ (z : Asked). is_on sid (Some z)) one ∙ on.1))) l there;
  }

  -- a request goes with its subscription
  goes_ended : (req : ℕ) → AreEndingsOf (slot_of (at s.requests req)) marks → Goes log marks s (record s { requests = remove s.requests req })
  goes_ended req endings = record {
    was = λ q ask sub here is. was_left s req q ask sub here is;
    open_ = λ q ask sub here is channel open_. open_;
    lives_on =
        λ q ask sub here is l there. lives_same log marks sub.slot
        (unended sub.slot (slot_of (at s.requests req)) marks (living log sub.slot) endings (λ has. not_it q ask sub here is (owner_here s.requests req sub.slot has))) l there;
  }
    where
      not_it : (q : ℕ) (ask : Asked) (sub : Sub) → at (remove s.requests req) q ≡ Some ask → ask.sub ≡ Some sub → OwnsAmong s.requests sub.slot (req ∷ []) → ⊥
      not_it q ask sub here is o =
          let w = was_left s req q ask sub here is in
          let same : q ≡ o.owns.req = holds.apart q o.owns.req w.one o.owns.ask sub o.owns.sub w.here o.owns.here w.subscribed o.owns.subscribed (sym o.owns.slot_is) in
          by_place o.among same
        where
          by_place : {r : ℕ} → Has r (req ∷ []) → q ≡ r → ⊥
          by_place (inl e) same =
              let here_ : q ≡ req = same ∙ sym e in none-some ask (sym (got_removed s.requests req) ∙ ap (at (remove s.requests req)) (sym here_) ∙ here)
          by_place (inr h) same = h

-- A monitor is popped.

popped_lives : (log : List Mark) (place slot : ℕ) (update : Option Update) (other : ℕ) (l : Living) → living log other ≡ Some l → LivesOn (log ++ Popped place slot update ∷ []) other l
popped_lives log place slot update other l is = by_test (slot == other) refl
  where
    by_test : (b : Bool) → (slot == other) ≡ b → LivesOn (log ++ Popped place slot update ∷ []) other l
    by_test true test = record {
      next = popped_too place update l;
      there = living_append other None log (Popped place slot update ∷ []) ∙ ap (λ (b : Bool). cond b (option_map (popped_too place update) (living log other)) (living log other)) test ∙ ap (option_map (popped_too place update)) is;
      channel_is = refl;
      mask_is = refl;
    }
    by_test false test = record {
      next = l;
      there = living_append other None log (Popped place slot update ∷ []) ∙ ap (λ (b : Bool). cond b (option_map (popped_too place update) (living log other)) (living log other)) test ∙ is;
      channel_is = refl;
      mask_is = refl;
    }

module _ (log : List Mark) (s : State) (req : ℕ) (ask : Asked) (here : at s.requests req ≡ Some ask) (place slot : ℕ) where
  goes_popped : (update : Option Update) → Goes log (Popped place slot update ∷ []) s (after_pop s req (Popped place slot update ∷ []))
  goes_popped None = record {
    was = λ q a sub there is. was_itself s q a sub there is;
    open_ = λ q a sub there is channel open_. open_;
    lives_on = λ q a sub there is l lives_. popped_lives log place slot None sub.slot l lives_;
  }
  goes_popped (Some update) = record {
    was = λ q a sub there is. was_like s req (one_sent ask) ask here (record { sub = refl; sid = refl; mask = refl; kind = refl }) q a sub (ap (λ (r : Requests). at r q) (sym sent_is) ∙ there) is;
    open_ = λ q a sub there is channel open_. open_;
    lives_on = λ q a sub there is l lives_. popped_lives log place slot (Some update) sub.slot l lives_;
  }
    where
      sent_is : with_sent req (at s.requests req) s.requests ≡ insert s.requests req (one_sent ask)
      sent_is = ap (λ (o : Option Asked). with_sent req o s.requests) here

pub pop_holds : (log marks : List Mark) (s : State) (req : ℕ) (channel : Channel) (update : Option Update) → IsPopOf s req channel update marks → Holds log s → Holds (log ++ marks) (after_pop s req marks)
pop_holds log marks s req channel update p holds =
    subst (λ (ms : List Mark). Holds (log ++ ms) (after_pop s req ms)) (sym p.marks_are)
    (goes_holds log (Popped p.place p.sub.slot update ∷ []) s (after_pop s req (Popped p.place p.sub.slot update ∷ [])) (goes_popped log s req p.ask p.is_due.here p.place p.sub.slot update) holds)

-- pops change nothing of what was held
pub goes_past : (log : List Mark) (s : State) (place slot : ℕ) (update : Option Update) → Goes log (Popped place slot update ∷ []) s s
goes_past log s place slot update = record {
  was = λ q a sub there is. was_itself s q a sub there is;
  open_ = λ q a sub there is channel open_. open_;
  lives_on = λ q a sub there is l lives_. popped_lives log place slot update sub.slot l lives_;
}

pub past_pop : (log marks : List Mark) (s t : State) (req : ℕ) (channel : Channel) (update : Option Update) → IsPopOf t req channel update marks → Holds log s → Holds (log ++ marks) s
past_pop log marks s t req channel update p holds =
    subst (λ (ms : List Mark). Holds (log ++ ms) s) (sym p.marks_are)
    (goes_holds log (Popped p.place p.sub.slot update ∷ []) s s (goes_past log s p.place p.sub.slot update) holds)

pub past_pops : (site : SiteData) (log : List Mark) (s t : State) (reqs : List ℕ) (xs : List Step) → ArePopsOf reqs xs → AreSteps site t xs → Holds log s → Holds (log ++ marks_of xs) s
past_pops site log s t [] [] are rules holds = subst (λ (l : List Mark). Holds l s) (sym (append-nil log)) holds
past_pops site log s t [] (x ∷ xs) are rules holds = absurd are
past_pops site log s t (r ∷ reqs) [] are rules holds = absurd are
past_pops site log s t (r ∷ reqs) (hears e marks sent ∷ xs) are rules holds = absurd are
past_pops site log s t (r ∷ reqs) (pops req marks sent ∷ xs) are rules holds =
    subst (λ (l : List Mark). Holds l s) (append_assoc log marks (marks_of xs))
    (past_pops site (log ++ marks) s (after_pop t req marks) reqs xs are.1 rules.1 (past_pop log marks s t req rules.0.0.channel rules.0.0.update rules.0.0.is_pop holds))

-- A monitor begins.

-- in a slot where another lives none begins
pub not_living : (log : List Mark) (slot other : ℕ) (l : Living) → lives log slot ≡ false → living log other ≡ Some l → slot ≢ other
not_living log slot other l free is same = false≢true (sym free ∙ ap (λ (n : ℕ). is_some (living log n)) same ∙ ap (λ x. is_some x) is)

module _ (log : List Mark) (s : State) (req sid : ℕ) (channel : Channel) (wanted : Wanted) (window : Option ℕ) (place index slot size : ℕ) (open_ : channel_at s.channels sid ≡ Some channel) (free : lives log slot ≡ false)
    (holds : Holds log s) where
  abbrev begun : Mark
  begun = Begun place index slot channel wanted.mask size

  abbrev newest_ask : Asked
  newest_ask = monitor_of sid wanted slot window

  abbrev first : Living
  first = record { place = place; channel = channel; mask = wanted.mask; size = size; pops = [] }

  living_at : (other : ℕ) (b : Bool) → (slot == other) ≡ b → living (log ++ begun ∷ []) other ≡ cond b (Some first) (living log other)
  living_at other b test = living_append other None log (begun ∷ []) ∙ ap (λ (c : Bool). cond c (Some first) (living log other)) test

  held_new : (sub : Sub) → newest_ask.sub ≡ Some sub → IsHeld (log ++ begun ∷ []) s.channels newest_ask sub.slot
  held_new sub is =
      let at_slot : slot ≡ sub.slot = ap (λ (x : Sub). x.slot) (same_sub is) in
      let test : (slot == sub.slot) ≡ true = grind (arith, nat_tests) in
      record { subscribed = first; there = living_at sub.slot true test; channel_is = open_; mask_is = refl; kind_is = refl }

  held_old : (ask : Asked) (sub : Sub) → IsHeld log s.channels ask sub.slot → IsHeld (log ++ begun ∷ []) s.channels ask sub.slot
  held_old ask sub p =
      let apart = not_living log slot sub.slot p.subscribed free p.there in
      let test : (slot == sub.slot) ≡ false = grind (arith, nat_tests) in
      record { subscribed = p.subscribed; there = living_at sub.slot false test ∙ p.there; channel_is = p.channel_is; mask_is = p.mask_is; kind_is = p.kind_is }

  -- one of the requests now: the new one, or one of before
  data Is (q : ℕ) (ask : Asked) : Type 0 where
    newest : q ≡ req → newest_ask ≡ ask → Is q ask
    older : at s.requests q ≡ Some ask → Is q ask

  which : (q : ℕ) (ask : Asked) → at (insert s.requests req newest_ask) q ≡ Some ask → Is q ask
  which q ask here = by_id (same_or_not q req)
    where
      by_id : (q ≡ req) ⊎ (q ≢ req) → Is q ask
      by_id (inl same) = newest same (same_ask (sym (got_inserted s.requests req newest_ask) ∙ ap (at (insert s.requests req newest_ask)) (sym same) ∙ here))
      by_id (inr apart) = older (sym (got_beside s.requests req newest_ask q apart) ∙ here)

  held_so : (q : ℕ) (ask : Asked) (sub : Sub) → Is q ask → ask.sub ≡ Some sub → IsHeld (log ++ begun ∷ []) s.channels ask sub.slot
  held_so q ask sub (newest same one) is =
      subst (λ (z : Asked). IsHeld (log ++ begun ∷ []) s.channels z sub.slot) one (held_new sub (ap (λ (z : Asked). z.sub) one ∙ is))
  held_so q ask sub (older here) is = held_old ask sub (holds.held q ask sub here is)

  slot_new : (ask : Asked) (sub : Sub) → newest_ask ≡ ask → ask.sub ≡ Some sub → slot ≡ sub.slot
  slot_new ask sub one is = ap (λ (x : Sub). x.slot) (same_sub (ap (λ (z : Asked). z.sub) one ∙ is))

  apart_so : (a b : ℕ) (one other : Asked) (x y : Sub) → Is a one → Is b other → one.sub ≡ Some x → other.sub ≡ Some y → x.slot ≡ y.slot → a ≡ b
  apart_so a b one other x y (newest e _) (newest f _) is so same = e ∙ sym f
  apart_so a b one other x y (newest e u) (older there) is so same =
      let p = holds.held b other y there so in absurd (not_living log slot y.slot p.subscribed free p.there (slot_new one x u is ∙ same))
  apart_so a b one other x y (older here) (newest f v) is so same =
      let p = holds.held a one x here is in absurd (not_living log slot x.slot p.subscribed free p.there (slot_new other y v so ∙ sym same))
  apart_so a b one other x y (older here) (older there) is so same = holds.apart a b one other x y here there is so same

  begun_holds : Holds (log ++ begun ∷ []) (record s { requests = insert s.requests req newest_ask })
  begun_holds = record {
    held = λ q ask sub here is. held_so q ask sub (which q ask here) is;
    apart = λ a b one other x y here there is so same. apart_so a b one other x y (which a one here) (which b other there) is so same;
  }

subscribe_holds : (log : List Mark) (s : State) (req sid : ℕ) (channel : Channel) (wanted : Wanted) (window : Option ℕ) (marks : List Mark) → channel_at s.channels sid ≡ Some channel
    → Subscribes channel wanted.mask marks → AllTrue IsFreeBegun log marks → Holds log s → Holds (log ++ marks) (record s { requests = subscribed req sid wanted window marks s.requests })
subscribe_holds log s req sid channel wanted window marks open_ (began place index slot size is) free holds =
    subst (λ (ms : List Mark). AllTrue IsFreeBegun log ms → Holds (log ++ ms) (record s { requests = subscribed req sid wanted window ms s.requests })) (sym is)
    (λ free. begun_holds log s req sid channel wanted window place index slot size open_ free.0 holds) free
subscribe_holds log s req sid channel wanted window marks open_ (crowded place index count is) free holds =
    subst (λ (ms : List Mark). Holds (log ++ ms) (record s { requests = subscribed req sid wanted window ms s.requests })) (sym is)
    (goes_holds log (Crowded place index count ∷ []) s s (unmoved log (Crowded place index count ∷ []) s s (λ slot o. refl) refl refl) holds)
subscribe_holds log s req sid channel wanted window marks open_ (without is) free holds =
    subst (λ (ms : List Mark). Holds (log ++ ms) (record s { requests = subscribed req sid wanted window ms s.requests })) (sym is)
    (goes_holds log [] s s (unmoved log [] s s (λ slot o. refl) refl refl) holds)

-- Rows.

pub says_leave : (these : List Sent) (marks : List Mark) (sent : List Sent) → Says these marks sent → AllLeave marks
says_leave these marks sent p = subst AllLeave (sym p.marks_are) (λ slot o. refl)

module _ (site : SiteData) (log marks : List Mark) (sent : List Sent) where
  pub row_holds : (s : State) (task : Task) → IsTaskOf site s task → Row site s task marks sent → AllTrue IsFreeBegun log marks → Holds log s → Holds (log ++ marks) (after_task site s task marks)
  row_holds s pass_over of p free holds = goes_holds log marks s s (unmoved log marks s s (says_leave _ marks sent p) refl refl) holds
  row_holds s (echo_control number) of p free holds = goes_holds log marks s s (unmoved log marks s s (says_leave _ marks sent p) refl refl) holds
  row_holds s (refuse r) of p free holds = goes_holds log marks s s (unmoved log marks s s (says_leave _ marks sent p) refl refl) holds
  row_holds s (tell r) of p free holds = goes_holds log marks s s (unmoved log marks s s (says_leave _ marks sent p) refl refl) holds
  row_holds s (validate buffer registry user host) of p free holds = goes_holds log marks s _ (unmoved log marks s _ (says_leave _ marks sent p) refl refl) holds
  row_holds s (echo payload) of p free holds = goes_holds log marks s s (unmoved log marks s s (says_leave _ marks sent p) refl refl) holds
  row_holds s (create names) of p free holds = goes_holds log marks s _ (goes_opened site log marks s names (says_leave _ marks sent p)) holds
  row_holds s (destroy_channel sid cid) of p free holds = goes_holds log marks s _ (goes_closed log marks s holds sid p.endings) holds
  row_holds s (begin kind req sub sid channel wanted) of p free holds =
      goes_holds log marks s _ (goes_new s req (ask_of kind sid wanted) log marks (says_leave _ marks sent p) refl) holds
  row_holds s (get kind req sub ask channel) of p free holds =
      goes_holds log marks s _ (goes_behind log marks s req sub (get_leaves site channel ask.atomic marks (whole_is_part site channel ask.atomic p.value marks p.is_get))) holds
  row_holds s (put req sub ask channel mask value) of p free holds = goes_holds log marks s _ (goes_behind log marks s req sub (λ slot o. puts_leave slot o _ p.answer marks p.is_put)) holds
  row_holds s (put_get req sub ask channel mask value) of p free holds =
      goes_holds log marks s _ (goes_behind log marks s req sub (λ slot o. put_gets_leave slot o (asked site ask channel mask value p.moment) p.answer marks p.is_put_get)) holds
  row_holds s (respond req sub r) of p free holds = goes_holds log marks s _ (goes_behind log marks s req sub (says_leave _ marks sent p)) holds
  row_holds s (snapshot req sub) of p free holds =
      goes_holds log marks s _ (goes_behind log marks s req sub (snapshot_leaves site marks (snapshot_is_part site p.rows marks p.is_snapshot))) holds
  row_holds s (subscribe req sub sid channel wanted count) of p free holds =
      subscribe_holds log s req sid channel wanted count marks of.0.open_ (subscribes channel wanted.mask wanted.queue p.answer marks p.is_subscribe) free holds
  row_holds s (steer req count started ask) of p free holds =
      goes_holds log marks s _ (goes_like s req (steered count started ask) log marks (says_leave _ marks sent p) ask of.here (record { sub = refl; sid = refl; mask = refl; kind = refl })) holds
  row_holds s (destroy_request req) of p free holds = goes_holds log marks s _ (goes_ended log marks s holds req p.endings) holds

-- Parts of rows.

pub none_leave : (marks : List Mark) → NoPart marks → AllLeave marks
none_leave marks p = subst AllLeave (sym p) (λ slot o. refl)

-- What is left where memory ran out in a row: all as it was, or without a channel whose subscriptions ended, or with a subscription, where
-- one began.
pub data Leaves (s : State) (marks : List Mark) (left : State) : Type 0 where
  all_stays : AllLeave marks → left ≡ s → Leaves s marks left
  channel_ended : (sid : ℕ) → AreEndingsOf (slots_of (on_only sid s.requests)) marks → left ≡ record s { channels = remove s.channels sid; requests = without_channel sid s.requests } → Leaves s marks left
  monitor_comes : (req sid : ℕ) (channel : Channel) (wanted : Wanted) (window : Option ℕ) → at s.requests req ≡ None → channel_at s.channels sid ≡ Some channel → Subscribes channel wanted.mask marks
      → left ≡ record s { requests = subscribed req sid wanted window marks s.requests } → Leaves s marks left

pub part_leaves : (site : SiteData) (s : State) (task : Task) (marks : List Mark) → IsTaskOf site s task → Part site s task marks → Leaves s marks (left_by site s task marks)
part_leaves site s pass_over marks of p = all_stays (none_leave marks p) refl
part_leaves site s (echo_control number) marks of p = all_stays (none_leave marks p) refl
part_leaves site s (refuse r) marks of p = all_stays (none_leave marks p) refl
part_leaves site s (tell r) marks of p = all_stays (none_leave marks p) refl
part_leaves site s (validate buffer registry user host) marks of p = all_stays (none_leave marks p) refl
part_leaves site s (echo payload) marks of p = all_stays (none_leave marks p) refl
part_leaves site s (create names) marks of p = all_stays (none_leave marks p) refl
part_leaves site s (destroy_channel sid cid) [] of p = all_stays (λ slot o. refl) refl
part_leaves site s (destroy_channel sid cid) (mark ∷ marks) of p = channel_ended sid p refl
part_leaves site s (begin kind req sub sid channel wanted) marks of p = all_stays (none_leave marks p) refl
part_leaves site s (get kind req sub ask channel) marks of p = all_stays (get_leaves site channel ask.atomic marks p) refl
part_leaves site s (put req sub ask channel mask value) marks of p = all_stays (λ slot o. puts_leave slot o _ p.1 marks p.2) refl
part_leaves site s (put_get req sub ask channel mask value) marks of p = all_stays (λ slot o. put_gets_leave slot o (asked site ask channel mask value p.0) p.1 marks p.2) refl
part_leaves site s (respond req sub r) marks of p = all_stays (none_leave marks p) refl
part_leaves site s (snapshot req sub) marks of p = all_stays (snapshot_leaves site marks p) refl
part_leaves site s (subscribe req sub sid channel wanted count) marks of p =
    monitor_comes req sid channel wanted count of.0.free of.0.open_ (subscribes channel wanted.mask wanted.queue p.0 marks p.1) refl
part_leaves site s (steer req count started ask) marks of p = all_stays (none_leave marks p) refl
part_leaves site s (destroy_request req) marks of p = all_stays (none_leave marks p) refl

module _ (site : SiteData) (log : List Mark) where
  stays : (marks : List Mark) (s : State) → AllLeave marks → Holds log s → Holds (log ++ marks) s
  stays marks s plain holds = goes_holds log marks s s (unmoved log marks s s plain refl refl) holds

  pub part_holds : (s : State) (task : Task) (marks : List Mark) → IsTaskOf site s task → Part site s task marks → AllTrue IsFreeBegun log marks → Holds log s → Holds (log ++ marks) (left_by site s task marks)
  part_holds s task marks of p free holds = by_what_is_left (left_by site s task marks) (part_leaves site s task marks of p)
    where
      by_what_is_left : (left : State) → Leaves s marks left → Holds (log ++ marks) left
      by_what_is_left left (all_stays plain is) = subst (Holds (log ++ marks)) (sym is) (stays marks s plain holds)
      by_what_is_left left (channel_ended sid endings is) = subst (Holds (log ++ marks)) (sym is) (goes_holds log marks s _ (goes_closed log marks s holds sid endings) holds)
      by_what_is_left left (monitor_comes req sid channel wanted window none open_ subscribes_ is) =
          subst (Holds (log ++ marks)) (sym is) (subscribe_holds log s req sid channel wanted window marks open_ subscribes_ free holds)

-- Steps.

pub knowing_holds : (log : List Mark) (s : State) (types : Types) → Holds log s → Holds log (knowing s types)
knowing_holds log s types holds = record { held = holds.held; apart = holds.apart }

pub hearing_holds : (site : SiteData) (s : State) (log marks : List Mark) (sent : List Sent) (hearing : Hearing) → IsHeardOf site s hearing → IsAnswer site s hearing marks sent → AllTrue IsFreeBegun log marks → Holds log s
    → Holds (log ++ marks) (after_hearing site s hearing marks)
hearing_holds site s log marks sent (asks task types) of p free holds =
    row_holds site log marks sent (knowing s types) task (knows site s types task of) p free (knowing_holds log s types holds)
hearing_holds site s log marks sent (unreadable fault) of p free holds = absurd p
hearing_holds site s log marks sent over_range of p free holds = absurd p

pub left_holds : (site : SiteData) (s : State) (log marks : List Mark) (hearing : Hearing) → IsHeardOf site s hearing → PartOf site s hearing marks → AllTrue IsFreeBegun log marks → Holds log s
    → Holds (log ++ marks) (left_by_hearing site s hearing marks)
left_holds site s log marks (asks task types) of p free holds = part_holds site log (knowing s types) task marks (knows site s types task of) p free (knowing_holds log s types holds)
left_holds site s log marks (unreadable fault) of p free holds = stays site log marks s (none_leave marks p) holds
left_holds site s log marks over_range of p free holds = stays site log marks s (none_leave marks p) holds

pub holds_step : (site : SiteData) (s : State) (log : List Mark) (x : Step) → Holds log s → IsStep site s x → AllTrue IsFreeBegun log (marks_in x) → Holds (log ++ marks_in x) (after_step site s x)
holds_step site s log (hears e marks sent) holds p free = hearing_holds site s log marks sent (heard site s e) (heard_so site s e) p.0 free holds
holds_step site s log (pops req marks sent) holds p free = pop_holds log marks s req p.0.channel p.0.update p.0.is_pop holds

pub holds_steps : (site : SiteData) (s : State) (log : List Mark) (xs : List Step) → Holds log s → AreSteps site s xs → AllTrue IsFreeBegun log (marks_of xs) → Holds (log ++ marks_of xs) (state_after site s xs)
holds_steps site s log [] holds rules free = subst (λ (l : List Mark). Holds l s) (sym (append-nil log)) holds
holds_steps site s log (x ∷ xs) holds rules free =
    subst (λ (l : List Mark). Holds l (state_after site (after_step site s x) xs)) (append_assoc log (marks_in x) (marks_of xs))
    (holds_steps site (after_step site s x) (log ++ marks_in x) xs (holds_step site s log x holds rules.0 (true_front IsFreeBegun log (marks_in x) (marks_of xs) free)) rules.1
    (true_back IsFreeBegun log (marks_in x) (marks_of xs) free))

-- A session that begins has none.
pub opening_holds : (log : List Mark) (order : Order) → Holds log (opening order)
opening_holds log order = record {
  held = λ req ask sub here is. absurd (none-some ask (sym (get-empty nat_cmp req) ∙ here));
  apart = λ a b one other x y here there is so same. absurd (none-some one (sym (get-empty nat_cmp a) ∙ here));
}

-- What is true begins free.

free_if_true : (h : History) (seat : ℕ) (mark : Mark) (before : List Mark) → IsTrueIn h seat mark before → IsFreeBegun mark before
free_if_true h seat (Read place channel footprint found) before p = tt
free_if_true h seat (Entered place entry looked found) before p = tt
free_if_true h seat (Overweight place footprint actions kept added limit) before p = tt
free_if_true h seat (Begun place index slot channel mask size) before p = p.free
free_if_true h seat (Crowded place index count) before p = tt
free_if_true h seat (Popped place slot update) before p = tt
free_if_true h seat (Dropped place index slot) before p = tt

pub begin_free : (h : History) (seat : ℕ) (before marks : List Mark) → AllHold seat h before marks → AllTrue IsFreeBegun before marks
begin_free h seat before marks p = true_weaken (IsTrueIn h seat) IsFreeBegun (λ m b t. free_if_true h seat m b t) before marks p

-- The slots of a session that holds its subscriptions live, and none stands twice.

module _ (log : List Mark) (s : State) (holds : Holds log s) where
  abbrev slots_at : List ℕ → List ℕ
  slots_at ks = flat_map (λ req. slot_of (at s.requests req)) ks

  living_first : (k : ℕ) (ks : List ℕ) (o : Option Asked) → at s.requests k ≡ o → (Has k ks → ⊥) → AreLiving log (slots_at ks) → AreLiving log (slot_of o ++ slots_at ks)
  living_first k ks None here once rest = rest
  living_first k ks (Some ask) here once rest = by_sub ask.sub refl
    where
      not_again : (sub : Sub) → ask.sub ≡ Some sub → Has sub.slot (slots_at ks) → ⊥
      not_again sub is has =
          let o = owner_among s.requests sub.slot ks has in
          let same : o.owns.req ≡ k = holds.apart o.owns.req k o.owns.ask ask o.owns.sub sub o.owns.here here o.owns.subscribed is o.owns.slot_is in
          once (subst (λ (r : ℕ). Has r ks) same o.among)

      by_sub : (x : Option Sub) → ask.sub ≡ x → AreLiving log (slot_of_sub x ++ slots_at ks)
      by_sub None is = rest
      by_sub (Some sub) is = let p = holds.held k ask sub here is in ((ap (λ x. is_some x) p.there, has_not sub.slot (slots_at ks) (not_again sub is)), rest)

  living_all : (ks : List ℕ) → NoneTwice ks → AreLiving log (slots_at ks)
  living_all [] once = tt
  living_all (k ∷ ks) once = living_first k ks (at s.requests k) refl once.0 (living_all ks once.1)

  pub are_living : AreLiving log (slots_of s.requests)
  are_living = living_all (keys s.requests) (keys_once s.requests)

-- Calls of a session.

-- behind these marks the session holds its subscriptions
record HoldsBehind (old new : Seat) (marks : List Mark) (s : State) : Type 0 where
  log_is : new.log ≡ old.log ++ marks
  free : AllTrue IsFreeBegun old.log marks

behind_adds : (old new : Seat) (marks : List Mark) (s : State) → calls.Adds old new marks → HoldsBehind old new marks s
behind_adds old new marks s a = record { log_is = a.log; free = begin_free new.seen new.number old.log marks a.true_ }

-- what was heard was answered
pub heeded_holds : (old new : Shown) (moment : Moment) (hearing : Hearing) (result : Result (Unit {0}) SessionStop) → IsHeardOf (site_of old) old.state hearing → Heeds old new moment hearing result
    → Holds old.seat.log old.state → OnOk result (Holds new.seat.log new.state)
heeded_holds old new moment hearing (Ok u) of p holds =
    let b = behind_adds old.seat new.seat p.marks old.state p.adds in
    subst (λ (l : List Mark). Holds l new.state) (sym b.log_is)
    (subst (λ (z : State). Holds (old.seat.log ++ p.marks) z) (sym p.state) (hearing_holds (site_of old) old.state old.seat.log p.marks p.sent hearing of p.answers b.free holds))
heeded_holds old new moment hearing (Err e) of p holds = tt

-- and at every answer its subscriptions live
pub heeded_living : (old new : Shown) (moment : Moment) (hearing : Hearing) (result : Result (Unit {0}) SessionStop) → IsHeardOf (site_of old) old.state hearing → Heeds old new moment hearing result
    → Holds old.seat.log old.state → AreLiving new.seat.log (slots_of new.state.requests)
heeded_living old new moment hearing (Ok u) of p holds = are_living new.seat.log new.state (heeded_holds old new moment hearing (Ok u) of p holds)
heeded_living old new moment hearing (Err (stops.Message fault)) of p holds =
    subst (λ (z : Seat). AreLiving z.log (slots_of new.state.requests)) (sym p.seat) (subst (AreLiving old.seat.log) (sym p.subscribed) (are_living old.seat.log old.state holds))
heeded_living old new moment hearing (Err (stops.Window fault)) of p holds =
    subst (λ (z : Seat). AreLiving z.log (slots_of new.state.requests)) (sym p.seat) (subst (AreLiving old.seat.log) (sym p.subscribed) (are_living old.seat.log old.state holds))
heeded_living old new moment hearing (Err stops.NoMemory) of p holds =
    let b = behind_adds old.seat new.seat p.marks old.state p.adds in
    subst (λ (l : List Mark). AreLiving l (slots_of new.state.requests)) (sym b.log_is)
    (subst (AreLiving (old.seat.log ++ p.marks)) (sym p.subscribed)
    (are_living (old.seat.log ++ p.marks) (left_by_hearing (site_of old) old.state hearing p.marks) (left_holds (site_of old) old.state old.seat.log p.marks hearing of p.part_is b.free holds)))

pub handled_holds : (old new : Shown) (moment : Moment) (e : Event) (result : Result (Unit {0}) SessionStop) → Handles old new moment e result → Holds old.seat.log old.state
    → OnOk result (Holds new.seat.log new.state)
handled_holds old new moment e result p holds = heeded_holds old new moment (heard (site_of old) old.state e) result (heard_so (site_of old) old.state e) p holds

pub handled_living : (old new : Shown) (moment : Moment) (e : Event) (result : Result (Unit {0}) SessionStop) → Handles old new moment e result → Holds old.seat.log old.state
    → AreLiving new.seat.log (slots_of new.state.requests)
handled_living old new moment e result p holds = heeded_living old new moment (heard (site_of old) old.state e) result (heard_so (site_of old) old.state e) p holds

-- pumps

pub pumped_holds : (old new : Shown) (result : Result Bool NoMemory) → Pumps old new result → Holds old.seat.log old.state → OnOk result (Holds new.seat.log new.state)
pumped_holds old new (Ok more) p holds =
    let marks = marks_of p.steps in
    let b = behind_adds old.seat new.seat (marks ++ []) old.state p.some.adds in
    let log : new.seat.log ≡ old.seat.log ++ marks = b.log_is ∙ ap (λ (l : List Mark). old.seat.log ++ l) (append-nil marks) in
    subst (λ (l : List Mark). Holds l new.state) (sym log)
    (subst (λ (z : State). Holds (old.seat.log ++ marks) z) (sym p.state)
    (holds_steps (site_of old) old.state old.seat.log p.steps holds p.some.rules (subst (λ (l : List Mark). AllTrue IsFreeBegun old.seat.log l) (append-nil marks) b.free)))
pumped_holds old new (Err e) p holds = tt

pub pumped_living : (old new : Shown) (result : Result Bool NoMemory) → Pumps old new result → Holds old.seat.log old.state → AreLiving new.seat.log (slots_of new.state.requests)
pumped_living old new (Ok more) p holds = are_living new.seat.log new.state (pumped_holds old new (Ok more) p holds)
pumped_living old new (Err e) p holds =
    let marks = marks_of p.steps in
    let site = site_of old in
    let held : Holds ((old.seat.log ++ marks) ++ p.next) old.state =
    past_pop (old.seat.log ++ marks) p.next old.state (state_after site old.state p.steps) p.req p.next_is.0 (Some p.next_is.1) p.next_is.2
    (past_pops site old.seat.log old.state old.state p.reqs p.steps p.some.are p.some.rules holds) in
    let log : (old.seat.log ++ marks) ++ p.next ≡ new.seat.log = append_assoc old.seat.log marks p.next ∙ sym p.some.adds.log in
    subst (AreLiving new.seat.log) (sym p.subscribed) (are_living new.seat.log old.state (subst (λ (l : List Mark). Holds l old.state) log held))

-- One that ends: the others live on.
pub living_left : (log : List Mark) (slot : ℕ) (slots : List ℕ) (mark : Mark) → AreLiving log (slot ∷ slots) → IsEnding slot (mark ∷ []) → AreLiving (log ++ mark ∷ []) slots
living_left log slot slots mark living_ p = each slots living_.0.1 living_.1
  where
    each : (rest : List ℕ) → list_any (λ other. other == slot) rest ≡ false → AreLiving log rest → AreLiving (log ++ mark ∷ []) rest
    each [] none all = tt
    each (x ∷ rest) none all =
        let parts = no_either (x == slot) (list_any (λ other. other == slot) rest) none in
        let apart : x ≢ slot = λ same. let test : (x == slot) ≡ true = grind (arith, nat_tests) in false≢true (sym parts.0 ∙ test) in
        let there : living (log ++ mark ∷ []) x ≡ living log x = living_append x None log (mark ∷ []) ∙ unended x (slot ∷ []) (mark ∷ []) (living log x) (p, tt) (λ h. not_one h apart) in
        ((ap (λ o. is_some o) there ∙ all.0.0, all.0.1), each rest parts.1 all.1)
      where
        no_either : (a b : Bool) → (a || b) ≡ false → (a ≡ false) × (b ≡ false)
        no_either true b is = absurd (false≢true (sym is))
        no_either false b is = (refl, is)

        not_one : Has x (slot ∷ []) → x ≢ slot → ⊥
        not_one (inl same) apart = apart (sym same)
        not_one (inr h) apart = h
