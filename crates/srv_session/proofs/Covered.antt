-- Each subscription that lives by the marks of a dialogue is one of its requests.
use Rattle.std.proofs.Common.{◌≡◌, ◌≢◌, ◌==◌, ℕ, Bool, true, false, not, cond, List, [], ◌∷◌, ◌++◌, Option, None, Some, refl, sym, ◌∙◌, ap, subst, arith, append_assoc, inl, inr}
use Rattle.std.specs.Prelude.{◌⊎◌, is_some, option_map}
use Rattle.std.specs.FinMap.{get as at, insert, remove, get-empty, get-retain_keys, nat_cmp-IsAntisymmetric}
use Rattle.std.specs.List.{list_any}
use Rattle.std.specs.Ordering.{nat_cmp}
use Rattle.std.proofs.lemmas.Bool.{false≢true}
use Rattle.std.proofs.lemmas.Bool.Decides.{nat_tests}
use Rattle.std.proofs.lemmas.List.{append-nil}
use Rattle.std.proofs.lemmas.Option.{none-some}
use Rattle.pva_wire.specs.declared.order.Order.{Order}
use Rattle.pva_frames.specs.declared.event.Event.{Event}
use Rattle.pva_messages.specs.Subcommands.{ends}
use Rattle.pvd_desc.specs.Types.{Types}
use Rattle.pvd_request.specs.declared.request.Request.{Request as Wanted}
use Rattle.mon_queue.specs.declared.update.Update.{Update}
use Rattle.chan_table.specs.declared.ask.AskKind.TheVariants as kinds
use Rattle.desk_api.proofs.Staying.{puts_leave, put_gets_leave}
use Rattle.desk_api.specs.Living.{Living, living, lives, popped_too}
use Rattle.desk_api.specs.declared.channel.Channel.{Channel}
use Rattle.desk_api.specs.declared.history.SiteData.{SiteData}
use Rattle.desk_api.specs.declared.mark.Mark.{Mark}
use Rattle.desk_api.specs.declared.mark.Mark.TheVariants.{Read, Entered, Overweight, Begun, Crowded, Popped, Dropped}
use Rattle.desk_api.specs.declared.sub.Sub.{Sub}
use Rattle.srv_session.specs.State.{State, Requests, Asked, is_on, on_only, without_channel, slot_of, slots_of, opening}
use Rattle.srv_session.specs.Tasks.{Task, pass_over, echo_control, refuse, tell, validate, echo, create, destroy_channel, begin, get, put, put_get, respond, snapshot, subscribe, steer, destroy_request, Hearing, asks, unreadable, over_range, heard}
use Rattle.srv_session.specs.Replies.{Sent}
use Rattle.srv_session.specs.Rows.{asked, Row, Part, AreEndingsOf, subscribed, ask_of, monitor_of, steered, behind, after_task, left_by}
use Rattle.srv_session.specs.Steps.{Step, hears, pops, knowing, IsAnswer, PartOf, EventPart, NextPart, IsStep, AreSteps, AreEndings, one_sent, with_sent, after_pop, after_hearing, after_step, left_by_hearing, after_part, state_after, marks_in, marks_of}
use Rattle.srv_session.proofs.Rows.{whole_is_part, snapshot_is_part}
use Rattle.srv_session.proofs.Owning.{AllLeave, living_append, Has, any_has, unended, ended, Owns, has_slot, has_owned}
use Rattle.srv_session.proofs.OnSite.{IsTaskOf, IsPlain, IsHeardOf, heard_so, knows}
use Rattle.srv_session.proofs.Kept.{same_ask, Was, was_itself, was_left, was_behind, was_new, was_like, get_leaves, snapshot_leaves, says_leave, none_leave, Subscribes, began, crowded, without, subscribes, Leaves, all_stays, channel_ended, monitor_comes, part_leaves}
use Rattle.srv_session.proofs.Tables.{same_or_not, got_inserted, got_beside, got_left, got_without, stays_elsewhere}

pub record Covers (log : List Mark) (s : State) : Type 0 where
  pub owned : (slot : ℕ) → lives log slot ≡ true → Owns s.requests slot
  pub only : (req : ℕ) (ask : Asked) (sub : Sub) → at s.requests req ≡ Some ask → ask.sub ≡ Some sub → ask.kind ≡ kinds.Monitor

-- what a state's requests with subscriptions were, and what lives, tell that of it
covers_by : (log marks : List Mark) (s t : State) → ((req : ℕ) (ask : Asked) (sub : Sub) → at t.requests req ≡ Some ask → ask.sub ≡ Some sub → Was s req ask sub)
    → ((slot : ℕ) → lives (log ++ marks) slot ≡ true → Owns t.requests slot) → Covers log s → Covers (log ++ marks) t
covers_by log marks s t was owned c = record {
  owned = owned;
  only = λ req ask sub here is. let w = was req ask sub here is in w.kind_is ∙ c.only req w.one sub w.here w.subscribed;
}

-- Plain marks.

lived : (log marks : List Mark) (slot : ℕ) → AllLeave marks → lives (log ++ marks) slot ≡ true → lives log slot ≡ true
lived log marks slot plain is = ap (λ o. is_some o) (sym (living_append slot None log marks ∙ plain slot (living log slot))) ∙ is

module _ (log marks : List Mark) (s : State) (c : Covers log s) (plain : AllLeave marks) where
  owned_before : (slot : ℕ) → lives (log ++ marks) slot ≡ true → Owns s.requests slot
  owned_before slot is = c.owned slot (lived log marks slot plain is)

  covers_same : (t : State) → t.requests ≡ s.requests → Covers (log ++ marks) t
  covers_same t same =
      covers_by log marks s t (λ req ask sub here is. was_itself s req ask sub (ap (λ (r : Requests). at r req) (sym same) ∙ here) is)
      (λ slot is. subst (λ (r : Requests). Owns r slot) (sym same) (owned_before slot is)) c

  -- a request that has no subscription goes, ..
  owned_left : (req slot : ℕ) → IsPlain s req → Owns s.requests slot → Owns (remove s.requests req) slot
  owned_left req slot none o =
      let apart : o.req ≢ req = λ same. none o.ask (ap (at s.requests) (sym same) ∙ o.here) (c.only o.req o.ask o.sub o.here o.subscribed) in
      record { req = o.req; ask = o.ask; sub = o.sub; here = got_left s.requests req o.req apart ∙ o.here; subscribed = o.subscribed; slot_is = o.slot_is }

  owned_behind : (req sub slot : ℕ) → IsPlain s req → Owns s.requests slot → Owns (behind req sub s.requests) slot
  owned_behind req sub slot none o = by_bit (ends sub)
    where
      by_bit : (b : Bool) → Owns (cond b (remove s.requests req) s.requests) slot
      by_bit true = owned_left req slot none o
      by_bit false = o

  covers_behind : (req sub : ℕ) → IsPlain s req → Covers (log ++ marks) (record s { requests = behind req sub s.requests })
  covers_behind req sub none =
      covers_by log marks s (record s { requests = behind req sub s.requests }) (λ q ask x here is. was_behind s req sub q ask x here is) (λ slot is. owned_behind req sub slot none (owned_before slot is)) c

-- .. one comes under an id that was free, ..
owned_put : (s : State) (req slot : ℕ) (new : Asked) → at s.requests req ≡ None → Owns s.requests slot → Owns (insert s.requests req new) slot
owned_put s req slot new free o =
    let apart : o.req ≢ req = λ same. none-some o.ask (sym free ∙ ap (at s.requests) (sym same) ∙ o.here) in
    record { req = o.req; ask = o.ask; sub = o.sub; here = got_beside s.requests req new o.req apart ∙ o.here; subscribed = o.subscribed; slot_is = o.slot_is }

-- .. or in the place of one with the same subscription
owned_like : (s : State) (req slot : ℕ) (new old : Asked) → at s.requests req ≡ Some old → new.sub ≡ old.sub → Owns s.requests slot → Owns (insert s.requests req new) slot
owned_like s req slot new old there same o = by_id (same_or_not o.req req)
  where
    by_id : (o.req ≡ req) ⊎ (o.req ≢ req) → Owns (insert s.requests req new) slot
    by_id (inl here) =
        let one : old ≡ o.ask = same_ask (sym there ∙ ap (at s.requests) (sym here) ∙ o.here) in
        record { req = req; ask = new; sub = o.sub; here = got_inserted s.requests req new; subscribed = same ∙ ap (λ (z : Asked). z.sub) one ∙ o.subscribed; slot_is = o.slot_is }
    by_id (inr apart) = record { req = o.req; ask = o.ask; sub = o.sub; here = got_beside s.requests req new o.req apart ∙ o.here; subscribed = o.subscribed; slot_is = o.slot_is }

covers_like : (log marks : List Mark) (s : State) → AllLeave marks → (req : ℕ) (new old : Asked) → at s.requests req ≡ Some old → new.sub ≡ old.sub → new.sid ≡ old.sid → new.mask ≡ old.mask → new.kind ≡ old.kind
    → Covers log s → Covers (log ++ marks) (record s { requests = insert s.requests req new })
covers_like log marks s plain req new old there sub sid mask kind c =
    covers_by log marks s (record s { requests = insert s.requests req new })
    (λ q ask x here is. was_like s req new old there (record { sub = sub; sid = sid; mask = mask; kind = kind }) q ask x here is)
    (λ slot is. owned_like s req slot new old there sub (owned_before log marks s c plain slot is)) c

-- Endings.

-- what lives behind endings isn't among those that ended, and lived before
not_ended : (log marks : List Mark) (slots : List ℕ) (slot : ℕ) → AreEndingsOf slots marks → lives (log ++ marks) slot ≡ true → (lives log slot ≡ true) × (Has slot slots → ⊥)
not_ended log marks slots slot p is = (ap (λ o. is_some o) (sym (living_append slot None log marks ∙ unended slot slots marks (living log slot) p apart)) ∙ is, apart)
  where
    apart : Has slot slots → ⊥
    apart has = false≢true (sym (ap (λ o. is_some o) (living_append slot None log marks ∙ ended slot slots marks (living log slot) p has)) ∙ is)

got_only : (sid : ℕ) (requests : Requests) (req : ℕ) → at (on_only sid requests) req ≡ cond (is_on sid (at requests req)) (at requests req) None
got_only sid requests req = get-retain_keys requests (λ q. is_on sid (at requests q)) req (λ x ties. ap (λ (k : ℕ). is_on sid (at requests k)) (sym (nat_cmp-IsAntisymmetric req x ties)))

module _ (log marks : List Mark) (s : State) (c : Covers log s) where
  owned_elsewhere : (sid slot : ℕ) → (Has slot (slots_of (on_only sid s.requests)) → ⊥) → Owns s.requests slot → Owns (without_channel sid s.requests) slot
  owned_elsewhere sid slot apart o = by_place (is_on sid (at s.requests o.req)) refl
    where
      by_place : (on : Bool) → is_on sid (at s.requests o.req) ≡ on → Owns (without_channel sid s.requests) slot
      by_place true on =
          let here : at (on_only sid s.requests) o.req ≡ Some o.ask = got_only sid s.requests o.req ∙ ap (λ (b : Bool). cond b (at s.requests o.req) None) on ∙ o.here in
          absurd (apart (has_slot (on_only sid s.requests) slot (record { req = o.req; ask = o.ask; sub = o.sub; here = here; subscribed = o.subscribed; slot_is = o.slot_is })))
      by_place false on = record {
        req = o.req;
        ask = o.ask;
        sub = o.sub;
        here = got_without sid s.requests o.req ∙ ap (λ (b : Bool). cond (not b) (at s.requests o.req) None) on ∙ o.here;
        subscribed = o.subscribed;
        slot_is = o.slot_is;
      }

  covers_closed : (sid : ℕ) → AreEndingsOf (slots_of (on_only sid s.requests)) marks → (t : State) → t.requests ≡ without_channel sid s.requests → Covers (log ++ marks) t
  covers_closed sid p t same =
      covers_by log marks s t
      (λ req ask sub here is. was_itself s req ask sub (stays_elsewhere sid s.requests req ask (ap (λ (r : Requests). at r req) (sym same) ∙ here)).0 is)
      (λ slot is. let b = not_ended log marks (slots_of (on_only sid s.requests)) slot p is in
      subst (λ (r : Requests). Owns r slot) (sym same) (owned_elsewhere sid slot b.1 (c.owned slot b.0))) c

  owned_apart : (req slot : ℕ) → (Has slot (slot_of (at s.requests req)) → ⊥) → Owns s.requests slot → Owns (remove s.requests req) slot
  owned_apart req slot none o =
      let apart : o.req ≢ req = λ same. none (subst (λ (r : ℕ). Has slot (slot_of (at s.requests r))) same (has_owned s.requests slot o)) in
      record { req = o.req; ask = o.ask; sub = o.sub; here = got_left s.requests req o.req apart ∙ o.here; subscribed = o.subscribed; slot_is = o.slot_is }

  covers_ended : (req : ℕ) → AreEndingsOf (slot_of (at s.requests req)) marks → Covers (log ++ marks) (record s { requests = remove s.requests req })
  covers_ended req p =
      covers_by log marks s (record s { requests = remove s.requests req }) (λ q ask sub here is. was_left s req q ask sub here is)
      (λ slot is. let b = not_ended log marks (slot_of (at s.requests req)) slot p is in owned_apart req slot b.1 (c.owned slot b.0)) c

-- Beginnings.

module _ (log : List Mark) (s : State) (c : Covers log s) (req sid : ℕ) (wanted : Wanted) (window : Option ℕ) (free : at s.requests req ≡ None) where
  owned_begun : (place index slot : ℕ) (channel : Channel) (size other : ℕ) → lives (log ++ Begun place index slot channel wanted.mask size ∷ []) other ≡ true
      → Owns (insert s.requests req (monitor_of sid wanted slot window)) other
  owned_begun place index slot channel size other is = by_test (slot == other) refl
    where
      by_test : (b : Bool) → (slot == other) ≡ b → Owns (insert s.requests req (monitor_of sid wanted slot window)) other
      by_test true test =
          let same : slot ≡ other = grind (arith, nat_tests) in
          record { req = req; ask = monitor_of sid wanted slot window; sub = record { slot = slot }; here = got_inserted s.requests req (monitor_of sid wanted slot window); subscribed = refl; slot_is = same }
      by_test false test =
          let before : living (log ++ Begun place index slot channel wanted.mask size ∷ []) other ≡ living log other =
          living_append other None log (Begun place index slot channel wanted.mask size ∷ [])
          ∙ ap (λ (b : Bool). cond b (Some (record { place = place; channel = channel; mask = wanted.mask; size = size; pops = [] })) (living log other)) test in
          owned_put s req other (monitor_of sid wanted slot window) free (c.owned other (ap (λ o. is_some o) (sym before) ∙ is))

  covers_begun : (place index slot : ℕ) (channel : Channel) (size : ℕ)
      → Covers (log ++ Begun place index slot channel wanted.mask size ∷ []) (record s { requests = insert s.requests req (monitor_of sid wanted slot window) })
  covers_begun place index slot channel size = record {
    owned = λ other is. owned_begun place index slot channel size other is;
    only = λ q ask sub here is. by_id q ask sub here is (same_or_not q req);
  }
    where
      by_id : (q : ℕ) (ask : Asked) (sub : Sub) → at (insert s.requests req (monitor_of sid wanted slot window)) q ≡ Some ask → ask.sub ≡ Some sub → (q ≡ req) ⊎ (q ≢ req) → ask.kind ≡ kinds.Monitor
      by_id q ask sub here is (inl same) =
          let one : monitor_of sid wanted slot window ≡ ask =
          same_ask (sym (got_inserted s.requests req (monitor_of sid wanted slot window)) ∙ ap (at (insert s.requests req (monitor_of sid wanted slot window))) (sym same) ∙ here) in
          sym (ap (λ (z : Asked). z.kind) one)
      by_id q ask sub here is (inr apart) = c.only q ask sub (sym (got_beside s.requests req (monitor_of sid wanted slot window) q apart) ∙ here) is

  covers_subscribed : (channel : Channel) (marks : List Mark) → Subscribes channel wanted.mask marks → Covers (log ++ marks) (record s { requests = subscribed req sid wanted window marks s.requests })
  covers_subscribed channel marks (began place index slot size is) =
      subst (λ (ms : List Mark). Covers (log ++ ms) (record s { requests = subscribed req sid wanted window ms s.requests })) (sym is) (covers_begun place index slot channel size)
  covers_subscribed channel marks (crowded place index count is) =
      subst (λ (ms : List Mark). Covers (log ++ ms) (record s { requests = subscribed req sid wanted window ms s.requests })) (sym is)
      (covers_same log (Crowded place index count ∷ []) s c (λ slot o. refl) s refl)
  covers_subscribed channel marks (without is) =
      subst (λ (ms : List Mark). Covers (log ++ ms) (record s { requests = subscribed req sid wanted window ms s.requests })) (sym is) (covers_same log [] s c (λ slot o. refl) s refl)

covers_new : (log marks : List Mark) (s : State) → AllLeave marks → (req : ℕ) (new : Asked) → at s.requests req ≡ None → new.sub ≡ None → Covers log s → Covers (log ++ marks) (record s { requests = insert s.requests req new })
covers_new log marks s plain req new free none c =
    covers_by log marks s (record s { requests = insert s.requests req new }) (λ q ask sub here is. was_new s req new none q ask sub here is)
    (λ slot is. owned_put s req slot new free (owned_before log marks s c plain slot is)) c

-- Rows and their parts.

module _ (site : SiteData) (log marks : List Mark) (sent : List Sent) where
  row_covers : (s : State) (task : Task) → IsTaskOf site s task → Row site s task marks sent → Covers log s → Covers (log ++ marks) (after_task site s task marks)
  row_covers s pass_over of p c = covers_same log marks s c (says_leave _ marks sent p) s refl
  row_covers s (echo_control number) of p c = covers_same log marks s c (says_leave _ marks sent p) s refl
  row_covers s (refuse r) of p c = covers_same log marks s c (says_leave _ marks sent p) s refl
  row_covers s (tell r) of p c = covers_same log marks s c (says_leave _ marks sent p) s refl
  row_covers s (validate buffer registry user host) of p c = covers_same log marks s c (says_leave _ marks sent p) _ refl
  row_covers s (echo payload) of p c = covers_same log marks s c (says_leave _ marks sent p) s refl
  row_covers s (create names) of p c = covers_same log marks s c (says_leave _ marks sent p) _ refl
  row_covers s (destroy_channel sid cid) of p c = covers_closed log marks s c sid p.endings _ refl
  row_covers s (begin kind req sub sid channel wanted) of p c = covers_new log marks s (says_leave _ marks sent p) req (ask_of kind sid wanted) of.free refl c
  row_covers s (get kind req sub ask channel) of p c = covers_behind log marks s c (get_leaves site channel ask.atomic marks (whole_is_part site channel ask.atomic p.value marks p.is_get)) req sub of
  row_covers s (put req sub ask channel mask value) of p c = covers_behind log marks s c (λ slot o. puts_leave slot o _ p.answer marks p.is_put) req sub of
  row_covers s (put_get req sub ask channel mask value) of p c =
      covers_behind log marks s c (λ slot o. put_gets_leave slot o (asked site ask channel mask value p.moment) p.answer marks p.is_put_get) req sub of
  row_covers s (respond req sub r) of p c = covers_behind log marks s c (says_leave _ marks sent p) req sub of
  row_covers s (snapshot req sub) of p c = covers_behind log marks s c (snapshot_leaves site marks (snapshot_is_part site p.rows marks p.is_snapshot)) req sub of
  row_covers s (subscribe req sub sid channel wanted count) of p c =
      covers_subscribed log s c req sid wanted count of.0.free channel marks (subscribes channel wanted.mask wanted.queue p.answer marks p.is_subscribe)
  row_covers s (steer req count started ask) of p c = covers_like log marks s (says_leave _ marks sent p) req (steered count started ask) ask of.here refl refl refl refl c
  row_covers s (destroy_request req) of p c = covers_ended log marks s c req p.endings

part_covers : (site : SiteData) (log : List Mark) (s : State) (task : Task) (marks : List Mark) → IsTaskOf site s task → Part site s task marks → Covers log s → Covers (log ++ marks) (left_by site s task marks)
part_covers site log s task marks of p c = by_what_is_left (left_by site s task marks) (part_leaves site s task marks of p)
  where
    by_what_is_left : (left : State) → Leaves s marks left → Covers (log ++ marks) left
    by_what_is_left left (all_stays plain is) = covers_same log marks s c plain left (ap (λ (z : State). z.requests) is)
    by_what_is_left left (channel_ended sid endings is) = covers_closed log marks s c sid endings left (ap (λ (z : State). z.requests) is)
    by_what_is_left left (monitor_comes req sid channel wanted window none open_ subscribes_ is) = subst (Covers (log ++ marks)) (sym is) (covers_subscribed log s c req sid wanted window none channel marks subscribes_)

knowing_covers : (log : List Mark) (s : State) (types : Types) → Covers log s → Covers log (knowing s types)
knowing_covers log s types c = record { owned = c.owned; only = c.only }

hearing_covers : (site : SiteData) (s : State) (log marks : List Mark) (sent : List Sent) (hearing : Hearing) → IsHeardOf site s hearing → IsAnswer site s hearing marks sent → Covers log s
    → Covers (log ++ marks) (after_hearing site s hearing marks)
hearing_covers site s log marks sent (asks task types) of p c = row_covers site log marks sent (knowing s types) task (knows site s types task of) p (knowing_covers log s types c)
hearing_covers site s log marks sent (unreadable fault) of p c = absurd p
hearing_covers site s log marks sent over_range of p c = absurd p

left_covers : (site : SiteData) (s : State) (log marks : List Mark) (hearing : Hearing) → IsHeardOf site s hearing → PartOf site s hearing marks → Covers log s
    → Covers (log ++ marks) (left_by_hearing site s hearing marks)
left_covers site s log marks (asks task types) of p c = part_covers site log (knowing s types) task marks (knows site s types task of) p (knowing_covers log s types c)
left_covers site s log marks (unreadable fault) of p c = covers_same log marks s c (none_leave marks p) s refl
left_covers site s log marks over_range of p c = covers_same log marks s c (none_leave marks p) s refl

-- Pops.

popped_lived : (log : List Mark) (place slot : ℕ) (update : Option Update) (other : ℕ) → lives (log ++ Popped place slot update ∷ []) other ≡ true → lives log other ≡ true
popped_lived log place slot update other is = by_test (slot == other) refl
  where
    some_before : (o : Option Living) → is_some (option_map (popped_too place update) o) ≡ true → is_some o ≡ true
    some_before None e = absurd (false≢true e)
    some_before (Some l) e = refl

    after : (b : Bool) → (slot == other) ≡ b → is_some (cond b (option_map (popped_too place update) (living log other)) (living log other)) ≡ true
    after b test =
        ap (λ (c : Bool). is_some (cond c (option_map (popped_too place update) (living log other)) (living log other))) (sym test)
        ∙ ap (λ o. is_some o) (sym (living_append other None log (Popped place slot update ∷ []))) ∙ is

    by_test : (b : Bool) → (slot == other) ≡ b → lives log other ≡ true
    by_test true test = some_before (living log other) (after true test)
    by_test false test = after false test

-- the state before it and the one behind it
past_covers : (log : List Mark) (s : State) (place slot : ℕ) (update : Option Update) → Covers log s → Covers (log ++ Popped place slot update ∷ []) s
past_covers log s place slot update c = record { owned = λ other is. c.owned other (popped_lived log place slot update other is); only = c.only }

pop_covers : (log : List Mark) (s : State) (req : ℕ) (ask : Asked) (here : at s.requests req ≡ Some ask) (place slot : ℕ) (update : Option Update) → Covers log s
    → Covers (log ++ Popped place slot update ∷ []) (after_pop s req (Popped place slot update ∷ []))
pop_covers log s req ask here place slot None c = past_covers log s place slot None c
pop_covers log s req ask here place slot (Some update) c =
    subst (λ (r : Requests). Covers (log ++ Popped place slot (Some update) ∷ []) (record s { requests = r })) (sym sent_is) (record { owned = λ other is. owned other is; only = λ q a sub there is. only q a sub there is })
  where
    sent_is : with_sent req (at s.requests req) s.requests ≡ insert s.requests req (one_sent ask)
    sent_is = ap (λ (o : Option Asked). with_sent req o s.requests) here

    owned : (other : ℕ) → lives (log ++ Popped place slot (Some update) ∷ []) other ≡ true → Owns (insert s.requests req (one_sent ask)) other
    owned other is = owned_like s req other (one_sent ask) ask here refl (c.owned other (popped_lived log place slot (Some update) other is))

    only : (q : ℕ) (a : Asked) (sub : Sub) → at (insert s.requests req (one_sent ask)) q ≡ Some a → a.sub ≡ Some sub → a.kind ≡ kinds.Monitor
    only q a sub there is =
        let w = was_like s req (one_sent ask) ask here (record { sub = refl; sid = refl; mask = refl; kind = refl }) q a sub there is in w.kind_is ∙ c.only q w.one sub w.here w.subscribed

-- Steps.

covers_step : (site : SiteData) (s : State) (log : List Mark) (x : Step) → IsStep site s x → Covers log s → Covers (log ++ marks_in x) (after_step site s x)
covers_step site s log (hears e marks sent) p c = hearing_covers site s log marks sent (heard site s e) (heard_so site s e) p.0 c
covers_step site s log (pops req marks sent) p c =
    let u = p.0.is_pop in
    subst (λ (ms : List Mark). Covers (log ++ ms) (after_pop s req ms)) (sym u.marks_are) (pop_covers log s req u.ask u.is_due.here u.place u.sub.slot p.0.update c)

pub covers_steps : (site : SiteData) (s : State) (log : List Mark) (xs : List Step) → AreSteps site s xs → Covers log s → Covers (log ++ marks_of xs) (state_after site s xs)
covers_steps site s log [] rules c = subst (λ (l : List Mark). Covers l s) (sym (append-nil log)) c
covers_steps site s log (x ∷ xs) rules c =
    subst (λ (l : List Mark). Covers l (state_after site (after_step site s x) xs)) (append_assoc log (marks_in x) (marks_of xs))
    (covers_steps site (after_step site s x) (log ++ marks_in x) xs rules.1 (covers_step site s log x rules.0 c))

pub opening_covers : (order : Order) → Covers [] (opening order)
opening_covers order = record {
  owned = λ slot is. absurd (false≢true is);
  only = λ req ask sub here is. absurd (none-some ask (sym (get-empty nat_cmp req) ∙ here));
}

-- each slot that lives is one of the requests'
pub living_known : (site : SiteData) (order : Order) (steps : List Step) → AreSteps site (opening order) steps → (slot : ℕ) → lives (marks_of steps) slot ≡ true
    → list_any (λ x. x == slot) (slots_of (state_after site (opening order) steps).requests) ≡ true
living_known site order steps rules slot is =
    let s = state_after site (opening order) steps in
    any_has slot (slots_of s.requests) (has_slot s.requests slot ((covers_steps site (opening order) [] steps rules (opening_covers order)).owned slot is))

-- Behind the endings none lives.

pub none_lives : (log : List Mark) (s : State) (endings : List Mark) → Covers log s → AreEndings s endings → (slot : ℕ) → lives (log ++ endings) slot ≡ false
none_lives log s endings c p slot = by_test (lives (log ++ endings) slot) refl
  where
    by_test : (b : Bool) → lives (log ++ endings) slot ≡ b → b ≡ false
    by_test true is = let e = not_ended log endings (slots_of s.requests) slot p is in absurd (e.1 (has_slot s.requests slot (c.owned slot e.0)))
    by_test false is = refl

pub all_ended : (site : SiteData) (order : Order) (steps : List Step) (endings : List Mark) → AreSteps site (opening order) steps → AreEndings (state_after site (opening order) steps) endings
    → (slot : ℕ) → lives (marks_of steps ++ endings) slot ≡ false
all_ended site order steps endings rules p slot =
    none_lives (marks_of steps) (state_after site (opening order) steps) endings (covers_steps site (opening order) [] steps rules (opening_covers order)) p slot

-- The same where memory ran out in the next row, or in a pop.

no_popped_ending : (slots : List ℕ) (place slot : ℕ) (update : Option Update) → AreEndingsOf slots (Popped place slot update ∷ []) → ⊥
no_popped_ending [] place slot update p = p
no_popped_ending (x ∷ slots) place slot update p = false≢true (ap first_ends p.0.marks_are)
  where
    ends_one : Mark → Bool
    ends_one (Dropped at_ index x) = true
    ends_one mark = false

    first_ends : List Mark → Bool
    first_ends [] = false
    first_ends (mark ∷ marks) = ends_one mark

popped_part : (site : SiteData) (s : State) (task : Task) (place slot : ℕ) (update : Option Update) → IsTaskOf site s task → Part site s task (Popped place slot update ∷ [])
    → slots_of s.requests ≡ slots_of (left_by site s task (Popped place slot update ∷ [])).requests
popped_part site s task place slot update of p = by_what_is_left (left_by site s task (Popped place slot update ∷ [])) (part_leaves site s task (Popped place slot update ∷ []) of p)
  where
    by_what_is_left : (left : State) → Leaves s (Popped place slot update ∷ []) left → slots_of s.requests ≡ slots_of left.requests
    by_what_is_left left (all_stays plain is) = ap (λ (z : State). slots_of z.requests) (sym is)
    by_what_is_left left (channel_ended sid endings is) = absurd (no_popped_ending (slots_of (on_only sid s.requests)) place slot update endings)
    by_what_is_left left (monitor_comes req sid channel wanted window none open_ subscribes_ is) = ap (λ (z : State). slots_of z.requests) (sym is)

popped_part_of : (site : SiteData) (s : State) (hearing : Hearing) (place slot : ℕ) (update : Option Update) → IsHeardOf site s hearing → PartOf site s hearing (Popped place slot update ∷ [])
    → slots_of s.requests ≡ slots_of (left_by_hearing site s hearing (Popped place slot update ∷ [])).requests
popped_part_of site s (asks task types) place slot update of p = popped_part site (knowing s types) task place slot update (knows site s types task of) p
popped_part_of site s (unreadable fault) place slot update of p = refl
popped_part_of site s over_range place slot update of p = refl

pub after_part_is : (site : SiteData) (s : State) (e : Event) (more : List Event) (marks : List Mark) → PartOf site s (heard site s e) marks
    → slots_of (after_part site s (e ∷ more) marks).requests ≡ slots_of (left_by_hearing site s (heard site s e) marks).requests
after_part_is site s e more [] p = refl
after_part_is site s e more (Read place channel footprint found ∷ marks) p = refl
after_part_is site s e more (Entered place entry looked found ∷ marks) p = refl
after_part_is site s e more (Overweight place footprint actions kept added limit ∷ marks) p = refl
after_part_is site s e more (Begun place index slot channel mask size ∷ marks) p = refl
after_part_is site s e more (Crowded place index count ∷ marks) p = refl
after_part_is site s e more (Dropped place index slot ∷ marks) p = refl
after_part_is site s e more (Popped place slot update ∷ []) p = popped_part_of site s (heard site s e) place slot update (heard_so site s e) p
after_part_is site s e more (Popped place slot update ∷ mark ∷ marks) p = refl

module _ (site : SiteData) (log : List Mark) (s : State) (c : Covers log s) (endings : List Mark) (slot : ℕ) where
  event_ended : (events : List Event) (more : List Mark) → EventPart site s events more → AreEndings (after_part site s events more) endings → lives ((log ++ more) ++ endings) slot ≡ false
  event_ended [] more p ending_ =
      subst (λ (ms : List Mark). AreEndings (after_part site s [] ms) endings → lives ((log ++ ms) ++ endings) slot ≡ false) (sym p)
      (λ e. none_lives (log ++ []) s endings (covers_same log [] s c (λ slot o. refl) s refl) e slot) ending_
  event_ended (e ∷ events) more p ending_ =
      none_lives (log ++ more) (left_by_hearing site s (heard site s e) more) endings (left_covers site s log more (heard site s e) (heard_so site s e) p c)
      (subst (λ (slots : List ℕ). AreEndingsOf slots endings) (after_part_is site s e events more p) ending_) slot

  next_ended : (events : List Event) (more : List Mark) → NextPart site s events more → AreEndings (after_part site s events more) endings → lives ((log ++ more) ++ endings) slot ≡ false
  next_ended events more (inl p) ending_ = event_ended events more p ending_
  next_ended events more (inr (req, (channel, update, p))) ending_ =
      subst (λ (ms : List Mark). AreEndings (after_part site s events ms) endings → lives ((log ++ ms) ++ endings) slot ≡ false) (sym p.marks_are)
      (λ e. none_lives (log ++ Popped p.place p.sub.slot (Some update) ∷ []) s endings (past_covers log s p.place p.sub.slot (Some update) c) e slot) ending_

pub all_ended_behind : (site : SiteData) (order : Order) (steps : List Step) (events : List Event) (more endings : List Mark) → AreSteps site (opening order) steps
    → NextPart site (state_after site (opening order) steps) events more → AreEndings (after_part site (state_after site (opening order) steps) events more) endings
    → (slot : ℕ) → lives ((marks_of steps ++ more) ++ endings) slot ≡ false
all_ended_behind site order steps events more endings rules part ending_ slot =
    next_ended site (marks_of steps) (state_after site (opening order) steps) (covers_steps site (opening order) [] steps rules (opening_covers order)) endings slot events more part ending_
