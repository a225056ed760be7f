-- Pops, and pumps, which are pops of all monitors that are due.
use Rattle.std.proofs.Common.{◌≡◌, ◌≢◌, ◌==◌, ℕ, zero, suc, ◌+◌, ◌-◌, ◌<◌, ◌≤◌, Bool, true, false, ◌&&◌, ◌||◌, not, cond, List, [], ◌∷◌, ◌++◌, drop, length, Option, None, Some, Result, Ok, Err, refl, sym, ◌∙◌, ap, subst, arith, append_assoc}
use Rattle.std.specs.Prelude.{IsErr, IsTrue, get_or, is_some, nat_lt}
use Rattle.std.specs.List.{filter, list_all, list_any}
use Rattle.std.specs.FinMap.{get as at, insert}
use Rattle.std.proofs.lemmas.Bool.{false≢true}
use Rattle.std.proofs.lemmas.Bool.Decides.{nat_tests}
use Rattle.std.proofs.lemmas.Option.{none-some}
use Rattle.std.proofs.Math.ListN.{drop_of_length-le}
use Rattle.std.proofs.lemmas.List.{append-nil, at_drop_more}
use Rattle.pvd_type.specs.Tree.{Tree}
use Rattle.pvd_type.specs.declared.memory.NoMemory.{NoMemory}
use Rattle.mon_queue.specs.Told.{IsUpdateOf}
use Rattle.mon_queue.specs.declared.update.Update.{Update}
use Rattle.desk_api.proofs.Adding.{adds_nothing, adds_more}
use Rattle.desk_api.specs.Calls.{Adds, Calls, IsPop}
use Rattle.desk_api.specs.History.{IsLegal}
use Rattle.desk_api.specs.Living.{Living, living, lives}
use Rattle.desk_api.specs.Sites.{is_channel, has_values}
use Rattle.desk_api.specs.Types.{type_of}
use Rattle.desk_api.specs.declared.channel.Channel.{Channel}
use Rattle.desk_api.specs.declared.history.SiteData.{SiteData}
use Rattle.desk_api.specs.declared.mark.Mark.{Mark}
use Rattle.desk_api.specs.declared.mark.Mark.TheVariants.{Popped}
use Rattle.desk_api.specs.declared.mark.Seat.{Seat}
use Rattle.desk_api.specs.declared.sub.Sub.{Sub}
use Rattle.srv_session.specs.State.{State, Requests, Asked, channel_at, is_due, due, slot_of_sub, slots_of}
use Rattle.srv_session.specs.Replies.{Sent, IsSayable, is_call, said, spelled, spelled_all, updated}
use Rattle.srv_session.specs.Rising.{is_rising}
use Rattle.srv_session.specs.Steps.{Step, hears, pops, IsDueMonitor, IsPopOf, PopRow, UnsentPop, one_sent, with_sent, after_pop, after_step, AreSteps, state_after, marks_of, sent_in, out_of, update_sent}
use Rattle.srv_session.specs.Calls.{AreLiving, IsOf, IsHeld, Holds, ArePopsOf, is_some_sent, sends, Pumps, Pumped, PumpedSome, PumpStopped}
use Rattle.srv_session.specs.Views.{state_of, output_of, show}
use Rattle.srv_session.specs.Watching.{HasPopped, HasFailed, PopsOne, PopsDue, Idles, SendsUpdate}
use Rattle.srv_session.specs.declared.session.Session.{Session}
use Rattle.srv_session.proofs.Tables.{got_beside}
use Rattle.srv_session.proofs.Slots.{slots_insert}
use Rattle.srv_session.proofs.Kept.{pop_holds, pumped_living}
use Rattle.srv_session.proofs.OnSite.{pop_on_site}
use Rattle.srv_session.proofs.Rows.{shown}
use Rattle.srv_session.proofs.Steps.{after_append, steps_append, marks_append, out_append}

-- A monitor that is due, with its channel and its subscription.

both_true : (a b : Bool) → (a && b) ≡ true → (a ≡ true) × (b ≡ true)
both_true true b e = (refl, e)
both_true false b e = absurd (false≢true e)

pub is_there : (o : Option Asked) → is_due o ≡ true → (ask : Asked) × ((o ≡ Some ask) × ((sub : Sub) × (ask.sub ≡ Some sub)))
is_there None is = absurd (false≢true is)
is_there (Some ask) is = (ask, (refl, by_sub ask.sub (both_true (is_some ask.sub) _ is).0))
  where
    by_sub : (o : Option Sub) → is_some o ≡ true → (sub : Sub) × (o ≡ Some sub)
    by_sub None e = absurd (false≢true e)
    by_sub (Some sub) e = (sub, refl)

-- One pop.

abbrev oks : Bool → Result Bool NoMemory
oks more = Ok more

abbrev fails : NoMemory → Result Bool NoMemory
fails e = Err e

module _ (here there : Seat) (s : State) (req : ℕ) (ask : Asked) (channel : Channel) (sub : Sub) (is : IsDueMonitor s req ask channel sub) (update : Option Update) (calls : Calls here there (IsPop sub.slot update)) where
  pop_of : IsPopOf s req channel update calls.marks
  pop_of = record { ask = ask; sub = sub; is_due = is; place = calls.named.at; marks_are = calls.named.marks_are }

  pub popped_row : PopRow here.seen.base.site s req calls.marks (update_sent here.seen.base.site req channel update)
  popped_row = record { channel = channel; update = update; is_pop = pop_of; sent_is = refl }

  -- the state behind it
  pub after_popped : after_pop s req calls.marks ≡ after_pop s req (Popped calls.named.at sub.slot update ∷ [])
  after_popped = ap (after_pop s req) calls.named.marks_are

-- the requests behind it have the same subscriptions, on the same channels

one_sent_slots : (s : State) (req : ℕ) (o : Option Asked) → at s.requests req ≡ o → slots_of (with_sent req o s.requests) ≡ slots_of s.requests
one_sent_slots s req None here = refl
one_sent_slots s req (Some ask) here = slots_insert s.requests req (one_sent ask) (ap slot_of_ask here)
  where
    slot_of_ask : Option Asked → List ℕ
    slot_of_ask None = []
    slot_of_ask (Some a) = slot_of_sub a.sub

module _ (here there : Seat) (s : State) (req : ℕ) (marks : List Mark) (sent : List Sent) (row : PopRow here.seen.base.site s req marks sent) where
  abbrev mark_ : Mark
  mark_ = Popped row.is_pop.place row.is_pop.sub.slot row.update

  by_update : {A : Type 0} (f : State → A) → ((o : Option Update) → f (after_pop s req (Popped row.is_pop.place row.is_pop.sub.slot o ∷ [])) ≡ f s) → f (after_pop s req marks) ≡ f s
  by_update f same = ap (λ (ms : List Mark). f (after_pop s req ms)) row.is_pop.marks_are ∙ same row.update

  pub popped_slots : slots_of (after_pop s req marks).requests ≡ slots_of s.requests
  popped_slots = by_update (λ z. slots_of z.requests) by_case
    where
      by_case : (o : Option Update) → slots_of (after_pop s req (Popped row.is_pop.place row.is_pop.sub.slot o ∷ [])).requests ≡ slots_of s.requests
      by_case None = refl
      by_case (Some update) = one_sent_slots s req (at s.requests req) refl

  -- other requests are as before
  pub popped_beside : (q : ℕ) → q ≢ req → at (after_pop s req marks).requests q ≡ at s.requests q
  popped_beside q apart = by_update (λ z. at z.requests q) by_case
    where
      by_place : (o : Option Asked) → at (with_sent req o s.requests) q ≡ at s.requests q
      by_place None = refl
      by_place (Some ask) = got_beside s.requests req (one_sent ask) q apart

      by_case : (o : Option Update) → at (after_pop s req (Popped row.is_pop.place row.is_pop.sub.slot o ∷ [])).requests q ≡ at s.requests q
      by_case None = refl
      by_case (Some update) = by_place (at s.requests req)

  pub popped_holds : Adds here there marks → Holds here.log s → Holds there.log (after_pop s req marks)
  popped_holds adds ok = subst (λ (l : List Mark). Holds l (after_pop s req marks)) (sym adds.log) (pop_holds here.log marks s req row.channel row.update row.is_pop ok)

-- Pops, one after another.

are_more : (reqs : List ℕ) (steps : List Step) (req : ℕ) (marks : List Mark) (sent : List Sent) → ArePopsOf reqs steps → ArePopsOf (reqs ++ req ∷ []) (steps ++ pops req marks sent ∷ [])
are_more [] [] req marks sent are = (refl, tt)
are_more [] (step ∷ steps) req marks sent are = absurd are
are_more (r ∷ reqs) [] req marks sent are = absurd are
are_more (r ∷ reqs) (hears e m t ∷ steps) req marks sent are = absurd are
are_more (r ∷ reqs) (pops q m t ∷ steps) req marks sent are = (are.0, are_more reqs steps req marks sent are.1)

sends_more : (xs ys : List Step) → sends (xs ++ ys) ≡ (sends xs || sends ys)
sends_more [] ys = refl
sends_more (x ∷ xs) ys = ap (λ (b : Bool). is_some_sent (sent_in x) || b) (sends_more xs ys) ∙ or_assoc (is_some_sent (sent_in x)) (sends xs) (sends ys)
  where
    or_assoc : (a b c : Bool) → (a || (b || c)) ≡ ((a || b) || c)
    or_assoc true b c = refl
    or_assoc false b c = refl

or_false : (b : Bool) → (b || false) ≡ b
or_false true = refl
or_false false = refl

-- the monitors of these ids that are due
abbrev pub due_in : Requests → List ℕ → List ℕ
due_in requests ids = filter (λ q. is_due (at requests q)) ids

same_due : (m n : Requests) (id : ℕ) (ids : List ℕ) → list_all (λ x. nat_lt id x) ids ≡ true → ((q : ℕ) → q ≢ id → at n q ≡ at m q) → due_in n ids ≡ due_in m ids
same_due m n id [] all beside = refl
same_due m n id (x ∷ ids) all beside =
    let parts = both_true (nat_lt id x) (list_all (λ y. nat_lt id y) ids) all in
    let more = parts.0 in
    let apart : x ≢ id = λ e. let lt : id < x = grind (arith, nat_tests) in omega (arith, e, lt) in
    ap (λ (o : Option Asked). cond (is_due o) (x ∷ due_in n ids) (due_in n ids)) (beside x apart)
    ∙ ap (λ (l : List ℕ). cond (is_due (at m x)) (x ∷ l) l) (same_due m n id ids parts.1 beside)

-- Those of some ids that were due were popped, and these are left to be looked at.
pub record Going (here : Seat) (s : State) (out : List ℕ) (now : Seat) (t : State) (after : List ℕ) (ids : List ℕ) (sent : Bool) : Type 0 where
  pub steps : List Step
  pub reqs : List ℕ
  pub are : ArePopsOf reqs steps
  pub rules : AreSteps here.seen.base.site s steps
  pub adds : Adds here now (marks_of steps)
  pub state : t ≡ state_after here.seen.base.site s steps
  pub output : after ≡ out ++ out_of here.seen.base.site s steps
  pub sent_is : sent ≡ sends steps
  pub rest : reqs ++ due_in t.requests ids ≡ due s.requests
  pub slots : slots_of t.requests ≡ slots_of s.requests
  pub holds : Holds now.log t
  pub on_site : IsOf now.seen.base.site t

pub going_first : (here : Seat) (s : State) (out ids : List ℕ) → IsLegal here.seen → IsOf here.seen.base.site s → Holds here.log s → due_in s.requests ids ≡ due s.requests → Going here s out here s out ids false
going_first here s out ids legal site holds is = record {
  steps = [];
  reqs = [];
  are = tt;
  rules = tt;
  adds = adds_nothing here legal;
  state = refl;
  output = sym (append-nil out);
  sent_is = refl;
  rest = is;
  slots = refl;
  holds = holds;
  on_site = site;
}

module _ (here : Seat) (s : State) (out : List ℕ) (now : Seat) (old : Session) (ids : List ℕ) (sent : Bool) (g : Going here s out now (state_of old) (output_of old) ids sent) where
  abbrev site_ : SiteData
  site_ = here.seen.base.site

  same_site : now.seen.base.site ≡ site_
  same_site = ap (λ b. b.site) g.adds.grows.base

  module _ (there : Seat) (new : Session) where
    -- nothing was done about one that isn't due
    pub going_idle : (id : ℕ) (later : List ℕ) (more : Bool) → ids ≡ id ∷ later → is_due (at (state_of old).requests id) ≡ false → Idles now there old new sent (Ok more)
        → Going here s out there (state_of new) (output_of new) later more
    going_idle id later more ids_are off idle =
        subst (λ (z : Seat). Going here s out z (state_of new) (output_of new) later more) (sym idle.seat)
        (subst (λ (z : State). Going here s out now z (output_of new) later more) (sym idle.state)
        (subst (λ (z : List ℕ). Going here s out now (state_of old) z later more) (sym idle.output)
        (subst (λ (b : Bool). Going here s out now (state_of old) (output_of old) later b) (sym (same_ok idle.result_is))
        (record {
          steps = g.steps;
          reqs = g.reqs;
          are = g.are;
          rules = g.rules;
          adds = g.adds;
          state = g.state;
          output = g.output;
          sent_is = g.sent_is;
          rest =
              ap (λ (l : List ℕ). g.reqs ++ l) (sym (ap (λ (b : Bool). cond b (id ∷ due_in (state_of old).requests later) (due_in (state_of old).requests later)) off))
              ∙ ap (λ (l : List ℕ). g.reqs ++ due_in (state_of old).requests l) (sym ids_are) ∙ g.rest;
          slots = g.slots;
          holds = g.holds;
          on_site = g.on_site;
        }))))
      where
        same_ok : {x y : Bool} → oks x ≡ oks y → x ≡ y
        same_ok e = cc

    -- one that is was popped
    module _ (id : ℕ) (later : List ℕ) (more : Bool) (ids_are : ids ≡ id ∷ later) (rising : is_rising ids ≡ true) (on : is_due (at (state_of old).requests id) ≡ true) (p : HasPopped now there old new id sent more) where
      row_ : PopRow site_ (state_of old) id p.marks p.sent
      row_ = subst (λ (x : SiteData). PopRow x (state_of old) id p.marks p.sent) same_site p.row

      abbrev step_ : Step
      step_ = pops id p.marks p.sent

      at_state : (state_after site_ s g.steps) ≡ state_of old
      at_state = sym g.state

      rules_ : AreSteps site_ s (g.steps ++ step_ ∷ [])
      rules_ = steps_append site_ s g.steps (step_ ∷ []) g.rules ((subst (λ (z : State). PopRow site_ z id p.marks p.sent) g.state row_, p.sayable), tt)

      pub going_on : Going here s out there (state_of new) (output_of new) later more
      going_on = record {
        steps = g.steps ++ step_ ∷ [];
        reqs = g.reqs ++ id ∷ [];
        are = are_more g.reqs g.steps id p.marks p.sent g.are;
        rules = rules_;
        adds = subst (Adds here there) (sym (marks_append g.steps (step_ ∷ []) ∙ ap (λ (l : List Mark). marks_of g.steps ++ l) (append-nil p.marks))) (adds_more g.adds p.adds);
        state = p.state ∙ ap (λ (z : State). after_pop z id p.marks) g.state ∙ sym (after_append site_ s g.steps (step_ ∷ []));
        output =
            p.output
            ∙ ap (λ (l : List ℕ). l ++ spelled_all old.order old.segment p.sent) g.output
            ∙ append_assoc out (out_of site_ s g.steps) (spelled_all old.order old.segment p.sent)
            ∙ ap (λ (l : List ℕ). out ++ l)
            (ap (λ (z : State). out_of site_ s g.steps ++ spelled_all z.order z.segment p.sent) g.state
            ∙ ap (λ (l : List ℕ). out_of site_ s g.steps ++ l) (sym (append-nil (spelled_all (state_after site_ s g.steps).order (state_after site_ s g.steps).segment p.sent)))
            ∙ sym (out_append site_ s g.steps (step_ ∷ [])));
        sent_is =
            p.now_is ∙ ap (λ (b : Bool). b || is_some_sent p.sent) g.sent_is ∙ ap (λ (b : Bool). sends g.steps || b) (sym (or_false (is_some_sent p.sent)))
            ∙ sym (sends_more g.steps (step_ ∷ []));
        rest =
            append_assoc g.reqs (id ∷ []) (due_in (state_of new).requests later)
            ∙ ap (λ (l : List ℕ). g.reqs ++ id ∷ l) rest_same
            ∙ ap (λ (l : List ℕ). g.reqs ++ l) (sym (ap (λ (b : Bool). cond b (id ∷ due_in (state_of old).requests later) (due_in (state_of old).requests later)) on))
            ∙ ap (λ (l : List ℕ). g.reqs ++ due_in (state_of old).requests l) (sym ids_are) ∙ g.rest;
        slots = ap (λ (z : State). slots_of z.requests) p.state ∙ popped_slots now there (state_of old) id p.marks p.sent p.row ∙ g.slots;
        holds = subst (Holds there.log) (sym p.state) (popped_holds now there (state_of old) id p.marks p.sent p.row p.adds g.holds);
        on_site =
            subst (λ (x : SiteData). IsOf x (state_of new)) (sym (ap (λ b. b.site) p.adds.grows.base))
            (subst (IsOf now.seen.base.site) (sym p.state) (pop_on_site now.seen.base.site (state_of old) id p.marks g.on_site));
      }
        where
          above_id : list_all (λ x. nat_lt id x) later ≡ true
          above_id = (both_true (list_all (λ x. nat_lt id x) later) (is_rising later) (ap is_rising (sym ids_are) ∙ rising)).0

          rest_same : due_in (state_of new).requests later ≡ due_in (state_of old).requests later
          rest_same =
              same_due (state_of old).requests (state_of new).requests id later above_id
              (λ q apart. ap (λ (z : State). at z.requests q) p.state ∙ popped_beside now there (state_of old) id p.marks p.sent p.row q apart)

    -- memory ran out at one that is
    pub going_stopped : (id : ℕ) (later : List ℕ) → ids ≡ id ∷ later → is_due (at (state_of old).requests id) ≡ true → HasFailed now there old new id → PumpStopped (shown here s out) (show there new)
    going_stopped id later ids_are on f = record {
      reqs = g.reqs;
      req = id;
      later = due_in (state_of old).requests later;
      due_are =
          sym g.rest ∙ ap (λ (l : List ℕ). g.reqs ++ due_in (state_of old).requests l) ids_are
          ∙ ap (λ (b : Bool). g.reqs ++ cond b (id ∷ due_in (state_of old).requests later) (due_in (state_of old).requests later)) on;
      steps = g.steps;
      next = f.next;
      some = record { are = g.are; rules = g.rules; adds = adds_more g.adds f.adds; output = f.output ∙ g.output };
      next_is = subst (λ (z : State). UnsentPop z id f.next) g.state f.next_is;
      subscribed = f.subscribed ∙ g.slots;
    }

-- all were looked at
pub gone : (here : Seat) (s : State) (out : List ℕ) (now : Seat) (t : State) (after : List ℕ) (sent : Bool) → Going here s out now t after [] sent → Pumped (shown here s out) (shown now t after) sent
gone here s out now t after sent g = record {
  steps = g.steps;
  some = record {
    are = subst (λ (l : List ℕ). ArePopsOf l g.steps) (sym (append-nil g.reqs) ∙ g.rest) g.are;
    rules = g.rules;
    adds = subst (Adds here now) (sym (append-nil (marks_of g.steps))) g.adds;
    output = g.output;
  };
  state = g.state;
  more_is = g.sent_is;
}

-- One step of a pump, by its answer.
module _ (here : Seat) (s : State) (out : List ℕ) (now there : Seat) (old new : Session) (ids : List ℕ) (sent : Bool) (g : Going here s out now (state_of old) (output_of old) ids sent) (id : ℕ) (later : List ℕ) (ids_are : ids ≡ id ∷ later)
    (rising : is_rising ids ≡ true) where
  pub going_next : (more : Bool) → PopsDue now there old new id sent (Ok more) → Going here s out there (state_of new) (output_of new) later more
  going_next more p = by_test (is_due (at (state_of old).requests id)) refl
    where
      by_test : (b : Bool) → is_due (at (state_of old).requests id) ≡ b → Going here s out there (state_of new) (output_of new) later more
      by_test true is = going_on here s out now old ids sent g there new id later more ids_are rising is (p.due is)
      by_test false is = going_idle here s out now old ids sent g there new id later more ids_are is (p.idle is)

  pub going_failed : (e : NoMemory) → PopsDue now there old new id sent (Err e) → PumpStopped (shown here s out) (show there new)
  going_failed e p = by_test (is_due (at (state_of old).requests id)) refl
    where
      err_ok : {x : NoMemory} {y : Bool} → fails x ≡ oks y → ⊥
      err_ok e = cc

      by_test : (b : Bool) → is_due (at (state_of old).requests id) ≡ b → PumpStopped (shown here s out) (show there new)
      by_test true is = going_stopped here s out now old ids sent g there new id later ids_are is (p.due is)
      by_test false is = absurd (err_ok (p.idle is).result_is)

  pub failed_living : (e : NoMemory) → PopsDue now there old new id sent (Err e) → Holds here.log s → AreLiving there.log (slots_of (state_of new).requests)
  failed_living e p holds = pumped_living (shown here s out) (show there new) (fails e) (going_failed e p) holds

pub rising_drop : (n : ℕ) (ids : List ℕ) → is_rising ids ≡ true → is_rising (drop n ids) ≡ true
rising_drop zero ids rising = rising
rising_drop (suc n) [] rising = refl
rising_drop (suc n) (id ∷ ids) rising = rising_drop n ids (both_true (list_all (λ x. nat_lt id x) ids) (is_rising ids) rising).1

-- The monitor of a request, which is due, by a session that holds its subscriptions.
pub record Target (site : SiteData) (log : List Mark) (s : State) (req : ℕ) (ask : Asked) (sub : Sub) : Type 0 where
  pub ok : Holds log s
  pub real : IsOf site s
  pub here : at s.requests req ≡ Some ask
  pub has : ask.sub ≡ Some sub
  pub on : is_due (Some ask) ≡ true

pub target : {site : SiteData} {log : List Mark} {s : State} {req : ℕ} {ask : Asked} {sub : Sub} → Holds log s → IsOf site s → Some ask ≡ at s.requests req → ask.sub ≡ Some sub → true ≡ is_due (Some ask) → Target site log s req ask sub
target ok real here has on = record { ok = ok; real = real; here = sym here; has = has; on = sym on }

same_channel : {x y : Channel} → Some x ≡ Some y → x ≡ y
same_channel e = cc

some_none : {x : Channel} → Some x ≡ None → ⊥
some_none e = cc

module _ {site : SiteData} {log : List Mark} {s : State} {req : ℕ} {ask : Asked} {sub : Sub} (t : Target site log s req ask sub) where
  held_ : IsHeld log s.channels ask sub.slot
  held_ = t.ok.held req ask sub t.here t.has

  pub target_on : is_due (at s.requests req) ≡ true
  target_on = ap is_due t.here ∙ t.on

  pub target_lives : lives log sub.slot ≡ true
  target_lives = ap (λ (o : Option Living). is_some o) held_.there

  -- its channel is open
  pub target_open : channel_at s.channels ask.sid ≡ None → ⊥
  target_open none = some_none (sym held_.channel_is ∙ none)

  pub target_channel : Channel
  target_channel = held_.subscribed.channel

  pub target_found : channel_at s.channels ask.sid ≡ Some target_channel
  unfolding held_ target_channel
  target_found = held_.channel_is

  module _ (channel : Channel) (open_ : channel_at s.channels ask.sid ≡ Some channel) where
    pub target_due : IsDueMonitor s req ask channel sub
    target_due = record { here = t.here; open_ = open_; subscribed = t.has; due = t.on }

    pub target_real : IsTrue (is_channel site channel)
    target_real = t.real.channels ask.sid channel open_

    pub target_valued : IsTrue (has_values channel)
    target_valued =
        let of_site = t.real.requests req ask t.here in
        let call : is_call ask.kind ≡ false = ap is_call held_.kind_is in
        subst (λ (c : Channel). IsTrue (has_values c)) (same_channel (sym of_site.open_ ∙ open_)) (of_site.selects call).valued

    pub target_fits : (update : Update) → ((l : Living) → living log sub.slot ≡ Some l → IsUpdateOf (type_of site l.channel) update) → IsUpdateOf (type_of site channel) update
    target_fits update fits =
        subst (λ (c : Channel). IsUpdateOf (type_of site c) update) (same_channel (sym held_.channel_is ∙ open_)) (fits held_.subscribed held_.there)

true_ : (b : Bool) → true ≡ (b || true)
true_ true = refl
true_ false = refl

-- What a pop leaves, by what was sent.
module _ (here there : Seat) (old : Session) (req : ℕ) (ask : Asked) (channel : Channel) (sub : Sub) (is : IsDueMonitor (state_of old) req ask channel sub) (before : Bool) where
  pub popped_nothing : Calls here there (IsPop sub.slot None) → HasPopped here there old old req before before
  popped_nothing calls = record {
    marks = calls.marks;
    sent = [];
    row = popped_row here there (state_of old) req ask channel sub is None calls;
    sayable = tt;
    adds = calls.adds;
    state = sym (after_popped here there (state_of old) req ask channel sub is None calls);
    output = sym (append-nil (output_of old));
    now_is = sym (or_false before);
  }

  module _ (update : Update) (calls : Calls here there (IsPop sub.slot (Some update))) (new : Session) (ty : Tree) (ty_is : ty ≡ type_of here.seen.base.site channel) where
    pub popped_update : SendsUpdate old new req ty update (Ok tt) → HasPopped here there old new req before true
    popped_update sends_ = record {
      marks = calls.marks;
      sent = said (updated req (type_of here.seen.base.site channel) update) ∷ [];
      row = popped_row here there (state_of old) req ask channel sub is (Some update) calls;
      sayable = (subst (λ (t : Tree). IsSayable (said (updated req t update))) ty_is sends_.0.1, tt);
      adds = calls.adds;
      state = sends_.1 ∙ sym (after_popped here there (state_of old) req ask channel sub is (Some update) calls);
      output =
          sends_.0.0 ∙ ap (λ (t : Tree). output_of old ++ spelled old.order old.segment (said (updated req t update))) ty_is
          ∙ ap (λ (l : List ℕ). output_of old ++ l) (sym (append-nil (spelled old.order old.segment (said (updated req (type_of here.seen.base.site channel) update)))));
      now_is = true_ before;
    }

    pub popped_unsent : (e : NoMemory) → SendsUpdate old new req ty update (Err e) → HasFailed here there old new req
    popped_unsent e kept = record {
      next = calls.marks;
      next_is = (channel, update, pop_of here there (state_of old) req ask channel sub is (Some update) calls);
      adds = calls.adds;
      subscribed = ap (λ (z : State). slots_of z.requests) kept.1;
      output = kept.0;
    }

-- a call that failed
pub pops_failed : (here there : Seat) (old new : Session) (req : ℕ) (before : Bool) (result : Result Bool NoMemory) → IsErr result → HasFailed here there old new req → PopsOne here there old new req before result
pops_failed here there old new req before (Ok more) is f = absurd (false≢true is)
pops_failed here there old new req before (Err e) is f = f

-- one that isn't due
pub idles : (here : Seat) (old : Session) (req : ℕ) (before : Bool) → is_due (at (state_of old).requests req) ≡ false → PopsDue here here old old req before (Ok before)
idles here old req before off = record {
  due = λ on. absurd (false≢true (sym off ∙ on));
  idle = λ none. record { seat = refl; state = refl; output = refl; result_is = refl };
  monitors = refl;
}

-- one that is
pub pops_due : (here there : Seat) (old new : Session) (req : ℕ) (before : Bool) (result : Result Bool NoMemory) → is_due (at (state_of old).requests req) ≡ true → new.monitors ≡ old.monitors
    → PopsOne here there old new req before result → PopsDue here there old new req before result
pops_due here there old new req before result on same p = record {
  due = λ is. p;
  idle = λ off. absurd (false≢true (sym off ∙ on));
  monitors = ap (λ v. v.items) same;
}

pub sends_failed : (old new : Session) (req : ℕ) (ty : Tree) (update : Update) (result : Result (Unit {0}) NoMemory) → IsErr result → output_of new ≡ output_of old → state_of new ≡ state_of old → SendsUpdate old new req ty update result
sends_failed old new req ty update (Ok u) is same state = absurd (false≢true is)
sends_failed old new req ty update (Err e) is same state = (same, state)

-- the next id, in a list that is still as it was
pub next_id : (items ids : List ℕ) → items ≡ ids → (i x : ℕ) → x ≡ get_or items i x → i < length ids → drop i ids ≡ x ∷ drop (i + 1) ids
next_id items ids same i x is lt =
    at_drop_more (λ (l : List ℕ). l) ids i x lt ∙ ap (λ (y : ℕ). y ∷ drop (i + 1) ids) (sym (is ∙ ap (λ (l : List ℕ). get_or l i x) same))

-- none is left behind the last
pub none_behind : (i : ℕ) (ids : List ℕ) → length ids ≤ i → drop i ids ≡ []
none_behind i ids le = drop_of_length-le ids le
