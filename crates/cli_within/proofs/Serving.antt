-- What the server's end has heard and said.
use Rattle.std.proofs.Common.{◌≡◌, ℕ, ◌<◌, inl, inr, Bool, true, false, List, [], ◌∷◌, ◌++◌, length, take, drop, Option, None, Some, is_some, Result, Ok, Err, refl, sym, ◌∙◌, ap, subst, arith, append_assoc, length-append, take-append-drop}
use Rattle.std.specs.Prelude.{OnOk}
use Rattle.std.specs.Result.{result_err}
use Rattle.std.proofs.lemmas.Bool.{false≢true}
use Rattle.std.proofs.lemmas.Option.{none-some}
use Rattle.std.proofs.lemmas.List.{append-nil}
use Rattle.pva_wire.specs.declared.order.Order.TheVariants.{Little}
use Rattle.pva_frames.specs.Messages.{Unfinished}
use Rattle.pva_frames.specs.Assembled.{Assembled, opening as unread, fed}
use Rattle.pva_frames.specs.declared.event.Event.{Event}
use Rattle.pva_frames.specs.declared.fault.FrameFault.{FrameFault}
use Rattle.desk_api.proofs.Adding.{adds_more, adds_nothing, moments_append}
use Rattle.desk_api.specs.Calls.{Adds, HaveMoment}
use Rattle.desk_api.specs.History.{IsLegal}
use Rattle.desk_api.specs.declared.history.SiteData.{SiteData}
use Rattle.desk_api.specs.declared.history.Base.{Base}
use Rattle.desk_api.specs.declared.mark.Mark.{Mark}
use Rattle.desk_api.specs.declared.mark.Seat.{Seat}
use Rattle.journal_core.specs.Moments.{Moment}
use Rattle.pvd_type.specs.declared.memory.NoMemory.{NoMemory}
use Rattle.srv_session.specs.State.{State, slots_of, due, opening}
use Rattle.srv_session.specs.Replies.{greeting}
use Rattle.srv_session.specs.Steps.{Step, AreSteps, IsDrained, PopPart, state_after, events_of, marks_of, out_of}
use Rattle.srv_session.specs.Calls.{ArePopsOf, Pumped, PumpedSome, PumpStopped, Pumps}
use Rattle.srv_session.proofs.Drained.{pumped_dry}
use Rattle.srv_session.proofs.Steps.{after_append, events_append, marks_append, out_append, steps_append}
use Rattle.srv_stream.specs.Streams.{refused, Stands, View, Passed, FedOn, FedUpTo, FedPart, FedErr, SameStream, shown_in}
use Rattle.srv_stream.specs.Views.{first_view}
use Rattle.srv_stream.specs.declared.ended.Ended.{Ended}
use Rattle.srv_stream.specs.declared.ended.Ended.TheVariants as ends
use Rattle.cli_within.specs.Serving.{HasServed, HasBroken, Closes, Serves, Fills}
use Rattle.srv_stream.proofs.Finishing.{next_slots, next_told, pops_events, pops_slots, pops_told, sends_bytes}
use Rattle.srv_stream.proofs.Passing.{fed_on_more, fed_part_more, fed_up_to_more}
use Rattle.srv_stream.proofs.Resting.{rests}

-- Without trouble each event was answered, and no header refused.
untroubled : (site : SiteData) (s : State) (remaining : List Event) (left : Result Unfinished FrameFault) → Stands site s remaining left None → (remaining ≡ []) × (refused left ≡ None)
untroubled site s [] left h = (refl, sym h)
untroubled site s (e ∷ more) left h = absurd (false≢true (ap (λ (o : Option Ended). is_some o) h.0 ∙ h.1))

unrefused : (left : Result Unfinished FrameFault) → result_err left ≡ None → refused left ≡ None
unrefused (Ok left) none = refl
unrefused (Err fault) none = absurd (none-some fault (sym none))

-- the greeting was said
pub served_first : (first : Seat) (told : Option Moment) (v : View) → IsLegal first.seen → v ≡ first_view Little → HasServed first first told [] [] v None
served_first first told v legal is =
    let none : fed unread [] ≡ unread = rests unread refl in record {
      steps = [];
      follows = record { rules = tt; remaining = []; all = ap (λ (a : Assembled). a.events) none; stands = sym (ap (λ (a : Assembled). refused a.left) none) };
      state = λ _. ap (λ (z : View). z.state) is;
      none = λ _. ap (λ (z : View). z.stream.events) is;
      left = λ _. ap (λ (z : View). z.stream.left) is ∙ sym (ap (λ (a : Assembled). a.left) none);
      slots = ap (λ (z : View). slots_of z.state.requests) is;
      adds = adds_nothing first legal;
      moments = tt;
      bytes = append-nil (greeting Little) ∙ sym (ap (λ (z : View). z.pending) is);
    }

-- more of its bytes were taken
pub served_took : {first seat : Seat} {told : Option Moment} {heard given : List ℕ} {v : View} {over : Option Ended} (n : ℕ) (w : View) → HasServed first seat told heard given v over → w ≡ record v { pending = drop n v.pending }
    → HasServed first seat told heard (given ++ take n v.pending) w over
served_took {first} {seat} {told} {heard} {given} {v} {over} n w h is = record {
  steps = h.steps;
  follows = h.follows;
  state = λ none. ap (λ (z : View). z.state) is ∙ h.state none;
  none = λ none. ap (λ (z : View). z.stream.events) is ∙ h.none none;
  left = λ none. ap (λ (z : View). z.stream.left) is ∙ h.left none;
  slots = ap (λ (z : View). slots_of z.state.requests) is ∙ h.slots;
  adds = h.adds;
  moments = h.moments;
  bytes = h.bytes ∙ ap (λ (z : List ℕ). given ++ z) (sym (take-append-drop n v.pending)) ∙ sym (append_assoc given (take n v.pending) (drop n v.pending))
      ∙ ap (λ (z : List ℕ). (given ++ take n v.pending) ++ z) (sym (ap (λ (z : View). z.pending) is));
}

-- A feeding, as if nothing that was said had been taken.

abbrev untaken : List ℕ → View → View
untaken given v = record v { pending = given ++ v.pending }

shifted : (v w : View) (before said : List ℕ) → w.pending ≡ v.pending ++ said → before ++ w.pending ≡ (before ++ v.pending) ++ said
shifted v w before said out = ap (λ (z : List ℕ). before ++ z) out ∙ sym (append_assoc before v.pending said)

module _ {mid new : Seat} {told : Option Moment} {v w : View} {ys : List ℕ} (before : List ℕ) where
  abbrev untaken_on : FedOn mid new told v w ys → FedOn mid new told (untaken before v) (untaken before w) ys
  untaken_on b = record {
    passed = record {
      steps = b.passed.steps;
      rules = b.passed.rules;
      events = b.passed.events;
      left = b.passed.left;
      state = b.passed.state;
      adds = b.passed.adds;
      moments = b.passed.moments;
      out = shifted v w before (out_of mid.seen.base.site v.state b.passed.steps) b.passed.out;
    };
    none = b.none;
    sound = b.sound;
  }

  abbrev untaken_up_to : {ended : Ended} → FedUpTo mid new told v w ys ended → FedUpTo mid new told (untaken before v) (untaken before w) ys ended
  untaken_up_to b = record {
    steps = b.steps;
    subscribed = b.subscribed;
    follows = b.follows;
    adds = b.adds;
    moments = b.moments;
    out = shifted v w before (out_of mid.seen.base.site v.state b.steps) b.out;
  }

  abbrev untaken_part : FedPart mid new told v w ys → FedPart mid new told (untaken before v) (untaken before w) ys
  untaken_part b = record {
    steps = b.steps;
    more = b.more;
    rules = b.rules;
    front = b.front;
    part = b.part;
    subscribed = b.subscribed;
    adds = b.adds;
    moments = b.moments;
    out = shifted v w before (out_of mid.seen.base.site v.state b.steps) b.out;
  }

module _ {first seat : Seat} {told : Option Moment} {heard given : List ℕ} {v : View} (h : HasServed first seat told heard given v None) where
  abbrev site : SiteData
  site = first.seen.base.site

  abbrev steps_then : State
  steps_then = state_after site (opening Little) h.steps

  answered : (h.follows.remaining ≡ []) × (refused (fed unread heard).left ≡ None)
  answered = untroubled site steps_then h.follows.remaining (fed unread heard).left h.follows.stands

  all_answered : (fed unread heard).events ≡ events_of h.steps
  all_answered = h.follows.all ∙ ap (λ (l : List Event). events_of h.steps ++ l) answered.0 ∙ append-nil (events_of h.steps)

  abbrev passed : Passed first seat told (first_view Little) (untaken given v) heard
  passed = record {
    steps = h.steps;
    rules = h.follows.rules;
    events = all_answered ∙ sym (append-nil (events_of h.steps)) ∙ ap (λ (l : List Event). events_of h.steps ++ l) (sym (h.none refl));
    left = h.left refl;
    state = h.state refl;
    adds = h.adds;
    moments = h.moments;
    out = sym h.bytes;
  }

  pub served_on : {new : Seat} {w : View} {ys : List ℕ} → FedOn seat new told v w ys → HasServed first new told (heard ++ ys) given w None
  served_on {new} {w} {ys} b =
      let c = fed_on_more passed (untaken_on given b) in record {
        steps = c.passed.steps;
        follows = record {
          rules = c.passed.rules;
          remaining = [];
          all = c.passed.events ∙ ap (λ (l : List Event). events_of c.passed.steps ++ l) c.none;
          stands = sym (ap refused (sym c.passed.left) ∙ unrefused w.stream.left c.sound);
        };
        state = λ _. c.passed.state;
        none = λ _. c.none;
        left = λ _. c.passed.left;
        slots = ap (λ (z : State). slots_of z.requests) c.passed.state;
        adds = c.passed.adds;
        moments = c.passed.moments;
        bytes = sym c.passed.out;
      }

  pub served_up_to : {new : Seat} {w : View} {ys : List ℕ} {ended : Ended} → FedUpTo seat new told v w ys ended → HasServed first new told (heard ++ ys) given w (Some ended)
  served_up_to {new} {w} {ys} {ended} b =
      let c = fed_up_to_more passed (untaken_up_to given b) in record {
        steps = c.steps;
        follows = c.follows;
        state = λ no. absurd (none-some ended (sym no));
        none = λ no. absurd (none-some ended (sym no));
        left = λ no. absurd (none-some ended (sym no));
        slots = c.subscribed;
        adds = c.adds;
        moments = c.moments;
        bytes = sym c.out;
      }

  pub served_part : {new : Seat} {w : View} {ys : List ℕ} → FedPart seat new told v w ys → HasBroken first new told (heard ++ ys) given w
  served_part {new} {w} {ys} b =
      let c = fed_part_more passed (untaken_part given b) in record {
        steps = c.steps;
        later = c.front.rest;
        more = c.more;
        rules = c.rules;
        all = c.front.whole;
        part = inl c.part;
        slots = c.subscribed;
        adds = c.adds;
        moments = c.moments;
        bytes = sym c.out;
      }

  -- what follows, said of the state and the site that these steps leave
  from_there : (P : SiteData → State → Type 0) → P seat.seen.base.site v.state → P site steps_then
  from_there P p =
      subst (λ (z : SiteData). P z steps_then) (ap (λ (b : Base). b.site) h.adds.grows.base) (subst (P seat.seen.base.site) (h.state refl) p)

  -- the pops behind the steps
  module _ {new : Seat} (w : View) (reqs : List ℕ) (popped : List Step) (next : List Mark) (p : PumpedSome (shown_in seat v) (shown_in new w) reqs popped next) where
    popped_rules : AreSteps site (opening Little) (h.steps ++ popped)
    popped_rules = steps_append site (opening Little) h.steps popped h.follows.rules (from_there (λ (z : SiteData) (s : State). AreSteps z s popped) p.rules)

    popped_events : events_of (h.steps ++ popped) ≡ events_of h.steps
    popped_events = events_append h.steps popped ∙ ap (λ (l : List Event). events_of h.steps ++ l) (pops_events reqs popped p.are) ∙ append-nil (events_of h.steps)

    popped_all : (fed unread heard).events ≡ events_of (h.steps ++ popped) ++ h.follows.remaining
    popped_all = h.follows.all ∙ ap (λ (l : List Event). l ++ h.follows.remaining) (sym popped_events)

    popped_bytes : greeting Little ++ out_of site (opening Little) (h.steps ++ popped) ≡ given ++ w.pending
    popped_bytes =
        ap (λ (z : List ℕ). greeting Little ++ z) (out_append site (opening Little) h.steps popped)
        ∙ sym (append_assoc (greeting Little) (out_of site (opening Little) h.steps) (out_of site steps_then popped))
        ∙ ap (λ (z : List ℕ). z ++ out_of site steps_then popped) h.bytes
        ∙ append_assoc given v.pending (out_of site steps_then popped)
        ∙ ap (λ (z : List ℕ). given ++ z) (sym (from_there (λ (z : SiteData) (s : State). w.pending ≡ v.pending ++ out_of z s popped) p.output))

    popped_adds : Adds first new (marks_of (h.steps ++ popped) ++ next)
    popped_adds =
        subst (λ (l : List Mark). Adds first new l)
        (sym (append_assoc (marks_of h.steps) (marks_of popped) next) ∙ ap (λ (l : List Mark). l ++ next) (sym (marks_append h.steps popped))) (adds_more h.adds p.adds)

    popped_moments : HaveMoment told (marks_of (h.steps ++ popped))
    popped_moments =
        subst (HaveMoment told) (sym (marks_append h.steps popped))
        (moments_append told (marks_of h.steps) (marks_of popped) h.moments (pops_told told seat.seen.base.site v.state reqs popped p.are p.rules))

    popped_same : slots_of (state_after site (opening Little) (h.steps ++ popped)).requests ≡ slots_of v.state.requests
    popped_same =
        ap (λ (z : State). slots_of z.requests) (after_append site (opening Little) h.steps popped)
        ∙ from_there (λ (z : SiteData) (s : State). slots_of (state_after z s popped).requests ≡ slots_of s.requests) (pops_slots seat v.state reqs popped p.are p.rules)
        ∙ sym h.slots

  module _ {new : Seat} {w : View} (more : Bool) (p : Pumped (shown_in seat v) (shown_in new w) more) (same : SameStream v w) where
    abbrev served_pumped : HasServed first new told heard given w None
    served_pumped =
        let reqs = due v.state.requests in
        let state : w.state ≡ state_after site (opening Little) (h.steps ++ p.steps) =
        from_there (λ (z : SiteData) (s : State). w.state ≡ state_after z s p.steps) p.state ∙ sym (after_append site (opening Little) h.steps p.steps) in record {
          steps = h.steps ++ p.steps;
          follows = record {
            rules = popped_rules w reqs p.steps [] p.some;
            remaining = [];
            all = popped_all w reqs p.steps [] p.some ∙ ap (λ (l : List Event). events_of (h.steps ++ p.steps) ++ l) answered.0;
            stands = sym answered.1;
          };
          state = λ _. state;
          none = λ _. ap (λ (c : Assembled). c.events) same ∙ h.none refl;
          left = λ _. ap (λ (c : Assembled). c.left) same ∙ h.left refl;
          slots = ap (λ (z : State). slots_of z.requests) state;
          adds = subst (λ (l : List Mark). Adds first new l) (append-nil (marks_of (h.steps ++ p.steps))) (popped_adds w reqs p.steps [] p.some);
          moments = popped_moments w reqs p.steps [] p.some;
          bytes = popped_bytes w reqs p.steps [] p.some;
        }

    pumped_out : more ≡ false → IsDrained site (opening Little) (h.steps ++ p.steps)
    pumped_out none =
        pumped_dry site (opening Little) h.steps p.steps
        (from_there (λ (z : SiteData) (s : State). ArePopsOf (due s.requests) p.steps) p.some.are)
        (from_there (λ (z : SiteData) (s : State). AreSteps z s p.steps) p.some.rules) (sym p.more_is ∙ none)

    pumped_some : more ≡ true → 0 < length w.pending
    pumped_some some =
        let out = out_of seat.seen.base.site v.state p.steps in
        let bytes : 0 < length out = sends_bytes seat.seen.base.site v.state (due v.state.requests) p.steps p.some.are p.some.rules (sym p.more_is ∙ some) in
        omega (arith, bytes, ap length p.some.output, length-append v.pending out)

    pub filled : Fills first new told heard given w None (Ok tt)
    filled = record { served = served_pumped; dry = λ empty. record { served = served_pumped; empty = empty; drained = pumped_out (by_empty more refl empty) } }
      where
        by_empty : (m : Bool) → more ≡ m → w.pending ≡ [] → more ≡ false
        by_empty true is empty = absurd (let some = pumped_some is in omega (arith, some, ap length empty))
        by_empty false is empty = is

  pub unfilled : {new : Seat} (w : View) → PumpStopped (shown_in seat v) (shown_in new w) → HasBroken first new told heard given w
  unfilled {new} w p =
      let steps = h.steps ++ p.steps in
      let there = state_after site (opening Little) steps in
      let next : PopPart there p.next =
      subst (λ (s : State). PopPart s p.next) (sym (after_append site (opening Little) h.steps p.steps))
      (from_there (λ (z : SiteData) (s : State). PopPart (state_after z s p.steps) p.next) (p.req, p.next_is)) in record {
        steps = steps;
        later = h.follows.remaining;
        more = p.next;
        rules = popped_rules w p.reqs p.steps p.next p.some;
        all = popped_all w p.reqs p.steps p.next p.some;
        part = inr next;
        slots = p.subscribed ∙ sym (popped_same w p.reqs p.steps p.next p.some) ∙ sym (next_slots site there h.follows.remaining p.next next);
        adds = popped_adds w p.reqs p.steps p.next p.some;
        moments = moments_append told (marks_of steps) p.next (popped_moments w p.reqs p.steps p.next p.some) (next_told told there p.next next);
        bytes = popped_bytes w p.reqs p.steps p.next p.some;
      }

-- nothing was popped, since something is to be written, or its end is closed
pub not_filled : {first seat : Seat} {told : Option Moment} {heard given : List ℕ} {v : View} (over : Option Ended) → HasServed first seat told heard given v over → (is_some over ≡ false → v.pending ≡ [] → ⊥) → Fills first seat told heard given v over (Ok tt)
not_filled None h some = record { served = h; dry = λ empty. absurd (some refl empty) }
not_filled (Some ended) h some = record { served = h; dry = λ empty. tt }

-- What a feeding came to.
pub fed_serves : {first seat : Seat} {told : Option Moment} {heard given : List ℕ} {v : View} → HasServed first seat told heard given v None → (new : Seat) (w : View) (bytes : List ℕ) (ended : Ended) → FedErr seat new told v w bytes ended
    → (ended ≡ ends.NoMemory → ⊥) → Serves first new told (heard ++ bytes) given w (Some ended) (Ok tt)
fed_serves h new w bytes (ends.Bad fault place) b other = served_up_to h b
fed_serves h new w bytes ends.NoMemory b other = absurd (other refl)
fed_serves h new w bytes ends.Closed b other = absurd b
fed_serves h new w bytes (ends.Truncated place) b other = absurd b
fed_serves h new w bytes ends.ReadFault b other = absurd b
fed_serves h new w bytes ends.WriteFault b other = absurd b
fed_serves h new w bytes (ends.Spent calls) b other = absurd b

pub fed_ok : {first seat : Seat} {told : Option Moment} {heard given : List ℕ} {v : View} → HasServed first seat told heard given v None → (new : Seat) (w : View) (bytes : List ℕ) (over : Option Ended) → over ≡ None → FedOn seat new told v w bytes
    → Serves first new told (heard ++ bytes) given w over (Ok tt)
fed_ok {first} {seat} {told} {heard} {given} {v} h new w bytes over open_ b = subst (HasServed first new told (heard ++ bytes) given w) (sym open_) (served_on h b)

pub close_serves : {first seat : Seat} {told : Option Moment} {heard given : List ℕ} {v : View} → HasServed first seat told heard given v None → (new : Seat) (w w2 : View) (bytes : List ℕ) (ended : Ended) (over : Option Ended) (r : Result (Unit {0}) NoMemory)
    → FedErr seat new told v w bytes ended → w2 ≡ w → Closes ended over r → Serves first new told (heard ++ bytes) given w2 over r
close_serves {first} {seat} {told} {heard} {given} {v} h new w w2 bytes ended over (Ok u) b same c =
    subst (λ (o : Option Ended). HasServed first new told (heard ++ bytes) given w2 o) (sym c.0) (subst (λ (z : View). HasServed first new told (heard ++ bytes) given z (Some ended)) (sym same) (fed_serves h new w bytes ended b c.1))
close_serves {first} {seat} {told} {heard} {given} {v} h new w w2 bytes ended over (Err e) b same c =
    subst (λ (z : View). HasBroken first new told (heard ++ bytes) given z) (sym same) (served_part h (subst (FedErr seat new told v w bytes) c b))

pub close_ready : (ended : Ended) (over : Option Ended) (r : Result (Unit {0}) NoMemory) (P : Type 0) → Closes ended over r → OnOk r (over ≡ None → P)
close_ready ended over (Ok u) P c = λ open_. absurd (none-some ended (sym open_ ∙ c.0))
close_ready ended over (Err e) P c = tt

pub filled_open : {first seat : Seat} {told : Option Moment} {heard given : List ℕ} {v : View} (over : Option Ended) → over ≡ None → HasServed first seat told heard given v over → (new : Seat) (w : View) (more : Bool) → Pumps (shown_in seat v) (shown_in new w) (Ok more) → SameStream v w
    → Fills first new told heard given w over (Ok tt)
filled_open {first} {seat} {told} {heard} {given} {v} over open_ h new w more p same =
    subst (λ (o : Option Ended). Fills first new told heard given w o (Ok tt)) (sym open_) (filled (subst (HasServed first seat told heard given v) open_ h) more p same)

pub unfilled_open : {first seat : Seat} {told : Option Moment} {heard given : List ℕ} {v : View} (over : Option Ended) → over ≡ None → HasServed first seat told heard given v over → (new : Seat) (w : View) (e : NoMemory) → Pumps (shown_in seat v) (shown_in new w) (Err e)
    → Fills first new told heard given w over (Err e)
unfilled_open {first} {seat} {told} {heard} {given} {v} over open_ h new w e p = unfilled (subst (HasServed first seat told heard given v) open_ h) w p
