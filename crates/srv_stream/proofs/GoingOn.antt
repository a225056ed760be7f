-- A connection goes on by one call.
use Rattle.std.proofs.Common.{◌≡◌, ℕ, ◌+◌, ◌<◌, ◌≤◌, ◌⊎◌, inl, inr, Bool, true, false, List, [], ◌∷◌, ◌++◌, length, take, drop, Option, None, Some, is_some, Result, Ok, Err, refl, sym, ◌∙◌, ap, subst, arith, append_assoc, length-append, length-take, take-append-drop}
use Rattle.std.specs.Result.{result_err}
use Rattle.std.proofs.lemmas.Bool.{false≢true}
use Rattle.std.proofs.lemmas.Option.{none-some}
use Rattle.std.proofs.lemmas.List.{append-nil}
use Rattle.pva_outside.specs.Count.{Rose}
use Rattle.pva_outside.specs.Wire.{Wire, Gave, Taken, Idled, CameToEnd}
use Rattle.pva_wire.specs.declared.order.Order.{Order}
use Rattle.pva_frames.specs.Messages.{Unfinished}
use Rattle.pva_frames.specs.Assembled.{Assembled, opening as unread, fed}
use Rattle.pva_frames.specs.declared.event.Event.{Event}
use Rattle.pva_frames.specs.declared.fault.FrameFault.{FrameFault}
use Rattle.desk_api.proofs.Adding.{adds_more, adds_nothing, moments_append}
use Rattle.desk_api.specs.Calls.{Adds, HaveMoment}
use Rattle.desk_api.specs.History.{IsLegal}
use Rattle.desk_api.specs.declared.history.SiteData.{SiteData}
use Rattle.desk_api.specs.declared.history.Base.{Base}
use Rattle.desk_api.specs.declared.mark.Mark.{Mark}
use Rattle.desk_api.specs.declared.mark.Seat.{Seat}
use Rattle.srv_session.specs.State.{State, slots_of, due, opening}
use Rattle.srv_session.specs.Replies.{greeting}
use Rattle.srv_session.specs.Steps.{Step, AreSteps, IsDrained, state_after, events_of, marks_of, out_of}
use Rattle.srv_session.specs.Calls.{AreLiving, ArePopsOf, Holds, IsOf, Pumped, PumpedSome}
use Rattle.srv_session.proofs.OnSite.{opening_on_site}
use Rattle.srv_session.proofs.Kept.{are_living, begin_free, holds_steps, opening_holds}
use Rattle.srv_session.proofs.Drained.{pumped_dry}
use Rattle.srv_session.proofs.Windowed.{windows_hold}
use Rattle.srv_stream.specs.Streams.{refused, Stands, Follows, View, Passed, FedOn, FedUpTo, FedPart, SameStream, shown_in}
use Rattle.srv_stream.specs.Views.{first_view}
use Rattle.srv_stream.specs.Served.{Settled}
use Rattle.srv_stream.specs.declared.ended.Ended.{Ended}
use Rattle.srv_stream.proofs.Going.{Going, Idling, Keeps, SawEnd}
use Rattle.srv_stream.proofs.Moving.{all_read, moves_nothing, moves_rest, moves_got, moves_took}
use Rattle.srv_stream.proofs.Passing.{fed_on_more, fed_up_to_more}
use Rattle.srv_stream.proofs.Finishing.{pops_events, pops_slots, pops_told, sends_bytes}
use Rattle.srv_stream.proofs.Resting.{rests}
use Rattle.srv_session.proofs.Steps.{after_append, events_append, marks_append, out_append, steps_append, steps_on_site}
use Rattle.journal_core.specs.Moments.{Moment}

-- What is settled stays so.

pub settled_written : {site : SiteData} {order : Order} {r w : List ℕ} {l : List Mark} (more : List ℕ) → (r ≡ []) ⊎ Settled site order r w l → (r ≡ []) ⊎ Settled site order r (w ++ more) l
settled_written more (inl none) = inl none
settled_written {site} {order} {r} {w} {l} more (inr s) = inr (record {
  before = s.before;
  piece = s.piece;
  said = s.said;
  later = s.later;
  out = s.out;
  read_is = s.read_is;
  small = s.small;
  log_is = s.log_is;
  talk = s.talk;
  drained = s.drained;
  begins = record { rest = s.begins.rest ++ more; whole = ap (λ (z : List ℕ). z ++ more) s.begins.whole ∙ append_assoc s.out s.begins.rest more };
})

pub settled_log : {site : SiteData} {order : Order} {r w : List ℕ} {l : List Mark} (more : List Mark) → (r ≡ []) ⊎ Settled site order r w l → (r ≡ []) ⊎ Settled site order r w (l ++ more)
settled_log more (inl none) = inl none
settled_log {site} {order} {r} {w} {l} more (inr s) = inr (record {
  before = s.before;
  piece = s.piece;
  said = s.said;
  later = s.later ++ more;
  out = s.out;
  read_is = s.read_is;
  small = s.small;
  log_is = ap (λ (z : List Mark). z ++ more) s.log_is ∙ append_assoc s.said s.later more;
  talk = s.talk;
  drained = s.drained;
  begins = s.begins;
})

-- Without trouble each event was answered, and no header refused.
pub untroubled : (site : SiteData) (s : State) (remaining : List Event) (left : Result Unfinished FrameFault) → Stands site s remaining left None → (remaining ≡ []) × (refused left ≡ None)
untroubled site s [] left h = (refl, sym h)
untroubled site s (e ∷ more) left h = absurd (false≢true (ap (λ (o : Option Ended). is_some o) h.0 ∙ h.1))

unrefused : (left : Result Unfinished FrameFault) → result_err left ≡ None → refused left ≡ None
unrefused (Ok left) none = refl
unrefused (Err fault) none = absurd (none-some fault (sym none))

pub going_start : (old : Seat) (start : Wire) (told : Option Moment) (order : Order) → IsLegal old.seen → Going old old start start told order (first_view order) None false 0
going_start old start told order legal =
    let none : fed unread [] ≡ unread = rests unread refl in record {
      read = [];
      written = [];
      steps = [];
      moves = moves_nothing start;
      follows = record { rules = tt; remaining = []; all = ap (λ (a : Assembled). a.events) none; stands = sym (ap (λ (a : Assembled). refused a.left) none) };
      keeps = λ _. record { state = refl; none = refl; left = sym (ap (λ (a : Assembled). a.left) none) };
      slots = refl;
      adds = adds_nothing old legal;
      moments = tt;
      bytes = append-nil (greeting order);
      settled = inl refl;
      faults = refl;
      ends = refl;
      all = λ e. absurd (false≢true e);
      calm = λ e. refl;
      quota = λ h. omega arith;
    }

module _ {old new : Seat} {start wire : Wire} {told : Option Moment} {order : Order} {v : View} {trouble : Option Ended} {at_end : Bool} {calls : ℕ} (a : Going old new start wire told order v trouble at_end calls) where
  -- no byte moved, and the idles rose
  abbrev pub going_idle : (wire2 : Wire) → Idled wire wire2 → Going old new start wire2 told order v trouble at_end (calls + 1)
  going_idle wire2 x = record {
    read = a.read;
    written = a.written;
    steps = a.steps;
    moves = moves_rest a.moves x.rests;
    follows = a.follows;
    keeps = a.keeps;
    slots = a.slots;
    adds = a.adds;
    moments = a.moments;
    bytes = a.bytes;
    settled = a.settled;
    faults = x.faults ∙ a.faults;
    ends = subst (λ (z : ℕ). SawEnd at_end start.ends z) (sym x.ends) a.ends;
    all = a.all;
    calm = a.calm;
    quota = λ low. let rose = x.idles.more low in let before = a.quota (omega (arith, x.idles.kept)) in omega arith;
  }

  -- bytes were written
  abbrev pub going_took : (wire2 : Wire) (w : View) (n : ℕ) → Taken wire wire2 n v.pending → w ≡ record v { pending = drop n v.pending } → Going old new start wire2 told order w trouble at_end (calls + 1)
  going_took wire2 w n x is = record {
    read = a.read;
    written = a.written ++ take n v.pending;
    steps = a.steps;
    moves = moves_took a.moves x;
    follows = a.follows;
    keeps = λ none. let k = a.keeps none in record {
      state = ap (λ (z : View). z.state) is ∙ k.state;
      none = ap (λ (z : View). z.stream.events) is ∙ k.none;
      left = ap (λ (z : View). z.stream.left) is ∙ k.left;
    };
    slots = ap (λ (z : View). slots_of z.state.requests) is ∙ a.slots;
    adds = a.adds;
    moments = a.moments;
    bytes = a.bytes ∙ ap (λ (z : List ℕ). a.written ++ z) (sym (take-append-drop n v.pending)) ∙ sym (append_assoc a.written (take n v.pending) (drop n v.pending)) ∙ ap (λ (z : List ℕ). (a.written ++ take n v.pending) ++ z) (sym (ap (λ (z : View). z.pending) is));
    settled = settled_written (take n v.pending) a.settled;
    faults = x.counts.faults ∙ a.faults;
    ends = subst (λ (z : ℕ). SawEnd at_end start.ends z) (sym x.counts.ends) a.ends;
    all = a.all;
    calm = a.calm;
    quota = λ low. let before = a.quota (omega (arith, x.counts.idles)) in
        let more : length (a.written ++ take n v.pending) ≡ length a.written + n = length-append a.written (take n v.pending) ∙ simp length-take (omega (arith, x.fits)) in omega (arith, x.counts.idles, x.some);
  }

-- The connection as one feeding of a serving of which nothing was taken.
abbrev pub untaken : List ℕ → View → View
untaken written v = record v { pending = written ++ v.pending }

pub shifted : (v w : View) (before said : List ℕ) → w.pending ≡ v.pending ++ said → before ++ w.pending ≡ (before ++ v.pending) ++ said
shifted v w before said out = ap (λ (z : List ℕ). before ++ z) out ∙ sym (append_assoc before v.pending said)

module _ {mid new : Seat} {told : Option Moment} {v w : View} {ys : List ℕ} (before : List ℕ) where
  abbrev untaken_on : FedOn mid new told v w ys → FedOn mid new told (untaken before v) (untaken before w) ys
  untaken_on b = record {
    passed = record {
      steps = b.passed.steps;
      rules = b.passed.rules;
      events = b.passed.events;
      left = b.passed.left;
      state = b.passed.state;
      adds = b.passed.adds;
      moments = b.passed.moments;
      out = shifted v w before (out_of mid.seen.base.site v.state b.passed.steps) b.passed.out;
    };
    none = b.none;
    sound = b.sound;
  }

  abbrev untaken_up_to : {ended : Ended} → FedUpTo mid new told v w ys ended → FedUpTo mid new told (untaken before v) (untaken before w) ys ended
  untaken_up_to b = record {
    steps = b.steps;
    subscribed = b.subscribed;
    follows = b.follows;
    adds = b.adds;
    moments = b.moments;
    out = shifted v w before (out_of mid.seen.base.site v.state b.steps) b.out;
  }

  abbrev pub untaken_part : FedPart mid new told v w ys → FedPart mid new told (untaken before v) (untaken before w) ys
  untaken_part b = record {
    steps = b.steps;
    more = b.more;
    rules = b.rules;
    front = b.front;
    part = b.part;
    subscribed = b.subscribed;
    adds = b.adds;
    moments = b.moments;
    out = shifted v w before (out_of mid.seen.base.site v.state b.steps) b.out;
  }

-- A read, where all was written.
module _ {old new : Seat} {start wire : Wire} {told : Option Moment} {order : Order} {v : View} {calls : ℕ} (i : Idling old new start wire told order v None false calls) (wire2 : Wire) where
  abbrev site : SiteData
  site = old.seen.base.site

  pub written_is : greeting order ++ out_of site (opening order) i.going.steps ≡ i.going.written
  written_is = i.going.bytes ∙ ap (λ (z : List ℕ). i.going.written ++ z) i.empty ∙ append-nil i.going.written

  pub answered : (i.going.follows.remaining ≡ []) × (refused (fed unread i.going.read).left ≡ None)
  answered = untroubled site (state_after site (opening order) i.going.steps) i.going.follows.remaining (fed unread i.going.read).left i.going.follows.stands

  pub all_answered : (fed unread i.going.read).events ≡ events_of i.going.steps
  all_answered = i.going.follows.all ∙ ap (λ (l : List Event). events_of i.going.steps ++ l) answered.0 ∙ append-nil (events_of i.going.steps)

  abbrev pub passed : Passed old new told (first_view order) (untaken i.going.written v) i.going.read
  passed = let k = i.going.keeps refl in record {
    steps = i.going.steps;
    rules = i.going.follows.rules;
    events = all_answered ∙ sym (append-nil (events_of i.going.steps)) ∙ ap (λ (l : List Event). events_of i.going.steps ++ l) (sym k.none);
    left = k.left;
    state = k.state;
    adds = i.going.adds;
    moments = i.going.moments;
    out = sym i.going.bytes;
  }

  -- all before this piece is settled
  pub settle : (piece : List ℕ) (more : List Mark) → length piece ≤ 4096 → (i.going.read ++ piece ≡ []) ⊎ Settled site order (i.going.read ++ piece) i.going.written (marks_of i.going.steps ++ more)
  settle piece more small = inr (record {
    before = i.going.read;
    piece = piece;
    said = marks_of i.going.steps;
    later = more;
    out = i.going.written;
    read_is = refl;
    small = small;
    log_is = refl;
    talk = record {
      steps = i.going.steps;
      rules = i.going.follows.rules;
      events_are = sym all_answered;
      marks_are = refl;
      out_is = written_is;
      windows = windows_hold site order i.going.steps i.going.follows.rules;
    };
    drained = i.dry refl;
    begins = record { rest = []; whole = sym (append-nil i.going.written) };
  })

  pub going_end : CameToEnd wire wire2 → Going old new start wire2 told order v None true (calls + 1)
  going_end x = record {
    read = i.going.read;
    written = i.going.written;
    steps = i.going.steps;
    moves = moves_rest i.going.moves x.rests;
    follows = i.going.follows;
    keeps = i.going.keeps;
    slots = i.going.slots;
    adds = i.going.adds;
    moments = i.going.moments;
    bytes = i.going.bytes;
    settled = i.going.settled;
    faults = x.faults ∙ i.going.faults;
    ends = subst (λ (z : ℕ). Rose z wire2.ends) i.going.ends x.ends;
    all = λ _. all_read start.left wire.left i.going.read i.going.moves.taken x.at_end;
    calm = λ _. refl;
    quota = λ low. let before = i.going.quota (omega (arith, x.idles)) in omega (arith, x.idles);
  }

  module _ (n : ℕ) (buffer : List ℕ) (x : Gave wire wire2 n buffer) (small : length buffer ≤ 4096) where
    pub long : length (take n buffer) ≡ n
    long = simp length-take (omega (arith, x.fits))

    abbrev pub read2 : List ℕ
    read2 = i.going.read ++ take n buffer

    -- the connection behind the piece, whose steps these are
    gone_on : {new2 : Seat} (w : View) (trouble : Option Ended) (steps : List Step) (later : List Mark) → marks_of steps ≡ marks_of i.going.steps ++ later
        → Follows site (opening order) (fed unread read2) steps trouble → (trouble ≡ None → Keeps site order w read2 steps)
        → slots_of w.state.requests ≡ slots_of (state_after site (opening order) steps).requests → Adds old new2 (marks_of steps) → HaveMoment told (marks_of steps) → i.going.written ++ w.pending ≡ greeting order ++ out_of site (opening order) steps
        → Going old new2 start wire2 told order w trouble false (calls + 1)
    gone_on w trouble steps later marks follows keeps slots adds moments bytes = record {
      read = read2;
      written = i.going.written;
      steps = steps;
      moves = moves_got i.going.moves x;
      follows = follows;
      keeps = keeps;
      slots = slots;
      adds = adds;
      moments = moments;
      bytes = sym bytes;
      settled = subst (λ (z : List Mark). (read2 ≡ []) ⊎ Settled site order read2 i.going.written z) (sym marks) (settle (take n buffer) later (omega (arith, long, x.fits)));
      faults = x.counts.faults ∙ i.going.faults;
      ends = x.counts.ends ∙ i.going.ends;
      all = λ e. absurd (false≢true e);
      calm = λ e. absurd (false≢true e);
      quota = λ low. let before = i.going.quota (omega (arith, x.counts.idles)) in omega (arith, x.counts.idles, x.some, long, length-append i.going.read (take n buffer));
    }

    pub going_fed : {new2 : Seat} {w : View} → FedOn new new2 told v w (take n buffer) → Going old new2 start wire2 told order w None false (calls + 1)
    going_fed {new2} {w} b =
        let c = fed_on_more passed (untaken_on i.going.written b) in
        gone_on w None c.passed.steps (marks_of b.passed.steps) (marks_append i.going.steps b.passed.steps)
        (record {
          rules = c.passed.rules;
          remaining = [];
          all = c.passed.events ∙ ap (λ (l : List Event). events_of c.passed.steps ++ l) c.none;
          stands = sym (ap refused (sym c.passed.left) ∙ unrefused w.stream.left c.sound);
        })
        (λ _. record { state = c.passed.state; none = c.none; left = c.passed.left })
        (ap (λ (z : State). slots_of z.requests) c.passed.state) c.passed.adds c.passed.moments c.passed.out

    pub going_refused : {new2 : Seat} {w : View} {ended : Ended} → FedUpTo new new2 told v w (take n buffer) ended → Going old new2 start wire2 told order w (Some ended) false (calls + 1)
    going_refused {new2} {w} {ended} b =
        let c = fed_up_to_more passed (untaken_up_to i.going.written b) in
        gone_on w (Some ended) c.steps (marks_of b.steps) (marks_append i.going.steps b.steps) c.follows
        (λ no. absurd (none-some ended (sym no))) c.subscribed c.adds c.moments c.out

-- The session's channels stay the site's, and its subscriptions live.

pub going_on_site : {old new : Seat} {start wire : Wire} {told : Option Moment} {order : Order} {v : View} {trouble : Option Ended} {at_end : Bool} {calls : ℕ} → Going old new start wire told order v trouble at_end calls → trouble ≡ None → IsOf new.seen.base.site v.state
going_on_site {old} {new} {start} {wire} {told} {order} {v} a none =
    subst (λ (z : Base). IsOf z.site v.state) (sym a.adds.grows.base) (subst (IsOf old.seen.base.site) (sym (a.keeps none).state) (steps_on_site old.seen.base.site (opening order) a.steps (opening_on_site old.seen.base.site order)))

module _ {old new : Seat} {start wire : Wire} {told : Option Moment} {order : Order} {v : View} {trouble : Option Ended} {at_end : Bool} {calls : ℕ} (a : Going old new start wire told order v trouble at_end calls) where
  abbrev there_ : State
  there_ = state_after old.seen.base.site (opening order) a.steps

  steps_hold : Holds new.log there_
  steps_hold =
      subst (λ (l : List Mark). Holds l there_) (sym a.adds.log)
      (holds_steps old.seen.base.site (opening order) old.log a.steps (opening_holds old.log order) a.follows.rules (begin_free new.seen new.number old.log (marks_of a.steps) a.adds.true_))

  pub going_holds : trouble ≡ None → Holds new.log v.state
  going_holds none = subst (Holds new.log) (sym (a.keeps none).state) steps_hold

  pub going_living : AreLiving new.log (slots_of v.state.requests)
  going_living = subst (AreLiving new.log) (sym a.slots) (are_living new.log there_ steps_hold)

-- A pump.

module _ {old new : Seat} {start wire : Wire} {told : Option Moment} {order : Order} {v : View} {at_end : Bool} {calls : ℕ} (a : Going old new start wire told order v None at_end calls) where
  abbrev base : SiteData
  base = old.seen.base.site

  -- what follows, said of the state and the site that these steps leave
  pub from_there : (P : SiteData → State → Type 0) → P new.seen.base.site v.state → P base (state_after base (opening order) a.steps)
  from_there P p =
      subst (λ (z : SiteData). P z (state_after base (opening order) a.steps)) (ap (λ (b : Base). b.site) a.adds.grows.base) (subst (P new.seen.base.site) (a.keeps refl).state p)

  -- the pops behind the steps
  module _ {new2 : Seat} (w : View) (reqs : List ℕ) (popped : List Step) (next : List Mark) (p : PumpedSome (shown_in new v) (shown_in new2 w) reqs popped next) where
    pub popped_rules : AreSteps base (opening order) (a.steps ++ popped)
    popped_rules = steps_append base (opening order) a.steps popped a.follows.rules (from_there (λ (z : SiteData) (s : State). AreSteps z s popped) p.rules)

    pub popped_events : events_of (a.steps ++ popped) ≡ events_of a.steps
    popped_events = events_append a.steps popped ∙ ap (λ (l : List Event). events_of a.steps ++ l) (pops_events reqs popped p.are) ∙ append-nil (events_of a.steps)

    pub popped_all : (fed unread a.read).events ≡ events_of (a.steps ++ popped) ++ a.follows.remaining
    popped_all = a.follows.all ∙ ap (λ (l : List Event). l ++ a.follows.remaining) (sym popped_events)

    pub popped_bytes : greeting order ++ out_of base (opening order) (a.steps ++ popped) ≡ a.written ++ w.pending
    popped_bytes =
        let here = state_after base (opening order) a.steps in
        ap (λ (z : List ℕ). greeting order ++ z) (out_append base (opening order) a.steps popped)
        ∙ sym (append_assoc (greeting order) (out_of base (opening order) a.steps) (out_of base here popped))
        ∙ ap (λ (z : List ℕ). z ++ out_of base here popped) a.bytes
        ∙ append_assoc a.written v.pending (out_of base here popped)
        ∙ ap (λ (z : List ℕ). a.written ++ z) (sym (from_there (λ (z : SiteData) (s : State). w.pending ≡ v.pending ++ out_of z s popped) p.output))

    pub popped_adds : Adds old new2 (marks_of (a.steps ++ popped) ++ next)
    popped_adds =
        subst (λ (l : List Mark). Adds old new2 l)
        (sym (append_assoc (marks_of a.steps) (marks_of popped) next) ∙ ap (λ (l : List Mark). l ++ next) (sym (marks_append a.steps popped))) (adds_more a.adds p.adds)

    pub popped_moments : HaveMoment told (marks_of (a.steps ++ popped))
    popped_moments =
        subst (HaveMoment told) (sym (marks_append a.steps popped))
        (moments_append told (marks_of a.steps) (marks_of popped) a.moments (pops_told told new.seen.base.site v.state reqs popped p.are p.rules))

    pub popped_settled : (a.read ≡ []) ⊎ Settled base order a.read a.written (marks_of (a.steps ++ popped))
    popped_settled =
        subst (λ (l : List Mark). (a.read ≡ []) ⊎ Settled base order a.read a.written l) (sym (marks_append a.steps popped)) (settled_log (marks_of popped) a.settled)

    pub popped_same : slots_of (state_after base (opening order) (a.steps ++ popped)).requests ≡ slots_of v.state.requests
    popped_same =
        ap (λ (z : State). slots_of z.requests) (after_append base (opening order) a.steps popped)
        ∙ from_there (λ (z : SiteData) (s : State). slots_of (state_after z s popped).requests ≡ slots_of s.requests) (pops_slots new v.state reqs popped p.are p.rules)
        ∙ sym a.slots

  module _ {new2 : Seat} {w : View} (more : Bool) (p : Pumped (shown_in new v) (shown_in new2 w) more) (same : SameStream v w) where
    abbrev pub going_pumped : Going old new2 start wire told order w None at_end calls
    going_pumped =
        let k = a.keeps refl in
        let reqs = due v.state.requests in
        let answered = untroubled base (state_after base (opening order) a.steps) a.follows.remaining (fed unread a.read).left a.follows.stands in
        let state : w.state ≡ state_after base (opening order) (a.steps ++ p.steps) =
        from_there (λ (z : SiteData) (s : State). w.state ≡ state_after z s p.steps) p.state ∙ sym (after_append base (opening order) a.steps p.steps) in record {
          read = a.read;
          written = a.written;
          steps = a.steps ++ p.steps;
          moves = a.moves;
          follows = record {
            rules = popped_rules w reqs p.steps [] p.some;
            remaining = [];
            all = popped_all w reqs p.steps [] p.some ∙ ap (λ (l : List Event). events_of (a.steps ++ p.steps) ++ l) answered.0;
            stands = sym answered.1;
          };
          keeps = λ _. record {
            state = state;
            none = ap (λ (c : Assembled). c.events) same ∙ k.none;
            left = ap (λ (c : Assembled). c.left) same ∙ k.left;
          };
          slots = ap (λ (z : State). slots_of z.requests) state;
          adds = subst (λ (l : List Mark). Adds old new2 l) (append-nil (marks_of (a.steps ++ p.steps))) (popped_adds w reqs p.steps [] p.some);
          moments = popped_moments w reqs p.steps [] p.some;
          bytes = popped_bytes w reqs p.steps [] p.some;
          settled = popped_settled w reqs p.steps [] p.some;
          faults = a.faults;
          ends = a.ends;
          all = a.all;
          calm = a.calm;
          quota = a.quota;
        }

    -- nothing was unread
    pub pumped_out : more ≡ false → IsDrained base (opening order) (a.steps ++ p.steps)
    pumped_out none =
        pumped_dry base (opening order) a.steps p.steps
        (from_there (λ (z : SiteData) (s : State). ArePopsOf (due s.requests) p.steps) p.some.are)
        (from_there (λ (z : SiteData) (s : State). AreSteps z s p.steps) p.some.rules) (sym p.more_is ∙ none)

    -- or there is something to be written
    pub pumped_some : more ≡ true → 0 < length w.pending
    pumped_some some =
        let out = out_of new.seen.base.site v.state p.steps in
        let bytes : 0 < length out = sends_bytes new.seen.base.site v.state (due v.state.requests) p.steps p.some.are p.some.rules (sym p.more_is ∙ some) in
        omega (arith, bytes, ap length p.some.output, length-append v.pending out)
