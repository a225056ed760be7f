-- From the row of a task to the event in which it was heard.
use Rattle.std.proofs.Common.{◌≡◌, ◌==◌, ℕ, ◌-◌, Bool, true, false, cond, List, [], length, None, Result, Ok, Err, refl, sym, ◌∙◌, ap, subst}
use Rattle.std.proofs.Math.Bool.{or-true}
use Rattle.std.specs.Prelude.{OnOk, IsErrAnd}
use Rattle.pva_wire.specs.declared.order.Order.{Order}
use Rattle.pva_frames.specs.declared.event.Event.{Event}
use Rattle.pva_frames.specs.declared.event.Event.TheVariants.{Control}
use Rattle.pva_frames.specs.declared.event.Whole.{Whole}
use Rattle.pvd_desc.specs.Types.{Types}
use Rattle.pvd_type.specs.declared.memory.NoMemory.{NoMemory}
use Rattle.pvd_codec.specs.Faults.{fault_at, IsFaultOf}
use Rattle.pvd_codec.specs.Reading.{Read, State as Source}
use Rattle.pvd_codec.specs.declared.fault.ValueCause.{ValueCause}
use Rattle.pvd_codec.specs.declared.fault.ValueFault.{ValueFault}
use Rattle.pvd_codec.specs.declared.fault.ValueFault.TheVariants.{Wire, Desc, BadSelector, BitOutside, BadBool, OverBound, TooNested, NoMemory as Without}
use Rattle.pva_messages.specs.Reading.{request_at, stages_at, all_at, item_at}
use Rattle.pva_messages.specs.Rows.{command_of}
use Rattle.pva_messages.specs.Requests as request
use Rattle.pva_messages.specs.Requests.{Request}
use Rattle.pva_messages.specs.declared.fault.MessageFault.{MessageFault}
use Rattle.desk_api.proofs.Adding.{adds_nothing}
use Rattle.desk_api.specs.History.{IsLegal}
use Rattle.desk_api.specs.declared.history.Base.{Base}
use Rattle.desk_api.specs.declared.history.SiteData.{SiteData}
use Rattle.desk_api.specs.declared.mark.Seat.{Seat}
use Rattle.journal_core.specs.Moments.{Moment}
use Rattle.srv_session.specs.State.{State, slots_of}
use Rattle.srv_session.specs.Tasks.{Task, pass_over, echo_control, echo, Hearing, asks, unreadable, over_range, heard, fault_in, heard_message, heard_read, heard_whole, is_heard}
use Rattle.srv_session.specs.Steps.{knowing, IsAnswer, PartOf, after_hearing, left_by_hearing}
use Rattle.srv_session.specs.Calls.{IsOf, Shown, site_of, Takes, Responds, Heeds, Handles}
use Rattle.srv_session.specs.Views.{stop_by, stopping}
use Rattle.srv_session.specs.declared.stop.SessionStop.{SessionStop}
use Rattle.srv_session.specs.declared.stop.SessionStop.TheVariants as stops
use Rattle.srv_session.proofs.Rows.{no_part_of, none_left_by, shown}
use Rattle.srv_session.proofs.OnSite.{event_on_site}

-- A task is answered, and so is what asks it.

pub heeds : (old new : Shown) (moment : Moment) (task : Task) (result : Result (Unit {0}) NoMemory) → Takes old new moment task result → Heeds old new moment (asks task old.state.types) (stopping result)
heeds old new moment task (Ok u) t = record {
  marks = t.marks;
  sent = t.sent;
  answers = t.row;
  sayable = t.sayable;
  adds = t.adds;
  moments = t.moments;
  state = t.state;
  output = t.output;
}
heeds old new moment task (Err e) t = record { marks = t.marks; part_is = t.part_is; adds = t.adds; moments = t.moments; subscribed = t.subscribed; output = t.output }

pub heeds_as : (old new : Shown) (moment : Moment) (task : Task) (answer : Result (Unit {0}) NoMemory) (result : Result (Unit {0}) SessionStop) → result ≡ stopping answer
    → Takes old new moment task answer → Heeds old new moment (asks task old.state.types) result
heeds_as old new moment task answer result is t =
    subst (λ (r : Result (Unit {0}) SessionStop). Heeds old new moment (asks task old.state.types) r) (sym is) (heeds old new moment task answer t)

pub responds : (old new : Shown) (moment : Moment) (e : Event) (task : Task) (result : Result (Unit {0}) NoMemory) → heard (site_of old) old.state e ≡ asks task old.state.types
    → Takes old new moment task result → Responds old new moment e result
responds old new moment e task (Ok u) is t = record {
  marks = t.marks;
  sent = t.sent;
  answers = subst (λ (h : Hearing). IsAnswer (site_of old) old.state h t.marks t.sent) (sym is) t.row;
  sayable = t.sayable;
  adds = t.adds;
  moments = t.moments;
  state = t.state ∙ ap (λ (h : Hearing). after_hearing (site_of old) old.state h t.marks) (sym is);
  output = t.output;
}
responds old new moment e task (Err x) is t = record {
  marks = t.marks;
  part_is = subst (λ (h : Hearing). PartOf (site_of old) old.state h t.marks) (sym is) t.part_is;
  adds = t.adds;
  moments = t.moments;
  subscribed = t.subscribed ∙ ap (λ (h : Hearing). slots_of (left_by_hearing (site_of old) old.state h t.marks).requests) (sym is);
  output = t.output;
}

-- what becomes of an event, whatever it is called
pub heeds_so : (old new : Shown) (moment : Moment) (h k : Hearing) (result : Result (Unit {0}) SessionStop) → h ≡ k → Heeds old new moment k result → Heeds old new moment h result
heeds_so old new moment h k result is t = subst (λ (z : Hearing). Heeds old new moment z result) (sym is) t

-- what was answered to a control message
pub handles_control : (old new : Shown) (moment : Moment) (e : Event) (answer : Result (Unit {0}) NoMemory) (result : Result (Unit {0}) SessionStop) → result ≡ stopping answer
    → Responds old new moment e answer → Handles old new moment e result
handles_control old new moment e (Ok u) result is t = subst (λ (r : Result (Unit {0}) SessionStop). Handles old new moment e r) (sym is) t
handles_control old new moment e (Err x) result is t = subst (λ (r : Result (Unit {0}) SessionStop). Handles old new moment e r) (sym is) t

-- what is heard in a control message
pub control_heard : (site : SiteData) (s : State) (command number : ℕ) (b : Bool) → (command == 3) ≡ b → heard site s (Control command number) ≡ asks (cond b (echo_control number) pass_over) s.types
control_heard site s command number b is = ap (λ (x : Bool). asks (cond x (echo_control number) pass_over) s.types) is

-- The session stays one of the site.

pub handled_on_site : (old new : Shown) (moment : Moment) (e : Event) (result : Result (Unit {0}) SessionStop) → Handles old new moment e result → IsOf (site_of old) old.state
    → OnOk result (IsOf (site_of new) new.state)
handled_on_site old new moment e (Ok u) t on_site =
    subst (λ (b : Base). IsOf b.site new.state) (sym t.adds.grows.base)
    (subst (λ (z : State). IsOf (site_of old) z) (sym t.state) (event_on_site (site_of old) old.state e t.marks on_site))
handled_on_site old new moment e (Err x) t on_site = tt

-- A message that isn't answered: it has no answer, or memory ran out for reading it.

abbrev pub StopsAt : SessionStop → Hearing → Type 0
StopsAt (stops.Message fault) h = h ≡ unreadable fault
StopsAt (stops.Window fault) h = h ≡ over_range
StopsAt stops.NoMemory h = Unit {0}

pub not_heard : (seat : Seat) (s t : State) (out after : List ℕ) (moment : Moment) (h : Hearing) (stop : SessionStop) (result : Result (Unit {0}) SessionStop)
    → IsErrAnd result (λ (x : SessionStop). x ≡ stop) → StopsAt stop h → IsLegal seat.seen → after ≡ out → slots_of t.requests ≡ slots_of s.requests
    → Heeds (shown seat s out) (shown seat t after) moment h result
not_heard seat s t out after moment h stop (Ok u) failed stopped legal same stay = absurd failed
not_heard seat s t out after moment h stop (Err x) failed stopped legal same stay =
    subst (λ (z : SessionStop). Heeds (shown seat s out) (shown seat t after) moment h (Err z)) (sym failed) (by_stop stop stopped)
  where
    by_stop : (stop : SessionStop) → StopsAt stop h → Heeds (shown seat s out) (shown seat t after) moment h (Err stop)
    by_stop (stops.Message fault) is = record { heard_is = is; seat = refl; subscribed = stay; output = same }
    by_stop (stops.Window fault) is = record { heard_is = is; seat = refl; subscribed = stay; output = same }
    by_stop stops.NoMemory is = record {
      marks = [];
      part_is = no_part_of seat.seen.base.site s h;
      adds = adds_nothing seat legal;
      moments = tt;
      subscribed = stay ∙ sym (none_left_by seat.seen.base.site s h);
      output = same;
    }

-- A message that can't be read: what is heard is its fault, unless memory ran out.
module _ {A : Type 0} (whole : Whole) (hears : Read Source A → Hearing) (faulty : (x : ValueCause × ℕ) → hears (Err x) ≡ unreadable (fault_in whole x)) where
  placed : (command : ℕ) (fault : ValueFault) (read : Read Source A) (cause : ValueCause) (left : ℕ) → command ≡ whole.command → read ≡ Err (cause, left) → fault ≡ fault_at cause (length whole.payload - left)
      → hears read ≡ unreadable (record { command = command; cause = fault })
  placed command fault read cause left is stopped there =
      ap hears stopped ∙ faulty (cause, left)
      ∙ ap (λ (n : ℕ). unreadable (record { command = n; cause = fault_at cause (length whole.payload - left) })) (sym is)
      ∙ ap (λ (f : ValueFault). unreadable (record { command = command; cause = f })) (sym there)

  stopped_by : (command : ℕ) (fault : ValueFault) (read : Read Source A) → command ≡ whole.command → IsFaultOf (length whole.payload) fault read
      → StopsAt (stop_by (record { command = command; cause = fault })) (hears read)
  stopped_by command Without read is f = tt
  stopped_by command (Wire x) read is f = placed command (Wire x) read f.0 f.1 is f.2 f.3
  stopped_by command (Desc x) read is f = placed command (Desc x) read f.0 f.1 is f.2 f.3
  stopped_by command (BadSelector n place) read is f = placed command (BadSelector n place) read f.0 f.1 is f.2 f.3
  stopped_by command (BitOutside n place) read is f = placed command (BitOutside n place) read f.0 f.1 is f.2 f.3
  stopped_by command (BadBool byte place) read is f = placed command (BadBool byte place) read f.0 f.1 is f.2 f.3
  stopped_by command (OverBound size place) read is f = placed command (OverBound size place) read f.0 f.1 is f.2 f.3
  stopped_by command (TooNested place) read is f = placed command (TooNested place) read f.0 f.1 is f.2 f.3

  pub stops_at_fault : (fault : MessageFault) (read : Read Source A) → fault.command ≡ whole.command → IsFaultOf (length whole.payload) fault.cause read → StopsAt (stop_by fault) (hears read)
  stops_at_fault fault read is f = stopped_by fault.command fault.cause read is f

-- An echo is all of its payload, and is always heard.
echo_at : (order : Order) (payload : List ℕ) (types : Types) → request_at order None 2 (payload, types) ≡ Ok (request.echo payload, ([], types))
unfolding request_at stages_at all_at item_at command_of
echo_at order payload types = refl

pub heard_echo : (site : SiteData) (s : State) (whole : Whole) → whole.command ≡ 2 → heard_whole site s whole ≡ asks (echo whole.payload) s.types
heard_echo site s whole is =
    let named : ℕ → Whole = λ (n : ℕ). record whole { command = n } in
    ap (λ (n : ℕ). heard_whole site s (named n)) is
    ∙ ap (λ (b : Bool). cond b (heard_read site s (named 2) (request_at whole.order None 2 (whole.payload, s.types))) (asks pass_over s.types)) (or-true s.validated)
    ∙ ap (heard_read site s (named 2)) (echo_at whole.order whole.payload s.types)

-- Before the validation a message that is neither a validation nor an echo is passed over.
pub heard_early : (site : SiteData) (s : State) (whole : Whole) → is_heard s whole.command ≡ false → heard_whole site s whole ≡ asks pass_over s.types
heard_early site s whole is =
    ap (λ (b : Bool). cond b (heard_read site s whole (request_at whole.order None whole.command (whole.payload, s.types))) (asks pass_over s.types)) is

-- What is heard in a message doesn't ask for the types that the client defined before it.
known_message : (site : SiteData) (s : State) (whole : Whole) (known types : Types) (said : Request) → heard_message site (knowing s known) whole types said ≡ heard_message site s whole types said
known_message site s whole known types (request.validation buffer registry qos method argument) = refl
known_message site s whole known types (request.echo payload) = refl
known_message site s whole known types (request.create channels) = refl
known_message site s whole known types (request.destroy_channel sid cid) = refl
known_message site s whole known types (request.get sid req sub v) = refl
known_message site s whole known types (request.put sid req sub v part) = refl
known_message site s whole known types (request.put_get sid req sub v part) = refl
known_message site s whole known types (request.monitor sid req sub v count) = refl
known_message site s whole known types (request.destroy_request sid req) = refl
known_message site s whole known types (request.cancel sid req) = refl
known_message site s whole known types (request.get_field sid req path) = refl
known_message site s whole known types (request.message req kind text) = refl
known_message site s whole known types (request.rpc sid req sub v) = refl
known_message site s whole known types (request.skipped command) = refl

-- nor does what becomes of it
pub known_heeds : (seat : Seat) (s : State) (out : List ℕ) (new : Shown) (moment : Moment) (known : Types) (h : Hearing) (result : Result (Unit {0}) SessionStop)
    → Heeds (shown seat (knowing s known) out) new moment h result → Heeds (shown seat s out) new moment h result
known_heeds seat s out new moment known (asks task types) (Ok u) t = record {
  marks = t.marks;
  sent = t.sent;
  answers = t.answers;
  sayable = t.sayable;
  adds = t.adds;
  moments = t.moments;
  state = t.state;
  output = t.output;
}
known_heeds seat s out new moment known (unreadable fault) (Ok u) t = absurd t.answers
known_heeds seat s out new moment known over_range (Ok u) t = absurd t.answers
known_heeds seat s out new moment known h (Err (stops.Message fault)) t = record { heard_is = t.heard_is; seat = t.seat; subscribed = t.subscribed; output = t.output }
known_heeds seat s out new moment known h (Err (stops.Window fault)) t = record { heard_is = t.heard_is; seat = t.seat; subscribed = t.subscribed; output = t.output }
known_heeds seat s out new moment known (asks task types) (Err stops.NoMemory) t = record { marks = t.marks; part_is = t.part_is; adds = t.adds; moments = t.moments; subscribed = t.subscribed; output = t.output }
known_heeds seat s out new moment known (unreadable fault) (Err stops.NoMemory) t = record { marks = t.marks; part_is = t.part_is; adds = t.adds; moments = t.moments; subscribed = t.subscribed; output = t.output }
known_heeds seat s out new moment known over_range (Err stops.NoMemory) t = record { marks = t.marks; part_is = t.part_is; adds = t.adds; moments = t.moments; subscribed = t.subscribed; output = t.output }

-- A message that is read.
module _ (site : SiteData) (s : State) (whole : Whole) (is : is_heard s whole.command ≡ true) where
  abbrev request_read : Read Source Request
  request_read = request_at whole.order None whole.command (whole.payload, s.types)

  is_read : heard_whole site s whole ≡ heard_read site s whole request_read
  is_read = ap (λ (b : Bool). cond b (heard_read site s whole request_read) (asks pass_over s.types)) is

  pub stops_unread : (fault : MessageFault) → fault.command ≡ whole.command → IsFaultOf (length whole.payload) fault.cause request_read → StopsAt (stop_by fault) (heard_whole site s whole)
  stops_unread fault same f =
      subst (λ (h : Hearing). StopsAt (stop_by fault) h) (sym is_read)
      (stops_at_fault whole (heard_read site s whole) (λ x. refl) fault request_read same f)

pub heeds_read : (seat : Seat) (s mid : State) (out between : List ℕ) (new : Shown) (moment : Moment) (whole : Whole) (known : Types) (said : Request) (rest : List ℕ) (result : Result (Unit {0}) SessionStop)
    → is_heard s whole.command ≡ true → request_at whole.order None whole.command (whole.payload, s.types) ≡ Ok (said, (rest, known)) → mid ≡ knowing s known → between ≡ out
    → Heeds (shown seat mid between) new moment (heard_message seat.seen.base.site mid whole mid.types said) result
    → Heeds (shown seat s out) new moment (heard_whole seat.seen.base.site s whole) result
heeds_read seat s mid out between new moment whole known said rest result is read mid_is same t =
    let site = seat.seen.base.site in
    let here = subst (λ (z : State). Heeds (shown seat z between) new moment (heard_message site z whole z.types said) result) mid_is t in
    let there = subst (λ (o : List ℕ). Heeds (shown seat (knowing s known) o) new moment (heard_message site (knowing s known) whole known said) result) same here in
    let plain = known_heeds seat s out new moment known (heard_message site (knowing s known) whole known said) result there in
    heeds_so (shown seat s out) new moment (heard_whole site s whole) (heard_message site (knowing s known) whole known said) result
    (is_read site s whole is ∙ ap (heard_read site s whole) read ∙ sym (known_message site s whole known known said)) plain
