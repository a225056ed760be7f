-- Monitors that begin and are steered.
use Rattle.std.proofs.Common.{◌≡◌, ℕ, ◌+◌, Bool, true, false, cond, List, [], ◌∷◌, ◌++◌, Option, None, Some, Result, Ok, Err, refl, sym, ◌∙◌, ap, subst, inl, inr}
use Rattle.std.specs.Prelude.{OnOk, OnErr, IsSome, codes}
use Rattle.std.specs.FinMap.{get as at, insert, len}
use Rattle.std.proofs.lemmas.Bool.{false≢true}
use Rattle.std.proofs.lemmas.List.{append-nil}
use Rattle.pvd_type.specs.Tree.{Tree}
use Rattle.pvd_type.specs.declared.memory.NoMemory.{NoMemory}
use Rattle.pvd_desc.specs.Types.{Types}
use Rattle.pvd_request.specs.Requests.{Gives}
use Rattle.pvd_request.specs.declared.request.Request.{Request as Wanted}
use Rattle.pvd_request.specs.declared.request.RequestFault.{RequestFault}
use Rattle.pvd_request.specs.declared.request.RequestFault.TheVariants as faults
use Rattle.pva_messages.specs.Fields.{Valued}
use Rattle.chan_table.specs.Tables.{Tables, Refuses}
use Rattle.chan_table.specs.declared.answer.TableAnswer.{TableAnswer}
use Rattle.chan_table.specs.declared.answer.TableAnswer.TheVariants as places
use Rattle.journal_core.specs.Moments.{Moment}
use Rattle.chan_table.specs.declared.ask.AskKind.{AskKind}
use Rattle.chan_table.specs.declared.ask.AskKind.TheVariants as kinds
use Rattle.pva_messages.specs.Replies.{Reply}
use Rattle.pva_messages.specs.Subcommands.{ends as ends_}
use Rattle.desk_api.proofs.Adding.{adds_nothing}
use Rattle.desk_api.specs.Calls.{Adds, Calls, AreSubscribe, HaveMoment}
use Rattle.desk_api.specs.History.{IsLegal}
use Rattle.desk_api.specs.Types.{type_of}
use Rattle.desk_api.specs.declared.channel.Channel.{Channel}
use Rattle.desk_api.specs.declared.history.SiteData.{SiteData}
use Rattle.desk_api.specs.declared.mark.Mark.{Mark}
use Rattle.desk_api.specs.declared.mark.Mark.TheVariants.{Begun}
use Rattle.desk_api.specs.declared.mark.Seat.{Seat}
use Rattle.desk_api.specs.declared.sub.Sub.{Sub}
use Rattle.desk_api.specs.declared.sub.SubAnswer.{SubAnswer}
use Rattle.desk_api.specs.declared.sub.SubAnswer.TheVariants as answers
use Rattle.srv_session.specs.State.{State, Requests, Asked, slots_of}
use Rattle.srv_session.specs.Calls.{Shown, Heeds}
use Rattle.srv_session.specs.Replies.{Sent, IsSayable, said, spelled, is_call, begun, refused}
use Rattle.srv_session.specs.Rows.{begins_alone, SubscribePart, monitor_of, steered, subscribed_reply, left_by, after_task}
use Rattle.srv_session.specs.Tasks.{Task, Hearing, asks, over_range, refuse, subscribe, steer, destroy_request, beginning, beginning_as, fault_text, is_over, acknowledged, started_by, steering, windowed}
use Rattle.srv_session.specs.Views.{state_of, output_of, show, stopping, AnswersAlone, HasPart, HasSaid, IsAsBefore, RefusesFault, RefusesPlace}
use Rattle.srv_session.specs.Watching.{RefusesSubscription, Writes}
use Rattle.srv_session.specs.declared.session.Session.{Session}
use Rattle.srv_session.specs.declared.stop.SessionStop.{SessionStop}
use Rattle.srv_session.specs.declared.stop.SessionStop.TheVariants as stops
use Rattle.srv_session.proofs.Beginning.{id_in_use, are_too_many}
use Rattle.srv_session.proofs.Heeding.{heeds_as, heeds_so, not_heard}
use Rattle.srv_session.proofs.Rows.{shown}

subscribe_moments : (moment : Moment) (channel : Channel) (wanted : Wanted) (answer : Result Sub SubAnswer) (marks : List Mark) → AreSubscribe channel wanted.mask wanted.queue answer marks → HaveMoment (Some moment) marks
subscribe_moments moment channel wanted (Ok sub) marks p = subst (HaveMoment (Some moment)) (sym p.marks_are) (tt, tt)
subscribe_moments moment channel wanted (Err (answers.TooManyMonitors count)) marks p = subst (HaveMoment (Some moment)) (sym p.marks_are) (tt, tt)
subscribe_moments moment channel wanted (Err answers.NoMemory) marks p = subst (HaveMoment (Some moment)) (sym p) tt

-- The subscription to what is wanted of a channel.
module _ (here : Seat) (moment : Moment) (s : State) (out : List ℕ) (req sub sid : ℕ) (channel : Channel) (wanted : Wanted) (window : Option ℕ) where
  abbrev task_ : Hearing
  task_ = asks (subscribe req sub sid channel wanted window) s.types

  -- memory ran out before it
  pub no_room : (t : State) (after : List ℕ) → t ≡ s → after ≡ out → IsLegal here.seen → Heeds (shown here s out) (shown here t after) moment task_ (Err stops.NoMemory)
  no_room t after state same legal = record {
    marks = [];
    part_is = (Err answers.NoMemory, refl);
    adds = adds_nothing here legal;
    moments = tt;
    subscribed = ap (λ (z : State). slots_of z.requests) state;
    output = same;
  }

  module _ (there : Seat) (t : State) (after : List ℕ) where
    -- it began
    module _ (living : Sub) (calls : Calls here there (AreSubscribe channel wanted.mask wanted.queue (Ok living)))
        (state : t ≡ record s { requests = insert s.requests req (monitor_of sid wanted living.slot window) }) where
      behind : t ≡ after_task here.seen.base.site s (subscribe req sub sid channel wanted window) calls.marks
      behind = state ∙ ap (after_task here.seen.base.site s (subscribe req sub sid channel wanted window)) (sym calls.named.marks_are)

      abbrev reply_ : Reply
      reply_ = begun kinds.Monitor req begins_alone (type_of here.seen.base.site channel)

      pub monitor_begun : (answer : Result (Unit {0}) NoMemory) (result : Result (Unit {0}) SessionStop) → result ≡ stopping answer
          → OnOk answer ((after ≡ out ++ spelled s.order s.segment (said reply_)) × IsSayable (said reply_)) → OnErr answer (after ≡ out)
          → Heeds (shown here s out) (shown there t after) moment task_ result
      monitor_begun (Ok u) result is ok err = subst (Heeds (shown here s out) (shown there t after) moment task_) (sym is) (record {
        marks = calls.marks;
        sent = said reply_ ∷ [];
        answers = record { answer = Ok living; told = reply_; is_subscribe = calls.named; told_is = refl; sent_is = refl };
        sayable = (ok.1, tt);
        adds = calls.adds;
        moments = subscribe_moments moment channel wanted (Ok living) calls.marks calls.named;
        state = behind;
        output = ok.0 ∙ ap (λ (l : List ℕ). out ++ l) (sym (append-nil (spelled s.order s.segment (said reply_))));
      })
      monitor_begun (Err e) result is ok err = subst (Heeds (shown here s out) (shown there t after) moment task_) (sym is) (record {
        marks = calls.marks;
        part_is = (Ok living, calls.named);
        adds = calls.adds;
        moments = subscribe_moments moment channel wanted (Ok living) calls.marks calls.named;
        subscribed = ap (λ (z : State). slots_of z.requests) behind;
        output = err;
      })

    -- the same by the answer of its reply
    pub monitor_begun_by : (living : Sub) → Calls here there (AreSubscribe channel wanted.mask wanted.queue (Ok living)) → (mid : State) (between : List ℕ) (ty : Tree)
        → mid ≡ record s { requests = insert s.requests req (monitor_of sid wanted living.slot window) } → between ≡ out → ty ≡ type_of here.seen.base.site channel → t ≡ mid
        → (answer : Result (Unit {0}) NoMemory) (result : Result (Unit {0}) SessionStop) → result ≡ stopping answer
        → OnOk answer ((after ≡ between ++ spelled mid.order mid.segment (said (begun kinds.Monitor req begins_alone ty))) × IsSayable (said (begun kinds.Monitor req begins_alone ty))) → OnErr answer (after ≡ between)
        → Heeds (shown here s out) (shown there t after) moment task_ result
    monitor_begun_by living calls mid between ty mid_is between_is ty_is t_is answer result is ok err =
        monitor_begun living calls (t_is ∙ mid_is) answer result is (on_ok_by answer ok) (on_err_by answer err)
      where
        on_ok_by : (a : Result (Unit {0}) NoMemory) → OnOk a ((after ≡ between ++ spelled mid.order mid.segment (said (begun kinds.Monitor req begins_alone ty))) × IsSayable (said (begun kinds.Monitor req begins_alone ty)))
            → OnOk a
            ((after ≡ out ++ spelled s.order s.segment (said (begun kinds.Monitor req begins_alone (type_of here.seen.base.site channel)))) × IsSayable (said (begun kinds.Monitor req begins_alone (type_of here.seen.base.site channel))))
        on_ok_by (Ok u) e = (
          e.0 ∙ ap (λ (z : State). between ++ spelled z.order z.segment (said (begun kinds.Monitor req begins_alone ty))) mid_is
              ∙ ap (λ (l : List ℕ). l ++ spelled s.order s.segment (said (begun kinds.Monitor req begins_alone ty))) between_is
              ∙ ap (λ (y : Tree). out ++ spelled s.order s.segment (said (begun kinds.Monitor req begins_alone y))) ty_is,
          subst (λ (y : Tree). IsSayable (said (begun kinds.Monitor req begins_alone y))) ty_is e.1,
        )
        on_ok_by (Err x) e = tt

        on_err_by : (a : Result (Unit {0}) NoMemory) → OnErr a (after ≡ between) → OnErr a (after ≡ out)
        on_err_by (Ok u) e = tt
        on_err_by (Err x) e = e ∙ between_is

  -- none began
  module _ (there : Seat) (old new : Session) (answer : SubAnswer) (calls : Calls here there (AreSubscribe channel wanted.mask wanted.queue (Err answer))) (old_is : state_of old ≡ s) (out_is : output_of old ≡ out) (state : state_of new ≡ s) where
    pub monitor_refused : (told : Result (Unit {0}) NoMemory) (result : Result (Unit {0}) SessionStop) → result ≡ stopping told
        → RefusesSubscription old new req sub answer told → Heeds (shown here s out) (show there new) moment task_ result
    monitor_refused told result is refuses = subst (Heeds (shown here s out) (show there new) moment task_) (sym is) (by_answer answer calls.named told refuses)
      where
        unsaid : SubscribePart channel wanted calls.marks → HaveMoment (Some moment) calls.marks → slots_of (state_of new).requests ≡ slots_of (left_by here.seen.base.site s (subscribe req sub sid channel wanted window) calls.marks).requests
            → output_of new ≡ output_of old → Heeds (shown here s out) (show there new) moment task_ (Err stops.NoMemory)
        unsaid part moments left same = record {
          marks = calls.marks;
          part_is = part;
          adds = calls.adds;
          moments = moments;
          subscribed = left;
          output = same ∙ out_is;
        }

        by_answer : (a : SubAnswer) → AreSubscribe channel wanted.mask wanted.queue (Err a) calls.marks → (told : Result (Unit {0}) NoMemory) → RefusesSubscription old new req sub a told
            → Heeds (shown here s out) (show there new) moment task_ (stopping told)
        by_answer (answers.TooManyMonitors count) named (Ok u) told =
            let reply = refused kinds.Monitor req sub (codes "too many monitors") in
            record {
              marks = calls.marks;
              sent = said reply ∷ [];
              answers = record { answer = Err (answers.TooManyMonitors count); told = reply; is_subscribe = named; told_is = refl; sent_is = refl };
              sayable = (told.1, tt);
              adds = calls.adds;
              moments = subscribe_moments moment channel wanted (Err (answers.TooManyMonitors count)) calls.marks named;
              state = state ∙ ap (after_task here.seen.base.site s (subscribe req sub sid channel wanted window)) (sym named.marks_are);
              output =
                  told.0 ∙ ap (λ (z : State). output_of old ++ spelled z.order z.segment (said reply)) old_is
                  ∙ ap (λ (l : List ℕ). l ++ spelled s.order s.segment (said reply)) out_is
                  ∙ ap (λ (l : List ℕ). out ++ l) (sym (append-nil (spelled s.order s.segment (said reply))));
            }
        by_answer (answers.TooManyMonitors count) named (Err e) same =
            unsaid (Err (answers.TooManyMonitors count), named) (subscribe_moments moment channel wanted (Err (answers.TooManyMonitors count)) calls.marks named)
            (ap (λ (z : State). slots_of z.requests) (state ∙ ap (left_by here.seen.base.site s (subscribe req sub sid channel wanted window)) (sym named.marks_are))) same
        by_answer answers.NoMemory named (Ok u) told = absurd told
        by_answer answers.NoMemory named (Err e) same =
            unsaid (Err answers.NoMemory, named) (subscribe_moments moment channel wanted (Err answers.NoMemory) calls.marks named)
            (ap (λ (z : State). slots_of z.requests) (state ∙ ap (left_by here.seen.base.site s (subscribe req sub sid channel wanted window)) (sym named))) same

-- Monitors that go on.

pub no_change : (seat : Seat) (moment : Moment) (s t : State) (out after : List ℕ) (req sub : ℕ) (count : Option ℕ) (ask : Asked) → IsLegal seat.seen
    → t ≡ record s { requests = insert s.requests req (steered count (started_by sub ask.started) ask) } → after ≡ out
    → Heeds (shown seat s out) (shown seat t after) moment (asks (steer req count (started_by sub ask.started) ask) s.types) (Ok tt)
no_change seat moment s t out after req sub count ask legal state same = record {
  marks = [];
  sent = [];
  answers = record { marks_are = refl; sent_is = refl };
  sayable = tt;
  adds = adds_nothing seat legal;
  moments = tt;
  state = state;
  output = same ∙ sym (append-nil out);
}

-- What is heard of a monitor that is there.
module _ (types : Types) (req sub : ℕ) (count : Option ℕ) (ask : Asked) where
  abbrev goes_on : Hearing
  goes_on = asks (steer req count (started_by sub ask.started) ask) types

  pub too_much : is_over (acknowledged count ask.window) ≡ true → steering types req sub count ask ≡ over_range
  too_much is = ap (λ (b : Bool). cond b over_range (cond (ends_ sub) (asks (destroy_request req) types) goes_on)) is

  pub within_range : (ending : Bool) → is_over (acknowledged count ask.window) ≡ false → ends_ sub ≡ ending → steering types req sub count ask ≡ cond ending (asks (destroy_request req) types) goes_on
  within_range ending is ends_is =
      ap (λ (b : Bool). cond b over_range (cond (ends_ sub) (asks (destroy_request req) types) goes_on)) is
      ∙ ap (λ (b : Bool). cond b (asks (destroy_request req) types) goes_on) ends_is

-- a request for values is no call
pub part_call : (kind : AskKind) (sub : ℕ) → HasPart kind sub → is_call kind ≡ false
part_call kinds.Get sub part = refl
part_call kinds.Put sub part = refl
part_call kinds.PutGet sub part = refl
part_call kinds.Rpc sub part = absurd part
part_call kinds.Monitor sub part = absurd part

-- A session whose state is this.
pub heeds_old : (seat : Seat) (s m : State) (out mid : List ℕ) (new : Shown) (moment : Moment) (h : Hearing) (result : Result (Unit {0}) SessionStop) → m ≡ s → mid ≡ out → Heeds (shown seat m mid) new moment h result
    → Heeds (shown seat s out) new moment h result
heeds_old seat s m out mid new moment h result same still t =
    subst (λ (z : State). Heeds (shown seat z out) new moment h result) same (subst (λ (o : List ℕ). Heeds (shown seat m o) new moment h result) still t)

-- this is written, or nothing
pub writes_by : (old new : Session) (x : Sent) (result : Result (Unit {0}) NoMemory) → OnOk result (HasSaid old new x) → OnErr result (output_of new ≡ output_of old) → Writes old new x result
writes_by old new x (Ok u) ok err = ok
writes_by old new x (Err e) ok err = err

-- why no monitor begins, before its window is looked at
module _ (old new : Session) (seat : Seat) (legal : IsLegal seat.seen) (moment : Moment) (req sub sid : ℕ) (count : Option ℕ) where
  abbrev types_ : Types
  types_ = (state_of old).types

  heard_refusal : (text : List ℕ) (task : Task) (told : Result (Unit {0}) NoMemory) (result : Result (Unit {0}) SessionStop) → result ≡ stopping told → task ≡ refuse (refused kinds.Monitor req sub text)
      → AnswersAlone old new (refuse (refused kinds.Monitor req sub text)) told → Heeds (show seat old) (show seat new) moment (windowed types_ count task) result
  heard_refusal text task told result is task_is answers =
      heeds_so (show seat old) (show seat new) moment (windowed types_ count task) (asks (refuse (refused kinds.Monitor req sub text)) types_) result (ap (windowed types_ count) task_is)
      (heeds_as (show seat old) (show seat new) moment (refuse (refused kinds.Monitor req sub text)) told result is (answers seat legal moment))

  heard_nothing : (h : Hearing) (result : Result (Unit {0}) SessionStop) → result ≡ Err stops.NoMemory → IsAsBefore old new → Heeds (show seat old) (show seat new) moment h result
  heard_nothing h result is same =
      subst (Heeds (show seat old) (show seat new) moment h) (sym is)
      (not_heard seat (state_of old) (state_of new) (output_of old) (output_of new) moment h stops.NoMemory (Err stops.NoMemory) refl tt legal same.output same.subscribed)

  -- there is no place for its request
  pub place_heard : (site : SiteData) (s : State) (v : Valued) (o : Option Channel) (channel : Channel) → o ≡ Some channel → (answer : TableAnswer) (t : Tables Channel Sub) (told : Result (Unit {0}) NoMemory)
      (result : Result (Unit {0}) SessionStop) → result ≡ stopping told → s.requests ≡ t.asks → Refuses t req answer → RefusesPlace old new kinds.Monitor req sub answer told
      → Heeds (show seat old) (show seat new) moment (windowed types_ count (beginning site s kinds.Monitor req sub sid v o)) result
  place_heard site s v o channel open_ places.InUse t told result is same some f =
      heard_refusal (codes "request id in use") (beginning site s kinds.Monitor req sub sid v o) told result is
      (id_in_use site s kinds.Monitor req sub sid v o channel open_ (subst (λ (r : Requests). IsSome (at r req)) (sym same) some)) f
  place_heard site s v o channel open_ (places.Full most) t told result is same full f =
      heard_refusal (codes "too many requests") (beginning site s kinds.Monitor req sub sid v o) told result is
      (are_too_many site s kinds.Monitor req sub sid v o channel open_ (ap (λ (r : Requests). at r req) same ∙ full.0) (ap (λ (r : Requests). len r) same ∙ full.1.full)) f
  place_heard site s v o channel open_ places.NoMemory t (Ok u) result is same short f = absurd f
  place_heard site s v o channel open_ places.NoMemory t (Err e) result is same short f =
      heard_nothing (windowed types_ count (beginning site s kinds.Monitor req sub sid v o)) result is f

  -- its request structure is at fault
  pub fault_heard : (channel : Channel) (fault : RequestFault) (wanted : Result Wanted RequestFault) (told : Result (Unit {0}) NoMemory) (result : Result (Unit {0}) SessionStop) → result ≡ stopping told
      → Gives (Err fault) wanted → RefusesFault old new kinds.Monitor req sub fault told → Heeds (show seat old) (show seat new) moment (windowed types_ count (beginning_as kinds.Monitor req sub sid channel wanted)) result
  fault_heard channel faults.NothingSelected wanted told result is gives f =
      heard_refusal (fault_text faults.NothingSelected) (beginning_as kinds.Monitor req sub sid channel wanted) told result is (ap (beginning_as kinds.Monitor req sub sid channel) gives) f
  fault_heard channel (faults.BadOption name) wanted told result is gives f =
      heard_refusal (fault_text (faults.BadOption name)) (beginning_as kinds.Monitor req sub sid channel wanted) told result is (ap (beginning_as kinds.Monitor req sub sid channel) gives) f
  fault_heard channel faults.NoMemory wanted (Ok u) result is gives f = absurd f
  fault_heard channel faults.NoMemory wanted (Err e) result is gives f = heard_nothing (windowed types_ count (beginning_as kinds.Monitor req sub sid channel wanted)) result is f
