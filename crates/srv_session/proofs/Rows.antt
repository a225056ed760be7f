-- Rows and their parts.
use Rattle.std.proofs.Common.{◌≡◌, ℕ, pos, Bool, true, false, inl, Option, List, [], ◌∷◌, ◌++◌, take, length, Some, Result, Ok, Err, refl, sym, ◌∙◌, ap, subst}
use Rattle.std.specs.Prelude.{OnOk, OnErr, IsErr}
use Rattle.std.proofs.lemmas.Bool.{false≢true}
use Rattle.std.proofs.lemmas.List.{append-nil}
use Rattle.pvd_value.specs.Data.{Data}
use Rattle.pvd_value.specs.declared.value.PvValue.{PvValue}
use Rattle.pva_frames.specs.declared.event.Event.{Event}
use Rattle.pvd_codec.specs.Written.{CanEach}
use Rattle.pvd_type.specs.declared.memory.NoMemory.{NoMemory}
use Rattle.journal_core.specs.Moments.{Moment}
use Rattle.rec_kinds.specs.declared.datum.Action.{Action}
use Rattle.desk_api.proofs.Adding.{adds_nothing, moments_append}
use Rattle.desk_api.specs.Calls.{Asked, AreLooks, AreAdded, IsGet, IsPartOfGet, ArePut, ArePutGet, ArePutGetBy, IsSnapshot, IsPartOfSnapshot, HaveMoment, looks_of}
use Rattle.desk_api.specs.Sites.{is_atomic, channel_of}
use Rattle.desk_api.specs.declared.channel.ChannelKind.TheVariants.{Service}
use Rattle.desk_api.specs.declared.rows.RecRow.{RecRow}
use Rattle.desk_api.specs.History.{IsLegal}
use Rattle.desk_api.specs.declared.channel.Channel.{Channel}
use Rattle.desk_api.specs.declared.history.SiteData.{SiteData}
use Rattle.desk_api.specs.declared.mark.Mark.{Mark}
use Rattle.desk_api.specs.declared.mark.Seat.{Seat}
use Rattle.desk_api.specs.declared.put.Done.{Done}
use Rattle.desk_api.specs.declared.put.PutAnswer.{PutAnswer}
use Rattle.desk_api.specs.declared.put.PutAnswer.TheVariants as answers
use Rattle.desk_api.specs.declared.sub.SubAnswer.TheVariants as sub_answers
use Rattle.srv_session.specs.State.{State, slots_of}
use Rattle.srv_session.specs.Tasks.{Task, pass_over, echo_control, refuse, tell, validate, echo, create, destroy_channel, begin, get, put, put_get, respond, snapshot, subscribe, steer, destroy_request, Hearing, asks, unreadable, over_range, heard}
use Rattle.srv_session.specs.Replies.{Sent, IsSayable, spelled, spelled_all}
use Rattle.srv_session.specs.Rows.{Says, Row, Part, after_task, left_by}
use Rattle.srv_session.specs.Steps.{knowing, PartOf, NextPart, left_by_hearing}
use Rattle.srv_session.specs.Calls.{Shown, Answered, Takes}

-- No mark is a part of every row.

no_put_get : (whole : Bool) (a : Asked) → ArePutGetBy whole a (Err (answers.NoMemory 0)) []
no_put_get true a = record { marks_are = refl; done_is = refl }
no_put_get false a = record { puts = []; gets = []; marks_are = refl; put = record { added = tt; done_is = refl }; got = record { looks = tt }; behind = inl refl }

pub no_part : (site : SiteData) (s : State) (task : Task) → Part site s task []
no_part site s pass_over = refl
no_part site s (echo_control number) = refl
no_part site s (refuse r) = refl
no_part site s (tell r) = refl
no_part site s (respond req sub r) = refl
no_part site s (snapshot req sub) = record { looks = tt }
no_part site s (put_get req sub ask channel mask value) =
    (record { seconds = pos 0; nanoseconds = 0 }, Err (answers.NoMemory 0), no_put_get (is_atomic site channel ask.atomic) _)
no_part site s (validate buffer registry user host) = refl
no_part site s (echo payload) = refl
no_part site s (create names) = refl
no_part site s (destroy_channel sid cid) = tt
no_part site s (subscribe req sub sid channel wanted count) = (Err sub_answers.NoMemory, refl)
no_part site s (steer req count started ask) = refl
no_part site s (begin kind req sub sid channel wanted) = refl
no_part site s (get kind req sub ask channel) = record { looks = tt }
no_part site s (put req sub ask channel mask value) =
    (record { seconds = pos 0; nanoseconds = 0 }, Err (answers.NoMemory 0), record { added = tt; done_is = refl })
no_part site s (destroy_request req) = refl

pub no_part_of : (site : SiteData) (s : State) (hearing : Hearing) → PartOf site s hearing []
no_part_of site s (asks task types) = no_part site (knowing s types) task
no_part_of site s (unreadable fault) = refl
no_part_of site s over_range = refl

pub no_next_part : (site : SiteData) (s : State) (events : List Event) → NextPart site s events []
no_next_part site s [] = inl refl
no_next_part site s (e ∷ more) = inl (no_part_of site s (heard site s e))

-- where no mark was made the subscriptions are as before

pub none_left : (site : SiteData) (s : State) (task : Task) → slots_of (left_by site s task []).requests ≡ slots_of s.requests
none_left site s pass_over = refl
none_left site s (echo_control number) = refl
none_left site s (refuse r) = refl
none_left site s (tell r) = refl
none_left site s (validate buffer registry user host) = refl
none_left site s (echo payload) = refl
none_left site s (create names) = refl
none_left site s (destroy_channel sid cid) = refl
none_left site s (begin kind req sub sid channel wanted) = refl
none_left site s (get kind req sub ask channel) = refl
none_left site s (put req sub ask channel mask value) = refl
none_left site s (put_get req sub ask channel mask value) = refl
none_left site s (respond req sub r) = refl
none_left site s (snapshot req sub) = refl
none_left site s (subscribe req sub sid channel wanted count) = refl
none_left site s (steer req count started ask) = refl
none_left site s (destroy_request req) = refl

pub none_left_by : (site : SiteData) (s : State) (hearing : Hearing) → slots_of (left_by_hearing site s hearing []).requests ≡ slots_of s.requests
none_left_by site s (asks task types) = none_left site (knowing s types) task
none_left_by site s (unreadable fault) = refl
none_left_by site s over_range = refl

-- The moments of entries: a get makes none, and those of a put have the moment that was asked for.

looks_moments : (moment : Moment) (channel : Channel) (looks : List (List ℕ)) (marks : List Mark) → AreLooks channel looks marks → HaveMoment (Some moment) marks
looks_moments moment channel looks [] p = tt
looks_moments moment channel [] (mark ∷ marks) p = absurd p
looks_moments moment channel (recs ∷ looks) (mark ∷ marks) p =
    subst (λ (m : Mark). HaveMoment (Some moment) (m ∷ marks)) (sym p.0.1.1) (tt, looks_moments moment channel looks marks p.1)

pub part_moments : (moment : Moment) (site : SiteData) (channel : Channel) (atomic : Option Bool) (marks : List Mark) → IsPartOfGet site channel atomic marks → HaveMoment (Some moment) marks
part_moments moment site channel atomic marks p = looks_moments moment channel _ marks p.looks

added_moments : (a : Asked) (entries : List (List (ℕ × Action))) (marks : List Mark) → AreAdded a entries marks → HaveMoment (Some a.moment) marks
added_moments a entries [] p = tt
added_moments a [] (mark ∷ marks) p = absurd p
added_moments a (actions ∷ entries) (mark ∷ marks) p =
    subst (λ (m : Mark). HaveMoment (Some a.moment) (m ∷ marks)) (sym p.0.mark_is) (p.0.moment_is, added_moments a entries marks p.1)

pub put_moments : (a : Asked) (answer : Result Done PutAnswer) (marks : List Mark) → ArePut a answer marks → HaveMoment (Some a.moment) marks
put_moments a (Ok done) marks p = added_moments a p.entries marks p.added
put_moments a (Err (answers.Refused refusal)) marks p = subst (HaveMoment (Some a.moment)) (sym p.marks_are) tt
put_moments a (Err (answers.JournalFull kept weight limit done)) marks p =
    subst (HaveMoment (Some a.moment)) (sym p.marks_are)
    (moments_append (Some a.moment) p.before _ (added_moments a (take done p.entries) p.before p.added) (tt, tt))
put_moments a (Err (answers.NoMemory done)) marks p = added_moments a _ marks p.added

pub snapshot_moments : (moment : Moment) (site : SiteData) (marks : List Mark) → IsPartOfSnapshot site marks → HaveMoment (Some moment) marks
snapshot_moments moment site marks p = looks_moments moment (channel_of Service 0) _ marks p.looks

put_get_by : (whole : Bool) (a : Asked) (answer : Result (Done × PvValue) PutAnswer) (marks : List Mark) → ArePutGetBy whole a answer marks → HaveMoment (Some a.moment) marks
put_get_by true a (Ok (done, value)) marks p = subst (HaveMoment (Some a.moment)) (sym p.marks_are) (p.moment_is, tt)
put_get_by false a (Ok (done, value)) marks p =
    subst (HaveMoment (Some a.moment)) (sym p.marks_are)
    (moments_append (Some a.moment) p.puts p.gets (put_moments a (Ok done) p.puts p.put)
    (looks_moments a.moment a.channel (looks_of a.site a.channel a.atomic) p.gets p.got.looks))
put_get_by true a (Err (answers.Refused refusal)) marks p = put_moments a (Err (answers.Refused refusal)) marks p
put_get_by false a (Err (answers.Refused refusal)) marks p = put_moments a (Err (answers.Refused refusal)) marks p
put_get_by true a (Err (answers.JournalFull kept weight limit done)) marks p = subst (HaveMoment (Some a.moment)) (sym p.marks_are) (tt, tt)
put_get_by false a (Err (answers.JournalFull kept weight limit done)) marks p = put_moments a (Err (answers.JournalFull kept weight limit done)) marks p
put_get_by true a (Err (answers.NoMemory done)) marks p = subst (HaveMoment (Some a.moment)) (sym p.marks_are) tt
put_get_by false a (Err (answers.NoMemory done)) marks p =
    subst (HaveMoment (Some a.moment)) (sym p.marks_are)
    (moments_append (Some a.moment) p.puts p.gets (put_moments a (Err (answers.NoMemory done)) p.puts p.put)
    (part_moments a.moment a.site a.channel a.atomic p.gets p.got))

pub put_get_moments : (a : Asked) (answer : Result (Done × PvValue) PutAnswer) (marks : List Mark) → ArePutGet a answer marks → HaveMoment (Some a.moment) marks
put_get_moments a answer marks p = put_get_by (is_atomic a.site a.channel a.atomic) a answer marks p

-- all looks of a get are a part of them

looks_count : (channel : Channel) (looks : List (List ℕ)) (marks : List Mark) → AreLooks channel looks marks → AreLooks channel (take (length marks) looks) marks
looks_count channel [] [] p = tt
looks_count channel [] (mark ∷ marks) p = absurd p
looks_count channel (recs ∷ looks) [] p = absurd p
looks_count channel (recs ∷ looks) (mark ∷ marks) p = (p.0, looks_count channel looks marks p.1)

pub whole_is_part : (site : SiteData) (channel : Channel) (atomic : Option Bool) (value : Data) (marks : List Mark) → IsGet site channel atomic value marks → IsPartOfGet site channel atomic marks
whole_is_part site channel atomic value marks p = record { looks = looks_count channel (looks_of site channel atomic) marks p.looks }

pub snapshot_is_part : (site : SiteData) (rows : List RecRow) (marks : List Mark) → IsSnapshot site rows marks → IsPartOfSnapshot site marks
snapshot_is_part site rows marks p =
    subst (IsPartOfSnapshot site) (sym p.marks_are) (record { looks = ((p.at, (p.found, refl)), tt) })

-- A row that makes no mark was answered, or memory ran out for its reply.

pub says_this : (these : List Sent) → Says these [] these
says_this these = record { marks_are = refl; sent_is = refl }

pub on_ok : {A : Type 0} (result : Result (Unit {0}) NoMemory) → A → OnOk result A
on_ok (Ok u) a = a
on_ok (Err e) a = tt

-- A session with this state and this output beside a desk's seat.
abbrev pub shown : Seat → State → List ℕ → Shown
shown seat s out = record { seat = seat; state = s; output = out }

module _ (seat : Seat) (moment : Moment) (s t : State) (before after : List ℕ) (task : Task) (result : Result (Unit {0}) NoMemory) (legal : IsLegal seat.seen) where
  -- these were sent
  pub said_all : (sent : List Sent) → Row seat.seen.base.site s task [] sent → OnOk result (t ≡ after_task seat.seen.base.site s task [])
      → OnOk result ((after ≡ before ++ spelled_all s.order s.segment sent) × CanEach IsSayable sent) → OnErr result (after ≡ before)
      → OnErr result (slots_of t.requests ≡ slots_of s.requests)
      → Takes (shown seat s before) (shown seat t after) moment task result
  said_all sent row state ok err stay = by_result result state ok err stay
    where
      by_result : (r : Result (Unit {0}) NoMemory) → OnOk r (t ≡ after_task seat.seen.base.site s task [])
          → OnOk r ((after ≡ before ++ spelled_all s.order s.segment sent) × CanEach IsSayable sent) → OnErr r (after ≡ before)
          → OnErr r (slots_of t.requests ≡ slots_of s.requests)
          → Takes (shown seat s before) (shown seat t after) moment task r
      by_result (Ok u) state ok err stay = record {
        marks = [];
        sent = sent;
        row = row;
        sayable = ok.1;
        adds = adds_nothing seat legal;
        moments = tt;
        state = state;
        output = ok.0;
      }
      by_result (Err e) state ok err stay = record {
        marks = [];
        part_is = no_part seat.seen.base.site s task;
        adds = adds_nothing seat legal;
        moments = tt;
        subscribed = stay ∙ sym (none_left seat.seen.base.site s task);
        output = err;
      }

  -- memory ran out before anything was asked of the desk, and nothing was written
  pub gave_up : IsErr result → after ≡ before → slots_of t.requests ≡ slots_of s.requests → Takes (shown seat s before) (shown seat t after) moment task result
  gave_up is_err same stay = by_result result is_err
    where
      by_result : (r : Result (Unit {0}) NoMemory) → IsErr r → Takes (shown seat s before) (shown seat t after) moment task r
      by_result (Ok u) is = absurd (false≢true is)
      by_result (Err e) is = record {
        marks = [];
        part_is = no_part seat.seen.base.site s task;
        adds = adds_nothing seat legal;
        moments = tt;
        subscribed = stay ∙ sym (none_left seat.seen.base.site s task);
        output = same;
      }

-- one thing that was sent

one_sent : (s : State) (x : Sent) (before after : List ℕ) (result : Result (Unit {0}) NoMemory) → OnOk result ((after ≡ before ++ spelled s.order s.segment x) × IsSayable x)
    → OnOk result ((after ≡ before ++ spelled_all s.order s.segment (x ∷ [])) × CanEach IsSayable (x ∷ []))
one_sent s x before after (Ok u) ok = (ok.0 ∙ ap (λ (z : List ℕ). before ++ z) (sym (append-nil (spelled s.order s.segment x))), (ok.1, tt))
one_sent s x before after (Err e) ok = tt

pub said_one : (seat : Seat) (moment : Moment) (s t : State) (before after : List ℕ) (task : Task) (result : Result (Unit {0}) NoMemory) (x : Sent) → IsLegal seat.seen
    → Row seat.seen.base.site s task [] (x ∷ []) → OnOk result (t ≡ after_task seat.seen.base.site s task [])
    → OnOk result ((after ≡ before ++ spelled s.order s.segment x) × IsSayable x) → OnErr result (after ≡ before)
    → OnErr result (slots_of t.requests ≡ slots_of s.requests)
    → Takes (shown seat s before) (shown seat t after) moment task result
said_one seat moment s t before after task result x legal row state ok err stay =
    said_all seat moment s t before after task result legal (x ∷ []) row state (one_sent s x before after result ok) err stay

-- nothing was sent
pub nothing_said : (seat : Seat) (moment : Moment) (s t : State) (before after : List ℕ) (task : Task) → IsLegal seat.seen → Row seat.seen.base.site s task [] []
    → t ≡ after_task seat.seen.base.site s task [] → after ≡ before → Takes (shown seat s before) (shown seat t after) moment task (Ok tt)
nothing_said seat moment s t before after task legal row state same =
    said_all seat moment s t before after task (Ok tt) legal [] row state (same ∙ sym (append-nil before), tt) tt tt

-- the task under another name
pub as_task : (old new : Shown) (moment : Moment) (task other : Task) (result : Result (Unit {0}) NoMemory) → other ≡ task → Takes old new moment task result → Takes old new moment other result
as_task old new moment task other result is t = subst (λ (x : Task). Takes old new moment x result) (sym is) t

-- the session under another name
pub as_old : (seat : Seat) (s m : State) (out mid : List ℕ) (new : Shown) (moment : Moment) (task : Task) (result : Result (Unit {0}) NoMemory) → m ≡ s → mid ≡ out
    → Takes (shown seat m mid) new moment task result → Takes (shown seat s out) new moment task result
as_old seat s m out mid new moment task result same still t =
    subst (λ (z : State). Takes (shown seat z out) new moment task result) same (subst (λ (o : List ℕ). Takes (shown seat m o) new moment task result) still t)

pub as_answered : {old new : Shown} {moment : Moment} {task other : Task} → other ≡ task → Answered old new moment task → Answered old new moment other
as_answered {old} {new} {moment} is t = subst (λ (x : Task). Answered old new moment x) (sym is) t
