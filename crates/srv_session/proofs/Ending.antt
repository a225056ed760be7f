-- Requests, channels and sessions that end, with their subscriptions.
use Rattle.std.proofs.Common.{◌≡◌, ℕ, ◌<◌, Bool, true, false, cond, List, [], ◌∷◌, ◌++◌, Option, None, Some, Result, Ok, Err, refl, sym, ◌∙◌, ap, subst, arith, append_assoc}
use Rattle.std.specs.Prelude.{IsSome, OnOk, OnErr, is_some}
use Rattle.std.proofs.lemmas.Bool.{false≢true}
use Rattle.std.specs.FinMap.{get as at, remove}
use Rattle.std.proofs.lemmas.Option.{none-some}
use Rattle.std.proofs.lemmas.List.{append-nil}
use Rattle.pvd_type.specs.declared.memory.NoMemory.{NoMemory}
use Rattle.pvd_desc.specs.Types.{Types}
use Rattle.journal_core.specs.Moments.{Moment}
use Rattle.pva_messages.specs.Replies as reply
use Rattle.chan_table.specs.Numbers.{IsNext}
use Rattle.chan_table.specs.Tables.{sid_at, IsLeastOn}
use Rattle.desk_api.proofs.Adding.{adds_nothing, adds_more}
use Rattle.desk_api.specs.Calls.{Adds, Calls, HaveMoment, IsEnding}
use Rattle.desk_api.specs.History.{IsLegal}
use Rattle.desk_api.specs.Living.{Living}
use Rattle.desk_api.specs.declared.channel.Channel.{Channel}
use Rattle.desk_api.specs.declared.history.SiteData.{SiteData}
use Rattle.desk_api.specs.declared.mark.Mark.{Mark}
use Rattle.desk_api.specs.declared.mark.Mark.TheVariants.{Dropped}
use Rattle.desk_api.specs.declared.mark.Seat.{Seat}
use Rattle.desk_api.specs.declared.sub.Sub.{Sub}
use Rattle.srv_session.specs.State.{State, Requests, Asked, is_on, on_only, without_channel, slot_of_sub, slot_of, slots_of}
use Rattle.srv_session.specs.Calls.{AreLiving, Holds, Shown, Heeds, Replied, Finished}
use Rattle.srv_session.specs.Replies.{Sent, IsSayable, said, spelled, spelled_all}
use Rattle.srv_session.specs.Rows.{AreEndingsOf, EndingsPart, left_by}
use Rattle.srv_session.specs.Tasks.{asks, destroy_channel, destroy_request}
use Rattle.srv_session.specs.Views.{stopping}
use Rattle.srv_session.specs.declared.stop.SessionStop.{SessionStop}
use Rattle.srv_session.specs.declared.stop.SessionStop.TheVariants as stops
use Rattle.srv_session.proofs.Kept.{are_living, living_left, stays_on}
use Rattle.srv_session.proofs.Rows.{shown}
use Rattle.srv_session.proofs.Rising.{others_slots}
use Rattle.srv_session.proofs.Slots.{slots_first, slots_first_on, none_only}
use Rattle.srv_session.proofs.Tables.{sid_is_on, sid_not_on, taken_first, none_on}

-- Endings, and then more.

pub endings_append : (xs ys : List ℕ) (ms ns : List Mark) → AreEndingsOf xs ms → AreEndingsOf ys ns → AreEndingsOf (xs ++ ys) (ms ++ ns)
endings_append [] ys [] ns a b = b
endings_append [] ys (m ∷ ms) ns a b = absurd a
endings_append (x ∷ xs) ys [] ns a b = absurd a
endings_append (x ∷ xs) ys (m ∷ ms) ns a b = (a.0, endings_append xs ys ms ns a.1 b)

pub endings_moments : (moment : Moment) (slots : List ℕ) (marks : List Mark) → AreEndingsOf slots marks → HaveMoment (Some moment) marks
endings_moments moment [] [] ends = tt
endings_moments moment [] (mark ∷ marks) ends = absurd ends
endings_moments moment (slot ∷ slots) [] ends = absurd ends
endings_moments moment (slot ∷ slots) (mark ∷ marks) ends =
    subst (λ (m : Mark). HaveMoment (Some moment) (m ∷ marks)) (sym (head_is ends.0.marks_are)) (tt, endings_moments moment slots marks ends.1)
  where
    head_or : Mark → List Mark → Mark
    head_or m [] = m
    head_or m (x ∷ xs) = x

    head_is : {x y : Mark} → x ∷ [] ≡ y ∷ [] → x ≡ y
    head_is {x} {y} e = ap (head_or x) e

pub ends_none : (seat : Seat) → IsLegal seat.seen → Calls seat seat (AreEndingsOf [])
ends_none seat legal = record { marks = []; adds = adds_nothing seat legal; named = tt }

pub ends_one : (here there : Seat) (slot : ℕ) → Calls here there (IsEnding slot) → Calls here there (AreEndingsOf (slot ∷ []))
ends_one here there slot c = record { marks = c.marks; adds = c.adds; named = one c.marks c.named }
  where
    one : (marks : List Mark) → IsEnding slot marks → AreEndingsOf (slot ∷ []) marks
    one marks e = subst (AreEndingsOf (slot ∷ [])) (sym e.marks_are) (record { at = e.at; index = e.index; marks_are = refl }, tt)

pub ends_more : (here mid there : Seat) (xs ys : List ℕ) → Calls here mid (AreEndingsOf xs) → Calls mid there (AreEndingsOf ys) → Calls here there (AreEndingsOf (xs ++ ys))
ends_more here mid there xs ys a b = record {
  marks = a.marks ++ b.marks;
  adds = adds_more a.adds b.adds;
  named = endings_append xs ys a.marks b.marks a.named b.named;
}

-- the slots that are left live behind the ending of the first
pub ends_leave : (here there : Seat) (o : Option Sub) (left : List ℕ) → Calls here there (AreEndingsOf (slot_of_sub o)) → AreLiving here.log (slot_of_sub o ++ left) → AreLiving there.log left
ends_leave here there o left c l = subst (λ (log : List Mark). AreLiving log left) (sym c.adds.log) (by_sub o c.marks c.named l)
  where
    by_sub : (o : Option Sub) (marks : List Mark) → AreEndingsOf (slot_of_sub o) marks → AreLiving here.log (slot_of_sub o ++ left) → AreLiving (here.log ++ marks) left
    by_sub None [] ends l = subst (λ (log : List Mark). AreLiving log left) (sym (append-nil here.log)) l
    by_sub None (mark ∷ marks) ends l = absurd ends
    by_sub (Some sub) [] ends l = absurd ends
    by_sub (Some sub) (mark ∷ []) ends l = living_left here.log sub.slot left mark l ends.0
    by_sub (Some sub) (mark ∷ other ∷ marks) ends l = absurd ends.1

-- the first slot alone lives
pub first_lives : (log : List Mark) (o : Option Sub) (rest : List ℕ) → AreLiving log (slot_of_sub o ++ rest) → AreLiving log (slot_of_sub o)
first_lives log None rest l = tt
first_lives log (Some sub) rest l = ((l.0.0, refl), tt)

-- Requests that end one after another, by their rising ids: these slots are left.
pub record Ends (here : Seat) (all : List ℕ) (now : Seat) (left : List ℕ) : Type 0 where
  pub done : List ℕ
  pub calls : Calls here now (AreEndingsOf done)
  pub rest : done ++ left ≡ all
  pub living_ : AreLiving now.log left

pub ends_first : (here : Seat) (all : List ℕ) → IsLegal here.seen → AreLiving here.log all → Ends here all here all
ends_first here all legal l = record { done = []; calls = ends_none here legal; rest = refl; living_ = l }

pub ends_next : (here now there : Seat) (all left : List ℕ) (o : Option Sub) (later : List ℕ) → left ≡ slot_of_sub o ++ later → Ends here all now left → Calls now there (AreEndingsOf (slot_of_sub o))
    → Ends here all there later
ends_next here now there all left o later is e c = record {
  done = e.done ++ slot_of_sub o;
  calls = ends_more here now there e.done (slot_of_sub o) e.calls c;
  rest = append_assoc e.done (slot_of_sub o) later ∙ ap (λ (l : List ℕ). e.done ++ l) (sym is) ∙ e.rest;
  living_ = ends_leave now there o later c (subst (AreLiving now.log) is e.living_);
}

pub ends_all : (here now : Seat) (all left : List ℕ) → left ≡ [] → Ends here all now left → Calls here now (AreEndingsOf all)
ends_all here now all left none e =
    subst (λ (l : List ℕ). Calls here now (AreEndingsOf l)) (sym (append-nil e.done) ∙ ap (λ (l : List ℕ). e.done ++ l) (sym none) ∙ e.rest) e.calls

-- A request ended.
pub request_ended : (here there : Seat) (moment : Moment) (s t : State) (out after : List ℕ) (req : ℕ) → Calls here there (AreEndingsOf (slot_of (at s.requests req)))
    → t ≡ record s { requests = remove s.requests req } → after ≡ out → Heeds (shown here s out) (shown there t after) moment (asks (destroy_request req) s.types) (Ok tt)
request_ended here there moment s t out after req c state same = record {
  marks = c.marks;
  sent = [];
  answers = record { endings = c.named; sent_is = refl };
  sayable = tt;
  adds = c.adds;
  moments = endings_moments moment (slot_of (at s.requests req)) c.marks c.named;
  state = state;
  output = same ∙ sym (append-nil out);
}

-- A channel ended; its reply was written, or memory ran out for it.
module _ (here there : Seat) (moment : Moment) (s t : State) (out after : List ℕ) (sid cid : ℕ) (c : Calls here there (AreEndingsOf (slots_of (on_only sid s.requests)))) (requests_are : t.requests ≡ without_channel sid s.requests) where
  pub channel_told : t ≡ record s { channels = remove s.channels sid; requests = without_channel sid s.requests }
      → (after ≡ out ++ spelled s.order s.segment (said (reply.channel_destroyed sid cid))) × IsSayable (said (reply.channel_destroyed sid cid))
      → Heeds (shown here s out) (shown there t after) moment (asks (destroy_channel sid cid) s.types) (Ok tt)
  channel_told state ok = record {
    marks = c.marks;
    sent = said (reply.channel_destroyed sid cid) ∷ [];
    answers = record { endings = c.named; sent_is = refl };
    sayable = (ok.1, tt);
    adds = c.adds;
    moments = endings_moments moment (slots_of (on_only sid s.requests)) c.marks c.named;
    state = state;
    output = ok.0 ∙ ap (λ (l : List ℕ). out ++ l) (sym (append-nil (spelled s.order s.segment (said (reply.channel_destroyed sid cid)))));
  }

  pub channel_untold : after ≡ out → Heeds (shown here s out) (shown there t after) moment (asks (destroy_channel sid cid) s.types) (Err stops.NoMemory)
  channel_untold same = record {
    marks = c.marks;
    part_is = part c.marks c.named;
    adds = c.adds;
    moments = endings_moments moment (slots_of (on_only sid s.requests)) c.marks c.named;
    subscribed = left (slots_of (on_only sid s.requests)) refl c.marks c.named;
    output = same;
  }
    where
      part : (marks : List Mark) → AreEndingsOf (slots_of (on_only sid s.requests)) marks → EndingsPart (slots_of (on_only sid s.requests)) marks
      part [] ends = tt
      part (mark ∷ marks) ends = ends

      left : (slots : List ℕ) → slots_of (on_only sid s.requests) ≡ slots → (marks : List Mark) → AreEndingsOf slots marks
          → slots_of t.requests ≡ slots_of (left_by here.seen.base.site s (destroy_channel sid cid) marks).requests
      left [] none [] ends = ap slots_of requests_are ∙ others_slots sid s.requests none
      left (slot ∷ slots) is [] ends = absurd ends
      left slots is (mark ∷ marks) ends = ap slots_of requests_are

-- The session ended.
pub all_ended : (here there : Seat) (s : State) (out : List ℕ) → Calls here there (AreEndingsOf (slots_of s.requests)) → Finished (shown here s out) there
all_ended here there s out c = record { marks = c.marks; endings = c.named; adds = c.adds }

-- What a session holds lives.

pub request_lives : (log : List Mark) (s : State) (req : ℕ) → Holds log s → AreLiving log (slot_of (at s.requests req))
request_lives log s req holds = by_place (at s.requests req) refl
  where
    by_place : (o : Option Asked) → at s.requests req ≡ o → AreLiving log (slot_of o)
    by_place None here = tt
    by_place (Some ask) here = by_sub ask.sub refl
      where
        by_sub : (x : Option Sub) → ask.sub ≡ x → AreLiving log (slot_of_sub x)
        by_sub None is = tt
        by_sub (Some sub) is = ((ap (λ (o : Option Living). is_some o) (holds.held req ask sub here is).there, refl), tt)

pub channel_lives : (log : List Mark) (s : State) (sid : ℕ) → Holds log s → AreLiving log (slots_of (on_only sid s.requests))
channel_lives log s sid holds = are_living log some (record {
  held = λ req ask sub is has. holds.held req ask sub (stays_on sid s.requests req ask is).0 has;
  apart = λ a b one other x y p q. holds.apart a b one other x y (stays_on sid s.requests a one p).0 (stays_on sid s.requests b other q).0;
})
  where
    some : State
    some = record s { requests = on_only sid s.requests }

-- The requests on a channel end one after another: behind some of them.
pub record Closing (here : Seat) (s : State) (out : List ℕ) (sid : ℕ) (now : Seat) (t : State) (after : List ℕ) : Type 0 where
  pub ends : Ends here (slots_of (on_only sid s.requests)) now (slots_of (on_only sid t.requests))
  pub others : without_channel sid t.requests ≡ without_channel sid s.requests
  pub state : t ≡ record s { requests = t.requests }
  pub output : after ≡ out
  pub base : now.seen.base ≡ here.seen.base

pub closing_first : (here : Seat) (s : State) (out : List ℕ) (sid : ℕ) → IsLegal here.seen → AreLiving here.log (slots_of (on_only sid s.requests)) → Closing here s out sid here s out
closing_first here s out sid legal l = record {
  ends = ends_first here (slots_of (on_only sid s.requests)) legal l;
  others = refl;
  state = refl;
  output = refl;
  base = refl;
}

-- the first of those that are left
module _ (m : Requests) (sid id : ℕ) (ask : Asked) (here : at m id ≡ Some ask) (least : IsLeastOn (sid_at m) sid id) where
  pub first_on : slots_of (on_only sid m) ≡ slot_of_sub ask.sub ++ slots_of (on_only sid (remove m id))
  first_on = slots_first_on sid m id ask here (sid_is_on m sid id least.on) (λ q lt. sid_not_on m sid q (least.least q lt))

  pub closing_next : (first : Seat) (s : State) (out : List ℕ) (now there : Seat) (t u : State) (mid after : List ℕ) → t.requests ≡ m → Closing first s out sid now t mid
      → Calls now there (AreEndingsOf (slot_of_sub ask.sub)) → there.seen.base ≡ now.seen.base → u ≡ record t { requests = remove m id } → after ≡ mid → Closing first s out sid there u after
  closing_next first s out now there t u mid after m_is c calls base u_is same = record {
    ends =
        subst (λ (r : Requests). Ends first (slots_of (on_only sid s.requests)) there (slots_of (on_only sid r))) (sym (ap (λ (z : State). z.requests) u_is))
        (ends_next first now there (slots_of (on_only sid s.requests)) (slots_of (on_only sid t.requests)) ask.sub (slots_of (on_only sid (remove m id))) (ap (λ (r : Requests). slots_of (on_only sid r)) m_is ∙ first_on) c.ends calls);
    others =
        ap (λ (z : State). without_channel sid z.requests) u_is ∙ taken_first sid m id (sid_is_on m sid id least.on)
        ∙ ap (without_channel sid) (sym m_is) ∙ c.others;
    state =
        u_is ∙ ap (λ (z : State). let y : State = record z { requests = remove m id } in y) c.state
        ∙ ap (λ (r : Requests). let y : State = record s { requests = r } in y) (sym (ap (λ (z : State). z.requests) u_is));
    output = same ∙ c.output;
    base = base ∙ c.base;
  }

-- none is left
pub closing_last : (here : Seat) (s : State) (out : List ℕ) (sid : ℕ) (now : Seat) (t : State) (after : List ℕ) → Closing here s out sid now t after → ((q : ℕ) → is_on sid (at t.requests q) ≡ false)
    → Calls here now (AreEndingsOf (slots_of (on_only sid s.requests))) × (t ≡ record s { requests = without_channel sid s.requests })
closing_last here s out sid now t after c none = (
  ends_all here now (slots_of (on_only sid s.requests)) (slots_of (on_only sid t.requests)) (none_only sid t.requests none) c.ends,
  c.state ∙ ap (λ (r : Requests). let y : State = record s { requests = r } in y) (sym (none_on sid t.requests none) ∙ c.others),
)

-- All requests end one after another.
pub all_next : (m : Requests) (id : ℕ) (ask : Asked) → at m id ≡ Some ask → IsNext (at m) 0 id → (first : Seat) (all : List ℕ) (now there : Seat) → Ends first all now (slots_of m)
    → Calls now there (AreEndingsOf (slot_of (at m id))) → Ends first all there (slots_of (remove m id))
all_next m id ask here next first all now there e calls =
    ends_next first now there all (slots_of m) ask.sub (slots_of (remove m id)) (slots_first m id ask here (λ q lt. next.least q (omega arith) lt)) e
    (subst (λ (o : Option Asked). Calls now there (AreEndingsOf (slot_of o))) here calls)

pub first_of_all : (log : List Mark) (m : Requests) (id : ℕ) (ask : Asked) → at m id ≡ Some ask → IsNext (at m) 0 id → AreLiving log (slots_of m) → AreLiving log (slot_of (at m id))
first_of_all log m id ask here next l =
    subst (λ (o : Option Asked). AreLiving log (slot_of o)) (sym here)
    (first_lives log ask.sub (slots_of (remove m id)) (subst (AreLiving log) (slots_first m id ask here (λ q lt. next.least q (omega arith) lt)) l))

-- a request that is there
pub some_ask : (o : Option Asked) → IsSome o → (ask : Asked) × (o ≡ Some ask)
some_ask None is = absurd (false≢true is)
some_ask (Some ask) is = (ask, refl)

-- The reply to the end of a channel, by its answer.
pub channel_answered : (here there : Seat) (moment : Moment) (s t : State) (out after : List ℕ) (sid cid : ℕ) → Calls here there (AreEndingsOf (slots_of (on_only sid s.requests)))
    → t ≡ record s { channels = remove s.channels sid; requests = without_channel sid s.requests } → (answer : Result (Unit {0}) NoMemory) (result : Result (Unit {0}) SessionStop) → result ≡ stopping answer
    → OnOk answer ((after ≡ out ++ spelled s.order s.segment (said (reply.channel_destroyed sid cid))) × IsSayable (said (reply.channel_destroyed sid cid))) → OnErr answer (after ≡ out)
    → Heeds (shown here s out) (shown there t after) moment (asks (destroy_channel sid cid) s.types) result
channel_answered here there moment s t out after sid cid c state (Ok u) result is ok err =
    subst (Heeds (shown here s out) (shown there t after) moment (asks (destroy_channel sid cid) s.types)) (sym is)
    (channel_told here there moment s t out after sid cid c (ap (λ (z : State). z.requests) state) state ok)
channel_answered here there moment s t out after sid cid c state (Err e) result is ok err =
    subst (Heeds (shown here s out) (shown there t after) moment (asks (destroy_channel sid cid) s.types)) (sym is)
    (channel_untold here there moment s t out after sid cid c (ap (λ (z : State). z.requests) state) err)

pub channel_closed : (here there : Seat) (moment : Moment) (s mid t : State) (out between after : List ℕ) (sid cid : ℕ) → Calls here there (AreEndingsOf (slots_of (on_only sid s.requests)))
    → mid ≡ record s { channels = remove s.channels sid; requests = without_channel sid s.requests } → t ≡ mid → between ≡ out
    → (answer : Result (Unit {0}) NoMemory) (result : Result (Unit {0}) SessionStop) → result ≡ stopping answer
    → OnOk answer ((after ≡ between ++ spelled mid.order mid.segment (said (reply.channel_destroyed sid cid))) × IsSayable (said (reply.channel_destroyed sid cid))) → OnErr answer (after ≡ between)
    → Heeds (shown here s out) (shown there t after) moment (asks (destroy_channel sid cid) s.types) result
channel_closed here there moment s mid t out between after sid cid c mid_is t_is between_is answer result is ok err =
    channel_answered here there moment s t out after sid cid c (t_is ∙ mid_is) answer result is (ok_by answer ok) (err_by answer err)
  where
    ok_by : (a : Result (Unit {0}) NoMemory) → OnOk a ((after ≡ between ++ spelled mid.order mid.segment (said (reply.channel_destroyed sid cid))) × IsSayable (said (reply.channel_destroyed sid cid))) → OnOk a ((after ≡ out ++ spelled s.order s.segment (said (reply.channel_destroyed sid cid))) × IsSayable (said (reply.channel_destroyed sid cid)))
    ok_by (Ok u) e =
        (e.0 ∙ ap (λ (z : State). between ++ spelled z.order z.segment (said (reply.channel_destroyed sid cid))) mid_is ∙ ap (λ (l : List ℕ). l ++ spelled s.order s.segment (said (reply.channel_destroyed sid cid))) between_is, e.1)
    ok_by (Err x) e = tt

    err_by : (a : Result (Unit {0}) NoMemory) → OnErr a (after ≡ between) → OnErr a (after ≡ out)
    err_by (Ok u) e = tt
    err_by (Err x) e = e ∙ between_is
