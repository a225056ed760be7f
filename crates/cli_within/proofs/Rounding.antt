-- Bytes that pass in rounds.
use Rattle.std.proofs.Common.{◌≡◌, ℕ, ◌+◌, ◌*◌, ◌-◌, ◌<◌, ◌≤◌, inl, inr, Bool, true, false, ◌||◌, List, [], ◌∷◌, ◌++◌, length, take, drop, Option, None, Some, is_some, Result, Ok, Err, refl, sym, ◌∙◌, ap, subst, arith, append_assoc, length-append, length-take, take-append-drop}
use Rattle.std.proofs.lemmas.Bool.{false≢true}
use Rattle.std.proofs.lemmas.List.{append-nil}
use Rattle.pva_wire.specs.declared.order.Order.TheVariants.{Little}
use Rattle.pva_frames.specs.Assembled.{Assembled, opening as unread}
use Rattle.pva_frames.specs.declared.event.Event.{Event}
use Rattle.desk_api.specs.History.{IsLegal}
use Rattle.desk_api.specs.declared.mark.Seat.{Seat}
use Rattle.journal_core.specs.Moments.{Moment}
use Rattle.srv_session.specs.Calls.{Holds, IsOf}
use Rattle.srv_session.proofs.Kept.{are_living, opening_holds}
use Rattle.srv_session.proofs.OnSite.{opening_on_site}
use Rattle.srv_stream.specs.Streams as streams
use Rattle.srv_stream.specs.Views.{first_view}
use Rattle.pvd_type.specs.declared.memory.NoMemory.{NoMemory}
use Rattle.srv_stream.specs.declared.ended.Ended.{Ended}
use Rattle.cli_session.specs.Steps.{client_told}
use Rattle.cli_session.specs.Text.{client_text}
use Rattle.cli_session.specs.declared.ask.Ask.{Ask}
use Rattle.cli_within.specs.Ends.{ClientView, HasTaken, HasPrinted, Hears, Begins, events_in, text_for}
use Rattle.cli_within.specs.Rounding.{Frame, Sides, HasPassed, HasMade, IsMute, HasGiven, Gives, HasSaid, IsLeft, HasStuck, Answers, Passes}
use Rattle.cli_within.specs.Serving.{Fills, HasFilled, HasServed, HasBroken, IsLiving, IsReady, Serves}
use Rattle.cli_within.specs.declared.stop.Stop.{Stop}
use Rattle.cli_within.specs.declared.stop.Stop.TheVariants as stops
use Rattle.cli_within.proofs.Hearing.{begins_so}
use Rattle.cli_within.proofs.Printed.{part_of_printed, printed_as}
use Rattle.srv_stream.proofs.Resting.{rests}
use Rattle.cli_within.proofs.Serving.{served_first, served_took}

-- what is given of the bytes that there are
pub some_taken : (piece : ℕ) (bytes : List ℕ) (count : ℕ) → count ≤ length bytes → count ≤ piece → ¬ (count ≡ 0) → (0 < length (take count bytes)) × (length (take count bytes) ≤ piece)
some_taken piece bytes count within few some =
    let long : length (take count bytes) ≡ count = simp length-take (omega (arith, within)) in (omega (arith, long, some), omega (arith, long, few))

pub begins_now : {ask : Ask} {taken given : List ℕ} {v : ClientView} → HasTaken ask taken given v → Begins ask taken given
begins_now {ask} {taken} {given} {v} h = begins_so ask (events_in taken) (client_told ask (events_in taken)) given v.client h.heard.stands.accounts

-- with the first of the bytes that it would give now
begins_more : {ask : Ask} {taken given : List ℕ} {v : ClientView} (bytes rest : List ℕ) → v.client.output ≡ bytes ++ rest → HasTaken ask taken given v → Begins ask taken (given ++ bytes)
begins_more {ask} {taken} {given} {v} bytes rest is h =
    let a = h.heard.stands.accounts in record {
      heard = events_in taken;
      later = [];
      all = sym (append-nil (events_in taken));
      written = a.written;
      front = record { rest = rest; whole = sym a.bytes ∙ ap (λ (z : List ℕ). given ++ z) is ∙ sym (append_assoc given bytes rest) };
    }

-- The client gave.

pub gave_some : {f : Frame} {piece : ℕ} {given taken : List ℕ} {x : Sides} (y : Sides) (bytes : List ℕ) → HasPassed f given taken x → 0 < length bytes → length bytes ≤ piece
    → HasTaken f.ask taken (given ++ bytes) y.client → y.printed ≡ x.printed → y.faults ≡ x.faults → HasServed f.first y.seat f.told (given ++ bytes) taken y.view y.over → Gives f piece given taken y (Ok true)
gave_some {f} {piece} {given} {taken} {x} y bytes p some few client printed faults served = record {
  bytes = bytes;
  some = some;
  few = few;
  passed = record {
    client = client;
    printed = subst (λ (o : Option (List ℕ)). HasPrinted f.start o f.before y.faults (text_for f.ask taken)) (sym printed)
        (subst (λ (n : ℕ). HasPrinted f.start x.printed f.before n (text_for f.ask taken)) (sym faults) p.printed);
    server = served;
  };
}

pub gave_broken : {f : Frame} {piece : ℕ} {given taken : List ℕ} {x : Sides} (y : Sides) (count : ℕ) → HasPassed f given taken x → length (take count x.client.client.output) ≤ piece → y.printed ≡ x.printed → y.faults ≡ x.faults
    → HasBroken f.first y.seat f.told (given ++ take count x.client.client.output) taken y.view → Gives f piece given taken y (Err stops.NoMemory)
gave_broken {f} {piece} {given} {taken} {x} y count p few printed faults broken = record {
  bytes = take count x.client.client.output;
  few = few;
  printed = subst (λ (o : Option (List ℕ)). HasPrinted f.start o f.before y.faults (text_for f.ask taken)) (sym printed)
      (subst (λ (n : ℕ). HasPrinted f.start x.printed f.before n (text_for f.ask taken)) (sym faults) p.printed);
  begins = begins_more (take count x.client.client.output) (drop count x.client.client.output) (sym (take-append-drop count x.client.client.output)) p.client;
  broken = broken;
}

left_by : {f : Frame} {given : List ℕ} (taken : List ℕ) (y : Sides) (stop : Stop) → HasSaid f given taken y → IsLeft f given taken y stop
left_by taken y stops.NoMemory s = inl s
left_by taken y stops.Sink s = s
left_by taken y (stops.Client fault) s = s
left_by taken y (stops.Frame fault) s = s

-- The server gave.

module _ {f : Frame} (piece : ℕ) {given taken : List ℕ} {x : Sides} (p : HasPassed f given taken x) where
  -- it has no byte
  pub answered_none : (y : Sides) → y.client ≡ x.client → y.printed ≡ x.printed → y.faults ≡ x.faults → Fills f.first y.seat f.told given taken y.view y.over (Ok tt) → y.view.pending ≡ [] → Answers f piece given taken y (Ok false)
  answered_none y client printed faults filled empty = record {
    passed = record {
      client = subst (HasTaken f.ask taken given) (sym client) p.client;
      printed = subst (λ (o : Option (List ℕ)). HasPrinted f.start o f.before y.faults (text_for f.ask taken)) (sym printed)
          (subst (λ (n : ℕ). HasPrinted f.start x.printed f.before n (text_for f.ask taken)) (sym faults) p.printed);
      server = filled.served;
    };
    empty = empty;
    dry = filled.dry empty;
  }

  -- it gave some
  pub answered_some : (y : Sides) (mid : streams.View) (count : ℕ) → HasFilled f.first y.seat f.told given taken mid y.over → 0 < length (take count mid.pending) → length (take count mid.pending) ≤ piece
      → Hears f.ask (taken ++ take count mid.pending) given y.client f.start y.printed f.before y.faults (Ok tt) → y.view ≡ record mid { pending = drop count mid.pending } → Answers f piece given taken y (Ok true)
  answered_some y mid count filled some few heard view = record {
    bytes = take count mid.pending;
    some = some;
    few = few;
    passed = record { client = heard.0; printed = heard.1; server = served_took count y.view filled.served view };
  }

  -- the client stopped at what it gave
  pub answered_stopped : (y : Sides) (count : ℕ) (stop : Stop) → HasFilled f.first y.seat f.told given taken y.view y.over → length (take count y.view.pending) ≤ piece
      → Hears f.ask (taken ++ take count y.view.pending) given y.client f.start y.printed f.before y.faults (Err stop) → Answers f piece given taken y (Err stop)
  answered_stopped y count stop filled few heard = let bytes = take count y.view.pending in record {
    bytes = bytes;
    few = few;
    stuck = record {
      stopped = heard.0;
      begins = heard.1;
      left = left_by (taken ++ bytes) y stop (record {
        said = taken;
        served = filled.served;
        front = record { rest = drop count y.view.pending; whole = ap (λ (z : List ℕ). taken ++ z) (sym (take-append-drop count y.view.pending)) ∙ sym (append_assoc taken bytes (drop count y.view.pending)) };
      });
    };
  }

  -- its memory ran out
  pub answered_broken : (y : Sides) → y.printed ≡ x.printed → y.faults ≡ x.faults → HasBroken f.first y.seat f.told given taken y.view → Answers f piece given taken y (Err stops.NoMemory)
  answered_broken y printed faults broken =
      let text : HasPrinted f.start y.printed f.before y.faults (text_for f.ask taken) =
      subst (λ (o : Option (List ℕ)). HasPrinted f.start o f.before y.faults (text_for f.ask taken)) (sym printed)
      (subst (λ (n : ℕ). HasPrinted f.start x.printed f.before n (text_for f.ask taken)) (sym faults) p.printed) in
      let same : taken ++ [] ≡ taken = append-nil taken in record {
        bytes = [];
        few = omega arith;
        stuck = subst (λ (l : List ℕ). HasStuck f given l y stops.NoMemory) (sym same) (record {
          stopped = record { stopped = (part_of_printed text (record { rest = []; whole = sym (append-nil (text_for f.ask taken)) }), text.same); refused = tt };
          begins = begins_now p.client;
          left = inr broken;
        });
      }

-- Rounds.

one_more : (made piece a : ℕ) → a ≤ made * piece → a ≤ (made + 1) * piece
one_more made piece a h = let more : (made + 1) * piece ≡ made * piece + piece = grind arith in omega (arith, h, more)

one_piece : (made piece a b : ℕ) → a ≤ made * piece → b ≤ piece → a + b ≤ (made + 1) * piece
one_piece made piece a b h few = let more : (made + 1) * piece ≡ made * piece + piece = grind arith in omega (arith, h, few, more)

module _ {f : Frame} {piece made : ℕ} {x : Sides} (y : Sides) (m : HasMade f piece made x) where
  -- what the client gave, if it did
  pub round_broken : Gives f piece m.given m.taken y (Err stops.NoMemory) → Passes f piece made y (Err stops.NoMemory)
  round_broken g = record {
    given = m.given ++ g.bytes;
    taken = m.taken;
    few = (subst (λ (n : ℕ). n ≤ (made + 1) * piece) (sym (length-append m.given g.bytes)) (one_piece made piece (length m.given) (length g.bytes) m.few.0 g.few), one_more made piece (length m.taken) m.few.1);
    stuck = record {
      stopped = record { stopped = (part_of_printed g.printed (record { rest = []; whole = sym (append-nil (text_for f.ask m.taken)) }), g.printed.same); refused = tt };
      begins = g.begins;
      left = inr g.broken;
    };
  }

  pub round_stuck_none : {z : Sides} (stop : Stop) → Answers f piece m.given m.taken z (Err stop) → Passes f piece made z (Err stop)
  round_stuck_none stop a = record {
    given = m.given;
    taken = m.taken ++ a.bytes;
    few = (one_more made piece (length m.given) m.few.0, subst (λ (n : ℕ). n ≤ (made + 1) * piece) (sym (length-append m.taken a.bytes)) (one_piece made piece (length m.taken) (length a.bytes) m.few.1 a.few));
    stuck = a.stuck;
  }

  pub round_stuck_some : {z : Sides} (stop : Stop) (g : HasGiven f piece m.given m.taken y) → Answers f piece (m.given ++ g.bytes) m.taken z (Err stop) → Passes f piece made z (Err stop)
  round_stuck_some stop g a = record {
    given = m.given ++ g.bytes;
    taken = m.taken ++ a.bytes;
    few = (
      subst (λ (n : ℕ). n ≤ (made + 1) * piece) (sym (length-append m.given g.bytes)) (one_piece made piece (length m.given) (length g.bytes) m.few.0 g.few),
      subst (λ (n : ℕ). n ≤ (made + 1) * piece) (sym (length-append m.taken a.bytes)) (one_piece made piece (length m.taken) (length a.bytes) m.few.1 a.few),
    );
    stuck = a.stuck;
  }

  pub round_gave_got : {z : Sides} (g : HasGiven f piece m.given m.taken y) → Answers f piece (m.given ++ g.bytes) m.taken z (Ok true) → Passes f piece made z (Ok true)
  round_gave_got g a =
      let long : length (m.given ++ g.bytes) ≡ length m.given + length g.bytes = length-append m.given g.bytes in
      let wide : length (m.taken ++ a.bytes) ≡ length m.taken + length a.bytes = length-append m.taken a.bytes in record {
        given = m.given ++ g.bytes;
        taken = m.taken ++ a.bytes;
        passed = a.passed;
        moved = let before = m.moved in let some = g.some in omega (arith, before, some, long, wide);
        few = (
          subst (λ (n : ℕ). n ≤ (made + 1) * piece) (sym long) (one_piece made piece (length m.given) (length g.bytes) m.few.0 g.few),
          subst (λ (n : ℕ). n ≤ (made + 1) * piece) (sym wide) (one_piece made piece (length m.taken) (length a.bytes) m.few.1 a.few),
        );
      }

  pub round_gave : {z : Sides} (g : HasGiven f piece m.given m.taken y) → Answers f piece (m.given ++ g.bytes) m.taken z (Ok false) → Passes f piece made z (Ok true)
  round_gave g a =
      let long : length (m.given ++ g.bytes) ≡ length m.given + length g.bytes = length-append m.given g.bytes in record {
        given = m.given ++ g.bytes;
        taken = m.taken;
        passed = a.passed;
        moved = let before = m.moved in let some = g.some in omega (arith, before, some, long);
        few = (subst (λ (n : ℕ). n ≤ (made + 1) * piece) (sym long) (one_piece made piece (length m.given) (length g.bytes) m.few.0 g.few), one_more made piece (length m.taken) m.few.1);
      }

  pub round_got : {z : Sides} → Answers f piece m.given m.taken z (Ok true) → Passes f piece made z (Ok true)
  round_got a =
      let wide : length (m.taken ++ a.bytes) ≡ length m.taken + length a.bytes = length-append m.taken a.bytes in record {
        given = m.given;
        taken = m.taken ++ a.bytes;
        passed = a.passed;
        moved = let before = m.moved in let some = a.some in omega (arith, before, some, wide);
        few = (one_more made piece (length m.given) m.few.0, subst (λ (n : ℕ). n ≤ (made + 1) * piece) (sym wide) (one_piece made piece (length m.taken) (length a.bytes) m.few.1 a.few));
      }

  pub round_rests : {z : Sides} → Answers f piece m.given m.taken z (Ok false) → IsMute z → Passes f piece made z (Ok false)
  round_rests a mute = record { made_so = record { given = m.given; taken = m.taken; passed = a.passed; moved = m.moved; few = m.few }; silent = a; mute = mute }

-- A round, by what both gave. What is mute stays so while the client's end and the server's being over don't change.
pub round_passes : {f : Frame} {piece made : ℕ} {x : Sides} (y z : Sides) (gave got : Bool) (m : HasMade f piece made x) → Gives f piece m.given m.taken y (Ok gave)
    → ((given taken : List ℕ) → HasPassed f given taken y → Answers f piece given taken z (Ok got)) → z.over ≡ y.over → (got ≡ false → z.client ≡ y.client) → Passes f piece made z (Ok (gave || got))
round_passes y z true true m g a over client = round_gave_got y m g (a _ _ g.passed)
round_passes y z true false m g a over client = round_gave y m g (a _ _ g.passed)
round_passes y z false true m g a over client = round_got y m (a _ _ g.0)
round_passes y z false false m g a over client = round_rests y m (a _ _ g.0) (λ none. ap (λ (v : ClientView). v.client.output) (client refl) ∙ g.1 (sym over ∙ none))

pub round_stuck : {f : Frame} {piece made : ℕ} {x : Sides} (y z : Sides) (gave : Bool) (stop : Stop) (m : HasMade f piece made x) → Gives f piece m.given m.taken y (Ok gave)
    → ((given taken : List ℕ) → HasPassed f given taken y → Answers f piece given taken z (Err stop)) → Passes f piece made z (Err stop)
round_stuck y z true stop m g a = round_stuck_some y m stop g (a _ _ g.passed)
round_stuck y z false stop m g a = round_stuck_none y m stop (a _ _ g.0)

pub round_given_stop : {f : Frame} {piece made : ℕ} {x : Sides} (y : Sides) (stop : Stop) (m : HasMade f piece made x) → Gives f piece m.given m.taken y (Err stop) → Passes f piece made y (Err stop)
round_given_stop y stops.NoMemory m g = round_broken y m g
round_given_stop y stops.Sink m g = absurd g
round_given_stop y (stops.Client fault) m g = absurd g
round_given_stop y (stops.Frame fault) m g = absurd g

-- Before the first round.

pub made_none : {f : Frame} {piece : ℕ} (x : Sides) → HasTaken f.ask [] [] x.client → HasPrinted f.start x.printed f.before x.faults (f.ask.name ++ 10 ∷ []) → IsLegal x.seat.seen → f.first ≡ x.seat → x.view ≡ first_view Little → x.over ≡ None
    → HasMade f piece 0 x
made_none {f} {piece} x client printed legal first view over =
    let none : events_in [] ≡ [] = ap (λ (a : Assembled). a.events) (rests unread refl) in record {
      given = [];
      taken = [];
      passed = record {
        client = client;
        printed = printed_as (sym (append-nil (f.ask.name ++ 10 ∷ [])) ∙ ap (λ (l : List Event). client_text f.ask l) (sym none)) printed;
        server = subst (λ (s : Seat). HasServed s x.seat f.told [] [] x.view x.over) (sym first) (subst (HasServed x.seat x.seat f.told [] [] x.view) (sym over) (served_first x.seat f.told x.view legal view));
      };
      moved = omega arith;
      few = (omega arith, omega arith);
    }

pub ready_first : (seat : Seat) (v : streams.View) → v ≡ first_view Little → IsReady seat v
ready_first seat v is = record {
  site = subst (λ (z : streams.View). IsOf seat.seen.base.site z.state) (sym is) (opening_on_site seat.seen.base.site Little);
  holds = subst (λ (z : streams.View). Holds seat.log z.state) (sym is) (opening_holds seat.log Little);
}

pub living_first : (seat : Seat) (v : streams.View) → v ≡ first_view Little → IsLiving seat v
living_first seat v is = are_living seat.log v.state (ready_first seat v is).holds

-- a server that is not over is open
pub is_open : (over : Option Ended) (b : Bool) → b ≡ is_some over → b ≡ false → over ≡ None
is_open None b is not_over = refl
is_open (Some ended) b is not_over = absurd (false≢true (sym not_over ∙ is))

-- What the server hears of the client, in a frame.
pub hears_for : (f : Frame) (told : Option Moment) (seat new : Seat) (given taken bytes : List ℕ) (v w : streams.View) (over over2 : Option Ended) (r : Result (Unit {0}) NoMemory) → f.told ≡ told → over ≡ None
    → ((first : Seat) (heard given : List ℕ) → HasServed first seat told heard given v None → Serves first new told (heard ++ bytes) given w over2 r) → HasServed f.first seat f.told given taken v over → Serves f.first new f.told (given ++ bytes) taken w over2 r
hears_for f told seat new given taken bytes v w over over2 r is open_ serves h =
    subst (λ (t : Option Moment). HasServed f.first seat t given taken v None → Serves f.first new t (given ++ bytes) taken w over2 r) (sym is) (serves f.first given taken)
    (subst (λ (o : Option Ended). HasServed f.first seat f.told given taken v o) open_ h)
