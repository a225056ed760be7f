-- An exchange has ended.
use Rattle.std.proofs.Common.{◌≡◌, ℕ, ◌+◌, ◌*◌, ◌-◌, ◌<◌, ◌≤◌, inl, inr, Bool, true, false, leb, cond, List, [], ◌∷◌, ◌++◌, length, Option, None, Some, is_some, Err, refl, sym, ◌∙◌, ap, subst, arith}
use Rattle.std.proofs.lemmas.Bool.{leb-true}
use Rattle.std.proofs.lemmas.List.{append-nil}
use Rattle.std.specs.Result.{result_err}
use Rattle.histories.specs.History.{IsPrefixOf}
use Rattle.pva_frames.specs.Assembled.{Assembled, opening as unread}
use Rattle.pva_frames.specs.declared.event.Event.{Event}
use Rattle.pva_wire.specs.declared.order.Order.TheVariants.{Little}
use Rattle.desk_api.proofs.Adding.{adds_more, adds_nothing, moments_append}
use Rattle.desk_api.specs.Calls.{Adds, HaveMoment}
use Rattle.desk_api.specs.History.{IsLegal}
use Rattle.desk_api.specs.Marks.{AllFold}
use Rattle.desk_api.specs.declared.history.SiteData.{SiteData}
use Rattle.desk_api.specs.declared.mark.Mark.{Mark}
use Rattle.desk_api.specs.declared.mark.Seat.{Seat}
use Rattle.journal_core.specs.Moments.{Moment}
use Rattle.srv_session.specs.Calls.{Finished}
use Rattle.srv_session.specs.Replies.{greeting}
use Rattle.srv_session.specs.Rows.{AreEndingsOf}
use Rattle.srv_session.specs.State.{slots_of, opening}
use Rattle.srv_session.specs.Steps.{AreEndings, state_after, after_part, events_of, marks_of, out_of}
use Rattle.srv_session.proofs.Rows.{no_next_part}
use Rattle.srv_session.proofs.Windowed.{windows_hold}
use Rattle.srv_stream.specs.Served.{Whole}
use Rattle.srv_stream.specs.Streams.{View, shown_in}
use Rattle.srv_stream.specs.Views.{first_view}
use Rattle.srv_stream.specs.declared.ended.Ended.{Ended}
use Rattle.cli_session.specs.Steps.{client_bytes}
use Rattle.cli_session.specs.declared.ask.Ask.{Ask}
use Rattle.cli_within.specs.Ends.{ClientView, HasPrinted, HasStopped, HasTaken, IsStopped, events_in}
use Rattle.cli_within.specs.Exchanging.{Exchanged, AtShort, HasTalked, HasCause, HasNoFault, IsQuiet, end_at_rest}
use Rattle.cli_within.specs.Rounding.{Frame, Sides, HasMade, HasSaid, HasStuck, HasStuckBehind, IsAtRest}
use Rattle.cli_within.specs.Serving.{DryIf, HasBroken, HasServed, IsDry}
use Rattle.cli_within.specs.Telling.{Puts}
use Rattle.cli_within.specs.declared.stop.End.{End}
use Rattle.cli_within.specs.declared.stop.End.TheVariants as ends
use Rattle.cli_within.specs.declared.stop.Ending.{Ending}
use Rattle.cli_within.specs.declared.stop.Stop.{Stop}
use Rattle.cli_within.specs.declared.stop.Stop.TheVariants as stops
use Rattle.srv_stream.proofs.Finishing.{endings_told, folds_behind, folds_ended, none_at_first}
use Rattle.cli_within.proofs.Hearing.{stopped_print}
use Rattle.srv_stream.proofs.Passing.{none_left_there}
use Rattle.cli_within.proofs.Printed.{part_of_printed, printed_nothing, puts_as}
use Rattle.srv_stream.proofs.Resting.{rests}
use Rattle.cli_within.proofs.Rounding.{begins_now}
use Rattle.cli_within.proofs.Serving.{served_first}

pub less_pieces : (a b piece n : ℕ) → a ≤ b → n ≤ a * piece → n ≤ b * piece
less_pieces a b piece n h few = let more : a * piece + (b - a) * piece ≡ b * piece = grind (arith, h) in omega (arith, few, more)

-- The session has ended, and its subscriptions with it.
module _ {first seat last : Seat} {told : Option Moment} {heard given : List ℕ} {v : View} {over : Option Ended} (h : HasServed first seat told heard given v over) (fin : Finished (shown_in seat v) last) where
  abbrev site : SiteData
  site = first.seen.base.site

  abbrev pub log_of : List Mark
  log_of = marks_of h.steps ++ fin.marks

  endings_are : AreEndings (state_after site (opening Little) h.steps) fin.marks
  endings_are = subst (λ (l : List ℕ). AreEndingsOf l fin.marks) h.slots fin.endings

  pub whole : (out : List ℕ) → greeting Little ++ out_of site (opening Little) h.steps ≡ out → Whole first.seen.base.site Little heard log_of out over
  whole out is = record {
    events = events_of h.steps;
    remaining = h.follows.remaining;
    all = h.follows.all;
    dialogue = record {
      said = marks_of h.steps;
      endings = fin.marks;
      talk = record { steps = h.steps; rules = h.follows.rules; events_are = refl; marks_are = refl; out_is = is; windows = windows_hold site Little h.steps h.follows.rules };
      marks_are = refl;
      ends = endings_are;
    };
    stands = h.follows.stands;
  }

  pub adds_all : Adds first last log_of
  adds_all = adds_more h.adds fin.adds

  pub moments_all : HaveMoment told log_of
  moments_all = moments_append told (marks_of h.steps) fin.marks h.moments (endings_told told (slots_of v.state.requests) fin.marks fin.endings)

  pub folds_all : AllFold last.seen log_of
  folds_all = folds_ended site Little h.steps fin.marks first last h.follows.rules endings_are adds_all

  pub talked : (taken : List ℕ) → IsPrefixOf taken (given ++ v.pending) → HasTalked first.seen.base.site heard taken log_of
  talked taken front = record {
    out = greeting Little ++ out_of site (opening Little) h.steps;
    trouble = over;
    whole = whole (greeting Little ++ out_of site (opening Little) h.steps) refl;
    sent = record { rest = front.rest; whole = h.bytes ∙ front.whole };
  }

  -- all that was said was taken
  pub all_taken : v.pending ≡ [] → greeting Little ++ out_of site (opening Little) h.steps ≡ given
  all_taken empty = h.bytes ∙ ap (λ (z : List ℕ). given ++ z) empty ∙ append-nil given

-- A client that took these bytes, and whose operation hasn't ended, met no fault in them.
sound_of : {ask : Ask} {taken given : List ℕ} {v : ClientView} → HasTaken ask taken given v → v.ended ≡ None → HasNoFault ask taken
sound_of t unended = record { events = t.heard.stands.readable; headers = sym (ap result_err t.left) ∙ t.sound unended }

-- an operation that hasn't ended
pub not_ended : (o : Option Ending) → ((ending : Ending) → o ≡ Some ending → ⊥) → o ≡ None
not_ended None h = refl
not_ended (Some ending) h = absurd (h ending refl)

-- an end under another name
pub exchange_so : {ask : Ask} {idle piece turns : ℕ} {told : Option Moment} {first last : Seat} {start now : Option (List ℕ)} {before after : ℕ} (end other : End) → other ≡ end → Exchanged ask idle piece turns told first last start now before after end
    → Exchanged ask idle piece turns told first last start now before after other
exchange_so {ask} {idle} {piece} {turns} {told} {first} {last} {start} {now} {before} {after} end other is x =
    subst (Exchanged ask idle piece turns told first last start now before after) (sym is) x

front_of : (xs ys : List ℕ) → IsPrefixOf xs (xs ++ ys)
front_of xs ys = record { rest = ys; whole = refl }

module _ {f : Frame} {piece made : ℕ} {x : Sides} {last : Seat} (idle turns : ℕ) (within : made ≤ turns) where
  -- The operation ended.
  pub exchange_told : (ending : Ending) → HasMade f piece made x → Finished (shown_in x.seat x.view) last → x.client.ended ≡ Some ending
      → Exchanged f.ask idle piece turns f.told f.first last f.start x.printed f.before x.faults (ends.Told ending)
  exchange_told ending m fin is = let h = m.passed.server in record {
    log = log_of h fin;
    given = m.given;
    taken = m.taken;
    adds = adds_all h fin;
    moments = moments_all h fin;
    folds = folds_all h fin;
    few = (less_pieces made turns piece (length m.given) within m.few.0, less_pieces made turns piece (length m.taken) within m.few.1);
    begins = begins_now m.passed.client;
    cause = record {
      talked = talked h fin m.taken (front_of m.taken x.view.pending);
      printed = m.passed.printed;
      ended = sym m.passed.client.heard.ended ∙ is;
    };
  }

  -- All rounds were made.
  pub exchange_spent : HasMade f piece made x → Finished (shown_in x.seat x.view) last → x.client.ended ≡ None → made ≡ turns
      → Exchanged f.ask idle piece turns f.told f.first last f.start x.printed f.before x.faults ends.Spent
  exchange_spent m fin unended all = let h = m.passed.server in record {
    log = log_of h fin;
    given = m.given;
    taken = m.taken;
    adds = adds_all h fin;
    moments = moments_all h fin;
    folds = folds_all h fin;
    few = (less_pieces made turns piece (length m.given) within m.few.0, less_pieces made turns piece (length m.taken) within m.few.1);
    begins = begins_now m.passed.client;
    cause = record {
      talked = talked h fin m.taken (front_of m.taken x.view.pending);
      bound = inl (let moved = m.moved in omega (arith, moved, all));
      printed = m.passed.printed;
      sound = sound_of m.passed.client unended;
      unended = sym m.passed.client.heard.ended ∙ unended;
    };
  }

  -- Neither end has a byte.

  closed : (r : IsAtRest f piece made x) → (trouble : Ended) → x.over ≡ Some trouble → Finished (shown_in x.seat x.view) last → x.client.ended ≡ None
      → Exchanged f.ask idle piece turns f.told f.first last f.start x.printed f.before x.faults ends.Closed
  closed r trouble over fin unended =
      let m = r.made_so in
      let p = r.silent.passed in
      let h : HasServed f.first x.seat f.told m.given m.taken x.view (Some trouble) = subst (λ (o : Option Ended). HasServed f.first x.seat f.told m.given m.taken x.view o) over p.server in record {
        log = log_of h fin;
        given = m.given;
        taken = m.taken;
        adds = adds_all h fin;
        moments = moments_all h fin;
        folds = folds_all h fin;
        few = (less_pieces made turns piece (length m.given) within m.few.0, less_pieces made turns piece (length m.taken) within m.few.1);
        begins = begins_now p.client;
        cause = record {
          trouble = trouble;
          whole = whole h fin m.taken (all_taken h fin r.silent.empty);
          printed = p.printed;
          sound = sound_of p.client unended;
          unended = sym p.client.heard.ended ∙ unended;
        };
      }

  module _ (r : IsAtRest f piece made x) (open_ : x.over ≡ None) (fin : Finished (shown_in x.seat x.view) last) (unended : x.client.ended ≡ None) where
    dry : IsDry f.first x.seat f.told r.made_so.given r.made_so.taken x.view
    dry = subst (DryIf f.first x.seat f.told r.made_so.given r.made_so.taken x.view) open_ r.silent.dry

    quiet : IsQuiet f.ask f.first.seen.base.site r.made_so.given r.made_so.taken (log_of dry.served fin)
    unfolding whole dry
    quiet = record {
      whole = whole dry.served fin r.made_so.taken (all_taken dry.served fin dry.empty);
      drained = dry.drained;
      written = r.silent.passed.client.heard.stands.accounts.written;
      said = sym (append-nil r.made_so.given) ∙ ap (λ (z : List ℕ). r.made_so.given ++ z) (sym (r.mute open_)) ∙ r.silent.passed.client.heard.stands.accounts.bytes;
    }

    at_rest : (end : End) → HasCause f.ask f.first.seen.base.site idle piece turns f.start x.printed f.before x.faults r.made_so.given r.made_so.taken (log_of dry.served fin) end
        → Exchanged f.ask idle piece turns f.told f.first last f.start x.printed f.before x.faults end
    at_rest end cause = let m = r.made_so in record {
      log = log_of dry.served fin;
      given = m.given;
      taken = m.taken;
      adds = adds_all dry.served fin;
      moments = moments_all dry.served fin;
      folds = folds_all dry.served fin;
      few = (less_pieces made turns piece (length m.given) within m.few.0, less_pieces made turns piece (length m.taken) within m.few.1);
      begins = begins_now r.silent.passed.client;
      cause = cause;
    }

    by_left : (b : Bool) → leb idle (turns - made) ≡ b → Exchanged f.ask idle piece turns f.told f.first last f.start x.printed f.before x.faults (cond b ends.Idle ends.Spent)
    by_left true is = at_rest ends.Idle (record {
      quiet = quiet;
      rounds = made;
      moved = r.made_so.moved;
      few = r.made_so.few;
      within = let left = leb-true idle (turns - made) is in omega (arith, left, within);
      printed = r.silent.passed.printed;
      sound = sound_of r.silent.passed.client unended;
      unended = sym r.silent.passed.client.heard.ended ∙ unended;
    })
    by_left false is = at_rest ends.Spent (record {
      talked = talked dry.served fin r.made_so.taken (front_of r.made_so.taken x.view.pending);
      bound = inr (quiet, let moved = r.made_so.moved in let left : turns - made < idle = not_within idle (turns - made) is in omega (arith, moved, left, within));
      printed = r.silent.passed.printed;
      sound = sound_of r.silent.passed.client unended;
      unended = sym r.silent.passed.client.heard.ended ∙ unended;
    })
      where
        not_within : (a b : ℕ) → leb a b ≡ false → b < a
        not_within a b is = grind (arith, is)

  pub exchange_at_rest : IsAtRest f piece made x → (over : Option Ended) → x.over ≡ over → Finished (shown_in x.seat x.view) last → x.client.ended ≡ None
      → Exchanged f.ask idle piece turns f.told f.first last f.start x.printed f.before x.faults (end_at_rest (is_some over) (turns - made) idle)
  exchange_at_rest r (Some trouble) is fin unended = closed r trouble is fin unended
  exchange_at_rest r None is fin unended = by_left r is fin unended (leb idle (turns - made)) refl

-- Memory ran out elsewhere than in the server.
short_cause : (ask : Ask) (site : SiteData) (start now : Option (List ℕ)) (before after : ℕ) (given taken : List ℕ) (log : List Mark) → HasTalked site given taken log → HasStopped ask taken start now before after stops.NoMemory
    → AtShort ask site start now before after given taken log
short_cause ask site start now before after given taken log t s =
    let d = t.whole.dialogue in record {
      events = t.whole.events;
      later = t.whole.remaining;
      said = d.said;
      more = [];
      endings = d.endings;
      out = t.out;
      talk = d.talk;
      all = t.whole.all;
      part = no_next_part site (state_after site (opening Little) d.talk.steps) t.whole.remaining;
      ends = subst (λ (l : List ℕ). AreEndingsOf l d.endings) (sym (none_left_there site (state_after site (opening Little) d.talk.steps) t.whole.remaining)) d.ends;
      log_is = ap (λ (l : List Mark). l ++ d.endings) (append-nil d.said) ∙ d.marks_are;
      sent = t.sent;
      stopped = s;
    }

-- An end couldn't go on.

said_cause : (f : Frame) (x : Sides) (idle piece turns : ℕ) (given taken : List ℕ) (stop : Stop) (log : List Mark) → HasTalked f.first.seen.base.site given taken log → HasStopped f.ask taken f.start x.printed f.before x.faults stop
    → HasCause f.ask f.first.seen.base.site idle piece turns f.start x.printed f.before x.faults given taken log (ends.Stopped stop)
said_cause f x idle piece turns given taken stops.NoMemory log t s = short_cause f.ask f.first.seen.base.site f.start x.printed f.before x.faults given taken log t s
said_cause f x idle piece turns given taken stops.Sink log t s = record { talked = t; stopped = s }
said_cause f x idle piece turns given taken (stops.Client fault) log t s = record { talked = t; stopped = s }
said_cause f x idle piece turns given taken (stops.Frame fault) log t s = record { talked = t; stopped = s }

module _ {f : Frame} {x : Sides} {last : Seat} (idle piece turns : ℕ) (given taken : List ℕ) (few : (length given ≤ turns * piece) × (length taken ≤ turns * piece)) (fin : Finished (shown_in x.seat x.view) last) where
  said : (stop : Stop) → HasStuck f given taken x stop → HasSaid f given taken x → Exchanged f.ask idle piece turns f.told f.first last f.start x.printed f.before x.faults (ends.Stopped stop)
  said stop s h = record {
    log = log_of h.served fin;
    given = given;
    taken = taken;
    adds = adds_all h.served fin;
    moments = moments_all h.served fin;
    folds = folds_all h.served fin;
    few = few;
    begins = s.begins;
    cause = said_cause f x idle piece turns given taken stop (log_of h.served fin) (talked h.served fin taken h.front) s.stopped;
  }

  broken : HasStuck f given taken x stops.NoMemory → HasBroken f.first x.seat f.told given taken x.view → Exchanged f.ask idle piece turns f.told f.first last f.start x.printed f.before x.faults (ends.Stopped stops.NoMemory)
  broken s b =
      let site = f.first.seen.base.site in
      let there = state_after site (opening Little) b.steps in
      let endings : AreEndings (after_part site there b.later b.more) fin.marks = subst (λ (l : List ℕ). AreEndingsOf l fin.marks) b.slots fin.endings in
      let adds : Adds f.first last ((marks_of b.steps ++ b.more) ++ fin.marks) = adds_more b.adds fin.adds in record {
        log = (marks_of b.steps ++ b.more) ++ fin.marks;
        given = given;
        taken = taken;
        adds = adds;
        moments = moments_append f.told (marks_of b.steps ++ b.more) fin.marks b.moments (endings_told f.told (slots_of x.view.state.requests) fin.marks fin.endings);
        folds = folds_behind site Little b.steps b.later b.more fin.marks f.first last b.rules b.part endings adds;
        few = few;
        begins = s.begins;
        cause = record {
          events = events_of b.steps;
          later = b.later;
          said = marks_of b.steps;
          more = b.more;
          endings = fin.marks;
          out = greeting Little ++ out_of site (opening Little) b.steps;
          talk = record { steps = b.steps; rules = b.rules; events_are = refl; marks_are = refl; out_is = refl; windows = windows_hold site Little b.steps b.rules };
          all = b.all;
          part = b.part;
          ends = endings;
          log_is = refl;
          sent = record { rest = x.view.pending; whole = b.bytes };
          stopped = s.stopped;
        };
      }

  pub exchange_stuck : (stop : Stop) → HasStuck f given taken x stop → Exchanged f.ask idle piece turns f.told f.first last f.start x.printed f.before x.faults (ends.Stopped stop)
  exchange_stuck stops.NoMemory s = elim s.left [
    | inl h ↦ said stops.NoMemory s h
    | inr b ↦ broken s b
  ]
  exchange_stuck stops.Sink s = said stops.Sink s s.left
  exchange_stuck (stops.Client fault) s = said (stops.Client fault) s s.left
  exchange_stuck (stops.Frame fault) s = said (stops.Frame fault) s s.left

pub exchange_stuck_behind : {f : Frame} {piece made : ℕ} {x : Sides} {last : Seat} (idle turns : ℕ) (stop : Stop) → made < turns → HasStuckBehind f piece made x stop → Finished (shown_in x.seat x.view) last
    → Exchanged f.ask idle piece turns f.told f.first last f.start x.printed f.before x.faults (ends.Stopped stop)
exchange_stuck_behind {f} {piece} {made} {x} {last} idle turns stop within s fin =
    exchange_stuck idle piece turns s.given s.taken (less_pieces (made + 1) turns piece (length s.given) (omega (arith, within)) s.few.0, less_pieces (made + 1) turns piece (length s.taken) (omega (arith, within)) s.few.1) fin stop s.stuck

-- Nothing was exchanged: the name couldn't be printed, or memory ran out.

never_stopped : (ask : Ask) (start now : Option (List ℕ)) (before after : ℕ) (stop : Stop) → Puts start now before after (ask.name ++ 10 ∷ []) (Err stop) → IsStopped ask (events_in []) start now before after stop
never_stopped ask start now before after stop puts =
    let none : events_in [] ≡ [] = ap (λ (a : Assembled). a.events) (rests unread refl) in
    subst (λ (l : List Event). IsStopped ask l start now before after stop) (sym none) (stopped_print ask [] start now before after stop (puts_as start now before after stop (sym (append-nil (ask.name ++ 10 ∷ []))) puts))

module _ (ask : Ask) (idle piece turns : ℕ) (told : Option Moment) (first : Seat) (start now : Option (List ℕ)) (before after : ℕ) (legal : IsLegal first.seen) where
  unserved : HasServed first first told [] [] (first_view Little) None
  unserved = served_first first told (first_view Little) legal refl

  unbegun : Finished (shown_in first (first_view Little)) first
  unbegun = record { marks = []; endings = none_at_first Little; adds = adds_nothing first legal }

  never : (stop : Stop) → HasCause ask first.seen.base.site idle piece turns start now before after [] [] (log_of unserved unbegun) (ends.Stopped stop)
      → Exchanged ask idle piece turns told first first start now before after (ends.Stopped stop)
  never stop cause = record {
    log = log_of unserved unbegun;
    given = [];
    taken = [];
    adds = adds_all unserved unbegun;
    moments = moments_all unserved unbegun;
    folds = folds_all unserved unbegun;
    few = (omega arith, omega arith);
    begins = record { heard = []; later = events_in []; all = refl; written = tt; front = record { rest = client_bytes ask []; whole = refl } };
    cause = cause;
  }

  pub exchange_never : (stop : Stop) → Puts start now before after (ask.name ++ 10 ∷ []) (Err stop) → Exchanged ask idle piece turns told first first start now before after (ends.Stopped stop)
  exchange_never stops.NoMemory puts =
      never stops.NoMemory (short_cause ask first.seen.base.site start now before after [] [] (log_of unserved unbegun) (talked unserved unbegun [] (front_of [] (first_view Little).pending))
      (record { stopped = never_stopped ask start now before after stops.NoMemory puts; refused = tt }))
  exchange_never stops.Sink puts =
      never stops.Sink (record {
        talked = talked unserved unbegun [] (front_of [] (first_view Little).pending);
        stopped = record { stopped = never_stopped ask start now before after stops.Sink puts; refused = tt };
      })
  exchange_never (stops.Client fault) puts = absurd puts
  exchange_never (stops.Frame fault) puts = absurd puts

  -- memory ran out behind the name, or before it
  pub exchange_short : HasPrinted start now before after (ask.name ++ 10 ∷ []) → Exchanged ask idle piece turns told first first start now before after (ends.Stopped stops.NoMemory)
  exchange_short printed =
      exchange_never stops.NoMemory (part_of_printed printed (record { rest = []; whole = sym (append-nil (ask.name ++ 10 ∷ [])) }), printed.same)

pub exchange_unbegun : (ask : Ask) (idle piece turns : ℕ) (told : Option Moment) (first : Seat) (start : Option (List ℕ)) (before : ℕ) → IsLegal first.seen
    → Exchanged ask idle piece turns told first first start start before before (ends.Stopped stops.NoMemory)
exchange_unbegun ask idle piece turns told first start before legal =
    exchange_never ask idle piece turns told first start start before before legal stops.NoMemory
    (part_of_printed (printed_nothing start before) (record { rest = ask.name ++ 10 ∷ []; whole = refl }), refl)
