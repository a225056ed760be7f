-- An exchange over a link, from call to call.
use Rattle.std.proofs.Common.{◌≡◌, ℕ, ◌+◌, ◌<◌, ◌≤◌, ◌^◌, inl, inr, Bool, true, false, List, [], ◌++◌, length, length-append, length-take, take, Option, None, Some, Ok, Err, refl, sym, ◌∙◌, ap, subst, arith}
use Rattle.std.proofs.lemmas.List.{append-nil}
use Rattle.std.specs.Result.{result_err}
use Rattle.pva_outside.specs.Count.{Rose}
use Rattle.pva_outside.specs.Wire.{Wire, Gave, Idled, Rests}
use Rattle.pva_frames.specs.Assembled.{Assembled, opening as unread}
use Rattle.cli_search.specs.Turning.{RoseBy}
use Rattle.cli_session.specs.Steps.{client_told}
use Rattle.cli_session.specs.Text.{client_text}
use Rattle.cli_session.specs.declared.ask.Ask.{Ask}
use Rattle.srv_stream.specs.Moves.{Moves}
use Rattle.prog_client.specs.Dialing.{HasConversed, IsSound, IsUndone, name_line, said_to}
use Rattle.cli_within.specs.Ends.{Begins, ClientView, HasPrinted, HasTaken, events_in, text_for}
use Rattle.cli_within.specs.Exchanging.{ended_by}
use Rattle.prog_client.specs.LinkCalls.{IsDone, IsDue, IsDueWithin, IsOpen, IsQuiet, ReadOn, ReadsSome, Turns, WritesSome, Wrote, idles_after}
use Rattle.prog_client.specs.declared.dialing.Due.{Due}
use Rattle.prog_client.specs.declared.dialing.Due.TheVariants as dues
use Rattle.prog_client.specs.declared.outcome.Outcome.{Outcome}
use Rattle.prog_client.specs.declared.outcome.Outcome.TheVariants as outcomes
use Rattle.prog_client.specs.declared.outcome.Patience.{Patience}
use Rattle.cli_within.specs.declared.stop.Ending.{Ending}
use Rattle.cli_within.specs.declared.stop.Stop.{Stop}
use Rattle.cli_within.specs.declared.stop.Stop.TheVariants as stops
use Rattle.cli_within.proofs.Hearing.{begins_so}
use Rattle.prog_client.proofs.Moving.{all_read, moves_got, moves_nothing, moves_rest, moves_took}
use Rattle.cli_within.proofs.Printed.{part_of_printed}
use Rattle.srv_stream.proofs.Resting.{rests}

-- What passed so far behind these calls of the link, in the last of which nothing moved so often.
pub record Conversing (ask : Ask) (begin wire : Wire) (start now : Option (List ℕ)) (before after : ℕ) (v : ClientView) (calls idles : ℕ) : Type 0 where
  pub read : List ℕ
  pub written : List ℕ
  pub moves : Moves begin wire read written
  pub took : HasTaken ask read written v
  pub printed : HasPrinted start now before after (text_for ask read)
  pub faults : wire.faults ≡ begin.faults
  pub ends : wire.ends ≡ begin.ends
  pub quota : wire.idles + 1 < 2 ^ 64 → begin.idles + calls ≤ wire.idles + length read + length written
  pub idle : RoseBy idles begin.idles wire.idles

pub conversing_start : (ask : Ask) (wire : Wire) (start now : Option (List ℕ)) (before after : ℕ) (v : ClientView) → HasTaken ask [] [] v → HasPrinted start now before after (name_line ask) → Conversing ask wire wire start now before after v 0 0
conversing_start ask wire start now before after v h p =
    let none : events_in [] ≡ [] = ap (λ (a : Assembled). a.events) (rests unread refl) in
    let text : name_line ask ≡ text_for ask [] = sym (append-nil (name_line ask)) ∙ ap (client_text ask) (sym none) in record {
      read = [];
      written = [];
      moves = moves_nothing wire;
      took = h;
      printed = subst (HasPrinted start now before after) text p;
      faults = refl;
      ends = refl;
      quota = λ small. omega arith;
      idle = record { kept = omega arith; more = λ small. omega arith };
    }

piece_size : {begin end : Wire} {n : ℕ} {buffer : List ℕ} → Gave begin end n buffer → length (take n buffer) ≡ n
piece_size {begin} {end} {n} {buffer} g = let fits : n ≤ length buffer = g.fits in omega (arith, length-take n buffer)

rose_less : {m n old new : ℕ} → m ≤ n → RoseBy n old new → RoseBy m old new
rose_less {m} {n} {old} {new} less r = record { kept = r.kept; more = λ small. let more : old + n ≤ new = r.more small in omega arith }

rose_on : {n old mid new : ℕ} → RoseBy n old mid → Rose mid new → RoseBy (n + 1) old new
rose_on {n} {old} {mid} {new} r s = record {
  kept = omega (arith, r.kept, s.kept);
  more = λ small. let first : old + n ≤ mid = r.more (omega (arith, s.kept)) in let second : mid < new = s.more small in omega arith;
}

module _ {ask : Ask} {begin wire : Wire} {start now : Option (List ℕ)} {before after : ℕ} {v : ClientView} {calls idles : ℕ} (c : Conversing ask begin wire start now before after v calls idles) where
  bytes_are : c.written ++ v.client.output ≡ said_to ask c.read
  bytes_are = c.took.heard.stands.accounts.bytes

  begins : Begins ask c.read c.written
  begins = begins_so ask (events_in c.read) (client_told ask (events_in c.read)) c.written v.client c.took.heard.stands.accounts

  sound : IsSound ask c.read
  sound = record {
    events = c.took.heard.stands.readable;
    headers = λ none. sym (ap result_err c.took.left) ∙ c.took.sound (c.took.heard.ended ∙ none);
  }

  all_written : v.client.output ≡ [] → c.written ≡ said_to ask c.read
  all_written empty = sym (append-nil c.written) ∙ ap (λ (z : List ℕ). c.written ++ z) (sym empty) ∙ bytes_are

  ended_so : {ending : Option Ending} → v.ended ≡ ending → ended_by ask c.read ≡ ending
  ended_so {ending} is = sym c.took.heard.ended ∙ is

  unended : v.client.output ≡ [] → IsOpen v → v.ended ≡ None
  unended empty (inl some) = absurd (omega (arith, ap length empty))
  unended empty (inr none) = none

  undone : IsOpen v → IsUndone ask c.read c.written
  undone (inl some) = inr (record { rest = v.client.output; whole = sym bytes_are; some = some })
  undone (inr none) = inl (ended_so none)

  -- a call in which nothing moved
  idled : (wire2 : Wire) (now2 : Option (List ℕ)) (after2 : ℕ) (w : ClientView) → Idled wire wire2 → w ≡ v → IsQuiet now now2 after after2 → Conversing ask begin wire2 start now2 before after2 w (calls + 1) (idles + 1)
  idled wire2 now2 after2 w i is quiet =
      let rose : Rose wire.idles wire2.idles = i.idles in record {
        read = c.read;
        written = c.written;
        moves = moves_rest c.moves i.rests;
        took = subst (HasTaken ask c.read c.written) (sym is) c.took;
        printed = subst (λ (n : ℕ). HasPrinted start now2 before n (text_for ask c.read)) (sym quiet.faults) (subst (λ (o : Option (List ℕ)). HasPrinted start o before after (text_for ask c.read)) (sym quiet.printed) c.printed);
        faults = i.faults ∙ c.faults;
        ends = i.ends ∙ c.ends;
        quota = λ small. let more : wire.idles < wire2.idles = rose.more small in let quota = c.quota (omega arith) in omega (arith, quota);
        idle = rose_on c.idle rose;
      }

  -- bytes that came
  came : (wire2 : Wire) (now2 : Option (List ℕ)) (after2 : ℕ) (w : ClientView) → ReadOn wire wire2 v w now now2 after after2 (Ok tt) → Conversing ask begin wire2 start now2 before after2 w (calls + 1) 0
  came wire2 now2 after2 w r =
      let x = r.hears ask start before c.read c.written c.took c.printed in
      let size : length (c.read ++ take r.count r.buffer) ≡ length c.read + r.count = length-append c.read (take r.count r.buffer) ∙ ap (λ (n : ℕ). length c.read + n) (piece_size r.gave) in
      let same : wire2.idles ≡ wire.idles = r.gave.counts.idles in record {
        read = c.read ++ take r.count r.buffer;
        written = c.written;
        moves = moves_got c.moves r.gave;
        took = x.0;
        printed = x.1;
        faults = r.gave.counts.faults ∙ c.faults;
        ends = r.gave.counts.ends ∙ c.ends;
        quota = λ small. let quota = c.quota (omega arith) in let some : 0 < r.count = r.gave.some in omega (arith, quota, size);
        idle = let kept : begin.idles ≤ wire.idles = c.idle.kept in record { kept = omega arith; more = λ small. omega arith };
      }

  -- bytes that were taken
  taken : (wire2 : Wire) (now2 : Option (List ℕ)) (after2 : ℕ) (w : ClientView) → Wrote wire wire2 v w → IsQuiet now now2 after after2 → Conversing ask begin wire2 start now2 before after2 w (calls + 1) 0
  taken wire2 now2 after2 w x quiet =
      let bytes = take x.count v.client.output in
      let fits : x.count ≤ length v.client.output = x.taken.fits in
      let size : length (c.written ++ bytes) ≡ length c.written + x.count = length-append c.written bytes ∙ omega (arith, length-take x.count v.client.output) in
      let same : wire2.idles ≡ wire.idles = x.taken.counts.idles in record {
        read = c.read;
        written = c.written ++ bytes;
        moves = moves_took c.moves x.taken;
        took = x.gives ask c.read c.written c.took;
        printed = subst (λ (n : ℕ). HasPrinted start now2 before n (text_for ask c.read)) (sym quiet.faults) (subst (λ (o : Option (List ℕ)). HasPrinted start o before after (text_for ask c.read)) (sym quiet.printed) c.printed);
        faults = x.taken.counts.faults ∙ c.faults;
        ends = x.taken.counts.ends ∙ c.ends;
        quota = λ small. let quota = c.quota (omega arith) in let some : 0 < x.count = x.taken.some in omega (arith, quota, size);
        idle = let kept : begin.idles ≤ wire.idles = c.idle.kept in record { kept = omega arith; more = λ small. omega arith };
      }

  pub conversing_on : (wire2 : Wire) (now2 : Option (List ℕ)) (after2 : ℕ) (w : ClientView) (moved : Bool) → Turns wire wire2 v w now now2 after after2 (Ok moved)
      → Conversing ask begin wire2 start now2 before after2 w (calls + 1) (idles_after idles moved)
  conversing_on wire2 now2 after2 w true (inl x) = came wire2 now2 after2 w x.1
  conversing_on wire2 now2 after2 w false (inl x) = idled wire2 now2 after2 w x.1.idled x.1.view x.1.quiet
  conversing_on wire2 now2 after2 w true (inr x) = taken wire2 now2 after2 w x.1 x.2
  conversing_on wire2 now2 after2 w false (inr x) = idled wire2 now2 after2 w x.1.idled x.1.view x.2

  -- Nothing is due any more.
  pub conversing_ended : (p : Patience) (outcome : Outcome) → IsDue v idles calls p (dues.End outcome) → HasConversed ask p begin wire start now before after outcome
  conversing_ended p (outcomes.Told ending) d = record {
    read = c.read;
    written = c.written;
    moves = c.moves;
    begins = begins;
    cause = record { ended = ended_so d.1; sound = sound; all = all_written d.0; printed = c.printed; faults = c.faults; ends = c.ends };
  }
  conversing_ended p outcomes.Idle d = record {
    read = c.read;
    written = c.written;
    moves = c.moves;
    begins = begins;
    cause = record { undone = undone d.0; sound = sound; idles = rose_less d.1 c.idle; printed = c.printed; faults = c.faults; ends = c.ends };
  }
  conversing_ended p outcomes.Spent d = record {
    read = c.read;
    written = c.written;
    moves = c.moves;
    begins = begins;
    cause = record {
      undone = undone d.0;
      sound = sound;
      bound = λ small. let quota = c.quota small in omega (arith, quota, d.1);
      printed = c.printed;
      faults = c.faults;
      ends = c.ends;
    };
  }
  conversing_ended p (outcomes.Stopped stop) d = absurd d
  conversing_ended p outcomes.Closed d = absurd d
  conversing_ended p outcomes.Failed d = absurd d
  conversing_ended p outcomes.Unfound d = absurd d

  -- A call ended it.

  printed_so : (now2 : Option (List ℕ)) (after2 : ℕ) → IsQuiet now now2 after after2 → HasPrinted start now2 before after2 (text_for ask c.read)
  printed_so now2 after2 quiet =
      subst (λ (n : ℕ). HasPrinted start now2 before n (text_for ask c.read)) (sym quiet.faults) (subst (λ (o : Option (List ℕ)). HasPrinted start o before after (text_for ask c.read)) (sym quiet.printed) c.printed)

  -- without memory, and nothing moved
  short : (p : Patience) (wire2 : Wire) (now2 : Option (List ℕ)) (after2 : ℕ) → Rests wire wire2 → wire2.faults ≡ wire.faults → wire2.ends ≡ wire.ends → IsQuiet now now2 after after2
      → HasConversed ask p begin wire2 start now2 before after2 (outcomes.Stopped stops.NoMemory)
  short p wire2 now2 after2 rests_ faults ends quiet =
      let printed = printed_so now2 after2 quiet in record {
        read = c.read;
        written = c.written;
        moves = moves_rest c.moves rests_;
        begins = begins;
        cause = record {
          stopped = record { stopped = (part_of_printed printed (record { rest = []; whole = sym (append-nil (text_for ask c.read)) }), printed.same); refused = tt };
          faults = faults ∙ c.faults;
          ends = ends ∙ c.ends;
        };
      }

  -- the link failed
  failed : (p : Patience) (wire2 : Wire) (now2 : Option (List ℕ)) (after2 : ℕ) → IsOpen v → Rests wire wire2 → Rose wire.faults wire2.faults → wire2.ends ≡ wire.ends → IsQuiet now now2 after after2
      → HasConversed ask p begin wire2 start now2 before after2 outcomes.Failed
  failed p wire2 now2 after2 open_ rests_ rose ends quiet = record {
    read = c.read;
    written = c.written;
    moves = moves_rest c.moves rests_;
    begins = begins;
    cause = record {
      undone = undone open_;
      sound = sound;
      printed = printed_so now2 after2 quiet;
      faults = subst (λ (n : ℕ). Rose n wire2.faults) c.faults rose;
      ends = ends ∙ c.ends;
    };
  }

  -- the client stopped at a piece
  stopped_at : (p : Patience) (wire2 : Wire) (now2 : Option (List ℕ)) (after2 : ℕ) (w : ClientView) (stop : Stop) → ReadOn wire wire2 v w now now2 after after2 (Err stop)
      → HasConversed ask p begin wire2 start now2 before after2 (outcomes.Stopped stop)
  stopped_at p wire2 now2 after2 w stop r =
      let x = r.hears ask start before c.read c.written c.took c.printed in record {
        read = c.read ++ take r.count r.buffer;
        written = c.written;
        moves = moves_got c.moves r.gave;
        begins = x.1;
        cause = record { stopped = x.0; faults = r.gave.counts.faults ∙ c.faults; ends = r.gave.counts.ends ∙ c.ends };
      }

  read_ended : (p : Patience) (wire2 : Wire) (now2 : Option (List ℕ)) (after2 : ℕ) (w : ClientView) (outcome : Outcome) → v.client.output ≡ [] → v.ended ≡ None → ReadsSome wire wire2 v w now now2 after after2 (Err outcome)
      → HasConversed ask p begin wire2 start now2 before after2 outcome
  read_ended p wire2 now2 after2 w outcomes.Closed empty none r = record {
    read = c.read;
    written = c.written;
    moves = moves_rest c.moves r.0.rests;
    begins = begins;
    cause = record {
      unended = ended_so none;
      sound = sound;
      all_read = all_read begin.left wire.left c.read c.moves.taken r.0.at_end;
      all = all_written empty;
      printed = printed_so now2 after2 r.1;
      faults = r.0.faults ∙ c.faults;
      ends = subst (λ (n : ℕ). Rose n wire2.ends) c.ends r.0.ends;
    };
  }
  read_ended p wire2 now2 after2 w outcomes.Failed empty none r = failed p wire2 now2 after2 (inr none) r.0.rests r.0.faults r.0.ends r.1
  read_ended p wire2 now2 after2 w (outcomes.Stopped stops.NoMemory) empty none (inl r) = stopped_at p wire2 now2 after2 w stops.NoMemory r
  read_ended p wire2 now2 after2 w (outcomes.Stopped stops.NoMemory) empty none (inr r) = short p wire2 now2 after2 r.0.rests r.0.counts.faults r.0.counts.ends r.1
  read_ended p wire2 now2 after2 w (outcomes.Stopped stops.Sink) empty none r = stopped_at p wire2 now2 after2 w stops.Sink r
  read_ended p wire2 now2 after2 w (outcomes.Stopped (stops.Client fault)) empty none r = stopped_at p wire2 now2 after2 w (stops.Client fault) r
  read_ended p wire2 now2 after2 w (outcomes.Stopped (stops.Frame fault)) empty none r = stopped_at p wire2 now2 after2 w (stops.Frame fault) r
  read_ended p wire2 now2 after2 w (outcomes.Told ending) empty none r = absurd r
  read_ended p wire2 now2 after2 w outcomes.Unfound empty none r = absurd r
  read_ended p wire2 now2 after2 w outcomes.Idle empty none r = absurd r
  read_ended p wire2 now2 after2 w outcomes.Spent empty none r = absurd r

  write_ended : (p : Patience) (wire2 : Wire) (now2 : Option (List ℕ)) (after2 : ℕ) (w : ClientView) (outcome : Outcome) → IsOpen v → WritesSome wire wire2 v w (Err outcome) → IsQuiet now now2 after after2
      → HasConversed ask p begin wire2 start now2 before after2 outcome
  write_ended p wire2 now2 after2 w outcomes.Failed open_ x quiet = failed p wire2 now2 after2 open_ x.rests x.faults x.ends quiet
  write_ended p wire2 now2 after2 w (outcomes.Stopped stops.NoMemory) open_ x quiet = short p wire2 now2 after2 x.rests x.counts.faults x.counts.ends quiet
  write_ended p wire2 now2 after2 w (outcomes.Stopped stops.Sink) open_ x quiet = absurd x
  write_ended p wire2 now2 after2 w (outcomes.Stopped (stops.Client fault)) open_ x quiet = absurd x
  write_ended p wire2 now2 after2 w (outcomes.Stopped (stops.Frame fault)) open_ x quiet = absurd x
  write_ended p wire2 now2 after2 w (outcomes.Told ending) open_ x quiet = absurd x
  write_ended p wire2 now2 after2 w outcomes.Closed open_ x quiet = absurd x
  write_ended p wire2 now2 after2 w outcomes.Unfound open_ x quiet = absurd x
  write_ended p wire2 now2 after2 w outcomes.Idle open_ x quiet = absurd x
  write_ended p wire2 now2 after2 w outcomes.Spent open_ x quiet = absurd x

  pub conversing_stopped : (p : Patience) (wire2 : Wire) (now2 : Option (List ℕ)) (after2 : ℕ) (w : ClientView) (outcome : Outcome) → IsOpen v → Turns wire wire2 v w now now2 after after2 (Err outcome)
      → HasConversed ask p begin wire2 start now2 before after2 outcome
  conversing_stopped p wire2 now2 after2 w outcome open_ (inl x) = read_ended p wire2 now2 after2 w outcome x.0 (unended x.0 open_) x.1
  conversing_stopped p wire2 now2 after2 w outcome open_ (inr x) = write_ended p wire2 now2 after2 w outcome open_ x.1 x.2

-- a read at which the client stopped
pub read_stopped : {wire wire2 : Wire} {v w : ClientView} {now now2 : Option (List ℕ)} {after after2 : ℕ} (stop : Stop) → ReadOn wire wire2 v w now now2 after after2 (Err stop) → ReadsSome wire wire2 v w now now2 after after2 (Err (outcomes.Stopped stop))
read_stopped stops.NoMemory r = inl r
read_stopped stops.Sink r = r
read_stopped (stops.Client fault) r = r
read_stopped (stops.Frame fault) r = r

pub idles_within : (idles : ℕ) (moved : Bool) (most : ℕ) → idles < most → idles_after idles moved ≤ most
idles_within idles true most less = omega arith
idles_within idles false most less = omega arith

-- how an operation ended behind which nothing is to be written
pub done_so : (v : ClientView) (ended : Option Ending) → v.client.output ≡ [] → ended ≡ v.ended → IsDone v ended
done_so v (Some ending) empty is = (empty, sym is)
done_so v None empty is = inr (sym is)

-- what is due on a link that is open
pub due_so : (v : ClientView) (idles calls : ℕ) (p : Patience) (due : Due) → IsOpen v → IsDueWithin idles calls p due → IsDue v idles calls p due
due_so v idles calls p dues.Call open_ d = (open_, d.0, d.1)
due_so v idles calls p (dues.End outcomes.Idle) open_ d = (open_, d)
due_so v idles calls p (dues.End outcomes.Spent) open_ d = (open_, d)
due_so v idles calls p (dues.End (outcomes.Told ending)) open_ d = absurd d
due_so v idles calls p (dues.End (outcomes.Stopped stop)) open_ d = absurd d
due_so v idles calls p (dues.End outcomes.Closed) open_ d = absurd d
due_so v idles calls p (dues.End outcomes.Failed) open_ d = absurd d
due_so v idles calls p (dues.End outcomes.Unfound) open_ d = absurd d
