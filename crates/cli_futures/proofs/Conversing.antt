-- An exchange over a link, from call to call.
use Rattle.std.proofs.Common.{◌≡◌, ◌⊎◌, ℕ, ◌+◌, ◌<◌, ◌≤◌, ◌^◌, inl, inr, Bool, true, false, List, [], ◌∷◌, ◌++◌, length, length-append, length-take, take, Option, None, Some, Result, Ok, Err, refl, sym, ◌∙◌, ap, subst, arith}
use Rattle.std.proofs.lemmas.List.{append-nil}
use Rattle.std.specs.Io.KnownBytes.{Keeps}
use Rattle.histories.specs.History.{IsPrefixOf}
use Rattle.pva_outside.specs.Count.{Rose}
use Rattle.pva_outside.specs.Wire.{Wire, Gave, Idled, Rests}
use Rattle.cli_session.specs.Steps.{Told}
use Rattle.cli_session.specs.Text.{text_of}
use Rattle.cli_session.specs.declared.ask.Ask.{Ask}
use Rattle.cli_futures.specs.Exchanging.{Conversing, Exchanged, HasExchanged, IsUndone}
use Rattle.cli_futures.specs.LinkCalls.{Calls, IsDue, IsDueWithin, IsOpen, ReadOn, ReadsSome, WritesSome, Wrote, idles_after}
use Rattle.cli_futures.specs.Moves.{Moves, RoseBy}
use Rattle.cli_futures.specs.Taking.{ClientView, HasStopped, HasTaken, IsStop, IsWaiting, has_end, said_to, told_to}
use Rattle.cli_futures.specs.Turning.{CountsBy, EndsBy, Ran, Rested}
use Rattle.cli_futures.specs.declared.due.Due.{Due}
use Rattle.cli_futures.specs.declared.due.Due.TheVariants as dues
use Rattle.cli_futures.specs.declared.end.ExchangeEnd.{ExchangeEnd}
use Rattle.cli_futures.specs.declared.end.ExchangeEnd.TheVariants as ends
use Rattle.cli_futures.specs.declared.end.Patience.{Patience}
use Rattle.cli_futures.proofs.Moving.{all_read, moves_got, moves_nothing, moves_rest, moves_took}
use Rattle.cli_futures.proofs.Taken.{all_said, all_told, fed_more, is_sound, said_front, told_front}

pub conversing_start : (ask : Ask) (wire : Wire) (v : ClientView) → HasTaken ask [] [] [] v → Conversing ask wire wire [] v 0 0
conversing_start ask wire v h = record {
  read = [];
  written = [];
  moves = moves_nothing wire;
  taken = h;
  faults = refl;
  ends = refl;
  quota = λ small. omega arith;
  idle = record { kept = omega arith; more = λ small. omega arith };
}

piece_size : {begin end : Wire} {n : ℕ} {buffer : List ℕ} → Gave begin end n buffer → length (take n buffer) ≡ n
piece_size {begin} {end} {n} {buffer} g = let fits : n ≤ length buffer = g.fits in omega (arith, length-take n buffer)

rose_less : {m n old new : ℕ} → m ≤ n → RoseBy n old new → RoseBy m old new
rose_less {m} {n} {old} {new} less r = record { kept = r.kept; more = λ small. let more : old + n ≤ new = r.more small in omega arith }

rose_on : {n old mid new : ℕ} → RoseBy n old mid → Rose mid new → RoseBy (n + 1) old new
rose_on {n} {old} {mid} {new} r s = record {
  kept = omega (arith, r.kept, s.kept);
  more = λ small. let first : old + n ≤ mid = r.more (omega (arith, s.kept)) in let second : mid < new = s.more small in omega arith;
}

-- What was told changes with the client alone.
pub with_taken : {ask : Ask} {begin wire : Wire} {told : List Told} {v : ClientView} {calls idles : ℕ} (c : Conversing ask begin wire told v calls idles) → (told2 : List Told) (w : ClientView) → HasTaken ask c.read c.written told2 w → Conversing ask begin wire told2 w calls idles
with_taken c told2 w h = record { read = c.read; written = c.written; moves = c.moves; taken = h; faults = c.faults; ends = c.ends; quota = c.quota; idle = c.idle }

module _ {ask : Ask} {begin wire : Wire} {told : List Told} {v : ClientView} {calls idles : ℕ} (c : Conversing ask begin wire told v calls idles) where
  begins : IsPrefixOf c.written (said_to ask c.read)
  begins = said_front c.taken

  -- The client stopped.
  pub conversing_stop : (p : Patience) (end : ExchangeEnd) → HasStopped ask c.read c.written told end → HasExchanged ask p begin wire told end
  conversing_stop p (ends.Frame fault) s = record { read = c.read; written = c.written; moves = c.moves; begins = s.begins; cause = record { stopped = s.stopped; faults = c.faults; ends = c.ends } }
  conversing_stop p (ends.Client fault) s = record { read = c.read; written = c.written; moves = c.moves; begins = s.begins; cause = record { stopped = s.stopped; faults = c.faults; ends = c.ends } }
  conversing_stop p ends.NoMemory s = record { read = c.read; written = c.written; moves = c.moves; begins = s.begins; cause = record { stopped = s.stopped; faults = c.faults; ends = c.ends } }
  conversing_stop p ends.Done s = absurd s.stopped
  conversing_stop p ends.EarlyEnd s = absurd s.stopped
  conversing_stop p ends.LinkFault s = absurd s.stopped
  conversing_stop p (ends.IdleLimit n) s = absurd s.stopped
  conversing_stop p (ends.Spent n) s = absurd s.stopped

  -- a call in which nothing moved
  idled : (wire2 : Wire) (w : ClientView) → Idled wire wire2 → w ≡ v → Conversing ask begin wire2 told w (calls + 1) (idles + 1)
  idled wire2 w i is = let rose : Rose wire.idles wire2.idles = i.idles in record {
    read = c.read;
    written = c.written;
    moves = moves_rest c.moves i.rests;
    taken = subst (HasTaken ask c.read c.written told) (sym is) c.taken;
    faults = i.faults ∙ c.faults;
    ends = i.ends ∙ c.ends;
    quota = λ small. let more : wire.idles < wire2.idles = rose.more small in let quota = c.quota (omega arith) in omega (arith, quota);
    idle = rose_on c.idle rose;
  }

  -- bytes that came
  came : (wire2 : Wire) (w : ClientView) → ReadOn wire wire2 v w → Conversing ask begin wire2 told w (calls + 1) 0
  came wire2 w r =
      let size : length (c.read ++ take r.count r.buffer) ≡ length c.read + r.count = length-append c.read (take r.count r.buffer) ∙ ap (λ (n : ℕ). length c.read + n) (piece_size r.gave) in
      let same : wire2.idles ≡ wire.idles = r.gave.counts.idles in record {
        read = c.read ++ take r.count r.buffer;
        written = c.written;
        moves = moves_got c.moves r.gave;
        taken = fed_more c.taken (take r.count r.buffer) w r.view;
        faults = r.gave.counts.faults ∙ c.faults;
        ends = r.gave.counts.ends ∙ c.ends;
        quota = λ small. let quota = c.quota (omega arith) in let some : 0 < r.count = r.gave.some in omega (arith, quota, size);
        idle = let kept : begin.idles ≤ wire.idles = c.idle.kept in record { kept = omega arith; more = λ small. omega arith };
      }

  -- bytes that were taken
  wrote : (wire2 : Wire) (w : ClientView) → Wrote wire wire2 v w → Conversing ask begin wire2 told w (calls + 1) 0
  wrote wire2 w x =
      let bytes = take x.count v.client.output in
      let fits : x.count ≤ length v.client.output = x.taken.fits in
      let size : length (c.written ++ bytes) ≡ length c.written + x.count = length-append c.written bytes ∙ omega (arith, length-take x.count v.client.output) in
      let same : wire2.idles ≡ wire.idles = x.taken.counts.idles in record {
        read = c.read;
        written = c.written ++ bytes;
        moves = moves_took c.moves x.taken;
        taken = x.keeps ask c.read c.written told c.taken;
        faults = x.taken.counts.faults ∙ c.faults;
        ends = x.taken.counts.ends ∙ c.ends;
        quota = λ small. let quota = c.quota (omega arith) in let some : 0 < x.count = x.taken.some in omega (arith, quota, size);
        idle = let kept : begin.idles ≤ wire.idles = c.idle.kept in record { kept = omega arith; more = λ small. omega arith };
      }

  pub conversing_on : (wire2 : Wire) (w : ClientView) (moved : Bool) → Calls wire wire2 v w (Ok moved) → Conversing ask begin wire2 told w (calls + 1) (idles_after idles moved)
  conversing_on wire2 w true (inl x) = came wire2 w x.1
  conversing_on wire2 w false (inl x) = idled wire2 w x.1.idled x.1.view
  conversing_on wire2 w true (inr x) = wrote wire2 w x.1
  conversing_on wire2 w false (inr x) = idled wire2 w x.1.idled x.1.view

  -- Where all that was told was handed out.

  module _ (waits : IsWaiting v) where
    exchanged : Exchanged ask c.read told
    exchanged = let all = all_told c.taken waits.heard waits.told in record { told = all; text = ap (text_of ask) all }

    over_is : has_end (told_to ask c.read) ≡ v.over
    over_is = ap has_end (sym (all_told c.taken waits.heard waits.told)) ∙ sym c.taken.over

    all_written : v.client.output ≡ [] → c.written ≡ said_to ask c.read
    all_written empty = sym (append-nil c.written) ∙ ap (λ (z : List ℕ). c.written ++ z) (sym empty) ∙ all_said c.taken waits.heard

    less_written : 0 < length v.client.output → length c.written < length (said_to ask c.read)
    less_written some =
        let all : length c.written + length v.client.output ≡ length (said_to ask c.read) = sym (length-append c.written v.client.output) ∙ ap length (all_said c.taken waits.heard) in
        omega (arith, all, some)

    undone : IsOpen v → IsUndone ask c.read c.written
    undone (inl some) = inr (less_written some)
    undone (inr none) = inl (over_is ∙ none)

    unended : v.client.output ≡ [] → IsOpen v → v.over ≡ false
    unended empty (inl some) = absurd (omega (arith, ap length empty, some))
    unended empty (inr none) = none

    -- Nothing is due any more.
    pub conversing_ended : (p : Patience) (end : ExchangeEnd) → IsDue v idles calls p (dues.End end) → HasExchanged ask p begin wire told end
    conversing_ended p ends.Done d = record {
      read = c.read;
      written = c.written;
      moves = c.moves;
      begins = begins;
      cause = record { ended = over_is ∙ d.1; all = all_written d.0; sound = is_sound c.taken waits; exchanged = exchanged; faults = c.faults; ends = c.ends };
    }
    conversing_ended p (ends.IdleLimit n) d = record {
      read = c.read;
      written = c.written;
      moves = c.moves;
      begins = begins;
      cause = record {
        limit = d.1;
        undone = undone d.0;
        sound = is_sound c.taken waits;
        idles = rose_less (omega (arith, d.1, d.2)) c.idle;
        exchanged = exchanged;
        faults = c.faults;
        ends = c.ends;
      };
    }
    conversing_ended p (ends.Spent n) d = record {
      read = c.read;
      written = c.written;
      moves = c.moves;
      begins = begins;
      cause = record {
        limit = d.1;
        undone = undone d.0;
        sound = is_sound c.taken waits;
        bound = λ small. let quota = c.quota small in omega (arith, quota, d.1, d.2);
        exchanged = exchanged;
        faults = c.faults;
        ends = c.ends;
      };
    }
    conversing_ended p ends.EarlyEnd d = absurd d
    conversing_ended p ends.LinkFault d = absurd d
    conversing_ended p (ends.Frame fault) d = absurd d
    conversing_ended p (ends.Client fault) d = absurd d
    conversing_ended p ends.NoMemory d = absurd d

    -- A call ended it.

    -- the link failed
    failed : (p : Patience) (wire2 : Wire) → IsOpen v → Rests wire wire2 → Rose wire.faults wire2.faults → wire2.ends ≡ wire.ends → HasExchanged ask p begin wire2 told ends.LinkFault
    failed p wire2 open_ rests_ rose same = record {
      read = c.read;
      written = c.written;
      moves = moves_rest c.moves rests_;
      begins = begins;
      cause = record {
        undone = undone open_;
        sound = is_sound c.taken waits;
        exchanged = exchanged;
        faults = subst (λ (n : ℕ). Rose n wire2.faults) c.faults rose;
        ends = same ∙ c.ends;
      };
    }

    -- without memory, and nothing moved
    short : (p : Patience) (wire2 : Wire) → Rests wire wire2 → wire2.faults ≡ wire.faults → wire2.ends ≡ wire.ends → HasExchanged ask p begin wire2 told ends.NoMemory
    short p wire2 rests_ faults same = record {
      read = c.read;
      written = c.written;
      moves = moves_rest c.moves rests_;
      begins = begins;
      cause = record { stopped = told_front c.taken; faults = faults ∙ c.faults; ends = same ∙ c.ends };
    }

    -- or a piece came
    short_read : (p : Patience) (wire2 : Wire) (n : ℕ) (buffer : List ℕ) → Gave wire wire2 n buffer → HasExchanged ask p begin wire2 told ends.NoMemory
    short_read p wire2 n buffer gave =
        let h = fed_more c.taken (take n buffer) _ refl in record {
          read = c.read ++ take n buffer;
          written = c.written;
          moves = moves_got c.moves gave;
          begins = said_front h;
          cause = record { stopped = told_front h; faults = gave.counts.faults ∙ c.faults; ends = gave.counts.ends ∙ c.ends };
        }

    read_ended : (p : Patience) (wire2 : Wire) (w : ClientView) (end : ExchangeEnd) → v.client.output ≡ [] → v.over ≡ false → ReadsSome wire wire2 v w (Err end) → HasExchanged ask p begin wire2 told end
    read_ended p wire2 w ends.EarlyEnd empty none r = record {
      read = c.read;
      written = c.written;
      moves = moves_rest c.moves r.rests;
      begins = begins;
      cause = record {
        unended = over_is ∙ none;
        all_read = all_read begin.left wire.left c.read c.moves.taken r.at_end;
        all = all_written empty;
        sound = is_sound c.taken waits;
        exchanged = exchanged;
        faults = r.faults ∙ c.faults;
        ends = subst (λ (n : ℕ). Rose n wire2.ends) c.ends r.ends;
      };
    }
    read_ended p wire2 w ends.LinkFault empty none r = failed p wire2 (inr none) r.rests r.faults r.ends
    read_ended p wire2 w ends.NoMemory empty none (inl r) = short_read p wire2 r.count r.buffer r.gave
    read_ended p wire2 w ends.NoMemory empty none (inr r) = short p wire2 r.rests r.counts.faults r.counts.ends
    read_ended p wire2 w ends.Done empty none r = absurd r
    read_ended p wire2 w (ends.IdleLimit n) empty none r = absurd r
    read_ended p wire2 w (ends.Spent n) empty none r = absurd r
    read_ended p wire2 w (ends.Frame fault) empty none r = absurd r
    read_ended p wire2 w (ends.Client fault) empty none r = absurd r

    write_ended : (p : Patience) (wire2 : Wire) (w : ClientView) (end : ExchangeEnd) → IsOpen v → WritesSome wire wire2 v w (Err end) → HasExchanged ask p begin wire2 told end
    write_ended p wire2 w ends.LinkFault open_ x = failed p wire2 open_ x.rests x.faults x.ends
    write_ended p wire2 w ends.NoMemory open_ x = short p wire2 x.rests x.counts.faults x.counts.ends
    write_ended p wire2 w ends.EarlyEnd open_ x = absurd x
    write_ended p wire2 w ends.Done open_ x = absurd x
    write_ended p wire2 w (ends.IdleLimit n) open_ x = absurd x
    write_ended p wire2 w (ends.Spent n) open_ x = absurd x
    write_ended p wire2 w (ends.Frame fault) open_ x = absurd x
    write_ended p wire2 w (ends.Client fault) open_ x = absurd x

    pub conversing_stopped : (p : Patience) (wire2 : Wire) (w : ClientView) (end : ExchangeEnd) → IsOpen v → Calls wire wire2 v w (Err end) → HasExchanged ask p begin wire2 told end
    conversing_stopped p wire2 w end open_ (inl x) = read_ended p wire2 w end x.0 (unended x.0 open_) x.1
    conversing_stopped p wire2 w end open_ (inr x) = write_ended p wire2 w end open_ x.1

-- what is due on a link that is open
pub due_so : (v : ClientView) (idles calls : ℕ) (p : Patience) (due : Due) → IsOpen v → IsDueWithin idles calls p due → IsDue v idles calls p due
due_so v idles calls p dues.Call open_ d = (open_, d.0, d.1)
due_so v idles calls p (dues.End (ends.IdleLimit n)) open_ d = (open_, d.0, d.1)
due_so v idles calls p (dues.End (ends.Spent n)) open_ d = (open_, d.0, d.1)
due_so v idles calls p (dues.End ends.Done) open_ d = absurd d
due_so v idles calls p (dues.End ends.EarlyEnd) open_ d = absurd d
due_so v idles calls p (dues.End ends.LinkFault) open_ d = absurd d
due_so v idles calls p (dues.End (ends.Frame fault)) open_ d = absurd d
due_so v idles calls p (dues.End (ends.Client fault)) open_ d = absurd d
due_so v idles calls p (dues.End ends.NoMemory) open_ d = absurd d

-- How often in a row the link was idle.

pub ran_none : (w : Wire) (n : ℕ) → Ran w w n n
ran_none w n = record { idles_same = refl; since = inl (refl, refl) }

ran_since : {a b c : Wire} {i j k : ℕ} → ((b ≡ a) × (j ≡ i)) ⊎ (j ≡ 0) → ((c ≡ b) × (k ≡ j)) ⊎ (k ≡ 0) → ((c ≡ a) × (k ≡ i)) ⊎ (k ≡ 0)
ran_since x (inr zero_) = inr zero_
ran_since (inl x) (inl y) = inl (y.0 ∙ x.0, y.1 ∙ x.1)
ran_since (inr x) (inl y) = inr (y.1 ∙ x)

pub ran_on : {a b c : Wire} {i j k : ℕ} → Ran a b i j → Ran b c j k → Ran a c i k
ran_on x y = record { idles_same = y.idles_same ∙ x.idles_same; since = ran_since x.since y.since }

pub ran_so : (a b : Wire) (i j : ℕ) (moved : Bool) → moved ≡ true → CountsBy a b i j (Ok moved) → Ran a b i j
ran_so a b i j true is x = x
ran_so a b i j false is x = cc

pub rested_so : (a b : Wire) (i j : ℕ) (moved : Bool) → moved ≡ false → CountsBy a b i j (Ok moved) → Rested a b i j
rested_so a b i j true is x = cc
rested_so a b i j false is x = x

rested_since : {a b c : Wire} {i j k : ℕ} → ((b ≡ a) × (j ≡ i)) ⊎ (j ≡ 0) → (k ≡ 1) ⊎ ((k ≡ j + 1) × Rests b c) → (k ≡ 1) ⊎ ((k ≡ i + 1) × Rests a c)
rested_since x (inl one) = inl one
rested_since {a} {b} {c} {i} {j} {k} (inl x) (inr y) = inr (y.0 ∙ ap (λ (n : ℕ). n + 1) x.1, subst (λ (w : Wire). Rests w c) x.0 y.1)
rested_since {a} {b} {c} {i} {j} {k} (inr x) (inr y) = inl (y.0 ∙ ap (λ (n : ℕ). n + 1) x)

pub rested_on : {a b c : Wire} {i j k : ℕ} → Ran a b i j → Rested b c j k → Rested a c i k
rested_on {a} {b} {c} {i} {j} {k} x y = record { rose = subst (λ (n : ℕ). Rose n c.idles) x.idles_same y.rose; since = rested_since x.since y.since }

limit_since : (a b c : Wire) (i j n : ℕ) → ((b ≡ a) × (j ≡ i)) ⊎ (j ≡ 0) → (1 ≤ n) × (n ≤ j) × Rests b c → (1 ≤ n) × (n ≤ i) × Rests a c
limit_since a b c i j n (inl x) y = (y.0, omega (arith, x.1, y.1), subst (λ (w : Wire). Rests w c) x.0 y.2)
limit_since a b c i j n (inr x) y = absurd (omega (arith, x, y.0, y.1))

pub ends_on : (a b c : Wire) (i j : ℕ) (end : ExchangeEnd) → Ran a b i j → EndsBy b c j end → EndsBy a c i end
ends_on a b c i j (ends.IdleLimit n) x y = limit_since a b c i j n x.since y
ends_on a b c i j ends.Done x y = tt
ends_on a b c i j ends.EarlyEnd x y = tt
ends_on a b c i j ends.LinkFault x y = tt
ends_on a b c i j (ends.Spent n) x y = tt
ends_on a b c i j (ends.Frame fault) x y = tt
ends_on a b c i j (ends.Client fault) x y = tt
ends_on a b c i j ends.NoMemory x y = tt

-- no byte moved where no call was made
keeps_same : (known : Option (List ℕ)) → Keeps known known
keeps_same None = tt
keeps_same (Some bytes) = refl

rests_same : (w : Wire) → Rests w w
rests_same w = record { left = keeps_same w.left; written = keeps_same w.written }

-- what a call of the link does to the count
pub counts_on : (begin end : Wire) (v w : ClientView) (idles idles' : ℕ) (moved : Bool) → Calls begin end v w (Ok moved) → idles' ≡ idles_after idles moved → CountsBy begin end idles idles' (Ok moved)
counts_on begin end v w idles idles' true (inl x) is = record { idles_same = x.1.gave.counts.idles; since = inr is }
counts_on begin end v w idles idles' true (inr x) is = record { idles_same = x.1.taken.counts.idles; since = inr is }
counts_on begin end v w idles idles' false (inl x) is = record { rose = x.1.idled.idles; since = inr (is, x.1.idled.rests) }
counts_on begin end v w idles idles' false (inr x) is = record { rose = x.1.idled.idles; since = inr (is, x.1.idled.rests) }

-- no call reaches the limit
pub counts_stopped : (begin end : Wire) (v w : ClientView) (idles : ℕ) (result : ExchangeEnd) → Calls begin end v w (Err result) → EndsBy begin end idles result
counts_stopped begin end v w idles (ends.IdleLimit n) (inl x) = absurd x.1
counts_stopped begin end v w idles (ends.IdleLimit n) (inr x) = absurd x.1
counts_stopped begin end v w idles ends.Done x = tt
counts_stopped begin end v w idles ends.EarlyEnd x = tt
counts_stopped begin end v w idles ends.LinkFault x = tt
counts_stopped begin end v w idles (ends.Spent n) x = tt
counts_stopped begin end v w idles (ends.Frame fault) x = tt
counts_stopped begin end v w idles (ends.Client fault) x = tt
counts_stopped begin end v w idles ends.NoMemory x = tt

-- nor does the client
pub stop_ends : (begin end : Wire) (idles : ℕ) (result : ExchangeEnd) → IsStop result → EndsBy begin end idles result
stop_ends begin end idles (ends.IdleLimit n) x = absurd x
stop_ends begin end idles ends.Done x = absurd x
stop_ends begin end idles ends.EarlyEnd x = absurd x
stop_ends begin end idles ends.LinkFault x = absurd x
stop_ends begin end idles (ends.Spent n) x = absurd x
stop_ends begin end idles (ends.Frame fault) x = tt
stop_ends begin end idles (ends.Client fault) x = tt
stop_ends begin end idles ends.NoMemory x = tt

-- it is reached where the link was idle so often
pub counts_ended : (w : Wire) (v : ClientView) (idles calls : ℕ) (p : Patience) (result : ExchangeEnd) → 1 ≤ p.idle → IsDue v idles calls p (dues.End result) → EndsBy w w idles result
counts_ended w v idles calls p (ends.IdleLimit n) some d = (omega (arith, d.1, some), omega (arith, d.1, d.2), rests_same w)
counts_ended w v idles calls p ends.Done some d = tt
counts_ended w v idles calls p ends.EarlyEnd some d = tt
counts_ended w v idles calls p ends.LinkFault some d = tt
counts_ended w v idles calls p (ends.Spent n) some d = tt
counts_ended w v idles calls p (ends.Frame fault) some d = tt
counts_ended w v idles calls p (ends.Client fault) some d = tt
counts_ended w v idles calls p ends.NoMemory some d = tt

pub idles_within : (idles : ℕ) (moved : Bool) (most : ℕ) → idles < most → idles_after idles moved ≤ most
idles_within idles true most less = omega arith
idles_within idles false most less = omega arith
