-- The causes of the exit statuses.
use Rattle.std.proofs.Common.{◌≡◌, ℕ, ◌+◌, ◌<◌, ◌≤◌, ◌^◌, inl, inr, List, [], length, Option, None, Some, Err, refl, sym, ◌∙◌, ap, subst, arith}
use Rattle.std.proofs.lemmas.List.{append-nil}
use Rattle.std.proofs.lemmas.List.Sums.{count_by-le-length}
use Rattle.pva_outside.specs.Count.{Rose}
use Rattle.pva_outside.specs.Counted.{counted}
use Rattle.pva_outside.specs.Dials.{DialerView, HasDialed, with_link_back}
use Rattle.pva_outside.specs.Traffic.{DatagramsView, Traffic}
use Rattle.pva_outside.specs.Wire.{Wire}
use Rattle.pva_outside.specs.declared.peer.Peer.{Peer}
use Rattle.cli_search.specs.Searching.{Searches}
use Rattle.cli_search.specs.Turning.{RoseBy, and_all, is_nothing, nothings}
use Rattle.cli_search.specs.declared.plan.Searched.{Searched}
use Rattle.cli_search.specs.declared.plan.Searched.TheVariants as ends
use Rattle.cli_session.specs.declared.ask.Ask.{Ask}
use Rattle.cli_session.specs.declared.fault.ClientFault.{ClientFault}
use Rattle.cli_session.specs.declared.fault.ClientFault.TheVariants as faults
use Rattle.srv_stream.specs.Moves.{Moves}
use Rattle.prog_client.specs.Dialing.{AtClosed, AtTold, HasOperated, IsSound, IsUndialed, Operates, name_line}
use Rattle.prog_client.specs.Networking.{GoesOn, Seeks, patience_left, plan_of, status_of}
use Rattle.cli_within.specs.Running.{status_of_fault, status_of_stop}
use Rattle.cli_within.specs.Ends.{HasPrinted, text_for}
use Rattle.prog_client.specs.Statuses.{FaultlessRunsEnd, HasBadBytes, HasBadWords, HasReadBad, IsCause, IsClosed, IsSearchedInVain, IsSpent, IsWhole, MayEnd, MaySearch, MeetsNoFault, StatusesHaveCauses, datagrams_in}
use Rattle.cli_within.specs.Telling.{Puts}
use Rattle.prog_client.specs.declared.networking.Route.{Route}
use Rattle.prog_client.specs.declared.networking.Route.TheVariants as routes
use Rattle.prog_client.specs.declared.outcome.Outcome.{Outcome}
use Rattle.prog_client.specs.declared.outcome.Outcome.TheVariants as outcomes
use Rattle.prog_client.specs.declared.outcome.Patience.{Patience}
use Rattle.cli_within.specs.declared.stop.Ending.{Ending}
use Rattle.cli_within.specs.declared.stop.Ending.TheVariants as endings
use Rattle.cli_within.specs.declared.stop.Status.{Status}
use Rattle.cli_within.specs.declared.stop.Status.TheVariants as status
use Rattle.cli_within.specs.declared.stop.Stop.{Stop}
use Rattle.cli_within.specs.declared.stop.Stop.TheVariants as stops

-- Counts of a link that was taken back.

rose_counted : (from n : ℕ) → Rose 0 n → Rose from (counted from n)
rose_counted from n r = record {
  kept = omega arith;
  more = λ small. let more : n + 1 < 2 ^ 64 → 0 < n = r.more in omega arith;
}

rose_by_counted : (most from n : ℕ) → RoseBy most 0 n → RoseBy most from (counted from n)
rose_by_counted most from n r = record {
  kept = omega arith;
  more = λ small. let more : n + 1 < 2 ^ 64 → 0 + most ≤ n = r.more in omega arith;
}

-- where a count hasn't come to its end, it rose by what it was to
counted_by : (from n : ℕ) → counted from n + 1 < 2 ^ 64 → counted from n ≡ from + n
counted_by from n small = omega arith

module _ {old dialed new : DialerView} {begin : Wire} (end : Wire) {to : Peer} (dials : HasDialed old dialed begin to) (back : new ≡ with_link_back dialed end) where
  back_faults : Rose begin.faults end.faults → Rose old.link_faults new.link_faults
  back_faults rose =
      let is : new.link_faults ≡ counted old.link_faults end.faults = ap (λ (d : DialerView). d.link_faults) back ∙ ap (λ (d : DialerView). counted d.link_faults end.faults) dials.others in
      subst (Rose old.link_faults) (sym is) (rose_counted old.link_faults end.faults (subst (λ (n : ℕ). Rose n end.faults) dials.fresh.faults rose))

  back_ends : Rose begin.ends end.ends → Rose old.link_ends new.link_ends
  back_ends rose =
      let is : new.link_ends ≡ counted old.link_ends end.ends = ap (λ (d : DialerView). d.link_ends) back ∙ ap (λ (d : DialerView). counted d.link_ends end.ends) dials.others in
      subst (Rose old.link_ends) (sym is) (rose_counted old.link_ends end.ends (subst (λ (n : ℕ). Rose n end.ends) dials.fresh.ends rose))

  idles_are : new.link_idles ≡ counted old.link_idles end.idles
  idles_are = ap (λ (d : DialerView). d.link_idles) back ∙ ap (λ (d : DialerView). counted d.link_idles end.idles) dials.others

  -- the turns of a link, by the counts of its dialer
  back_bound : (turns moved : ℕ) → (end.idles + 1 < 2 ^ 64 → begin.idles + turns ≤ end.idles + moved) → new.link_idles + 1 < 2 ^ 64 → old.link_idles + turns ≤ new.link_idles + moved
  back_bound turns moved bound small =
      let sum : counted old.link_idles end.idles ≡ old.link_idles + end.idles = counted_by old.link_idles end.idles (subst (λ (n : ℕ). n + 1 < 2 ^ 64) idles_are small) in
      let fresh : begin.idles ≡ 0 = dials.fresh.idles in
      let is : new.link_idles ≡ old.link_idles + end.idles = idles_are ∙ sum in
      let here : begin.idles + turns ≤ end.idles + moved = bound (omega arith) in omega arith

  back_idles : (most : ℕ) → RoseBy most begin.idles end.idles → RoseBy most old.link_idles new.link_idles
  back_idles most rose =
      let is : new.link_idles ≡ counted old.link_idles end.idles = ap (λ (d : DialerView). d.link_idles) back ∙ ap (λ (d : DialerView). counted d.link_idles end.idles) dials.others in
      subst (RoseBy most old.link_idles) (sym is) (rose_by_counted most old.link_idles end.idles (subst (λ (n : ℕ). RoseBy most n end.idles) dials.fresh.idles rose))

-- Over a link, behind a search or none, which left it so many turns.

record Left (p q : Patience) (d d' : DatagramsView) : Type 0 where
  same : q.idle ≡ p.idle
  traffic : List Traffic
  traffic_is : d'.traffic ≡ and_all d.traffic traffic
  bound : d'.idles + 1 < 2 ^ 64 → d.idles + p.turns ≤ d'.idles + datagrams_in traffic + q.turns

left_none : (p : Patience) (d : DatagramsView) → Left p p d d
left_none p d = record { same = refl; traffic = []; traffic_is = told_none d.traffic; bound = λ small. omega arith }
  where
    told_none : (told : Option (List Traffic)) → told ≡ and_all told []
    told_none None = refl
    told_none (Some all) = ap (λ (l : List Traffic). Some l) (sym (append-nil all))

-- the traffic of a search, by the counts of its datagrams
search_bound : (traffic : List Traffic) (d d' : DatagramsView) → RoseBy (nothings traffic) d.idles d'.idles → d'.idles + 1 < 2 ^ 64 → d.idles + length traffic ≤ d'.idles + datagrams_in traffic
search_bound traffic d d' rose small =
    let some : nothings traffic ≤ length traffic = count_by-le-length is_nothing traffic in
    let more : d.idles + nothings traffic ≤ d'.idles = rose.more small in omega arith

module _ (ask : Ask) (route : Route) (p q : Patience) (d d' : DatagramsView) (left : Left p q d d') (old new : DialerView) (start now : Option (List ℕ)) (before after : ℕ) where
  -- the client stopped at what was read
  read_bad : (to : Peer) (stop : Stop) (IsBad : Ask → List ℕ → Type 0) → (o : HasOperated ask q to old new start now before after (outcomes.Stopped stop)) → IsBad ask o.conversed.read
      → HasPrinted start now before after (text_for ask o.conversed.read) → HasReadBad ask IsBad old new start now before after
  read_bad to stop IsBad o bad printed = record {
    read = o.conversed.read;
    written = o.conversed.written;
    moved = record { to = to; begin = o.begin; end = o.end; dialed = o.dialed; dials = o.dials; back = o.back; moves = o.conversed.moves };
    begins = o.conversed.begins;
    bad = bad;
    printed = printed;
  }

  client_cause : (to : Peer) (fault : ClientFault) → HasOperated ask q to old new start now before after (outcomes.Stopped (stops.Client fault)) → IsCause ask route p d d' old new start now before after (status_of_fault fault)
  client_cause to (faults.Words text) o = let s = o.conversed.cause.stopped.stopped in read_bad to (stops.Client (faults.Words text)) HasBadWords o (text, s.1) s.0
  client_cause to faults.NoMemory o = tt
  client_cause to (faults.UnknownReply id) o = let s = o.conversed.cause.stopped.stopped in read_bad to (stops.Client (faults.UnknownReply id)) HasBadBytes o (inl (faults.UnknownReply id, s.1, refl)) s.0
  client_cause to (faults.WrongCommand have came) o = let s = o.conversed.cause.stopped.stopped in read_bad to (stops.Client (faults.WrongCommand have came)) HasBadBytes o (inl (faults.WrongCommand have came, s.1, refl)) s.0
  client_cause to (faults.WrongPhase command) o = let s = o.conversed.cause.stopped.stopped in read_bad to (stops.Client (faults.WrongPhase command)) HasBadBytes o (inl (faults.WrongPhase command, s.1, refl)) s.0
  client_cause to (faults.Message fault) o = let s = o.conversed.cause.stopped.stopped in read_bad to (stops.Client (faults.Message fault)) HasBadBytes o (inl (faults.Message fault, s.1, refl)) s.0

  -- the channel's name wasn't printed
  unprinted_cause : (stop : Stop) → Puts start now before after (name_line ask) (Err stop) → IsCause ask route p d d' old new start now before after (status_of_stop stop)
  unprinted_cause stops.Sink puts = inl (inr (inr (inr puts.1)))
  unprinted_cause stops.NoMemory puts = tt
  unprinted_cause (stops.Frame fault) puts = absurd puts
  unprinted_cause (stops.Client fault) puts = absurd puts

  short_cause : (outcome : Outcome) → outcome ≡ outcomes.Stopped stops.NoMemory → IsCause ask route p d d' old new start now before after (status_of outcome)
  short_cause outcome is = subst (λ (o : Outcome). IsCause ask route p d d' old new start now before after (status_of o)) (sym is) tt

  whole : (to : Peer) (ending : Ending) → HasOperated ask q to old new start now before after (outcomes.Told ending) → IsWhole ask old new start now before after ending
  whole to ending o =
      let told : AtTold ask o.begin o.end start now before after o.conversed.read o.conversed.written ending = o.conversed.cause in record {
        read = o.conversed.read;
        moved = record {
          to = to;
          begin = o.begin;
          end = o.end;
          dialed = o.dialed;
          dials = o.dials;
          back = o.back;
          moves = subst (Moves o.begin o.end o.conversed.read) told.all o.conversed.moves;
        };
        ended = told.ended;
        printed = told.printed;
      }

  closed : (to : Peer) → HasOperated ask q to old new start now before after outcomes.Closed → IsClosed ask old new start now before after
  closed to o =
      let cut : AtClosed ask o.begin o.end start now before after o.conversed.read o.conversed.written = o.conversed.cause in record {
        read = o.conversed.read;
        moved = record {
          to = to;
          begin = o.begin;
          end = o.end;
          dialed = o.dialed;
          dials = o.dials;
          back = o.back;
          moves = subst (Moves o.begin o.end o.conversed.read) cut.all o.conversed.moves;
        };
        unended = cut.unended;
        sound = cut.sound;
        all_read = cut.all_read;
        printed = cut.printed;
        ends = back_ends o.end o.dials o.back cut.ends;
      }

  operated : (to : Peer) (outcome : Outcome) → HasOperated ask q to old new start now before after outcome → IsCause ask route p d d' old new start now before after (status_of outcome)
  operated to (outcomes.Told endings.Finished) o = whole to endings.Finished o
  operated to (outcomes.Told endings.Refused) o = whole to endings.Refused o
  operated to (outcomes.Stopped stops.Sink) o = inl (inr (inr (inr o.conversed.cause.stopped.stopped.1)))
  operated to (outcomes.Stopped stops.NoMemory) o = tt
  operated to (outcomes.Stopped (stops.Frame fault)) o =
      let s = o.conversed.cause.stopped in read_bad to (stops.Frame fault) HasBadBytes o (inr (fault, s.refused, s.stopped.1.1)) s.stopped.0
  operated to (outcomes.Stopped (stops.Client fault)) o = client_cause to fault o
  operated to outcomes.Closed o = inr (closed to o)
  operated to outcomes.Failed o = inl (inr (inr (inl (back_faults o.end o.dials o.back o.conversed.cause.faults))))
  operated to outcomes.Unfound o = absurd o.conversed.cause
  operated to outcomes.Idle o = subst (λ (n : ℕ). RoseBy n old.link_idles new.link_idles) left.same (back_idles o.end o.dials o.back q.idle o.conversed.cause.idles)
  operated to outcomes.Spent o =
      record {
        traffic = left.traffic;
        traffic_is = left.traffic_is;
        read = o.conversed.read;
        written = o.conversed.written;
        moved = inl (record { to = to; begin = o.begin; end = o.end; dialed = o.dialed; dials = o.dials; back = o.back; moves = o.conversed.moves });
        bound = λ small small2.
            let first : d.idles + p.turns ≤ d'.idles + datagrams_in left.traffic + q.turns = left.bound small in
            let second : old.link_idles + q.turns ≤ new.link_idles + (length o.conversed.read + length o.conversed.written) =
            back_bound o.end o.dials o.back q.turns (length o.conversed.read + length o.conversed.written) (λ tiny. let b = o.conversed.cause.bound tiny in omega (arith, b)) small2 in omega arith;
      }

  undialed : (to : Peer) (outcome : Outcome) → IsUndialed to old new outcome → IsCause ask route p d d' old new start now before after (status_of outcome)
  undialed to outcomes.Failed u = inl (inr (inl u.faults))
  undialed to (outcomes.Stopped stops.NoMemory) u = tt
  undialed to (outcomes.Stopped stops.Sink) u = absurd u
  undialed to (outcomes.Stopped (stops.Frame fault)) u = absurd u
  undialed to (outcomes.Stopped (stops.Client fault)) u = absurd u
  undialed to (outcomes.Told ending) u = absurd u
  undialed to outcomes.Closed u = absurd u
  undialed to outcomes.Unfound u = absurd u
  undialed to outcomes.Idle u = absurd u
  undialed to outcomes.Spent u = absurd u

  operates_cause : (to : Peer) (outcome : Outcome) → Operates ask q to old new start now before after outcome → IsCause ask route p d d' old new start now before after (status_of outcome)
  operates_cause to outcome (inl o) = operated to outcome o
  operates_cause to outcome (inr (inl u)) = short_cause outcome u.outcome_is
  operates_cause to outcome (inr (inr u)) = undialed to outcome u.0

-- Behind a search.

module _ (ask : Ask) (to : Peer) (rounds : ℕ) (p : Patience) (d d' : DatagramsView) (old new : DialerView) (start now : Option (List ℕ)) (before after : ℕ) where
  abbrev Cause : Outcome → Type 0
  Cause outcome = IsCause ask (routes.Sought to rounds) p d d' old new start now before after (status_of outcome)

  found_left : (server : Peer) (calls : ℕ) → Searches ask.name (plan_of to rounds p) d d' (ends.Found server calls) → Left p (patience_left (plan_of to rounds p) calls) d d'
  found_left server calls (inl h) =
      let idles : h.bound.idles ≡ d.idles = ap (λ (v : DatagramsView). v.idles) h.binds.others in
      let told : h.bound.traffic ≡ d.traffic = ap (λ (v : DatagramsView). v.traffic) h.binds.others in record {
        same = refl;
        traffic = h.traffic;
        traffic_is = h.cause.passed.traffic_is ∙ ap (λ (t : Option (List Traffic)). and_all t h.traffic) told;
        bound = λ small.
            let here : h.bound.idles + length h.traffic ≤ d'.idles + datagrams_in h.traffic = search_bound h.traffic h.bound d' h.cause.passed.idles small in
            omega (arith, here, idles, h.cause.calls_are, h.cause.few);
      }
  found_left server calls (inr h) = absurd h

  spent_all : Searches ask.name (plan_of to rounds p) d d' ends.Spent → old ≡ new → IsSpent p d d' old new
  spent_all (inl h) same =
      let idles : h.bound.idles ≡ d.idles = ap (λ (v : DatagramsView). v.idles) h.binds.others in
      let told : h.bound.traffic ≡ d.traffic = ap (λ (v : DatagramsView). v.traffic) h.binds.others in record {
        traffic = h.traffic;
        traffic_is = h.cause.passed.traffic_is ∙ ap (λ (t : Option (List Traffic)). and_all t h.traffic) told;
        read = [];
        written = [];
        moved = inr (refl, refl);
        bound = λ small small2.
            let here : h.bound.idles + length h.traffic ≤ d'.idles + datagrams_in h.traffic = search_bound h.traffic h.bound d' h.cause.passed.idles small in
            let unmoved : old.link_idles ≡ new.link_idles = ap (λ (v : DialerView). v.link_idles) same in omega (arith, here, idles, unmoved, h.cause.all);
      }
  spent_all (inr h) same = absurd h

  goes_on : (searched : Searched) (outcome : Outcome) → Searches ask.name (plan_of to rounds p) d d' searched → GoesOn ask (plan_of to rounds p) searched old new start now before after outcome → Cause outcome
  goes_on (ends.Found server calls) outcome s g = operates_cause ask (routes.Sought to rounds) p (patience_left (plan_of to rounds p) calls) d d' (found_left server calls s) old new start now before after server outcome g
  goes_on ends.Unfound outcome (inl h) g = subst Cause (sym g.outcome_is) h
  goes_on ends.Unfound outcome (inr h) g = absurd h
  goes_on ends.Failed outcome (inl h) g = subst Cause (sym g.outcome_is) (inl (inl (subst (λ (n : ℕ). Rose n d'.faults) h.binds.binds.2 h.cause.failed.faults)))
  goes_on ends.Failed outcome (inr h) g = subst Cause (sym g.outcome_is) (inl (inl h.binds.1))
  goes_on ends.Spent outcome s g = subst Cause (sym g.outcome_is) (spent_all s (sym g.undialed))
  goes_on ends.NoMemory outcome s g = subst Cause (sym g.outcome_is) tt

  seeks_cause : (outcome : Outcome) → Seeks ask (plan_of to rounds p) d d' old new start now before after outcome → Cause outcome
  seeks_cause outcome (inl s) = goes_on s.searched outcome s.searches s.goes_on
  seeks_cause outcome (inr s) = subst Cause (sym s.outcome_is) tt

pub statuses_have_causes : StatusesHaveCauses
statuses_have_causes ask (routes.Known server) p d d' old new start now before after outcome (inl t) = operates_cause ask (routes.Known server) p p d d' (subst (λ (v : DatagramsView). Left p p d v) (sym t.1) (left_none p d)) old new start now before after server outcome t.0
statuses_have_causes ask (routes.Sought to rounds) p d d' old new start now before after outcome (inl t) = seeks_cause ask to rounds p d d' old new start now before after outcome t
statuses_have_causes ask route p d d' old new start now before after outcome (inr u) =
    subst (λ (o : Outcome). IsCause ask route p d d' old new start now before after (status_of o)) (sym u.outcome_is)
    (unprinted_cause ask route p p d d' (subst (λ (v : DatagramsView). Left p p d v) (sym u.unsent) (left_none p d)) old new start now before after u.stop u.puts)

-- By contraposition: where a run meets no fault, it has no cause that is one.

in_vain : (ask : Ask) (route : Route) (p : Patience) (d d' : DatagramsView) → IsSearchedInVain ask route p d d' → MaySearch route
in_vain ask (routes.Known server) p d d' v = absurd v
in_vain ask (routes.Sought to rounds) p d d' v = tt

module _ (ask : Ask) (route : Route) (p : Patience) (d d' : DatagramsView) (old new : DialerView) (start now : Option (List ℕ)) (before after : ℕ) (f : MeetsNoFault ask p d d' old new before after) where
  bad_words : HasReadBad ask HasBadWords old new start now before after → ⊥
  bad_words r =
      let sound : IsSound ask r.read = f.sound r.read r.written r.moved in
      let clash : None ≡ Some (faults.Words r.bad.0) = sym sound.events ∙ r.bad.1 in absurd cc

  bad_bytes : (read : List ℕ) → IsSound ask read → HasBadBytes ask read → ⊥
  bad_bytes read sound (inl b) = let clash : None ≡ Some b.0 = sym sound.events ∙ b.1 in absurd cc
  bad_bytes read sound (inr b) = let clash : None ≡ Some b.0 = sym (sound.headers b.2) ∙ b.1 in absurd cc

  usual : (code : Status) → IsCause ask route p d d' old new start now before after code → MayEnd route code
  usual status.Done c = tt
  usual status.Refused c = tt
  usual status.NoMemory c = tt
  usual status.Unfound c = in_vain ask route p d d' c
  usual status.Outside (inl c) = absurd (f.faults c)
  usual status.Outside (inr c) = absurd (f.ends c.ends)
  usual status.Idle c = absurd (f.idles c)
  usual status.Spent c = absurd (f.turns c)
  usual status.Words c = absurd (bad_words c)
  usual status.Stream c = absurd (bad_bytes c.read (f.sound c.read c.written c.moved) c.bad)
  usual status.Site c = absurd c

pub faultless_runs_end : FaultlessRunsEnd
faultless_runs_end ask route p d d' old new start now before after outcome n f =
    usual ask route p d d' old new start now before after f (status_of outcome) (statuses_have_causes ask route p d d' old new start now before after outcome n)
