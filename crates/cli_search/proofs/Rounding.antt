-- Rounds, one after another.
use Rattle.std.proofs.Common.{◌≡◌, ◌⊎◌, ℕ, suc, ◌+◌, ◌-◌, ◌^◌, ◌<◌, ◌≤◌, inl, inr, Bool, true, false, not, List, [], ◌∷◌, ◌++◌, length, length-append, Option, None, Some, Result, Ok, Err, refl, sym, ◌∙◌, ap, subst, append_assoc, arith}
use Rattle.std.proofs.lemmas.Bool.Decides.{nat_tests}
use Rattle.std.proofs.lemmas.Grind.{flat_map-append}
use Rattle.std.proofs.lemmas.List.{append-nil}
use Rattle.std.specs.Prelude.{◌==◌, if◌then◌else◌}
use Rattle.pva_outside.specs.Traffic.{DatagramsView, Traffic, Got, Nothing, BindsDatagrams}
use Rattle.pva_outside.specs.declared.binding.BindStep.TheVariants as binds
use Rattle.pva_outside.specs.declared.peer.Peer.{Peer}
use Rattle.pva_search.specs.Finding.{Finding, opening, turned}
use Rattle.cli_search.specs.Searching.{Search, search_of, search_in, AreOver, IsBeforeRound, IsInRound, IsOver, IsRound, Searches, anywhere, joined}
use Rattle.cli_search.specs.Turning.{Passed}
use Rattle.cli_search.specs.Calls.{View, first_view, HasAsked, Asks, Listens, IsBefore, IsBehind, HasTurned, Turns, Rounds, RoundFinds, RoundEnds, RoundStops, CameMute, Ends, stopped}
use Rattle.cli_search.specs.declared.plan.Plan.{Plan}
use Rattle.cli_search.specs.declared.plan.Searched.{Searched}
use Rattle.cli_search.specs.declared.plan.Searched.TheVariants as ends
use Rattle.cli_search.specs.declared.searching.Stop.{Stop}
use Rattle.cli_search.specs.declared.searching.Stop.TheVariants as stops
use Rattle.cli_search.proofs.Passing.{passed_none, passed_same, passed_more, failed_more, passed_as}

abbrev later : View → ℕ → View
later v more = record v { calls = v.calls + more }

-- A round.

behind_later : (s : Search) (round : ℕ) (v w : View) (n : ℕ) → IsBehind s round v → w ≡ later v n → IsBehind s round w
behind_later s round v w n b is = subst (IsBehind s round) (sym is) (record { at = record { search_is = b.at.search_is; names = b.at.names; servers = b.at.servers; left = b.at.left; small = b.at.small }; sequence = b.sequence })

module _ {s : Search} {round : ℕ} {old mid : DatagramsView} {v x : View} (a : HasAsked s round old mid v x) where
  turns_mid : x.plan.turns ≡ v.plan.turns
  turns_mid = ap (λ (p : Plan). p.turns) a.made.plan

  abbrev mute_round : (new : DatagramsView) (m : CameMute mid new x) → RoundStops s round old new v
  mute_round new m = record {
    traffic = search_in s round ∷ m.came;
    going = inl (record { came = m.came; traffic_is = refl; mute = m.mute });
    passed = passed_more a.passed m.passed;
    few = omega (arith, m.few, a.made.calls, turns_mid);
  }

  pub round_listened : (new : DatagramsView) (w : View) (r : Result (Option Peer) Stop) → Listens mid new x w r → Rounds s round old new v w r
  round_listened new w (Ok (Some server)) l = record {
    traffic = search_in s round ∷ l.came;
    begun = record { came = l.came; traffic_is = refl; mute = l.mute };
    bytes = l.bytes;
    from = l.from;
    told_is = l.told_is;
    passed = passed_more a.passed l.passed;
    made = record {
      plan = l.made.plan ∙ a.made.plan;
      calls = omega (arith, l.made.calls, a.made.calls);
      few = omega (arith, l.made.few, a.made.calls, turns_mid);
    };
  }
  round_listened new w (Ok None) l = record {
    traffic = search_in s round ∷ l.mute.came;
    over = record {
      begun = record { came = l.mute.came; traffic_is = refl; mute = l.mute.mute };
      idles = l.idles ∙ ap (λ (p : Plan). p.idle) a.made.plan ∙ idle_is;
    };
    passed = passed_more a.passed l.mute.passed;
    behind = behind_later s round x w (length l.mute.came) a.behind l.view;
    made = record {
      plan = ap (λ (y : View). y.plan) l.view ∙ a.made.plan;
      calls = let is : w.calls ≡ x.calls + length l.mute.came = ap (λ (y : View). y.calls) l.view in omega (arith, a.made.calls);
      few = omega (arith, l.mute.few, a.made.calls, turns_mid);
    };
  }
    where
      idle_is : v.plan.idle ≡ s.idle
      idle_is = ap (λ (p : Plan). p.idle) (sym a.made.plan) ∙ ap (λ (y : Search). y.idle) a.behind.at.search_is
  round_listened new w (Err stops.Failed) l = record {
    before = search_in s round ∷ l.came;
    last = Nothing;
    call = inr (record { came = l.came; traffic_is = refl; mute = l.mute }, refl);
    failed = failed_more a.passed l.failed;
    few = omega (arith, l.few, a.made.calls, turns_mid);
  }
  round_listened new w (Err stops.Spent) l = record { stops = mute_round new l.mute; all = omega (arith, l.all, a.made.calls, turns_mid) }
  round_listened new w (Err stops.NoMemory) l = mute_round new l

-- its search didn't go out
pub round_unasked : (s : Search) (round : ℕ) (old new : DatagramsView) (v x w : View) (stop : Stop) → v.calls ≤ v.plan.turns → Asks s round old new v x (Err stop) → Rounds s round old new v w (Err stop)
round_unasked s round old new v x w stops.Failed within a = record { before = []; last = search_in s round; call = inl (refl, refl); failed = a.0; few = omega (arith, a.1) }
round_unasked s round old new v x w stops.Spent within a = record { stops = record { traffic = []; going = inr refl; passed = passed_same old new a.0; few = omega arith }; all = omega (arith, a.1) }
round_unasked s round old new v x w stops.NoMemory within a = record { traffic = []; going = inr refl; passed = passed_same old new a; few = omega arith }

-- The next round.

is_zero : (n : ℕ) → (n == 0) ≡ true → n ≡ 0
is_zero n e = grind (arith, nat_tests)

is_more : (n : ℕ) → (n == 0) ≡ false → 0 < n
is_more n e = grind (arith, nat_tests)

turned_by : (v : View) (g : Finding) (more none : Bool) → (v.finding.rounds == 0) ≡ none → more ≡ not none → g ≡ turned v.finding → Turns v (let w : View = record v { finding = g } in w) more
turned_by v g more true is told turn = subst (Turns v (let w : View = record v { finding = g } in w)) (sym told) (is_zero v.finding.rounds is)
turned_by v g more false is told turn =
    let next : Finding = record v.finding { next = 0; rounds = v.finding.rounds - 1 } in
    let turns_so : g ≡ next = turn ∙ ap (λ (b : Bool). if b then v.finding else next) is in
    subst (Turns v (let w : View = record v { finding = g } in w)) (sym told)
    (record { some = is_more v.finding.rounds is; view = ap (λ (h : Finding). let w : View = record v { finding = h } in w) turns_so })

pub turned_so : (v : View) (g : Finding) (more : Bool) → more ≡ not (v.finding.rounds == 0) → g ≡ turned v.finding → Turns v (let w : View = record v { finding = g } in w) more
turned_so v g more told turn = turned_by v g more (v.finding.rounds == 0) refl told turn

pub turned_less : (u v w : View) → v.finding.rounds ≡ u.finding.rounds → HasTurned v w → w.finding.rounds < u.finding.rounds
turned_less u v w same t =
    let is : w.finding.rounds ≡ v.finding.rounds - 1 = ap (λ (x : View). x.finding.rounds) t.view in let some : 0 < v.finding.rounds = t.some in omega arith

pub turned_within : (v w : View) → HasTurned v w → v.calls ≤ v.plan.turns → w.calls ≤ w.plan.turns
turned_within v w t within = subst (λ (x : View). x.calls ≤ x.plan.turns) (sym t.view) within

-- All rounds.

-- the rounds that are over, before the search of the next
pub record SoFar (s : Search) (turns : ℕ) (old now : DatagramsView) (v : View) : Type 0 where
  pub past : List (List Traffic)
  pub over : AreOver s 0 past
  pub before : IsBefore s (length past) v
  pub passed : Passed old now (joined past)
  pub calls : v.calls ≡ length (joined past)
  pub turns_are : v.plan.turns ≡ turns
  pub few : v.calls ≤ turns

pub sofar_none : (s : Search) (d : DatagramsView) (v : View) → IsBefore s 0 v → v.calls ≡ 0 → SoFar s v.plan.turns d d v
sofar_none s d v before none = record { past = []; over = tt; before = before; passed = passed_none d; calls = none; turns_are = refl; few = omega arith }

over_more : (s : Search) (first : ℕ) (past : List (List Traffic)) (traffic : List Traffic) → AreOver s first past → IsOver s (first + length past) traffic → AreOver s first (past ++ traffic ∷ [])
over_more s first [] traffic over more = (let same : first + 0 ≡ first = omega arith in subst (λ (n : ℕ). IsOver s n traffic) same more, tt)
over_more s first (x ∷ past) traffic over more =
    (over.0, over_more s (suc first) past traffic over.1 (let same : first + length (x ∷ past) ≡ suc first + length past = omega arith in subst (λ (n : ℕ). IsOver s n traffic) same more))

joined_more : (past : List (List Traffic)) (traffic : List Traffic) → joined past ++ traffic ≡ joined (past ++ traffic ∷ [])
joined_more past traffic = ap (λ (l : List Traffic). joined past ++ l) (sym (append-nil traffic)) ∙ sym (flat_map-append (λ (l : List Traffic). l) past (traffic ∷ []))

module _ {s : Search} {turns : ℕ} {old now : DatagramsView} {v : View} (f : SoFar s turns old now v) where
  some_left : length f.past < s.rounds
  some_left = omega (arith, f.before.at.left)

  all_over : {new : DatagramsView} {w : View} (r : RoundEnds s (length f.past) now new v w) → AreOver s 0 (f.past ++ r.traffic ∷ [])
  all_over {new} {w} r = over_more s 0 f.past r.traffic f.over (let same : length f.past ≡ 0 + length f.past = omega arith in subst (λ (n : ℕ). IsOver s n r.traffic) same r.over)

  all_passed : {new : DatagramsView} {w : View} (r : RoundEnds s (length f.past) now new v w) → Passed old new (joined (f.past ++ r.traffic ∷ []))
  all_passed {new} {w} r = passed_as (joined_more f.past r.traffic) (passed_more f.passed r.passed)

  all_calls : {new : DatagramsView} {w : View} (r : RoundEnds s (length f.past) now new v w) → w.calls ≡ length (joined (f.past ++ r.traffic ∷ []))
  all_calls {new} {w} r =
      let size : length (joined (f.past ++ r.traffic ∷ [])) ≡ length (joined f.past) + length r.traffic = ap length (sym (joined_more f.past r.traffic)) ∙ length-append (joined f.past) r.traffic in
      omega (arith, size, r.made.calls, f.calls)

  -- a round more
  pub sofar_more : {new : DatagramsView} {w : View} (r : RoundEnds s (length f.past) now new v w) (x : View) → HasTurned w x → SoFar s turns old new x
  sofar_more {new} {w} r x t =
      let next : Finding = record w.finding { next = 0; rounds = w.finding.rounds - 1 } in
      let count : length (f.past ++ r.traffic ∷ []) ≡ suc (length f.past) = length-append f.past (r.traffic ∷ []) ∙ omega arith in
      subst (SoFar s turns old new) (sym t.view) (record {
        past = f.past ++ r.traffic ∷ [];
        over = all_over r;
        before = subst (λ (n : ℕ). IsBefore s n (let y : View = record w { finding = next } in y)) (sym count) (record {
          at = record {
            search_is = r.behind.at.search_is;
            names = r.behind.at.names;
            servers = r.behind.at.servers;
            left = one_less w.finding.rounds (length f.past) s.rounds t.some r.behind.at.left;
            small = r.behind.at.small;
          };
          next = refl;
          sequence = r.behind.sequence;
        });
        passed = all_passed r;
        calls = all_calls r;
        turns_are = ap (λ (p : Plan). p.turns) r.made.plan ∙ f.turns_are;
        few = omega (arith, r.made.few, r.made.calls, f.turns_are);
      })
    where
      one_less : (n round all : ℕ) → 0 < n → n + suc round ≡ all → (n - 1) + suc (suc round) ≡ all
      one_less n round all some is = omega arith

  -- the last round
  pub sofar_ended : {new : DatagramsView} {w : View} (r : RoundEnds s (length f.past) now new v w) → w.finding.rounds ≡ 0 → Ends s turns old new ends.Unfound
  sofar_ended {new} {w} r none =
      let size : length (joined (f.past ++ r.traffic ∷ [])) ≡ w.calls = sym (all_calls r) in (
        joined (f.past ++ r.traffic ∷ []),
        record {
          ended = record {
            rounds = f.past ++ r.traffic ∷ [];
            traffic_is = refl;
            over = all_over r;
            all = length-append f.past (r.traffic ∷ []) ∙ omega (arith, r.behind.at.left, none);
          };
          passed = all_passed r;
          few = omega (arith, size, r.made.few, r.made.calls, f.turns_are);
        },
      )

  pub sofar_found : {new : DatagramsView} {w : View} {server : Peer} (r : RoundFinds s (length f.past) now new v w server) → (calls : ℕ) → calls ≡ w.calls → Ends s turns old new (ends.Found server calls)
  sofar_found {new} {w} {server} r calls are =
      let all : joined f.past ++ (r.traffic ++ Got r.bytes r.from ∷ []) ≡ (joined f.past ++ r.traffic) ++ Got r.bytes r.from ∷ [] = sym (append_assoc (joined f.past) r.traffic (Got r.bytes r.from ∷ [])) in
      let size : length (joined f.past ++ (r.traffic ++ Got r.bytes r.from ∷ [])) ≡ length (joined f.past) + (length r.traffic + 1) =
      length-append (joined f.past) (r.traffic ++ Got r.bytes r.from ∷ []) ∙ ap (λ (n : ℕ). length (joined f.past) + n) (length-append r.traffic (Got r.bytes r.from ∷ [])) in (
        joined f.past ++ (r.traffic ++ Got r.bytes r.from ∷ []),
        record {
          before = joined f.past ++ r.traffic;
          bytes = r.bytes;
          from = r.from;
          traffic_is = all;
          asked = record { past = f.past; present = r.traffic; traffic_is = refl; over = f.over; few = some_left; begun = r.begun };
          tells = r.told_is;
          passed = passed_more f.passed r.passed;
          calls_are = omega (arith, size, are, r.made.calls, f.calls);
          few = omega (arith, are, r.made.few, r.made.calls, f.turns_are);
        },
      )

  stops_so : {new : DatagramsView} (r : RoundStops s (length f.past) now new v) → IsInRound s (joined f.past ++ r.traffic) ⊎ IsBeforeRound s (joined f.past ++ r.traffic)
  stops_so {new} r = by_going r.traffic r.going
    where
      by_going : (traffic : List Traffic) → IsRound s (length f.past) traffic ⊎ (traffic ≡ []) → IsInRound s (joined f.past ++ traffic) ⊎ IsBeforeRound s (joined f.past ++ traffic)
      by_going traffic (inl begun) = inl (record { past = f.past; present = traffic; traffic_is = refl; over = f.over; few = some_left; begun = begun })
      by_going traffic (inr none) = inr (record { past = f.past; traffic_is = ap (λ (l : List Traffic). joined f.past ++ l) none ∙ append-nil (joined f.past); over = f.over; few = some_left })

  pub sofar_stopped : (new : DatagramsView) (w : View) (stop : Stop) → Rounds s (length f.past) now new v w (Err stop) → Ends s turns old new (stopped stop)
  sofar_stopped new w stops.Failed r =
      let all : joined f.past ++ (r.before ++ r.last ∷ []) ≡ (joined f.past ++ r.before) ++ r.last ∷ [] = sym (append_assoc (joined f.past) r.before (r.last ∷ [])) in
      let size : length (joined f.past ++ (r.before ++ r.last ∷ [])) ≡ length (joined f.past) + (length r.before + 1) =
      length-append (joined f.past) (r.before ++ r.last ∷ []) ∙ ap (λ (n : ℕ). length (joined f.past) + n) (length-append r.before (r.last ∷ [])) in (
        joined f.past ++ (r.before ++ r.last ∷ []),
        record {
          before = joined f.past ++ r.before;
          last = r.last;
          traffic_is = all;
          call = by_call r.before r.last r.call;
          failed = failed_more f.passed r.failed;
          few = omega (arith, size, r.few, f.calls, f.turns_are);
        },
      )
    where
      by_call : (before : List Traffic) (last : Traffic) → ((before ≡ []) × (last ≡ search_in s (length f.past))) ⊎ (IsRound s (length f.past) before × (last ≡ Nothing))
          → ((b : IsBeforeRound s (joined f.past ++ before)) × (last ≡ search_in s (length b.past))) ⊎ (IsInRound s (joined f.past ++ before) × (last ≡ Nothing))
      by_call before last (inl x) = inl (record { past = f.past; traffic_is = ap (λ (l : List Traffic). joined f.past ++ l) x.0 ∙ append-nil (joined f.past); over = f.over; few = some_left }, x.1)
      by_call before last (inr x) = inr (record { past = f.past; present = before; traffic_is = refl; over = f.over; few = some_left; begun = x.0 }, x.1)
  sofar_stopped new w stops.Spent r =
      let size : length (joined f.past ++ r.stops.traffic) ≡ length (joined f.past) + length r.stops.traffic = length-append (joined f.past) r.stops.traffic in
      (joined f.past ++ r.stops.traffic, record { going = stops_so r.stops; passed = passed_more f.passed r.stops.passed; all = omega (arith, size, r.all, f.calls, f.turns_are) })
  sofar_stopped new w stops.NoMemory r =
      let size : length (joined f.past ++ r.traffic) ≡ length (joined f.past) + length r.traffic = length-append (joined f.past) r.traffic in
      (joined f.past ++ r.traffic, record { going = stops_so r; passed = passed_more f.passed r.passed; few = omega (arith, size, r.few, f.calls, f.turns_are) })

-- A whole search.

first_of : (f : Finding) (name : List ℕ) (plan : Plan) (port : ℕ) → f ≡ opening (name ∷ []) plan.rounds → 1 ≤ plan.rounds → plan.rounds < 2 ^ 32 → IsBefore (search_of name plan port) 0 (first_view f plan port)
first_of f name plan port is some small =
    let first : Finding = opening (name ∷ []) plan.rounds in
    subst (λ (g : Finding). IsBefore (search_of name plan port) 0 (first_view g plan port)) (sym is) (record {
      at = record { search_is = refl; names = refl; servers = refl; left = omega arith; small = small };
      next = refl;
      sequence = refl;
    })

pub searched_open : (f : Finding) (name : List ℕ) (plan : Plan) (port : ℕ) (v : View) → f ≡ opening (name ∷ []) plan.rounds → v ≡ first_view f plan port → v.finding.servers ≡ None ∷ []
searched_open f name plan port v is view = ap (λ (w : View). w.finding.servers) view ∙ ap (λ (g : Finding). g.servers) is

pub searched : (name : List ℕ) (plan : Plan) (port : ℕ) (old bound new : DatagramsView) (f : Finding) (v : View) (end : Searched) → f ≡ opening (name ∷ []) plan.rounds → 1 ≤ plan.rounds → plan.rounds < 2 ^ 32
    → v ≡ first_view f plan port → BindsDatagrams old bound (binds.Bound port) anywhere → ((s : Search) → IsBefore s 0 v → Ends s v.plan.turns bound new end) → Searches name plan old new end
searched name plan port old bound new f v end is some small view bind ends_so =
    let so = subst (λ (w : View). (s : Search) → IsBefore s 0 w → Ends s w.plan.turns bound new end) view ends_so in
    let x = so (search_of name plan port) (first_of f name plan port is some small) in inl (record { port = port; bound = bound; binds = bind; traffic = x.0; cause = x.1 })
