-- The search that a finder of one name makes.
use Rattle.std.proofs.Common.{◌≡◌, ℕ, suc, ◌+◌, ◌%◌, ◌^◌, ◌<◌, List, [], ◌∷◌, ◌++◌, length, Option, None, Result, Ok, Err, refl, sym, ◌∙◌, ap, subst, arith}
use Rattle.std.proofs.Math.Nat.{mod-eq_of_lt}
use Rattle.std.specs.Prelude.{get_or}
use Rattle.pva_outside.specs.Traffic.{DatagramsView, Traffic, Tried}
use Rattle.pva_outside.specs.declared.peer.Peer.{Peer}
use Rattle.pva_wire.specs.declared.order.Order.TheVariants.{Little}
use Rattle.pva_search.specs.Finding.{Finding, Asked, asks_for, channels_of, unasked}
use Rattle.pva_search.specs.Messages.{search_bytes}
use Rattle.cli_search.specs.Searching.{Search, search_of, search_in}
use Rattle.cli_search.specs.Calls.{View, Asks, IsAt, IsBefore, IsBehind, Sends}
use Rattle.cli_search.specs.Turning.{Failed, Passed}
use Rattle.cli_search.specs.declared.searching.Stop.{Stop}
use Rattle.cli_search.specs.declared.searching.Stop.TheVariants as stops
use Rattle.cli_search.specs.declared.plan.Plan.{Plan}

-- a finder of one name that isn't found, before its search
abbrev one : Finding → List ℕ → Finding
one f name = record f { names = name ∷ []; servers = None ∷ []; next = 0 }

is_one : (f : Finding) (name : List ℕ) → f.names ≡ name ∷ [] → f.servers ≡ None ∷ [] → f.next ≡ 0 → f ≡ one f name
is_one f name names servers next =
    ap (λ (n : List (List ℕ)). let g : Finding = record f { names = n } in g) names
    ∙ ap (λ (s : List (Option Peer)). let g : Finding = record f { names = name ∷ []; servers = s } in g) servers
    ∙ ap (λ (n : ℕ). let g : Finding = record f { names = name ∷ []; servers = None ∷ []; next = n } in g) next

unasked_one : (f : Finding) (name : List ℕ) → unasked (one f name) ≡ 0 ∷ []
unasked_one f name = refl

pub unasked_before : (s : Search) (round : ℕ) (v : View) → IsBefore s round v → unasked v.finding ≡ 0 ∷ []
unasked_before s round v b = ap unasked (is_one v.finding s.name b.at.names b.at.servers b.next) ∙ unasked_one v.finding s.name

head_of : List ℕ → ℕ
head_of xs = get_or xs 0 0

tail_of : List ℕ → List ℕ
tail_of [] = []
tail_of (x ∷ xs) = xs

-- the first of a list of one, where some are taken
taken_one : (taken others : List ℕ) → 0 ∷ [] ≡ taken ++ others → 0 < length taken → taken ≡ 0 ∷ []
taken_one [] others is some = absurd (omega arith)
taken_one (x ∷ []) others is some = cc
taken_one (x ∷ y ∷ xs) others is some = absurd (omega (arith, ap length is))

next_number : (s : Search) (round : ℕ) (v : View) → IsAt s round v → (round + 1) % 2 ^ 32 ≡ suc round
next_number s round v at = let small : round + 1 < 2 ^ 32 = omega (arith, at.left, at.small) in mod-eq_of_lt small ∙ omega arith

module _ (s : Search) (round : ℕ) (v w : View) (b : IsBefore s round v) (written : List ℕ) (a : Asked v.finding w.finding v.port written) where
  pub asked_bytes : Tried written v.plan.to ≡ search_in s round
  asked_bytes =
      let taken : a.taken ≡ 0 ∷ [] = taken_one a.taken a.others (sym (unasked_before s round v b) ∙ a.divided) a.some in
      let name : channels_of v.finding.names a.taken ≡ (0, s.name) ∷ [] = ap (channels_of v.finding.names) taken ∙ ap (λ (n : List (List ℕ)). channels_of n (0 ∷ [])) b.at.names in
      let port : v.port ≡ s.port = ap (λ (x : Search). x.port) b.at.search_is in
      let to : v.plan.to ≡ s.to = ap (λ (x : Search). x.to) b.at.search_is in
      ap (λ (z : List ℕ). Tried z v.plan.to) a.spelled
      ∙ ap (λ (c : List (ℕ × List ℕ)). Tried (search_bytes Little (asks_for v.finding.sequence v.port c)) v.plan.to) name
      ∙ ap (λ (q : ℕ). Tried (search_bytes Little (asks_for q v.port ((0, s.name) ∷ []))) v.plan.to) b.sequence
      ∙ ap (λ (p : ℕ). Tried (search_bytes Little (asks_for round p ((0, s.name) ∷ []))) v.plan.to) port
      ∙ ap (λ (p : Peer). Tried (search_bytes Little (asks_for round s.port ((0, s.name) ∷ []))) p) to

  pub asked_behind : w.plan ≡ v.plan → w.port ≡ v.port → IsBehind s round w
  asked_behind plan port = record {
    at = record {
      search_is = ap (λ (p : Plan). search_of s.name p w.port) plan ∙ ap (search_of s.name v.plan) port ∙ b.at.search_is;
      names = ap (λ (f : Finding). f.names) a.kept ∙ b.at.names;
      servers = ap (λ (f : Finding). f.servers) a.kept ∙ b.at.servers;
      left = ap (λ (f : Finding). f.rounds + suc round) a.kept ∙ b.at.left;
      small = b.at.small;
    };
    sequence = ap (λ (f : Finding). f.sequence) a.kept ∙ ap (λ (q : ℕ). (q + 1) % 2 ^ 32) b.sequence ∙ next_number s round v b.at;
  }

  -- the search went out, or couldn't
  pub asked_sent : w.plan ≡ v.plan → w.port ≡ v.port → w.calls ≡ v.calls + 1 → v.calls < v.plan.turns → (old new : DatagramsView) (bytes : List ℕ) → bytes ≡ written → (r : Result (Unit {0}) Stop) → Sends old new bytes v.plan.to r
      → Asks s round old new v w r
  asked_sent plan port calls few old new bytes is (Ok u) sent = record {
    behind = asked_behind plan port;
    passed = subst (λ (t : Traffic). Passed old new (t ∷ [])) (ap (λ (z : List ℕ). Tried z v.plan.to) is ∙ asked_bytes) sent;
    made = record { plan = plan; calls = calls; few = omega arith };
  }
  asked_sent plan port calls few old new bytes is (Err stops.Failed) sent = (subst (λ (t : Traffic). Failed old new (t ∷ [])) (ap (λ (z : List ℕ). Tried z v.plan.to) is ∙ asked_bytes) sent, omega arith)
  asked_sent plan port calls few old new bytes is (Err stops.Spent) sent = absurd sent
  asked_sent plan port calls few old new bytes is (Err stops.NoMemory) sent = sent
