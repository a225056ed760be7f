-- What came since a search went out.
use Rattle.std.proofs.Common.{◌≡◌, ℕ, ◌+◌, ◌≤◌, true, List, [], ◌∷◌, ◌++◌, length, length-append, take, None, Some, Result, Ok, Err, refl, sym, ◌∙◌, ap, subst, arith}
use Rattle.std.proofs.lemmas.List.Folds.{list_all-append}
use Rattle.std.specs.Prelude.{◌&&◌, is_none}
use Rattle.std.specs.List.{list_all}
use Rattle.pva_outside.specs.Traffic.{DatagramsView, Traffic, Got, Nothing, HasCome}
use Rattle.pva_outside.specs.declared.peer.Peer.{Peer}
use Rattle.pva_search.specs.Finding.{Finding}
use Rattle.cli_search.specs.Searching.{server_told, tells_none}
use Rattle.cli_search.specs.Turning.{nothings, Passed}
use Rattle.cli_search.specs.Calls.{View, Brings, Tells, HasHeard, HasIdled, Receives, Listens, CameMute, CameServer, CameNone}
use Rattle.cli_search.specs.declared.plan.Plan.{Plan}
use Rattle.cli_search.specs.declared.searching.Heard.{Heard}
use Rattle.cli_search.specs.declared.searching.Heard.TheVariants as hears
use Rattle.cli_search.specs.declared.searching.Stop.{Stop}
use Rattle.cli_search.specs.declared.searching.Stop.TheVariants as stops
use Rattle.cli_search.proofs.Passing.{nothings_append, passed_got, passed_none, passed_more, failed_more}

pub record ListenedSoFar (old now : DatagramsView) (v w : View) (idles : ℕ) : Type 0 where
  pub came : List Traffic
  pub mute : list_all tells_none came ≡ true
  pub passed : Passed old now came
  pub idles_are : nothings came ≡ idles
  pub view : w ≡ (let x : View = record v { calls = v.calls + length came } in x)
  pub few : v.calls + length came ≤ v.plan.turns

-- so many turns more
abbrev later : View → ℕ → View
later v more = record v { calls = v.calls + more }

pub listened_none : (d : DatagramsView) (v : View) → v.calls ≤ v.plan.turns → ListenedSoFar d d v v 0
listened_none d v few = record {
  came = [];
  mute = refl;
  passed = passed_none d;
  idles_are = refl;
  view = let none : v.calls ≡ v.calls + 0 = omega arith in ap (λ (n : ℕ). let x : View = record v { calls = n } in x) none;
  few = omega arith;
}

module _ {old now : DatagramsView} {v w : View} {idles : ℕ} (s : ListenedSoFar old now v w idles) where
  calls_now : w.calls ≡ v.calls + length s.came
  calls_now = ap (λ (x : View). x.calls) s.view

  plan_now : w.plan ≡ v.plan
  plan_now = ap (λ (x : View). x.plan) s.view

  turns_now : w.plan.turns ≡ v.plan.turns
  turns_now = ap (λ (p : Plan). p.turns) plan_now

  pub within_now : w.calls ≤ w.plan.turns
  within_now = omega (arith, calls_now, turns_now, s.few)

  -- a call more, which tells no server
  listened_more : {new : DatagramsView} {x : View} (call : Traffic) → tells_none call ≡ true → Passed now new (call ∷ []) → x ≡ later w 1 → w.calls + 1 ≤ w.plan.turns
      → ListenedSoFar old new v x (idles + nothings (call ∷ []))
  listened_more {new} {x} call none passed view few =
      let size : length (s.came ++ call ∷ []) ≡ length s.came + 1 = length-append s.came (call ∷ []) in record {
        came = s.came ++ call ∷ [];
        mute = list_all-append tells_none s.came (call ∷ []) ∙ subst (λ b. (list_all tells_none s.came && b) ≡ true) (sym (subst (λ b. (b && true) ≡ true) (sym none) refl)) (subst (λ b. (b && true) ≡ true) (sym s.mute) refl);
        passed = passed_more s.passed passed;
        idles_are = nothings_append s.came (call ∷ []) ∙ ap (λ (n : ℕ). n + nothings (call ∷ [])) s.idles_are;
        view = view ∙ ap (λ (y : View). later y 1) s.view ∙ (let sums : (v.calls + length s.came) + 1 ≡ v.calls + length (s.came ++ call ∷ []) = omega arith in ap (λ (n : ℕ). let y : View = record v { calls = n } in y) sums);
        few = omega (arith, size, few, calls_now, turns_now);
      }

  pub listened_other : {new : DatagramsView} {x : View} → HasHeard now new w x None → ListenedSoFar old new v x idles
  listened_other {new} {x} h =
      let more = listened_more (Got h.bytes h.from) (ap is_none h.told_is) h.passed (h.view refl) h.made.few in
      let same : idles + 0 ≡ idles = omega arith in subst (λ (n : ℕ). ListenedSoFar old new v x n) same more

  pub listened_nothing : {new : DatagramsView} {x : View} → HasIdled now new w x → ListenedSoFar old new v x (idles + 1)
  listened_nothing h = listened_more Nothing refl h.passed h.view h.made.few

  pub listened_server : {new : DatagramsView} {x : View} {server : Peer} → HasHeard now new w x (Some server) → CameServer old new v x server
  listened_server {new} {x} {server} h = record {
    came = s.came;
    mute = s.mute;
    bytes = h.bytes;
    from = h.from;
    told_is = h.told_is;
    passed = passed_more s.passed h.passed;
    made = record {
      plan = h.made.plan ∙ plan_now;
      calls = omega (arith, h.made.calls, calls_now);
      few = omega (arith, h.made.few, calls_now, turns_now);
    };
  }

  abbrev mute_now : (new : DatagramsView) → new ≡ now → CameMute old new v
  mute_now new same = record { came = s.came; mute = s.mute; passed = subst (λ (d : DatagramsView). Passed old d s.came) (sym same) s.passed; few = s.few }

  pub listened_stopped : (new : DatagramsView) (x y : View) (stop : Stop) → Receives now new w x (Err stop) → Listens old new v y (Err stop)
  listened_stopped new x y stops.Failed h = record { came = s.came; mute = s.mute; failed = failed_more s.passed h.0; few = omega (arith, h.1, calls_now, turns_now) }
  listened_stopped new x y stops.Spent h = record { mute = mute_now new h.0; all = omega (arith, h.1, calls_now, turns_now, s.few) }
  listened_stopped new x y stops.NoMemory h = mute_now new h

  pub listened_all : idles ≡ w.plan.idle → CameNone old now v w
  listened_all all = record { mute = mute_now now refl; idles = s.idles_are ∙ all ∙ ap (λ (p : Plan). p.idle) plan_now; view = s.view }

-- What a call brings to a finder.

pub brought : {old new : DatagramsView} {n : ℕ} {from : Peer} {buffer : List ℕ} (f g : Finding) (h : Heard) → HasCome old new n from buffer → Tells f g (server_told (take n buffer) from) h → Brings old new f g (Ok h)
brought {old} {new} {n} {from} {buffer} f g (hears.Server server) come tells = record { bytes = take n buffer; from = from; told_is = tells; passed = passed_got come; unfound = λ none. cc }
brought {old} {new} {n} {from} {buffer} f g hears.Other come tells = record { bytes = take n buffer; from = from; told_is = tells.0; passed = passed_got come; unfound = λ none. tells.1 }
brought f g hears.Nothing come tells = absurd tells

-- the same of a search, in one more turn
pub received : (old new : DatagramsView) (v w : View) (r : Result Heard Stop) → w ≡ (let x : View = record v { finding = w.finding; calls = v.calls + 1 } in x) → v.calls + 1 ≤ v.plan.turns
    → Brings old new v.finding w.finding r → Receives old new v w r
received old new v w (Ok (hears.Server server)) is few b = record {
  bytes = b.bytes;
  from = b.from;
  told_is = b.told_is;
  passed = b.passed;
  made = record { plan = ap (λ (x : View). x.plan) is; calls = ap (λ (x : View). x.calls) is; few = few };
  view = λ none. cc;
}
received old new v w (Ok hears.Other) is few b = record {
  bytes = b.bytes;
  from = b.from;
  told_is = b.told_is;
  passed = b.passed;
  made = record { plan = ap (λ (x : View). x.plan) is; calls = ap (λ (x : View). x.calls) is; few = few };
  view = λ none. is ∙ ap (λ (g : Finding). let x : View = record v { finding = g; calls = v.calls + 1 } in x) (b.unfound none);
}
received old new v w (Ok hears.Nothing) is few b = record {
  passed = b.0;
  made = record { plan = ap (λ (x : View). x.plan) is; calls = ap (λ (x : View). x.calls) is; few = few };
  view = is ∙ ap (λ (g : Finding). let x : View = record v { finding = g; calls = v.calls + 1 } in x) b.1;
}
received old new v w (Err stops.Failed) is few b = (b, few)
received old new v w (Err stops.Spent) is few b = absurd b
received old new v w (Err stops.NoMemory) is few b = b
