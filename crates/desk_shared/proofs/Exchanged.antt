-- States in hand are exchanged with those at their places, one after another.
use Rattle.std.proofs.Common.{◌≡◌, ℕ, ◌+◌, ◌<◌, ◌≤◌, ◌⊎◌, Bool, true, false, List, length, Some, refl, sym, ◌∙◌, ap, arith, inl, inr, eqb}
use Rattle.std.specs.List.{slice_get}
use Rattle.std.specs.List.Sorted.{IsStrictlyIncreasing}
use Rattle.std.proofs.lemmas.Bool.{eqb-true, eqb-false}
use Rattle.std.proofs.lemmas.List.{length-set}
use Rattle.std.proofs.lemmas.Option.{slice_get_within}
use Rattle.rec_kinds.specs.declared.state.RecState.{RecState}
use Rattle.desk_api.specs.Views.{AreStatesOf}
use Rattle.desk_shared.specs.Exchanges.{AreExchanged, IsExchanged}
use Rattle.desk_shared.proofs.Listed.{among, each_from_states, not_among, place_among, rise, same_lists, same_states, set_elsewhere, set_there, some_same, states_from_each}

-- The first i of them were exchanged.
pub record AreFirst (recs : List ℕ) (i : ℕ) (hand now states after : List RecState) : Type 0 where
  pub many : length now ≡ length hand
  pub long : length after ≡ length states
  pub got : (j r : ℕ) → j < i → slice_get recs j ≡ Some r → slice_get now j ≡ slice_get states r
  pub given : (j r : ℕ) → j < i → slice_get recs j ≡ Some r → slice_get after r ≡ slice_get hand j
  pub rest : (j : ℕ) → i ≤ j → slice_get now j ≡ slice_get hand j
  pub others : (k : ℕ) → ((j r : ℕ) → j < i → slice_get recs j ≡ Some r → r ≡ k → ⊥) → slice_get after k ≡ slice_get states k

pub none_first : (recs : List ℕ) (hand states : List RecState) → AreFirst recs 0 hand hand states states
none_first recs hand states = record {
  many = refl;
  long = refl;
  got = λ j r less is. absurd (omega (arith, less));
  given = λ j r less is. absurd (omega (arith, less));
  rest = λ j le. refl;
  others = λ k out. refl;
}

-- a place below the next one is that of the last, or below it
below_next : (j i : ℕ) → j < i + 1 → (j ≡ i) ⊎ (j < i)
below_next j i less = by (eqb j i) refl where
  by : (b : Bool) → eqb j i ≡ b → (j ≡ i) ⊎ (j < i)
  by true is = inl (eqb-true j i is)
  by false is = let ne : (j ≡ i → ⊥) = eqb-false j i is in inr (omega (arith, less, ne))

module _ (recs : List ℕ) (i rec : ℕ) (hand now next states after last : List RecState) (rises : IsStrictlyIncreasing recs) (at : slice_get recs i ≡ Some rec) (x : AreFirst recs i hand now states after) (e : IsExchanged i rec now next after last) where
  -- the record of an earlier place is another one
  apart : (j r : ℕ) → j < i → slice_get recs j ≡ Some r → r ≡ rec → ⊥
  apart j r less is same = let below : r < rec = rise recs j i r rec rises less is at in absurd (omega (arith, below, same))

  theirs_there : slice_get states rec ≡ Some e.theirs
  theirs_there = sym (x.others rec apart) ∙ e.theirs_is

  mine_there : slice_get hand i ≡ Some e.mine
  mine_there = sym (x.rest i (omega arith)) ∙ e.mine_is

  next_here : slice_get next i ≡ Some e.theirs
  next_here = ap (λ (l : List RecState). slice_get l i) e.hand_is ∙ set_there now i e.theirs (slice_get_within now i e.mine e.mine_is)

  next_else : (j : ℕ) → (i ≡ j → ⊥) → slice_get next j ≡ slice_get now j
  next_else j ne = ap (λ (l : List RecState). slice_get l j) e.hand_is ∙ set_elsewhere now i j e.theirs ne

  last_here : slice_get last rec ≡ Some e.mine
  last_here = ap (λ (l : List RecState). slice_get l rec) e.states_are ∙ set_there after rec e.mine (slice_get_within after rec e.theirs e.theirs_is)

  last_else : (k : ℕ) → (rec ≡ k → ⊥) → slice_get last k ≡ slice_get after k
  last_else k ne = ap (λ (l : List RecState). slice_get l k) e.states_are ∙ set_elsewhere after rec k e.mine ne

  same_rec : (j r : ℕ) → j ≡ i → slice_get recs j ≡ Some r → rec ≡ r
  same_rec j r same is = some_same rec r (sym at ∙ ap (slice_get recs) (sym same) ∙ is)

  got_next : (j r : ℕ) → slice_get recs j ≡ Some r → (j ≡ i) ⊎ (j < i) → slice_get next j ≡ slice_get states r
  got_next j r is (inl same) = ap (slice_get next) same ∙ next_here ∙ sym theirs_there ∙ ap (slice_get states) (same_rec j r same is)
  got_next j r is (inr less) = next_else j (λ s. absurd (omega (arith, less, s))) ∙ x.got j r less is

  given_next : (j r : ℕ) → slice_get recs j ≡ Some r → (j ≡ i) ⊎ (j < i) → slice_get last r ≡ slice_get hand j
  given_next j r is (inl same) = ap (slice_get last) (sym (same_rec j r same is)) ∙ last_here ∙ sym mine_there ∙ ap (slice_get hand) (sym same)
  given_next j r is (inr less) = last_else r (λ s. apart j r less is (sym s)) ∙ x.given j r less is

  pub one_more : AreFirst recs (i + 1) hand next states last
  one_more = record {
    many = ap length e.hand_is ∙ length-set now i e.theirs ∙ x.many;
    long = ap length e.states_are ∙ length-set after rec e.mine ∙ x.long;
    got = λ j r less is. got_next j r is (below_next j i less);
    given = λ j r less is. given_next j r is (below_next j i less);
    rest = λ j le. next_else j (λ s. absurd (omega (arith, le, s))) ∙ x.rest j (omega (arith, le));
    others = λ k out. last_else k (λ s. out i rec (omega arith) at s) ∙ x.others k (λ j r less is s. out j r (omega (arith, less)) is s);
  }

pub all_first : (recs : List ℕ) (i : ℕ) (hand now states after : List RecState) → length hand ≡ length recs → length recs ≤ i → AreFirst recs i hand now states after → AreExchanged recs hand now states after
all_first recs i hand now states after many le x = record {
  many = x.many;
  long = x.long;
  given = states_from_each after recs hand many (λ j r is. sym (x.given j r (omega (arith, le, slice_get_within recs j r is)) is));
  got = states_from_each states recs now (x.many ∙ many) (λ j r is. x.got j r (omega (arith, le, slice_get_within recs j r is)) is);
  others = λ k out. x.others k (λ j r less is s. not_among recs k j r out is s);
}

-- ---- done a second time

-- where the states at these records are these, these come back
pub back_in_hand : (recs : List ℕ) (hand more states after : List RecState) → AreExchanged recs hand more states after → (now : List RecState) → AreStatesOf states recs now → more ≡ now
back_in_hand recs hand more states after x now are = same_states states recs more now x.got are

-- the states that were kept of these records come back, whatever was done to them meanwhile, and nothing else was done
pub back_in_place : (recs : List ℕ) (hand kept first mixed : List RecState) → AreExchanged recs hand kept first mixed → (more states after : List RecState) → AreExchanged recs kept more states after
    → length states ≡ length mixed → ((k : ℕ) → among recs k ≡ false → slice_get states k ≡ slice_get mixed k) → after ≡ first
back_in_place recs hand kept first mixed x more states after y long same = same_lists after first each where
  each_by : (k : ℕ) (b : Bool) → among recs k ≡ b → slice_get after k ≡ slice_get first k
  each_by k true is =
      let p = place_among recs k is in
      sym (each_from_states after recs kept y.given p.0 k p.1) ∙ each_from_states first recs kept x.got p.0 k p.1
  each_by k false is = y.others k is ∙ same k is ∙ x.others k is

  each : (k : ℕ) → slice_get after k ≡ slice_get first k
  each k = each_by k (among recs k) refl
