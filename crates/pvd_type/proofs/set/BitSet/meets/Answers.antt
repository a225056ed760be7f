use Rattle.std.proofs.Common.{◌≡◌, ℕ, ◌*◌, ◌^◌, ◌<◌, min, false, ◌&&◌, refl, rules, arith, inl, inr}
use Rattle.std.proofs.lemmas.Bool.{cases_lt}
use Rattle.std.specs.Prelude.{bit_and}
use Rattle.std.specs.FinSet as set
use Rattle.pvd_type.proofs.Bytes.{apart, apart_on, apart_all, past_either}
use Rattle.pvd_type.proofs.set.BitSet.meets.Goals as goal

pub returns-then-byte-ne0 : goal.returns-then-byte-ne0
returns-then-byte-ne0 c =
    let x = c.byte.result in
    let y = c.byte-in-loop-place.result in
    let small : bit_and x y < 2 ^ 8 = search rules in
    (λ h. absurd cc, λ none. absurd (c.if-byte-ne0.true (apart c.args.self.now c.args.other.now c.loop-place.place x y c.byte.ensures c.byte-in-loop-place.ensures small none)))

pub loop-place-preserved : goal.loop-place-preserved
loop-place-preserved c =
    apart_on c.args.self.now c.args.other.now c.loop-place.place c.byte.result c.byte-in-loop-place.result c.byte.ensures c.byte-in-loop-place.ensures c.if-byte-ne0.false c.loop-place.invariant

pub returns : goal.returns
returns c =
    let end : c.min-place-end.result ≡ min c.bound.result c.bound-2.result = c.min-place-end.ensures in
    let past = past_either c.args.self.now c.args.other.now c.bound.result c.bound-2.result c.min-place-end.result c.bound.ensures.none c.bound-2.ensures.none end in
    let all : (k : ℕ) → (set.contains c.args.self.now k && set.contains c.args.other.now k) ≡ false =
    λ k. elim (cases_lt k (8 * c.loop-place.place)) [ inl lt ↦ c.loop-place.invariant k lt | inr le ↦ past k (omega (arith, le, c.loop-place-test.false)) ] in
    (λ h. apart_all c.args.self.now c.args.other.now all, λ e. refl)
