use Rattle.std.proofs.Common.{◌≡◌, ◌∙◌, ◌||◌, ℕ, List, length, ap, sym, take, get_or, arith}
use Rattle.std.specs.Prelude.{slice_get}
use Rattle.std.proofs.Math.Seq.{take-length}
use Rattle.std.proofs.lemmas.Option.{slice_get-get_or}
use Rattle.std.specs.Ordering.{nat_cmp}
use Rattle.std.specs.FinSet.{FinSet, contains}
use Rattle.mon_shown.specs.Channels.{is_one_of}
use Rattle.mon_shown.proofs.Listing.{or_false, taken_in}
use Rattle.mon_shown.proofs.index.Listed.add_to.Goals as goal

pub loop-slot-init : goal.loop-slot-init
loop-slot-init c = λ s. sym (or_false (contains c.args.found.now s))

pub loop-slot-preserved : goal.loop-slot-preserved
loop-slot-preserved c = λ s.
    let xs = c.args.self.now.slots.items in
    let i = c.loop-slot.slot-index in
    let seen = c.deref-slot-items.result.now in
    let at = sym (ap (λ (l : List ℕ). slice_get l i) c.deref-slot-items.ensures.value) ∙ slice_get-get_or seen i 0 c.loop-slot-test.true in
    ap (λ (f : FinSet nat_cmp). contains f s) (c.in_ok-insert.ensures {u = tt}).ok ∙ taken_in c.args.found.now c.loop-slot.found xs i (get_or seen i 0) at c.loop-slot.invariant s

pub returns : goal.returns
returns c = λ s.
    let xs = c.args.self.now.slots.items in
    let end : c.loop-slot.slot-index ≡ length c.deref-slot-items.result.now = omega (arith, c.loop-slot-test.false, c.loop-slot.auto.slot-index-end) in
    let whole : take c.loop-slot.slot-index xs ≡ xs = ap (λ (n : ℕ). take n xs) (end ∙ ap length c.deref-slot-items.ensures.value) ∙ take-length xs in
    c.loop-slot.invariant s ∙ ap (λ (l : List ℕ). contains c.args.found.now s || is_one_of l s) whole
