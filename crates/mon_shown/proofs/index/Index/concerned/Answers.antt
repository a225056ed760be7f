use Rattle.std.proofs.Common.{◌≡◌, ◌∙◌, ◌||◌, ℕ, Bool, Some, length, ap, sym, take, arith}
use Rattle.std.proofs.Math.Seq.{take-length}
use Rattle.std.proofs.lemmas.Option.{slice_get-get_or}
use Rattle.std.specs.List.{list_any}
use Rattle.std.specs.Ordering.{nat_cmp}
use Rattle.std.specs.FinSet.{FinSet, contains}
use Rattle.rec_kinds.specs.declared.state.RecState.{RecState}
use Rattle.mon_queue.proofs.Merging.{in_none}
use Rattle.mon_shown.specs.Noting.{names}
use Rattle.mon_shown.proofs.Listing.{any_next}
use Rattle.mon_shown.proofs.index.Index.concerned.Goals as goal

pub loop-write-init : goal.loop-write-init
loop-write-init c = λ s. ap (λ (f : FinSet nat_cmp). contains f s) c.new-found.ensures ∙ in_none s

pub loop-write-preserved : goal.loop-write-preserved
loop-write-preserved c = λ s.
    let writes = c.args.writes.now in
    let i = c.loop-write.write-index in
    let w = c.write-item.result in
    let at = slice_get-get_or writes i w c.loop-write-test.true ∙ ap Some (sym c.write-item.is) in
    c.in_ok-add_listed.ensures {u = tt} s
    ∙ ap (λ (b : Bool). b || names c.args.self.now w.0 s) (c.loop-write.invariant s)
    ∙ sym (any_next (λ (v : ℕ × RecState). names c.args.self.now v.0 s) writes i w at)

pub returns : goal.returns
returns c = λ s.
    let writes = c.args.writes.now in
    let end : c.loop-write.write-index ≡ length writes = omega (arith, c.loop-write-test.false, c.loop-write.auto.write-index-end) in
    let whole : take c.loop-write.write-index writes ≡ writes = ap (λ (n : ℕ). take n writes) end ∙ take-length writes in
    c.loop-write.invariant s ∙ ap (list_any (λ (v : ℕ × RecState). names c.args.self.now v.0 s)) whole
