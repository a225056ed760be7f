use Rattle.std.proofs.Common.{◌≡◌, ◌∙◌, sym, subst, ℕ, true, false, is_some}
use Rattle.prog_drill.specs.Drilling.{count_by, is_update}
use Rattle.prog_drill.specs.Drives.{Counted}
use Rattle.prog_drill.proofs.Uncounted.{by_empty_pop, by_pop}
use Rattle.prog_drill.proofs.counting.CountingDesk.pop.Goals as goal

pub invariant_of-self : goal.invariant_of-self
invariant_of-self c =
    let some : is_some c.pop-update.result ≡ true = sym c.is_some.ensures ∙ c.if-is_some.true in
    record {
      counted = subst (λ (n : ℕ). Counted n (count_by is_update c.pop-update.new.self.log.log)) (sym c.saturating_add-self.ensures)
          (by_pop _ _ c.args.self.now.updates _ _ c.pop-update.ensures.calls some c.args.self.now.counted);
    }

pub invariant_of-self-else-is_some : goal.invariant_of-self-else-is_some
invariant_of-self-else-is_some c =
    let none : is_some c.pop-update.result ≡ false = sym c.is_some.ensures ∙ c.if-is_some.false in
    record { counted = by_empty_pop _ _ c.args.self.now.updates _ _ c.pop-update.ensures.calls none c.args.self.now.counted }
