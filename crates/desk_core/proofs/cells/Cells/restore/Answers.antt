use Rattle.std.proofs.Common.{◌≡◌, ◌++◌, ◌∷◌, [], ◌<◌, ℕ, length, set, sym, ◌∙◌, ap, subst}
use Rattle.std.specs.List.{AllByRecursion}
use Rattle.desk_core.specs.Effects.{restored}
use Rattle.rec_kinds.specs.declared.state.RecState.{RecState}
use Rattle.desk_core.proofs.Doing.{one_back, one_less}
use Rattle.desk_core.proofs.cells.Cells.restore.Goals as goal

pub loop-rec-preserved : goal.loop-rec-preserved
loop-rec-preserved g c =
    let states = c.loop-rec.self.states.items in
    let left = c.pop.new.self.items in
    let items : c.loop-rec.self.before.items ≡ left ++ (c.in-Some.rec, c.in-Some.held) ∷ [] = c.in-Some.ensures.items in record {
      same = ap (λ (z : RecState). restored (set states c.in-Some.rec z) left) c.replace-written.ensures.after ∙ one_back states left (c.in-Some.rec, c.in-Some.held) ∙ ap (restored states) (sym items) ∙ c.loop-rec.invariant.same;
      within = one_less states left c.in-Some.rec c.in-Some.held c.replace-written.new.dest (subst (AllByRecursion (λ (h : ℕ × RecState). h.0 < length states)) items c.loop-rec.invariant.within);
      ports = c.loop-rec.invariant.ports;
    }
