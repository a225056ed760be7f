use Rattle.std.specs.Prelude.{◌≡◌, ℕ, List, ◌++◌, ◌∷◌, [], length, take}
use Rattle.std.proofs.Common.{sym, ◌∙◌, ap, subst, arith}
use Rattle.std.proofs.Math.Seq.{take-length}
use Rattle.journal_core.specs.Legality.{AreValid}
use Rattle.rec_kinds.specs.declared.state.RecState.{RecState}
use Rattle.desk_api.proofs.Stating.{next_taken}
use Rattle.desk_api.proofs.site.Site.opening_states.Goals as goal

pub loop-rec-preserved : goal.loop-rec-preserved
loop-rec-preserved c =
    c.in_ok-push.ensures.items ∙ (λ i. c.loop-rec.invariant i ++ c.in_ok-clone_in.ensures i ∷ [])
    ∙ sym (next_taken c.args.self.now.opening c.loop-rec.rec c.opening.result.now c.opening.ensures)

-- all states were taken
all_taken : (opening states : List RecState) (count rec : ℕ) → states ≡ take rec opening → count ≡ length opening → count ≡ rec → states ≡ opening
all_taken opening states count rec are all end = are ∙ ap (λ (n : ℕ). take n opening) (sym end ∙ all) ∙ take-length opening

pub returns-clause-states : goal.returns-clause-states
returns-clause-states c =
    all_taken c.args.self.now.opening c.loop-rec.states.items c.records-count.result c.loop-rec.rec c.loop-rec.invariant c.records-count.ensures.opening (omega (arith, c.loop-rec-test.false, c.loop-rec.auto.rec-end))

pub returns-clause-valid : goal.returns-clause-valid
returns-clause-valid c =
    let all = all_taken c.args.self.now.opening c.loop-rec.states.items c.records-count.result c.loop-rec.rec c.loop-rec.invariant c.records-count.ensures.opening (omega (arith, c.loop-rec-test.false, c.loop-rec.auto.rec-end)) in
    subst (AreValid c.args.self.now.configs) (sym all) c.records-count.ensures.valid
