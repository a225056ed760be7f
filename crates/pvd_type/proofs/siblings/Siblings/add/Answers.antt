use Rattle.std.proofs.Common.{◌≡◌, ◌∙◌, ap, sym, subst, cond, true, List, ℕ}
use Rattle.std.specs.Option.{IfSome}
use Rattle.std.specs.Ordering.{nat_cmp}
use Rattle.std.specs.Cmp.Lexicographic.{slice_cmp}
use Rattle.std.specs.BTreeSet.{contains_by}
use Rattle.std.proofs.lemmas.Map.Text.{is_eq-slice_cmp}
use Rattle.pvd_type.specs.View.{names_of}
use Rattle.pvd_type.specs.Check.{contains}
use Rattle.pvd_type.proofs.Kept.{contains_push}
use Rattle.pvd_type.proofs.siblings.Siblings.add.Goals as goal

pub returns-in-Ok-clause-known : goal.returns-in-Ok-clause-known
returns-in-Ok-clause-known c = λ q.
    let before = names_of c.args.before.now in
    let name : List ℕ = c.args.name.now in
    let kept = subst (λ o. IfSome o (λ set. (n : List ℕ) → contains_by (λ k. slice_cmp nat_cmp n k.now) set ≡ contains n before)) (sym c.in-Some.ensures.value) c.requires in
    c.in-Ok.ensures.updates.0 (record { ref_ptr = c.args.name.ref_ptr; now = q })
    ∙ ap (λ b. cond b true (contains_by (λ k. slice_cmp nat_cmp q k.now) c.in-Some.names)) (is_eq-slice_cmp name q)
    ∙ ap (cond _ true) (kept q)
    ∙ sym (contains_push q name before)
