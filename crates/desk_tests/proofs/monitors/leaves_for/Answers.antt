use Rattle.std.proofs.Common.{◌≡◌, Bool, true, false, cond, None, Some, Result, Ok, Err, IfOk, Bor, refl, sym, ap, ◌∙◌}
use Rattle.std.proofs.lemmas.Bool.{false≢true}
use Rattle.std.proofs.lemmas.Option.{none-some}
use Rattle.std.specs.Prelude.{◌&&◌, IsTrue, option_map}
use Rattle.pvd_type.specs.Tree.{Tree}
use Rattle.desk_tests.proofs.monitors.leaves_for.Goals as goal

valued : (b : Bool) (t u : Tree) → Some t ≡ cond b (Some u) None → b ≡ true
valued true t u is = refl
valued false t u is = absurd (none-some t (sym is))

both : (a b : Bool) → IsTrue a → b ≡ true → (a && b) ≡ true
both true b here is = is
both false b here is = absurd (false≢true here)

ok_by : {A E P : Type 0} (r : Result A E) → P → IfOk r (λ a. P)
ok_by (Ok a) p = p
ok_by (Err e) p = tt

pub returns-clause-may : goal.returns-clause-may
returns-clause-may g c =
    ok_by c.leaves_of.result (both _ _ c.requires (valued _ c.in-Some.ty.now _ (sym (ap (option_map (λ (t : Bor Tree). t.now)) c.in-Some.is) ∙ c.type_of.ensures)))
