use Rattle.std.specs.Prelude.{◌≡◌, ℕ, zero, suc, ◌+◌, List, ◌++◌, ◌∷◌, [], map, replicate, refl}
use Rattle.std.proofs.Common.{◌∙◌, ap, arith, Vec, Global}
use Rattle.std.proofs.lemmas.List.{map-append}
use Rattle.desk_api.proofs.groups.empty_lists.Goals as goal

one_more : {A : Type 0} (n : ℕ) (x : A) → replicate n x ++ x ∷ [] ≡ replicate (suc n) x
one_more zero x = refl
one_more {A} (suc n) x = ap (λ (l : List A). x ∷ l) (one_more n x)

pub loop-rec-preserved : goal.loop-rec-preserved
loop-rec-preserved c =
    let n = c.loop-rec._rec in
    let next : suc n ≡ n + 1 = omega arith in
    ap (map (λ (v : Vec ℕ Global). v.items)) (c.in_ok-push.ensures {u = tt}).items
    ∙ map-append (λ (v : Vec ℕ Global). v.items) c.loop-rec.lists.items (c.new.result ∷ [])
    ∙ (λ i. c.loop-rec.invariant i ++ c.new.ensures.items i ∷ [])
    ∙ one_more n []
    ∙ ap (λ (m : ℕ). replicate m []) next
