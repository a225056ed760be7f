-- Types over others.
use Rattle.std.proofs.Common.{◌≡◌, ℕ, Bool, true, false, cond, List, [], ◌∷◌, ◌++◌, Option, Some, nat_cmp, refl, sym, ap, ◌∙◌}
use Rattle.std.specs.Cmp.{nat_cmp_total}
use Rattle.std.specs.Ordering.{eq_by_cmp}
use Rattle.std.specs.FinMap.{entries, insert, get, find, empty, get-from_entries, get-entries, get-insert, get-empty, same_map, nat_cmp-IsAntisymmetric}
use Rattle.pvd_type.specs.Tree.{Tree}
use Rattle.pvd_desc.specs.Shared.{first_of}
use Rattle.pvd_desc.specs.Types.{Types, laid}

found_in : (c : Bool) (t : Tree) (x y : Option Tree) → cond c (Some t) (first_of x y) ≡ first_of (cond c (Some t) x) y
found_in true t x y = refl
found_in false t x y = refl

find_in : (es fs : List (ℕ × Tree)) (q : ℕ) → find nat_cmp q (es ++ fs) ≡ first_of (find nat_cmp q es) (find nat_cmp q fs)
find_in [] fs q = refl
find_in (e ∷ es) fs q = ap (cond (eq_by_cmp nat_cmp q e.0) (Some e.1)) (find_in es fs q) ∙ found_in (eq_by_cmp nat_cmp q e.0) e.1 (find nat_cmp q es) (find nat_cmp q fs)

pub get_laid : (base changed : Types) (q : ℕ) → get (laid base changed) q ≡ first_of (get changed q) (get base q)
unfolding laid
get_laid base changed q =
    get-from_entries nat_cmp_total (entries changed ++ entries base) q ∙ find_in (entries changed) (entries base) q
    ∙ rw (get-entries changed q, get-entries base q) refl

pub laid_insert : (base changed : Types) (id : ℕ) (t : Tree) → laid base (insert changed id t) ≡ insert (laid base changed) id t
laid_insert base changed id t = same_map nat_cmp_total nat_cmp-IsAntisymmetric _ _ (λ q.
    get_laid base (insert changed id t) q ∙ ap (λ x. first_of x (get base q)) (get-insert nat_cmp_total changed id t q)
    ∙ sym (found_in (eq_by_cmp nat_cmp q id) t (get changed q) (get base q)) ∙ ap (cond (eq_by_cmp nat_cmp q id) (Some t)) (sym (get_laid base changed q))
    ∙ sym (get-insert nat_cmp_total (laid base changed) id t q))

pub laid_empty : (base : Types) → laid base empty ≡ base
laid_empty base = same_map nat_cmp_total nat_cmp-IsAntisymmetric _ _ (λ q. get_laid base empty q ∙ ap (λ x. first_of x (get base q)) (get-empty nat_cmp q))
