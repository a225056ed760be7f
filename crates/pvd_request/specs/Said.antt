-- Members of a request by the fields that they name.
use Rattle.std.specs.Prelude.{ℕ, List, Option, option_map}
use Rattle.std.specs.Ordering.{nat_cmp}
use Rattle.std.specs.Cmp.Lexicographic.{slice_cmp}
use Rattle.std.specs.BTreeMap.{BTreeMap, get_by}
use Rattle.pvd_type.specs.Tree.{Tree}
use Rattle.pvd_type.specs.View.{shape_view}
use Rattle.pvd_type.specs.declared.shape.Shape.{Shape}
use denote.Ref.{Bor}

-- what is kept of the field of this name
abbrev pub said_in : BTreeMap (Bor (List ℕ)) (Bor Shape) → List ℕ → Option Tree
said_in said name = option_map (λ s. shape_view s.now) (get_by (λ k. slice_cmp nat_cmp name k.now) said)
