-- The maps and lists of references that stand for the objects of a JSON text.
use Rattle.std.specs.Prelude.{ℕ, List, map}
use Rattle.std.specs.Borrow.{Bor}
use Rattle.std.specs.declared.vec.Vec.{Vec}
use Rattle.json.specs.Json.{Json, Members}
use Rattle.json.specs.Value.{value_view, members_view}
use Rattle.json.specs.declared.value.Value.{Value}
use Rattle.group_defs.specs.Order.{Place}

module _ {A : Type 0} where
  abbrev pub shown_names : List (Bor (List ℕ) × Bor (Value A)) → List (List ℕ × Json)
  shown_names es = map (λ e. (e.0.now, value_view e.1.now)) es

  abbrev pub shown_places : List ((Bor (List ℕ) × ℕ) × Bor (Value A)) → List (Place × Json)
  shown_places es = map (λ e. ((e.0.0.now, e.0.1), value_view e.1.now)) es

  abbrev pub shown_groups : {Z : Type 0} → List (Bor (List ℕ) × Bor (Vec (Bor (List ℕ) × Value A) Z))
      → List (List ℕ × Members)
  shown_groups es = map (λ e. (e.0.now, members_view e.1.now.items)) es
