use Rattle.std.proofs.Common.{◌∙◌, ◌++◌, List, ℕ, refl, sym, ap, append-nil}
use Rattle.pvd_type.specs.View.{shape_view}
use Rattle.pvd_type.proofs.Shapes.{unentered}
use Rattle.cli_text.proofs.LineParts.{none_below}
use Rattle.cli_text.proofs.types.+nodes.Goals as goal

pub print_below-returns-in_default : goal.print_below-returns-in_default
print_below-returns-in_default t c = record {
  lines = sym (append-nil c.args.out.now.items)
      ∙ ap (λ (b : List ℕ). c.args.out.now.items ++ b) (sym (none_below c.args.path.now.items (shape_view c.args.shape.now) (unentered c.args.shape.now c.in_default.not-Struct)));
  path = refl;
}
