use Rattle.std.proofs.Common.{◌≡◌, ◌∙◌, sym, ap, subst}
use Rattle.std.proofs.lemmas.Result.{on_ok_weaker}
use Rattle.pvd_value.specs.Data.{Many, text, texts}
use Rattle.pvd_value.specs.View.{items_view}
use Rattle.pvd_codec.specs.Written.{CanSingle, CanEach, CanItems}
use Rattle.pvd_codec.proofs.scalars_writing.write_items.Goals as goal

pub returns-in-Text-clause-can : goal.returns-in-Text-clause-can
returns-in-Text-clause-can c =
    let is : items_view c.args.items.now ≡ texts c.deref-in-Text.result.now = ap items_view c.in-Text.is ∙ ap texts (sym c.deref-in-Text.ensures.value) in
    on_ok_weaker {Q = CanItems (items_view c.args.items.now)} c.write_all-in-Text.result (λ (h : CanEach (λ x. CanSingle (text x)) c.deref-in-Text.result.now). subst (λ (m : Many). CanItems m) (sym is) h) c.write_all-in-Text.ensures.can
