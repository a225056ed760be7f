-- Items that are written one after another.
use Rattle.std.proofs.Common.{◌≡◌, ◌∙◌, List, [], ◌∷◌, ◌++◌, ℕ, ap, sym, append_assoc}
use Rattle.std.proofs.lemmas.List.{append-nil}
use Rattle.std.proofs.lemmas.Grind.{flat_map-append}
use Rattle.pva_wire.specs.declared.order.Order.{Order}
use Rattle.pva_search.specs.Fields.{Field, canonical, canonical_field}

module _ (order : Order) (old middle new : List ℕ) (xs : List Field) where
  -- some items, and then others
  pub some_more : (ys : List Field) → middle ≡ old ++ canonical order xs → new ≡ middle ++ canonical order ys → new ≡ old ++ canonical order (xs ++ ys)
  some_more ys first then =
      then ∙ ap (λ (m : List ℕ). m ++ canonical order ys) first ∙ append_assoc old (canonical order xs) (canonical order ys)
      ∙ ap (λ (t : List ℕ). old ++ t) (sym (flat_map-append (canonical_field order) xs ys))

  -- some items, and then one
  pub one_more : (y : Field) → middle ≡ old ++ canonical order xs → new ≡ middle ++ canonical_field order y → new ≡ old ++ canonical order (xs ++ y ∷ [])
  one_more y first then =
      some_more (y ∷ []) first (then ∙ ap (λ (t : List ℕ). middle ++ t) (sym (append-nil (canonical_field order y))))

-- one item
pub one_first : (order : Order) (old new : List ℕ) (y : Field) → new ≡ old ++ canonical_field order y → new ≡ old ++ canonical order (y ∷ [])
one_first order old new y then = then ∙ ap (λ (t : List ℕ). old ++ t) (sym (append-nil (canonical_field order y)))
